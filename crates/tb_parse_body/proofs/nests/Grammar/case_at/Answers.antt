use Rattle.std.proofs.Common.{arith, ap, refl, sym, ◌+◌, ◌-◌, ◌∙◌, ◌≡◌, ℕ, true, false, max}
use Rattle.std.specs.Prelude.{Some, None, Option}
use Rattle.tb_tree.specs.Longest.{Never}
use Rattle.tb_tree.specs.declared.exprs.Clause.TheVariants as clause
use Rattle.tb_tree.proofs.Ends.{found_from, found_left, found_as, lacks_from, both, ap_both}
use Rattle.tb_parse_body.specs.Rules.{around_of, ExprUpto, HeadUpto, BlockItemsUpto, InExpr, InItems}
use Rattle.tb_parse_body.proofs.FirstSymbols.{lacking, reading}
use Rattle.tb_parse_body.proofs.Clauses.{case_lacks_word, case_lacks_value, case_lacks_colon, case_found, default_lacks_word, default_lacks_colon, default_found, case_tree, default_tree}
use Rattle.tb_parse_body.proofs.nests.Grammar.case_at.Goals as goal

pub returns-then-not-is_word : goal.returns-then-not-is_word
returns-then-not-is_word g c = case_lacks_word (around_of c.args.around) c.args.limit _ c.if-not-is_word.ensures

pub returns-in_default : goal.returns-in_default
returns-in_default g c =
    case_lacks_value (around_of c.args.around) c.args.limit _ _ c.if-not-is_word.ensures.2
    (lacking (ExprUpto false c.args.limit) (InExpr false) c.args.self.now.reader (c.args.at + 1) _ c.in_default.is c.in_ok-value.ensures)

pub returns-then-not-is_mark : goal.returns-then-not-is_mark
returns-then-not-is_mark g c =
    let f = reading (ExprUpto false c.args.limit) (InExpr false) c.args.self.now.reader (c.args.at + 1) _ c.in-Some.value c.in-Some.is c.in_ok-value.ensures in
    case_lacks_colon (around_of c.args.around) c.args.limit _ _ c.if-not-is_word.ensures.2 f.1 c.if-not-is_mark.ensures

pub returns : goal.returns
returns g c =
    let f = reading (ExprUpto false c.args.limit) (InExpr false) c.args.self.now.reader (c.args.at + 1) _ c.in-Some.value c.in-Some.is c.in_ok-value.ensures in
    let k = c.in_ok-items.ensures in (
      k.0,
      found_as (both (case_tree c.start_at.ensures refl refl) c.larger.ensures) (case_found (around_of c.args.around) c.args.limit _ _ _ c.if-not-is_word.ensures.2 f.1 c.if-not-is_mark.ensures.2 k.1),
    )

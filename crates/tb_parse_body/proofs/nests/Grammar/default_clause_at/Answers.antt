use Rattle.std.proofs.Common.{arith, ap, refl, sym, ◌+◌, ◌-◌, ◌∙◌, ◌≡◌, ℕ, true, false, max}
use Rattle.std.specs.Prelude.{Some, None, Option}
use Rattle.tb_tree.specs.Longest.{Never}
use Rattle.tb_tree.specs.declared.exprs.Clause.TheVariants as clause
use Rattle.tb_tree.proofs.Ends.{found_from, found_left, found_as, lacks_from, both, ap_both}
use Rattle.tb_parse_type.specs.Reading.{rest}
use Rattle.tb_parse_body.specs.Rules.{around_of, ExprUpto, HeadUpto, BlockItemsUpto, InExpr, InItems}
use Rattle.tb_parse_body.proofs.FirstSymbols.{lacking, reading}
use Rattle.tb_parse_body.proofs.Clauses.{case_lacks_word, case_lacks_value, case_lacks_colon, case_found, default_lacks_word, default_lacks_colon, default_found, case_tree, default_tree}
use Rattle.tb_parse_body.proofs.nests.Grammar.default_clause_at.Goals as goal

pub returns-then-not-is_word : goal.returns-then-not-is_word
returns-then-not-is_word g c = default_lacks_word (around_of c.args.around) c.args.limit _ c.if-not-is_word.ensures

pub returns-then-not-is_mark : goal.returns-then-not-is_mark
returns-then-not-is_mark g c = default_lacks_colon (around_of c.args.around) c.args.limit _ _ c.if-not-is_word.ensures.2 c.if-not-is_mark.ensures

pub returns : goal.returns
returns g c =
    let k = c.in_ok-items.ensures in
    let two : c.args.at + 1 + 1 ≡ c.args.at + 2 = omega arith in
    (k.0, found_as (both (default_tree c.start_at.ensures refl) refl) (default_found (around_of c.args.around) c.args.limit _ _ _ c.if-not-is_word.ensures.2 c.if-not-is_mark.ensures.2 (found_from (ap (λ (i : ℕ). rest c.args.self.now.reader i) two) k.1)))

use Rattle.std.proofs.Common.{arith, ap, refl, sym, ◌+◌, ◌-◌, ◌∙◌, ◌≡◌, ℕ, true, false, max}
use Rattle.std.specs.Prelude.{Some, None, Option}
use Rattle.tb_tree.specs.Longest.{Never}
use Rattle.tb_tree.specs.declared.exprs.Clause.TheVariants as clause
use Rattle.tb_tree.proofs.Ends.{found_from, found_left, found_as, lacks_from, both, ap_both}
use Rattle.tb_parse_body.specs.Rules.{around_of, ExprUpto, HeadUpto, BlockItemsUpto, InExpr, InItems}
use Rattle.tb_parse_body.proofs.FirstSymbols.{lacking, reading}
use Rattle.tb_parse_body.proofs.Clauses.{case_lacks_word, case_lacks_value, case_lacks_colon, case_found, default_lacks_word, default_lacks_colon, default_found, case_tree, default_tree}
use Rattle.tb_parse_body.proofs.nests.Grammar.case_value_at.Goals as goal

pub returns-in_default : goal.returns-in_default
returns-in_default g c = lacking (ExprUpto false c.args.limit) (InExpr false) c.args.self.now.reader c.args.at _ c.in_default.is c.in_ok-value.ensures

pub returns : goal.returns
returns g c =
    let f = reading (ExprUpto false c.args.limit) (InExpr false) c.args.self.now.reader c.args.at _ c.in-Some.value c.in-Some.is c.in_ok-value.ensures in
    (f.0, found_as (both c.in_ok-new.ensures refl) f.1)

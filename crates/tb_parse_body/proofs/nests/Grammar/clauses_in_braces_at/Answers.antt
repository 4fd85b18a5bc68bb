use Rattle.std.proofs.Common.{arith, ap, refl, sym, ◌+◌, ◌-◌, ◌∙◌, ◌≡◌, ℕ, true, false, max}
use Rattle.std.specs.Prelude.{Some, None, Option}
use Rattle.tb_tree.specs.Longest.{Never}
use Rattle.tb_tree.specs.declared.exprs.Stmt.TheVariants as stmt
use Rattle.tb_tree.specs.Exprs.{a_switch}
use Rattle.tb_tree.proofs.Ends.{found_from, found_left, found_as, lacks_from, both, ap_both}
use Rattle.tb_parse_body.specs.Rules.{around_of, ExprUpto, HeadUpto, CaseUpto, DefaultClauseUpto, ClauseUpto, BracedClausesUpto, InExpr, InItems}
use Rattle.tb_parse_body.proofs.FirstSymbols.{lacking, reading}
use Rattle.tb_parse_body.proofs.Plain.{not_true, not_false}
use Rattle.tb_parse_body.proofs.Loops.{read_as}
use Rattle.tb_parse_body.proofs.Clauses.{clause_of_case, clause_of_default, clause_lacks, clause_lacks_second, braced_found, braced_lacks_open, braced_lacks_close, switch_shallow, switch_lacks_head, switch_lacks_clauses, switch_reads}
use Rattle.tb_parse_body.proofs.nests.Grammar.clauses_in_braces_at.Goals as goal

pub returns-then-not-is_mark : goal.returns-then-not-is_mark
returns-then-not-is_mark g c = braced_lacks_open (around_of c.args.around) c.args.limit _ c.if-not-is_mark.ensures

pub returns-then-not-is_mark-2 : goal.returns-then-not-is_mark-2
returns-then-not-is_mark-2 g c = lacks_from c.if-not-is_mark.ensures.2 (braced_lacks_close (around_of c.args.around) c.args.limit _ c.in_ok-clauses.ensures.1 c.if-not-is_mark-2.ensures)

pub returns : goal.returns
returns g c = (
  omega (arith, c.if-not-is_mark-2.ensures.0),
  found_from c.if-not-is_mark.ensures.2 (braced_found (around_of c.args.around) c.args.limit _ _ (found_left c.if-not-is_mark-2.ensures.2 c.in_ok-clauses.ensures.1)),
)

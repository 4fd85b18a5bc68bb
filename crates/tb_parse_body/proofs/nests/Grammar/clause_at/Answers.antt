use Rattle.std.proofs.Common.{arith, ap, refl, sym, ◌+◌, ◌-◌, ◌∙◌, ◌≡◌, ℕ, true, false, max}
use Rattle.std.specs.Prelude.{Some, None, Option}
use Rattle.tb_tree.specs.Longest.{Never}
use Rattle.tb_tree.specs.declared.exprs.Stmt.TheVariants as stmt
use Rattle.tb_tree.specs.Exprs.{a_switch}
use Rattle.tb_tree.proofs.Ends.{found_from, found_left, found_as, lacks_from, both, ap_both}
use Rattle.tb_parse_body.specs.Rules.{around_of, ExprUpto, HeadUpto, CaseUpto, DefaultClauseUpto, ClauseUpto, BracedClausesUpto, InExpr, InItems}
use Rattle.tb_parse_body.proofs.FirstSymbols.{lacking, reading}
use Rattle.tb_parse_body.proofs.Plain.{not_true, not_false}
use Rattle.tb_parse_body.proofs.Loops.{read_as}
use Rattle.tb_parse_body.proofs.Clauses.{clause_of_case, clause_of_default, clause_lacks, clause_lacks_second, braced_found, braced_lacks_open, braced_lacks_close, switch_shallow, switch_lacks_head, switch_lacks_clauses, switch_reads}
use Rattle.tb_parse_body.proofs.nests.Grammar.clause_at.Goals as goal

pub returns-in-Some : goal.returns-in-Some
returns-in-Some g c =
    let f = reading (CaseUpto (around_of c.args.around) c.args.limit) InItems c.args.self.now.reader c.args.at _ c.in-Some.case c.in-Some.is c.in_ok-case.ensures in
    (f.0, clause_of_case c.args.before (around_of c.args.around) c.args.limit f.1)

pub returns-then-before : goal.returns-then-before
returns-then-before g c =
    let l = lacking (CaseUpto (around_of c.args.around) c.args.limit) InItems c.args.self.now.reader c.args.at _ c.in_default.is c.in_ok-case.ensures in
    clause_lacks_second c.args.before (around_of c.args.around) c.args.limit c.if-before.true l

pub returns-in_default-2 : goal.returns-in_default-2
returns-in_default-2 g c =
    let l = lacking (CaseUpto (around_of c.args.around) c.args.limit) InItems c.args.self.now.reader c.args.at _ c.in_default.is c.in_ok-case.ensures in
    let k = lacking (DefaultClauseUpto (around_of c.args.around) c.args.limit) InItems c.args.self.now.reader c.args.at _ c.in_default-2.is c.in_ok-default.ensures in
    clause_lacks c.args.before (around_of c.args.around) c.args.limit l k

pub returns : goal.returns
returns g c =
    let l = lacking (CaseUpto (around_of c.args.around) c.args.limit) InItems c.args.self.now.reader c.args.at _ c.in_default.is c.in_ok-case.ensures in
    let f = reading (DefaultClauseUpto (around_of c.args.around) c.args.limit) InItems c.args.self.now.reader c.args.at _ c.in-Some-2.default c.in-Some-2.is c.in_ok-default.ensures in
    (f.0, clause_of_default c.args.before (around_of c.args.around) c.args.limit c.if-before.false l f.1)

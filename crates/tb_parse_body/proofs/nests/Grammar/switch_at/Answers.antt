use Rattle.std.proofs.Common.{arith, ap, refl, sym, ◌+◌, ◌-◌, ◌∙◌, ◌≡◌, ℕ, true, false, max}
use Rattle.std.specs.Prelude.{Some, None, Option}
use Rattle.tb_tree.specs.Longest.{Never}
use Rattle.tb_tree.specs.declared.exprs.Stmt.TheVariants as stmt
use Rattle.tb_tree.specs.Exprs.{a_switch}
use Rattle.tb_tree.proofs.Ends.{found_from, found_left, found_as, lacks_from, both, ap_both}
use Rattle.tb_parse_body.specs.Rules.{around_of, ExprUpto, HeadUpto, CaseUpto, DefaultClauseUpto, ClauseUpto, BracedClausesUpto, InExpr, InItems}
use Rattle.tb_parse_body.proofs.FirstSymbols.{lacking, reading}
use Rattle.tb_parse_body.proofs.Plain.{not_true, not_false}
use Rattle.tb_parse_body.proofs.Loops.{read_as}
use Rattle.tb_parse_body.proofs.Clauses.{clause_of_case, clause_of_default, clause_lacks, clause_lacks_second, braced_found, braced_lacks_open, braced_lacks_close, switch_shallow, switch_lacks_head, switch_lacks_clauses, switch_reads}
use Rattle.tb_parse_body.proofs.nests.Grammar.switch_at.Goals as goal

pub returns-then-limit-eq0 : goal.returns-then-limit-eq0
returns-then-limit-eq0 g c = switch_shallow (around_of c.args.around) c.args.limit _ _ c.requires.stands.2 c.if-limit-eq0.true

pub returns-in_default : goal.returns-in_default
returns-in_default g c =
    switch_lacks_head (around_of c.args.around) c.args.limit _ _ c.requires.stands.2
    (lacking (HeadUpto (c.args.limit - 1)) Never c.args.self.now.reader (c.args.at + 1) _ c.in_default.is c.in_ok-subject.ensures)

pub returns-in_default-2 : goal.returns-in_default-2
returns-in_default-2 g c =
    let f = reading (HeadUpto (c.args.limit - 1)) Never c.args.self.now.reader (c.args.at + 1) _ c.in-Some.subject c.in-Some.is c.in_ok-subject.ensures in
    switch_lacks_clauses (around_of c.args.around) c.args.limit _ _ (around_of c.in_a_switch.result) c.in_a_switch.ensures c.requires.stands.2 f.1
    (lacking (BracedClausesUpto (around_of c.in_a_switch.result) (c.args.limit - 1)) Never c.args.self.now.reader c.in-Some.subject.next _ c.in_default-2.is c.in_ok-clauses.ensures)

pub returns : goal.returns
returns g c =
    let h = c.in-Some.subject in
    let s = c.in-Some-2.clauses in
    let f = reading (HeadUpto (c.args.limit - 1)) Never c.args.self.now.reader (c.args.at + 1) _ h c.in-Some.is c.in_ok-subject.ensures in
    let k = reading (BracedClausesUpto (around_of c.in_a_switch.result) (c.args.limit - 1)) Never c.args.self.now.reader h.next _ s c.in-Some-2.is c.in_ok-clauses.ensures in
    read_as (around_of c.args.around) c.args.limit c.args.self.now.reader c.args.at s.next true (ap (λ (o : ℕ). stmt.Switch o h.tree s.tree) c.start_at.ensures) (ap (λ (n : ℕ). n + 1) c.larger.ensures)
    (switch_reads (around_of c.args.around) c.args.limit _ _ (around_of c.in_a_switch.result) c.in_a_switch.ensures c.args.self.now.reader c.args.at (h.tree, h.depth) (s.tree, s.depth) h.next s.next
    c.requires.stands.2 (omega arith) k.0 f.1 k.1)

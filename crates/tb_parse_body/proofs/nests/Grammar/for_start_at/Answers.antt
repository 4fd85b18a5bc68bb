use Rattle.std.proofs.Common.{arith, ap, refl, sym, ◌+◌, ◌-◌, ◌∙◌, ℕ, true, false, max}
use Rattle.std.specs.Prelude.{Some, None, Option}
use Rattle.tb_tree.specs.Longest.{Never}
use Rattle.tb_tree.proofs.Ends.{found_from, found_left, found_as, lacks_from, both, ap_both}
use Rattle.tb_tree.specs.Exprs.{a_loop}
use Rattle.tb_tree.specs.declared.marks.Mark.TheVariants as m
use Rattle.tb_parse_body.specs.Rules.{around_of, VarUpto, OfHeadUpto, ForHeadUpto, ForStartUpto, EndedUpto}
use Rattle.tb_parse_body.specs.Elses.{unboxed}
use Rattle.tb_parse_body.proofs.FirstSymbols.{lacking, reading}
use Rattle.tb_parse_body.proofs.Loops.{read_as}
use Rattle.tb_parse_body.proofs.Plain.{boxed_in, no_boxed_in}
use Rattle.tb_parse_body.proofs.ForHeads.{start_of, start_var, start_ended, start_lacks, head_lacks_open, head_lacks_start, head_lacks_condition, head_lacks_update, head_found}
use Rattle.tb_parse_body.proofs.ForLoops.{each_tree, for_tree, for_shallow, for_lacks_head, each_lacks_body, for_lacks_body, each_reads, for_reads}
use Rattle.tb_parse_body.proofs.nests.Grammar.for_start_at.Goals as goal
use Rattle.tb_parse_body.proofs.nests.Grammar.for_start_at.Goals.{in-Some-of, in-None}

pub returns-in-Some : goal.returns-in-Some
returns-in-Some g c =
    let f = reading (VarUpto c.args.limit) Never c.args.self.now.reader c.args.at _ c.in-Some.var c.in-Some.is c.in_ok-var.ensures in
    (f.0, start_var c.args.limit f.1)

pub returns-in_default-2 : goal.returns-in_default-2
returns-in_default-2 g c =
    let r = c.args.self.now.reader in
    start_lacks c.args.limit (lacking (VarUpto c.args.limit) Never r c.args.at _ c.in_default.is c.in_ok-var.ensures) (lacking (EndedUpto m.Semicolon c.args.limit) Never r c.args.at _ c.in_default-2.is c.in_ok-first.ensures)

pub returns : goal.returns
returns g c =
    let r = c.args.self.now.reader in
    let x = c.in-Some-2.first in
    let n = lacking (VarUpto c.args.limit) Never r c.args.at _ c.in_default.is c.in_ok-var.ensures in
    let f = reading (EndedUpto m.Semicolon c.args.limit) Never r c.args.at _ x c.in-Some-2.is c.in_ok-first.ensures in
    let all = start_ended c.args.limit n f.1 in
    elim c.match-of.branch [
      | in-Some-of w ↦ (f.0, found_as (both (w.tree-is ∙ sym (ap start_of w.in-Some-of.is)) refl) all)
      | in-None w ↦ (f.0, found_as (both (w.tree-is ∙ sym (ap start_of w.in-None.is)) refl) all)
    ]

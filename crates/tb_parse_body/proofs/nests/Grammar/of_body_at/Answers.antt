use Rattle.std.proofs.Common.{arith, ap, refl, sym, ◌+◌, ◌-◌, ◌∙◌, ℕ, true, false, max}
use Rattle.std.specs.Prelude.{Some, None, Option}
use Rattle.tb_tree.specs.Longest.{Never}
use Rattle.tb_tree.proofs.Ends.{found_from, found_left, found_as, lacks_from, both, ap_both}
use Rattle.tb_tree.specs.Exprs.{a_loop}
use Rattle.tb_tree.specs.declared.marks.Mark.TheVariants as m
use Rattle.tb_parse_body.specs.Rules.{around_of, VarUpto, OfHeadUpto, ForHeadUpto, ForStartUpto, EndedUpto}
use Rattle.tb_parse_body.specs.Elses.{unboxed}
use Rattle.tb_parse_body.proofs.FirstSymbols.{lacking, reading}
use Rattle.tb_parse_body.proofs.Loops.{read_as}
use Rattle.tb_parse_body.proofs.Plain.{boxed_in, no_boxed_in}
use Rattle.tb_parse_body.proofs.ForHeads.{start_var, start_ended, start_lacks, head_lacks_open, head_lacks_start, head_lacks_condition, head_lacks_update, head_found}
use Rattle.tb_parse_body.proofs.ForLoops.{each_tree, for_tree, for_shallow, for_lacks_head, each_lacks_body, for_lacks_body, each_reads, for_reads}
use Rattle.tb_parse_body.proofs.nests.Grammar.of_body_at.Goals as goal

pub returns-in_default : goal.returns-in_default
returns-in_default g c =
    let n = no_boxed_in (around_of c.in_a_loop.result) (a_loop (around_of c.args.around)) (c.args.limit - 1) c.args.self.now.reader c.args.head.next _ c.in_a_loop.ensures c.in_default.is c.in_ok-body.ensures in
    each_lacks_body (around_of c.args.around) c.args.limit _ _ c.requires.stands.2 c.requires.read.1 n

pub returns : goal.returns
returns g c =
    let h = c.args.head in
    let s = c.in-Some.body in
    let k = boxed_in (around_of c.in_a_loop.result) (a_loop (around_of c.args.around)) (c.args.limit - 1) c.args.self.now.reader h.next _ s c.in_a_loop.ensures c.in-Some.is c.in_ok-body.ensures in
    read_as (around_of c.args.around) c.args.limit c.args.self.now.reader c.args.at s.next s.closed (each_tree h.tree s.tree c.start_at.ensures) (ap (λ (n : ℕ). n + 1) c.larger.ensures)
    (each_reads (around_of c.args.around) c.args.limit _ _ c.args.self.now.reader c.args.at (h.tree, h.depth) h.next (unboxed s) c.requires.stands.2 c.requires.some c.requires.read.1 k)

use Rattle.std.proofs.Common.{arith, ap, refl, sym, ◌+◌, ◌-◌, ◌∙◌, ℕ, true, false, max}
use Rattle.std.specs.Prelude.{Some, None, Option}
use Rattle.tb_tree.specs.Longest.{Never}
use Rattle.tb_tree.proofs.Ends.{found_from, found_left, found_as, lacks_from, both, ap_both}
use Rattle.tb_tree.specs.Exprs.{a_loop}
use Rattle.tb_tree.specs.declared.marks.Mark.TheVariants as m
use Rattle.tb_parse_body.specs.Rules.{around_of, VarUpto, OfHeadUpto, ForHeadUpto, ForStartUpto, EndedUpto}
use Rattle.tb_parse_body.specs.Elses.{unboxed}
use Rattle.tb_parse_body.proofs.FirstSymbols.{lacking, reading}
use Rattle.tb_parse_body.proofs.Loops.{read_as}
use Rattle.tb_parse_body.proofs.Plain.{boxed_in, no_boxed_in}
use Rattle.tb_parse_body.proofs.ForHeads.{start_var, start_ended, start_lacks, head_lacks_open, head_lacks_start, head_lacks_condition, head_lacks_update, head_found}
use Rattle.tb_parse_body.proofs.ForLoops.{each_tree, for_tree, for_shallow, for_lacks_head, each_lacks_body, for_lacks_body, each_reads, for_reads}
use Rattle.tb_parse_body.proofs.nests.Grammar.for_at.Goals as goal

pub returns-then-limit-eq0 : goal.returns-then-limit-eq0
returns-then-limit-eq0 g c = for_shallow (around_of c.args.around) c.args.limit _ _ c.requires.stands.2 c.if-limit-eq0.true

pub returns-in_default-2 : goal.returns-in_default-2
returns-in_default-2 g c =
    let r = c.args.self.now.reader in
    for_lacks_head (around_of c.args.around) c.args.limit _ _ c.requires.stands.2 (lacking (OfHeadUpto (c.args.limit - 1)) Never r (c.args.at + 1) _ c.in_default.is c.in_ok-head.ensures)
    (lacking (ForHeadUpto (c.args.limit - 1)) Never r (c.args.at + 1) _ c.in_default-2.is c.in_ok-head-2.ensures)

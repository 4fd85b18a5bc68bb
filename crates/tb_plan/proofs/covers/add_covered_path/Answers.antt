use Rattle.std.proofs.Common.{arith, ◌∙◌}
use Rattle.std.proofs.lemmas.List.{take_all}
use Rattle.tb_plan.proofs.Covered.{around_all}
use Rattle.tb_plan.proofs.covers.add_covered_path.Goals as goal

pub returns : goal.returns
returns c = around_all c.args.projects.now c.args.folders.now.owners c.args.path.now c.in_ok-numbers.numbers.items _ c.args.faults.now.items _ c.requires c.in_ok-numbers.ensures
    (take_all c.loop-number.number-index _ (omega arith) ∙ c.as_slice-number-items.ensures.value) c.loop-number.invariant

use Rattle.std.proofs.Common.{arith}
use Rattle.tb_plan.proofs.Firsts.{lacking_step}
use Rattle.tb_plan.proofs.first.add_composite_faults.Goals as goal

pub loop-number-preserved : goal.loop-number-preserved
loop-number-preserved c = lacking_step _ _ c.args.numbers.now c.loop-number.number-index _ _ _ (omega arith) c.loop-number.invariant c.in_ok-add_composite_fault.ensures

use Rattle.std.proofs.Common.{arith}
use Rattle.tb_plan.proofs.Pairs.{nested_none, nested_step, nested_end}
use Rattle.tb_plan.proofs.nested.add_nested_faults.Goals as goal

pub loop-number-init : goal.loop-number-init
loop-number-init c = nested_none _

pub loop-number-preserved : goal.loop-number-preserved
loop-number-preserved c = nested_step c.args.settings.now c.loop-number.number c.index-settings-number.result _ _ _ (omega arith) c.index-settings-number.is c.loop-number.invariant c.in_ok-add_nested_project.ensures

pub returns : goal.returns
returns c = nested_end c.args.settings.now c.loop-number.number _ _ (omega arith) c.loop-number.invariant

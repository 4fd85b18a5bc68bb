use Rattle.std.proofs.Common.{arith}
use Rattle.tb_plan.proofs.Firsts.{faults_step}
use Rattle.tb_plan.proofs.first.config_faults.Goals as goal

pub loop-number-preserved : goal.loop-number-preserved
loop-number-preserved c = λ tree is. faults_step tree _ c.loop-number.number _ _ (omega (arith, c.args.reach.now.configs.paths.ok.0)) (c.loop-number.invariant tree is) (c.in_ok-add_config_faults.ensures tree is)

use Rattle.std.proofs.Common.{arith}
use Rattle.tb_plan.proofs.Firsts.{listed_step}
use Rattle.tb_plan.proofs.first.listed.Goals as goal

pub loop-at-preserved : goal.loop-at-preserved
loop-at-preserved c = listed_step c.args.configs.now c.args.numbers.now c.loop-at.at _ _ _ (omega arith) c.loop-at.invariant c.text_at.ensures c.in_ok-add_listed.ensures

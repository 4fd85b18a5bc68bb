use Rattle.std.proofs.Common.{arith}
use Rattle.tb_plan.proofs.Members.{taken}
use Rattle.tb_plan.proofs.Numbered.{number_step}
use Rattle.tb_plan.proofs.numbers.Numbers.number_all.Goals as goal

pub loop-path-preserved : goal.loop-path-preserved
loop-path-preserved c =
    let i = c.loop-path.invariant in
    let k = c.in_ok-number.ensures in
    let r = number_step _ _ _ _ _ _ _ c.path-item.result i.1 i.2 k.grew k.within k.is (taken c.args.paths.now c.loop-path.path-index c.path-item.result (omega arith) c.path-item.is) in
    (k.numbered, r.0, rw c.in_ok-push.ensures.items r.1)

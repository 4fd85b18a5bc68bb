use Rattle.std.proofs.Common.{arith}
use Rattle.tb_plan.proofs.Seen.{shared_step, seen_step}
use Rattle.tb_plan.proofs.shared.add_shared_faults.Goals as goal

pub loop-project-preserved : goal.loop-project-preserved
loop-project-preserved c =
    let i = c.loop-project.invariant in
    let more = rw c.as_slice.ensures at c.in_ok-add_seen.ensures in (
      shared_step c.args.projects.now c.loop-project.project-index c.project-item.result c.loop-project.seen _ _ _ (omega arith) c.project-item.is i.1 i.0 c.in_ok-add_shared.ensures,
      seen_step c.args.projects.now c.loop-project.project-index c.project-item.result _ _ (omega arith) c.project-item.is i.1 more,
    )

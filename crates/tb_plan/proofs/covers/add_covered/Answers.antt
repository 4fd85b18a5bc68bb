use Rattle.std.proofs.Common.{arith}
use Rattle.tb_plan.proofs.Covered.{same_step, flat_next}
use Rattle.tb_plan.proofs.covers.add_covered.Goals as goal

pub loop-path-preserved : goal.loop-path-preserved
loop-path-preserved c = same_step c.args.faults.now.items _ _ _ _ _ c.loop-path.invariant c.in_ok-add_covered_path.ensures (flat_next _ c.args.paths.now c.loop-path.path-index c.path-item.result (omega arith) c.path-item.is)

use Rattle.std.proofs.Common.{refl, arith, false}
use Rattle.std.specs.Prelude.{slice_index_or}
use Rattle.tb_plan.proofs.Marked.{marked_step}
use Rattle.tb_plan.proofs.upstream.marked.Goals as goal

pub loop-number-preserved : goal.loop-number-preserved
loop-number-preserved c =
    marked_step (λ n. slice_index_or c.args.marks.now n false) c.loop-number.number _ _ _ _ c.loop-number.invariant (omega arith) refl c.in_ok-add_marked.ensures

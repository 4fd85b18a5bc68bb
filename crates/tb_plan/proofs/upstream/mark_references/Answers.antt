use Rattle.std.proofs.Common.{arith}
use Rattle.tb_plan.proofs.Marked.{references_step}
use Rattle.tb_plan.proofs.upstream.mark_references.Goals as goal

pub loop-reference-preserved : goal.loop-reference-preserved
loop-reference-preserved c =
    references_step c.args.before.now c.args.configs.now c.args.references.now c.loop-reference.reference-index c.reference-item.result _ _ _ _ c.requires (omega arith) c.reference-item.is c.numbers_at.ensures c.loop-reference.invariant c.mark_projects.ensures

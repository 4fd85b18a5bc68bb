use Rattle.std.proofs.Common.{◌≡◌, max, drop}
use Rattle.tb_tree.specs.Depth as spec
use Rattle.tb_tree.proofs.depths.bases_depth.Given as goal

abbrev pub invariant-loop-base : goal.invariant-loop-base
invariant-loop-base l = max l.depth (spec.capped (spec.bases_depth (drop l.base-index l.bases))) ≡ spec.capped (spec.bases_depth l.bases)

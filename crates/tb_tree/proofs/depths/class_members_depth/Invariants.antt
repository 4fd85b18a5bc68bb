use Rattle.std.proofs.Common.{◌≡◌, max, drop}
use Rattle.tb_tree.specs.Depth as spec
use Rattle.tb_tree.proofs.depths.class_members_depth.Given as goal

abbrev pub invariant-loop-member : goal.invariant-loop-member
invariant-loop-member l = max l.depth (spec.capped (spec.class_members_depth (drop l.member-index l.members))) ≡ spec.capped (spec.class_members_depth l.members)

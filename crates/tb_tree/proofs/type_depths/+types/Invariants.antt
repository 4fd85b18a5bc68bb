use Rattle.std.proofs.Common.{◌≡◌, max, drop}
use Rattle.tb_tree.specs.Depth as spec
use Rattle.tb_tree.proofs.type_depths.+types.Given as goal

abbrev pub invariant-types_depth-loop-shape : goal.invariant-types_depth-loop-shape
invariant-types_depth-loop-shape l = max l.depth (spec.capped (spec.types_depth (drop l.shape-index l.shapes))) ≡ spec.capped (spec.types_depth l.shapes)

abbrev pub invariant-type_params_depth-loop-param : goal.invariant-type_params_depth-loop-param
invariant-type_params_depth-loop-param l = max l.depth (spec.capped (spec.type_params_depth (drop l.param-index l.params))) ≡ spec.capped (spec.type_params_depth l.params)

abbrev pub invariant-members_depth-loop-member : goal.invariant-members_depth-loop-member
invariant-members_depth-loop-member l = max l.depth (spec.capped (spec.members_depth (drop l.member-index l.members))) ≡ spec.capped (spec.members_depth l.members)

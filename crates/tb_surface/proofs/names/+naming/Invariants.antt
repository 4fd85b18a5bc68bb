use Rattle.std.proofs.Common.{◌≡◌, ◌++◌, take, flat_map}
use Rattle.tb_layout.specs.Parts as spec
use Rattle.tb_surface.proofs.names.+naming.Given as goal

abbrev pub invariant-add_types-loop-shape : goal.invariant-add_types-loop-shape
invariant-add_types-loop-shape l = l.names ≡ l.initial.names ++ flat_map spec.type_names (take l.shape-index l.all)

abbrev pub invariant-add_members-loop-member : goal.invariant-add_members-loop-member
invariant-add_members-loop-member l = l.names ≡ l.initial.names ++ flat_map spec.member_names (take l.member-index l.all)

abbrev pub invariant-add_type_params-loop-param : goal.invariant-add_type_params-loop-param
invariant-add_type_params-loop-param l = l.names ≡ l.initial.names ++ flat_map spec.type_param_names (take l.param-index l.all)

use Rattle.std.proofs.Common.{◌≡◌, ◌++◌, take, flat_map}
use Rattle.tb_layout.specs.Parts as spec
use Rattle.tb_surface.proofs.names.add_class_members.Given as goal

abbrev pub invariant-loop-member : goal.invariant-loop-member
invariant-loop-member l = l.names ≡ l.initial.names ++ flat_map spec.class_member_names (take l.member-index l.all)

use Rattle.std.proofs.Common.{◌≡◌, map, take}
use Rattle.tb_layout.specs.Surface as spec
use Rattle.tb_surface.proofs.declaring.declared_members.Given as goal

abbrev pub invariant-loop-member : goal.invariant-loop-member
invariant-loop-member l = l.members ≡ map spec.declared_member_of (take l.member-index l.all)

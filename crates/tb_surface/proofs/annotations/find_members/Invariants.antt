use Rattle.std.proofs.Common.{◌≡◌, ◌++◌, take, flat_map}
use Rattle.tb_layout.specs.Annotations as spec
use Rattle.tb_surface.proofs.annotations.find_members.Given as goal

abbrev pub invariant-loop-member : goal.invariant-loop-member
invariant-loop-member l = l.found ≡ l.initial.found ++ flat_map spec.member_findings (take l.member-index l.all)

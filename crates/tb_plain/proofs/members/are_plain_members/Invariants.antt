use Rattle.std.proofs.Common.{◌≡◌, drop}
use Rattle.std.specs.List.{list_all}
use Rattle.tb_plain.specs.Plain as spec
use Rattle.tb_plain.proofs.members.are_plain_members.Given as goal

abbrev pub invariant-loop-member : goal.invariant-loop-member
invariant-loop-member l = list_all spec.is_plain_member (drop l.member-index l.members) ≡ list_all spec.is_plain_member l.members

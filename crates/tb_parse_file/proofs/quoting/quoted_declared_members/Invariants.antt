use Rattle.std.proofs.Common.{◌≡◌, ◌++◌, map, drop}
use Rattle.tb_layout.specs.Quoted as spec
use Rattle.tb_parse_file.proofs.quoting.quoted_declared_members.Given as goal

abbrev pub invariant-loop-member : goal.invariant-loop-member
invariant-loop-member l = l.members ++ map spec.quoted_declared_member (drop l.member-index l.all) ≡ map spec.quoted_declared_member l.all

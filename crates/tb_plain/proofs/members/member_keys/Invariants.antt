use Rattle.std.proofs.Common.{◌≡◌, ◌++◌, map, drop}
use Rattle.tb_plain.specs.Plain as spec
use Rattle.tb_plain.proofs.members.member_keys.Given as goal

abbrev pub invariant-loop-member : goal.invariant-loop-member
invariant-loop-member l = map (λ key. key.now) l.keys.items ++ map spec.member_key (drop l.member-index l.members) ≡ map spec.member_key l.members

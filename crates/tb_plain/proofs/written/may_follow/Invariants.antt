use Rattle.std.proofs.Common.{◌≡◌, drop}
use Rattle.tb_plain.specs.Written as spec
use Rattle.tb_plain.proofs.written.may_follow.Given as goal

abbrev pub invariant-loop-token : goal.invariant-loop-token
invariant-loop-token l = spec.may_follow l.text l.before (drop l.token-index l.tokens) ≡ spec.may_follow l.text 0 l.tokens

use Rattle.std.proofs.Common.{◌≡◌, ◌++◌, flat_map}
use Rattle.tb_session.specs.Emitted.{output_steps}
use Rattle.tb_session.proofs.scripts.push_writes.Given as goal

abbrev pub invariant-loop-own : goal.invariant-loop-own
invariant-loop-own l = l.steps ≡ l.fn.steps ++ flat_map output_steps l.yielded

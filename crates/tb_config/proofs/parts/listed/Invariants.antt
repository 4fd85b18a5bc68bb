use Rattle.std.proofs.Common.{◌≡◌, ◌++◌}
use Rattle.tb_config.proofs.parts.listed.Given as goal

abbrev pub invariant-loop-path : goal.invariant-loop-path
invariant-loop-path l = l.fn.paths.keys ≡ l.listed.items ++ l.path-iterator

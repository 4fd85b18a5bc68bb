use Rattle.std.proofs.Common.{◌≡◌, ◌++◌}
use Rattle.tb_config.proofs.judging.listed.Given as goal

abbrev pub invariant-loop-diag : goal.invariant-loop-diag
invariant-loop-diag l = l.fn.diags.keys ≡ l.listed.items ++ l.diag-iterator

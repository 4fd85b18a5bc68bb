use Rattle.std.proofs.Common.{◌≡◌, ◌++◌, drop, map}
use Rattle.tb_config.specs.Faults.{diag_at}
use Rattle.tb_config.proofs.judging.faults_of.Given as goal

abbrev pub invariant-loop-fault : goal.invariant-loop-fault
invariant-loop-fault l = l.initial.diags.items ++ map (diag_at l.own.path) l.fault-items ≡ l.diags.items ++ map (diag_at l.own.path) (drop l.fault-index l.fault-items)

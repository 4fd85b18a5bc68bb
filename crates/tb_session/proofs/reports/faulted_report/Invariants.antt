use Rattle.std.proofs.Common.{◌≡◌, ◌++◌, ◌∷◌, [], drop, map}
use Rattle.std.specs.List.{concat}
use Rattle.tb_text.specs.Messages.{diag_line}
use Rattle.tb_session.proofs.reports.faulted_report.Given as goal

abbrev pub invariant-loop-fault : goal.invariant-loop-fault
invariant-loop-fault l = l.report.items ++ concat (map (λ fault. diag_line fault [] ++ 10 ∷ []) (drop l.fault-index l.faults)) ≡ concat (map (λ fault. diag_line fault [] ++ 10 ∷ []) l.faults)

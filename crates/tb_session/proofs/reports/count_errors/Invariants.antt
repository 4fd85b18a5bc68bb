use Rattle.std.proofs.Common.{◌≡◌, take, length}
use Rattle.tb_session.proofs.Reporting.{Counts}
use Rattle.tb_session.proofs.reports.count_errors.Given as goal

abbrev pub invariant-loop-diag : goal.invariant-loop-diag
invariant-loop-diag l = record { all : length l.counts.items ≡ l.projects; each : Counts (take l.diag-index l.diags) l.counts.items }

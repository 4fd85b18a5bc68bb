use Rattle.std.proofs.Common.{◌≡◌, ◌++◌, drop, map}
use Rattle.std.specs.Prelude.{None}
use Rattle.std.specs.List.{concat}
use Rattle.tb_session.specs.Reports.{diag_report}
use Rattle.tb_session.proofs.reports.push_diags.Given as goal

abbrev pub invariant-loop-diag : goal.invariant-loop-diag
invariant-loop-diag l = l.report.items ++ concat (map (diag_report None l.texts) (drop l.diag-index l.diags)) ≡ l.initial.report.items ++ concat (map (diag_report None l.texts) l.diags)

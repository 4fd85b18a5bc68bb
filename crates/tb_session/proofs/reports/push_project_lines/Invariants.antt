use Rattle.std.proofs.Common.{◌≡◌, ◌++◌, drop}
use Rattle.tb_session.specs.Reports.{project_lines}
use Rattle.tb_session.proofs.reports.push_project_lines.Given as goal

abbrev pub invariant-loop-project : goal.invariant-loop-project
invariant-loop-project l = record {
  number : l.number ≡ l.project-index;
  lines : l.report.items ++ project_lines l.number l.diags (drop l.project-index l.projects) ≡ l.initial.report.items ++ project_lines 0 l.diags l.projects;
}

use Rattle.std.proofs.Common.{take}
use Rattle.std.specs.List.{list_any}
use Rattle.tb_plan.specs.Upstream.{Marks, is_met_by}
use Rattle.tb_plan.proofs.upstream.mark_projects.Given as goal

abbrev pub invariant-loop-project : goal.invariant-loop-project
invariant-loop-project l = Marks (λ number. list_any (λ project. is_met_by l.before project number) (take l.project-index l.projects)) l.initial.marks.items l.marks.items

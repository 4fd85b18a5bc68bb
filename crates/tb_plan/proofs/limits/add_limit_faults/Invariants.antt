use Rattle.std.proofs.Common.{◌≡◌, ◌++◌, take}
use Rattle.std.specs.List.{flat_map}
use Rattle.tb_plan.specs.Limits.{project_limits}
use Rattle.tb_plan.proofs.limits.add_limit_faults.Given as goal

abbrev pub invariant-loop-project : goal.invariant-loop-project
invariant-loop-project l = l.faults.items ≡ l.initial.faults.items ++ flat_map (project_limits l.tree) (take l.project-index l.projects)

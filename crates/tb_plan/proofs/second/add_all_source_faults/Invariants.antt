use Rattle.std.proofs.Common.{◌≡◌, ◌++◌, take}
use Rattle.std.specs.List.{flat_map}
use Rattle.tb_plan.specs.Plans.{source_faults}
use Rattle.tb_plan.proofs.second.add_all_source_faults.Given as goal

abbrev pub invariant-loop-project : goal.invariant-loop-project
invariant-loop-project l = l.faults.items ≡ l.initial.faults.items ++ flat_map (source_faults l.tree) (take l.project-index l.projects)

use Rattle.std.proofs.Common.{◌++◌, take}
use Rattle.std.specs.List.{flat_map}
use Rattle.tb_plan.specs.Covers.{covered_at}
use Rattle.tb_plan.specs.Members.{HasSame}
use Rattle.tb_plan.proofs.covers.add_covered_faults.Given as goal

abbrev pub invariant-loop-project : goal.invariant-loop-project
invariant-loop-project l = HasSame l.faults.items (l.initial.faults.items ++ flat_map (λ p. flat_map (covered_at l.projects) (p.setting.read ++ p.inputs)) (take l.project-index l.projects))

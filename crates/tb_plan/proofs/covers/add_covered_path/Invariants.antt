use Rattle.std.proofs.Common.{◌≡◌, ◌++◌, take}
use Rattle.std.specs.List.{flat_map}
use Rattle.tb_plan.specs.Covers.{fault_by}
use Rattle.tb_plan.proofs.covers.add_covered_path.Given as goal

abbrev pub invariant-loop-number : goal.invariant-loop-number
invariant-loop-number l = l.faults.items ≡ l.initial.faults.items ++ flat_map (fault_by l.projects l.path) (take l.number-index l.number-items)

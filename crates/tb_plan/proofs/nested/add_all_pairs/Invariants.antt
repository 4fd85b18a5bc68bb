use Rattle.std.proofs.Common.{◌≡◌, ◌++◌, take}
use Rattle.std.specs.List.{flat_map}
use Rattle.tb_plan.specs.Nested.{two_by}
use Rattle.tb_plan.proofs.nested.add_all_pairs.Given as goal

abbrev pub invariant-loop-other : goal.invariant-loop-other
invariant-loop-other l = l.faults.items ≡ l.initial.faults.items ++ flat_map (two_by l.settings l.number) (take l.other-index l.others)

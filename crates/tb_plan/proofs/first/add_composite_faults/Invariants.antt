use Rattle.std.proofs.Common.{◌≡◌, ◌++◌, take}
use Rattle.std.specs.Prelude.{map}
use Rattle.std.specs.List.{filter_map}
use Rattle.tb_plan.specs.Faults.{kept_fault}
use Rattle.tb_plan.specs.Visits.{lacking}
use Rattle.tb_plan.proofs.first.add_composite_faults.Given as goal

abbrev pub invariant-loop-number : goal.invariant-loop-number
invariant-loop-number l =
    l.faults.items ≡ l.initial.faults.items ++ map (kept_fault l.config 6306) (filter_map (lacking l.reach.readings.items l.reach.configs.paths.items) (take l.number-index l.numbers))

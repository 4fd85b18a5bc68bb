use Rattle.std.proofs.Common.{◌≡◌, take}
use Rattle.std.specs.List.{flat_map}
use Rattle.tb_plan.specs.Orders.{Tree}
use Rattle.tb_plan.specs.Plans.{config_faults}
use Rattle.tb_plan.specs.Visits.{IsRead}
use Rattle.tb_plan.proofs.first.config_faults.Given as goal

abbrev pub invariant-loop-number : goal.invariant-loop-number
invariant-loop-number l = (tree : Tree) → IsRead tree l.reach → l.faults.items ≡ flat_map (config_faults tree) (take l.number l.reach.configs.paths.items)

use Rattle.std.proofs.Common.{◌≡◌, false, take}
use Rattle.std.specs.List.{list_any}
use Rattle.tb_plan.specs.Statuses.{is_lost_in}
use Rattle.tb_plan.proofs.statuses.some_lost.Given as goal

abbrev pub invariant-loop-root : goal.invariant-loop-root
invariant-loop-root l = list_any (is_lost_in l.reach) (take l.root-index l.roots) ≡ false

use Rattle.std.proofs.Common.{◌≡◌, false, take}
use Rattle.std.specs.List.{list_any}
use Rattle.tb_plan.specs.Plans.{is_lost_by}
use Rattle.tb_plan.proofs.statuses.some_loss.Given as goal

abbrev pub invariant-loop-fault : goal.invariant-loop-fault
invariant-loop-fault l = list_any (is_lost_by l.config) (take l.fault-index l.faults) ≡ false

use Rattle.std.proofs.Common.{◌≡◌, take}
use Rattle.std.specs.List.{flat_map}
use Rattle.tb_plan.specs.Statuses.{setting_by}
use Rattle.tb_plan.proofs.settings.settings_by.Given as goal

abbrev pub invariant-loop-number : goal.invariant-loop-number
invariant-loop-number l = l.settings.items ≡ flat_map (setting_by l.readings) (take l.number-index l.numbers)

use Rattle.std.proofs.Common.{◌≡◌, List, length, take}
use Rattle.std.specs.List.{filter}
use Rattle.tb_config.specs.declared.setting.Setting.{Setting}
use Rattle.tb_plan.specs.Inputs.{folders_of, may_be_found}
use Rattle.tb_plan.specs.Owners.{AreOwners}
use Rattle.tb_plan.proofs.inputs.findable.Given as goal

abbrev pub invariant-loop-path : goal.invariant-loop-path
invariant-loop-path l = (settings : List Setting) → AreOwners settings l.folders.owners (length settings) → l.found.items ≡ filter (may_be_found l.tree (folders_of settings)) (take l.path-index l.path-items)

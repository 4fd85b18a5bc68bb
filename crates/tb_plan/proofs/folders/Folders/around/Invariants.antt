use Rattle.std.proofs.Common.{List, length}
use Rattle.tb_config.specs.declared.setting.Setting.{Setting}
use Rattle.tb_plan.specs.Owners.{AreOwners}
use Rattle.tb_plan.proofs.Owned.{GoesUp, left_up}
use Rattle.tb_plan.proofs.folders.Folders.around.Given as goal

abbrev pub invariant-up : goal.invariant-up
invariant-up l = (settings : List Setting) → AreOwners settings l.self.owners (length settings) → GoesUp settings l.path l.at l.numbers.items

abbrev pub decreases-up : goal.decreases-up
decreases-up l = left_up l.at

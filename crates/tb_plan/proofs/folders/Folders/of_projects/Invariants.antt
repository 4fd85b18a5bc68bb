use Rattle.tb_plan.specs.Owners.{AreOwners}
use Rattle.tb_plan.proofs.folders.Folders.of_projects.Given as goal

abbrev pub invariant-loop-number : goal.invariant-loop-number
invariant-loop-number l = AreOwners l.settings l.folders.owners l.number

use Rattle.std.proofs.Common.{arith}
use Rattle.tb_plan.proofs.Owned.{no_owners, owners_step}
use Rattle.tb_plan.proofs.folders.Folders.of_projects.Goals as goal

pub loop-number-init : goal.loop-number-init
loop-number-init c = no_owners _ _ c.new.ensures.empty

pub loop-number-preserved : goal.loop-number-preserved
loop-number-preserved c =
    owners_step c.args.settings.now _ _ c.loop-number.number c.index-settings-number.result c.loop-number.invariant (omega arith) c.index-settings-number.is c.in_ok-add_project.ensures

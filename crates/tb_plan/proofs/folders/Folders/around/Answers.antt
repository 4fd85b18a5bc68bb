use Rattle.tb_plan.proofs.Owned.{goes_up, up_next, up_ends, up_falls}
use Rattle.tb_plan.proofs.folders.Folders.around.Goals as goal

pub up-init : goal.up-init
up-init c = λ settings own. rw c.new-numbers.ensures.items (goes_up settings c.args.path.now c.in_ok-at.at c.in_ok-at.ensures)

pub up-preserved : goal.up-preserved
up-preserved c = λ settings own. up_next settings _ c.args.path.now c.in-Some.folder c.up.at _ _ _ _ own (c.up.invariant settings own) c.in-Some.is c.owners.ensures c.in_ok-extend_from_slice.ensures.items c.in_ok-at-2.ensures

pub up-smaller : goal.up-smaller
up-smaller c = up_falls c.in-Some.folder c.up.at c.in_ok-at-2.at c.in-Some.is c.in_ok-at-2.ensures

pub returns : goal.returns
returns c = λ settings own. up_ends settings c.args.path.now c.up.at _ (c.up.invariant settings own) c.in_default.is

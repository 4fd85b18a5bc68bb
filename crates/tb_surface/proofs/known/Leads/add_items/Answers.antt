use Rattle.std.proofs.Common.{arith}
use Rattle.tb_surface.specs.Names.{item_parts}
use Rattle.tb_surface.proofs.Leading.{leads_nothing, leads_more}
use Rattle.tb_surface.proofs.known.Leads.add_items.Goals as goal

pub loop-item-init : goal.loop-item-init
loop-item-init c = leads_nothing _ _ _

pub loop-item-preserved : goal.loop-item-preserved
loop-item-preserved c =
    leads_more item_parts c.args.all.now c.loop-item.item-index c.item-item.result _ _ _ _ _ _ _ (omega arith) c.item-item.is c.loop-item.invariant c.in_ok-add_item.ensures

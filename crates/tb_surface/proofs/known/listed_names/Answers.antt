use Rattle.std.proofs.Common.{arith}
use Rattle.tb_layout.specs.Parts.{item_listed}
use Rattle.tb_surface.proofs.Named.{has_none, has_flat_more}
use Rattle.tb_surface.proofs.known.listed_names.Goals as goal

pub loop-item-init : goal.loop-item-init
loop-item-init c = has_none _ c.new-listed.ensures.empty

pub loop-item-preserved : goal.loop-item-preserved
loop-item-preserved c =
    has_flat_more item_listed c.as_slice-item-items.result.now c.loop-item.item-index c.item-item.result _ _ (omega arith) c.item-item.is c.loop-item.invariant c.in_ok-add_item.ensures

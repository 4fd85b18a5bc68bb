use Rattle.tb_layout.specs.Surface.{surface_item_of}
use Rattle.tb_surface.proofs.Joins.{begun, more_flat, whole_flat}
use Rattle.tb_surface.proofs.surfaces.keep_items.Goals as goal

pub loop-item-init : goal.loop-item-init
loop-item-init c = λ names knows. begun c.args.items.now

pub loop-item-preserved : goal.loop-item-preserved
loop-item-preserved c = λ names knows.
    more_flat (surface_item_of names) c.args.all.now c.loop-item.item-index c.item-item.result c.args.items.now c.loop-item.items c.keep_item.new.items c.loop-item-test.true c.item-item.is (c.loop-item.invariant names knows) (c.in_ok-keep_item.ensures names knows)

pub returns : goal.returns
returns c = λ names knows. whole_flat (surface_item_of names) c.args.all.now c.loop-item.item-index c.args.items.now c.loop-item.items c.loop-item-test.false (c.loop-item.invariant names knows)

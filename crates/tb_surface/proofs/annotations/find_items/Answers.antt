use Rattle.tb_layout.specs.Annotations.{item_findings}
use Rattle.tb_surface.proofs.Joins.{begun, more_flat, whole_flat}
use Rattle.tb_surface.proofs.annotations.find_items.Goals as goal

pub loop-item-init : goal.loop-item-init
loop-item-init c = λ names has. begun c.args.found.now

pub loop-item-preserved : goal.loop-item-preserved
loop-item-preserved c = λ names has.
    more_flat (item_findings names) c.args.all.now c.loop-item.item-index c.item-item.result c.args.found.now c.loop-item.found c.find_item.new.found c.loop-item-test.true c.item-item.is (c.loop-item.invariant names has) (c.in_ok-find_item.ensures names has)

pub returns : goal.returns
returns c = λ names has. whole_flat (item_findings names) c.args.all.now c.loop-item.item-index c.args.found.now c.loop-item.found c.loop-item-test.false (c.loop-item.invariant names has)

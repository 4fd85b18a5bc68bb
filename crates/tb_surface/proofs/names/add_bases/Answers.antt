use Rattle.tb_layout.specs.Parts.{base_names}
use Rattle.tb_surface.proofs.Joins.{begun, more_flat, whole_flat}
use Rattle.tb_surface.proofs.names.add_bases.Goals as goal

pub loop-base-init : goal.loop-base-init
loop-base-init c = begun c.args.names.now

pub loop-base-preserved : goal.loop-base-preserved
loop-base-preserved c =
    more_flat base_names c.args.all.now c.loop-base.base-index c.base-item.result c.args.names.now c.loop-base.names c.add_base.new.names c.loop-base-test.true c.base-item.is c.loop-base.invariant c.in_ok-add_base.ensures

pub returns : goal.returns
returns c = whole_flat base_names c.args.all.now c.loop-base.base-index c.args.names.now c.loop-base.names c.loop-base-test.false c.loop-base.invariant

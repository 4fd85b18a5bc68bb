use Rattle.tb_layout.specs.Parts.{param_names}
use Rattle.tb_surface.proofs.Joins.{begun, more_flat, whole_flat}
use Rattle.tb_surface.proofs.names.add_params.Goals as goal

pub loop-param-init : goal.loop-param-init
loop-param-init c = begun c.args.names.now

pub loop-param-preserved : goal.loop-param-preserved
loop-param-preserved c =
    more_flat param_names c.args.all.now c.loop-param.param-index c.param-item.result c.args.names.now c.loop-param.names c.add_param.new.names c.loop-param-test.true c.param-item.is c.loop-param.invariant c.in_ok-add_param.ensures

pub returns : goal.returns
returns c = whole_flat param_names c.args.all.now c.loop-param.param-index c.args.names.now c.loop-param.names c.loop-param-test.false c.loop-param.invariant

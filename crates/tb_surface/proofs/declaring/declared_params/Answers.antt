use Rattle.std.proofs.Common.{◌∙◌, ap, map}
use Rattle.std.proofs.lemmas.List.{take_all}
use Rattle.tb_layout.specs.Surface.{declared_param}
use Rattle.tb_surface.proofs.Joins.{more_map}
use Rattle.tb_surface.proofs.declaring.declared_params.Goals as goal

pub loop-param-init : goal.loop-param-init
loop-param-init c = c.new-params.ensures

pub loop-param-preserved : goal.loop-param-preserved
loop-param-preserved c =
    more_map declared_param c.args.all.now c.loop-param.param-index c.param-item.result c.loop-param.params c.push.new.self _ c.loop-param-test.true c.param-item.is c.loop-param.invariant c.in_ok-declared_param.ensures c.in_ok-push.ensures.ok

pub returns : goal.returns
returns c = c.loop-param.invariant ∙ ap (map declared_param) (take_all c.loop-param.param-index c.args.all.now c.loop-param-test.false)

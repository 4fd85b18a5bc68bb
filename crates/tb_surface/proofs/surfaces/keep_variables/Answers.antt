use Rattle.tb_surface.proofs.Joins.{begun, more_flat, whole_flat}
use Rattle.tb_surface.proofs.Keeping.{variable_items, variables_whole}
use Rattle.tb_surface.proofs.surfaces.keep_variables.Goals as goal

pub loop-declarator-init : goal.loop-declarator-init
loop-declarator-init c = λ names knows. begun c.args.items.now

pub loop-declarator-preserved : goal.loop-declarator-preserved
loop-declarator-preserved c = λ names knows.
    more_flat (variable_items names c.args.exported c.args.var.now) c.as_slice-declarator-items.result.now c.loop-declarator.declarator-index c.declarator-item.result c.args.items.now c.loop-declarator.items c.keep_variable.new.items
    c.loop-declarator-test.true c.declarator-item.is (c.loop-declarator.invariant names knows) (c.in_ok-keep_variable.ensures names knows)

pub returns : goal.returns
returns c = λ names knows.
    variables_whole names c.args.exported c.args.var.now _ c.args.items.now c.loop-declarator.items c.as_slice-declarator-items.ensures
    (whole_flat (variable_items names c.args.exported c.args.var.now) c.as_slice-declarator-items.result.now c.loop-declarator.declarator-index c.args.items.now c.loop-declarator.items c.loop-declarator-test.false (c.loop-declarator.invariant names knows))

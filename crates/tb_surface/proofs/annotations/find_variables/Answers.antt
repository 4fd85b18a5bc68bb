use Rattle.std.proofs.Common.{ap, ◌∙◌, ◌++◌, flat_map}
use Rattle.tb_layout.specs.Annotations.{variable_findings}
use Rattle.tb_surface.proofs.Joins.{begun, more_flat, whole_flat}
use Rattle.tb_surface.proofs.annotations.find_variables.Goals as goal

pub loop-declarator-init : goal.loop-declarator-init
loop-declarator-init c = λ names has. begun c.args.found.now

pub loop-declarator-preserved : goal.loop-declarator-preserved
loop-declarator-preserved c = λ names has.
    more_flat (variable_findings names c.args.exported) c.as_slice-declarator-items.result.now c.loop-declarator.declarator-index c.declarator-item.result c.args.found.now c.loop-declarator.found c.find_variable.new.found
    c.loop-declarator-test.true c.declarator-item.is (c.loop-declarator.invariant names has) (c.in_ok-find_variable.ensures names has)

pub returns : goal.returns
returns c = λ names has.
    whole_flat (variable_findings names c.args.exported) c.as_slice-declarator-items.result.now c.loop-declarator.declarator-index c.args.found.now c.loop-declarator.found c.loop-declarator-test.false (c.loop-declarator.invariant names has)
    ∙ ap (λ all. c.args.found.now ++ flat_map (variable_findings names c.args.exported) all) c.as_slice-declarator-items.ensures

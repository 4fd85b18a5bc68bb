use Rattle.std.proofs.Common.{arith}
use Rattle.tb_layout.specs.Parts.{identifier_name}
use Rattle.tb_surface.proofs.Named.{has_none, has_one_more}
use Rattle.tb_surface.proofs.names.variable_set.Goals as goal

pub loop-variable-init : goal.loop-variable-init
loop-variable-init c = has_none _ c.new-bound.ensures.empty

pub loop-variable-preserved : goal.loop-variable-preserved
loop-variable-preserved c =
    has_one_more identifier_name c.args.variables.now c.loop-variable.variable-index c.variable-item.result _ _ _ (omega arith) c.variable-item.is c.loop-variable.invariant c.in_ok-clone.ensures.cases c.in_ok-insert.ensures.updates.0

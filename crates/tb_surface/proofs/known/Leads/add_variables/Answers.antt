use Rattle.std.proofs.Common.{arith}
use Rattle.tb_surface.proofs.Leading.{leads_nothing, leads_variable}
use Rattle.tb_surface.proofs.known.Leads.add_variables.Goals as goal

pub loop-declarator-init : goal.loop-declarator-init
loop-declarator-init c = leads_nothing _ _ _

pub loop-declarator-preserved : goal.loop-declarator-preserved
loop-declarator-preserved c =
    leads_variable _ c.as_slice-declarator-items.result.now c.loop-declarator.declarator-index c.declarator-item.result c.args.exported _ _ _ _ _ _ _ (omega arith) c.declarator-item.is c.loop-declarator.invariant
    c.in_ok-add_variable.ensures.starts c.in_ok-add_variable.ensures.same

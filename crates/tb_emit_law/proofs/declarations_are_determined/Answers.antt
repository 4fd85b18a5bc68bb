use Rattle.tb_emit_law.proofs.Determined.{one_surface, one_fault, not_both}
use Rattle.tb_emit_law.proofs.declarations_are_determined.Goals as goal

pub returns-clause-surface : goal.returns-clause-surface
returns-clause-surface c text surface other r q = one_surface r q

pub returns-clause-fault : goal.returns-clause-fault
returns-clause-fault c text fault other r q = one_fault r q

pub returns-clause-not_both : goal.returns-clause-not_both
returns-clause-not_both c text surface fault r q = not_both r q

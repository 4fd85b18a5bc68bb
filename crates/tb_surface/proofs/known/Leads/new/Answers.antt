use Rattle.std.proofs.Common.{rules}
use Rattle.tb_surface.proofs.Leading.{leads_none}
use Rattle.tb_surface.proofs.known.Leads.new.Goals as goal

pub returns : goal.returns
returns c = leads_none _ _ (search rules) (search rules)

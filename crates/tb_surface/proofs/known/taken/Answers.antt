use Rattle.tb_surface.proofs.Leading.{lacks_only}
use Rattle.tb_surface.proofs.known.taken.Goals as goal

pub returns-in-Some-clause-others : goal.returns-in-Some-clause-others
returns-in-Some-clause-others c = lacks_only c.args.further.now c.remove.new.self c.args.name.now c.remove.ensures.updates.0

pub returns-in-None-clause-others : goal.returns-in-None-clause-others
returns-in-None-clause-others c = lacks_only c.args.further.now c.remove.new.self c.args.name.now c.remove.ensures.updates.0

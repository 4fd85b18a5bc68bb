use Rattle.tb_session.proofs.Settling.{not_alone}
use Rattle.tb_session.proofs.runs.run.Goals as goal

pub returns-clause-headline : goal.returns-clause-headline
returns-clause-headline g c told command is = not_alone _ _ _ _ (c.run_alone.ensures.headline told command is)

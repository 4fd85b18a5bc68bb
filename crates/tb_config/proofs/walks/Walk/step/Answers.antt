use Rattle.tb_config.proofs.Frames.{sound_out}
use Rattle.tb_config.proofs.walks.Walk.step.Goals as goal

pub returns-in-None-clause-sound : goal.returns-in-None-clause-sound
returns-in-None-clause-sound c = sound_out _ _ _ _ _ _ c.remove.ensures.updates c.requires.sound

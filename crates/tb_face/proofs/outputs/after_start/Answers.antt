use Rattle.tb_face.proofs.Endings.{after_start_is}
use Rattle.tb_face.proofs.outputs.after_start.Goals as goal

pub returns : goal.returns
returns c = after_start_is c.args.start.now c.args.text.now c.strip_prefix.result c.strip_prefix.ensures.cases

use Rattle.tb_face.proofs.OptionsText.{one_options}
use Rattle.tb_face.proofs.options.one_options.Goals as goal

pub returns : goal.returns
returns c = one_options

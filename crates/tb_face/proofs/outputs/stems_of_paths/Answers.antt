use Rattle.tb_face.proofs.Stems.{stem_is}
use Rattle.tb_face.proofs.outputs.stems_of_paths.Goals as goal

pub returns : goal.returns
returns c = stem_is

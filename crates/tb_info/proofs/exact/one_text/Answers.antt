use Rattle.std.proofs.Common.{ap}
use Rattle.tb_face.specs.Infos.{spelling}
use Rattle.tb_info.proofs.Again.{one_info}
use Rattle.tb_info.proofs.exact.one_text.Goals as goal

pub returns : goal.returns
returns c = λ i j h k. (one_info i j h k, ap spelling)

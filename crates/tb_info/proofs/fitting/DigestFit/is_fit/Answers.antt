use Rattle.std.proofs.Common.{refl}
use Rattle.tb_info.proofs.fitting.DigestFit.is_fit.Goals as goal

pub returns : goal.returns
returns c = (λ _. (c.as_slice.ensures.length, c.as_slice.ensures.small), λ _. refl)

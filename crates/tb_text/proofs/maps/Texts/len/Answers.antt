use Rattle.std.proofs.Common.{ap, ◌∙◌}
use Rattle.std.specs.FinMap as map
use Rattle.tb_text.proofs.Finite.{count_of}
use Rattle.tb_text.proofs.maps.Texts.len.Goals as goal

pub returns : goal.returns
returns c = c.len.ensures.len ∙ count_of c.self.inside.texts.entries c.len.ensures.ordered ∙ ap (λ m. map.len m) c.self.view_is

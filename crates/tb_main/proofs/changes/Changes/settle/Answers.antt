use Rattle.std.proofs.Common.{◌∙◌, ap, map}
use Rattle.std.specs.String.{string_bytes}
use Rattle.tb_main.proofs.Shared.{all_shared}
use Rattle.tb_main.proofs.changes.Changes.settle.Goals as goal

pub returns-clause-synced : goal.returns-clause-synced
returns-clause-synced g c =
    all_shared g.R.Places.synced (λ place. place.path.now) string_bytes c.as_mut_slice.result.now c.args.self.now.places.keys
    (ap (map (λ place. place.path.now)) c.as_mut_slice.ensures.value ∙ c.in_ok-places.ensures) c.in_ok-answer.ensures

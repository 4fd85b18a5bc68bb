use Rattle.std.proofs.Common.{◌∙◌, arith}
use Rattle.tb_session.specs.Adding.{with_text}
use Rattle.tb_session.proofs.Adding.{added}
use Rattle.tb_session.proofs.opening.read_texts.Goals as goal

pub loop-path-preserved : goal.loop-path-preserved
loop-path-preserved g c =
    let kept = c.loop-path.invariant in
    let now = c.in_ok-read_text.ensures in
    record {
      texts = λ told. now.added told ∙ (λ i. with_text (kept.same told i) (kept.texts told i) c.in-Some.path) ∙ added _ c.loop-path.yielded c.in-Some.path;
      same = λ told. now.same told ∙ kept.same told;
      cause = record { later = omega (arith, kept.cause.later, now.cause.later); rose = λ e. cc; still = λ f. now.cause.still f ∙ kept.cause.still f };
    }

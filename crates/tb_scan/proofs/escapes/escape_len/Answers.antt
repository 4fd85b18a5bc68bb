use Rattle.std.proofs.Common.{◌∷◌, drop, get_or, ap, subst, ◌∙◌}
use Rattle.tb_scan.specs.Pieces.{IsEscapeRest}
use Rattle.tb_scan.proofs.TestLemmas.{rest_is, two_first}
use Rattle.tb_scan.proofs.EscapeLemmas.{escape_front}
use Rattle.tb_scan.proofs.escapes.escape_len.Goals as goal

pub returns-in-Some-clause-found : goal.returns-in-Some-clause-found
returns-in-Some-clause-found c =
    let text = c.args.text.now in
    let letter = get_or text 1 0 in
    escape_front text letter c.in-Some.length c.requires (two_first text c.if-text-lt2.false ∙ ap (λ b. b ∷ letter ∷ drop 2 text) c.if-text-ne92.false)
    (subst (λ x. IsEscapeRest letter x c.in-Some.length) (rest_is 2 text) c.in-Some.ensures.found)

use Rattle.std.proofs.Common.{◌≡◌, ◌+◌, drop, take, ap, refl, subst, ◌∙◌}
use Rattle.tb_scan.specs.Pieces.{RunsFor, IsFront, IsSpacing}
use Rattle.tb_scan.specs.Tokens.{IsToken, after}
use Rattle.tb_scan.proofs.Scanning.{next_found}
use Rattle.tb_scan.proofs.scanner.next_token.Goals as goal

pub returns-clause-found : goal.returns-clause-found
returns-clause-found c =
    let text = c.args.text.now in
    let at = c.args.at in
    let n = c.spacing_len-spacing.result in
    let m = c.front_of-front.result.length in
    let kind = c.front_of-front.result.kind in
    let opened = c.args.braces.now in
    let run : RunsFor IsSpacing (drop at text) n = subst (λ x. RunsFor IsSpacing x n) c.range_from.ensures.value c.spacing_len-spacing.ensures in
    let front : IsFront (IsToken opened kind) (drop (at + n) text) m = subst (λ x. IsFront (IsToken opened kind) x m) c.range_from-rest.ensures.value c.front_of-front.ensures in
    let leaves : c.pass.new.self ≡ after kind (take m (drop (at + n) text)) opened =
    c.in_ok-pass.ensures.ok ∙ ap (λ x. after kind x opened) (c.split_at-parts.ensures.front ∙ ap (λ x. take m x) (c.as_bytes.ensures.value ∙ c.range_from-rest.ensures.value)) in
    next_found text at n m opened c.pass.new.self _ run front refl refl leaves

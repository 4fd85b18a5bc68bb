use Rattle.std.proofs.Common.{◌≡◌, drop, sym, ap, subst, ◌∙◌, true, false}
use Rattle.std.specs.Char.{len_utf8}
use Rattle.tb_scan.specs.Pieces.{IsFront, IsPiece, IsEscape, Stops, may_stand}
use Rattle.std.specs.Prelude.{IfSome, IfNone}
use Rattle.tb_scan.proofs.OnePiece.{piece_character, stops_at_end, escape_found, escape_lacks, escape_unwanted}
use Rattle.tb_scan.proofs.pieces.piece_len.Goals as goal

pub returns-in_default-clause-none : goal.returns-in_default-clause-none
returns-in_default-clause-none c = stops_at_end c.args.inside c.args.text.now c.in_default.ensures.value

pub returns-then-may_stand-clause-found : goal.returns-then-may_stand-clause-found
returns-then-may_stand-clause-found c =
    let text = c.args.text.now in
    let after : c.as_bytes.result.now ≡ drop (len_utf8 c.in-Some.c) text = c.as_bytes.ensures.value ∙ c.range_from-after.ensures.value ∙ ap (λ n. drop n text) c.len_utf8-length.ensures.value in
    let stands : may_stand c.args.inside c.in-Some.c (drop (len_utf8 c.in-Some.c) text) ≡ true =
    subst (λ x. may_stand c.args.inside c.in-Some.c x ≡ true) after (sym c.may_stand.ensures ∙ c.if-may_stand.true) in
    subst (λ n. IsFront (IsPiece c.args.inside) text n) (sym c.len_utf8-length.ensures.value)
    (piece_character c.args.inside text c.in-Some.c c.in-Some.ensures.value c.in-Some.ensures.boundary stands)

pub returns-then-has_escapes-clause-found : goal.returns-then-has_escapes-clause-found
returns-then-has_escapes-clause-found c =
    escape_found c.args.inside c.args.text.now c.escape_len.result (sym c.has_escapes.ensures ∙ c.if-has_escapes.true)
    (subst (λ x. IfSome c.escape_len.result (IsFront IsEscape x)) c.as_bytes-then-has_escapes.ensures.value c.escape_len.ensures.found)

pub returns-then-has_escapes-clause-none : goal.returns-then-has_escapes-clause-none
returns-then-has_escapes-clause-none c =
    let text = c.args.text.now in
    let after : c.as_bytes.result.now ≡ drop (len_utf8 c.in-Some.c) text = c.as_bytes.ensures.value ∙ c.range_from-after.ensures.value ∙ ap (λ n. drop n text) c.len_utf8-length.ensures.value in
    let stands : may_stand c.args.inside c.in-Some.c (drop (len_utf8 c.in-Some.c) text) ≡ false =
    subst (λ x. may_stand c.args.inside c.in-Some.c x ≡ false) after (sym c.may_stand.ensures ∙ c.if-may_stand.false) in
    escape_lacks c.args.inside text c.escape_len.result c.in-Some.c (drop (len_utf8 c.in-Some.c) text) c.in-Some.ensures.value stands
    (subst (λ x. IfNone c.escape_len.result (Stops IsEscape x)) c.as_bytes-then-has_escapes.ensures.value c.escape_len.ensures.none)

pub returns-else-has_escapes-clause-none : goal.returns-else-has_escapes-clause-none
returns-else-has_escapes-clause-none c =
    let text = c.args.text.now in
    let after : c.as_bytes.result.now ≡ drop (len_utf8 c.in-Some.c) text = c.as_bytes.ensures.value ∙ c.range_from-after.ensures.value ∙ ap (λ n. drop n text) c.len_utf8-length.ensures.value in
    let stands : may_stand c.args.inside c.in-Some.c (drop (len_utf8 c.in-Some.c) text) ≡ false =
    subst (λ x. may_stand c.args.inside c.in-Some.c x ≡ false) after (sym c.may_stand.ensures ∙ c.if-may_stand.false) in
    escape_unwanted c.args.inside text c.in-Some.c (drop (len_utf8 c.in-Some.c) text) c.in-Some.ensures.value stands
    (sym c.has_escapes.ensures ∙ c.if-has_escapes.false)

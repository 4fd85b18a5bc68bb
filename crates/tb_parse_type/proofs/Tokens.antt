-- The symbols from a place on.
use Rattle.std.proofs.Common.{◌≡◌, ℕ, suc, ◌+◌, ◌<◌, List, ◌∷◌, length, drop, Some, sym, ◌∙◌, ap, add-one, drop-cons}
use Rattle.std.specs.Prelude.{slice_get}
use Rattle.std.proofs.lemmas.Option.{slice_get_within, get_or_from_slice_get}
use Rattle.tb_scan.specs.declared.token.Token.{Token}
use Rattle.tb_parse_type.specs.declared.symbols.Symbol.{Symbol}
use Rattle.tb_parse_type.specs.Symbols.{spelled, symbol_of, placed, symbols}
use Rattle.tb_parse_type.specs.Reading.{text_by, start_by}

pub token_at : (ts : List Token) (i : ℕ) (t : Token) → slice_get ts i ≡ Some t → drop i ts ≡ t ∷ drop (i + 1) ts
token_at ts i t h =
    let within : i < length ts = slice_get_within ts i t h in
    rw add-one (drop-cons ts i t within ∙ ap (λ x. x ∷ drop (suc i) ts) (get_or_from_slice_get ts i t t h))

pub symbol_here : (text : List ℕ) (ts : List Token) (i : ℕ) (t : Token) (s : Symbol) (w : List ℕ) → slice_get ts i ≡ Some t → w ≡ spelled text t → s ≡ symbol_of t.kind w
    → symbols text (drop i ts) ≡ placed s (text_by text (slice_get ts i)) (start_by (slice_get ts i)) ∷ symbols text (drop (i + 1) ts)
symbol_here text ts i t s w h p q =
    ap (symbols text) (token_at ts i t h)
    ∙ ap (λ x. x ∷ symbols text (drop (i + 1) ts))
    (ap (λ z. placed z (spelled text t) t.start) (sym (q ∙ ap (symbol_of t.kind) p)) ∙ ap (λ o. placed s (text_by text o) (start_by o)) (sym h))

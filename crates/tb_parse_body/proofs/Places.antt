-- What an answer says of a place, and where the symbols from a place on begin.
use Rattle.std.proofs.Common.{◌≡◌, ℕ, suc, ◌+◌, ◌≤◌, ◌<◌, List, ◌∷◌, length, drop, subst, ap, sym, ◌∙◌, inl, inr, arith, get_or, refl, add-one, drop-cons}
use Rattle.std.specs.Prelude.{Option, Some, None, slice_get, ◌⊎◌}
use Rattle.std.proofs.lemmas.List.{drop_all}
use Rattle.std.proofs.lemmas.Option.{slice_get_cases, slice_get_within, get_or_from_slice_get}
use Rattle.tb_scan.specs.declared.token.Token.{Token}
use Rattle.tb_tree.specs.Sym.{Sym, at_of}
use Rattle.tb_tree.specs.Shapes.{start_of}
use Rattle.tb_tree.specs.Longest.{Lacks}
use Rattle.tb_parse_type.specs.declared.symbols.Symbol.{Symbol}
use Rattle.tb_parse_type.specs.declared.symbols.Symbol.TheVariants as s
use Rattle.tb_parse_type.specs.declared.reader.Reader.{Reader}
use Rattle.tb_parse_type.specs.Symbols.{spelled, symbol_of, placed, symbols}
use Rattle.tb_parse_type.specs.Reading.{rest, start_at, start_by, FoundAt}
use Rattle.tb_parse_body.specs.declared.fronts.Front.{Front}
use Rattle.tb_parse_body.specs.Rules.{Deep}
use Rattle.tb_parse_body.specs.Reading.{Reads}

pub lacking : {X : Type 0} (D : List Sym → Deep X → Type 0) (C : Sym → Type 0) (r : Reader) (at : ℕ) (o : Option (Front X)) → o ≡ None → Reads D C r at o → Lacks D (rest r at)
lacking D C r at o e h = subst (λ v. Reads D C r at v) e h

pub reading : {X : Type 0} (D : List Sym → Deep X → Type 0) (C : Sym → Type 0) (r : Reader) (at : ℕ) (o : Option (Front X)) (x : Front X) → o ≡ Some x → Reads D C r at o
    → FoundAt D C r at (x.tree, x.depth) x.next
reading D C r at o x e h = subst (λ v. Reads D C r at v) e h

placed_at : (s : Symbol) (w : List ℕ) (o : ℕ) → at_of (placed s w o) ≡ o
placed_at (s.Mark m) w o = refl
placed_at (s.Class k) w o = refl

token_at : (ts : List Token) (i : ℕ) (t : Token) → slice_get ts i ≡ Some t → drop i ts ≡ t ∷ drop (i + 1) ts
token_at ts i t h =
    let within : i < length ts = slice_get_within ts i t h in
    rw add-one (drop-cons ts i t within ∙ ap (λ x. x ∷ drop (suc i) ts) (get_or_from_slice_get ts i t t h))

pub start_is : (r : Reader) (at : ℕ) → start_at r at ≡ start_of (rest r at)
start_is r at = go (slice_get_cases r.tokens.now at).1
  where
    at_token : (t : Token) → slice_get r.tokens.now at ≡ Some t → start_at r at ≡ start_of (rest r at)
    at_token t e =
        let w = spelled r.text.now t in
        let front : rest r at ≡ placed (symbol_of t.kind w) w t.start ∷ rest r (at + 1) = ap (symbols r.text.now) (token_at r.tokens.now at t e) in
        ap start_by e ∙ sym (placed_at (symbol_of t.kind w) w t.start) ∙ ap start_of (sym front)

    go : ((x : Token) × (at < length r.tokens.now) × (slice_get r.tokens.now at ≡ Some x) × (get_or r.tokens.now at x ≡ x)) ⊎ ((length r.tokens.now ≤ at) × (slice_get r.tokens.now at ≡ None))
        → start_at r at ≡ start_of (rest r at)
    go (inl p) = at_token p.0 p.2
    go (inr p) = ap start_by p.1 ∙ ap start_of (sym (ap (symbols r.text.now) (drop_all at r.tokens.now p.0)))

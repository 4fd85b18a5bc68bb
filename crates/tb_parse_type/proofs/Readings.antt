-- What an answer of a rule says.
use Rattle.std.proofs.Common.{◌≡◌, ℕ, ◌+◌, ◌≤◌, ◌<◌, List, ◌∷◌, length, subst, ap, sym, ◌∙◌, inl, inr, arith, get_or, refl}
use Rattle.std.specs.Prelude.{Option, Some, None, slice_get, ◌⊎◌, MatchOption}
use Rattle.std.proofs.lemmas.List.{drop_all}
use Rattle.std.proofs.lemmas.Option.{slice_get_cases}
use Rattle.tb_scan.specs.declared.token.Token.{Token}
use Rattle.tb_tree.specs.Sym.{Sym, at_of}
use Rattle.tb_tree.specs.declared.words.Word.TheVariants as words
use Rattle.tb_tree.specs.declared.types.Key.{Key}
use Rattle.tb_tree.specs.Shapes.{word, start_of, key_of}
use Rattle.tb_tree.specs.Longest.{Lacks}
use Rattle.tb_parse_type.specs.declared.symbols.Symbol.{Symbol}
use Rattle.tb_parse_type.specs.declared.symbols.Symbol.TheVariants as s
use Rattle.tb_parse_type.specs.declared.reader.Limits.{Limits}
use Rattle.tb_parse_type.specs.declared.reader.Reader.{Reader}
use Rattle.tb_parse_type.specs.declared.reader.Read.{Read}
use Rattle.tb_parse_type.specs.Rules.{Counted}
use Rattle.tb_parse_type.specs.Symbols.{spelled, symbol_of, placed, symbols}
use Rattle.tb_parse_type.specs.Reading.{rest, text_at, start_at, start_by, Stands, LacksSym, Reads, FoundAt}
use Rattle.tb_parse_type.proofs.Tokens.{token_at}

pub lacking : {X : Type 0} (D : List Sym → Counted X → Type 0) (C : Sym → Type 0) (r : Reader) (at : ℕ) (o : Option (Read X)) → o ≡ None → Reads D C r at o → Lacks D (rest r at)
lacking D C r at o e h = subst (λ v. Reads D C r at v) e h

pub reading : {X : Type 0} (D : List Sym → Counted X → Type 0) (C : Sym → Type 0) (r : Reader) (at : ℕ) (o : Option (Read X)) (x : Read X) → o ≡ Some x → Reads D C r at o
    → FoundAt D C r at (x.tree, x.own, x.depth) x.next
reading D C r at o x e h = subst (λ v. Reads D C r at v) e h

-- ---- where the symbols from a place on begin

placed_at : (s : Symbol) (w : List ℕ) (o : ℕ) → at_of (placed s w o) ≡ o
placed_at (s.Mark m) w o = refl
placed_at (s.Class k) w o = refl

pub start_is : (r : Reader) (at : ℕ) → start_at r at ≡ start_of (rest r at)
start_is r at = go (slice_get_cases r.tokens.now at).1
  where
    at_token : (t : Token) → slice_get r.tokens.now at ≡ Some t → start_at r at ≡ start_of (rest r at)
    at_token t e =
        let w = spelled r.text.now t in
        let front : rest r at ≡ placed (symbol_of t.kind w) w t.start ∷ rest r (at + 1) = ap (symbols r.text.now) (token_at r.tokens.now at t e) in
        ap start_by e ∙ sym (placed_at (symbol_of t.kind w) w t.start) ∙ ap start_of (sym front)

    go : ((x : Token) × (at < length r.tokens.now) × (slice_get r.tokens.now at ≡ Some x) × (get_or r.tokens.now at x ≡ x)) ⊎ ((length r.tokens.now ≤ at) × (slice_get r.tokens.now at ≡ None))
        → start_at r at ≡ start_of (rest r at)
    go (inl p) = at_token p.0 p.2
    go (inr p) = ap start_by p.1 ∙ ap start_of (sym (ap (symbols r.text.now) (drop_all at r.tokens.now p.0)))

-- ---- symbols that follow one another

pub two : {xs ys zs : List Sym} {s t : Sym} → xs ≡ s ∷ ys → ys ≡ t ∷ zs → xs ≡ s ∷ t ∷ zs
two {s = s} e i = e ∙ ap (λ v. s ∷ v) i

pub two_at : (r : Reader) (at : ℕ) {s t : Sym} → rest r at ≡ s ∷ rest r (at + 1) → rest r (at + 1) ≡ t ∷ rest r (at + 1 + 1) → rest r at ≡ s ∷ t ∷ rest r (at + 2)
two_at r at {s = s} {t = t} e i =
    let p : at + 1 + 1 ≡ at + 2 = omega arith in
    e ∙ ap (λ v. s ∷ v) (i ∙ ap (λ n. t ∷ rest r n) p)

-- ---- the same within limits that are named otherwise

pub reading_in : {X : Type 0} (D : Limits → List Sym → Counted X → Type 0) (C : Sym → Type 0) (l k : Limits) (r : Reader) (at : ℕ) (o : Option (Read X)) (x : Read X) → l ≡ k → o ≡ Some x
    → Reads (D l) C r at o → FoundAt (D k) C r at (x.tree, x.own, x.depth) x.next
reading_in D C l k r at o x i e h = subst (λ (n : Limits). FoundAt (D n) C r at (x.tree, x.own, x.depth) x.next) i (reading (D l) C r at o x e h)

pub lacking_in : {X : Type 0} (D : Limits → List Sym → Counted X → Type 0) (C : Sym → Type 0) (l k : Limits) (r : Reader) (at : ℕ) (o : Option (Read X)) → l ≡ k → o ≡ None → Reads (D l) C r at o
    → Lacks (D k) (rest r at)
lacking_in D C l k r at o i e h = subst (λ (n : Limits). Lacks (D n) (rest r at)) i (lacking (D l) C r at o e h)

-- ---- keys behind `readonly`

-- what `modified_key_at` answers
abbrev pub KeyAnswer : Reader → ℕ → Option Key → Type 0
KeyAnswer r at o = MatchOption o ((z : Sym) (key : Key) → key_of z ≡ Some key → LacksSym r at z) (λ key. (z : Sym) × Stands r at z × (key_of z ≡ Some key) × (at_of z ≡ start_at r at))

abbrev pub ModifiedAnswer : Reader → ℕ → Option Key → Type 0
ModifiedAnswer r at o = MatchOption o
    ((w : List ℕ) (p : ℕ) (z : Sym) (key : Key) (zs : List Sym) → key_of z ≡ Some key → rest r at ≡ word words.Readonly w p ∷ z ∷ zs → ⊥)
    (λ key. (z : Sym) × Stands r at (word words.Readonly (text_at r at) (start_at r at)) × Stands r (at + 1) z × (key_of z ≡ Some key) × (at_of z ≡ start_at r (at + 1)))

pub modified : (r : Reader) (at : ℕ) (o : Option Key) → Stands r at (word words.Readonly (text_at r at) (start_at r at)) → KeyAnswer r (at + 1) o → ModifiedAnswer r at o
modified r at None s h = λ v p z key zs e i. let same : rest r (at + 1) ≡ z ∷ zs = cc in h z key e zs same
modified r at (Some key) s h = (h.0, s, h.1, h.2, h.3)

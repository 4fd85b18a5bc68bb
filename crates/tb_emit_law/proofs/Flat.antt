-- The symbols of pieces that are put together, whichever way they are.
use Rattle.std.proofs.Common.{◌≡◌, List, [], ◌++◌, refl, sym, ap, ◌∙◌, append_assoc}
use Rattle.std.proofs.lemmas.Grind.{flat_map-append}
use Rattle.std.proofs.lemmas.List.{append-nil}
use Rattle.tb_tree.specs.Sym.{Sym}
use Rattle.tb_layout.specs.Pieces.{Piece}
use Rattle.tb_emit_law.proofs.Symbols.{symbol_in, symbols_in}

infixl 65 ◌⊕◌
-- lists of X, put together
pub data Joint (X : Type 0) : Type 0 where
  one : List X → Joint X
  ◌⊕◌ : Joint X → Joint X → Joint X

abbrev pub whole : {X : Type 0} → Joint X → List X
whole (one xs) = xs
whole (a ⊕ b) = whole a ++ whole b

-- one behind the other, and then more
abbrev pub before : {X : Type 0} → Joint X → List X → List X
before (one xs) more = xs ++ more
before (a ⊕ b) more = before a (before b more)

abbrev pub symbols_before : Joint Piece → List Sym → List Sym
symbols_before (one xs) more = symbols_in xs ++ more
symbols_before (a ⊕ b) more = symbols_before a (symbols_before b more)

is_before : (j : Joint Sym) (more : List Sym) → whole j ++ more ≡ before j more
is_before (one xs) more = refl
is_before (a ⊕ b) more = append_assoc (whole a) (whole b) more ∙ (ap (λ v. whole a ++ v) (is_before b more) ∙ is_before a (before b more))

are_before : (j : Joint Piece) (more : List Sym) → symbols_in (whole j) ++ more ≡ symbols_before j more
are_before (one xs) more = refl
are_before (a ⊕ b) more =
    ap (λ v. v ++ more) (flat_map-append symbol_in (whole a) (whole b))
    ∙ (append_assoc (symbols_in (whole a)) (symbols_in (whole b)) more ∙ (ap (λ v. symbols_in (whole a) ++ v) (are_before b more) ∙ are_before a (symbols_before b more)))

-- the same symbols, in whichever order they are put together
pub alike : (j : Joint Piece) (k : Joint Sym) → symbols_before j [] ≡ before k [] → symbols_in (whole j) ≡ whole k
alike j k e = sym (append-nil (symbols_in (whole j))) ∙ (are_before j [] ∙ (e ∙ (sym (is_before k []) ∙ append-nil (whole k))))

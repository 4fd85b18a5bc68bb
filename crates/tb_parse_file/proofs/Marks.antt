-- A byte order mark is a whole character.
use Rattle.std.proofs.Common.{◌≡◌, ℕ, true, List, [], ◌∷◌, ◌++◌, take, drop, sym, ap, ◌∙◌, arith}
use Rattle.std.specs.Prelude.{nat_eq}
use Rattle.std.specs.List.{starts_with}
use Rattle.std.specs.Str.{IsUtf8, IsCharBoundary}
use Rattle.std.proofs.lemmas.Slice.Eq.{bytes_eq-Decides}
use Rattle.std.proofs.lemmas.List.{take-append-drop}
use Rattle.std.proofs.lemmas.Str.{IsCharBoundary-past_char}

the_mark : (text : List ℕ) → starts_with nat_eq text (239 ∷ 187 ∷ 191 ∷ []) ≡ true → take 3 text ≡ 239 ∷ 187 ∷ 191 ∷ []
the_mark text e = sym ((bytes_eq-Decides (239 ∷ 187 ∷ 191 ∷ []) (take 3 text)).0 e)

pub after_mark : (text : List ℕ) → IsUtf8 text → starts_with nat_eq text (239 ∷ 187 ∷ 191 ∷ []) ≡ true → IsCharBoundary text 3
unfolding lib.Utf8.encode
after_mark text u e =
    IsCharBoundary-past_char text (drop 3 text) 0 65279 (omega arith) u (sym (take-append-drop 3 text) ∙ ap (λ v. v ++ drop 3 text) (the_mark text e))

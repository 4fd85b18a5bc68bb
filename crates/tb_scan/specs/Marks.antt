-- The marks, as a list. This project's own.
use Rattle.std.specs.Prelude.{ℕ, Bool, List, [], ◌∷◌, codes}
use Rattle.std.specs.List.{list_any}
use Rattle.std.specs.Str.{bytes_eq}

abbrev pub marks : List (List ℕ)
marks =
    codes "{" ∷ codes "}" ∷ codes "(" ∷ codes ")" ∷ codes "[" ∷ codes "]" ∷ codes "." ∷ codes ";" ∷ codes "," ∷ codes "<" ∷ codes ">"
    ∷ codes "<=" ∷ codes ">=" ∷ codes "===" ∷ codes "!==" ∷ codes "+" ∷ codes "-" ∷ codes "*" ∷ codes "/" ∷ codes "%" ∷ codes "++"
    ∷ codes "--" ∷ codes "!" ∷ codes "&&" ∷ codes "||" ∷ codes "??" ∷ codes "?" ∷ codes ":" ∷ codes "=" ∷ codes "+=" ∷ codes "-="
    ∷ codes "*=" ∷ codes "/=" ∷ codes "%=" ∷ codes "=>" ∷ codes "|" ∷ []

abbrev pub is_mark : List ℕ → Bool
is_mark t = list_any (λ mark. bytes_eq t mark) marks

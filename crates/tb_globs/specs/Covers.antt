-- Which characters a segment with wildcards stands for, as in the TSConfig Reference: `*` zero or more, `?` one.
use Rattle.std.specs.Prelude.{ℕ, Bool, true, false, ◌&&◌, ◌||◌, ◌==◌, if◌then◌else◌, List, [], ◌∷◌}

-- `*`, `?`
abbrev pub is_wild : ℕ → Bool
is_wild c = c == 42 || c == 63

-- some rest of the characters, which may be all or none of them
abbrev pub some_rest : (List ℕ → Bool) → List ℕ → Bool
some_rest f [] = f []
some_rest f (c ∷ cs) = f (c ∷ cs) || some_rest f cs

-- one character, and then the rest
abbrev pub one_then : ℕ → (List ℕ → Bool) → List ℕ → Bool
one_then wanted f [] = false
one_then wanted f (c ∷ cs) = (wanted == 63 || wanted == c) && f cs

-- the characters of a pattern's segment match those of a path's segment
abbrev pub covers : List ℕ → List ℕ → Bool
covers [] [] = true
covers [] (c ∷ cs) = false
covers (p ∷ ps) cs = if p == 42 then some_rest (covers ps) cs else one_then p (covers ps) cs

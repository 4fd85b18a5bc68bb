-- The front of a pattern up to its next `*`. This project's own.
use Rattle.std.specs.Prelude.{ℕ, ◌≡◌, ◌==◌, ◌≤◌, true, false, List, [], ◌∷◌, ◌++◌, length, drop}
use Rattle.std.specs.Str.{IsUtf8, chars}
use Rattle.tb_globs.specs.Covers.{covers, some_rest}

-- each character stands for one
abbrev pub AllSingle : List ℕ → Type 0
AllSingle [] = Unit {0}
AllSingle (c ∷ cs) = ((c == 42) ≡ false) × AllSingle cs

-- nothing, or a `*` and more
abbrev pub AtStar : List ℕ → Type 0
AtStar [] = Unit {0}
AtStar (c ∷ cs) = (c == 42) ≡ true

-- after single characters that match, the pattern goes on with the rest and the text with what is left
pub record Advance (pattern text rest left : List ℕ) : Type 0 where
  pub front : List ℕ
  pub single : AllSingle front
  pub whole : pattern ≡ front ++ rest
  pub shorter : left ≡ drop (length front) text
  pub same : covers pattern text ≡ covers rest left

-- and a `*` or the end of the pattern comes next
pub record Begins (pattern text rest left : List ℕ) : Type 0 where
  pub so_far : Advance pattern text rest (chars left)
  pub star : AtStar rest
  pub utf8 : IsUtf8 left

-- a match of the pattern at some rest of the text goes on so
pub record Found (pattern text rest left : List ℕ) : Type 0 where
  pub same : some_rest (covers pattern) text ≡ covers rest (chars left)
  pub star : AtStar rest
  pub utf8 : IsUtf8 left
  pub within : length rest ≤ length pattern

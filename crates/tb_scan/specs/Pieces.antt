-- What comments, words, strings and templates have inside, and what stands between tokens: pieces, one after the other.
-- A piece may depend on the text that follows it. This project's own.
use Rattle.std.specs.Prelude.{◌≡◌, ◌==◌, ◌||◌, ◌&&◌, ◌≤◌, ◌<◌, ◌+◌, ◌*◌, ℕ, Bool, true, false, not, IsTrue, IsFalse, List, [], ◌∷◌, ◌++◌, length, take, drop, fold, encode_utf8, IsCharBoundary}
use Rattle.std.specs.Char.{digit_value}
use Rattle.std.specs.List.{list_all}
use Rattle.std.specs.Str.{all_scalars}
use Rattle.tb_scan.specs.Characters.{is_blank, is_word_part, is_digit, begins, begins_where}
use Rattle.tb_scan.specs.declared.inside.Inside.{Inside}
use Rattle.tb_scan.specs.declared.inside.Inside.TheVariants.{Line, Block, Word, Quoted, Template}

-- pieces, one after the other, before the text that follows the last
pub data Run (P : List ℕ → List ℕ → Type 0) : List ℕ → List ℕ → Type 0 where
  none : (ys : List ℕ) → Run P [] ys
  more : (p t ys : List ℕ) → P p (t ++ ys) → Run P t ys → Run P (p ++ t) ys

-- no piece begins here
pub record Stops (P : List ℕ → List ℕ → Type 0) (xs : List ℕ) : Type 0 where
  pub never : (p ys : List ℕ) → xs ≡ p ++ ys → P p ys → ⊥

-- the pieces that the text begins with, as far as they go: its first n bytes
pub record RunsFor (P : List ℕ → List ℕ → Type 0) (xs : List ℕ) (n : ℕ) : Type 0 where
  pub within : n ≤ length xs
  pub boundary : IsCharBoundary xs n
  pub run : Run P (take n xs) (drop n xs)
  pub stops : Stops P (drop n xs)

-- the text begins with a piece of n bytes, which ends where a character does
pub record IsFront (P : List ℕ → List ℕ → Type 0) (xs : List ℕ) (n : ℕ) : Type 0 where
  pub within : n ≤ length xs
  pub positive : 0 < n
  pub boundary : IsCharBoundary xs n
  pub piece : P (take n xs) (drop n xs)

-- the characters that may follow a backslash by themselves: `n t r b f v \ ' " $` and a backtick
abbrev pub is_simple_escape : ℕ → Bool
is_simple_escape c =
    (c == 110) || (c == 116) || (c == 114) || (c == 98) || (c == 102) || (c == 118)
    || (c == 92) || (c == 39) || (c == 34) || (c == 36) || (c == 96)

-- the number that digits of base 16 spell
abbrev pub hex_value : List ℕ → ℕ
hex_value ds = fold (λ v d. v * 16 + digit_value d) 0 ds

-- n digits of base 16
pub record IsHex (ds : List ℕ) (n : ℕ) : Type 0 where
  pub digits : list_all (is_digit 16) ds ≡ true
  pub count : length ds ≡ n

-- the digits spell a Unicode scalar value
abbrev pub spells_scalar : List ℕ → Bool
spells_scalar ds = all_scalars (hex_value ds ∷ [])

-- an escape: `\n` and its kin; `\0`, which no digit follows; `\xHH`; `\uHHHH`; `\u{}` with one to six digits
pub data IsEscape : List ℕ → List ℕ → Type 0 where
  simple : (c : ℕ) (ys : List ℕ) → IsTrue (is_simple_escape c) → IsEscape (92 ∷ c ∷ []) ys
  zero : (ys : List ℕ) → IsFalse (begins_where (is_digit 10) ys) → IsEscape (92 ∷ 48 ∷ []) ys
  byte : (ds ys : List ℕ) → IsHex ds 2 → IsEscape (92 ∷ 120 ∷ ds) ys
  unit : (ds ys : List ℕ) → IsHex ds 4 → IsTrue (spells_scalar ds) → IsEscape (92 ∷ 117 ∷ ds) ys
  braced : (ds ys : List ℕ) (n : ℕ) → IsHex ds n → 1 ≤ n → n ≤ 6 → IsTrue (spells_scalar ds) → IsEscape (92 ∷ 117 ∷ 123 ∷ ds ++ 125 ∷ []) ys

-- the n bytes after a backslash and this letter make an escape with them
pub record IsEscapeRest (letter : ℕ) (xs : List ℕ) (n : ℕ) : Type 0 where
  pub within : n ≤ length xs
  pub escape : IsEscape (92 ∷ letter ∷ take n xs) (drop n xs)

-- the character c may stand by itself before ys: in a comment up to LF, in one up to `*/`, in a word after its first character,
-- in a string with that quote, in a template up to a backtick or `${`
abbrev pub may_stand : Inside → ℕ → List ℕ → Bool
may_stand Line c ys = not (c == 10)
may_stand Block c ys = not ((c == 42) && begins 47 ys)
may_stand Word c ys = is_word_part c
may_stand (Quoted quote) c ys = not ((c == quote) || (c == 92) || (c == 10) || (c == 13))
may_stand Template c ys = not ((c == 96) || (c == 92) || ((c == 36) && begins 123 ys))

-- where escapes stand for characters
abbrev pub has_escapes : Inside → Bool
has_escapes (Quoted quote) = true
has_escapes Template = true
has_escapes _ = false

-- one piece of what stands inside: a character or an escape
pub data IsPiece (inside : Inside) : List ℕ → List ℕ → Type 0 where
  character : (c : ℕ) (ys : List ℕ) → IsTrue (may_stand inside c ys) → IsPiece inside (encode_utf8 c) ys
  escape : (e ys : List ℕ) → IsTrue (has_escapes inside) → IsEscape e ys → IsPiece inside e ys

-- what stands between tokens: a blank; `//` up to the next LF or the end; `/*` up to the next `*/`
pub data IsSpacing : List ℕ → List ℕ → Type 0 where
  blank : (c : ℕ) (ys : List ℕ) → IsTrue (is_blank c) → IsSpacing (encode_utf8 c) ys
  line : (body ys : List ℕ) → Run (IsPiece Line) body ys → Stops (IsPiece Line) ys → IsSpacing (47 ∷ 47 ∷ body) ys
  block : (body ys : List ℕ) → Run (IsPiece Block) body (42 ∷ 47 ∷ ys) → IsSpacing (47 ∷ 42 ∷ body ++ 42 ∷ 47 ∷ []) ys

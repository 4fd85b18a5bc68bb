-- Tokens: the form of each kind, the longest text of one of the forms, what is Bad, and the tokens of a whole text.
-- This project's own.
use Rattle.std.specs.Prelude.{◌≡◌, ◌==◌, ◌||◌, ◌&&◌, ◌≤◌, ◌<◌, ◌+◌, ℕ, Bool, true, false, not, IsTrue, IsFalse, List, [], ◌∷◌, ◌++◌, length, take, drop, IsCharBoundary, encode_utf8, codes, if◌then◌else◌}
use Rattle.std.specs.Str.{bytes_eq}
use Rattle.tb_scan.specs.Characters.{is_word_start, is_word_part, is_quote, is_digit, begins}
use Rattle.tb_scan.specs.Pieces.{Run, Stops, IsPiece, IsSpacing}
use Rattle.tb_scan.specs.Numbers.{IsNumber}
use Rattle.tb_scan.specs.Marks.{is_mark}
use Rattle.tb_scan.specs.declared.inside.Inside.TheVariants as i
use Rattle.tb_scan.specs.declared.token.Kind.{Kind}
use Rattle.tb_scan.specs.declared.token.Kind.TheVariants as k
use Rattle.tb_scan.specs.declared.token.Token.{Token}
use Rattle.tb_scan.specs.declared.braces.Bracket.{Bracket}
use Rattle.tb_scan.specs.declared.braces.Bracket.TheVariants.{Brace, Hole}

-- the innermost open bracket is the `${` of a template, so that a `}` closes it
abbrev pub in_hole : List Bracket → Bool
in_hole (Hole ∷ open_below) = true
in_hole (Brace ∷ open_below) = false
in_hole [] = false

-- a mark that stands for itself: not a `}` that closes a hole, and not the `/` of a `/*`
abbrev pub is_plain_mark : List Bracket → List ℕ → List ℕ → Bool
is_plain_mark opened t ys = is_mark t && (not (bytes_eq t (codes "}") && in_hole opened) && not (bytes_eq t (codes "/") && begins 42 ys))

-- the forms of tokens: the text t before ys, where these brackets are open, the innermost first
pub data IsForm (opened : List Bracket) : Kind → List ℕ → List ℕ → Type 0 where
  word : (c : ℕ) (rest ys : List ℕ) → IsTrue (is_word_start c) → Run (IsPiece i.Word) rest ys → IsForm opened k.Word (encode_utf8 c ++ rest) ys
  number : (t ys : List ℕ) → IsNumber t → IsForm opened k.Number t ys
  string : (quote : ℕ) (body ys : List ℕ) → IsTrue (is_quote quote) → Run (IsPiece (i.Quoted quote)) body (quote ∷ ys)
      → IsForm opened k.Str (quote ∷ body ++ quote ∷ []) ys
  whole : (body ys : List ℕ) → Run (IsPiece i.Template) body (96 ∷ ys) → IsForm opened k.Whole (96 ∷ body ++ 96 ∷ []) ys
  head : (body ys : List ℕ) → Run (IsPiece i.Template) body (36 ∷ 123 ∷ ys) → IsForm opened k.Head (96 ∷ body ++ 36 ∷ 123 ∷ []) ys
  middle : (body ys : List ℕ) → IsTrue (in_hole opened) → Run (IsPiece i.Template) body (36 ∷ 123 ∷ ys)
      → IsForm opened k.Middle (125 ∷ body ++ 36 ∷ 123 ∷ []) ys
  tail : (body ys : List ℕ) → IsTrue (in_hole opened) → Run (IsPiece i.Template) body (96 ∷ ys) → IsForm opened k.Tail (125 ∷ body ++ 96 ∷ []) ys
  mark : (t ys : List ℕ) → IsTrue (is_plain_mark opened t ys) → IsForm opened k.Mark t ys

-- t has a form, and no longer text that begins here has one
pub record IsLongest (opened : List Bracket) (kind : Kind) (t ys : List ℕ) : Type 0 where
  pub form : IsForm opened kind t ys
  pub longest : (other : Kind) (u zs : List ℕ) → IsForm opened other u zs → t ++ ys ≡ u ++ zs → length u ≤ length t

-- no text that begins here has a form
pub record HasNoForm (opened : List Bracket) (xs : List ℕ) : Type 0 where
  pub none : (kind : Kind) (t ys : List ℕ) → IsForm opened kind t ys → xs ≡ t ++ ys → ⊥

-- what a number is not directly followed by: a word character, to which the digits belong, or `.`
abbrev pub is_glue : ℕ → Bool
is_glue c = is_word_part c || (c == 46)

-- if it is a number, it ends where it ends
pub record IsFree (kind : Kind) (ys : List ℕ) : Type 0 where
  pub free : kind ≡ k.Number → (c : ℕ) (zs : List ℕ) → ys ≡ encode_utf8 c ++ zs → IsFalse (is_glue c)

-- a string, a template or a comment begins here
abbrev pub opens : List Bracket → List ℕ → Bool
opens opened [] = false
opens opened (b ∷ bs) = is_quote b || ((b == 96) || (((b == 125) && in_hole opened) || ((b == 47) && begins 42 bs)))

-- the token t that begins here, where neither a blank nor a comment does, and what follows it:
-- the longest text of one of the forms; a number together with a character that must not follow it; an unfinished string, template
-- or comment up to the end; any other character alone
pub data IsToken (opened : List Bracket) : Kind → List ℕ → List ℕ → Type 0 where
  formed : (kind : Kind) (t ys : List ℕ) → IsLongest opened kind t ys → IsFree kind ys → IsToken opened kind t ys
  glued : (t : List ℕ) (c : ℕ) (ys : List ℕ) → IsLongest opened k.Number t (encode_utf8 c ++ ys) → IsTrue (is_glue c)
      → IsToken opened k.Bad (t ++ encode_utf8 c) ys
  unfinished : (xs : List ℕ) → IsTrue (opens opened xs) → HasNoForm opened xs → IsToken opened k.Bad xs []
  stray : (c : ℕ) (ys : List ℕ) → IsFalse (opens opened (encode_utf8 c ++ ys)) → HasNoForm opened (encode_utf8 c ++ ys)
      → IsToken opened k.Bad (encode_utf8 c) ys

-- the open brackets behind a token: a mark `{` opens a brace and a head a hole; a mark `}` closes what is open, if anything is,
-- and a tail its hole
abbrev pub after : Kind → List ℕ → List Bracket → List Bracket
after k.Head t opened = Hole ∷ opened
after k.Tail t opened = drop 1 opened
after k.Mark t opened = if bytes_eq t (codes "{") then Brace ∷ opened else (if bytes_eq t (codes "}") then drop 1 opened else opened)
after _ t opened = opened

-- the next token from `at` on: behind blanks and comments, as far as they go
pub record NextToken (text : List ℕ) (at : ℕ) (opened : List Bracket) (token : Token) (left : List Bracket) : Type 0 where
  pub spacing : List ℕ
  pub spelled : List ℕ
  pub rest : List ℕ
  pub whole : drop at text ≡ spacing ++ (spelled ++ rest)
  pub spaced : Run IsSpacing spacing (spelled ++ rest)
  pub begun : Stops IsSpacing (spelled ++ rest)
  pub reads : IsToken opened token.kind spelled rest
  pub starts : token.start ≡ at + length spacing
  pub ends : token.end ≡ token.start + length spelled
  pub leaves : left ≡ after token.kind spelled opened

-- nothing but blanks and comments from `at` on
pub record IsAtEnd (text : List ℕ) (at : ℕ) : Type 0 where
  pub spaced : Run IsSpacing (drop at text) []

-- all tokens from `at` on
pub data Scans (text : List ℕ) : ℕ → List Bracket → List Token → Type 0 where
  done : (at : ℕ) (opened : List Bracket) → IsAtEnd text at → Scans text at opened []
  more : (at : ℕ) (opened left : List Bracket) (token : Token) (tokens : List Token)
      → NextToken text at opened token left → Scans text token.end left tokens → Scans text at opened (token ∷ tokens)

-- the front of n bytes is a mark, but no `/` of a `/*`, and no longer front is one
abbrev pub is_bare_mark : List ℕ → List ℕ → Bool
is_bare_mark t ys = is_mark t && not (bytes_eq t (codes "/") && begins 42 ys)

pub record IsLongestMark (xs : List ℕ) (n : ℕ) : Type 0 where
  pub within : n ≤ length xs
  pub mark : IsTrue (is_bare_mark (take n xs) (drop n xs))
  pub longest : (t ys : List ℕ) → xs ≡ t ++ ys → IsTrue (is_bare_mark t ys) → length t ≤ n

pub record HasNoMark (xs : List ℕ) : Type 0 where
  pub none : (t ys : List ℕ) → xs ≡ t ++ ys → IsTrue (is_bare_mark t ys) → ⊥

-- the kinds of a template that ends here, and of one up to a `${`: behind a backtick, and behind a `}` that closes a hole
pub data AreTemplates (opened : List Bracket) (xs : List ℕ) : Kind → Kind → Type 0 where
  first : IsTrue (begins 96 xs) → AreTemplates opened xs k.Whole k.Head
  later : IsTrue (begins 125 xs) → IsTrue (in_hole opened) → AreTemplates opened xs k.Tail k.Middle

-- none of the marks, words, numbers, strings and templates begins with this character but a mark
pub record IsOther (opened : List Bracket) (c : ℕ) : Type 0 where
  pub no_word : IsFalse (is_word_start c)
  pub no_digit : IsFalse (is_digit 10 c)
  pub no_quote : IsFalse (is_quote c)
  pub no_template : IsFalse (c == 96)
  pub no_closing : IsFalse ((c == 125) && in_hole opened)

-- the text begins with a character of n bytes that glues to a number; 0, if with none
pub record IsGlueFor (xs : List ℕ) (n : ℕ) : Type 0 where
  pub none : n ≡ 0 → (c : ℕ) (zs : List ℕ) → xs ≡ encode_utf8 c ++ zs → IsFalse (is_glue c)
  pub some : 0 < n → (c : ℕ) × IsTrue (is_glue c) × (n ≡ length (encode_utf8 c)) × (xs ≡ encode_utf8 c ++ drop n xs)

-- the tokens lie in a text of this length, from a place on: none is empty, and each lies behind the one before it
abbrev pub AreLaidOut : ℕ → ℕ → List Token → Type 0
AreLaidOut at size [] = Unit {0}
AreLaidOut at size (token ∷ tokens) = (at ≤ token.start) × (token.start < token.end) × (token.end ≤ size) × AreLaidOut token.end size tokens

-- the tokens begin and end where characters do
abbrev pub AreCut : List ℕ → List Token → Type 0
AreCut text [] = Unit {0}
AreCut text (token ∷ tokens) = IsCharBoundary text token.start × IsCharBoundary text token.end × AreCut text tokens

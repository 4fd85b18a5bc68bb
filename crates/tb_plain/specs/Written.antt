-- How a plain file is written, as far as its tree does not say it: without parentheses, `|` and commas, and with `;` before each `}`
-- that does not close an empty interface. This project's own.
use Rattle.std.specs.Prelude.{ℕ, ◌≡◌, Bool, true, not, ◌&&◌, ◌||◌, ◌==◌, List, [], ◌∷◌, get_or, IsUtf8}
use Rattle.tb_scan.specs.declared.token.Kind.{Kind}
use Rattle.tb_scan.specs.declared.token.Kind.TheVariants as k
use Rattle.tb_scan.specs.declared.token.Token.{Token}
use Rattle.tb_scan.specs.Tokens.{Scans}

-- the byte that a token begins with
abbrev pub first_byte : List ℕ → Token → ℕ
first_byte text token = get_or text token.start 0

-- the marks `(` and `)`, those that begin with `|`, and `,`; and `}` behind anything but `;` and `{`
abbrev pub is_odd_mark : ℕ → ℕ → Bool
is_odd_mark before byte = (byte == 40) || (byte == 41) || (byte == 124) || (byte == 44) || ((byte == 125) && not (before == 59) && not (before == 123))

abbrev pub may_stand : ℕ → Kind → ℕ → Bool
may_stand before k.Mark byte = not (is_odd_mark before byte)
may_stand before _ byte = true

-- each token may stand behind the one before it, the first behind a token that begins with this byte
abbrev pub may_follow : List ℕ → ℕ → List Token → Bool
may_follow text before [] = true
may_follow text before (token ∷ tokens) = may_stand before token.kind (first_byte text token) && may_follow text (first_byte text token) tokens

-- the text is written so. (A byte order mark counts as a blank.)
pub record IsWrittenPlainly (text : List ℕ) : Type 0 where
  pub utf8 : IsUtf8 text
  pub tokens : List Token
  pub scanned : Scans text 0 [] tokens
  pub follow : may_follow text 0 tokens ≡ true

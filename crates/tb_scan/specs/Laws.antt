-- The tokens of a text are determined: laws of the definitions. This project's own.
use Rattle.std.specs.Prelude.{◌≡◌, ℕ, List, length}
use Rattle.tb_scan.specs.declared.token.Token.{Token}
use Rattle.tb_scan.specs.declared.braces.Bracket.{Bracket}
use Rattle.tb_scan.specs.Tokens.{NextToken, IsAtEnd, Scans, AreLaidOut}

-- one token is next, and one list of brackets is open behind it
abbrev pub NextIsOne : Type 0
NextIsOne = (text : List ℕ) (at : ℕ) (opened left other_left : List Bracket) (token other : Token)
    → NextToken text at opened token left → NextToken text at opened other other_left → (token ≡ other) × (left ≡ other_left)

-- no token is next where nothing but blanks and comments is left
abbrev pub EndHasNone : Type 0
EndHasNone = (text : List ℕ) (at : ℕ) (opened left : List Bracket) (token : Token) → NextToken text at opened token left → IsAtEnd text at → ⊥

-- one list of tokens is all of them
abbrev pub ScanIsOne : Type 0
ScanIsOne = (text : List ℕ) (at : ℕ) (opened : List Bracket) (tokens others : List Token) → Scans text at opened tokens → Scans text at opened others → tokens ≡ others

-- all tokens of a text lie in it, in order
abbrev pub ScanIsLaidOut : Type 0
ScanIsLaidOut = (text : List ℕ) (at : ℕ) (opened : List Bracket) (tokens : List Token) → Scans text at opened tokens → AreLaidOut at (length text) tokens

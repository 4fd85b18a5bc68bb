-- What `read_type` answers.
use Rattle.std.specs.Prelude.{ℕ, ◌≡◌, ◌≤◌, ◌<◌, List, length, slice_range}
use Rattle.tb_tree.specs.declared.types.TypeExpr.{TypeExpr}
use Rattle.tb_tree.specs.Sym.{Sym}
use Rattle.tb_tree.specs.Types.{DerivesType}
use Rattle.tb_scan.specs.declared.token.Token.{Token}
use Rattle.tb_parse_type.specs.Symbols.{symbols}

-- the symbols of the tokens from one place to another
abbrev pub between : List Token → List ℕ → ℕ → ℕ → List Sym
between tokens text at end = symbols text (slice_range tokens at end)

-- The longest front of the tokens from a place on that derives a type ends here, and this type alone is derived by it.
pub record IsReading (tokens : List Token) (text : List ℕ) (at : ℕ) (of : TypeExpr) (end : ℕ) : Type 0 where
  pub ordered : at ≤ end
  pub within : end ≤ length tokens
  pub derives : DerivesType (between tokens text at end) of
  pub only : (other : TypeExpr) → DerivesType (between tokens text at end) other → other ≡ of
  pub longest : (further : ℕ) (other : TypeExpr) → end < further → further ≤ length tokens → DerivesType (between tokens text at further) other → ⊥

-- no front of the tokens from a place on derives a type
pub record HasNoReading (tokens : List Token) (text : List ℕ) (at : ℕ) : Type 0 where
  pub none : (end : ℕ) (other : TypeExpr) → at ≤ end → end ≤ length tokens → DerivesType (between tokens text at end) other → ⊥

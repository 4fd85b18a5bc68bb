-- What `read_expr` and `read_stmt` answer.
use Rattle.std.specs.Prelude.{ℕ, ◌≡◌, ◌≤◌, ◌<◌, List, length}
use Rattle.tb_tree.specs.Sym.{Sym}
use Rattle.tb_scan.specs.declared.token.Token.{Token}
use Rattle.tb_parse_type.specs.Fronts.{between}

module _ {X : Type 0} (D : List Sym → X → Type 0) where
  -- The longest front of the tokens from a place on that derives anything ends here, and this alone is derived by it.
  pub record IsReading (tokens : List Token) (text : List ℕ) (at : ℕ) (of : X) (end : ℕ) : Type 0 where
    pub ordered : at ≤ end
    pub within : end ≤ length tokens
    pub derives : D (between tokens text at end) of
    pub only : (other : X) → D (between tokens text at end) other → other ≡ of
    pub longest : (further : ℕ) (other : X) → end < further → further ≤ length tokens → D (between tokens text at further) other → ⊥

  -- no front of the tokens from a place on derives anything
  pub record HasNoReading (tokens : List Token) (text : List ℕ) (at : ℕ) : Type 0 where
    pub none : (end : ℕ) (other : X) → at ≤ end → end ≤ length tokens → D (between tokens text at end) other → ⊥

-- What a rule answers.
use Rattle.std.specs.Prelude.{ℕ, ◌≡◌, true, false, Bool, List, ◌++◌, Option, Some, None}
use Rattle.tb_tree.specs.declared.exprs.Stmt.{Stmt}
use Rattle.tb_tree.specs.Sym.{Sym}
use Rattle.tb_tree.specs.Longest.{Found, Lacks}
use Rattle.tb_tree.specs.Exprs.{Around}
use Rattle.tb_parse_type.specs.declared.reader.Reader.{Reader}
use Rattle.tb_parse_type.specs.Reading.{rest, FoundAt}
use Rattle.tb_parse_body.specs.declared.fronts.Front.{Front}
use Rattle.tb_parse_body.specs.declared.fronts.StmtFront.{StmtFront}
use Rattle.tb_parse_body.specs.Rules.{Deep, StmtUpto, InStmt}

-- what was read is the longest front at a place
abbrev pub ReadsOne : {X : Type 0} → (List Sym → Deep X → Type 0) → (Sym → Type 0) → Reader → ℕ → Front X → Type 0
ReadsOne D C r at x = FoundAt D C r at (x.tree, x.depth) x.next

-- and nothing where no front derives anything
abbrev pub Reads : {X : Type 0} → (List Sym → Deep X → Type 0) → (Sym → Type 0) → Reader → ℕ → Option (Front X) → Type 0
Reads D C r at None = Lacks D (rest r at)
Reads D C r at (Some x) = ReadsOne D C r at x

-- Which statements may stand before an `else` of an outer `if`: what was read is closed exactly where some front is, and then it is
-- the only one.
pub record Closes (around : Around) (n : ℕ) (xs : List Sym) (x : Deep Stmt) (ys : List Sym) (closed : Bool) : Type 0 where
  pub closes : closed ≡ true → (front : List Sym) × (xs ≡ front ++ ys) × StmtUpto around true n front x
  pub alone : (a : List Sym) (y : Deep Stmt) (zs : List Sym) → StmtUpto around true n a y → xs ≡ a ++ zs → (closed ≡ true) × (x ≡ y) × (ys ≡ zs)

abbrev pub ReadsStmt : Around → ℕ → Reader → ℕ → Option StmtFront → Type 0
ReadsStmt around n r at None = Lacks (StmtUpto around false n) (rest r at)
ReadsStmt around n r at (Some x) = FoundAt (StmtUpto around false n) InStmt r at (x.tree, x.depth) x.next × Closes around n (rest r at) (x.tree, x.depth) (rest r x.next) x.closed

-- What follows the first part of an `if`.
use Rattle.std.specs.Prelude.{ℕ, ◌+◌, ◌≡◌, Bool, true, false, List, ◌∷◌, Option, Some, None}
use Rattle.tb_tree.specs.declared.words.Word.TheVariants as w
use Rattle.tb_tree.specs.declared.exprs.Stmt.{Stmt}
use Rattle.tb_tree.specs.Sym.{Sym}
use Rattle.tb_tree.specs.Shapes.{word}
use Rattle.tb_tree.specs.Longest.{Lacks}
use Rattle.tb_tree.specs.Exprs.{Around}
use Rattle.tb_parse_type.specs.declared.reader.Reader.{Reader}
use Rattle.tb_parse_type.specs.Reading.{rest, text_at, start_at, Stands}
use Rattle.tb_parse_body.specs.declared.fronts.StmtFront.{StmtFront}
use Rattle.tb_parse_body.specs.declared.stmts.BoxedStmtFront.{BoxedStmtFront}
use Rattle.tb_parse_body.specs.Rules.{Deep, StmtUpto}
use Rattle.tb_parse_body.specs.Reading.{ReadsStmt}

-- `else` and a statement, where the statement before it is closed
abbrev pub ElseUpto : Around → ℕ → Bool → List Sym → Deep Stmt → Type 0
ElseUpto around n closed xs r = (closed ≡ true) × (spelled : List ℕ) × (at : ℕ) × (ys : List Sym) × (xs ≡ word w.Else spelled at ∷ ys) × StmtUpto around false n ys r

-- what was read of a statement in a box
abbrev pub unboxed : BoxedStmtFront → StmtFront
unboxed x = record { tree = x.tree; depth = x.depth; next = x.next; closed = x.closed }

abbrev pub ReadsBoxed : Around → ℕ → Reader → ℕ → Option BoxedStmtFront → Type 0
ReadsBoxed around n r at None = Lacks (StmtUpto around false n) (rest r at)
ReadsBoxed around n r at (Some x) = ReadsStmt around n r at (Some (unboxed x))

abbrev pub ReadsElse : Around → ℕ → Bool → Reader → ℕ → Option BoxedStmtFront → Type 0
ReadsElse around n closed r at None = Lacks (ElseUpto around n closed) (rest r at)
ReadsElse around n closed r at (Some x) = (closed ≡ true) × Stands r at (word w.Else (text_at r at) (start_at r at)) × ReadsStmt around n r (at + 1) (Some (unboxed x))

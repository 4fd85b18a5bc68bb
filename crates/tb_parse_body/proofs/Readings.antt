-- What an answer of a rule says.
use Rattle.std.proofs.Common.{◌≡◌, ℕ, List, subst}
use Rattle.std.specs.Prelude.{Option, Some, None, false}
use Rattle.tb_tree.specs.declared.exprs.Stmt.{Stmt}
use Rattle.tb_tree.specs.Sym.{Sym}
use Rattle.tb_tree.specs.Longest.{Lacks}
use Rattle.tb_tree.specs.Exprs.{Around}
use Rattle.tb_parse_type.specs.declared.reader.Reader.{Reader}
use Rattle.tb_parse_type.specs.Reading.{rest, FoundAt}
use Rattle.tb_parse_body.specs.declared.fronts.Front.{Front}
use Rattle.tb_parse_body.specs.declared.fronts.StmtFront.{StmtFront}
use Rattle.tb_parse_body.specs.Rules.{Deep, StmtUpto, InStmt}
use Rattle.tb_parse_body.specs.Reading.{Reads, ReadsOne, ReadsStmt, Closes}

pub lacking : {X : Type 0} (D : List Sym → Deep X → Type 0) (C : Sym → Type 0) (r : Reader) (at : ℕ) (o : Option (Front X)) → o ≡ None → Reads D C r at o → Lacks D (rest r at)
lacking D C r at o e h = subst (λ v. Reads D C r at v) e h

pub reading : {X : Type 0} (D : List Sym → Deep X → Type 0) (C : Sym → Type 0) (r : Reader) (at : ℕ) (o : Option (Front X)) (x : Front X) → o ≡ Some x → Reads D C r at o
    → ReadsOne D C r at x
reading D C r at o x e h = subst (λ v. Reads D C r at v) e h

pub stmt_lacking : (around : Around) (n : ℕ) (r : Reader) (at : ℕ) (o : Option StmtFront) → o ≡ None → ReadsStmt around n r at o → Lacks (StmtUpto around false n) (rest r at)
stmt_lacking around n r at o e h = subst (λ v. ReadsStmt around n r at v) e h

pub stmt_reading : (around : Around) (n : ℕ) (r : Reader) (at : ℕ) (o : Option StmtFront) (x : StmtFront) → o ≡ Some x → ReadsStmt around n r at o
    → FoundAt (StmtUpto around false n) InStmt r at (x.tree, x.depth) x.next × Closes around n (rest r at) (x.tree, x.depth) (rest r x.next) x.closed
stmt_reading around n r at o x e h = subst (λ v. ReadsStmt around n r at v) e h

-- Function values that read what stands inside: expressions and blocks up to a depth, statements below one.
use Rattle.std.specs.Prelude.{ℕ, ◌≤◌, ◌<◌, Bool, length, Option, Result, IfOk}
use Rattle.tb_text.specs.declared.no_memory.NoMemory.{NoMemory}
use Rattle.tb_tree.specs.declared.exprs.Expr.{Expr}
use Rattle.tb_tree.specs.declared.exprs.Block.{Block}
use Rattle.tb_parse_type.specs.declared.reader.Reader.{Reader}
use Rattle.tb_tree.specs.Longest.{Never}
use Rattle.tb_parse_body.specs.declared.fronts.Around.{Around}
use Rattle.tb_parse_body.specs.declared.fronts.Front.{Front}
use Rattle.tb_parse_body.specs.declared.fronts.StmtFront.{StmtFront}
use Rattle.tb_parse_body.specs.Rules.{around_of, ExprUpto, BlockUpto, InExpr}
use Rattle.tb_parse_body.specs.Reading.{Reads, ReadsStmt}

pub record NestsExpr (bound : ℕ) (pre : Reader → ℕ → Bool → ℕ → Type 0) (post : Reader → ℕ → Bool → ℕ → Result (Option (Front Expr)) NoMemory → Type 0) : Type 0 where
  pub callable : (r : Reader) (at : ℕ) (typed : Bool) (limit : ℕ) → at ≤ length r.tokens.now → limit ≤ bound → pre r at typed limit
  pub reads : (r : Reader) (at : ℕ) (typed : Bool) (limit : ℕ) (answer : Result (Option (Front Expr)) NoMemory) → post r at typed limit answer
      → IfOk answer (λ o. Reads (ExprUpto typed limit) (InExpr typed) r at o)

pub record NestsBlock (bound : ℕ) (pre : Reader → ℕ → Around → ℕ → Type 0) (post : Reader → ℕ → Around → ℕ → Result (Option (Front Block)) NoMemory → Type 0) : Type 0 where
  pub callable : (r : Reader) (at : ℕ) (around : Around) (limit : ℕ) → at ≤ length r.tokens.now → limit ≤ bound → pre r at around limit
  pub reads : (r : Reader) (at : ℕ) (around : Around) (limit : ℕ) (answer : Result (Option (Front Block)) NoMemory) → post r at around limit answer
      → IfOk answer (λ o. Reads (BlockUpto (around_of around) limit) Never r at o)

pub record NestsStmt (bound : ℕ) (pre : Reader → ℕ → Around → ℕ → Type 0) (post : Reader → ℕ → Around → ℕ → Result (Option StmtFront) NoMemory → Type 0) : Type 0 where
  pub callable : (r : Reader) (at : ℕ) (around : Around) (limit : ℕ) → at ≤ length r.tokens.now → limit < bound → pre r at around limit
  pub reads : (r : Reader) (at : ℕ) (around : Around) (limit : ℕ) (answer : Result (Option StmtFront) NoMemory) → post r at around limit answer
      → IfOk answer (λ o. ReadsStmt (around_of around) limit r at o)

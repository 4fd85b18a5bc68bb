-- A function value that reads types up to an own count.
use Rattle.std.specs.Prelude.{ℕ, ◌≤◌, length, Option, Result, IfOk}
use Rattle.tb_text.specs.declared.no_memory.NoMemory.{NoMemory}
use Rattle.tb_tree.specs.declared.types.TypeExpr.{TypeExpr}
use Rattle.tb_parse_type.specs.declared.reader.Limits.{Limits}
use Rattle.tb_parse_type.specs.declared.reader.Reader.{Reader}
use Rattle.tb_parse_type.specs.declared.reader.Read.{Read}
use Rattle.tb_parse_type.specs.Rules.{TypeUpto, InType}
use Rattle.tb_parse_type.specs.Reading.{Reads}

pub record Nests (bound : ℕ) (pre : Reader → ℕ → Limits → Type 0) (post : Reader → ℕ → Limits → Result (Option (Read TypeExpr)) NoMemory → Type 0) : Type 0 where
  pub callable : (r : Reader) (at : ℕ) (l : Limits) → at ≤ length r.tokens.now → l.own ≤ bound → pre r at l
  pub reads : (r : Reader) (at : ℕ) (l : Limits) (answer : Result (Option (Read TypeExpr)) NoMemory) → post r at l answer → IfOk answer (λ o. Reads (TypeUpto l) InType r at o)

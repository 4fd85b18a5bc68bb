-- A plan at its stop.
use Rattle.std.proofs.Common.{ℕ, arith}
use Rattle.std.specs.Prelude.{Option, Some, None, IsTrue}
use Rattle.tb_memory.specs.Plans.{reaches, is_number}

pub number_reaches : (stop : Option ℕ) (call : ℕ) → IsTrue (is_number stop call) → IsTrue (reaches stop call)
number_reaches None call is = absurd (cc is)
number_reaches (Some stop) call is = grind arith

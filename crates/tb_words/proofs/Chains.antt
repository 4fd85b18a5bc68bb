-- Roots that are read one after the other.
use Rattle.std.proofs.Common.{ℕ, List, ◌++◌}
use Rattle.std.specs.Prelude.{Result, Ok, Err}
use Rattle.tb_text.specs.declared.statuses.UsageFault.{UsageFault}

abbrev pub Paths : Type 0
Paths = List (List ℕ)

-- paths that were made before others
abbrev pub behind : Paths → Result Paths UsageFault → Result Paths UsageFault
behind paths (Ok more) = Ok (paths ++ more)
behind paths (Err e) = Err e

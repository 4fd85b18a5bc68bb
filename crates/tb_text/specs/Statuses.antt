-- The exit status of the program: 0 to 4 are those of the TypeScript compiler's ExitStatus, the others this project's own.
use Rattle.std.specs.Prelude.{ℕ}
use Rattle.tb_text.specs.declared.statuses.Status.{Status}
use Rattle.tb_text.specs.declared.statuses.Status.TheVariants.{Clean, Skipped, Generated, InvalidProject, Cycle, Usage, NoMemory, Outside, NotBuilt}

abbrev pub code_of : Status → ℕ
code_of Clean = 0
code_of Skipped = 1
code_of Generated = 2
code_of InvalidProject = 3
code_of Cycle = 4
code_of (Usage fault) = 64
code_of NoMemory = 70
code_of (Outside which project) = 74
code_of NotBuilt = 75

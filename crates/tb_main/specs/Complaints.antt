-- What the program says on standard error of a run that ended so, and how one ends whose words cannot be had. This project's own.
use Rattle.std.specs.Prelude.{ℕ, List, Option, Some, None, codes}
use Rattle.std.specs.declared.io.ErrorKind.{ErrorKind}
use Rattle.std.specs.declared.io.ErrorKind.TheVariants.{OutOfMemory}
use Rattle.tb_text.specs.declared.statuses.Status.{Status}
use Rattle.tb_text.specs.declared.statuses.Status.TheVariants.{Clean, Skipped, Generated, InvalidProject, Cycle, Usage, NoMemory, Outside, NotBuilt}
use Rattle.tb_text.specs.declared.statuses.UsageFault.TheVariants.{Unread}

-- nothing of a run that settled
abbrev pub complaint_of : Status → Option (List ℕ)
complaint_of Clean = None
complaint_of Skipped = None
complaint_of Generated = None
complaint_of InvalidProject = None
complaint_of Cycle = None
complaint_of (Usage fault) = Some (codes "tsb: usage")
complaint_of NoMemory = Some (codes "tsb: out of memory")
complaint_of (Outside which project) = Some (codes "tsb: outside fault")
complaint_of NotBuilt = Some (codes "tsb: not built yet")

-- a word that is no text makes a faulty command line
abbrev pub unread_of : ErrorKind → Status
unread_of OutOfMemory = NoMemory
unread_of _ = Usage Unread

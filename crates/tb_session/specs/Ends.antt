-- When a run ends with which status, whatever the objects of the outside tell.
use Rattle.std.specs.Prelude.{◌≡◌, ◌≤◌, ◌⊎◌, ℕ, false, List, Option, None, IsSome, Ok, Err}
use Rattle.tb_text.specs.declared.statuses.Which.{Which}
use Rattle.tb_text.specs.declared.statuses.Which.TheVariants.{Tree, Disk, Feed, Sink}
use Rattle.tb_text.specs.declared.statuses.UsageFault.{UsageFault}
use Rattle.tb_text.specs.declared.statuses.Status.{Status}
use Rattle.tb_text.specs.declared.statuses.Status.TheVariants as status
use Rattle.tb_text.specs.Statuses.{code_of}
use Rattle.tb_words.specs.Commands.{command_of}
use Rattle.tb_words.specs.declared.commands.Command.{Command}
use Rattle.tb_session.specs.Blame.{Counts, OnlyFailed, NoneFailed}
use Rattle.tb_session.specs.Commands.{is_served}

-- the status is that of a settled generation
abbrev pub IsSettled : Status → Type 0
IsSettled status = code_of status ≤ 4

-- beside the disk, and no other object, a project is named
abbrev pub IsNamed : Which → Option (List ℕ) → Type 0
IsNamed Disk project = IsSome project
IsNamed Tree project = project ≡ None
IsNamed Feed project = project ≡ None
IsNamed Sink project = project ≡ None

pub record Ends (words : List (List ℕ)) (before after : Counts) (ended : Status) : Type 0 where
  -- an object is named only where a call of it failed in this run
  pub outside : (which : Which) (project : Option (List ℕ)) → ended ≡ status.Outside which project → OnlyFailed which before after × IsNamed which project
  -- with any other status no call failed
  pub inside : (((which : Which) (project : Option (List ℕ)) → ended ≡ status.Outside which project → ⊥) → after ≡ before)
  -- a usage fault is that of the words, and words with a fault have no other answer, but for want of memory
  pub usage : (fault : UsageFault) → ended ≡ status.Usage fault → command_of words ≡ Err fault
  pub faulty : (fault : UsageFault) → command_of words ≡ Err fault → (ended ≡ status.Usage fault) ⊎ (ended ≡ status.NoMemory)
  -- a command that is not served is not built, whatever the texts are
  pub unserved : (command : Command) → command_of words ≡ Ok command → is_served command ≡ false → (ended ≡ status.NotBuilt) ⊎ (ended ≡ status.NoMemory)
  -- completeness: where the words are a command and no call failed, the run settles, or wants for memory, or is not built
  pub complete : (command : Command) → command_of words ≡ Ok command → NoneFailed before after
      → IsSettled ended ⊎ (ended ≡ status.NoMemory) ⊎ (ended ≡ status.NotBuilt)

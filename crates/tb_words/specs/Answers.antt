-- Answers of the reading: a value, or the fault of the words. This project's own.
use Rattle.std.specs.Prelude.{◌≡◌, Option, Some, None, Result, Ok, Err}
use Rattle.tb_text.specs.declared.statuses.UsageFault.TheVariants.{Unread}
use Rattle.clap.specs.declared.error.kind.ErrorKind.{ErrorKind}
use Rattle.clap.specs.declared.error.kind.ErrorKind.TheVariants.{OutOfMemory}
use Rattle.tb_words.specs.Readings.{Given, seen}
use Rattle.tb_words.specs.declared.parse.Words.{Words}
use Rattle.tb_text.specs.declared.statuses.UsageFault.{UsageFault}
use Rattle.tb_words.specs.declared.commands.WordsFault.{WordsFault}
use Rattle.tb_words.specs.declared.commands.WordsFault.TheVariants as fault

-- the first fault, or what the second step makes of the value
abbrev pub and_then : {X Y : Type 0} → Result X UsageFault → (X → Result Y UsageFault) → Result Y UsageFault
and_then (Err e) next = Err e
and_then (Ok x) next = next x

-- a call answers what the definition says; want of memory says nothing
abbrev pub Gives : {X : Type 0} → Result X UsageFault → Result X WordsFault → Type 0
Gives wanted (Ok x) = wanted ≡ Ok x
Gives wanted (Err (fault.Usage e)) = wanted ≡ Err e
Gives wanted (Err fault.NoMemory) = Unit {0}

-- the words as they were read, or that they have no reading; want of memory says nothing
abbrev pub GivesReading : Option Given → Result Words WordsFault → Type 0
GivesReading wanted (Ok words) = wanted ≡ Some (seen words)
GivesReading wanted (Err (fault.Usage e)) = (wanted ≡ None) × (e ≡ Unread)
GivesReading wanted (Err fault.NoMemory) = Unit {0}

-- what a refusal of `clap` comes to
abbrev pub refusal_of : ErrorKind → WordsFault
refusal_of OutOfMemory = fault.NoMemory
refusal_of _ = fault.Usage Unread

-- What an error of the system says. This project's own.
use Rattle.std.specs.Prelude.{Bool, true, false}
use Rattle.std.specs.declared.io.ErrorKind.{ErrorKind}
use Rattle.std.specs.declared.io.ErrorKind.TheVariants.{NotFound, NotADirectory, IsADirectory, InvalidFilename, OutOfMemory}
use Rattle.tb_outside.specs.declared.errors.Trouble.{Trouble}
use Rattle.tb_outside.specs.declared.errors.Trouble.TheVariants.{Failed, NoMemory}

-- no file is there: a name that the system does not take, as it is too long or no text, is that of no file
abbrev pub is_absence : ErrorKind → Bool
is_absence NotFound = true
is_absence NotADirectory = true
is_absence IsADirectory = true
is_absence InvalidFilename = true
is_absence _ = false

-- refused memory is no fault
abbrev pub trouble_of : ErrorKind → Trouble
trouble_of OutOfMemory = NoMemory
trouble_of _ = Failed

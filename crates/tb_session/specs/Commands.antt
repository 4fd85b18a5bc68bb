-- Which commands this version builds.
use Rattle.std.specs.Prelude.{Bool, false, not, ◌||◌, is_some, Result, Ok, Err}
use Rattle.tb_text.specs.declared.statuses.UsageFault.{UsageFault}
use Rattle.tb_words.specs.declared.commands.Command.{Command}

-- a plain build: nothing is forced, cleaned, only told, watched or generated
abbrev pub is_served : Command → Bool
is_served command = not (command.force || command.clean || command.dry || command.watch || is_some command.gen_number)

-- the words are such a command
abbrev pub are_served : Result Command UsageFault → Bool
are_served (Ok command) = is_served command
are_served (Err fault) = false

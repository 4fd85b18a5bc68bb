-- What the lists of borrowed texts show. This project's own.
use Rattle.std.specs.Prelude.{ℕ, List}
use Rattle.tb_text.specs.Walks.{texts}
use Rattle.tb_options.specs.declared.members.PathList.{PathList}

-- a key of `paths`, with its texts
abbrev pub list_of : PathList → List ℕ × List (List ℕ)
list_of list = (list.key.now, texts list.texts.items)

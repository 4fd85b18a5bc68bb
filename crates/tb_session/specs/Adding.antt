-- The texts with one more file of a tree.
use Rattle.std.specs.Prelude.{ℕ, if◌then◌else◌, List, take}
use Rattle.std.specs.FinMap as map
use Rattle.tb_outside.specs.Told.{bytes_at}
use Rattle.tb_session.specs.Generations.{Tree, is_source, most_bytes}

abbrev pub with_text : Tree → Tree → List ℕ → Tree
with_text told texts path = if is_source path then map.insert texts path (take most_bytes (bytes_at told path)) else texts

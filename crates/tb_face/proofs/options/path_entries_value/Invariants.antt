use Rattle.std.proofs.Common.{◌≡◌, map, take}
use Rattle.serde_json.specs.View.{view}
use Rattle.tb_face.specs.Options.{path_entry_data}
use Rattle.tb_face.proofs.options.path_entries_value.Given as goal

abbrev pub invariant-loop-entry : goal.invariant-loop-entry
invariant-loop-entry l = map view l.values.items ≡ map path_entry_data (take l.entry-index l.entries)

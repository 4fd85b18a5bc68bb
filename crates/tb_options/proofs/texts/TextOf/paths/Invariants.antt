use Rattle.std.proofs.Common.{◌≡◌, ◌++◌, drop}
use Rattle.std.specs.List.{filter_map}
use Rattle.tb_text.specs.Walks.{texts}
use Rattle.tb_options.specs.Members.{named}
use Rattle.tb_options.proofs.texts.TextOf.paths.Given as goal

abbrev pub invariant-loop-text : goal.invariant-loop-text
invariant-loop-text l = filter_map (named l.self l.folder) (texts l.from) ≡ l.paths.items ++ filter_map (named l.self l.folder) (texts (drop l.text-index l.from))

use Rattle.std.proofs.Common.{◌≡◌, ◌++◌, drop}
use Rattle.std.specs.List.{filter_map}
use Rattle.tb_text.specs.Paths.{joined}
use Rattle.tb_text.specs.Walks.{texts}
use Rattle.tb_config.proofs.parts.targets.Given as goal

abbrev pub invariant-loop-text : goal.invariant-loop-text
invariant-loop-text l = filter_map (joined l.folder) (texts l.from) ≡ l.targets.items ++ filter_map (joined l.folder) (texts (drop l.text-index l.from))

use Rattle.std.proofs.Common.{◌≡◌, ◌++◌, drop}
use Rattle.tb_text.specs.Walks.{texts}
use Rattle.tb_config.specs.Settings.{patterns}
use Rattle.tb_config.proofs.parts.patterns.Given as goal

abbrev pub invariant-loop-text : goal.invariant-loop-text
invariant-loop-text l = patterns l.folder (texts l.from) ≡ l.found.items ++ patterns l.folder (texts (drop l.text-index l.from))

use Rattle.std.proofs.Common.{◌≡◌, ◌++◌, drop}
use Rattle.tb_text.specs.Walks.{texts}
use Rattle.tb_options.specs.Options.{astray}
use Rattle.tb_options.proofs.faults.check_texts.Given as goal

abbrev pub invariant-loop-text : goal.invariant-loop-text
invariant-loop-text l = l.initial.faults.items ++ astray l.kind l.folder (texts l.from) ≡ l.faults.items ++ astray l.kind l.folder (texts (drop l.text-index l.from))

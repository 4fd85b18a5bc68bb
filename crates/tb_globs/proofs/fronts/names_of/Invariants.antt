use Rattle.std.proofs.Common.{◌≡◌, ◌++◌, drop}
use Rattle.tb_text.specs.Walks.{texts}
use Rattle.tb_globs.specs.Fronts.{names_of}
use Rattle.tb_globs.proofs.fronts.names_of.Given as goal

abbrev pub invariant-loop-part : goal.invariant-loop-part
invariant-loop-part l = texts l.names.items ++ names_of (drop l.part-index l.parts) ≡ names_of l.parts

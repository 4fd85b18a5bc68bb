use Rattle.std.proofs.Common.{◌≡◌, ◌++◌, map, take}
use Rattle.tb_text.specs.Walks.{texts}
use Rattle.tb_globs.specs.declared.parts.Part.TheVariants.{Literal}
use Rattle.tb_globs.proofs.reading.push_literals.Given as goal

abbrev pub invariant-loop-segment : goal.invariant-loop-segment
invariant-loop-segment l = l.parts ≡ l.initial.parts ++ map Literal (texts (take l.segment-index l.segments))

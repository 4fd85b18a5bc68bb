use Rattle.std.proofs.Common.{◌≡◌, ◌++◌, map, take}
use Rattle.tb_text.specs.Walks.{texts}
use Rattle.tb_globs.specs.Globs.{own_part}
use Rattle.tb_globs.proofs.reading.push_own.Given as goal

abbrev pub invariant-loop-segment : goal.invariant-loop-segment
invariant-loop-segment l = l.parts ≡ l.initial.parts ++ map own_part (texts (take l.segment-index l.segments))

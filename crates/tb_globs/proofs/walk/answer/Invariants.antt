use Rattle.std.proofs.Common.{drop}
use Rattle.tb_text.specs.Walks.{texts}
use Rattle.tb_globs.specs.Rows.{IsRow, reaches}
use Rattle.tb_globs.proofs.walk.answer.Given as goal

abbrev pub invariant-loop-at : goal.invariant-loop-at
invariant-loop-at l = IsRow l.row (reaches l.usage (drop l.at l.parts)) (texts l.segments)

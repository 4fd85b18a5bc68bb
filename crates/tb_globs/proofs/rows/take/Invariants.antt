use Rattle.std.proofs.Common.{ℕ, List, Bool}
use Rattle.tb_text.specs.Walks.{texts}
use Rattle.tb_globs.specs.Globs.{fits_then}
use Rattle.tb_globs.specs.Rows.{IsRow}
use Rattle.tb_globs.proofs.Sides.{Between}
use Rattle.tb_globs.proofs.rows.take.Given as goal

abbrev pub invariant-loop-at : goal.invariant-loop-at
invariant-loop-at l = (f : List (List ℕ) → Bool) → IsRow l.initial.row f (texts l.segments) → Between l.row l.at (fits_then l.usage l.part f) f (texts l.segments)

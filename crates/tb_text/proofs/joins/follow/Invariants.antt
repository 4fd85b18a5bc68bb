use Rattle.std.proofs.Common.{◌≡◌, drop}
use Rattle.std.specs.Prelude.{Some, fold}
use Rattle.tb_text.specs.Paths.{step_by}
use Rattle.tb_text.specs.Walks.{texts}
use Rattle.tb_text.proofs.joins.follow.Given as goal

abbrev pub invariant-loop-part : goal.invariant-loop-part
invariant-loop-part l = fold step_by (Some (texts l.at.items)) (texts (drop l.part-index l.way)) ≡ fold step_by (Some (texts l.initial.at.items)) (texts l.way)

use Rattle.std.proofs.Common.{◌≡◌, ◌≤◌, drop}
use Rattle.std.specs.Prelude.{fold}
use Rattle.tb_text.specs.Walks.{texts}
use Rattle.tb_globs.specs.Globs.{standing}
use Rattle.tb_globs.proofs.reading.standing_after.Given as goal

abbrev pub invariant-loop-part : goal.invariant-loop-part
invariant-loop-part l = record { same : fold standing (l.kept, l.own) (texts (drop l.part-index l.way)) ≡ fold standing (l.base, 0) (texts l.way); few : l.own ≤ l.part-index }

use Rattle.std.proofs.Common.{◌-◌, length, take, drop}
use Rattle.std.specs.Prelude.{IsCharBoundary}
use Rattle.tb_scan.specs.Pieces.{Run, IsSpacing}
use Rattle.tb_scan.proofs.spacing.spacing_len.Given as goal

abbrev pub invariant-loop-length : goal.invariant-loop-length
invariant-loop-length l = record { cut : IsCharBoundary l.text l.at; run : Run IsSpacing (take l.at l.text) (drop l.at l.text) }

abbrev pub decreases-loop-length : goal.decreases-loop-length
decreases-loop-length l = length l.text - l.at

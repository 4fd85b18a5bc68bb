use Rattle.std.proofs.Common.{◌≡◌, ◌++◌, List, drop, map}
use Rattle.tb_jsonc.specs.Blanks.{cell}
use Rattle.tb_jsonc.specs.Commas.{finished}
use Rattle.tb_jsonc.specs.declared.pieces.Cell.{Cell}
use Rattle.tb_jsonc.proofs.commas.Commas.put_piece.Given as goal

abbrev pub invariant-loop-b : goal.invariant-loop-b
invariant-loop-b l = (later : List Cell) → finished l.self (map (cell l.kind) (drop l.b-index l.bytes) ++ later) ≡ finished l.initial.self (map (cell l.kind) l.bytes ++ later)

use Rattle.std.proofs.Common.{◌≡◌, drop}
use Rattle.std.specs.Prelude.{map}
use Rattle.tb_text.specs.Borrows.{plain_row}
use Rattle.tb_text.specs.Messages.{pieces_in}
use Rattle.tb_text.proofs.codes.first_with.Given as goal

abbrev pub invariant-loop-row : goal.invariant-loop-row
invariant-loop-row l = pieces_in (map plain_row (drop l.row-index l.rows)) l.code ≡ pieces_in (map plain_row l.rows) l.code

use Rattle.std.proofs.Common.{ap, ◌∙◌}
use Rattle.std.specs.Prelude.{map}
use Rattle.tb_text.specs.Borrows.{plain_row}
use Rattle.tb_text.specs.Messages.{pieces_in}
use Rattle.tb_text.proofs.codes.pieces_of.Goals as goal

pub returns : goal.returns
returns c = c.first_with.ensures ∙ ap (λ rows. pieces_in (map plain_row rows) c.args.code.now) c.as_slice.ensures

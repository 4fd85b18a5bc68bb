use Rattle.std.proofs.Common.{◌-◌, length, arith}
use Rattle.tb_globs.proofs.Ends.{end_row}
use Rattle.tb_globs.proofs.walk.answer_end.Goals as goal

pub returns : goal.returns
returns c = λ ss len.
    end_row c.args.usage c.loop-slot.row c.ends_anywhere-anywhere.result (length c.loop-slot.row - 1) ss c.ends_anywhere-anywhere.ensures
    (λ k l. c.loop-slot.invariant k (omega (arith, l, c.loop-slot-test.false, c.loop-slot.auto.row)))
    (omega (arith, len, c.loop-slot.auto.row)) (omega (arith, len, c.loop-slot.auto.row))

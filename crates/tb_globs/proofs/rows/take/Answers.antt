use Rattle.std.proofs.Common.{◌<◌, length, get_or, arith}
use Rattle.tb_text.specs.Walks.{texts}
use Rattle.tb_globs.proofs.Sides.{take_step, texts_at, texts_len}
use Rattle.tb_globs.proofs.rows.take.Goals as goal

pub loop-at-preserved : goal.loop-at-preserved
loop-at-preserved c = λ f row.
    let segments = c.args.segments.now in
    let m = c.loop-at.at in
    let within : m < length segments = c.loop-at-test.true in
    take_step c.args.usage c.args.part.now f (texts segments) c.loop-at.row m (get_or segments m _).now c.both.result c.fits-here.result
    (omega (arith, within, c.requires, c.loop-at.auto.row)) (texts_at segments m _ within) (omega (arith, within, texts_len segments)) c.fits-here.ensures c.both.ensures (c.loop-at.invariant f row)

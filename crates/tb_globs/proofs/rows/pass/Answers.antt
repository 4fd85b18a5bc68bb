use Rattle.std.proofs.Common.{◌≡◌, ◌+◌, ◌-◌, ◌<◌, length, get_or, arith}
use Rattle.tb_text.specs.Walks.{texts}
use Rattle.tb_globs.proofs.Sides.{pass_step, texts_at, texts_len}
use Rattle.tb_globs.proofs.rows.pass.Goals as goal

pub loop-at-preserved : goal.loop-at-preserved
loop-at-preserved c = λ f row.
    let segments = c.args.segments.now in
    let m = c.loop-at.at - 1 in
    let back : c.loop-at.at ≡ m + 1 = omega (arith, c.loop-at-test.true) in
    let within : m < length segments = omega (arith, c.loop-at-test.true, c.loop-at.auto.at) in
    pass_step c.args.usage f (texts segments) c.loop-at.row c.loop-at.at m (get_or segments m _).now c.here_or_later.result c.may_pass-passes.result
    back (omega (arith, within, c.requires, c.loop-at.auto.row)) (texts_at segments m _ within) (omega (arith, within, texts_len segments)) c.may_pass-passes.ensures c.here_or_later.ensures (c.loop-at.invariant f row)

use Rattle.tb_emit_js.proofs.Joins.{line_further}
use Rattle.tb_emit_js.proofs.texts.write_new_line.Goals as goal

pub loop-preserved : goal.loop-preserved
loop-preserved c = line_further _ _ _ _ _ c.loop-test.true c.in_ok-push_str-2.ensures.bytes c.loop.invariant

use Rattle.std.proofs.Common.{◌<◌, length, lit<, sym, ◌∙◌, arith}
use Rattle.std.proofs.lemmas.Grind.{common_steps}
use Rattle.std.proofs.lemmas.Iterator.Consumers.{YieldsList-end}
use Rattle.std.proofs.lemmas.Iterator.Splits.{YieldsList-from_str_split}
use Rattle.tb_globs.proofs.Ends.{segments_full}
use Rattle.tb_globs.proofs.walk.cut.Goals as goal

pub returns-clause-segments : goal.returns-clause-segments
returns-clause-segments c =
    let some : 0 < length c.args.path.now = grind (arith, common_steps, c.is_empty.ensures, c.if-is_empty.false) in
    let ended = YieldsList-end (YieldsList-from_str_split 47 c.args.path.now (lit< tt) (cc c.split-segment-items.ensures.text) (cc c.split-segment-items.ensures.has_more) (cc c.split-segment-items.ensures.pattern)) c.loop-segment.yielded _ c.loop-segment.yielded_by _ _ c.in-None.is c.next.ensures.steps in
    c.loop-segment.invariant.same ∙ ended.0 ∙ sym (segments_full c.args.path.now some)

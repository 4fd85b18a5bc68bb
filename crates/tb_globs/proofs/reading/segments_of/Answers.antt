use Rattle.std.proofs.Common.{◌<◌, length, lit<, arith}
use Rattle.std.proofs.lemmas.Grind.{common_steps}
use Rattle.std.proofs.lemmas.Iterator.Consumers.{map_from_collect}
use Rattle.std.proofs.lemmas.Iterator.Splits.{YieldsList-from_str_split}
use Rattle.tb_globs.proofs.Ends.{segments_full}
use Rattle.tb_globs.proofs.reading.segments_of.Goals as goal

pub returns : goal.returns
returns c =
    let some : 0 < length c.args.text.now = grind (arith, common_steps, c.is_empty.ensures, c.if-is_empty.false) in
    rw (segments_full c.args.text.now some) (map_from_collect _ c.collect.ensures.ran (YieldsList-from_str_split 47 c.args.text.now (lit< tt) c.split.ensures.text c.split.ensures.has_more c.split.ensures.pattern))

use Rattle.std.proofs.Common.{◌<◌, length, arith}
use Rattle.std.specs.Str.{chars}
use Rattle.std.proofs.lemmas.Grind.{common_steps}
use Rattle.tb_globs.proofs.Chunks.{found_more}
use Rattle.tb_globs.proofs.cover.place_here.Goals as goal

pub returns-then-not-is_empty : goal.returns-then-not-is_empty
returns-then-not-is_empty c =
    let more : 0 < length c.in_ok-rest.rest.now = grind (arith, common_steps, c.is_empty.ensures, c.if-not-is_empty.true) in
    found_more c.args.pattern.now (chars c.args.text.now) c.in_ok-rest.rest.now c.in_ok-rest.left.now c.in_ok-rest.ensures more

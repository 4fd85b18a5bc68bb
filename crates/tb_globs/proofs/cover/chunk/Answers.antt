use Rattle.std.proofs.Common.{◌≡◌, false, true, sym}
use Rattle.std.specs.Prelude.{◌==◌, ◌||◌}
use Rattle.std.specs.Str.{chars}
use Rattle.std.proofs.lemmas.Bool.{ne_eqb}
use Rattle.tb_globs.proofs.Chunks.{chunk_more}
use Rattle.tb_globs.proofs.cover.chunk.Goals as goal

pub loop-wanted-preserved : goal.loop-wanted-preserved
loop-wanted-preserved c =
    let wanted = c.in-Some.wanted in
    let single : (wanted == 42) ≡ false = ne_eqb wanted 42 c.if-wanted-eq42.false in
    let matches : (wanted == 63 || wanted == c.in_ok-first.first) ≡ true = sym c.if-not-stands_for.ensures in
    record {
      so_far = chunk_more c.args.pattern.now (chars c.args.text.now) c.loop-wanted.rest.now (chars c.loop-wanted.left.now) wanted c.in-Some.after.now c.in_ok-first.first (chars c.in_ok-first.later.now) c.loop-wanted.invariant.so_far c.in-Some.ensures single c.in_ok-first.ensures.0 matches;
      utf8 = c.in_ok-first.ensures.1;
    }

use Rattle.std.proofs.Common.{◌≡◌, length}
use Rattle.std.specs.Str.{IsUtf8, chars}
use Rattle.tb_globs.specs.Covers.{covers}
use Rattle.tb_globs.specs.Chunks.{AtStar}
use Rattle.tb_globs.proofs.cover.covers.Given as goal

abbrev pub invariant-loop-star : goal.invariant-loop-star
invariant-loop-star l = record { same : covers l.pattern (chars l.text) ≡ covers l.rest (chars l.left); star : AtStar l.rest; utf8 : IsUtf8 l.left }

abbrev pub decreases-loop-star : goal.decreases-loop-star
decreases-loop-star l = length l.rest

use Rattle.std.proofs.Common.{◌≡◌, length}
use Rattle.std.specs.Str.{IsUtf8, chars}
use Rattle.tb_globs.specs.Covers.{covers, some_rest}
use Rattle.tb_globs.proofs.cover.search.Given as goal

abbrev pub invariant-loop-place : goal.invariant-loop-place
invariant-loop-place l = record { same : some_rest (covers l.pattern) (chars l.text) ≡ some_rest (covers l.pattern) (chars l.from); utf8 : IsUtf8 l.from }

abbrev pub decreases-loop-place : goal.decreases-loop-place
decreases-loop-place l = length (chars l.from)

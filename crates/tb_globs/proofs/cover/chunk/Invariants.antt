use Rattle.std.proofs.Common.{length}
use Rattle.std.specs.Str.{IsUtf8, chars}
use Rattle.tb_globs.specs.Chunks.{Advance}
use Rattle.tb_globs.proofs.cover.chunk.Given as goal

abbrev pub invariant-loop-wanted : goal.invariant-loop-wanted
invariant-loop-wanted l = record { so_far : Advance l.pattern (chars l.text) l.rest (chars l.left); utf8 : IsUtf8 l.left }

abbrev pub decreases-loop-wanted : goal.decreases-loop-wanted
decreases-loop-wanted l = length l.rest

use Rattle.std.proofs.Common.{◌≡◌, ◌+◌, drop, false}
use Rattle.std.specs.Prelude.{option_map}
use Rattle.tb_jsonc.specs.Pieces.{block_len}
use Rattle.tb_jsonc.proofs.pieces.block_len.Given as goal

abbrev pub invariant-loop-i : goal.invariant-loop-i
invariant-loop-i l = option_map (λ n. n + l.i) (block_len l.starred (drop l.i l.text)) ≡ block_len false l.text

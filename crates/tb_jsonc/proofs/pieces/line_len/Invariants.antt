use Rattle.std.proofs.Common.{◌≡◌, ◌+◌, drop}
use Rattle.tb_jsonc.specs.Pieces.{line_len}
use Rattle.tb_jsonc.proofs.pieces.line_len.Given as goal

abbrev pub invariant-loop-i : goal.invariant-loop-i
invariant-loop-i l = line_len (drop l.i l.text) + l.i ≡ line_len l.text

use Rattle.std.proofs.Common.{◌≡◌, ◌+◌, drop, false}
use Rattle.tb_jsonc.specs.Pieces.{string_len}
use Rattle.tb_jsonc.proofs.pieces.string_len.Given as goal

abbrev pub invariant-loop-i : goal.invariant-loop-i
invariant-loop-i l = string_len l.escaped (drop l.i l.text) + l.i ≡ string_len false l.text

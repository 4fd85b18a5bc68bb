use Rattle.std.proofs.Common.{◌≡◌, ◌+◌, ◌*◌, ◌≤◌, ◌^◌, take}
use Rattle.tb_scan.specs.Pieces.{hex_value}
use Rattle.tb_scan.proofs.digits.hex_value.Given as goal

abbrev pub invariant-loop-digit : goal.invariant-loop-digit
invariant-loop-digit l = record { value : l.value ≡ hex_value (take l.digit-index l.digits); bound : l.value * 15 + 36 ≤ 36 * 16 ^ l.digit-index }

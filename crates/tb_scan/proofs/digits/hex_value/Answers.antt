use Rattle.std.proofs.Common.{arith}
use Rattle.tb_scan.proofs.TestLemmas.{low_power}
use Rattle.tb_scan.proofs.digits.hex_value.Goals as goal

pub overflow_mul-value : goal.overflow_mul-value
overflow_mul-value c = omega (arith, c.loop-digit.invariant.bound, low_power c.loop-digit.digit-index (omega arith))

pub overflow_add-value : goal.overflow_add-value
overflow_add-value c = omega (arith, c.loop-digit.invariant.bound, low_power c.loop-digit.digit-index (omega arith), c.digit_value.ensures.bound)

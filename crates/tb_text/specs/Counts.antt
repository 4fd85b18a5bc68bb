-- Counts that stay at the last value of u64. This project's own.
use Rattle.std.proofs.Common.{◌≡◌, arith}
use Rattle.std.specs.Prelude.{ℕ, ◌+◌, ◌-◌, ◌^◌, min}

-- the sum, or the last value where it is larger
abbrev pub plus : ℕ → ℕ → ℕ
plus a b = min (a + b) (2 ^ 64 - 1)

pub plus_assoc : (a b c : ℕ) → plus (plus a b) c ≡ plus a (b + c)
plus_assoc a b c = omega arith

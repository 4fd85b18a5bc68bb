-- How a count of faults goes over a call. This project's own.
use Rattle.std.specs.Prelude.{◌≡◌, ℕ, Bool, true, false, IsTrue, IsFalse, ◌+◌, ◌-◌, ◌^◌, ◌≤◌, min, Result, Ok, Err}
use Rattle.tb_outside.specs.declared.errors.Failed.{Failed}
use Rattle.tb_outside.specs.declared.errors.Trouble as trouble

-- a count of faults rose, or stands at the last value of u64
abbrev pub Rose : ℕ → ℕ → Type 0
Rose before now = min (before + 1) (2 ^ 64 - 1) ≤ now

-- the count never falls; it rises where the call failed, and at no other answer
pub record Causes (before now : ℕ) (failed : Bool) : Type 0 where
  pub later : before ≤ now
  pub rose : IsTrue failed → Rose before now
  pub still : IsFalse failed → now ≡ before

-- the answer is that the call failed
abbrev pub has_failed : {T : Type 0} → Result T Failed → Bool
has_failed (Ok value) = false
has_failed (Err e) = true

-- the same, of a call that may also want for memory
abbrev pub is_fault : trouble.Trouble → Bool
is_fault trouble.TheVariants.Failed = true
is_fault trouble.TheVariants.NoMemory = false

abbrev pub has_fault : {T : Type 0} → Result T trouble.Trouble → Bool
has_fault (Ok value) = false
has_fault (Err e) = is_fault e

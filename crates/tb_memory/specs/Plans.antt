-- The calls of an object in memory that are to fail. This project's own.
use Rattle.std.specs.Prelude.{◌≡◌, ◌⊎◌, ℕ, ◌+◌, ◌≤◌, List, Option, Some, None, Bool, false, ◌||◌, ◌==◌, nat_le, if◌then◌else◌, IsTrue, IsFalse}
use Rattle.std.specs.List.{list_any}
use Rattle.tb_text.specs.Counts.{plus}
use Rattle.tb_outside.specs.Causes.{Rose}

-- the calls that are to fail, by their numbers, and each from the stop on; the number of the next call, and how many failed
pub record Plan : Type 0 where
  pub failing : List ℕ
  pub stop : Option ℕ
  pub calls : ℕ
  pub faults : ℕ

abbrev pub reaches : Option ℕ → ℕ → Bool
reaches None call = false
reaches (Some stop) call = nat_le stop call

-- the next call is to fail
abbrev pub is_due : Plan → Bool
is_due plan = reaches plan.stop plan.calls || list_any (λ n. n == plan.calls) plan.failing

abbrev pub is_number : Option ℕ → ℕ → Bool
is_number None call = false
is_number (Some stop) call = stop == call

-- the next call is the stop
abbrev pub is_stop : Plan → Bool
is_stop plan = is_number plan.stop plan.calls

-- the plan after a call, by whether it failed
abbrev pub after_call : Plan → Bool → Plan
after_call plan failed = record {
  failing = plan.failing;
  stop = plan.stop;
  calls = plus plan.calls 1;
  faults = if failed then plus plan.faults 1 else plan.faults;
}

-- a call fails just where it is to fail, or memory was refused: the count of that rises by at most one, and in no other call;
-- of the calls that are to fail, the one at the stop alone may want for memory
pub record FailsWhere (plan : Plan) (before now : ℕ) (failed : Bool) : Type 0 where
  pub later : before ≤ now
  pub once : now ≤ before + 1
  pub cause : IsTrue failed → IsTrue (is_due plan) ⊎ Rose before now
  pub planned : IsTrue (is_due plan) → IsFalse (is_stop plan) → now ≡ before
  pub fine : IsFalse failed → IsFalse (is_due plan) × (now ≡ before)

-- The form of numbers. This project's own.
use Rattle.std.specs.Prelude.{◌≡◌, ◌==◌, ◌||◌, ◌&&◌, ◌<◌, ◌≤◌, ◌⊎◌, ℕ, Bool, true, false, not, IsTrue, Option, Some, None, List, [], ◌∷◌, ◌++◌, length, take, if◌then◌else◌}
use Rattle.std.specs.List.{list_all}
use Rattle.tb_scan.specs.Characters.{is_digit, begins_where}

-- one or more digits
abbrev pub are_digits : ℕ → List ℕ → Bool
are_digits base [] = false
are_digits base (d ∷ ds) = is_digit base d && list_all (is_digit base) ds

-- `0`, or digits without leading `0`
abbrev pub is_whole : List ℕ → Bool
is_whole [] = false
is_whole (d ∷ []) = is_digit 10 d
is_whole (d ∷ ds) = not (d == 48) && are_digits 10 (d ∷ ds)

-- nothing, or `.` and digits
abbrev pub is_fraction : List ℕ → Bool
is_fraction [] = true
is_fraction (c ∷ ds) = (c == 46) && are_digits 10 ds

-- digits, or a sign and digits
abbrev pub is_power : List ℕ → Bool
is_power [] = false
is_power (c ∷ ds) = are_digits 10 (c ∷ ds) || (((c == 43) || (c == 45)) && are_digits 10 ds)

-- nothing, or `e` or `E`, an optional sign and digits
abbrev pub is_exponent : List ℕ → Bool
is_exponent [] = true
is_exponent (c ∷ ds) = ((c == 101) || (c == 69)) && is_power ds

-- what `x`, `o` or `b` after `0` says of the base
abbrev pub base_of : ℕ → Option ℕ
base_of c = if c == 120 then Some 16 else (if c == 111 then Some 8 else (if c == 98 then Some 2 else None))

pub data IsNumber : List ℕ → Type 0 where
  decimal : (whole fraction exponent : List ℕ) → IsTrue (is_whole whole) → IsTrue (is_fraction fraction) → IsTrue (is_exponent exponent)
      → IsNumber (whole ++ (fraction ++ exponent))
  based : (letter base : ℕ) (ds : List ℕ) → base_of letter ≡ Some base → IsTrue (are_digits base ds) → IsNumber (48 ∷ letter ∷ ds)

-- a part of a number: the front of n bytes has the form, and it is the longest; behind a shorter one the text goes on with a byte
-- that passes the test
pub record IsPart (D : List ℕ → Type 0) (on : ℕ → Bool) (xs : List ℕ) (n : ℕ) : Type 0 where
  pub within : n ≤ length xs
  pub form : D (take n xs)
  pub longest : (u zs : List ℕ) → xs ≡ u ++ zs → D u → (length u ≡ n) ⊎ ((length u < n) × (begins_where on zs ≡ true))

-- one part and then the other
pub data Joined (D E : List ℕ → Type 0) : List ℕ → Type 0 where
  join : (a b : List ℕ) → D a → E b → Joined D E (a ++ b)

abbrev pub IsWhole : List ℕ → Type 0
IsWhole t = IsTrue (is_whole t)

abbrev pub IsFraction : List ℕ → Type 0
IsFraction t = IsTrue (is_fraction t)

abbrev pub IsPower : List ℕ → Type 0
IsPower t = IsTrue (is_power t)

abbrev pub IsExponent : List ℕ → Type 0
IsExponent t = IsTrue (is_exponent t)

abbrev pub any : ℕ → Bool
any c = true

abbrev pub in_fraction : ℕ → Bool
in_fraction c = (c == 46) || is_digit 10 c

-- no front of the text has the form
pub record Lacks (D : List ℕ → Type 0) (xs : List ℕ) : Type 0 where
  pub none : (u zs : List ℕ) → xs ≡ u ++ zs → D u → ⊥

pub data IsBased : List ℕ → Type 0 where
  based : (letter base : ℕ) (ds : List ℕ) → base_of letter ≡ Some base → IsTrue (are_digits base ds) → IsBased (48 ∷ letter ∷ ds)

-- the front of n bytes has the form, and no longer front has it
pub record IsLongestFront (D : List ℕ → Type 0) (xs : List ℕ) (n : ℕ) : Type 0 where
  pub within : n ≤ length xs
  pub form : D (take n xs)
  pub longest : (u zs : List ℕ) → xs ≡ u ++ zs → D u → length u ≤ n

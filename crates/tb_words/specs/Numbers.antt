-- Numbers in words: `0`, or decimal digits without a leading `0`. This project's own.
use Rattle.std.specs.Prelude.{ℕ, Bool, true, false, ◌&&◌, ◌==◌, not, nat_le, List, [], ◌∷◌, Option, Some, None, Result, Ok, Err, if◌then◌else◌}
use Rattle.std.specs.List.{list_all}
use Rattle.std.specs.Char.{is_ascii_digit}
use Rattle.std.specs.Str.Parse.{digits_value}
use Rattle.tb_text.specs.declared.statuses.UsageFault.{UsageFault}
use Rattle.tb_text.specs.declared.statuses.UsageFault.TheVariants.{BadNumber}

-- only `0` itself begins with a `0`
abbrev pub begins_well : List ℕ → Bool
begins_well [] = false
begins_well (digit ∷ []) = true
begins_well (digit ∷ next ∷ rest) = not (digit == 48)

abbrev pub is_number : List ℕ → Bool
is_number text = begins_well text && list_all is_ascii_digit text

-- the number that a text writes, if it is at least and at most these
abbrev pub number_in : ℕ → ℕ → List ℕ → Option ℕ
number_in least most text =
    let n = digits_value 10 text in
    if is_number text && (nat_le least n && nat_le n most) then Some n else None

-- the value of an option, or that it is bad
abbrev pub number_for : List ℕ → Option ℕ → Result ℕ UsageFault
number_for name (Some n) = Ok n
number_for name None = Err (BadNumber name)

-- the value of an option, which need not be given
abbrev pub optional_number : List ℕ → ℕ → ℕ → Option (List ℕ) → Result (Option ℕ) UsageFault
optional_number name least most None = Ok None
optional_number name least most (Some text) = some_number (number_for name (number_in least most text))
  where
    some_number : Result ℕ UsageFault → Result (Option ℕ) UsageFault
    some_number (Ok n) = Ok (Some n)
    some_number (Err e) = Err e

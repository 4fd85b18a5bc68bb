-- Numbers of digits.
use Rattle.std.proofs.Common.{◌≡◌, ℕ, ◌<◌, ◌^◌, Bool, true, false, cond, List, [], ◌∷◌, refl, sym, ap, ◌∙◌, arith, rules, inl, inr}
use Rattle.std.specs.Prelude.{Some, None, Err, nat_le, ◌&&◌}
use Rattle.std.specs.List.{list_all}
use Rattle.std.specs.Char.{is_ascii_digit}
use Rattle.std.specs.Str.Parse.{digits_value, ParsesUnsigned}
use Rattle.std.proofs.lemmas.Bool.{and_parts, cases_lt}
use Rattle.std.proofs.lemmas.Bool.Decides.{nat_tests}
use Rattle.std.proofs.lemmas.Str.Parse.{IsNumeralModel, numerals_by_value, parse_digits}
use Rattle.tb_words.specs.Numbers.{begins_well, is_number, number_in}

own : IsNumeralModel (λ ds. list_all is_ascii_digit ds ≡ true) (digits_value 10)
own = numerals_by_value _ (search rules)

beyond : (n most : ℕ) → most < n → nat_le n most ≡ false
beyond n most lt = grind (arith, nat_tests)

and_false : (a b : Bool) → a && (b && false) ≡ false
and_false true true = refl
and_false true false = refl
and_false false b = refl

-- a text of digits that is no number of 32 bits writes one above all of them
pub too_big : {E : Type 0} (least most : ℕ) (text : List ℕ) (e : E) → most < 2 ^ 32 → is_number text ≡ true → ParsesUnsigned {E = E} 32 10 text (Err e) → None ≡ number_in least most text
too_big least most [] e small is h = cc
too_big least most (c ∷ cs) e small is h =
    let text : List ℕ = c ∷ cs in
    let digits = (and_parts (begins_well text) (list_all is_ascii_digit text) is).1 in
    let none = parse_digits own 32 text (Err e) h digits in
    let n = digits_value 10 text in
    let large : most < n = elim (cases_lt n (2 ^ 32)) [ inl lt ↦ absurd (none (omega arith, lt)) | inr ge ↦ omega arith ] in
    sym (ap (λ b. cond (is_number text && (nat_le least n && b)) (Some n) None) (beyond n most large) ∙ ap (λ b. cond b (Some n) None) (and_false (is_number text) (nat_le least n)))

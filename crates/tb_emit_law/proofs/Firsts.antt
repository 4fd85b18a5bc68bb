-- With which bytes words and numbers begin and go on.
use Rattle.std.proofs.Common.{◌≡◌, ℕ, zero, suc, ◌<◌, ◌≤◌, ◌==◌, Bool, true, false, List, [], ◌∷◌, ◌++◌, sym, ap, subst, refl, arith, inl, inr, lit<, append_assoc}
use Rattle.std.specs.Prelude.{◌&&◌, ◌||◌, not, nat_lt}
use Rattle.std.specs.Char.{is_ascii_alphabetic, is_ascii_alphanumeric}
use Rattle.std.specs.List.{list_all}
use Rattle.std.proofs.lemmas.Bool.{cases_lt}
use Rattle.std.proofs.lemmas.Bool.Decides.{nat_tests}
use Rattle.unicode_ident.proofs.IdentLemmas.{is_xid_start-ascii, is_xid_continue-ascii}
use Rattle.tb_scan.specs.Characters.{is_word_start, is_word_part, is_digit}
use Rattle.tb_scan.specs.Numbers.{IsNumber, is_whole, are_digits}
use Rattle.tb_scan.proofs.TestLemmas.{and_left, and_right, and_both, not_both}

-- ---- tests on bytes

unfoldable pub below : ℕ → (ℕ → Bool) → Bool
below zero p = true
below (suc n) p = p n && below n p

below_all : (n : ℕ) (p : ℕ → Bool) → below n p ≡ true → (c : ℕ) → c < n → p c ≡ true
unfolding below
below_all zero p h c l = absurd (omega (arith, l))
below_all (suc n) p h c l = elim (cases_lt c n) [
  | inl less ↦ below_all n p (and_right (p n) (below n p) h) c less
  | inr more ↦ let e : n ≡ c = omega (arith, l, more) in subst (λ x. p x ≡ true) e (and_left (p n) (below n p) h)
]

-- two tests that no byte below 128 passes both of
abbrev pub apart : (ℕ → Bool) → (ℕ → Bool) → Bool
apart p q = below 128 (λ b. not (p b && q b))

pub not_true : (a : Bool) → not a ≡ true → a ≡ false
not_true true h = let no : false ≡ true = h in cc
not_true false h = refl

pub clash : (p q : ℕ → Bool) (b : ℕ) → apart p q ≡ true → b < 128 → p b ≡ true → q b ≡ true → ⊥
unfolding below
clash p q b h l s t = not_both (p b && q b) (and_both (p b) (q b) s t) (not_true (p b && q b) (below_all 128 (λ b. not (p b && q b)) h b l))

-- `$`, `_` or a letter
abbrev pub is_start : ℕ → Bool
is_start c = (c == 36) || (c == 95) || is_ascii_alphabetic c

abbrev pub is_part : ℕ → Bool
is_part c = (c == 36) || (is_ascii_alphanumeric c || (c == 95))

pub start_ascii : (c : ℕ) → c < 128 → is_word_start c ≡ is_start c
start_ascii c h = ap (λ b. (c == 36) || (c == 95) || b) (is_xid_start-ascii c h)

pub part_ascii : (c : ℕ) → c < 128 → is_word_part c ≡ is_part c
part_ascii c h = ap (λ b. (c == 36) || b) (is_xid_continue-ascii c h)

abbrev pub is_decimal : ℕ → Bool
is_decimal = is_digit 10

pub nat_same : (b : ℕ) → (b == b) ≡ true
nat_same b = grind (arith, nat_tests)

pub low_by : (c : ℕ) → nat_lt c 128 ≡ true → c < 128
low_by c h = grind (arith, nat_tests)

pub by_low : (c : ℕ) → c < 128 → nat_lt c 128 ≡ true
by_low c h = grind (arith, nat_tests)

-- ---- the first byte of a number

-- a byte below 128 that passes, and what follows it
pub record First (test : ℕ → Bool) (xs : List ℕ) : Type 0 where
  pub byte : ℕ
  pub rest : List ℕ
  pub whole : xs ≡ byte ∷ rest
  pub low : byte < 128
  pub passes : test byte ≡ true

decimal_low : (d : ℕ) → is_digit 10 d ≡ true → d < 128
decimal_low d h = elim (cases_lt d 123) [
  | inl less ↦ omega (arith, less)
  | inr more ↦ absurd (high d more h)
]
  where
    high : (d : ℕ) → 123 ≤ d → is_digit 10 d ≡ true → ⊥
    high d m h = grind (arith, nat_tests)

whole_first : (t ys : List ℕ) → is_whole t ≡ true → First is_decimal (t ++ ys)
whole_first [] ys h = let no : false ≡ true = h in cc
whole_first (d ∷ []) ys h = record { byte = d; rest = ys; whole = refl; low = decimal_low d h; passes = h }
whole_first (d ∷ e ∷ u) ys h =
    let digit = and_left (is_digit 10 d) (list_all (is_digit 10) (e ∷ u)) (and_right (not (d == 48)) (are_digits 10 (d ∷ e ∷ u)) h) in
    record { byte = d; rest = e ∷ u ++ ys; whole = refl; low = decimal_low d digit; passes = digit }

pub number_first : {t : List ℕ} (ys : List ℕ) → IsNumber t → First is_decimal (t ++ ys)
number_first ys (IsNumber.decimal whole fraction exponent w f e) =
    subst (λ x. First is_decimal x) (sym (append_assoc whole (fraction ++ exponent) ys)) (whole_first whole ((fraction ++ exponent) ++ ys) w)
number_first ys (IsNumber.based letter base ds b h) = record { byte = 48; rest = letter ∷ ds ++ ys; whole = refl; low = lit< tt; passes = refl }

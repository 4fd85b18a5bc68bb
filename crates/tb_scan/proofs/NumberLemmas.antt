-- The longest number.
use Rattle.std.proofs.Common.{inl, inr, ◌≡◌, ℕ, ◌+◌, ◌<◌, ◌≤◌, ◌==◌, Bool, true, false, cond, List, [], ◌∷◌, ◌++◌, length, take, drop, sym, ap, subst, ◌∙◌, refl, arith, length-append, append_assoc}
use Rattle.std.specs.Prelude.{◌&&◌, ◌||◌, ◌⊎◌, not, Some, None}
use Rattle.std.specs.List.{list_all, prefix_len}
use Rattle.std.proofs.Math.Seq.{drop-append_seam, take-add}
use Rattle.std.proofs.lemmas.List.{take-append-drop, length-drop, length-take}
use Rattle.std.proofs.lemmas.List.Sums.{prefix_len-le-length}
use Rattle.std.proofs.lemmas.Bool.{eqb-true, cases_lt}
use Rattle.tb_scan.specs.Characters.{is_digit, begins, begins_where}
use Rattle.tb_scan.specs.Numbers.{are_digits, is_whole, is_fraction, is_power, is_exponent, base_of, IsNumber, IsPart, Joined, IsWhole, IsFraction, IsPower, IsExponent, any, in_fraction, Lacks, IsBased, IsLongestFront}
use Rattle.tb_scan.proofs.Spaces.{begun_by}
use Rattle.tb_scan.proofs.TestLemmas.{and_left, and_right, and_both, not_both, prefix_past, passes_first}

pub or_left : (a b : Bool) → a ≡ true → (a || b) ≡ true
or_left true b h = refl
or_left false b h = let no : false ≡ true = h in cc

pub or_right : (a b : Bool) → b ≡ true → (a || b) ≡ true
or_right true b h = refl
or_right false b h = h

pub or_either : (a b : Bool) → (a || b) ≡ true → (a ≡ true) ⊎ (b ≡ true)
or_either true b h = inl refl
or_either false b h = inr h

begins_left : (p q : ℕ → Bool) (xs : List ℕ) → begins_where p xs ≡ true → begins_where (λ c. p c || q c) xs ≡ true
begins_left p q [] h = h
begins_left p q (x ∷ xs) h = or_left (p x) (q x) h

begins_right : (p q : ℕ → Bool) (xs : List ℕ) → begins_where q xs ≡ true → begins_where (λ c. p c || q c) xs ≡ true
begins_right p q [] h = h
begins_right p q (x ∷ xs) h = or_right (p x) (q x) h

begins_any : (xs : List ℕ) → 0 < length xs → begins_where any xs ≡ true
begins_any [] h = absurd (omega (arith, h))
begins_any (x ∷ xs) h = refl

-- a longest part, whatever comes behind it
pub part_any : (D : List ℕ → Type 0) (xs : List ℕ) (n : ℕ) → IsLongestFront D xs n → IsPart D any xs n
part_any D xs n f = record {
  within = f.within;
  form = f.form;
  longest = λ u zs e h.
      elim (cases_lt (length u) n) [
        | inl less ↦ inr (less, begins_any zs (omega (arith, less, f.within, ap (λ x. length x) e, length-append u zs)))
        | inr more ↦ inl (omega (arith, more, f.longest u zs e h))
      ];
}

pub front_of : (D : List ℕ → Type 0) (on : ℕ → Bool) (xs : List ℕ) (n : ℕ) → IsPart D on xs n → IsLongestFront D xs n
front_of D on xs n f = record {
  within = f.within;
  form = f.form;
  longest = λ u zs e h. elim (f.longest u zs e h) [ inl same ↦ omega (arith, same) | inr less ↦ omega (arith, less.0) ];
}

-- one part and then another, which does not begin with what may go on the first
module _ (D E : List ℕ → Type 0) (on past : ℕ → Bool) (xs : List ℕ) (n m : ℕ) (f : IsPart D on xs n) (g : IsPart E past (drop n xs) m)
    (apart : (c : ℕ) (u : List ℕ) → E (c ∷ u) → on c ≡ true → ⊥) where
  joined_ends : (a b zs : List ℕ) → D a → E b → xs ≡ a ++ (b ++ zs)
      → (length (a ++ b) ≡ n + m) ⊎ ((length (a ++ b) < n + m) × (begins_where (λ c. on c || past c) zs ≡ true))
  joined_ends a b zs d e w = elim (f.longest a (b ++ zs) w d) [ inl same ↦ whole same | inr less ↦ early b e less.0 less.1 ] where
    whole : length a ≡ n → (length (a ++ b) ≡ n + m) ⊎ ((length (a ++ b) < n + m) × (begins_where (λ c. on c || past c) zs ≡ true))
    whole same =
        let rest : drop n xs ≡ b ++ zs = ap (λ k. drop k xs) (sym same) ∙ ap (λ x. drop (length a) x) w ∙ drop-append_seam a (b ++ zs) in
        elim (g.longest b zs rest e) [
          | inl all ↦ inl (omega (arith, same, all, length-append a b))
          | inr part ↦ inr (omega (arith, same, part.0, length-append a b), begins_right on past zs part.1)
        ]

    early : (c : List ℕ) → E c → length a < n → begins_where on (c ++ zs) ≡ true
        → (length (a ++ c) ≡ n + m) ⊎ ((length (a ++ c) < n + m) × (begins_where (λ c. on c || past c) zs ≡ true))
    early [] h less on_it = inr (omega (arith, less, length-append a []), begins_left on past zs on_it)
    early (c ∷ u) h less on_it = absurd (apart c u h on_it)

  joined_longest : (u zs : List ℕ) → xs ≡ u ++ zs → Joined D E u
      → (length u ≡ n + m) ⊎ ((length u < n + m) × (begins_where (λ c. on c || past c) zs ≡ true))
  joined_longest _ zs w (Joined.join a b d e) = joined_ends a b zs d e (w ∙ append_assoc a b zs)

  pub joined : IsPart (Joined D E) (λ c. on c || past c) xs (n + m)
  joined = record {
    within = omega (arith, f.within, g.within, length-drop n xs);
    form = subst (λ x. Joined D E x) (sym (take-add n m xs)) (Joined.join (take n xs) (take m (drop n xs)) f.form g.form);
    longest = joined_longest;
  }

-- what passes, all of it
prefix_all : (p : ℕ → Bool) (xs : List ℕ) → list_all p (take (prefix_len p xs) xs) ≡ true
prefix_all p [] = refl
prefix_all p (x ∷ xs) = by_cases (p x) refl (prefix_all p xs) where
  by_cases : (b : Bool) → p x ≡ b → list_all p (take (prefix_len p xs) xs) ≡ true → list_all p (take (prefix_len p (x ∷ xs)) (x ∷ xs)) ≡ true
  by_cases true e h =
      ap (λ m. list_all p (take m (x ∷ xs))) (ap (λ b. cond b (1 + prefix_len p xs) 0) e) ∙ ap (λ l. list_all p l) (take-add 1 (prefix_len p xs) (x ∷ xs))
      ∙ and_both (p x) (list_all p (take (prefix_len p xs) xs)) e h
  by_cases false e h = ap (λ m. list_all p (take m (x ∷ xs))) (ap (λ b. cond b (1 + prefix_len p xs) 0) e)

take_next : (x n : ℕ) (xs : List ℕ) → take (n + 1) (x ∷ xs) ≡ x ∷ take n xs
take_next x n xs = ap (λ m. take m (x ∷ xs)) (omega arith) ∙ take-add 1 n (x ∷ xs)

take_two : (x y n : ℕ) (xs : List ℕ) → take (n + 2) (x ∷ y ∷ xs) ≡ x ∷ y ∷ take n xs
take_two x y n xs = ap (λ m. take m (x ∷ y ∷ xs)) (omega arith) ∙ take-add 2 n (x ∷ y ∷ xs)

digits_of : (base : ℕ) (ds : List ℕ) → are_digits base ds ≡ true → (0 < length ds) × (list_all (is_digit base) ds ≡ true)
digits_of base [] h = let no : false ≡ true = h in cc
digits_of base (d ∷ ds) h = (omega arith, h)

are_digits_from : (base : ℕ) (ds : List ℕ) → 0 < length ds → list_all (is_digit base) ds ≡ true → are_digits base ds ≡ true
are_digits_from base [] h k = absurd (omega (arith, h))
are_digits_from base (d ∷ ds) h k = k

-- the digits that a text begins with
pub digits_front : (base : ℕ) (xs : List ℕ) → 0 < prefix_len (is_digit base) xs → are_digits base (take (prefix_len (is_digit base) xs) xs) ≡ true
digits_front base xs h =
    are_digits_from base (take (prefix_len (is_digit base) xs) xs)
    (omega (arith, h, length-take (prefix_len (is_digit base) xs) xs, prefix_len-le-length (is_digit base) xs)) (prefix_all (is_digit base) xs)

-- digits at the front of a text
digits_past : (base : ℕ) (xs ds zs : List ℕ) → xs ≡ ds ++ zs → are_digits base ds ≡ true
    → (0 < length ds) × (prefix_len (is_digit base) xs ≡ length ds + prefix_len (is_digit base) zs)
digits_past base xs ds zs e h =
    let all = digits_of base ds h in (all.0, ap (λ x. prefix_len (is_digit base) x) e ∙ prefix_past (is_digit base) ds zs all.1)

-- whole parts
whole_zero_longest : (r u zs : List ℕ) → 48 ∷ r ≡ u ++ zs → is_whole u ≡ true → (length u ≡ 1) ⊎ ((length u < 1) × (begins_where (is_digit 10) zs ≡ true))
whole_zero_longest r [] zs e h = let no : false ≡ true = h in cc
whole_zero_longest r (d ∷ []) zs e h = inl refl
whole_zero_longest r (d ∷ f ∷ u) zs e h =
    let zero : ◌≡◌ {A = ℕ} d 48 = cc in
    let no : not (d == 48) ≡ true = and_left (not (d == 48)) (are_digits 10 (d ∷ f ∷ u)) h in
    let no_more : false ≡ true = subst (λ x. not (x == 48) ≡ true) zero no in cc

pub whole_zero : (xs : List ℕ) → begins 48 xs ≡ true → IsPart IsWhole (is_digit 10) xs 1
whole_zero xs h =
    let r = drop 1 xs in
    let zero : IsPart IsWhole (is_digit 10) (48 ∷ r) 1 = record { within = omega arith; form = refl; longest = whole_zero_longest r } in
    subst (λ x. IsPart IsWhole (is_digit 10) x 1) (sym (begun_by 48 xs h)) zero

pub whole_digits : (u : List ℕ) → is_whole u ≡ true → are_digits 10 u ≡ true
whole_digits [] h = h
whole_digits (d ∷ []) h = and_both (is_digit 10 d) true h refl
whole_digits (d ∷ e ∷ u) h = and_right (not (d == 48)) (are_digits 10 (d ∷ e ∷ u)) h

whole_from : (u zs : List ℕ) → are_digits 10 u ≡ true → begins 48 (u ++ zs) ≡ false → is_whole u ≡ true
whole_from [] zs h k = h
whole_from (d ∷ []) zs h k = and_left (is_digit 10 d) true h
whole_from (d ∷ e ∷ u) zs h k = and_both (not (d == 48)) (are_digits 10 (d ∷ e ∷ u)) (ap not k) h

-- as many digits as there are, where each form of this kind is digits
digits_end : (base : ℕ) (xs u zs : List ℕ) → xs ≡ u ++ zs → are_digits base u ≡ true
    → (length u ≡ prefix_len (is_digit base) xs) ⊎ ((length u < prefix_len (is_digit base) xs) × (begins_where (is_digit base) zs ≡ true))
digits_end base xs u zs e h =
    let past = digits_past base xs u zs e h in
    elim (cases_lt 0 (prefix_len (is_digit base) zs)) [
      | inl more ↦ inr (omega (arith, past.1, more), passes_first (is_digit base) zs more)
      | inr none ↦ inl (omega (arith, past.1, none))
    ]

pub whole_more : (xs : List ℕ) → 0 < prefix_len (is_digit 10) xs → begins 48 xs ≡ false → IsPart IsWhole (is_digit 10) xs (prefix_len (is_digit 10) xs)
whole_more xs h k =
    let n = prefix_len (is_digit 10) xs in
    record {
      within = prefix_len-le-length (is_digit 10) xs;
      form = whole_from (take n xs) (drop n xs) (digits_front 10 xs h) (subst (λ x. begins 48 x ≡ false) (sym (take-append-drop n xs)) k);
      longest = λ u zs e w. digits_end 10 xs u zs e (whole_digits u w);
    }

-- fractions
fraction_cases : (u : List ℕ) → is_fraction u ≡ true → (u ≡ []) ⊎ ((ds : List ℕ) × (u ≡ 46 ∷ ds) × (are_digits 10 ds ≡ true))
fraction_cases [] h = inl refl
fraction_cases (c ∷ ds) h = inr (ds, ap (λ x. x ∷ ds) (eqb-true c 46 (and_left (c == 46) (are_digits 10 ds) h)), and_right (c == 46) (are_digits 10 ds) h)

nothing_at : (xs u zs : List ℕ) → xs ≡ u ++ zs → u ≡ [] → zs ≡ xs
nothing_at xs u zs e h = sym (e ∙ ap (λ x. x ++ zs) h)

in_fraction_dot : (zs : List ℕ) → begins 46 zs ≡ true → begins_where in_fraction zs ≡ true
in_fraction_dot [] h = h
in_fraction_dot (z ∷ zs) h = or_left (z == 46) (is_digit 10 z) h

in_fraction_digit : (zs : List ℕ) → begins_where (is_digit 10) zs ≡ true → begins_where in_fraction zs ≡ true
in_fraction_digit [] h = h
in_fraction_digit (z ∷ zs) h = or_right (z == 46) (is_digit 10 z) h

pub fraction_none : (xs : List ℕ) → begins 46 xs ≡ false → IsPart IsFraction in_fraction xs 0
fraction_none xs h = record {
  within = omega arith;
  form = refl;
  longest = λ u zs e f. elim (fraction_cases u f) [
    | inl nothing ↦ inl (ap (λ x. length x) nothing)
    | inr some ↦ absurd (not_both (begins 46 xs) (subst (λ x. begins 46 x ≡ true) (sym (e ∙ ap (λ x. x ++ zs) some.1)) refl) h)
  ];
}

pub fraction_bare : (xs : List ℕ) → begins 46 xs ≡ true → prefix_len (is_digit 10) (drop 1 xs) ≡ 0 → IsPart IsFraction in_fraction xs 0
fraction_bare xs h k = record {
  within = omega arith;
  form = refl;
  longest = λ u zs e f. elim (fraction_cases u f) [
    | inl nothing ↦ inl (ap (λ x. length x) nothing)
    | inr some ↦
        let past = digits_past 10 (drop 1 xs) some.0 zs (ap (λ x. drop 1 x) (e ∙ ap (λ x. x ++ zs) some.1)) some.2 in
        absurd (omega (arith, past.0, past.1, k))
  ];
}

fraction_ends : (r u zs : List ℕ) → 46 ∷ r ≡ u ++ zs → is_fraction u ≡ true
    → (length u ≡ prefix_len (is_digit 10) r + 1) ⊎ ((length u < prefix_len (is_digit 10) r + 1) × (begins_where in_fraction zs ≡ true))
fraction_ends r u zs e f = elim (fraction_cases u f) [
  | inl nothing ↦ inr (omega (arith, ap (λ x. length x) nothing), in_fraction_dot zs (subst (λ x. begins 46 x ≡ true) (sym (nothing_at (46 ∷ r) u zs e nothing)) refl))
  | inr some ↦ elim (digits_end 10 r some.0 zs (ap (λ x. drop 1 x) (e ∙ ap (λ x. x ++ zs) some.1)) some.2) [
    | inl all ↦ inl (omega (arith, all, ap (λ x. length x) some.1))
    | inr part ↦ inr (omega (arith, part.0, ap (λ x. length x) some.1), in_fraction_digit zs part.1)
  ]
]

pub fraction_more : (xs : List ℕ) → begins 46 xs ≡ true → 0 < prefix_len (is_digit 10) (drop 1 xs)
    → IsPart IsFraction in_fraction xs (prefix_len (is_digit 10) (drop 1 xs) + 1)
fraction_more xs h k =
    let r = drop 1 xs in
    let n = prefix_len (is_digit 10) r in
    let part : IsPart IsFraction in_fraction (46 ∷ r) (n + 1) = record {
      within = omega (arith, prefix_len-le-length (is_digit 10) r);
      form = subst (λ x. is_fraction x ≡ true) (sym (take_next 46 n r)) (digits_front 10 r k);
      longest = fraction_ends r;
    } in
    subst (λ x. IsPart IsFraction in_fraction x (n + 1)) (sym (begun_by 46 xs h)) part

-- powers and exponents
abbrev is_sign : ℕ → Bool
is_sign c = (c == 43) || (c == 45)

no_sign_digit : (c : ℕ) → is_sign c ≡ true → is_digit 10 c ≡ true → ⊥
no_sign_digit c h k = elim (or_either (c == 43) (c == 45) h) [
  | inl plus ↦ not_both (is_digit 10 c) k (subst (λ x. is_digit 10 x ≡ false) (sym (eqb-true c 43 plus)) refl)
  | inr minus ↦ not_both (is_digit 10 c) k (subst (λ x. is_digit 10 x ≡ false) (sym (eqb-true c 45 minus)) refl)
]

signed_ends : (s : ℕ) (r u zs : List ℕ) → is_sign s ≡ true → s ∷ r ≡ u ++ zs → is_power u ≡ true → length u ≤ prefix_len (is_digit 10) r + 1
signed_ends s r [] zs h e f = omega arith
signed_ends s r (c ∷ ds) zs h e f =
    let same : s ≡ c = cc in
    let rest : r ≡ ds ++ zs = cc in
    elim (or_either (are_digits 10 (c ∷ ds)) (is_sign c && are_digits 10 ds) f) [
      | inl digits ↦ absurd (no_sign_digit c (subst (λ x. is_sign x ≡ true) same h) (and_left (is_digit 10 c) (list_all (is_digit 10) ds) digits))
      | inr signed ↦ omega (arith, (digits_past 10 r ds zs rest (and_right (is_sign c) (are_digits 10 ds) signed)).1)
    ]

signed_at : (xs : List ℕ) → begins_where is_sign xs ≡ true → 0 < prefix_len (is_digit 10) (drop 1 xs) → IsLongestFront IsPower xs (prefix_len (is_digit 10) (drop 1 xs) + 1)
signed_at [] h k = absurd (let no : false ≡ true = h in cc)
signed_at (s ∷ r) h k =
    let n = prefix_len (is_digit 10) r in
    record {
      within = omega (arith, prefix_len-le-length (is_digit 10) r);
      form = subst (λ x. is_power x ≡ true) (sym (take_next s n r))
          (or_right (are_digits 10 (s ∷ take n r)) (is_sign s && are_digits 10 (take n r)) (and_both (is_sign s) (are_digits 10 (take n r)) h (digits_front 10 r k)));
      longest = λ u zs e f. signed_ends s r u zs h e f;
    }

pub signed_longest : (xs : List ℕ) → begins_where (λ c. (c == 43) || (c == 45)) xs ≡ true → 0 < prefix_len (is_digit 10) (drop 1 xs)
    → IsLongestFront IsPower xs (prefix_len (is_digit 10) (drop 1 xs) + 1)
signed_longest xs h k = signed_at xs h k

power_from : (u : List ℕ) → are_digits 10 u ≡ true → is_power u ≡ true
power_from [] h = h
power_from (c ∷ ds) h = or_left (are_digits 10 (c ∷ ds)) (is_sign c && are_digits 10 ds) h

unsigned_ends : (xs u zs : List ℕ) → begins_where is_sign xs ≡ false → xs ≡ u ++ zs → is_power u ≡ true → length u ≤ prefix_len (is_digit 10) xs
unsigned_ends xs [] zs h e f = omega arith
unsigned_ends xs (c ∷ ds) zs h e f =
    elim (or_either (are_digits 10 (c ∷ ds)) (is_sign c && are_digits 10 ds) f) [
      | inl digits ↦ omega (arith, (digits_past 10 xs (c ∷ ds) zs e digits).1)
      | inr signed ↦ absurd (not_both (is_sign c) (and_left (is_sign c) (are_digits 10 ds) signed) (subst (λ x. begins_where is_sign x ≡ false) e h))
    ]

pub unsigned_longest : (xs : List ℕ) → begins_where (λ c. (c == 43) || (c == 45)) xs ≡ false → 0 < prefix_len (is_digit 10) xs
    → IsLongestFront IsPower xs (prefix_len (is_digit 10) xs)
unsigned_longest xs h k = record {
  within = prefix_len-le-length (is_digit 10) xs;
  form = power_from (take (prefix_len (is_digit 10) xs) xs) (digits_front 10 xs k);
  longest = λ u zs e f. unsigned_ends xs u zs h e f;
}

abbrev is_e : ℕ → Bool
is_e c = (c == 101) || (c == 69)

exponent_ends : (c n : ℕ) (r u zs : List ℕ) → IsLongestFront IsPower r n → c ∷ r ≡ u ++ zs → is_exponent u ≡ true → length u ≤ n + 1
exponent_ends c n r [] zs p e f = omega arith
exponent_ends c n r (d ∷ ds) zs p e f =
    let rest : r ≡ ds ++ zs = cc in omega (arith, p.longest ds zs rest (and_right (is_e d) (is_power ds) f))

exponent_at : (xs : List ℕ) (n : ℕ) → begins_where is_e xs ≡ true → IsLongestFront IsPower (drop 1 xs) n → IsLongestFront IsExponent xs (n + 1)
exponent_at [] n h p = absurd (let no : false ≡ true = h in cc)
exponent_at (c ∷ r) n h p = record {
  within = omega (arith, p.within);
  form = subst (λ x. is_exponent x ≡ true) (sym (take_next c n r)) (and_both (is_e c) (is_power (take n r)) h p.form);
  longest = λ u zs e f. exponent_ends c n r u zs p e f;
}

pub exponent_more : (xs : List ℕ) (n : ℕ) → begins_where (λ c. (c == 101) || (c == 69)) xs ≡ true → IsLongestFront IsPower (drop 1 xs) n → IsPart IsExponent any xs (n + 1)
exponent_more xs n h p = part_any IsExponent xs (n + 1) (exponent_at xs n h p)

-- a fraction does not begin with a digit, nor an exponent with what a fraction goes on with
pub exponent_apart : (c : ℕ) (u : List ℕ) → IsExponent (c ∷ u) → in_fraction c ≡ true → ⊥
exponent_apart c u h k = elim (or_either (c == 101) (c == 69) (and_left (is_e c) (is_power u) h)) [
  | inl small ↦ not_both (in_fraction c) k (subst (λ x. in_fraction x ≡ false) (sym (eqb-true c 101 small)) refl)
  | inr large ↦ not_both (in_fraction c) k (subst (λ x. in_fraction x ≡ false) (sym (eqb-true c 69 large)) refl)
]

tail_apart_in : (xs : List ℕ) (c : ℕ) (u : List ℕ) → Joined IsFraction IsExponent xs → xs ≡ c ∷ u → is_digit 10 c ≡ true → ⊥
tail_apart_in _ c u (Joined.join [] b d e) w k = exponent_apart c u (subst (λ x. is_exponent x ≡ true) w e) (or_right (c == 46) (is_digit 10 c) k)
tail_apart_in _ c u (Joined.join (a ∷ as_) b d e) w k =
    let same : a ≡ c = cc in
    not_both (is_digit 10 c) k (subst (λ x. is_digit 10 x ≡ false) (sym (eqb-true a 46 (and_left (a == 46) (are_digits 10 as_) d)) ∙ same) refl)

pub tail_apart : (c : ℕ) (u : List ℕ) → Joined IsFraction IsExponent (c ∷ u) → is_digit 10 c ≡ true → ⊥
tail_apart c u h k = tail_apart_in (c ∷ u) c u h refl k

-- forms with a base
based_ends : (letter base n : ℕ) (r t u zs : List ℕ) → base_of letter ≡ Some base → 48 ∷ letter ∷ r ≡ u ++ zs → IsBased u
    → (0 < prefix_len (is_digit base) r) × (length u ≤ prefix_len (is_digit base) r + 2)
based_ends letter base n r t _ zs b e (IsBased.based other base' ds c h) =
    let letters : letter ≡ other = cc in
    let rest : r ≡ ds ++ zs = cc in
    let both : Some base ≡ Some base' = sym b ∙ ap base_of letters ∙ c in
    let bases : base ≡ base' = cc in
    let past = digits_past base r ds zs rest (subst (λ x. are_digits x ds ≡ true) (sym bases) h) in
    (omega (arith, past.0, past.1), omega (arith, past.1))

pub based_longest : (xs : List ℕ) (letter base : ℕ) → xs ≡ 48 ∷ letter ∷ drop 2 xs → base_of letter ≡ Some base → 0 < prefix_len (is_digit base) (drop 2 xs)
    → IsLongestFront IsBased xs (prefix_len (is_digit base) (drop 2 xs) + 2)
based_longest xs letter base w b h =
    let r = drop 2 xs in
    let n = prefix_len (is_digit base) r in
    let there : IsLongestFront IsBased (48 ∷ letter ∷ r) (n + 2) = record {
      within = omega (arith, prefix_len-le-length (is_digit base) r);
      form = subst IsBased (sym (take_two 48 letter n r)) (IsBased.based letter base (take n r) b (digits_front base r h));
      longest = λ u zs e f. (based_ends letter base n r [] u zs b e f).1;
    } in
    subst (λ x. IsLongestFront IsBased x (n + 2)) (sym w) there

pub based_lacks : (xs : List ℕ) (letter base : ℕ) → xs ≡ 48 ∷ letter ∷ drop 2 xs → base_of letter ≡ Some base → prefix_len (is_digit base) (drop 2 xs) ≡ 0 → Lacks IsBased xs
based_lacks xs letter base w b h = record { none = λ u zs e f. omega (arith, (based_ends letter base 0 (drop 2 xs) [] u zs b (sym w ∙ e) f).0, h) }

number_from_based : (t : List ℕ) → IsBased t → IsNumber t
number_from_based _ (IsBased.based letter base ds b h) = IsNumber.based letter base ds b h

number_from_decimal : (t : List ℕ) → Joined IsWhole (Joined IsFraction IsExponent) t → IsNumber t
number_from_decimal _ (Joined.join a _ d (Joined.join b c e f)) = IsNumber.decimal a b c d e f

-- where a form with a base begins, a decimal is `0`
short_tail : (f e : List ℕ) (letter base : ℕ) (r zs : List ℕ) → is_fraction f ≡ true → is_exponent e ≡ true → base_of letter ≡ Some base → letter ∷ r ≡ (f ++ e) ++ zs → length (f ++ e) ≡ 0
short_tail [] [] letter base r zs d h b w = refl
short_tail [] (c ∷ e) letter base r zs d h b w =
    let same : letter ≡ c = cc in
    elim (or_either (c == 101) (c == 69) (and_left (is_e c) (is_power e) h)) [
      | inl small ↦ absurd (let no : None ≡ Some base = sym (ap base_of (same ∙ eqb-true c 101 small)) ∙ b in cc)
      | inr large ↦ absurd (let no : None ≡ Some base = sym (ap base_of (same ∙ eqb-true c 69 large)) ∙ b in cc)
    ]
short_tail (c ∷ f) e letter base r zs d h b w =
    let same : letter ≡ c = cc in
    absurd (let no : None ≡ Some base = sym (ap base_of (same ∙ eqb-true c 46 (and_left (c == 46) (are_digits 10 f) d))) ∙ b in cc)

short_decimal : (a f e : List ℕ) (letter base : ℕ) (r zs : List ℕ) → is_whole a ≡ true → is_fraction f ≡ true → is_exponent e ≡ true → base_of letter ≡ Some base
    → 48 ∷ letter ∷ r ≡ (a ++ (f ++ e)) ++ zs → length (a ++ (f ++ e)) ≤ 1
short_decimal [] f e letter base r zs k d h b w = absurd (let no : false ≡ true = k in cc)
short_decimal (x ∷ []) f e letter base r zs k d h b w =
    let rest : letter ∷ r ≡ (f ++ e) ++ zs = cc in omega (arith, short_tail f e letter base r zs d h b rest)
short_decimal (x ∷ y ∷ a) f e letter base r zs k d h b w =
    let zero : ◌≡◌ {A = ℕ} x 48 = cc in
    let no : false ≡ true = subst (λ v. not (v == 48) ≡ true) zero (and_left (not (x == 48)) (are_digits 10 (x ∷ y ∷ a)) k) in absurd (not_both false no refl)

number_ends : (t rest : List ℕ) (xs u zs : List ℕ) → xs ≡ t ++ rest → IsBased t → xs ≡ u ++ zs → IsNumber u → (IsBased u → length u ≤ length t) → length u ≤ length t
number_ends _ rest xs _ zs w (IsBased.based letter base ds b h) e (IsNumber.decimal a f x k l m) longest =
    omega (arith, short_decimal a f x letter base (ds ++ rest) zs k l m b (sym w ∙ e))
number_ends _ rest xs _ zs w (IsBased.based letter base ds b h) e (IsNumber.based other base' es c k) longest = longest (IsBased.based other base' es c k)

pub number_based : (xs : List ℕ) (n : ℕ) → IsLongestFront IsBased xs n → IsLongestFront IsNumber xs n
number_based xs n f = record {
  within = f.within;
  form = number_from_based (take n xs) f.form;
  longest = λ u zs e h.
      omega (
        arith,
        length-take n xs,
        f.within,
        number_ends (take n xs) (drop n xs) xs u zs (sym (take-append-drop n xs)) f.form e h
            (λ b. omega (arith, f.longest u zs e b, length-take n xs, f.within)),
      );
}

decimal_ends : (xs u zs : List ℕ) (n : ℕ) → IsLongestFront (Joined IsWhole (Joined IsFraction IsExponent)) xs n → Lacks IsBased xs → xs ≡ u ++ zs → IsNumber u → length u ≤ n
decimal_ends xs _ zs n f none e (IsNumber.decimal a b c k l m) = f.longest (a ++ (b ++ c)) zs e (Joined.join a (b ++ c) k (Joined.join b c l m))
decimal_ends xs _ zs n f none e (IsNumber.based letter base ds b h) = absurd (none.none (48 ∷ letter ∷ ds) zs e (IsBased.based letter base ds b h))

pub number_decimal : (xs : List ℕ) (n : ℕ) → IsPart (Joined IsWhole (Joined IsFraction IsExponent)) any xs n → Lacks IsBased xs → IsLongestFront IsNumber xs n
number_decimal xs n p none =
    let f = front_of (Joined IsWhole (Joined IsFraction IsExponent)) any xs n p in
    record {
      within = f.within;
      form = number_from_decimal (take n xs) f.form;
      longest = λ u zs e h. decimal_ends xs u zs n f none e h;
    }

-- the parts of a decimal, joined
pub tail_part : (xs : List ℕ) (n m : ℕ) → IsPart IsFraction in_fraction xs n → IsPart IsExponent any (drop n xs) m → IsPart (Joined IsFraction IsExponent) any xs (n + m)
tail_part xs n m f g =
    part_any (Joined IsFraction IsExponent) xs (n + m)
    (front_of (Joined IsFraction IsExponent) (λ c. in_fraction c || any c) xs (n + m) (joined IsFraction IsExponent in_fraction any xs n m f g exponent_apart))

pub decimal_part : (xs : List ℕ) (n m : ℕ) → IsPart IsWhole (is_digit 10) xs n → IsPart (Joined IsFraction IsExponent) any (drop n xs) m
    → IsPart (Joined IsWhole (Joined IsFraction IsExponent)) any xs (n + m)
decimal_part xs n m f g =
    part_any (Joined IsWhole (Joined IsFraction IsExponent)) xs (n + m)
    (front_of (Joined IsWhole (Joined IsFraction IsExponent)) (λ c. is_digit 10 c || any c) xs (n + m)
    (joined IsWhole (Joined IsFraction IsExponent) (is_digit 10) any xs n m f g tail_apart))

-- a digit at the front
pub some_digit : (base : ℕ) (xs : List ℕ) → begins_where (is_digit base) xs ≡ true → 0 < prefix_len (is_digit base) xs
some_digit base [] h = absurd (let no : false ≡ true = h in cc)
some_digit base (x ∷ xs) h = omega (arith, ap (λ b. cond b (1 + prefix_len (is_digit base) xs) 0) h)

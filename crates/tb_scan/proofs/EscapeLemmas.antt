-- Escapes.
use Rattle.std.proofs.Common.{lit≤, inl, inr, ◌≡◌, ℕ, ◌+◌, ◌<◌, ◌≤◌, ◌==◌, Bool, true, false, List, [], ◌∷◌, ◌++◌, length, take, drop, sym, ap, subst, ◌∙◌, refl, arith, length-append, append_assoc, lit<}
use Rattle.std.specs.Prelude.{◌&&◌, ◌||◌, nat_le, IsUtf8}
use Rattle.std.specs.Char.{digit_value}
use Rattle.std.proofs.lemmas.Bool.Decides.{nat_tests}
use Rattle.std.specs.List.{list_all, prefix_len}
use Rattle.std.proofs.Math.Seq.{take-append_seam, drop-append_seam}
use Rattle.std.proofs.lemmas.List.{take-append-drop, length-take}
use Rattle.std.proofs.lemmas.Bool.{eqb-true, leb-true, le-leb, ltb-true, cases_lt}
use Rattle.tb_scan.specs.Characters.{is_digit, begins, begins_where}
use Rattle.tb_scan.specs.Pieces.{Stops, IsFront, IsEscape, IsEscapeRest, IsHex, is_simple_escape, spells_scalar}
use Rattle.tb_scan.proofs.Spaces.{begun_by, front_at, utf8_tail}
use Rattle.tb_scan.proofs.TestLemmas.{and_left, and_right, and_both, not_both, prefix_past}

-- which escape it is
data Which (letter : ℕ) (xs : List ℕ) : Type 0 where
  simple : is_simple_escape letter ≡ true → Which letter xs
  zero : letter ≡ 48 → begins_where (is_digit 10) xs ≡ false → Which letter xs
  byte : letter ≡ 120 → (ds ys : List ℕ) → xs ≡ ds ++ ys → IsHex ds 2 → Which letter xs
  unit : letter ≡ 117 → (ds ys : List ℕ) → xs ≡ ds ++ ys → IsHex ds 4 → spells_scalar ds ≡ true → Which letter xs
  braced : letter ≡ 117 → (ds ys : List ℕ) (n : ℕ) → xs ≡ 123 ∷ (ds ++ 125 ∷ ys) → IsHex ds n → 1 ≤ n → n ≤ 6 → spells_scalar ds ≡ true → Which letter xs

which : (letter : ℕ) (xs p ys : List ℕ) → 92 ∷ letter ∷ xs ≡ p ++ ys → IsEscape p ys → Which letter xs
which letter xs _ ys w (IsEscape.simple c _ h) = let e : letter ≡ c = cc in Which.simple (subst (λ x. is_simple_escape x ≡ true) (sym e) h)
which letter xs _ ys w (IsEscape.zero _ h) = let e : xs ≡ ys = cc in Which.zero (cc) (subst (λ x. begins_where (is_digit 10) x ≡ false) (sym e) h)
which letter xs _ ys w (IsEscape.byte ds _ h) = Which.byte (cc) ds ys (cc) h
which letter xs _ ys w (IsEscape.unit ds _ h k) = Which.unit (cc) ds ys (cc) h k
which letter xs _ ys w (IsEscape.braced ds _ n h a b k) =
    let e : xs ≡ 123 ∷ ((ds ++ 125 ∷ []) ++ ys) = cc in
    Which.braced (cc) ds ys n (e ∙ ap (λ x. 123 ∷ x) (append_assoc ds (125 ∷ []) ys)) h a b k

lacks : (letter : ℕ) (xs : List ℕ) → (Which letter xs → ⊥) → Stops IsEscape (92 ∷ letter ∷ xs)
lacks letter xs never = record { never = λ p ys w h. never (which letter xs p ys w h) }

hex_here : (xs ds ys : List ℕ) (n : ℕ) → xs ≡ ds ++ ys → IsHex ds n → (nat_le n (length xs) ≡ true) × (take n xs ≡ ds)
hex_here xs ds ys n e h = (search (arith, length-append ds ys, ap (λ x. length x) e, h.count), ap (λ x. take n x) e ∙ ap (λ m. take m (ds ++ ys)) (sym h.count) ∙ take-append_seam ds ys)

-- an escape in a front and what follows it
rest_at : (letter : ℕ) (xs p ys : List ℕ) (n : ℕ) → xs ≡ p ++ ys → n ≡ length p → IsEscape (92 ∷ letter ∷ p) ys → IsEscapeRest letter xs n
rest_at letter xs p ys n e k h =
    let front : take n xs ≡ p = ap (λ x. take n x) e ∙ ap (λ m. take m (p ++ ys)) k ∙ take-append_seam p ys in
    let rest : drop n xs ≡ ys = ap (λ x. drop n x) e ∙ ap (λ m. drop m (p ++ ys)) k ∙ drop-append_seam p ys in
    record {
      within = omega (arith, k, ap (λ x. length x) e, length-append p ys);
      escape = subst (λ x. IsEscape (92 ∷ letter ∷ x) (drop n xs)) (sym front) (subst (λ x. IsEscape (92 ∷ letter ∷ p) x) (sym rest) h);
    }

le_from : (a b : ℕ) → nat_le a b ≡ true → a ≤ b
le_from a b h = omega (arith, leb-true a b h)

hex_front : (xs : List ℕ) (n : ℕ) → n ≤ length xs → list_all (is_digit 16) (take n xs) ≡ true → IsHex (take n xs) n
hex_front xs n h k = record { digits = k; count = omega (arith, length-take n xs, h) }

pub zero_found : (xs : List ℕ) → begins_where (is_digit 10) xs ≡ false → IsEscapeRest 48 xs 0
zero_found xs h = record { within = omega arith; escape = IsEscape.zero xs h }

no_zero : (xs : List ℕ) → begins_where (is_digit 10) xs ≡ true → Which 48 xs → ⊥
no_zero xs h (Which.simple k) = let no : false ≡ true = k in cc
no_zero xs h (Which.zero e k) = not_both (begins_where (is_digit 10) xs) h k
no_zero xs h (Which.byte e ds ys w k) = omega (arith, e)
no_zero xs h (Which.unit e ds ys w k l) = omega (arith, e)
no_zero xs h (Which.braced e ds ys n w k a b l) = omega (arith, e)

pub zero_lacks : (xs : List ℕ) → begins_where (is_digit 10) xs ≡ true → Stops IsEscape (92 ∷ 48 ∷ xs)
zero_lacks xs h = lacks 48 xs (no_zero xs h)

pub byte_found : (xs : List ℕ) → (nat_le 2 (length xs) && list_all (is_digit 16) (take 2 xs)) ≡ true → IsEscapeRest 120 xs 2
byte_found xs h =
    let long : 2 ≤ length xs = le_from 2 (length xs) (and_left (nat_le 2 (length xs)) (list_all (is_digit 16) (take 2 xs)) h) in
    record {
      within = long;
      escape = IsEscape.byte (take 2 xs) (drop 2 xs) (hex_front xs 2 long (and_right (nat_le 2 (length xs)) (list_all (is_digit 16) (take 2 xs)) h));
    }

no_byte : (xs : List ℕ) → (nat_le 2 (length xs) && list_all (is_digit 16) (take 2 xs)) ≡ false → Which 120 xs → ⊥
no_byte xs h (Which.simple k) = let no : false ≡ true = k in cc
no_byte xs h (Which.zero e k) = omega (arith, e)
no_byte xs h (Which.byte e ds ys w k) =
    let here = hex_here xs ds ys 2 w k in
    not_both (nat_le 2 (length xs) && list_all (is_digit 16) (take 2 xs))
    (and_both (nat_le 2 (length xs)) (list_all (is_digit 16) (take 2 xs)) here.0 (subst (λ x. list_all (is_digit 16) x ≡ true) (sym here.1) k.digits)) h
no_byte xs h (Which.unit e ds ys w k l) = omega (arith, e)
no_byte xs h (Which.braced e ds ys n w k a b l) = omega (arith, e)

pub byte_lacks : (xs : List ℕ) → (nat_le 2 (length xs) && list_all (is_digit 16) (take 2 xs)) ≡ false → Stops IsEscape (92 ∷ 120 ∷ xs)
byte_lacks xs h = lacks 120 xs (no_byte xs h)

pub simple_found : (letter : ℕ) (xs : List ℕ) → is_simple_escape letter ≡ true → IsEscapeRest letter xs 0
simple_found letter xs h = record { within = omega arith; escape = IsEscape.simple letter xs h }

no_simple : (letter : ℕ) (xs : List ℕ) → is_simple_escape letter ≡ false → (letter == 48) ≡ false → (letter == 120) ≡ false → (letter == 117) ≡ false → Which letter xs → ⊥
no_simple letter xs h a b c (Which.simple k) = not_both (is_simple_escape letter) k h
no_simple letter xs h a b c (Which.zero e k) = not_both (letter == 48) (subst (λ x. (x == 48) ≡ true) (sym e) refl) a
no_simple letter xs h a b c (Which.byte e ds ys w k) = not_both (letter == 120) (subst (λ x. (x == 120) ≡ true) (sym e) refl) b
no_simple letter xs h a b c (Which.unit e ds ys w k l) = not_both (letter == 117) (subst (λ x. (x == 117) ≡ true) (sym e) refl) c
no_simple letter xs h a b c (Which.braced e ds ys n w k l m o) = not_both (letter == 117) (subst (λ x. (x == 117) ≡ true) (sym e) refl) c

pub simple_lacks : (letter : ℕ) (xs : List ℕ) → is_simple_escape letter ≡ false → (letter == 48) ≡ false → (letter == 120) ≡ false → (letter == 117) ≡ false
    → Stops IsEscape (92 ∷ letter ∷ xs)
simple_lacks letter xs h a b c = lacks letter xs (no_simple letter xs h a b c)

abbrev pub is_unit : List ℕ → Bool
is_unit xs = nat_le 4 (length xs) && (list_all (is_digit 16) (take 4 xs) && spells_scalar (take 4 xs))

pub unit_found : (xs : List ℕ) → is_unit xs ≡ true → IsEscapeRest 117 xs 4
unit_found xs h =
    let long : 4 ≤ length xs = le_from 4 (length xs) (and_left (nat_le 4 (length xs)) (list_all (is_digit 16) (take 4 xs) && spells_scalar (take 4 xs)) h) in
    let spelled = and_right (nat_le 4 (length xs)) (list_all (is_digit 16) (take 4 xs) && spells_scalar (take 4 xs)) h in
    record {
      within = long;
      escape = IsEscape.unit (take 4 xs) (drop 4 xs) (hex_front xs 4 long (and_left (list_all (is_digit 16) (take 4 xs)) (spells_scalar (take 4 xs)) spelled))
          (and_right (list_all (is_digit 16) (take 4 xs)) (spells_scalar (take 4 xs)) spelled);
    }

no_unit : (xs : List ℕ) → is_unit xs ≡ false → begins 123 xs ≡ false → Which 117 xs → ⊥
no_unit xs h b (Which.simple k) = let no : false ≡ true = k in cc
no_unit xs h b (Which.zero e k) = omega (arith, e)
no_unit xs h b (Which.byte e ds ys w k) = omega (arith, e)
no_unit xs h b (Which.unit e ds ys w k l) =
    let here = hex_here xs ds ys 4 w k in
    not_both (is_unit xs)
    (and_both (nat_le 4 (length xs)) (list_all (is_digit 16) (take 4 xs) && spells_scalar (take 4 xs)) here.0
    (and_both (list_all (is_digit 16) (take 4 xs)) (spells_scalar (take 4 xs)) (subst (λ x. list_all (is_digit 16) x ≡ true) (sym here.1) k.digits)
    (subst (λ x. spells_scalar x ≡ true) (sym here.1) l))) h
no_unit xs h b (Which.braced e ds ys n w k a c l) = not_both (begins 123 xs) (subst (λ x. begins 123 x ≡ true) (sym w) refl) b

pub unit_lacks : (xs : List ℕ) → is_unit xs ≡ false → begins 123 xs ≡ false → Stops IsEscape (92 ∷ 117 ∷ xs)
unit_lacks xs h b = lacks 117 xs (no_unit xs h b)

abbrev pub is_braced : List ℕ → ℕ → Bool
is_braced xs n = nat_le 1 n && (nat_le n 6 && (begins 125 (drop n xs) && (nat_le n (length xs) && (list_all (is_digit 16) (take n xs) && spells_scalar (take n xs)))))

pub braced_found : (xs : List ℕ) (n : ℕ) → begins 123 xs ≡ true → n ≤ length (drop 1 xs) → is_braced (drop 1 xs) n ≡ true → IsEscapeRest 117 xs (n + 2)
braced_found xs n b k h =
    let digits = drop 1 xs in
    let ds = take n digits in
    let hex : Bool = list_all (is_digit 16) ds in
    let fourth = nat_le n (length digits) && (hex && spells_scalar ds) in
    let third = begins 125 (drop n digits) && fourth in
    let second = nat_le n 6 && third in
    let past_first = and_right (nat_le 1 n) second h in
    let past_second = and_right (nat_le n 6) third past_first in
    let past_third = and_right (begins 125 (drop n digits)) fourth past_second in
    let past_fourth = and_right (nat_le n (length digits)) (hex && spells_scalar ds) past_third in
    let closing : drop n digits ≡ 125 ∷ drop 1 (drop n digits) = begun_by 125 (drop n digits) (and_left (begins 125 (drop n digits)) fourth past_second) in
    let ys = drop 1 (drop n digits) in
    let whole : xs ≡ (123 ∷ ds ++ 125 ∷ []) ++ ys =
    begun_by 123 xs b ∙ ap (λ x. 123 ∷ x) (sym (take-append-drop n digits) ∙ ap (λ x. ds ++ x) closing ∙ sym (append_assoc ds (125 ∷ []) ys)) in
    rest_at 117 xs (123 ∷ ds ++ 125 ∷ []) ys (n + 2) whole (omega (arith, length-append ds (125 ∷ []), length-take n digits, k))
    (IsEscape.braced ds ys n (hex_front digits n k (and_left hex (spells_scalar ds) past_fourth)) (le_from 1 n (and_left (nat_le 1 n) second h))
    (le_from n 6 (and_left (nat_le n 6) third past_first)) (and_right hex (spells_scalar ds) past_fourth))

no_brace_digit : (xs ds ys : List ℕ) → begins 123 xs ≡ true → xs ≡ ds ++ ys → IsHex ds 4 → ⊥
no_brace_digit xs [] ys b w k = omega (arith, k.count)
no_brace_digit xs (d ∷ ds) ys b w k =
    let e : 123 ∷ drop 1 xs ≡ d ∷ (ds ++ ys) = sym (begun_by 123 xs b) ∙ w in
    let same : ◌≡◌ {A = ℕ} d 123 = cc in
    not_both (is_digit 16 d) (and_left (is_digit 16 d) (list_all (is_digit 16) ds) k.digits) (subst (λ x. is_digit 16 x ≡ false) (sym same) refl)

no_braced : (xs : List ℕ) (n : ℕ) → begins 123 xs ≡ true → n ≡ prefix_len (is_digit 16) (drop 1 xs) → is_braced (drop 1 xs) n ≡ false → Which 117 xs → ⊥
no_braced xs n b e h (Which.simple k) = let no : false ≡ true = k in cc
no_braced xs n b e h (Which.zero f k) = omega (arith, f)
no_braced xs n b e h (Which.byte f ds ys w k) = omega (arith, f)
no_braced xs n b e h (Which.unit f ds ys w k l) = no_brace_digit xs ds ys b w k
no_braced xs n b e h (Which.braced f ds ys m w k l o p) =
    let digits : drop 1 xs ≡ ds ++ 125 ∷ ys = ap (λ x. drop 1 x) w in
    let count : n ≡ length ds = e ∙ ap (λ x. prefix_len (is_digit 16) x) digits ∙ prefix_past (is_digit 16) ds (125 ∷ ys) k.digits ∙ omega arith in
    let front : take n (drop 1 xs) ≡ ds = ap (λ x. take n x) digits ∙ ap (λ m. take m (ds ++ 125 ∷ ys)) count ∙ take-append_seam ds (125 ∷ ys) in
    let rest : drop n (drop 1 xs) ≡ 125 ∷ ys = ap (λ x. drop n x) digits ∙ ap (λ m. drop m (ds ++ 125 ∷ ys)) count ∙ drop-append_seam ds (125 ∷ ys) in
    let hex : list_all (is_digit 16) (take n (drop 1 xs)) ≡ true = subst (λ x. list_all (is_digit 16) x ≡ true) (sym front) k.digits in
    let spelled : spells_scalar (take n (drop 1 xs)) ≡ true = subst (λ x. spells_scalar x ≡ true) (sym front) p in
    let closed : begins 125 (drop n (drop 1 xs)) ≡ true = subst (λ x. begins 125 x ≡ true) (sym rest) refl in
    let lower : nat_le 1 n ≡ true = le-leb 1 n (omega (arith, l, count, k.count)) in
    let upper : nat_le n 6 ≡ true = le-leb n 6 (omega (arith, o, count, k.count)) in
    let within : nat_le n (length (drop 1 xs)) ≡ true = le-leb n (length (drop 1 xs)) (omega (arith, count, ap (λ x. length x) digits, length-append ds (125 ∷ ys))) in
    not_both (is_braced (drop 1 xs) n)
    (and_both _ _ lower (and_both _ _ upper (and_both _ _ closed (and_both _ _ within (and_both _ _ hex spelled))))) h

pub braced_lacks : (xs : List ℕ) (n : ℕ) → begins 123 xs ≡ true → n ≡ prefix_len (is_digit 16) (drop 1 xs) → is_braced (drop 1 xs) n ≡ false → Stops IsEscape (92 ∷ 117 ∷ xs)
braced_lacks xs n b e h = lacks 117 xs (no_braced xs n b e h)

low_or : (c k : ℕ) (b : Bool) → k < 128 → (b ≡ true → c < 128) → (b || (c == k)) ≡ true → c < 128
low_or c k true h f e = f refl
low_or c k false h f e = omega (arith, eqb-true c k e, h)

low_first : (c k : ℕ) → k < 128 → (c == k) ≡ true → c < 128
low_first c k h e = omega (arith, eqb-true c k e, h)

simple_low : (c : ℕ) → is_simple_escape c ≡ true → c < 128
simple_low c h =
    low_or c 96 _ (lit< tt) (low_or c 36 _ (lit< tt) (low_or c 34 _ (lit< tt) (low_or c 39 _ (lit< tt) (low_or c 92 _ (lit< tt)
    (low_or c 118 _ (lit< tt) (low_or c 102 _ (lit< tt) (low_or c 98 _ (lit< tt) (low_or c 114 _ (lit< tt) (low_or c 116 _ (lit< tt) (low_first c 110 (lit< tt))))))))))) h

high_digit : (d : ℕ) → 128 ≤ d → digit_value d ≡ 36
high_digit d h = grind (arith, nat_tests)

pub digit_low : (base d : ℕ) → base ≤ 36 → is_digit base d ≡ true → d < 128
digit_low base d b h =
    elim (cases_lt d 128) [ inl low ↦ low | inr high ↦ absurd (omega (arith, high_digit d high, ltb-true (digit_value d) base h, b)) ]

pub utf8_digits : (base : ℕ) (ds ys : List ℕ) → base ≤ 36 → list_all (is_digit base) ds ≡ true → IsUtf8 (ds ++ ys) → IsUtf8 ys
utf8_digits base [] ys b h u = u
utf8_digits base (d ∷ ds) ys b h u =
    utf8_digits base ds ys b (and_right (is_digit base d) (list_all (is_digit base) ds) h)
    (utf8_tail d (ds ++ ys) (digit_low base d b (and_left (is_digit base d) (list_all (is_digit base) ds) h)) u)

utf8_past_escape : {e ys : List ℕ} → IsEscape e ys → IsUtf8 (e ++ ys) → IsUtf8 ys
utf8_past_escape (IsEscape.simple c ys h) u = utf8_tail c ys (simple_low c h) (utf8_tail 92 (c ∷ ys) (lit< tt) u)
utf8_past_escape (IsEscape.zero ys h) u = utf8_tail 48 ys (lit< tt) (utf8_tail 92 (48 ∷ ys) (lit< tt) u)
utf8_past_escape (IsEscape.byte ds ys h) u = utf8_digits 16 ds ys (lit≤ tt) h.digits (utf8_tail 120 (ds ++ ys) (lit< tt) (utf8_tail 92 (120 ∷ ds ++ ys) (lit< tt) u))
utf8_past_escape (IsEscape.unit ds ys h k) u = utf8_digits 16 ds ys (lit≤ tt) h.digits (utf8_tail 117 (ds ++ ys) (lit< tt) (utf8_tail 92 (117 ∷ ds ++ ys) (lit< tt) u))
utf8_past_escape (IsEscape.braced ds ys n h a b k) u =
    let open_brace = utf8_tail 117 (123 ∷ ds ++ 125 ∷ [] ++ ys) (lit< tt) (utf8_tail 92 (117 ∷ 123 ∷ ds ++ 125 ∷ [] ++ ys) (lit< tt) u) in
    let digits = subst IsUtf8 (append_assoc ds (125 ∷ []) ys) (utf8_tail 123 (ds ++ 125 ∷ [] ++ ys) (lit< tt) open_brace) in
    utf8_tail 125 ys (lit< tt) (utf8_digits 16 ds (125 ∷ ys) (lit≤ tt) h.digits digits)

pub escape_front : (xs : List ℕ) (letter n : ℕ) → IsUtf8 xs → xs ≡ 92 ∷ letter ∷ drop 2 xs → IsEscapeRest letter (drop 2 xs) n → IsFront IsEscape xs (n + 2)
escape_front xs letter n u e r =
    let rest = drop 2 xs in
    let whole : xs ≡ 92 ∷ letter ∷ take n rest ++ drop n rest = e ∙ ap (λ x. 92 ∷ letter ∷ x) (sym (take-append-drop n rest)) in
    front_at IsEscape xs (92 ∷ letter ∷ take n rest) (drop n rest) (n + 2) whole (utf8_past_escape r.escape (subst IsUtf8 whole u)) r.escape (omega arith)
    (omega (arith, length-take n rest, r.within))

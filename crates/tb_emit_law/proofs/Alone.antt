-- Tokens before a byte with which they cannot go on.
use Rattle.std.proofs.Common.{◌≡◌, ℕ, ◌<◌, ◌≤◌, ◌==◌, Bool, true, false, List, [], ◌∷◌, ◌++◌, length, sym, ap, subst, ◌∙◌, refl, inl, inr, arith, lit<, lit≤, append_assoc, length-append}
use Rattle.std.specs.Prelude.{◌&&◌, ◌||◌, not, nat_lt, encode_utf8, Option, Some, None, if◌then◌else◌, ◌⊎◌}
use Rattle.std.specs.List.{list_all}
use Rattle.std.specs.Str.{bytes_eq}
use Rattle.std.proofs.lemmas.Bool.{eqb-true, cases_Bool, cases_lt}
use Rattle.std.proofs.lemmas.Bool.Decides.{nat_tests}
use Rattle.std.proofs.lemmas.Str.{encode_same, encode_ascii}
use Rattle.tb_scan.specs.declared.inside.Inside.TheVariants.{Word, Quoted, Template}
use Rattle.tb_scan.specs.declared.braces.Bracket.{Bracket}
use Rattle.tb_scan.specs.declared.token.Kind.{Kind}
use Rattle.tb_scan.specs.declared.token.Kind.TheVariants as k
use Rattle.tb_scan.specs.Characters.{is_blank, is_word_start, is_quote, is_digit, begins}
use Rattle.tb_scan.specs.Pieces.{Run, Stops, IsPiece, IsSpacing}
use Rattle.tb_scan.specs.Numbers.{IsNumber, is_whole, is_fraction, is_exponent, is_power, are_digits, base_of}
use Rattle.tb_scan.specs.Marks.{marks, is_mark}
use Rattle.tb_scan.specs.Tokens.{IsForm, IsToken, in_hole, is_plain_mark, is_glue}
use Rattle.tb_scan.proofs.TestLemmas.{and_left, and_right, and_both, not_both}
use Rattle.tb_scan.proofs.Runs.{run_longest, run_same}
use Rattle.tb_scan.proofs.Exact.{ascii_first, piece_exact, stops_before, run_equal}
use Rattle.tb_scan.proofs.Forms.{kind_group, form_group, of_marks}
use Rattle.tb_scan.proofs.Templates.{tick_stops, hole_stops, mark_shapes}
use Rattle.tb_scan.proofs.Reading.{quote_low}
use Rattle.tb_emit_law.proofs.Firsts.{number_first, clash, apart, below, not_true, nat_same, low_by, by_low, is_part, is_decimal, start_ascii, part_ascii}

-- ---- where nothing stands between tokens

no_space : (c : ℕ) (r p ys : List ℕ) → is_blank c ≡ false → (c ≡ 47 → ⊥) → encode_utf8 c ++ r ≡ p ++ ys → IsSpacing p ys → ⊥
no_space c r _ ys solid slash w (IsSpacing.blank d _ h) = not_both (is_blank d) h (subst (λ x. is_blank x ≡ false) (encode_same c d r ys w).0 solid)
no_space c r _ ys solid slash w (IsSpacing.line body _ run s) = slash (ascii_first c 47 r (47 ∷ body ++ ys) w (lit< tt)).0
no_space c r _ ys solid slash w (IsSpacing.block body _ run) = slash (ascii_first c 47 r (42 ∷ body ++ 42 ∷ 47 ∷ [] ++ ys) w (lit< tt)).0

-- no blank and no comment begins with this character
pub stops_char : (c : ℕ) (r : List ℕ) → is_blank c ≡ false → (c ≡ 47 → ⊥) → Stops IsSpacing (encode_utf8 c ++ r)
stops_char c r solid slash = record { never = λ p ys w h. no_space c r p ys solid slash w h }

pub stops_byte : (b : ℕ) (r : List ℕ) → b < 128 → is_blank b ≡ false → (b == 47) ≡ false → Stops IsSpacing (b ∷ r)
stops_byte b r low solid slash =
    subst (λ x. Stops IsSpacing (x ++ r)) (encode_ascii b low)
    (stops_char b r solid (λ e. let no : (47 == 47) ≡ false = subst (λ x. (x == 47) ≡ false) e slash in let same : true ≡ false = no in cc))

-- a `/` that begins no comment
no_comment : (e : ℕ) (s p ys : List ℕ) → (e ≡ 47 → ⊥) → (e ≡ 42 → ⊥) → 47 ∷ e ∷ s ≡ p ++ ys → IsSpacing p ys → ⊥
no_comment e s _ ys line block w (IsSpacing.blank d _ h) = not_both (is_blank d) h (subst (λ x. is_blank x ≡ false) (sym (ascii_first d 47 ys (e ∷ s) (sym w) (lit< tt)).0) refl)
no_comment e s _ ys line block w (IsSpacing.line body _ run h) = line cc
no_comment e s _ ys line block w (IsSpacing.block body _ run) = block cc

pub stops_slash : (e : ℕ) (s : List ℕ) → (e ≡ 47 → ⊥) → (e ≡ 42 → ⊥) → Stops IsSpacing (47 ∷ e ∷ s)
stops_slash e s line block = record { never = λ p ys w h. no_comment e s p ys line block w h }

-- ---- forms of one text

-- what begins with a token's first character begins with a form of its group
alike : (opened : List Bracket) {kind other : Kind} {t ys u zs : List ℕ} (c : ℕ) (r : List ℕ) → t ++ ys ≡ encode_utf8 c ++ r → IsForm opened kind t ys → IsForm opened other u zs
    → t ++ ys ≡ u ++ zs → kind_group other ≡ kind_group kind
alike opened {kind = kind} {other = other} {t = t} {ys = ys} {u = u} {zs = zs} c r e f g w = sym (form_group opened other u zs g c r (sym w ∙ e)) ∙ form_group opened kind t ys f c r e

alike_byte : (opened : List Bracket) {kind other : Kind} {t ys u zs : List ℕ} (b : ℕ) (s : List ℕ) → b < 128 → t ++ ys ≡ b ∷ s → IsForm opened kind t ys → IsForm opened other u zs
    → t ++ ys ≡ u ++ zs → kind_group other ≡ kind_group kind
alike_byte opened b s low e f g w = alike opened b s (e ∙ sym (ap (λ x. x ++ s) (encode_ascii b low))) f g w

-- ---- words

-- the text of a word
pub record IsWordText (t : List ℕ) : Type 0 where
  pub first : ℕ
  pub more : List ℕ
  pub whole : t ≡ encode_utf8 first ++ more
  pub start : is_word_start first ≡ true
  pub solid : is_blank first ≡ false
  pub run : (ys : List ℕ) → Run (IsPiece Word) more ys

stops_word : (e : ℕ) (s : List ℕ) → e < 128 → is_part e ≡ false → Stops (IsPiece Word) (e ∷ s)
stops_word e s low h = stops_before Word e s low (part_ascii e low ∙ h) (λ t. let no : false ≡ true = t in cc)

word_longest : (c : ℕ) (more ys : List ℕ) → Run (IsPiece Word) more ys → Stops (IsPiece Word) ys → (opened : List Bracket) {other : Kind} {u zs : List ℕ} → IsForm opened other u zs
    → kind_group other ≡ 1 → (encode_utf8 c ++ more) ++ ys ≡ u ++ zs → length u ≤ length (encode_utf8 c ++ more)
word_longest c more ys run stops opened (IsForm.word d rest zs st runs) g w =
    let both = encode_same c d (more ++ ys) (rest ++ zs) (sym (append_assoc (encode_utf8 c) more ys) ∙ w ∙ append_assoc (encode_utf8 d) rest zs) in
    let on = run_longest (IsPiece Word) (piece_exact Word) more ys rest zs run stops runs both.1 in
    omega (arith, ap (λ x. length x) on.longer, length-append rest on.by, length-append (encode_utf8 c) more, length-append (encode_utf8 d) rest, ap (λ x. length (encode_utf8 x)) both.0)
word_longest c more ys run stops opened (IsForm.number u zs m) g w = absurd (omega (arith, g))
word_longest c more ys run stops opened (IsForm.string q text zs h runs) g w = absurd (omega (arith, g))
word_longest c more ys run stops opened (IsForm.whole text zs runs) g w = absurd (omega (arith, g))
word_longest c more ys run stops opened (IsForm.head text zs runs) g w = absurd (omega (arith, g))
word_longest c more ys run stops opened (IsForm.middle text zs hole runs) g w = absurd (omega (arith, g))
word_longest c more ys run stops opened (IsForm.tail text zs hole runs) g w = absurd (omega (arith, g))
word_longest c more ys run stops opened (IsForm.mark u zs m) g w = absurd (omega (arith, g))

word_formed : (opened : List Bracket) (c : ℕ) (more ys : List ℕ) → is_word_start c ≡ true → Run (IsPiece Word) more ys → Stops (IsPiece Word) ys → IsToken opened k.Word (encode_utf8 c ++ more) ys
word_formed opened c more ys start run stops =
    let own : IsForm opened k.Word (encode_utf8 c ++ more) ys = IsForm.word c more ys start run in
    IsToken.formed k.Word (encode_utf8 c ++ more) ys
    (record {
      form = own;
      longest = λ other u zs f w. word_longest c more ys run stops opened f (alike opened c (more ++ ys) (append_assoc (encode_utf8 c) more ys) own f w) w;
    })
    (record { free = λ n c zs w. absurd cc })

pub word_token : (opened : List Bracket) (t : List ℕ) (e : ℕ) (s : List ℕ) → IsWordText t → e < 128 → is_part e ≡ false → IsToken opened k.Word t (e ∷ s)
word_token opened t e s word low h =
    let whole = word.whole in
    subst (λ x. IsToken opened k.Word x (e ∷ s)) (sym whole) (word_formed opened word.first word.more (e ∷ s) word.start (word.run (e ∷ s)) (stops_word e s low h))

pub stops_before_word : (t r : List ℕ) → IsWordText t → Stops IsSpacing (t ++ r)
stops_before_word t r word =
    subst (λ x. Stops IsSpacing x) (sym (append_assoc (encode_utf8 word.first) word.more r) ∙ ap (λ x. x ++ r) (sym word.whole))
    (stops_char word.first (word.more ++ r) word.solid (slash word.first word.start))
  where
    slash : (c : ℕ) → is_word_start c ≡ true → c ≡ 47 → ⊥
    slash c h e = let no : false ≡ true = sym (start_ascii 47 (lit< tt)) ∙ subst (λ x. is_word_start x ≡ true) e h in cc

-- ---- numbers

-- the bytes that numbers have: letters, digits, `.`, `+` and `-` among them
abbrev pub in_number : ℕ → Bool
in_number c = is_part c || ((c == 46) || ((c == 43) || (c == 45)))

abbrev pub is_plain_byte : ℕ → Bool
is_plain_byte c = nat_lt c 128 && in_number c

-- a text of such bytes ends before any other
ends : (t u : List ℕ) (e : ℕ) (s zs : List ℕ) → in_number e ≡ false → t ++ e ∷ s ≡ u ++ zs → list_all is_plain_byte u ≡ true → length u ≤ length t
ends t [] e s zs off w h = omega arith
ends [] (x ∷ u) e s zs off w h =
    let same : e ≡ x = cc in
    absurd (not_both (in_number x) (and_right (nat_lt x 128) (in_number x) (and_left (is_plain_byte x) (list_all is_plain_byte u) h)) (subst (λ v. in_number v ≡ false) same off))
ends (y ∷ t) (x ∷ u) e s zs off w h =
    let rest : t ++ e ∷ s ≡ u ++ zs = cc in
    let shorter = ends t u e s zs off rest (and_right (is_plain_byte x) (list_all is_plain_byte u) h) in omega (arith, shorter)

all_both : (p : ℕ → Bool) (a b : List ℕ) → list_all p a ≡ true → list_all p b ≡ true → list_all p (a ++ b) ≡ true
all_both p [] b h l = l
all_both p (x ∷ a) b h l = and_both (p x) (list_all p (a ++ b)) (and_left (p x) (list_all p a) h) (all_both p a b (and_right (p x) (list_all p a) h) l)

digit_byte : (base d : ℕ) → base ≤ 16 → is_digit base d ≡ true → is_plain_byte d ≡ true
unfolding below
digit_byte base d l h =
    let low : d < 128 = small d h l in
    and_both (nat_lt d 128) (in_number d) (by_low d low) (part (cases_Bool (in_number d)) low)
  where
    high : (d base : ℕ) → 123 ≤ d → base ≤ 16 → is_digit base d ≡ true → ⊥
    high d base m l h = grind (arith, nat_tests)

    small : (d : ℕ) → is_digit base d ≡ true → base ≤ 16 → d < 128
    small d h l = elim (cases_lt d 123) [ inl less ↦ omega (arith, less) | inr more ↦ absurd (high d base more l h) ]

    wider : (d base : ℕ) → base ≤ 16 → is_digit base d ≡ true → is_digit 16 d ≡ true
    wider d base l h = grind (arith, nat_tests)

    part : (in_number d ≡ true) ⊎ (in_number d ≡ false) → d < 128 → in_number d ≡ true
    part (inl e) low = e
    part (inr e) low = absurd (clash (is_digit 16) (λ c. not (in_number c)) d refl low (wider d base l h) (ap not e))

pub digits_bytes : (base : ℕ) (ds : List ℕ) → base ≤ 16 → list_all (is_digit base) ds ≡ true → list_all is_plain_byte ds ≡ true
digits_bytes base [] l h = refl
digits_bytes base (d ∷ ds) l h =
    and_both (is_plain_byte d) (list_all is_plain_byte ds) (digit_byte base d l (and_left (is_digit base d) (list_all (is_digit base) ds) h))
    (digits_bytes base ds l (and_right (is_digit base d) (list_all (is_digit base) ds) h))

some_bytes : (base : ℕ) (ds : List ℕ) → base ≤ 16 → are_digits base ds ≡ true → list_all is_plain_byte ds ≡ true
some_bytes base [] l h = let n : false ≡ true = h in cc
some_bytes base (d ∷ ds) l h = digits_bytes base (d ∷ ds) l h

whole_bytes : (t : List ℕ) → is_whole t ≡ true → list_all is_plain_byte t ≡ true
whole_bytes [] h = refl
whole_bytes (d ∷ []) h = digits_bytes 10 (d ∷ []) (omega arith) (and_both (is_digit 10 d) true h refl)
whole_bytes (d ∷ e ∷ ds) h = some_bytes 10 (d ∷ e ∷ ds) (omega arith) (and_right (not (d == 48)) (are_digits 10 (d ∷ e ∷ ds)) h)

-- a byte that is one of two such bytes
one_byte : (k c : ℕ) → is_plain_byte k ≡ true → (c == k) ≡ true → is_plain_byte c ≡ true
one_byte k c h e = ap is_plain_byte (eqb-true c k e) ∙ h

two_bytes : (k n c : ℕ) → is_plain_byte k ≡ true → is_plain_byte n ≡ true → ((c == k) || (c == n)) ≡ true → is_plain_byte c ≡ true
two_bytes k n c h l e = elim (cases_Bool (c == k)) [
  | inl same ↦ one_byte k c h same
  | inr other ↦ one_byte n c l (sym (ap (λ b. b || (c == n)) other) ∙ e)
]

fraction_bytes : (t : List ℕ) → is_fraction t ≡ true → list_all is_plain_byte t ≡ true
fraction_bytes [] h = refl
fraction_bytes (c ∷ ds) h =
    and_both (is_plain_byte c) (list_all is_plain_byte ds) (one_byte 46 c refl (and_left (c == 46) (are_digits 10 ds) h)) (some_bytes 10 ds (omega arith) (and_right (c == 46) (are_digits 10 ds) h))

power_bytes : (t : List ℕ) → is_power t ≡ true → list_all is_plain_byte t ≡ true
power_bytes [] h = refl
power_bytes (c ∷ ds) h = elim (cases_Bool (are_digits 10 (c ∷ ds))) [
  | inl e ↦ some_bytes 10 (c ∷ ds) (omega arith) e
  | inr e ↦
      let signed : (((c == 43) || (c == 45)) && are_digits 10 ds) ≡ true = sym (ap (λ b. b || (((c == 43) || (c == 45)) && are_digits 10 ds)) e) ∙ h in
      and_both (is_plain_byte c) (list_all is_plain_byte ds) (two_bytes 43 45 c refl refl (and_left ((c == 43) || (c == 45)) (are_digits 10 ds) signed))
      (some_bytes 10 ds (omega arith) (and_right ((c == 43) || (c == 45)) (are_digits 10 ds) signed))
]

exponent_bytes : (t : List ℕ) → is_exponent t ≡ true → list_all is_plain_byte t ≡ true
exponent_bytes [] h = refl
exponent_bytes (c ∷ ds) h =
    and_both (is_plain_byte c) (list_all is_plain_byte ds) (two_bytes 101 69 c refl refl (and_left ((c == 101) || (c == 69)) (is_power ds) h))
    (power_bytes ds (and_right ((c == 101) || (c == 69)) (is_power ds) h))

-- the letter behind `0`, and the base that it names
based_bytes : (letter base : ℕ) (ds : List ℕ) → base_of letter ≡ Some base → are_digits base ds ≡ true → list_all is_plain_byte (letter ∷ ds) ≡ true
based_bytes letter base ds b h =
    let named = letter_of letter base b in
    and_both (is_plain_byte letter) (list_all is_plain_byte ds) named.0 (some_bytes base ds named.1 h)
  where
    chosen : (c : Bool) (x base : ℕ) (rest : Option ℕ) → (if c then Some x else rest) ≡ Some base → ((c ≡ true) × (x ≡ base)) ⊎ (rest ≡ Some base)
    chosen true x base rest e = inl (refl, cc)
    chosen false x base rest e = inr e

    named_by : (letter key x base : ℕ) → is_plain_byte key ≡ true → x ≤ 16 → (letter == key) ≡ true → x ≡ base
        → (is_plain_byte letter ≡ true) × (base ≤ 16)
    named_by letter key x base n d e f = (one_byte key letter n e, omega (arith, d, f))

    letter_of : (letter base : ℕ) → base_of letter ≡ Some base → (is_plain_byte letter ≡ true) × (base ≤ 16)
    letter_of letter base b = elim (chosen (letter == 120) 16 base (if letter == 111 then Some 8 else (if letter == 98 then Some 2 else None)) b) [
      | inl p ↦ named_by letter 120 16 base refl (omega arith) p.0 p.1
      | inr q ↦ elim (chosen (letter == 111) 8 base (if letter == 98 then Some 2 else None) q) [
        | inl p ↦ named_by letter 111 8 base refl (omega arith) p.0 p.1
        | inr r ↦ elim (chosen (letter == 98) 2 base None r) [
          | inl p ↦ named_by letter 98 2 base refl (omega arith) p.0 p.1
          | inr n ↦ absurd cc
        ]
      ]
    ]

pub number_bytes : {t : List ℕ} → IsNumber t → list_all is_plain_byte t ≡ true
number_bytes (IsNumber.decimal whole fraction exponent w f e) =
    all_both is_plain_byte whole (fraction ++ exponent) (whole_bytes whole w) (all_both is_plain_byte fraction exponent (fraction_bytes fraction f) (exponent_bytes exponent e))
number_bytes (IsNumber.based letter base ds b h) = based_bytes letter base ds b h

number_longest : (opened : List Bracket) (t : List ℕ) (e : ℕ) (s : List ℕ) → in_number e ≡ false → {other : Kind} {u zs : List ℕ} → IsForm opened other u zs → kind_group other ≡ 2
    → t ++ e ∷ s ≡ u ++ zs → length u ≤ length t
number_longest opened t e s off (IsForm.number u zs m) g w = ends t u e s zs off w (number_bytes m)
number_longest opened t e s off (IsForm.word d rest zs st runs) g w = absurd (omega (arith, g))
number_longest opened t e s off (IsForm.string q text zs h runs) g w = absurd (omega (arith, g))
number_longest opened t e s off (IsForm.whole text zs runs) g w = absurd (omega (arith, g))
number_longest opened t e s off (IsForm.head text zs runs) g w = absurd (omega (arith, g))
number_longest opened t e s off (IsForm.middle text zs hole runs) g w = absurd (omega (arith, g))
number_longest opened t e s off (IsForm.tail text zs hole runs) g w = absurd (omega (arith, g))
number_longest opened t e s off (IsForm.mark u zs m) g w = absurd (omega (arith, g))

-- such a byte glues to no number
byte_free : (e : ℕ) (s : List ℕ) → e < 128 → in_number e ≡ false → (c : ℕ) (zs : List ℕ) → e ∷ s ≡ encode_utf8 c ++ zs → is_glue c ≡ false
byte_free e s low off c zs w = ap is_glue (ascii_first c e zs s (sym w) low).0 ∙ ap (λ b. b || (e == 46)) (part_ascii e low) ∙ apart_from (is_part e) (e == 46) ((e == 43) || (e == 45)) off
  where
    apart_from : (a b c : Bool) → (a || (b || c)) ≡ false → (a || b) ≡ false
    apart_from true b c h = h
    apart_from false true c h = h
    apart_from false false c h = refl

pub number_token : (opened : List Bracket) (t : List ℕ) (e : ℕ) (s : List ℕ) → IsNumber t → e < 128 → in_number e ≡ false → IsToken opened k.Number t (e ∷ s)
number_token opened t e s number low off =
    let own : IsForm opened k.Number t (e ∷ s) = IsForm.number t (e ∷ s) number in
    let at = number_first (e ∷ s) number in
    IsToken.formed k.Number t (e ∷ s)
    (record { form = own; longest = λ other u zs f w. number_longest opened t e s off f (alike_byte opened at.byte at.rest at.low at.whole own f w) w })
    (record { free = λ n c zs w. byte_free e s low off c zs w })

pub stops_before_number : (t r : List ℕ) → IsNumber t → Stops IsSpacing (t ++ r)
unfolding below
stops_before_number t r number =
    let at = number_first r number in
    subst (λ x. Stops IsSpacing x) (sym at.whole)
    (stops_byte at.byte at.rest at.low (not_also is_blank at.byte refl at.low at.passes) (not_also (λ x. x == 47) at.byte refl at.low at.passes))
  where
    not_also : (p : ℕ → Bool) (b : ℕ) → apart is_decimal p ≡ true → b < 128 → is_decimal b ≡ true → p b ≡ false
    not_also p b h l d = elim (cases_Bool (p b)) [ inl e ↦ absurd (clash is_decimal p b h l d e) | inr e ↦ e ]

-- ---- strings

-- the text of a string
pub record IsStringText (t : List ℕ) : Type 0 where
  pub quote : ℕ
  pub body : List ℕ
  pub whole : t ≡ quote ∷ body ++ quote ∷ []
  pub quoted : is_quote quote ≡ true
  pub run : (ys : List ℕ) → Run (IsPiece (Quoted quote)) body (quote ∷ ys)

stops_quote : (q : ℕ) (s : List ℕ) → is_quote q ≡ true → Stops (IsPiece (Quoted q)) (q ∷ s)
stops_quote q s h =
    stops_before (Quoted q) q s (quote_low q h) (ap (λ b. not (b || (q == 92) || (q == 10) || (q == 13))) (nat_same q))
    (λ t e. let never : false ≡ true = subst (λ x. is_quote x ≡ true) e h in cc)

quoted_same : (q : ℕ) (body : List ℕ) (s : List ℕ) → (q ∷ body ++ q ∷ []) ++ s ≡ q ∷ body ++ q ∷ s
quoted_same q body s = ap (λ x. q ∷ x) (append_assoc body (q ∷ []) s)

string_longest : (opened : List Bracket) (q : ℕ) (body s : List ℕ) → is_quote q ≡ true → Run (IsPiece (Quoted q)) body (q ∷ s) → {other : Kind} {u zs : List ℕ} → IsForm opened other u zs
    → kind_group other ≡ 3 → q ∷ body ++ q ∷ s ≡ u ++ zs → length u ≤ length (q ∷ body ++ q ∷ [])
string_longest opened q body s quoted run (IsForm.string quote text zs h runs) g w =
    let inner : q ∷ body ++ q ∷ s ≡ quote ∷ text ++ quote ∷ zs = w ∙ quoted_same quote text zs in
    let same : q ≡ quote = cc in
    let rest : body ++ q ∷ s ≡ text ++ quote ∷ zs = cc in
    let run_q : Run (IsPiece (Quoted q)) text (q ∷ zs) = subst (λ x. Run (IsPiece (Quoted x)) text (x ∷ zs)) (sym same) runs in
    let bodies : body ≡ text = run_equal (Quoted q) body (q ∷ s) text (q ∷ zs) run (stops_quote q s quoted) run_q (stops_quote q zs quoted) (rest ∙ ap (λ x. text ++ x ∷ zs) (sym same)) in
    omega (arith, length-append text (quote ∷ []), length-append body (q ∷ []), ap (λ x. length x) bodies)
string_longest opened q body s quoted run (IsForm.word d rest zs st runs) g w = absurd (omega (arith, g))
string_longest opened q body s quoted run (IsForm.number u zs m) g w = absurd (omega (arith, g))
string_longest opened q body s quoted run (IsForm.whole text zs runs) g w = absurd (omega (arith, g))
string_longest opened q body s quoted run (IsForm.head text zs runs) g w = absurd (omega (arith, g))
string_longest opened q body s quoted run (IsForm.middle text zs hole runs) g w = absurd (omega (arith, g))
string_longest opened q body s quoted run (IsForm.tail text zs hole runs) g w = absurd (omega (arith, g))
string_longest opened q body s quoted run (IsForm.mark u zs m) g w = absurd (omega (arith, g))

pub string_token : (opened : List Bracket) (t s : List ℕ) → IsStringText t → IsToken opened k.Str t s
string_token opened t s text =
    let q = text.quote in
    let own : IsForm opened k.Str (q ∷ text.body ++ q ∷ []) s = IsForm.string q text.body s text.quoted (text.run s) in
    subst (λ x. IsToken opened k.Str x s) (sym text.whole)
    (IsToken.formed k.Str (q ∷ text.body ++ q ∷ []) s
    (record {
      form = own;
      longest = λ other u zs f w. string_longest opened q text.body s text.quoted (text.run s) f
          (alike_byte opened q ((text.body ++ q ∷ []) ++ s) (quote_low q text.quoted) refl own f w) (sym (quoted_same q text.body s) ∙ w);
    })
    (record { free = λ n c zs w. absurd cc }))

pub stops_before_string : (t r : List ℕ) → IsStringText t → Stops IsSpacing (t ++ r)
unfolding below
stops_before_string t r text =
    let q = text.quote in
    subst (λ x. Stops IsSpacing (x ++ r)) (sym text.whole)
    (stops_byte q ((text.body ++ q ∷ []) ++ r) (quote_low q text.quoted) (not_also is_blank q refl text.quoted) (not_also (λ x. x == 47) q refl text.quoted))
  where
    not_also : (p : ℕ → Bool) (b : ℕ) → apart is_quote p ≡ true → is_quote b ≡ true → p b ≡ false
    not_also p b h d = elim (cases_Bool (p b)) [ inl e ↦ absurd (clash is_quote p b h (quote_low b d) d e) | inr e ↦ e ]

-- ---- templates

-- the text of a part of a template: from a backtick or a `}` to a backtick or a `${`
pub record IsPartText (first : ℕ) (last t : List ℕ) : Type 0 where
  pub body : List ℕ
  pub whole : t ≡ first ∷ body ++ last
  pub run : (ys : List ℕ) → Run (IsPiece Template) body (last ++ ys)

abbrev pub tick : List ℕ
tick = 96 ∷ []

abbrev pub hole : List ℕ
hole = 36 ∷ 123 ∷ []

-- two bodies of a text end at one place
bodies_same : (body ys text zs : List ℕ) → Run (IsPiece Template) body ys → Stops (IsPiece Template) ys → Run (IsPiece Template) text zs → Stops (IsPiece Template) zs
    → body ++ ys ≡ text ++ zs → (body ≡ text) × (ys ≡ zs)
bodies_same body ys text zs r s q l e =
    (run_equal Template body ys text zs r s q l e, run_same (IsPiece Template) (piece_exact Template) body ys text zs r s q l e)

-- behind one byte a text ends with a backtick, or with a `${`, and not with both
tick_tick : (a b : ℕ) (body s text zs : List ℕ) → Run (IsPiece Template) body (96 ∷ s) → Run (IsPiece Template) text (96 ∷ zs) → (a ∷ body ++ tick) ++ s ≡ (b ∷ text ++ tick) ++ zs
    → length (b ∷ text ++ tick) ≤ length (a ∷ body ++ tick)
tick_tick a b body s text zs run runs w =
    let inner : a ∷ body ++ 96 ∷ s ≡ b ∷ text ++ 96 ∷ zs = ap (λ x. a ∷ x) (sym (append_assoc body tick s)) ∙ w ∙ ap (λ x. b ∷ x) (append_assoc text tick zs) in
    let rest : body ++ 96 ∷ s ≡ text ++ 96 ∷ zs = cc in
    let same = bodies_same body (96 ∷ s) text (96 ∷ zs) run (tick_stops s) runs (tick_stops zs) rest in
    omega (arith, length-append text tick, length-append body tick, ap (λ x. length x) same.0)

tick_hole : (a b : ℕ) (body s text zs : List ℕ) → Run (IsPiece Template) body (96 ∷ s) → Run (IsPiece Template) text (36 ∷ 123 ∷ zs) → (a ∷ body ++ tick) ++ s ≡ (b ∷ text ++ hole) ++ zs → ⊥
tick_hole a b body s text zs run runs w =
    let inner : a ∷ body ++ 96 ∷ s ≡ b ∷ text ++ 36 ∷ 123 ∷ zs = ap (λ x. a ∷ x) (sym (append_assoc body tick s)) ∙ w ∙ ap (λ x. b ∷ x) (append_assoc text hole zs) in
    let rest : body ++ 96 ∷ s ≡ text ++ 36 ∷ 123 ∷ zs = cc in
    let same = bodies_same body (96 ∷ s) text (36 ∷ 123 ∷ zs) run (tick_stops s) runs (hole_stops zs) rest in
    let no : ◌≡◌ {A = ℕ} 96 36 = cc same.1 in omega (arith, no)

hole_hole : (a b : ℕ) (body s text zs : List ℕ) → Run (IsPiece Template) body (36 ∷ 123 ∷ s) → Run (IsPiece Template) text (36 ∷ 123 ∷ zs) → (a ∷ body ++ hole) ++ s ≡ (b ∷ text ++ hole) ++ zs
    → length (b ∷ text ++ hole) ≤ length (a ∷ body ++ hole)
hole_hole a b body s text zs run runs w =
    let inner : a ∷ body ++ 36 ∷ 123 ∷ s ≡ b ∷ text ++ 36 ∷ 123 ∷ zs = ap (λ x. a ∷ x) (sym (append_assoc body hole s)) ∙ w ∙ ap (λ x. b ∷ x) (append_assoc text hole zs) in
    let rest : body ++ 36 ∷ 123 ∷ s ≡ text ++ 36 ∷ 123 ∷ zs = cc in
    let same = bodies_same body (36 ∷ 123 ∷ s) text (36 ∷ 123 ∷ zs) run (hole_stops s) runs (hole_stops zs) rest in
    omega (arith, length-append text hole, length-append body hole, ap (λ x. length x) same.0)

-- two forms that are templates
ticked_longest : (opened : List Bracket) (a : ℕ) (body s : List ℕ) → Run (IsPiece Template) body (96 ∷ s) → {other : Kind} {u zs : List ℕ} → IsForm opened other u zs
    → 4 ≤ kind_group other → kind_group other ≤ 5 → (a ∷ body ++ tick) ++ s ≡ u ++ zs → length u ≤ length (a ∷ body ++ tick)
ticked_longest opened a body s run (IsForm.whole text zs runs) low high w = tick_tick a 96 body s text zs run runs w
ticked_longest opened a body s run (IsForm.head text zs runs) low high w = absurd (tick_hole a 96 body s text zs run runs w)
ticked_longest opened a body s run (IsForm.middle text zs inside runs) low high w = absurd (tick_hole a 125 body s text zs run runs w)
ticked_longest opened a body s run (IsForm.tail text zs inside runs) low high w = tick_tick a 125 body s text zs run runs w
ticked_longest opened a body s run (IsForm.word d rest zs st runs) low high w = absurd (omega (arith, low))
ticked_longest opened a body s run (IsForm.number u zs m) low high w = absurd (omega (arith, low))
ticked_longest opened a body s run (IsForm.string q text zs h runs) low high w = absurd (omega (arith, low))
ticked_longest opened a body s run (IsForm.mark u zs m) low high w = absurd (omega (arith, high))

holed_longest : (opened : List Bracket) (a : ℕ) (body s : List ℕ) → Run (IsPiece Template) body (36 ∷ 123 ∷ s) → {other : Kind} {u zs : List ℕ} → IsForm opened other u zs
    → 4 ≤ kind_group other → kind_group other ≤ 5 → (a ∷ body ++ hole) ++ s ≡ u ++ zs → length u ≤ length (a ∷ body ++ hole)
holed_longest opened a body s run (IsForm.whole text zs runs) low high w = absurd (tick_hole 96 a text zs body s runs run (sym w))
holed_longest opened a body s run (IsForm.head text zs runs) low high w = hole_hole a 96 body s text zs run runs w
holed_longest opened a body s run (IsForm.middle text zs inside runs) low high w = hole_hole a 125 body s text zs run runs w
holed_longest opened a body s run (IsForm.tail text zs inside runs) low high w = absurd (tick_hole 125 a text zs body s runs run (sym w))
holed_longest opened a body s run (IsForm.word d rest zs st runs) low high w = absurd (omega (arith, low))
holed_longest opened a body s run (IsForm.number u zs m) low high w = absurd (omega (arith, low))
holed_longest opened a body s run (IsForm.string q text zs h runs) low high w = absurd (omega (arith, low))
holed_longest opened a body s run (IsForm.mark u zs m) low high w = absurd (omega (arith, high))

-- a template that ends here, and one up to a `${`
ticked_token : (opened : List Bracket) (kind : Kind) (a : ℕ) (body s : List ℕ) → a < 128 → (kind ≡ k.Number → ⊥) → 4 ≤ kind_group kind → kind_group kind ≤ 5 → Run (IsPiece Template) body (96 ∷ s)
    → IsForm opened kind (a ∷ body ++ tick) s → IsToken opened kind (a ∷ body ++ tick) s
ticked_token opened kind a body s first other low high run own = IsToken.formed kind (a ∷ body ++ tick) s
    (record {
      form = own;
      longest = λ o u zs f w.
          let same = alike_byte opened a ((body ++ tick) ++ s) first refl own f w in
          ticked_longest opened a body s run f (omega (arith, low, same)) (omega (arith, high, same)) w;
    })
    (record { free = λ n c zs w. absurd (other n) })

holed_token : (opened : List Bracket) (kind : Kind) (a : ℕ) (body s : List ℕ) → a < 128 → (kind ≡ k.Number → ⊥) → 4 ≤ kind_group kind → kind_group kind ≤ 5
    → Run (IsPiece Template) body (36 ∷ 123 ∷ s) → IsForm opened kind (a ∷ body ++ hole) s → IsToken opened kind (a ∷ body ++ hole) s
holed_token opened kind a body s first other low high run own = IsToken.formed kind (a ∷ body ++ hole) s
    (record {
      form = own;
      longest = λ o u zs f w.
          let same = alike_byte opened a ((body ++ hole) ++ s) first refl own f w in
          holed_longest opened a body s run f (omega (arith, low, same)) (omega (arith, high, same)) w;
    })
    (record { free = λ n c zs w. absurd (other n) })

pub whole_token : (opened : List Bracket) (t s : List ℕ) → IsPartText 96 tick t → IsToken opened k.Whole t s
whole_token opened t s text =
    subst (λ x. IsToken opened k.Whole x s) (sym text.whole)
    (ticked_token opened k.Whole 96 text.body s (lit< tt) (λ n. cc) (lit≤ tt) (lit≤ tt) (text.run s) (IsForm.whole text.body s (text.run s)))

pub head_token : (opened : List Bracket) (t s : List ℕ) → IsPartText 96 hole t → IsToken opened k.Head t s
head_token opened t s text =
    subst (λ x. IsToken opened k.Head x s) (sym text.whole)
    (holed_token opened k.Head 96 text.body s (lit< tt) (λ n. cc) (lit≤ tt) (lit≤ tt) (text.run s) (IsForm.head text.body s (text.run s)))

pub middle_token : (opened : List Bracket) (t s : List ℕ) → in_hole opened ≡ true → IsPartText 125 hole t → IsToken opened k.Middle t s
middle_token opened t s inside text =
    subst (λ x. IsToken opened k.Middle x s) (sym text.whole)
    (holed_token opened k.Middle 125 text.body s (lit< tt) (λ n. cc) (lit≤ tt) (lit≤ tt) (text.run s) (IsForm.middle text.body s inside (text.run s)))

pub tail_token : (opened : List Bracket) (t s : List ℕ) → in_hole opened ≡ true → IsPartText 125 tick t → IsToken opened k.Tail t s
tail_token opened t s inside text =
    subst (λ x. IsToken opened k.Tail x s) (sym text.whole)
    (ticked_token opened k.Tail 125 text.body s (lit< tt) (λ n. cc) (lit≤ tt) (lit≤ tt) (text.run s) (IsForm.tail text.body s inside (text.run s)))

pub stops_before_part : (a : ℕ) (last t r : List ℕ) → a < 128 → is_blank a ≡ false → (a == 47) ≡ false → IsPartText a last t → Stops IsSpacing (t ++ r)
stops_before_part a last t r low solid slash text = subst (λ x. Stops IsSpacing (x ++ r)) (sym text.whole) (stops_byte a ((text.body ++ last) ++ r) low solid slash)

-- ---- marks

-- the text m begins with the text t and this byte behind it
abbrev pub goes_on : List ℕ → ℕ → List ℕ → Bool
goes_on [] e [] = false
goes_on [] e (y ∷ m) = e == y
goes_on (b ∷ t) e [] = false
goes_on (b ∷ t) e (x ∷ m) = (x == b) && goes_on t e m

-- no mark begins with the text t and the first byte of what follows
abbrev pub ends_before : List ℕ → List ℕ → Bool
ends_before t [] = true
ends_before t (e ∷ s) = list_all (λ m. not (goes_on t e m)) marks

goes_on_by : (t : List ℕ) (e : ℕ) (s u zs : List ℕ) → t ++ e ∷ s ≡ u ++ zs → length t < length u → goes_on t e u ≡ true
goes_on_by [] e s [] zs w l = absurd (omega (arith, l))
goes_on_by [] e s (y ∷ u) zs w l = let same : e ≡ y = cc in ap (λ x. x == y) same ∙ nat_same y
goes_on_by (b ∷ t) e s [] zs w l = absurd (omega (arith, l))
goes_on_by (b ∷ t) e s (x ∷ u) zs w l =
    let same : b ≡ x = cc in
    let rest : t ++ e ∷ s ≡ u ++ zs = cc in
    and_both (x == b) (goes_on t e u) (ap (λ v. x == v) same ∙ nat_same x) (goes_on_by t e s u zs rest (omega (arith, l)))

mark_fits : (t ys u zs : List ℕ) → ends_before t ys ≡ true → is_mark u ≡ true → t ++ ys ≡ u ++ zs → length u ≤ length t
mark_fits t [] u zs h m w = omega (arith, ap (λ x. length x) w, length-append t [], length-append u zs)
mark_fits t (e ∷ s) u zs h m w = elim (cases_lt (length t) (length u)) [
  | inl less ↦ absurd (not_both (goes_on t e u) (goes_on_by t e s u zs w less) (not_true (goes_on t e u) (of_marks (λ v. not (goes_on t e v)) marks u h m)))
  | inr more ↦ more
]

plain_is_mark : (opened : List Bracket) (t ys : List ℕ) → is_plain_mark opened t ys ≡ true → is_mark t ≡ true
plain_is_mark opened t ys h = and_left (is_mark t) (not (bytes_eq t (125 ∷ []) && in_hole opened) && not (bytes_eq t (47 ∷ []) && begins 42 ys)) h

mark_longest : (opened : List Bracket) (t ys : List ℕ) → ends_before t ys ≡ true → {other : Kind} {u zs : List ℕ} → IsForm opened other u zs → kind_group other ≡ 6 → t ++ ys ≡ u ++ zs
    → length u ≤ length t
mark_longest opened t ys h (IsForm.mark u zs m) g w = mark_fits t ys u zs h (plain_is_mark opened u zs m) w
mark_longest opened t ys h (IsForm.word d rest zs st runs) g w = absurd (omega (arith, g))
mark_longest opened t ys h (IsForm.number u zs m) g w = absurd (omega (arith, g))
mark_longest opened t ys h (IsForm.string q text zs k runs) g w = absurd (omega (arith, g))
mark_longest opened t ys h (IsForm.whole text zs runs) g w = absurd (omega (arith, g))
mark_longest opened t ys h (IsForm.head text zs runs) g w = absurd (omega (arith, g))
mark_longest opened t ys h (IsForm.middle text zs inside runs) g w = absurd (omega (arith, g))
mark_longest opened t ys h (IsForm.tail text zs inside runs) g w = absurd (omega (arith, g))

mark_formed : (opened : List Bracket) (b : ℕ) (r ys : List ℕ) → b < 128 → is_plain_mark opened (b ∷ r) ys ≡ true → ends_before (b ∷ r) ys ≡ true → IsToken opened k.Mark (b ∷ r) ys
mark_formed opened b r ys low plain h =
    let own : IsForm opened k.Mark (b ∷ r) ys = IsForm.mark (b ∷ r) ys plain in
    IsToken.formed k.Mark (b ∷ r) ys
    (record { form = own; longest = λ other u zs f w. mark_longest opened (b ∷ r) ys h f (alike_byte opened b (r ++ ys) low refl own f w) w })
    (record { free = λ n c zs w. absurd cc })

pub mark_token : (opened : List Bracket) (t ys : List ℕ) → is_plain_mark opened t ys ≡ true → ends_before t ys ≡ true → IsToken opened k.Mark t ys
mark_token opened [] ys plain h = let no : false ≡ true = plain_is_mark opened [] ys plain in absurd cc
mark_token opened (b ∷ r) ys plain h =
    let shape = mark_shapes (b ∷ r) (plain_is_mark opened (b ∷ r) ys plain) in
    let low = low_by b (and_left (nat_lt b 128) (list_all (λ c. nat_lt c 128) r) (and_right (nat_lt 0 (length (b ∷ r))) (list_all (λ c. nat_lt c 128) (b ∷ r)) shape)) in
    mark_formed opened b r ys low plain h

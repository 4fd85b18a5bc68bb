-- The one spelling of a string is the text of a string, in UTF-8.
use Rattle.std.proofs.Common.{◌≡◌, ◌≢◌, ℕ, zero, suc, ◌-◌, ◌*◌, ◌/◌, ◌<◌, ◌≤◌, ◌==◌, Bool, true, false, if◌then◌else◌, List, [], ◌∷◌, ◌++◌, flat_map, encode_utf8_all, refl, sym, ap, subst, ◌∙◌, inl, inr, arith, lit<, lt-ltb, le-ltb, ne_eqb}
use Rattle.std.specs.Prelude.{◌&&◌, ◌||◌, not, encode_utf8, IsUtf8}
use Rattle.std.specs.List.{AllByRecursion, list_all}
use Rattle.std.specs.Str.{chars, all_scalars}
use Rattle.std.specs.Char.{IsScalar, digit_char}
use Rattle.std.proofs.lemmas.Bool.{cases_eq, cases_lt}
use Rattle.std.proofs.lemmas.Bool.Decides.{nat_tests}
use Rattle.std.proofs.lemmas.List.{append-nil}
use Rattle.std.proofs.lemmas.Str.{encode_ascii, encodes-append, scalars-chars, IsUtf8-append, IsUtf8-nil, IsUtf8-encode}
use Rattle.tb_scan.specs.declared.inside.Inside.TheVariants.{Quoted}
use Rattle.tb_scan.specs.Characters.{is_digit}
use Rattle.tb_scan.specs.Pieces.{Run, IsPiece, IsEscape, is_simple_escape}
use Rattle.tb_scan.proofs.TestLemmas.{and_left, and_right, and_both}
use Rattle.tb_layout.specs.Quoted.{Standing, Alone, Escaped, Unit, InDigits, InBraces, escaped_value, with_digit, character, stands_next, completes, value_from, value_of, string_value, hex_escape, quoted_character, quoted_value, quoted}
use Rattle.tb_emit_law.proofs.Alone.{IsStringText}

-- ---- characters of values

abbrev Scalars : List ℕ → Type 0
Scalars = AllByRecursion IsScalar

scalars_of : (cs : List ℕ) → all_scalars cs ≡ true → Scalars cs
scalars_of [] e = tt
scalars_of (c ∷ cs) e = (and_left _ (all_scalars cs) e, scalars_of cs (and_right _ (all_scalars cs) e))

both_scalars : (xs ys : List ℕ) → Scalars xs → Scalars ys → Scalars (xs ++ ys)
both_scalars [] ys h l = l
both_scalars (x ∷ xs) ys h l = (h.0, both_scalars xs ys h.1 l)

if_scalars : (b : Bool) (xs ys : List ℕ) → Scalars xs → Scalars ys → Scalars (if b then xs else ys)
if_scalars true xs ys h l = h
if_scalars false xs ys h l = l

if_scalar : (b : Bool) (x y : ℕ) → IsScalar x → IsScalar y → IsScalar (if b then x else y)
if_scalar true x y h l = h
if_scalar false x y h l = l

character_scalar : (n : ℕ) → IsScalar (character n)
character_scalar n = by (all_scalars (n ∷ [])) refl
  where
    by : (b : Bool) → all_scalars (n ∷ []) ≡ b → IsScalar (if b then n else 65533)
    by true e = and_left _ true e
    by false e = refl

escaped_scalar : (c : ℕ) → IsScalar c → IsScalar (escaped_value c)
escaped_scalar c h =
    if_scalar (c == 110) 10 _ refl (if_scalar (c == 116) 9 _ refl (if_scalar (c == 114) 13 _ refl (if_scalar (c == 98) 8 _ refl (if_scalar (c == 102) 12 _ refl (if_scalar (c == 118) 11 _ refl (if_scalar (c == 48) 0 c refl h))))))

complete_scalars : (quote : ℕ) (standing : Standing) (c : ℕ) → IsScalar c → Scalars (completes quote standing c)
complete_scalars quote Alone c h = if_scalars ((c == 92) || (c == quote)) [] (c ∷ []) tt (h, tt)
complete_scalars quote Escaped c h = if_scalars ((c == 120) || (c == 117)) [] (escaped_value c ∷ []) tt (escaped_scalar c h, tt)
complete_scalars quote Unit c h = tt
complete_scalars quote (InDigits zero n) c h = (character_scalar (with_digit n c), tt)
complete_scalars quote (InDigits (suc more) n) c h = tt
complete_scalars quote (InBraces n) c h = if_scalars (c == 125) (character n ∷ []) [] (character_scalar n, tt) tt

value_scalars : (quote : ℕ) (standing : Standing) (cs : List ℕ) → Scalars cs → Scalars (value_from quote standing cs)
unfolding value_from
value_scalars quote standing [] h = tt
value_scalars quote standing (c ∷ cs) h =
    both_scalars (completes quote standing c) (value_from quote (stands_next standing c) cs) (complete_scalars quote standing c h.0) (value_scalars quote (stands_next standing c) cs h.1)

spelled_scalars : (cs : List ℕ) → Scalars cs → Scalars (value_of cs)
spelled_scalars [] h = tt
spelled_scalars (quote ∷ cs) h = value_scalars quote Alone cs h.1

-- ---- a character, spelled

abbrev IsInside : List ℕ → Type 0
IsInside cs = ((zs : List ℕ) → IsPiece (Quoted 34) (encode_utf8_all cs) zs) × IsUtf8 (encode_utf8_all cs)

low_utf8 : (c : ℕ) → c < 128 → IsScalar c → IsUtf8 (c ∷ [])
low_utf8 c h s = subst IsUtf8 (encode_ascii c h) (IsUtf8-encode c s)

low_codes : (c : ℕ) → c < 128 → (cs : List ℕ) → encode_utf8_all (c ∷ cs) ≡ c ∷ encode_utf8_all cs
low_codes c h cs = ap (λ v. v ++ encode_utf8_all cs) (encode_ascii c h)

two_codes : (c : ℕ) → c < 128 → encode_utf8_all (92 ∷ c ∷ []) ≡ 92 ∷ c ∷ []
two_codes c h = low_codes 92 (lit< tt) (c ∷ []) ∙ ap (λ v. 92 ∷ v) (low_codes c h [])

two_utf8 : (c : ℕ) → c < 128 → IsScalar c → IsUtf8 (92 ∷ c ∷ [])
two_utf8 c h s = IsUtf8-append (92 ∷ []) (c ∷ []) (low_utf8 92 (lit< tt) refl) (low_utf8 c h s)

simple_inside : (c : ℕ) → c < 128 → IsScalar c → is_simple_escape c ≡ true → IsInside (92 ∷ c ∷ [])
simple_inside c h s e = (
  λ zs. subst (λ v. IsPiece (Quoted 34) v zs) (sym (two_codes c h)) (IsPiece.escape (92 ∷ c ∷ []) zs refl (IsEscape.simple c zs e)),
  subst IsUtf8 (sym (two_codes c h)) (two_utf8 c h s),
)

digit_low : (d : ℕ) → d < 16 → digit_char d < 128
digit_low d h = grind (arith, nat_tests)

digit_hex : (d : ℕ) → d < 16 → is_digit 16 (digit_char d) ≡ true
digit_hex d h = grind (arith, nat_tests)

low_is_scalar : (c : ℕ) → c < 128 → IsScalar c
low_is_scalar c h = rw (lt-ltb c 55296 (omega arith)) refl

hex_codes : (a b : ℕ) → a < 128 → b < 128 → encode_utf8_all (92 ∷ 120 ∷ a ∷ b ∷ []) ≡ 92 ∷ 120 ∷ a ∷ b ∷ []
hex_codes a b h l =
    low_codes 92 (lit< tt) (120 ∷ a ∷ b ∷ [])
    ∙ ap (λ v. 92 ∷ v) (low_codes 120 (lit< tt) (a ∷ b ∷ []) ∙ ap (λ v. 120 ∷ v) (low_codes a h (b ∷ []) ∙ ap (λ v. a ∷ v) (low_codes b l [])))

hex_inside : (c : ℕ) → c < 128 → IsInside (hex_escape c)
hex_inside c h =
    let a = digit_char (c / 16) in
    let b = digit_char (c - c / 16 * 16) in
    let first : c / 16 < 16 = omega arith in
    let second : c - c / 16 * 16 < 16 = omega arith in
    let a_low = digit_low (c / 16) first in
    let b_low = digit_low (c - c / 16 * 16) second in
    let same = hex_codes a b a_low b_low in
    let digits : list_all (is_digit 16) (a ∷ b ∷ []) ≡ true = and_both (is_digit 16 a) (is_digit 16 b && true) (digit_hex (c / 16) first) (and_both (is_digit 16 b) true (digit_hex (c - c / 16 * 16) second) refl) in (
      λ zs. subst (λ v. IsPiece (Quoted 34) v zs) (sym same) (IsPiece.escape (92 ∷ 120 ∷ a ∷ b ∷ []) zs refl (IsEscape.byte (a ∷ b ∷ []) zs (record { digits = digits; count = refl }))),
      subst IsUtf8 (sym same)
          (IsUtf8-append (92 ∷ 120 ∷ []) (a ∷ b ∷ []) (two_utf8 120 (lit< tt) refl) (IsUtf8-append (a ∷ []) (b ∷ []) (low_utf8 a a_low (low_is_scalar a a_low)) (low_utf8 b b_low (low_is_scalar b b_low)))),
    )

one_code : (c : ℕ) → encode_utf8_all (c ∷ []) ≡ encode_utf8 c
one_code c = append-nil (encode_utf8 c)

plain_inside : (c : ℕ) → c ≢ 34 → c ≢ 92 → c ≢ 10 → c ≢ 13 → IsScalar c → IsInside (c ∷ [])
plain_inside c a b d e s =
    let stands : not ((c == 34) || (c == 92) || (c == 10) || (c == 13)) ≡ true = rw (ne_eqb c 34 a, ne_eqb c 92 b, ne_eqb c 10 d, ne_eqb c 13 e) refl in (
      λ zs. subst (λ v. IsPiece (Quoted 34) v zs) (sym (one_code c)) (IsPiece.character c zs stands),
      subst IsUtf8 (sym (one_code c)) (IsUtf8-encode c s),
    )

abbrev Spelled : ℕ → Type 0
Spelled c = IsInside (quoted_character c)

other_inside : (c : ℕ) → c ≢ 34 → c ≢ 92 → c ≢ 10 → c ≢ 13 → c ≢ 9 → IsScalar c → Spelled c
other_inside c a b d e f s = elim (cases_lt c 32) [
  | inl h ↦ subst IsInside (sym (control_is h)) (hex_inside c (omega (arith, h)))
  | inr h ↦ elim (cases_eq c 127) [
    | inl same ↦ subst Spelled (sym same) (hex_inside 127 (lit< tt))
    | inr g ↦ subst IsInside (sym (plain_is h g)) (plain_inside c a b d e s)
  ]
]
  where
    control_is : c < 32 → quoted_character c ≡ hex_escape c
    control_is h = rw (ne_eqb c 34 a, ne_eqb c 92 b, ne_eqb c 10 d, ne_eqb c 13 e, ne_eqb c 9 f, lt-ltb c 32 h) refl

    plain_is : 32 ≤ c → c ≢ 127 → quoted_character c ≡ c ∷ []
    plain_is h g = rw (ne_eqb c 34 a, ne_eqb c 92 b, ne_eqb c 10 d, ne_eqb c 13 e, ne_eqb c 9 f, le-ltb c 32 h, ne_eqb c 127 g) refl

character_inside : (c : ℕ) → IsScalar c → Spelled c
character_inside c s = elim (cases_eq c 34) [
  | inl same ↦ subst Spelled (sym same) (simple_inside 34 (lit< tt) refl refl)
  | inr a ↦ elim (cases_eq c 92) [
    | inl same ↦ subst Spelled (sym same) (simple_inside 92 (lit< tt) refl refl)
    | inr b ↦ elim (cases_eq c 10) [
      | inl same ↦ subst Spelled (sym same) (simple_inside 110 (lit< tt) refl refl)
      | inr d ↦ elim (cases_eq c 13) [
        | inl same ↦ subst Spelled (sym same) (simple_inside 114 (lit< tt) refl refl)
        | inr e ↦ elim (cases_eq c 9) [
          | inl same ↦ subst Spelled (sym same) (simple_inside 116 (lit< tt) refl refl)
          | inr f ↦ other_inside c a b d e f s
        ]
      ]
    ]
  ]
]

-- ---- the whole

body_of : List ℕ → List ℕ
body_of value = encode_utf8_all (flat_map quoted_character value)

body_run : (value : List ℕ) → Scalars value → (ys : List ℕ) → Run (IsPiece (Quoted 34)) (body_of value) (34 ∷ ys)
unfolding body_of
body_run [] h ys = Run.none (34 ∷ ys)
body_run (c ∷ cs) h ys =
    let inside = character_inside c h.0 in
    subst (λ v. Run (IsPiece (Quoted 34)) v (34 ∷ ys)) (sym (encodes-append (quoted_character c) (flat_map quoted_character cs)))
    (Run.more (encode_utf8_all (quoted_character c)) (body_of cs) (34 ∷ ys) (inside.0 (body_of cs ++ 34 ∷ ys)) (body_run cs h.1 ys))

body_utf8 : (value : List ℕ) → Scalars value → IsUtf8 (body_of value)
unfolding body_of
body_utf8 [] h = IsUtf8-nil
body_utf8 (c ∷ cs) h =
    let inside = character_inside c h.0 in
    subst IsUtf8 (sym (encodes-append (quoted_character c) (flat_map quoted_character cs))) (IsUtf8-append (encode_utf8_all (quoted_character c)) (body_of cs) inside.1 (body_utf8 cs h.1))

whole_is : (value : List ℕ) → encode_utf8_all (quoted_value value) ≡ 34 ∷ body_of value ++ 34 ∷ []
unfolding body_of
whole_is value =
    low_codes 34 (lit< tt) (flat_map quoted_character value ++ 34 ∷ [])
    ∙ ap (λ v. 34 ∷ v) (encodes-append (flat_map quoted_character value) (34 ∷ []) ∙ ap (λ v. body_of value ++ v) (low_codes 34 (lit< tt) []))

value_text : (value : List ℕ) → Scalars value → IsStringText (encode_utf8_all (quoted_value value)) × IsUtf8 (encode_utf8_all (quoted_value value))
value_text value h = (
  record { quote = 34; body = body_of value; whole = whole_is value; quoted = refl; run = body_run value h },
  subst IsUtf8 (sym (whole_is value))
      (IsUtf8-append (34 ∷ body_of value) (34 ∷ []) (IsUtf8-append (34 ∷ []) (body_of value) (low_utf8 34 (lit< tt) refl) (body_utf8 value h)) (low_utf8 34 (lit< tt) refl)),
)

pub quoted_text : (spelled : List ℕ) → IsUtf8 spelled → IsStringText (quoted spelled) × IsUtf8 (quoted spelled)
quoted_text spelled u = value_text (string_value spelled) (spelled_scalars (chars spelled) (scalars_of (chars spelled) (scalars-chars spelled u)))

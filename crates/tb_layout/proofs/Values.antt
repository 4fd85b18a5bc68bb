-- Strings by their values: the one spelling of a value has that value, so that to spell it anew changes nothing.
use Rattle.std.proofs.Common.{◌≡◌, ◌≢◌, ℕ, zero, suc, ◌+◌, ◌-◌, ◌*◌, ◌/◌, ◌%◌, ◌<◌, ◌≤◌, inl, inr, List, [], ◌∷◌, ◌++◌, flat_map, encode_utf8_all, refl, sym, ap, ◌∙◌, subst, arith, lt-ltb, le-ltb, ne_eqb, append_assoc}
use Rattle.std.specs.Str.{chars, chars_after, continuation_len, lead_bits}
use Rattle.std.specs.Char.{encode_utf8, digit_value, digit_char}
use Rattle.std.proofs.lemmas.Bool.{cases_eq, cases_lt}
use Rattle.std.proofs.lemmas.Bool.Decides.{nat_tests}
use Rattle.std.proofs.lemmas.Str.{chars-nil}
use Rattle.tb_layout.specs.Quoted.{Alone, with_digit, character, value_from, value_of, string_value, hex_escape, quoted_character, quoted_value, quoted}

-- ---- the characters of what is encoded, also where a number is no character's

whole : (c : ℕ) (bs : List ℕ) → chars_after zero c bs ≡ c ∷ chars bs
unfolding chars
whole c [] = refl
whole c (b ∷ bs) = refl

led : (a n v : ℕ) (bs : List ℕ) → n ≡ continuation_len a → v ≡ lead_bits a → chars (a ∷ bs) ≡ chars_after n v bs
unfolding chars
led a n v bs p q = λ i. chars_after (sym p i) (sym q i) bs

encode_one : (c : ℕ) → c < 128 → encode_utf8 c ≡ c ∷ []
unfolding encode_utf8
encode_one c h = rw (lt-ltb c 128 h) refl

encode_two : (c : ℕ) → 128 ≤ c → c < 2048 → encode_utf8 c ≡ (192 + c / 64) ∷ (128 + c % 64) ∷ []
unfolding encode_utf8
encode_two c l h = rw (le-ltb c 128 l, lt-ltb c 2048 h) refl

encode_three : (c : ℕ) → 2048 ≤ c → c < 65536 → encode_utf8 c ≡ (224 + c / 4096) ∷ (128 + c / 64 % 64) ∷ (128 + c % 64) ∷ []
unfolding encode_utf8
encode_three c l h = rw (le-ltb c 128 (omega arith), le-ltb c 2048 l, lt-ltb c 65536 h) refl

encode_four : (c : ℕ) → 65536 ≤ c → encode_utf8 c ≡ (240 + c / 262144) ∷ (128 + c / 4096 % 64) ∷ (128 + c / 64 % 64) ∷ (128 + c % 64) ∷ []
unfolding encode_utf8
encode_four c l = rw (le-ltb c 128 (omega arith), le-ltb c 2048 (omega arith), le-ltb c 65536 l) refl

lead_one : (a : ℕ) (bs : List ℕ) → a < 128 → chars (a ∷ bs) ≡ chars_after zero a bs
lead_one a bs h = led a zero a bs (grind arith) (grind arith)

lead_two : (a : ℕ) (bs : List ℕ) → 192 ≤ a → a < 224 → chars (a ∷ bs) ≡ chars_after (suc zero) (a - 192) bs
lead_two a bs l h = led a (suc zero) (a - 192) bs (grind arith) (grind arith)

lead_three : (a : ℕ) (bs : List ℕ) → 224 ≤ a → a < 240 → chars (a ∷ bs) ≡ chars_after (suc (suc zero)) (a - 224) bs
lead_three a bs l h = led a (suc (suc zero)) (a - 224) bs (grind arith) (grind arith)

lead_four : (a : ℕ) (bs : List ℕ) → 240 ≤ a → chars (a ∷ bs) ≡ chars_after (suc (suc (suc zero))) (a - 240) bs
lead_four a bs l = led a (suc (suc (suc zero))) (a - 240) bs (grind arith) (grind arith)

low_part : (c : ℕ) → c / 64 * 64 + c % 64 ≡ c
low_part c = omega arith

middle_part : (c : ℕ) → c / 4096 * 64 + c / 64 % 64 ≡ c / 64
middle_part c = omega arith

high_part : (c : ℕ) → c / 262144 * 64 + c / 4096 % 64 ≡ c / 4096
high_part c = omega arith

reads_one : (c : ℕ) (rest : List ℕ) → c < 128 → chars (encode_utf8 c ++ rest) ≡ c ∷ chars rest
reads_one c rest h = ap (λ bytes. chars (bytes ++ rest)) (encode_one c h) ∙ lead_one c rest h ∙ whole c rest

reads_two : (c : ℕ) (rest : List ℕ) → 128 ≤ c → c < 2048 → chars (encode_utf8 c ++ rest) ≡ c ∷ chars rest
reads_two c rest l h =
    let is : (192 + c / 64 - 192) * 64 + (128 + c % 64 - 128) ≡ c = omega arith in
    ap (λ bytes. chars (bytes ++ rest)) (encode_two c l h)
    ∙ lead_two (192 + c / 64) ((128 + c % 64) ∷ rest) (omega arith) (omega arith)
    ∙ whole ((192 + c / 64 - 192) * 64 + (128 + c % 64 - 128)) rest ∙ ap (λ x. x ∷ chars rest) is

reads_three : (c : ℕ) (rest : List ℕ) → 2048 ≤ c → c < 65536 → chars (encode_utf8 c ++ rest) ≡ c ∷ chars rest
reads_three c rest l h =
    let low = low_part c in
    let middle = middle_part c in
    let is : ((224 + c / 4096 - 224) * 64 + (128 + c / 64 % 64 - 128)) * 64 + (128 + c % 64 - 128) ≡ c = omega (arith, low, middle) in
    ap (λ bytes. chars (bytes ++ rest)) (encode_three c l h)
    ∙ lead_three (224 + c / 4096) ((128 + c / 64 % 64) ∷ (128 + c % 64) ∷ rest) (omega arith) (omega arith)
    ∙ whole (((224 + c / 4096 - 224) * 64 + (128 + c / 64 % 64 - 128)) * 64 + (128 + c % 64 - 128)) rest ∙ ap (λ x. x ∷ chars rest) is

reads_four : (c : ℕ) (rest : List ℕ) → 65536 ≤ c → chars (encode_utf8 c ++ rest) ≡ c ∷ chars rest
reads_four c rest l =
    let low = low_part c in
    let middle = middle_part c in
    let high = high_part c in
    let is : (((240 + c / 262144 - 240) * 64 + (128 + c / 4096 % 64 - 128)) * 64 + (128 + c / 64 % 64 - 128)) * 64 + (128 + c % 64 - 128) ≡ c = omega (arith, low, middle, high) in
    ap (λ bytes. chars (bytes ++ rest)) (encode_four c l)
    ∙ lead_four (240 + c / 262144) ((128 + c / 4096 % 64) ∷ (128 + c / 64 % 64) ∷ (128 + c % 64) ∷ rest) (omega arith)
    ∙ whole ((((240 + c / 262144 - 240) * 64 + (128 + c / 4096 % 64 - 128)) * 64 + (128 + c / 64 % 64 - 128)) * 64 + (128 + c % 64 - 128)) rest
    ∙ ap (λ x. x ∷ chars rest) is

reads : (c : ℕ) (rest : List ℕ) → chars (encode_utf8 c ++ rest) ≡ c ∷ chars rest
reads c rest = elim (cases_lt c 128) [
  | inl h ↦ reads_one c rest h
  | inr l ↦ elim (cases_lt c 2048) [
    | inl h ↦ reads_two c rest l h
    | inr m ↦ elim (cases_lt c 65536) [ inl h ↦ reads_three c rest m h | inr k ↦ reads_four c rest k ]
  ]
]

pub chars_encoded : (cs : List ℕ) → chars (encode_utf8_all cs) ≡ cs
chars_encoded [] = chars-nil
chars_encoded (c ∷ cs) = reads c (encode_utf8_all cs) ∙ ap (λ l. c ∷ l) (chars_encoded cs)

-- ---- the value of a spelled character

digit_read : (d : ℕ) → d < 16 → digit_value (digit_char d) ≡ d
digit_read d h = grind (arith, nat_tests)

digit_added : (n d : ℕ) → n < 16 → d < 16 → with_digit n (digit_char d) ≡ n * 16 + d
digit_added n d small h = rw (lt-ltb n 1114112 (omega arith)) (ap (λ v. n * 16 + v) (digit_read d h))

low_character : (n : ℕ) → n < 128 → character n ≡ n
low_character n h = rw (lt-ltb n 55296 (omega arith)) refl

hex_character : (c : ℕ) → c < 128 → character (with_digit (with_digit 0 (digit_char (c / 16))) (digit_char (c - c / 16 * 16))) ≡ c
hex_character c h =
    let zero_first : 0 * 16 + c / 16 ≡ c / 16 = omega arith in
    let first : with_digit 0 (digit_char (c / 16)) ≡ c / 16 = digit_added 0 (c / 16) (omega arith) (omega arith) ∙ zero_first in
    let both : c / 16 * 16 + (c - c / 16 * 16) ≡ c = omega arith in
    let second : with_digit (c / 16) (digit_char (c - c / 16 * 16)) ≡ c = digit_added (c / 16) (c - c / 16 * 16) (omega arith) (omega arith) ∙ both in
    ap (λ (n : ℕ). character (with_digit n (digit_char (c - c / 16 * 16)))) first ∙ ap (λ (n : ℕ). character n) second ∙ low_character c h

-- what a spelled character gives before the rest
abbrev IsRead : List ℕ → ℕ → Type 0
IsRead rest c = value_from 34 Alone (quoted_character c ++ rest) ≡ c ∷ value_from 34 Alone rest

hex_read : (c : ℕ) (rest : List ℕ) → c < 128 → value_from 34 Alone (hex_escape c ++ rest) ≡ c ∷ value_from 34 Alone rest
unfolding value_from
hex_read c rest h = ap (λ (n : ℕ). n ∷ value_from 34 Alone rest) (hex_character c h)

plain_read : (c : ℕ) (rest : List ℕ) → c ≢ 92 → c ≢ 34 → value_from 34 Alone (c ∷ rest) ≡ c ∷ value_from 34 Alone rest
unfolding value_from
plain_read c rest a b = rw (ne_eqb c 92 a, ne_eqb c 34 b) refl

quote_read : (rest : List ℕ) → IsRead rest 34
unfolding value_from
quote_read rest = refl

backslash_read : (rest : List ℕ) → IsRead rest 92
unfolding value_from
backslash_read rest = refl

line_feed_read : (rest : List ℕ) → IsRead rest 10
unfolding value_from
line_feed_read rest = refl

return_read : (rest : List ℕ) → IsRead rest 13
unfolding value_from
return_read rest = refl

tab_read : (rest : List ℕ) → IsRead rest 9
unfolding value_from
tab_read rest = refl

delete_read : (rest : List ℕ) → IsRead rest 127
delete_read rest = hex_read 127 rest (omega arith)

control_is : (c : ℕ) → c ≢ 34 → c ≢ 92 → c ≢ 10 → c ≢ 13 → c ≢ 9 → c < 32 → quoted_character c ≡ hex_escape c
control_is c a b d e f h = rw (ne_eqb c 34 a, ne_eqb c 92 b, ne_eqb c 10 d, ne_eqb c 13 e, ne_eqb c 9 f, lt-ltb c 32 h) refl

plain_is : (c : ℕ) → c ≢ 34 → c ≢ 92 → c ≢ 10 → c ≢ 13 → c ≢ 9 → 32 ≤ c → c ≢ 127 → quoted_character c ≡ c ∷ []
plain_is c a b d e f h g = rw (ne_eqb c 34 a, ne_eqb c 92 b, ne_eqb c 10 d, ne_eqb c 13 e, ne_eqb c 9 f, le-ltb c 32 h, ne_eqb c 127 g) refl

other_read : (c : ℕ) (rest : List ℕ) → c ≢ 34 → c ≢ 92 → c ≢ 10 → c ≢ 13 → c ≢ 9 → IsRead rest c
other_read c rest a b d e f = elim (cases_lt c 32) [
  | inl h ↦ ap (λ cs. value_from 34 Alone (cs ++ rest)) (control_is c a b d e f h) ∙ hex_read c rest (omega arith)
  | inr h ↦ elim (cases_eq c 127) [
    | inl same ↦ subst (IsRead rest) (sym same) (delete_read rest)
    | inr g ↦ ap (λ cs. value_from 34 Alone (cs ++ rest)) (plain_is c a b d e f h g) ∙ plain_read c rest b a
  ]
]

character_read : (c : ℕ) (rest : List ℕ) → IsRead rest c
character_read c rest = elim (cases_eq c 34) [
  | inl same ↦ subst (IsRead rest) (sym same) (quote_read rest)
  | inr a ↦ elim (cases_eq c 92) [
    | inl same ↦ subst (IsRead rest) (sym same) (backslash_read rest)
    | inr b ↦ elim (cases_eq c 10) [
      | inl same ↦ subst (IsRead rest) (sym same) (line_feed_read rest)
      | inr d ↦ elim (cases_eq c 13) [
        | inl same ↦ subst (IsRead rest) (sym same) (return_read rest)
        | inr e ↦ elim (cases_eq c 9) [
          | inl same ↦ subst (IsRead rest) (sym same) (tab_read rest)
          | inr f ↦ other_read c rest a b d e f
        ]
      ]
    ]
  ]
]

end_read : value_from 34 Alone (34 ∷ []) ≡ []
unfolding value_from
end_read = refl

value_read : (value : List ℕ) → value_from 34 Alone (flat_map quoted_character value ++ 34 ∷ []) ≡ value
value_read [] = end_read
value_read (c ∷ cs) =
    ap (λ text. value_from 34 Alone text) (append_assoc (quoted_character c) (flat_map quoted_character cs) (34 ∷ []))
    ∙ character_read c (flat_map quoted_character cs ++ 34 ∷ []) ∙ ap (λ v. c ∷ v) (value_read cs)

-- ---- spelled anew

pub value_of_quoted : (value : List ℕ) → string_value (encode_utf8_all (quoted_value value)) ≡ value
value_of_quoted value = ap (λ cs. value_of cs) (chars_encoded (quoted_value value)) ∙ value_read value

pub quoted_value_same : (spelled : List ℕ) → string_value (quoted spelled) ≡ string_value spelled
quoted_value_same spelled = value_of_quoted (string_value spelled)

pub quoted_twice : (spelled : List ℕ) → quoted (quoted spelled) ≡ quoted spelled
quoted_twice spelled = ap (λ value. encode_utf8_all (quoted_value value)) (quoted_value_same spelled)

-- The value of a string, one character at a time, and how it is written.
use Rattle.std.proofs.Common.{◌≡◌, ℕ, List, [], ◌∷◌, ◌++◌, length, flat_map, IsUtf8, chars, encode_utf8_all, refl, sym, ap, ◌∙◌, append_assoc, codes, arith}
use Rattle.std.specs.Char.{encode_utf8}
use Rattle.std.proofs.lemmas.Str.{chars-nil, chars_past_char, encodes-append}
use Rattle.std.proofs.lemmas.List.{append-nil}
use Rattle.std.proofs.lemmas.Grind.{flat_map-append}
use Rattle.tb_layout.specs.Quoted as spec
use Rattle.tb_layout.specs.Quoted.{Standing, value_from, stands_next, completes, quoted_character, quoted_value}
use Rattle.tb_show.specs.Steps.{written}

pub written_join : (xs ys : List ℕ) → written (xs ++ ys) ≡ written xs ++ written ys
written_join xs ys =
    ap encode_utf8_all (flat_map-append quoted_character xs ys) ∙ encodes-append (flat_map quoted_character xs) (flat_map quoted_character ys)

-- what is written for the characters that are left
abbrev pub value_text : ℕ → Standing → List ℕ → List ℕ
value_text quote standing text = written (value_from quote standing (chars text))

one_more : (quote c : ℕ) (standing : Standing) (cs : List ℕ)
    → value_from quote standing (c ∷ cs) ≡ completes quote standing c ++ value_from quote (stands_next standing c) cs
unfolding value_from
one_more quote c standing cs = refl

none_more : (quote : ℕ) (standing : Standing) → value_from quote standing [] ≡ []
unfolding value_from
none_more quote standing = refl

pub value_further : (o new all before after : List ℕ) (quote c : ℕ) (standing next : Standing) (found : List ℕ) → IsUtf8 before → before ≡ encode_utf8 c ++ after
    → found ≡ completes quote standing c → next ≡ stands_next standing c → new ≡ o ++ written found
    → o ++ value_text quote standing before ≡ all → new ++ value_text quote next after ≡ all
value_further o new all before after quote c standing next found utf8 read found_is next_is new_is is =
    let rest = value_from quote (stands_next standing c) (chars after) in
    ap (λ t. t ++ value_text quote next after) new_is
    ∙ append_assoc o (written found) (value_text quote next after)
    ∙ ap (λ t. o ++ (written t ++ value_text quote next after)) found_is
    ∙ ap (λ t. o ++ (written (completes quote standing c) ++ value_text quote t after)) next_is
    ∙ ap (λ t. o ++ t) (sym (written_join (completes quote standing c) rest))
    ∙ ap (λ t. o ++ written t) (sym (one_more quote c standing (chars after)))
    ∙ ap (λ t. o ++ written (value_from quote standing t)) (sym (chars_past_char before after c utf8 read))
    ∙ is

pub value_ended : (o all left : List ℕ) (quote : ℕ) (standing : Standing) → length left ≡ 0 → o ++ value_text quote standing left ≡ all → o ≡ all
value_ended o all [] quote standing none is =
    sym (append-nil o) ∙ ap (λ t. o ++ written t) (sym (none_more quote standing)) ∙ ap (λ t. o ++ written (value_from quote standing t)) (sym chars-nil) ∙ is
value_ended o all (b ∷ bs) quote standing none is = absurd (omega (arith, none))

quotes : (cs : List ℕ) → encode_utf8_all (34 ∷ cs ++ 34 ∷ []) ≡ codes "\"" ++ (encode_utf8_all cs ++ codes "\"")
unfolding encode_utf8
quotes cs = ap (λ t. codes "\"" ++ t) (encodes-append cs (34 ∷ []))

pub quoted_written : (value : List ℕ) → encode_utf8_all (quoted_value value) ≡ codes "\"" ++ (written value ++ codes "\"")
quoted_written value = quotes (flat_map quoted_character value)

-- what stands written once the value does, between its quotes
pub quoted_whole : (o0 o1 o2 o3 value : List ℕ) → o1 ≡ o0 ++ codes "\"" → o2 ≡ o1 ++ written value → o3 ≡ o2 ++ codes "\""
    → o3 ≡ o0 ++ encode_utf8_all (quoted_value value)
quoted_whole o0 o1 o2 o3 value f g h =
    h ∙ ap (λ t. t ++ codes "\"") (g ∙ ap (λ t. t ++ written value) f)
    ∙ ap (λ t. t ++ codes "\"") (append_assoc o0 (codes "\"") (written value))
    ∙ append_assoc o0 (codes "\"" ++ written value) (codes "\"")
    ∙ ap (λ t. o0 ++ t) (sym (quoted_written value))

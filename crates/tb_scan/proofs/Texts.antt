-- Characters at the front of a text.
use Rattle.std.proofs.Common.{◌≡◌, ℕ, List, ◌++◌, length, drop, sym, ap, subst, ◌∙◌, arith, zero-add}
use Rattle.std.specs.Prelude.{Option, Some, None, MatchOption, IfSome, IsCharBoundary, IsUtf8, encode_utf8}
use Rattle.std.specs.Char.{len_utf8}
use Rattle.std.proofs.lemmas.Str.{drop_past_char, IsCharBoundary-past_char}
use Rattle.std.specs.Str.Iter.{chars_rest, chars_steps}
use Rattle.std.specs.declared.str.Chars.{Chars}

-- what follows the first character
pub after_first : (bs rest : List ℕ) (c : ℕ) → bs ≡ encode_utf8 c ++ rest → drop (len_utf8 c) bs ≡ rest
after_first bs rest c e = subst (λ n. drop n bs ≡ rest) (zero-add (len_utf8 c)) (drop_past_char bs rest 0 c e)

-- what `next` of `chars` says
pub first_of : (r : Option ℕ) (s t : Chars) (bs : List ℕ) → chars_rest s ≡ bs → chars_steps s r t
    → MatchOption r (length bs ≡ 0) (λ c. bs ≡ encode_utf8 c ++ drop (len_utf8 c) bs)
first_of None s t bs e h = subst (λ x. length x ≡ 0) e h.0.0
first_of (Some c) s t bs e h =
    let whole : bs ≡ encode_utf8 c ++ chars_rest t = sym e ∙ h.0 in
    whole ∙ ap (λ x. encode_utf8 c ++ x) (sym (after_first bs (chars_rest t) c whole))

pub first_cut : (r : Option ℕ) (s t : Chars) (bs : List ℕ) → chars_rest s ≡ bs → IsUtf8 bs → chars_steps s r t
    → IfSome r (λ c. IsCharBoundary bs (len_utf8 c))
first_cut None s t bs e u h = tt
first_cut (Some c) s t bs e u h =
    let whole : bs ≡ encode_utf8 c ++ chars_rest t = sym e ∙ h.0 in
    subst (λ n. IsCharBoundary bs n) (zero-add (len_utf8 c)) (IsCharBoundary-past_char bs (chars_rest t) 0 c (omega arith) u whole)

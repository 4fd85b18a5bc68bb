-- Texts of whole characters: what follows one in UTF-8 is UTF-8.
use Rattle.std.proofs.Common.{◌≡◌, ℕ, ◌<◌, ◌≤◌, Bool, true, List, [], ◌∷◌, ◌++◌, length, subst, refl, arith, inl, inr, lit<, append_assoc}
use Rattle.std.specs.Prelude.{◌&&◌, not, nat_lt, codes, encode_utf8, IsUtf8}
use Rattle.std.specs.Str.{bytes_eq}
use Rattle.std.specs.List.{list_all}
use Rattle.std.proofs.Math.Seq.{take-append_seam}
use Rattle.std.proofs.lemmas.Bool.{cases_lt}
use Rattle.std.proofs.lemmas.Bool.Decides.{nat_tests}
use Rattle.std.proofs.lemmas.Str.{encode_ascii, IsUtf8-past_char, IsUtf8-nil, IsUtf8-take, IsCharBoundary-at_seam}
use Rattle.tb_scan.specs.declared.inside.Inside.{Inside}
use Rattle.tb_scan.specs.declared.braces.Bracket.{Bracket}
use Rattle.tb_scan.specs.declared.token.Kind.{Kind}
use Rattle.tb_scan.specs.Characters.{begins}
use Rattle.tb_scan.specs.Pieces.{Run, IsPiece, IsEscape, IsSpacing, is_simple_escape}
use Rattle.tb_scan.specs.Marks.{marks, is_mark}
use Rattle.tb_scan.specs.Tokens.{IsForm, IsToken, in_hole}
use Rattle.tb_scan.proofs.TestLemmas.{and_left, and_right, and_both}
use Rattle.tb_scan.proofs.Forms.{of_marks}
use Rattle.tb_scan.proofs.Reading.{quote_low}
use Rattle.tb_emit_law.proofs.Firsts.{low_by}
use Rattle.tb_emit_law.proofs.Alone.{in_number, is_plain_byte, digits_bytes, number_bytes}

pub record IsCoded (t : List ℕ) : Type 0 where
  pub past : (ys : List ℕ) → IsUtf8 (t ++ ys) → IsUtf8 ys

pub coded_text : (t ys : List ℕ) → IsUtf8 (t ++ ys) → IsUtf8 ys → IsUtf8 t
coded_text t ys u v = subst IsUtf8 (take-append_seam t ys) (IsUtf8-take (t ++ ys) (length t) u (IsCharBoundary-at_seam (t ++ ys) t ys refl v))

coded_none : IsCoded []
coded_none = record { past = λ ys u. u }

coded_char : (c : ℕ) → IsCoded (encode_utf8 c)
coded_char c = record { past = λ ys u. IsUtf8-past_char (encode_utf8 c ++ ys) ys c u refl }

coded_both : {a b : List ℕ} → IsCoded a → IsCoded b → IsCoded (a ++ b)
coded_both {a = a} {b = b} f g = record { past = λ ys u. g.past ys (f.past (b ++ ys) (subst IsUtf8 (append_assoc a b ys) u)) }

coded_byte : (b : ℕ) → b < 128 → IsCoded (b ∷ [])
coded_byte b h = subst IsCoded (encode_ascii b h) (coded_char b)

coded_more : (b : ℕ) {t : List ℕ} → b < 128 → IsCoded t → IsCoded (b ∷ t)
coded_more b h f = coded_both (coded_byte b h) f

abbrev is_low : ℕ → Bool
is_low c = nat_lt c 128

coded_low : (t : List ℕ) → list_all is_low t ≡ true → IsCoded t
coded_low [] h = coded_none
coded_low (b ∷ t) h = coded_more b (low_by b (and_left (is_low b) (list_all is_low t) h)) (coded_low t (and_right (is_low b) (list_all is_low t) h))

plain_low : (t : List ℕ) → list_all is_plain_byte t ≡ true → list_all is_low t ≡ true
plain_low [] h = refl
plain_low (b ∷ t) h =
    and_both (is_low b) (list_all is_low t) (and_left (is_low b) (in_number b) (and_left (is_plain_byte b) (list_all is_plain_byte t) h))
    (plain_low t (and_right (is_plain_byte b) (list_all is_plain_byte t) h))

coded_plain : (t : List ℕ) → list_all is_plain_byte t ≡ true → IsCoded t
coded_plain t h = coded_low t (plain_low t h)

simple_low : (c : ℕ) → is_simple_escape c ≡ true → c < 128
simple_low c h = elim (cases_lt c 128) [ inl less ↦ less | inr more ↦ absurd (high c more h) ]
  where
    high : (c : ℕ) → 128 ≤ c → is_simple_escape c ≡ true → ⊥
    high c m h = grind (arith, nat_tests)

coded_escape : {t ys : List ℕ} → IsEscape t ys → IsCoded t
coded_escape (IsEscape.simple c ys h) = coded_more 92 (lit< tt) (coded_byte c (simple_low c h))
coded_escape (IsEscape.zero ys h) = coded_low (92 ∷ 48 ∷ []) refl
coded_escape (IsEscape.byte ds ys h) = coded_both (coded_low (92 ∷ 120 ∷ []) refl) (coded_plain ds (digits_bytes 16 ds (omega arith) h.digits))
coded_escape (IsEscape.unit ds ys h s) = coded_both (coded_low (92 ∷ 117 ∷ []) refl) (coded_plain ds (digits_bytes 16 ds (omega arith) h.digits))
coded_escape (IsEscape.braced ds ys n h a b s) =
    coded_both (coded_both (coded_low (92 ∷ 117 ∷ 123 ∷ []) refl) (coded_plain ds (digits_bytes 16 ds (omega arith) h.digits))) (coded_low (125 ∷ []) refl)

coded_pieces : {inside : Inside} {t ys : List ℕ} → Run (IsPiece inside) t ys → IsCoded t
coded_pieces (Run.none ys) = coded_none
coded_pieces (Run.more _ t ys (IsPiece.character c _ h) r) = coded_both (coded_char c) (coded_pieces r)
coded_pieces (Run.more _ t ys (IsPiece.escape e _ h s) r) = coded_both (coded_escape s) (coded_pieces r)

coded_space : {t ys : List ℕ} → IsSpacing t ys → IsCoded t
coded_space (IsSpacing.blank c ys h) = coded_char c
coded_space (IsSpacing.line body ys r s) = coded_both (coded_low (47 ∷ 47 ∷ []) refl) (coded_pieces r)
coded_space (IsSpacing.block body ys r) = coded_both (coded_both (coded_low (47 ∷ 42 ∷ []) refl) (coded_pieces r)) (coded_low (42 ∷ 47 ∷ []) refl)

pub coded_spacing : {t ys : List ℕ} → Run IsSpacing t ys → IsCoded t
coded_spacing (Run.none ys) = coded_none
coded_spacing (Run.more p t ys s r) = coded_both (coded_space s) (coded_spacing r)

coded_form : {opened : List Bracket} {kind : Kind} {t ys : List ℕ} → IsForm opened kind t ys → IsCoded t
coded_form (IsForm.word c rest ys start r) = coded_both (coded_char c) (coded_pieces r)
coded_form (IsForm.number t ys n) = coded_plain t (number_bytes n)
coded_form (IsForm.string q body ys h r) = coded_both (coded_more q (quote_low q h) (coded_pieces r)) (coded_byte q (quote_low q h))
coded_form (IsForm.whole body ys r) = coded_both (coded_more 96 (lit< tt) (coded_pieces r)) (coded_low (96 ∷ []) refl)
coded_form (IsForm.head body ys r) = coded_both (coded_more 96 (lit< tt) (coded_pieces r)) (coded_low (36 ∷ 123 ∷ []) refl)
coded_form (IsForm.middle body ys h r) = coded_both (coded_more 125 (lit< tt) (coded_pieces r)) (coded_low (36 ∷ 123 ∷ []) refl)
coded_form (IsForm.tail body ys h r) = coded_both (coded_more 125 (lit< tt) (coded_pieces r)) (coded_low (96 ∷ []) refl)
coded_form {opened = opened} (IsForm.mark t ys m) =
    coded_low t (of_marks (list_all is_low) marks t refl (and_left (is_mark t) (not (bytes_eq t (codes "}") && in_hole opened) && not (bytes_eq t (codes "/") && begins 42 ys)) m))

-- what follows a token
pub token_rest : {opened : List Bracket} {kind : Kind} {t ys : List ℕ} → IsToken opened kind t ys → IsUtf8 (t ++ ys) → IsUtf8 ys
token_rest (IsToken.formed kind t ys l f) u = let coded = coded_form l.form in coded.past ys u
token_rest (IsToken.glued t c ys l g) u = let coded = coded_both (coded_form l.form) (coded_char c) in coded.past ys u
token_rest (IsToken.unfinished xs o n) u = IsUtf8-nil
token_rest (IsToken.stray c ys o n) u = let coded = coded_char c in coded.past ys u

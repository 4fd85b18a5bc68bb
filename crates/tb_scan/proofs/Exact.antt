-- Where a piece begins, one piece begins.
use Rattle.std.proofs.Common.{◌≡◌, ℕ, ◌+◌, ◌<◌, ◌==◌, Bool, true, false, cond, List, [], ◌∷◌, ◌++◌, length, take, drop, sym, ap, subst, ◌∙◌, refl, arith, length-append, append_assoc, lit<}
use Rattle.std.specs.Prelude.{encode_utf8, ◌||◌, not}
use Rattle.std.specs.List.{list_all, prefix_len}
use Rattle.std.proofs.Math.Seq.{take-append_seam}
use Rattle.std.proofs.lemmas.Str.{encode_same, encode_ascii}
use Rattle.tb_scan.specs.declared.inside.Inside.{Inside}
use Rattle.tb_scan.specs.declared.inside.Inside.TheVariants.{Line, Block, Word, Quoted, Template}
use Rattle.tb_scan.specs.Characters.{is_digit, is_blank}
use Rattle.tb_scan.specs.Pieces.{Run, Stops, IsPiece, IsEscape, IsSpacing, may_stand, has_escapes, is_simple_escape}
use Rattle.tb_scan.proofs.Runs.{IsExact, run_same}
use Rattle.tb_scan.proofs.OnePiece.{stops_piece}
use Rattle.tb_scan.proofs.TestLemmas.{and_left, not_both, differs, prefix_past}

-- a text that begins with a byte below 128 begins with that character
pub ascii_first : (c b : ℕ) (r s : List ℕ) → encode_utf8 c ++ r ≡ b ∷ s → b < 128 → (c ≡ b) × (r ≡ s)
ascii_first c b r s e h = encode_same c b r s (e ∙ sym (ap (λ x. x ++ s) (encode_ascii b h)))

-- the length of the escape that a text begins with
unit_reach : List ℕ → ℕ
unit_reach [] = 6
unit_reach (c ∷ r) = cond (c == 123) (4 + prefix_len (is_digit 16) r) 6

reach : List ℕ → ℕ
reach [] = 0
reach (a ∷ []) = 0
reach (a ∷ c ∷ r) = cond (c == 120) 4 (cond (c == 117) (unit_reach r) 2)

simple_reach : (c : ℕ) (r : List ℕ) → is_simple_escape c ≡ true → cond (c == 120) 4 (cond (c == 117) (unit_reach r) 2) ≡ 2
simple_reach c r h =
    ap (λ b. cond b 4 (cond (c == 117) (unit_reach r) 2)) (differs is_simple_escape 120 c refl h)
    ∙ ap (λ b. cond b (unit_reach r) 2) (differs is_simple_escape 117 c refl h)

braced_reach : (ds ys : List ℕ) → list_all (is_digit 16) ds ≡ true → prefix_len (is_digit 16) (ds ++ 125 ∷ [] ++ ys) ≡ length ds
braced_reach ds ys h = ap (λ x. prefix_len (is_digit 16) x) (append_assoc ds (125 ∷ []) ys) ∙ prefix_past (is_digit 16) ds (125 ∷ ys) h ∙ omega arith

escape_reach : {e ys : List ℕ} → IsEscape e ys → length e ≡ reach (e ++ ys)
unfolding reach unit_reach
escape_reach (IsEscape.simple c ys h) = sym (simple_reach c ys h)
escape_reach (IsEscape.zero ys h) = refl
escape_reach (IsEscape.byte ds ys h) = omega (arith, h.count)
escape_reach (IsEscape.unit [] ys h k) = absurd (omega (arith, h.count))
escape_reach (IsEscape.unit (d ∷ ds) ys h k) =
    omega (arith, h.count, ap (λ b. cond b (4 + prefix_len (is_digit 16) (ds ++ ys)) 6) (differs (is_digit 16) 123 d refl (and_left (is_digit 16 d) (list_all (is_digit 16) ds) h.digits)))
escape_reach (IsEscape.braced ds ys n h a b k) = omega (arith, length-append ds (125 ∷ []), braced_reach ds ys h.digits)

pub same_by_length : (a b c d : List ℕ) → length a ≡ length c → a ++ b ≡ c ++ d → a ≡ c
same_by_length a b c d l e = sym (take-append_seam a b) ∙ ap (λ x. take (length a) x) e ∙ ap (λ n. take n (c ++ d)) l ∙ take-append_seam c d

pub escape_exact : IsExact IsEscape
escape_exact = record { same = λ p ys q zs g h e. same_by_length p ys q zs (escape_reach g ∙ ap reach e ∙ sym (escape_reach h)) e }

-- an escape begins with a backslash
pub escape_first : {e ys : List ℕ} (b : ℕ) (s : List ℕ) → IsEscape e ys → b ∷ s ≡ e ++ ys → b ≡ 92
escape_first b s (IsEscape.simple c ys h) w = cc
escape_first b s (IsEscape.zero ys h) w = cc
escape_first b s (IsEscape.byte ds ys h) w = cc
escape_first b s (IsEscape.unit ds ys h k) w = cc
escape_first b s (IsEscape.braced ds ys n h a c k) w = cc

pub no_escape : (b : ℕ) (s : List ℕ) → (b ≡ 92 → ⊥) → Stops IsEscape (b ∷ s)
no_escape b s h = record { never = λ p ys w e. h (escape_first b s e w) }

-- where escapes are read, a backslash does not stand by itself
backslash : (inside : Inside) (c : ℕ) (ys : List ℕ) → has_escapes inside ≡ true → may_stand inside c ys ≡ true → c ≡ 92 → ⊥
backslash Line c ys h k e = let no : false ≡ true = h in cc
backslash Block c ys h k e = let no : false ≡ true = h in cc
backslash Word c ys h k e = let no : false ≡ true = h in cc
backslash (Quoted q) c ys h k e = by_cases (92 == q) (subst (λ x. may_stand (Quoted q) x ys ≡ true) e k) where
  by_cases : (b : Bool) → not (((b || true) || false) || false) ≡ true → ⊥
  by_cases true h = let no : false ≡ true = h in cc
  by_cases false h = let no : false ≡ true = h in cc
backslash Template c ys h k e = let no : false ≡ true = subst (λ x. may_stand Template x ys ≡ true) e k in cc

escape_head : {e ys : List ℕ} → IsEscape e ys → e ++ ys ≡ 92 ∷ drop 1 (e ++ ys)
escape_head (IsEscape.simple c ys h) = refl
escape_head (IsEscape.zero ys h) = refl
escape_head (IsEscape.byte ds ys h) = refl
escape_head (IsEscape.unit ds ys h k) = refl
escape_head (IsEscape.braced ds ys n h a c k) = refl

piece_same : {inside : Inside} {p ys q zs : List ℕ} → IsPiece inside p ys → IsPiece inside q zs → p ++ ys ≡ q ++ zs → p ≡ q
piece_same (IsPiece.character c ys h) (IsPiece.character d zs k) e = ap encode_utf8 (encode_same c d ys zs e).0
piece_same {inside = inside} (IsPiece.character c ys h) (IsPiece.escape q zs t k) e =
    absurd (backslash inside c ys t h (ascii_first c 92 ys (drop 1 (q ++ zs)) (e ∙ escape_head k) (lit< tt)).0)
piece_same {inside = inside} (IsPiece.escape p ys t k) (IsPiece.character d zs h) e =
    absurd (backslash inside d zs t h (ascii_first d 92 zs (drop 1 (p ++ ys)) (sym e ∙ escape_head k) (lit< tt)).0)
piece_same (IsPiece.escape p ys t k) (IsPiece.escape q zs u l) e = escape_exact.same p ys q zs k l e

pub piece_exact : (inside : Inside) → IsExact (IsPiece inside)
piece_exact inside = record { same = λ p ys q zs g h e. piece_same g h e }

-- no piece begins with this byte here
pub stops_before : (inside : Inside) (b : ℕ) (s : List ℕ) → b < 128 → may_stand inside b s ≡ false → (has_escapes inside ≡ true → b ≡ 92 → ⊥)
    → Stops (IsPiece inside) (b ∷ s)
stops_before inside b s low h e = stops_piece inside (b ∷ s) b s (sym (ap (λ x. x ++ s) (encode_ascii b low))) h (λ k. no_escape b s (e k))

pub stops_end_of_block : (ys : List ℕ) → Stops (IsPiece Block) (42 ∷ 47 ∷ ys)
stops_end_of_block ys = stops_before Block 42 (47 ∷ ys) (lit< tt) refl (λ h. let no : false ≡ true = h in cc)

blank_slash : (c : ℕ) (ys s : List ℕ) → is_blank c ≡ true → encode_utf8 c ++ ys ≡ 47 ∷ s → ⊥
blank_slash c ys s h e = not_both (is_blank c) h (subst (λ x. is_blank x ≡ false) (sym (ascii_first c 47 ys s e (lit< tt)).0) refl)

-- two runs of pieces that stop are of the same pieces
pub run_equal : (inside : Inside) (t ys u zs : List ℕ) → Run (IsPiece inside) t ys → Stops (IsPiece inside) ys → Run (IsPiece inside) u zs → Stops (IsPiece inside) zs
    → t ++ ys ≡ u ++ zs → t ≡ u
run_equal inside t ys u zs r s k l e =
    let same : ys ≡ zs = run_same (IsPiece inside) (piece_exact inside) t ys u zs r s k l e in
    same_by_length t ys u zs (omega (arith, ap (λ x. length x) e, length-append t ys, length-append u zs, ap (λ x. length x) same)) e

spacing_same : {p ys q zs : List ℕ} → IsSpacing p ys → IsSpacing q zs → p ++ ys ≡ q ++ zs → p ≡ q
spacing_same (IsSpacing.blank c ys h) (IsSpacing.blank d zs k) e = ap encode_utf8 (encode_same c d ys zs e).0
spacing_same (IsSpacing.blank c ys h) (IsSpacing.line body zs r s) e = absurd (blank_slash c ys (47 ∷ body ++ zs) h e)
spacing_same (IsSpacing.blank c ys h) (IsSpacing.block body zs r) e = absurd (blank_slash c ys (42 ∷ body ++ 42 ∷ 47 ∷ [] ++ zs) h e)
spacing_same (IsSpacing.line body ys r s) (IsSpacing.blank d zs k) e = absurd (blank_slash d zs (47 ∷ body ++ ys) k (sym e))
spacing_same (IsSpacing.line body ys r s) (IsSpacing.line other zs t u) e =
    let rest : body ++ ys ≡ other ++ zs = cc in ap (λ x. 47 ∷ 47 ∷ x) (run_equal Line body ys other zs r s t u rest)
spacing_same (IsSpacing.line body ys r s) (IsSpacing.block other zs t) e = absurd (let no : ◌≡◌ {A = ℕ} 47 42 = cc in omega (arith, no))
spacing_same (IsSpacing.block body ys r) (IsSpacing.blank d zs k) e = absurd (blank_slash d zs (42 ∷ body ++ 42 ∷ 47 ∷ [] ++ ys) k (sym e))
spacing_same (IsSpacing.block body ys r) (IsSpacing.line other zs t u) e = absurd (let no : ◌≡◌ {A = ℕ} 42 47 = cc in omega (arith, no))
spacing_same (IsSpacing.block body ys r) (IsSpacing.block other zs t) e =
    let rest : (body ++ 42 ∷ 47 ∷ []) ++ ys ≡ (other ++ 42 ∷ 47 ∷ []) ++ zs = cc in
    ap (λ x. 47 ∷ 42 ∷ x ++ 42 ∷ 47 ∷ []) (run_equal Block body (42 ∷ 47 ∷ ys) other (42 ∷ 47 ∷ zs) r (stops_end_of_block ys) t (stops_end_of_block zs)
    (sym (append_assoc body (42 ∷ 47 ∷ []) ys) ∙ rest ∙ append_assoc other (42 ∷ 47 ∷ []) zs))

pub spacing_exact : IsExact IsSpacing
spacing_exact = record { same = λ p ys q zs g h e. spacing_same g h e }

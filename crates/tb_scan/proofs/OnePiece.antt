-- One piece: a character by itself, or an escape.
use Rattle.std.proofs.Common.{◌≡◌, ℕ, ◌<◌, true, false, List, ◌++◌, length, take, drop, sym, ap, subst, ◌∙◌, arith, length-append}
use Rattle.std.specs.Prelude.{Option, Some, None, IfSome, IfNone, IsCharBoundary, encode_utf8}
use Rattle.std.specs.Char.{len_utf8}
use Rattle.std.proofs.Math.Seq.{take-append_seam}
use Rattle.std.proofs.lemmas.Str.{encode_same, length-encode, len_utf8_bounds}
use Rattle.tb_scan.specs.declared.inside.Inside.{Inside}
use Rattle.tb_scan.specs.Pieces.{Stops, IsFront, IsPiece, IsEscape, may_stand, has_escapes}

pub take_first : (xs : List ℕ) (c : ℕ) (rest : List ℕ) → xs ≡ encode_utf8 c ++ rest → take (len_utf8 c) xs ≡ encode_utf8 c
take_first xs c rest e = subst (λ n. take n xs ≡ encode_utf8 c) (length-encode c) (ap (λ x. take (length (encode_utf8 c)) x) e ∙ take-append_seam (encode_utf8 c) rest)

pub encode_positive : (c : ℕ) → 0 < length (encode_utf8 c)
encode_positive c = omega (arith, length-encode c, len_utf8_bounds c)

pub piece_character : (inside : Inside) (xs : List ℕ) (c : ℕ) → xs ≡ encode_utf8 c ++ drop (len_utf8 c) xs → IsCharBoundary xs (len_utf8 c)
    → may_stand inside c (drop (len_utf8 c) xs) ≡ true → IsFront (IsPiece inside) xs (len_utf8 c)
piece_character inside xs c e cut h = record {
  within = cut.0;
  positive = omega (arith, len_utf8_bounds c);
  boundary = cut;
  piece = subst (λ x. IsPiece inside x (drop (len_utf8 c) xs)) (sym (take_first xs c (drop (len_utf8 c) xs) e)) (IsPiece.character c (drop (len_utf8 c) xs) h);
}

pub escape_positive : {e ys : List ℕ} → IsEscape e ys → 0 < length e
escape_positive (IsEscape.simple c ys h) = omega arith
escape_positive (IsEscape.zero ys h) = omega arith
escape_positive (IsEscape.byte ds ys h) = omega arith
escape_positive (IsEscape.unit ds ys h k) = omega arith
escape_positive (IsEscape.braced ds ys n h a b k) = omega arith

pub piece_positive : {inside : Inside} {p ys : List ℕ} → IsPiece inside p ys → 0 < length p
piece_positive (IsPiece.character c ys h) = encode_positive c
piece_positive (IsPiece.escape e ys h k) = escape_positive k

-- no piece begins at the end
pub stops_at_end : (inside : Inside) (xs : List ℕ) → length xs ≡ 0 → Stops (IsPiece inside) xs
stops_at_end inside xs e = record { never = λ p ys w h. absurd (omega (arith, piece_positive h, ap (λ x. length x) w, length-append p ys, e)) }

pub escape_found : (inside : Inside) (xs : List ℕ) (o : Option ℕ) → has_escapes inside ≡ true → IfSome o (IsFront IsEscape xs) → IfSome o (IsFront (IsPiece inside) xs)
escape_found inside xs None h f = tt
escape_found inside xs (Some n) h f = record {
  within = f.within;
  positive = f.positive;
  boundary = f.boundary;
  piece = IsPiece.escape (take n xs) (drop n xs) h f.piece;
}

-- neither a character by itself nor an escape
stop_piece : (inside : Inside) (xs : List ℕ) (c : ℕ) (rest : List ℕ) → xs ≡ encode_utf8 c ++ rest → may_stand inside c rest ≡ false
    → (has_escapes inside ≡ true → Stops IsEscape xs) → (p ys : List ℕ) → xs ≡ p ++ ys → IsPiece inside p ys → ⊥
stop_piece inside xs c rest e h stops _ ys w (IsPiece.character d _ k) =
    let same = encode_same c d rest ys (sym e ∙ w) in
    let there : may_stand inside c rest ≡ true = subst (λ x. may_stand inside x rest ≡ true) (sym same.0) (subst (λ x. may_stand inside d x ≡ true) (sym same.1) k) in
    cc
stop_piece inside xs c rest e h stops _ ys w (IsPiece.escape p _ k escape) = (stops k).never p ys w escape

pub stops_piece : (inside : Inside) (xs : List ℕ) (c : ℕ) (rest : List ℕ) → xs ≡ encode_utf8 c ++ rest → may_stand inside c rest ≡ false
    → (has_escapes inside ≡ true → Stops IsEscape xs) → Stops (IsPiece inside) xs
stops_piece inside xs c rest e h stops = record { never = stop_piece inside xs c rest e h stops }

pub escape_lacks : (inside : Inside) (xs : List ℕ) (o : Option ℕ) (c : ℕ) (rest : List ℕ) → xs ≡ encode_utf8 c ++ rest → may_stand inside c rest ≡ false
    → IfNone o (Stops IsEscape xs) → IfNone o (Stops (IsPiece inside) xs)
escape_lacks inside xs None c rest e h f = stops_piece inside xs c rest e h (λ k. f)
escape_lacks inside xs (Some n) c rest e h f = tt

pub escape_unwanted : (inside : Inside) (xs : List ℕ) (c : ℕ) (rest : List ℕ) → xs ≡ encode_utf8 c ++ rest → may_stand inside c rest ≡ false
    → has_escapes inside ≡ false → Stops (IsPiece inside) xs
escape_unwanted inside xs c rest e h k = stops_piece inside xs c rest e h (λ t. let no : true ≡ false = cc in cc)

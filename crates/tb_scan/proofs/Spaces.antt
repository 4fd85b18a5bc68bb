-- Blanks and comments.
use Rattle.std.proofs.Common.{◌≡◌, ℕ, ◌+◌, ◌<◌, ◌≤◌, ◌==◌, Bool, true, false, List, [], ◌∷◌, ◌++◌, length, take, drop, sym, ap, subst, ◌∙◌, refl, arith, length-append, append_assoc, lit<}
use Rattle.std.specs.Prelude.{◌&&◌, encode_utf8, IsUtf8, IsCharBoundary}
use Rattle.std.specs.Char.{len_utf8}
use Rattle.std.proofs.Math.Seq.{take-append_seam, drop-append_seam}
use Rattle.std.proofs.lemmas.List.{take-append-drop, length-drop}
use Rattle.std.proofs.lemmas.Bool.{eqb-true}
use Rattle.std.proofs.lemmas.Str.{encode_same, encode_ascii, length-encode, IsUtf8-past_char, IsUtf8-drop, IsCharBoundary-at_seam}
use Rattle.tb_scan.specs.declared.inside.Inside.TheVariants.{Line, Block}
use Rattle.tb_scan.specs.Characters.{is_blank, begins, begins_pair}
use Rattle.tb_scan.specs.Pieces.{Run, Stops, RunsFor, IsFront, IsPiece, IsSpacing}
use Rattle.tb_scan.proofs.Runs.{run_same}
use Rattle.tb_scan.proofs.OnePiece.{encode_positive}
use Rattle.tb_scan.proofs.Exact.{piece_exact, ascii_first, stops_end_of_block}
use Rattle.tb_scan.proofs.TestLemmas.{and_left, and_right, not_both}

pub utf8_tail : (b : ℕ) (r : List ℕ) → b < 128 → IsUtf8 (b ∷ r) → IsUtf8 r
utf8_tail b r h u = IsUtf8-past_char (b ∷ r) r b u (sym (ap (λ x. x ++ r) (encode_ascii b h)))

-- a text in a front and what follows it
pub front_at : (P : List ℕ → List ℕ → Type 0) (xs p ys : List ℕ) (n : ℕ) → xs ≡ p ++ ys → IsUtf8 ys → P p ys → 0 < length p → n ≡ length p → IsFront P xs n
front_at P xs p ys n e u h pos k =
    let front : take n xs ≡ p = ap (λ x. take n x) e ∙ ap (λ m. take m (p ++ ys)) k ∙ take-append_seam p ys in
    let rest : drop n xs ≡ ys = ap (λ x. drop n x) e ∙ ap (λ m. drop m (p ++ ys)) k ∙ drop-append_seam p ys in
    record {
      within = omega (arith, k, ap (λ x. length x) e, length-append p ys);
      positive = omega (arith, k, pos);
      boundary = subst (λ m. IsCharBoundary xs m) (sym k) (IsCharBoundary-at_seam xs p ys e u);
      piece = subst (λ x. P x (drop n xs)) (sym front) (subst (λ x. P p x) (sym rest) h);
    }

pub begun_by : (b : ℕ) (xs : List ℕ) → begins b xs ≡ true → xs ≡ b ∷ drop 1 xs
begun_by b [] h = let no : false ≡ true = h in cc
begun_by b (x ∷ xs) h = ap (λ y. y ∷ xs) (eqb-true x b h)

pub pair_is : (a b : ℕ) (xs : List ℕ) → begins_pair a b xs ≡ true → xs ≡ a ∷ b ∷ drop 2 xs
pair_is a b [] h = let no : false ≡ true = h in cc
pair_is a b (x ∷ xs) h =
    ap (λ y. y ∷ xs) (eqb-true x a (and_left (x == a) (begins b xs) h)) ∙ ap (λ y. a ∷ y) (begun_by b xs (and_right (x == a) (begins b xs) h))

pub pair_cut : (a b : ℕ) (xs : List ℕ) → a < 128 → b < 128 → IsUtf8 xs → begins_pair a b xs ≡ true → IsCharBoundary xs 2
pair_cut a b xs h k u e =
    let whole = pair_is a b xs e in
    IsCharBoundary-at_seam xs (a ∷ b ∷ []) (drop 2 xs) whole (utf8_tail b (drop 2 xs) k (utf8_tail a (b ∷ drop 2 xs) h (subst IsUtf8 whole u)))

pub line_front : (xs : List ℕ) (n : ℕ) → IsUtf8 xs → begins_pair 47 47 xs ≡ true → RunsFor (IsPiece Line) (drop 2 xs) n → IsFront IsSpacing xs (n + 2)
line_front xs n u h r =
    let rest = drop 2 xs in
    let whole : xs ≡ 47 ∷ 47 ∷ take n rest ++ drop n rest = pair_is 47 47 xs h ∙ ap (λ x. 47 ∷ 47 ∷ x) (sym (take-append-drop n rest)) in
    let clear : IsUtf8 rest = utf8_tail 47 rest (lit< tt) (utf8_tail 47 (47 ∷ rest) (lit< tt) (subst IsUtf8 (pair_is 47 47 xs h) u)) in
    front_at IsSpacing xs (47 ∷ 47 ∷ take n rest) (drop n rest) (n + 2) whole (IsUtf8-drop rest n clear r.boundary)
    (IsSpacing.line (take n rest) (drop n rest) r.run r.stops) (omega arith)
    (omega (arith, r.within, ap (λ x. length x) (take-append-drop n rest), length-append (take n rest) (drop n rest), length-drop n rest))

-- a text that is not empty and at which no piece of a comment begins goes on with `*/`
comment_end : (xs : List ℕ) → IsUtf8 xs → Stops (IsPiece Block) xs → 0 < length xs → xs ≡ 42 ∷ 47 ∷ drop 2 xs
comment_end xs (cs, (s, e)) stops h = at cs e where
  last : (c : ℕ) (rest : List ℕ) → xs ≡ encode_utf8 c ++ rest → (b : Bool) → ((c == 42) && begins 47 rest) ≡ b → xs ≡ 42 ∷ 47 ∷ drop 2 xs
  last c rest w true k =
      let is : c ≡ 42 = eqb-true c 42 (and_left (c == 42) (begins 47 rest) k) in
      let on : rest ≡ 47 ∷ drop 1 rest = begun_by 47 rest (and_right (c == 42) (begins 47 rest) k) in
      let all : xs ≡ 42 ∷ 47 ∷ drop 1 rest = w ∙ ap (λ d. encode_utf8 d ++ rest) is ∙ ap (λ x. x ++ rest) (encode_ascii 42 (lit< tt)) ∙ ap (λ x. 42 ∷ x) on in
      all ∙ ap (λ x. 42 ∷ 47 ∷ x) (sym (ap (λ x. drop 2 x) all))
  last c rest w false k = absurd (stops.never (encode_utf8 c) rest w (IsPiece.character c rest (ap Rattle.std.specs.Prelude.not k)))

  at : (ds : List ℕ) → Rattle.std.specs.Prelude.encode_utf8_all ds ≡ xs → xs ≡ 42 ∷ 47 ∷ drop 2 xs
  at [] w = absurd (omega (arith, h, ap (λ x. length x) w))
  at (d ∷ ds) w = last d (Rattle.std.specs.Prelude.encode_utf8_all ds) (sym w) ((d == 42) && begins 47 (Rattle.std.specs.Prelude.encode_utf8_all ds)) refl

pub block_front : (xs : List ℕ) (n : ℕ) → IsUtf8 xs → begins_pair 47 42 xs ≡ true → RunsFor (IsPiece Block) (drop 2 xs) n → n + 2 < length xs → IsFront IsSpacing xs (n + 2 + 2)
block_front xs n u h r k =
    let rest = drop 2 xs in
    let clear : IsUtf8 rest = utf8_tail 42 rest (lit< tt) (utf8_tail 47 (42 ∷ rest) (lit< tt) (subst IsUtf8 (pair_is 47 42 xs h) u)) in
    let left : IsUtf8 (drop n rest) = IsUtf8-drop rest n clear r.boundary in
    let end : drop n rest ≡ 42 ∷ 47 ∷ drop 2 (drop n rest) = comment_end (drop n rest) left r.stops (omega (arith, k, length-drop n rest, length-drop 2 xs)) in
    let ys = drop 2 (drop n rest) in
    let whole : xs ≡ 47 ∷ 42 ∷ take n rest ++ 42 ∷ 47 ∷ [] ++ ys =
    pair_is 47 42 xs h ∙ ap (λ x. 47 ∷ 42 ∷ x) (sym (take-append-drop n rest) ∙ ap (λ x. take n rest ++ x) end ∙ sym (append_assoc (take n rest) (42 ∷ 47 ∷ []) ys)) in
    front_at IsSpacing xs (47 ∷ 42 ∷ take n rest ++ 42 ∷ 47 ∷ []) ys (n + 2 + 2) whole
    (utf8_tail 47 ys (lit< tt) (utf8_tail 42 (47 ∷ ys) (lit< tt) (subst IsUtf8 end left)))
    (IsSpacing.block (take n rest) ys (subst (λ x. Run (IsPiece Block) (take n rest) x) end r.run)) (omega arith)
    (omega (arith, r.within, length-append (take n rest) (42 ∷ 47 ∷ []), ap (λ x. length x) (take-append-drop n rest), length-append (take n rest) (drop n rest), length-drop n rest))

-- no comment or blank begins where a comment begins that does not end
block_unfinished : (xs : List ℕ) (n : ℕ) → begins_pair 47 42 xs ≡ true → RunsFor (IsPiece Block) (drop 2 xs) n → length xs ≤ n + 2
    → (p ys : List ℕ) → xs ≡ p ++ ys → IsSpacing p ys → ⊥
block_unfinished xs n h r k _ ys w (IsSpacing.blank c _ b) =
    not_both (is_blank c) b (subst (λ x. is_blank x ≡ false) (sym (ascii_first c 47 ys (42 ∷ drop 2 xs) (sym w ∙ pair_is 47 42 xs h) (lit< tt)).0) refl)
block_unfinished xs n h r k _ ys w (IsSpacing.line body _ s t) =
    let e : 47 ∷ 42 ∷ drop 2 xs ≡ 47 ∷ 47 ∷ (body ++ ys) = sym (pair_is 47 42 xs h) ∙ w in
    let no : ◌≡◌ {A = ℕ} 42 47 = cc in omega (arith, no)
block_unfinished xs n h r k _ ys w (IsSpacing.block body _ s) =
    let rest = drop 2 xs in
    let e : 47 ∷ 42 ∷ rest ≡ 47 ∷ 42 ∷ ((body ++ 42 ∷ 47 ∷ []) ++ ys) = sym (pair_is 47 42 xs h) ∙ w in
    let tail : rest ≡ (body ++ 42 ∷ 47 ∷ []) ++ ys = cc in
    let same : drop n rest ≡ 42 ∷ 47 ∷ ys =
    run_same (IsPiece Block) (piece_exact Block) (take n rest) (drop n rest) body (42 ∷ 47 ∷ ys) r.run r.stops s (stops_end_of_block ys)
    (take-append-drop n rest ∙ tail ∙ append_assoc body (42 ∷ 47 ∷ []) ys) in
    omega (arith, ap (λ x. length x) same, length-drop n rest, length-drop 2 xs, k)

pub block_lacks : (xs : List ℕ) (n : ℕ) → begins_pair 47 42 xs ≡ true → RunsFor (IsPiece Block) (drop 2 xs) n → length xs ≤ n + 2 → Stops IsSpacing xs
block_lacks xs n h r k = record { never = block_unfinished xs n h r k }

pub blank_front : (xs : List ℕ) (c : ℕ) → xs ≡ encode_utf8 c ++ drop (len_utf8 c) xs → IsCharBoundary xs (len_utf8 c) → IsUtf8 xs → is_blank c ≡ true → IsFront IsSpacing xs (len_utf8 c)
blank_front xs c e cut u h =
    front_at IsSpacing xs (encode_utf8 c) (drop (len_utf8 c) xs) (len_utf8 c) e (IsUtf8-drop xs (len_utf8 c) u cut)
    (IsSpacing.blank c (drop (len_utf8 c) xs) h) (encode_positive c) (sym (length-encode c))

no_space : (xs : List ℕ) (c : ℕ) (rest : List ℕ) → xs ≡ encode_utf8 c ++ rest → is_blank c ≡ false → begins_pair 47 47 xs ≡ false → begins_pair 47 42 xs ≡ false
    → (p ys : List ℕ) → xs ≡ p ++ ys → IsSpacing p ys → ⊥
no_space xs c rest e h k l _ ys w (IsSpacing.blank d _ b) =
    not_both (is_blank d) b (subst (λ x. is_blank x ≡ false) (encode_same c d rest ys (sym e ∙ w)).0 h)
no_space xs c rest e h k l _ ys w (IsSpacing.line body _ s t) = not_both (begins_pair 47 47 xs) (subst (λ x. begins_pair 47 47 x ≡ true) (sym w) refl) k
no_space xs c rest e h k l _ ys w (IsSpacing.block body _ s) = not_both (begins_pair 47 42 xs) (subst (λ x. begins_pair 47 42 x ≡ true) (sym w) refl) l

pub space_lacks : (xs : List ℕ) (c : ℕ) (rest : List ℕ) → xs ≡ encode_utf8 c ++ rest → is_blank c ≡ false → begins_pair 47 47 xs ≡ false → begins_pair 47 42 xs ≡ false
    → Stops IsSpacing xs
space_lacks xs c rest e h k l = record { never = no_space xs c rest e h k l }

pub spacing_positive : {p ys : List ℕ} → IsSpacing p ys → 0 < length p
spacing_positive (IsSpacing.blank c ys h) = encode_positive c
spacing_positive (IsSpacing.line body ys r s) = omega arith
spacing_positive (IsSpacing.block body ys r) = omega arith

pub space_at_end : (xs : List ℕ) → length xs ≡ 0 → Stops IsSpacing xs
space_at_end xs e = record { never = λ p ys w h. absurd (omega (arith, spacing_positive h, ap (λ x. length x) w, length-append p ys, e)) }

-- The token that a text begins with.
use Rattle.std.proofs.Common.{inl, inr, ◌≡◌, ℕ, ◌+◌, ◌<◌, ◌≤◌, ◌==◌, Bool, true, false, cond, List, [], ◌∷◌, ◌++◌, length, take, drop, sym, ap, subst, ◌∙◌, refl, arith, length-append, append_assoc, lit<, lit≤}
use Rattle.std.specs.Prelude.{◌&&◌, ◌||◌, Some, None, encode_utf8, IsUtf8, IsCharBoundary}
use Rattle.std.specs.Char.{len_utf8}
use Rattle.std.proofs.lemmas.Bool.{eqb-true, eq-eqb}
use Rattle.std.proofs.lemmas.List.{take-append-drop, length-drop, length-take, append-nil}
use Rattle.std.proofs.lemmas.Str.{encode_same, length-encode, IsUtf8-drop, IsUtf8-past_char, IsUtf8-nil, IsCharBoundary-at_seam}
use Rattle.tb_scan.specs.declared.inside.Inside.TheVariants.{Word, Quoted}
use Rattle.tb_scan.specs.declared.token.Kind.{Kind}
use Rattle.tb_scan.specs.declared.token.Kind.TheVariants as k
use Rattle.tb_scan.specs.declared.braces.Bracket.{Bracket}
use Rattle.tb_scan.specs.Characters.{is_word_start, is_digit, is_quote, begins, begins_where}
use Rattle.tb_scan.specs.Pieces.{Run, Stops, RunsFor, IsFront, IsPiece}
use Rattle.tb_scan.specs.Numbers.{IsNumber, IsLongestFront, are_digits, is_fraction, is_exponent, is_power, base_of}
use Rattle.tb_scan.specs.Tokens.{IsForm, IsLongest, IsToken, HasNoForm, IsGlueFor, is_glue, opens}
use Rattle.tb_scan.proofs.Runs.{run_longest, run_same}
use Rattle.tb_scan.proofs.OnePiece.{encode_positive}
use Rattle.tb_scan.proofs.Exact.{piece_exact, stops_before}
use Rattle.tb_scan.proofs.Spaces.{front_at, utf8_tail, begun_by}
use Rattle.tb_scan.proofs.EscapeLemmas.{digit_low, utf8_digits}
use Rattle.tb_scan.proofs.NumberLemmas.{or_either, or_left, whole_digits}
use Rattle.tb_scan.proofs.Forms as g
use Rattle.tb_scan.proofs.TestLemmas.{and_left, and_right, not_both}

-- words

word_ends : (opened : List Bracket) (kind : Kind) (u zs : List ℕ) → IsForm opened kind u zs → (c n : ℕ) (rest : List ℕ) → g.kind_group kind ≡ 1
    → encode_utf8 c ++ rest ≡ u ++ zs → RunsFor (IsPiece Word) rest n → length u ≤ len_utf8 c + n
word_ends opened _ _ zs (IsForm.word d r _ h run) c n rest one e f =
    let same = encode_same c d rest (r ++ zs) (e ∙ append_assoc (encode_utf8 d) r zs) in
    let on = run_longest (IsPiece Word) (piece_exact Word) (take n rest) (drop n rest) r zs f.run f.stops run (take-append-drop n rest ∙ same.1) in
    omega (arith, length-append (encode_utf8 d) r, ap (λ x. length (encode_utf8 x)) same.0, length-encode c, ap (λ x. length x) on.longer, length-append r on.by, length-take n rest, f.within)
word_ends opened _ _ zs (IsForm.number u _ h) c n rest one e f = absurd (omega (arith, one))
word_ends opened _ _ zs (IsForm.string q body _ h run) c n rest one e f = absurd (omega (arith, one))
word_ends opened _ _ zs (IsForm.whole body _ run) c n rest one e f = absurd (omega (arith, one))
word_ends opened _ _ zs (IsForm.head body _ run) c n rest one e f = absurd (omega (arith, one))
word_ends opened _ _ zs (IsForm.middle body _ h run) c n rest one e f = absurd (omega (arith, one))
word_ends opened _ _ zs (IsForm.tail body _ h run) c n rest one e f = absurd (omega (arith, one))
word_ends opened _ _ zs (IsForm.mark u _ h) c n rest one e f = absurd (omega (arith, one))

pub word_cut : (xs : List ℕ) (c : ℕ) → IsUtf8 xs → xs ≡ encode_utf8 c ++ drop (len_utf8 c) xs → IsCharBoundary xs (len_utf8 c)
word_cut xs c u e =
    subst (λ n. IsCharBoundary xs n) (length-encode c) (IsCharBoundary-at_seam xs (encode_utf8 c) (drop (len_utf8 c) xs) e (IsUtf8-past_char xs (drop (len_utf8 c) xs) c u e))

pub word_reads : (opened : List Bracket) (xs : List ℕ) (c n : ℕ) → IsUtf8 xs → xs ≡ encode_utf8 c ++ drop (len_utf8 c) xs → is_word_start c ≡ true
    → RunsFor (IsPiece Word) (drop (len_utf8 c) xs) n → IsFront (IsToken opened k.Word) xs (len_utf8 c + n)
word_reads opened xs c n u e h f =
    let rest = drop (len_utf8 c) xs in
    let t = encode_utf8 c ++ take n rest in
    let ys = drop n rest in
    let split : t ++ ys ≡ encode_utf8 c ++ rest = append_assoc (encode_utf8 c) (take n rest) ys ∙ ap (λ x. encode_utf8 c ++ x) (take-append-drop n rest) in
    let size : len_utf8 c + n ≡ length t = omega (arith, length-append (encode_utf8 c) (take n rest), length-encode c, length-take n rest, f.within) in
    let longest : IsLongest opened k.Word t ys = record {
      form = IsForm.word c (take n rest) ys h f.run;
      longest = λ other v zs form w.
          let all : encode_utf8 c ++ rest ≡ v ++ zs = sym split ∙ w in
          omega (arith, size, word_ends opened other v zs form c n rest (sym (g.form_group opened other v zs form c rest (sym all)) ∙ g.group_word opened c h) all f);
    } in
    front_at (IsToken opened k.Word) xs t ys (len_utf8 c + n) (e ∙ sym split) (IsUtf8-drop rest n (IsUtf8-past_char xs rest c u e) f.boundary)
    (IsToken.formed k.Word t ys longest (record { free = λ q d zs w. absurd (let no : k.Word ≡ k.Number = q in cc) })) (omega (arith, length-append (encode_utf8 c) (take n rest), encode_positive c)) size

-- numbers

utf8_are : (base : ℕ) (ds ys : List ℕ) → base ≤ 36 → are_digits base ds ≡ true → IsUtf8 (ds ++ ys) → IsUtf8 ys
utf8_are base [] ys b h u = u
utf8_are base (d ∷ ds) ys b h u = utf8_digits base (d ∷ ds) ys b h u

utf8_power : (u ys : List ℕ) → is_power u ≡ true → IsUtf8 (u ++ ys) → IsUtf8 ys
utf8_power [] ys h u = u
utf8_power (c ∷ ds) ys h u = elim (or_either (are_digits 10 (c ∷ ds)) (((c == 43) || (c == 45)) && are_digits 10 ds) h) [
  | inl digits ↦ utf8_digits 10 (c ∷ ds) ys (lit≤ tt) digits u
  | inr signed ↦ elim (or_either (c == 43) (c == 45) (and_left ((c == 43) || (c == 45)) (are_digits 10 ds) signed)) [
    | inl plus ↦ utf8_are 10 ds ys (lit≤ tt) (and_right ((c == 43) || (c == 45)) (are_digits 10 ds) signed) (utf8_tail c (ds ++ ys) (omega (arith, eqb-true c 43 plus)) u)
    | inr minus ↦ utf8_are 10 ds ys (lit≤ tt) (and_right ((c == 43) || (c == 45)) (are_digits 10 ds) signed) (utf8_tail c (ds ++ ys) (omega (arith, eqb-true c 45 minus)) u)
  ]
]

utf8_exponent : (u ys : List ℕ) → is_exponent u ≡ true → IsUtf8 (u ++ ys) → IsUtf8 ys
utf8_exponent [] ys h u = u
utf8_exponent (c ∷ ds) ys h u = elim (or_either (c == 101) (c == 69) (and_left ((c == 101) || (c == 69)) (is_power ds) h)) [
  | inl small ↦ utf8_power ds ys (and_right ((c == 101) || (c == 69)) (is_power ds) h) (utf8_tail c (ds ++ ys) (omega (arith, eqb-true c 101 small)) u)
  | inr large ↦ utf8_power ds ys (and_right ((c == 101) || (c == 69)) (is_power ds) h) (utf8_tail c (ds ++ ys) (omega (arith, eqb-true c 69 large)) u)
]

utf8_fraction : (u ys : List ℕ) → is_fraction u ≡ true → IsUtf8 (u ++ ys) → IsUtf8 ys
utf8_fraction [] ys h u = u
utf8_fraction (c ∷ ds) ys h u =
    utf8_are 10 ds ys (lit≤ tt) (and_right (c == 46) (are_digits 10 ds) h) (utf8_tail c (ds ++ ys) (omega (arith, eqb-true c 46 (and_left (c == 46) (are_digits 10 ds) h))) u)

base_low : (letter base : ℕ) → base_of letter ≡ Some base → (letter < 128) × (base ≤ 36)
base_low letter base h = first (letter == 120) refl where
  third : (letter == 120) ≡ false → (letter == 111) ≡ false → (b : Bool) → (letter == 98) ≡ b → (letter < 128) × (base ≤ 36)
  third x o true b =
      let e : Some 2 ≡ Some base = sym (ap (λ p. cond p (Some 16) (cond (letter == 111) (Some 8) (cond (letter == 98) (Some 2) None))) x ∙ ap (λ p. cond p (Some 8) (cond (letter == 98) (Some 2) None)) o ∙ ap (λ p. cond p (Some 2) None) b) ∙ h in
      let same : ◌≡◌ {A = ℕ} 2 base = cc in (omega (arith, eqb-true letter 98 b), omega (arith, same))
  third x o false b =
      let e : None ≡ Some base = sym (ap (λ p. cond p (Some 16) (cond (letter == 111) (Some 8) (cond (letter == 98) (Some 2) None))) x ∙ ap (λ p. cond p (Some 8) (cond (letter == 98) (Some 2) None)) o ∙ ap (λ p. cond p (Some 2) None) b) ∙ h in
      cc

  second : (letter == 120) ≡ false → (b : Bool) → (letter == 111) ≡ b → (letter < 128) × (base ≤ 36)
  second x true o =
      let e : Some 8 ≡ Some base = sym (ap (λ p. cond p (Some 16) (cond (letter == 111) (Some 8) (cond (letter == 98) (Some 2) None))) x ∙ ap (λ p. cond p (Some 8) (cond (letter == 98) (Some 2) None)) o) ∙ h in
      let same : ◌≡◌ {A = ℕ} 8 base = cc in (omega (arith, eqb-true letter 111 o), omega (arith, same))
  second x false o = third x o (letter == 98) refl

  first : (b : Bool) → (letter == 120) ≡ b → (letter < 128) × (base ≤ 36)
  first true x =
      let e : Some 16 ≡ Some base = sym (ap (λ p. cond p (Some 16) (cond (letter == 111) (Some 8) (cond (letter == 98) (Some 2) None))) x) ∙ h in
      let same : ◌≡◌ {A = ℕ} 16 base = cc in (omega (arith, eqb-true letter 120 x), omega (arith, same))
  first false x = second x (letter == 111) refl

utf8_number : (t ys : List ℕ) → IsNumber t → IsUtf8 (t ++ ys) → IsUtf8 ys
utf8_number _ ys (IsNumber.decimal a b c h i j) u =
    let tail : IsUtf8 (b ++ (c ++ ys)) = utf8_are 10 a (b ++ (c ++ ys)) (lit≤ tt) (whole_digits a h) (subst IsUtf8 (append_assoc a (b ++ c) ys ∙ ap (λ x. a ++ x) (append_assoc b c ys)) u) in
    utf8_exponent c ys j (utf8_fraction b (c ++ ys) i tail)
utf8_number _ ys (IsNumber.based letter base ds b h) u =
    let low = base_low letter base b in
    utf8_are base ds ys low.1 h (utf8_tail letter (ds ++ ys) low.0 (utf8_tail 48 (letter ∷ ds ++ ys) (lit< tt) u))

pub number_cut : (xs : List ℕ) (n : ℕ) → IsUtf8 xs → IsLongestFront IsNumber xs n → IsCharBoundary xs n
number_cut xs n u f =
    let rest : IsUtf8 (drop n xs) = utf8_number (take n xs) (drop n xs) f.form (subst IsUtf8 (sym (take-append-drop n xs)) u) in
    subst (λ m. IsCharBoundary xs m) (omega (arith, length-take n xs, f.within)) (IsCharBoundary-at_seam xs (take n xs) (drop n xs) (sym (take-append-drop n xs)) rest)

number_ends : (opened : List Bracket) (kind : Kind) (u zs : List ℕ) → IsForm opened kind u zs → (xs : List ℕ) (n : ℕ) → g.kind_group kind ≡ 2 → xs ≡ u ++ zs → IsLongestFront IsNumber xs n → length u ≤ n
number_ends opened _ _ zs (IsForm.number u _ h) xs n two e f = f.longest u zs e h
number_ends opened _ _ zs (IsForm.word d r _ h run) xs n two e f = absurd (omega (arith, two))
number_ends opened _ _ zs (IsForm.string q body _ h run) xs n two e f = absurd (omega (arith, two))
number_ends opened _ _ zs (IsForm.whole body _ run) xs n two e f = absurd (omega (arith, two))
number_ends opened _ _ zs (IsForm.head body _ run) xs n two e f = absurd (omega (arith, two))
number_ends opened _ _ zs (IsForm.middle body _ h run) xs n two e f = absurd (omega (arith, two))
number_ends opened _ _ zs (IsForm.tail body _ h run) xs n two e f = absurd (omega (arith, two))
number_ends opened _ _ zs (IsForm.mark u _ h) xs n two e f = absurd (omega (arith, two))

digit_two : (opened : List Bracket) (kind : Kind) (u zs : List ℕ) → IsForm opened kind u zs → (xs : List ℕ) → begins_where (is_digit 10) xs ≡ true → xs ≡ u ++ zs → g.kind_group kind ≡ 2
digit_two opened kind u zs f [] h e = absurd (let no : false ≡ true = h in not_both false no refl)
digit_two opened kind u zs f (d ∷ s) h e = g.form_byte opened kind u zs f d s e (digit_low 10 d (lit≤ tt) h) ∙ g.group_digit opened d h

number_longest : (opened : List Bracket) (xs : List ℕ) (n : ℕ) → begins_where (is_digit 10) xs ≡ true → IsLongestFront IsNumber xs n → IsLongest opened k.Number (take n xs) (drop n xs)
number_longest opened xs n h f = record {
  form = IsForm.number (take n xs) (drop n xs) f.form;
  longest = λ other u zs form w.
      let all : xs ≡ u ++ zs = sym (take-append-drop n xs) ∙ w in
      omega (arith, length-take n xs, f.within, number_ends opened other u zs form xs n (digit_two opened other u zs form xs h all) all f);
}

pub number_positive : (t : List ℕ) → IsNumber t → 0 < length t
number_positive _ (IsNumber.decimal [] b c h i j) = absurd (let no : false ≡ true = h in not_both false no refl)
number_positive _ (IsNumber.decimal (d ∷ a) b c h i j) = omega arith
number_positive _ (IsNumber.based letter base ds b h) = omega arith

pub number_reads : (opened : List Bracket) (xs : List ℕ) (n glued : ℕ) → IsUtf8 xs → begins_where (is_digit 10) xs ≡ true → IsLongestFront IsNumber xs n → IsGlueFor (drop n xs) glued → glued ≡ 0
    → IsFront (IsToken opened k.Number) xs n
number_reads opened xs n glued u h f glue z =
    front_at (IsToken opened k.Number) xs (take n xs) (drop n xs) n (sym (take-append-drop n xs)) (IsUtf8-drop xs n u (number_cut xs n u f))
    (IsToken.formed k.Number (take n xs) (drop n xs) (number_longest opened xs n h f) (record { free = λ q c zs w. glue.none z c zs w }))
    (number_positive (take n xs) f.form) (omega (arith, length-take n xs, f.within))

pub glued_reads : (opened : List Bracket) (xs : List ℕ) (n glued : ℕ) → IsUtf8 xs → begins_where (is_digit 10) xs ≡ true → IsLongestFront IsNumber xs n → IsGlueFor (drop n xs) glued → 0 < glued
    → IsFront (IsToken opened k.Bad) xs (n + glued)
glued_reads opened xs n glued u h f glue pos =
    let some = glue.some pos in
    let c = some.0 in
    let ys = drop glued (drop n xs) in
    let rest : IsUtf8 (drop n xs) = IsUtf8-drop xs n u (number_cut xs n u f) in
    let t = take n xs in
    let whole : xs ≡ (t ++ encode_utf8 c) ++ ys = sym (take-append-drop n xs) ∙ ap (λ x. t ++ x) some.3 ∙ sym (append_assoc t (encode_utf8 c) ys) in
    let longest : IsLongest opened k.Number t (encode_utf8 c ++ ys) = subst (λ x. IsLongest opened k.Number t x) some.3 (number_longest opened xs n h f) in
    front_at (IsToken opened k.Bad) xs (t ++ encode_utf8 c) ys (n + glued) whole (IsUtf8-past_char (drop n xs) ys c rest some.3)
    (IsToken.glued t c ys longest some.1) (omega (arith, length-append t (encode_utf8 c), encode_positive c))
    (omega (arith, length-append t (encode_utf8 c), some.2, length-take n xs, f.within))

pub no_glue_at_end : (xs : List ℕ) → length xs ≡ 0 → IsGlueFor xs 0
no_glue_at_end xs e = record {
  none = λ z c zs w. absurd (omega (arith, e, ap (λ x. length x) w, length-append (encode_utf8 c) zs, encode_positive c));
  some = λ l. absurd (omega (arith, l));
}

pub no_glue_here : (xs : List ℕ) (c : ℕ) (rest : List ℕ) → xs ≡ encode_utf8 c ++ rest → is_glue c ≡ false → IsGlueFor xs 0
no_glue_here xs c rest e h = record {
  none = λ z d zs w. subst (λ x. is_glue x ≡ false) (encode_same c d rest zs (sym e ∙ w)).0 h;
  some = λ l. absurd (omega (arith, l));
}

pub glue_here : (xs : List ℕ) (c : ℕ) → xs ≡ encode_utf8 c ++ drop (len_utf8 c) xs → is_glue c ≡ true → IsGlueFor xs (len_utf8 c)
glue_here xs c e h = record {
  none = λ z d zs w. absurd (omega (arith, z, length-encode c, encode_positive c));
  some = λ l. (c, h, sym (length-encode c), e);
}

-- strings

quote_stops : (q : ℕ) (zs : List ℕ) → is_quote q ≡ true → Stops (IsPiece (Quoted q)) (q ∷ zs)
quote_stops q zs h = elim (or_either (q == 34) (q == 39) h) [
  | inl double ↦ let same = eqb-true q 34 double in
      subst (λ x. Stops (IsPiece (Quoted x)) (x ∷ zs)) (sym same) (stops_before (Quoted 34) 34 zs (lit< tt) refl (λ t e. omega (arith, e)))
  | inr single ↦ let same = eqb-true q 39 single in
      subst (λ x. Stops (IsPiece (Quoted x)) (x ∷ zs)) (sym same) (stops_before (Quoted 39) 39 zs (lit< tt) refl (λ t e. omega (arith, e)))
]

string_ends : (opened : List Bracket) (kind : Kind) (u zs : List ℕ) → IsForm opened kind u zs → (q n : ℕ) (r : List ℕ) → g.kind_group kind ≡ 3 → q ∷ r ≡ u ++ zs
    → RunsFor (IsPiece (Quoted q)) r n → (drop n r ≡ q ∷ zs) × (length u ≡ n + 2)
string_ends opened _ _ zs (IsForm.string p body _ h run) q n r three e f =
    let same : q ≡ p = cc in
    let rest : r ≡ (body ++ p ∷ []) ++ zs = cc in
    let split : r ≡ body ++ p ∷ zs = rest ∙ append_assoc body (p ∷ []) zs in
    let there : Run (IsPiece (Quoted q)) body (p ∷ zs) = subst (λ x. Run (IsPiece (Quoted x)) body (p ∷ zs)) (sym same) run in
    let ends : Stops (IsPiece (Quoted q)) (p ∷ zs) = subst (λ x. Stops (IsPiece (Quoted x)) (p ∷ zs)) (sym same) (quote_stops p zs h) in
    let left : drop n r ≡ p ∷ zs = run_same (IsPiece (Quoted q)) (piece_exact (Quoted q)) (take n r) (drop n r) body (p ∷ zs) f.run f.stops there ends (take-append-drop n r ∙ split) in (
      left ∙ ap (λ x. x ∷ zs) (sym same),
      omega (arith, length-append body (p ∷ []), ap (λ x. length x) split, length-append body (p ∷ zs), ap (λ x. length x) left, length-drop n r, f.within),
    )
string_ends opened _ _ zs (IsForm.word d s _ h run) q n r three e f = absurd (omega (arith, three))
string_ends opened _ _ zs (IsForm.number u _ h) q n r three e f = absurd (omega (arith, three))
string_ends opened _ _ zs (IsForm.whole body _ run) q n r three e f = absurd (omega (arith, three))
string_ends opened _ _ zs (IsForm.head body _ run) q n r three e f = absurd (omega (arith, three))
string_ends opened _ _ zs (IsForm.middle body _ h run) q n r three e f = absurd (omega (arith, three))
string_ends opened _ _ zs (IsForm.tail body _ h run) q n r three e f = absurd (omega (arith, three))
string_ends opened _ _ zs (IsForm.mark u _ h) q n r three e f = absurd (omega (arith, three))

quote_three : (opened : List Bracket) (kind : Kind) (u zs : List ℕ) → IsForm opened kind u zs → (q : ℕ) (r : List ℕ) → is_quote q ≡ true → q ∷ r ≡ u ++ zs → g.kind_group kind ≡ 3
quote_three opened kind u zs f q r h e = let is = g.group_quote opened q h in g.form_byte opened kind u zs f q r e is.0 ∙ is.1

pub quote_cut : (xs : List ℕ) (q : ℕ) → IsUtf8 xs → xs ≡ q ∷ drop 1 xs → q < 128 → IsCharBoundary xs 1
quote_cut xs q u e h = IsCharBoundary-at_seam xs (q ∷ []) (drop 1 xs) e (utf8_tail q (drop 1 xs) h (subst IsUtf8 e u))

pub quote_low : (q : ℕ) → is_quote q ≡ true → q < 128
quote_low q h = (g.group_quote [] q h).0

pub string_reads : (opened : List Bracket) (xs : List ℕ) (q n : ℕ) → IsUtf8 xs → xs ≡ q ∷ drop 1 xs → is_quote q ≡ true → RunsFor (IsPiece (Quoted q)) (drop 1 xs) n
    → begins q (drop n (drop 1 xs)) ≡ true → IsFront (IsToken opened k.Str) xs (n + 1 + 1)
string_reads opened xs q n u e h f b =
    let r = drop 1 xs in
    let ys = drop 1 (drop n r) in
    let end : drop n r ≡ q ∷ ys = begun_by q (drop n r) b in
    let t = q ∷ take n r ++ q ∷ [] in
    let whole : xs ≡ t ++ ys = e ∙ ap (λ x. q ∷ x) (sym (take-append-drop n r) ∙ ap (λ x. take n r ++ x) end ∙ sym (append_assoc (take n r) (q ∷ []) ys)) in
    let low = quote_low q h in
    let size : n + 1 + 1 ≡ length t = omega (arith, length-append (take n r) (q ∷ []), length-take n r, f.within) in
    let longest : IsLongest opened k.Str t ys = record {
      form = IsForm.string q (take n r) ys h (subst (λ x. Run (IsPiece (Quoted q)) (take n r) x) end f.run);
      longest = λ other v zs form w.
          let all : q ∷ r ≡ v ++ zs = sym e ∙ whole ∙ w in
          omega (arith, size, (string_ends opened other v zs form q n r (quote_three opened other v zs form q r h all) all f).1);
    } in
    front_at (IsToken opened k.Str) xs t ys (n + 1 + 1) whole
    (utf8_tail q ys low (subst IsUtf8 end (IsUtf8-drop r n (utf8_tail q r low (subst IsUtf8 e u)) f.boundary)))
    (IsToken.formed k.Str t ys longest (record { free = λ p d zs w. absurd (let no : k.Str ≡ k.Number = p in cc) })) (omega arith) size

-- all of a text
pub bad_reads : (opened : List Bracket) (xs : List ℕ) → 0 < length xs → opens opened xs ≡ true → HasNoForm opened xs → IsFront (IsToken opened k.Bad) xs (length xs)
bad_reads opened xs pos o none = front_at (IsToken opened k.Bad) xs xs [] (length xs) (sym (append-nil xs)) IsUtf8-nil (IsToken.unfinished xs o none) pos refl

pub string_bad : (opened : List Bracket) (xs : List ℕ) (q n : ℕ) → xs ≡ q ∷ drop 1 xs → is_quote q ≡ true → RunsFor (IsPiece (Quoted q)) (drop 1 xs) n
    → begins q (drop n (drop 1 xs)) ≡ false → IsFront (IsToken opened k.Bad) xs (length xs)
string_bad opened xs q n e h f b =
    bad_reads opened xs (omega (arith, ap (λ x. length x) e)) (ap (λ x. opens opened x) e ∙ or_left (is_quote q) _ h)
    (record {
      none = λ kind u zs form w.
          let all : q ∷ drop 1 xs ≡ u ++ zs = sym e ∙ w in
          let ends = string_ends opened kind u zs form q n (drop 1 xs) (quote_three opened kind u zs form q (drop 1 xs) h all) all f in
          not_both (begins q (drop n (drop 1 xs))) (subst (λ x. begins q x ≡ true) (sym ends.0) (eq-eqb q q refl)) b;
    })

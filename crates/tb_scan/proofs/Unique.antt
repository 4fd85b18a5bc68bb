-- The tokens of a text are determined.
use Rattle.std.proofs.Common.{◌≡◌, ℕ, ◌+◌, ◌<◌, ◌≤◌, ◌==◌, Bool, true, false, cond, List, [], ◌∷◌, ◌++◌, length, drop, sym, ap, subst, ◌∙◌, refl, arith, length-append, append_assoc, lit<, lit≤}
use Rattle.std.specs.Prelude.{nat_lt, encode_utf8}
use Rattle.std.specs.List.{list_all}
use Rattle.std.proofs.lemmas.Bool.{ltb-true}
use Rattle.std.proofs.lemmas.List.{append-nil, append_cancel_left, length-drop}
use Rattle.std.proofs.lemmas.Str.{encode_same, encode_ascii}
use Rattle.tb_scan.specs.declared.inside.Inside.TheVariants.{Template}
use Rattle.tb_scan.specs.declared.token.Kind.{Kind}
use Rattle.tb_scan.specs.declared.token.Kind.TheVariants as k
use Rattle.tb_scan.specs.declared.token.Token.{Token}
use Rattle.tb_scan.specs.declared.braces.Bracket.{Bracket}
use Rattle.tb_scan.specs.Pieces.{Run, Stops, IsPiece, IsSpacing}
use Rattle.tb_scan.specs.Tokens.{IsForm, IsLongest, IsFree, IsToken, Scans, AreLaidOut, after, is_glue, opens}
use Rattle.tb_scan.specs.Marks.{is_mark}
use Rattle.tb_scan.specs.Characters.{is_digit, begins_where}
use Rattle.tb_scan.proofs.EscapeLemmas.{digit_low}
use Rattle.tb_scan.specs.Laws.{NextIsOne, EndHasNone, ScanIsOne, ScanIsLaidOut}
use Rattle.tb_scan.proofs.Runs.{run_same}
use Rattle.tb_scan.proofs.OnePiece.{encode_positive}
use Rattle.tb_scan.proofs.Exact.{piece_exact, spacing_exact, same_by_length}
use Rattle.tb_scan.proofs.Spaces.{space_at_end}
use Rattle.tb_scan.proofs.Reading.{number_positive, quote_low}
use Rattle.tb_scan.proofs.Templates.{tick_stops, hole_stops, mark_shapes}
use Rattle.tb_scan.proofs.Forms as g
use Rattle.tb_scan.proofs.TestLemmas.{and_left, and_right, not_both}

form_positive : {opened : List Bracket} {kind : Kind} {t ys : List ℕ} → IsForm opened kind t ys → 0 < length t
form_positive (IsForm.word c rest ys h run) = omega (arith, length-append (encode_utf8 c) rest, encode_positive c)
form_positive (IsForm.number t ys h) = number_positive t h
form_positive (IsForm.string q body ys h run) = omega arith
form_positive (IsForm.whole body ys run) = omega arith
form_positive (IsForm.head body ys run) = omega arith
form_positive (IsForm.middle body ys h run) = omega arith
form_positive (IsForm.tail body ys h run) = omega arith
form_positive (IsForm.mark t ys h) =
    ltb-true 0 (length t) (and_left (nat_lt 0 (length t)) (list_all (λ b. nat_lt b 128) t) (mark_shapes t (and_left (is_mark t) _ h)))

token_positive : {opened : List Bracket} {kind : Kind} {t ys : List ℕ} → IsToken opened kind t ys → 0 < length t
token_positive (IsToken.formed kind t ys longest free) = form_positive longest.form
token_positive (IsToken.glued t c ys longest h) = omega (arith, length-append t (encode_utf8 c), encode_positive c)
token_positive (IsToken.unfinished [] h none) = absurd (let no : false ≡ true = h in not_both false no refl)
token_positive (IsToken.unfinished (x ∷ xs) h none) = omega arith
token_positive (IsToken.stray c ys h none) = encode_positive c

-- a kind by its group, and by whether it ends in `${`
holed : Kind → Bool
holed k.Head = true
holed k.Middle = true
holed _ = false

kind_of : ℕ → Bool → Kind
kind_of n true = cond (n == 4) k.Head k.Middle
kind_of n false = cond (n == 1) k.Word (cond (n == 2) k.Number (cond (n == 3) k.Str (cond (n == 4) k.Whole (cond (n == 5) k.Tail (cond (n == 6) k.Mark k.Bad)))))

kind_is : (kind : Kind) → kind_of (g.kind_group kind) (holed kind) ≡ kind
unfolding kind_of holed
kind_is k.Word = refl
kind_is k.Number = refl
kind_is k.Str = refl
kind_is k.Whole = refl
kind_is k.Head = refl
kind_is k.Middle = refl
kind_is k.Tail = refl
kind_is k.Mark = refl
kind_is k.Bad = refl

holed_group : (kind : Kind) → holed kind ≡ true → (4 ≤ g.kind_group kind) × (g.kind_group kind ≤ 5)
unfolding holed
holed_group k.Head h = (omega arith, omega arith)
holed_group k.Middle h = (omega arith, omega arith)
holed_group k.Word h = absurd (not_both false h refl)
holed_group k.Number h = absurd (not_both false h refl)
holed_group k.Str h = absurd (not_both false h refl)
holed_group k.Whole h = absurd (not_both false h refl)
holed_group k.Tail h = absurd (not_both false h refl)
holed_group k.Mark h = absurd (not_both false h refl)
holed_group k.Bad h = absurd (not_both false h refl)

-- what ends the body of a template
end_of : Bool → List ℕ → List ℕ
end_of true ys = 36 ∷ 123 ∷ ys
end_of false ys = 96 ∷ ys

record Body (hole : Bool) (t ys : List ℕ) : Type 0 where
  pub inner : List ℕ
  pub run : Run (IsPiece Template) inner (end_of hole ys)
  pub split : drop 1 (t ++ ys) ≡ inner ++ end_of hole ys

body_of : {opened : List Bracket} {kind : Kind} {t ys : List ℕ} → IsForm opened kind t ys → 4 ≤ g.kind_group kind → g.kind_group kind ≤ 5 → Body (holed kind) t ys
unfolding holed end_of
body_of (IsForm.whole body ys run) low high = record { inner = body; run = run; split = append_assoc body (96 ∷ []) ys }
body_of (IsForm.head body ys run) low high = record { inner = body; run = run; split = append_assoc body (36 ∷ 123 ∷ []) ys }
body_of (IsForm.middle body ys h run) low high = record { inner = body; run = run; split = append_assoc body (36 ∷ 123 ∷ []) ys }
body_of (IsForm.tail body ys h run) low high = record { inner = body; run = run; split = append_assoc body (96 ∷ []) ys }
body_of (IsForm.word c rest ys h run) low high = absurd (omega (arith, low))
body_of (IsForm.number t ys h) low high = absurd (omega (arith, low))
body_of (IsForm.string q body ys h run) low high = absurd (omega (arith, low))
body_of (IsForm.mark t ys h) low high = absurd (omega (arith, high))

end_stops : (hole : Bool) (ys : List ℕ) → Stops (IsPiece Template) (end_of hole ys)
unfolding end_of
end_stops true ys = hole_stops ys
end_stops false ys = tick_stops ys

end_same : (a b : Bool) (ys zs : List ℕ) → end_of a ys ≡ end_of b zs → a ≡ b
unfolding end_of
end_same true true ys zs e = refl
end_same false false ys zs e = refl
end_same true false ys zs e = absurd (let no : ◌≡◌ {A = ℕ} 36 96 = cc in omega (arith, no))
end_same false true ys zs e = absurd (let no : ◌≡◌ {A = ℕ} 96 36 = cc in omega (arith, no))

same_body : (a b : Bool) (t ys u zs : List ℕ) → Body a t ys → Body b u zs → t ++ ys ≡ u ++ zs → a ≡ b
same_body a b t ys u zs f h e =
    end_same a b ys zs (run_same (IsPiece Template) (piece_exact Template) f.inner (end_of a ys) h.inner (end_of b zs) f.run (end_stops a ys) h.run (end_stops b zs)
    (sym f.split ∙ ap (λ x. drop 1 x) e ∙ h.split))

same_hole : (opened : List Bracket) (a b : Kind) (t ys u zs : List ℕ) → IsForm opened a t ys → IsForm opened b u zs → t ++ ys ≡ u ++ zs → g.kind_group a ≡ g.kind_group b → holed a ≡ holed b
same_hole opened a b t ys u zs f h e group = by_cases (holed a) (holed b) refl refl where
  bodies : (4 ≤ g.kind_group a) × (g.kind_group a ≤ 5) → holed a ≡ holed b
  bodies here = same_body (holed a) (holed b) t ys u zs (body_of f here.0 here.1) (body_of h (omega (arith, here.0, group)) (omega (arith, here.1, group))) e

  by_cases : (x y : Bool) → holed a ≡ x → holed b ≡ y → holed a ≡ holed b
  by_cases true y p q = bodies (holed_group a p)
  by_cases false true p q = let there = holed_group b q in bodies (omega (arith, there.0, group), omega (arith, there.1, group))
  by_cases false false p q = p ∙ sym q

-- the first character of a text that is not empty, if any form begins there
same_group : (opened : List Bracket) (a b : Kind) (t ys u zs : List ℕ) → IsForm opened a t ys → IsForm opened b u zs → t ++ ys ≡ u ++ zs → (c : ℕ) (r : List ℕ) → t ++ ys ≡ encode_utf8 c ++ r
    → g.kind_group a ≡ g.kind_group b
same_group opened a b t ys u zs f h e c r w = sym (g.form_group opened a t ys f c r w) ∙ g.form_group opened b u zs h c r (sym e ∙ w)

record First (xs : List ℕ) : Type 0 where
  pub character : ℕ
  pub rest : List ℕ
  pub split : xs ≡ encode_utf8 character ++ rest

ascii_begins : (b : ℕ) (s : List ℕ) → b < 128 → First (b ∷ s)
ascii_begins b s h = record { character = b; rest = s; split = sym (ap (λ x. x ++ s) (encode_ascii b h)) }

digit_begins : (xs : List ℕ) → begins_where (is_digit 10) xs ≡ true → First xs
digit_begins [] h = absurd (not_both false h refl)
digit_begins (d ∷ s) h = ascii_begins d s (digit_low 10 d (lit≤ tt) h)

mark_begins : (t ys : List ℕ) → is_mark t ≡ true → First (t ++ ys)
mark_begins [] ys h = absurd (not_both false (mark_shapes [] h) refl)
mark_begins (b ∷ t) ys h =
    let low = and_right (nat_lt 0 (length (b ∷ t))) (list_all (λ x. nat_lt x 128) (b ∷ t)) (mark_shapes (b ∷ t) h) in
    ascii_begins b (t ++ ys) (ltb-true b 128 (and_left (nat_lt b 128) (list_all (λ x. nat_lt x 128) t) low))

form_first : {opened : List Bracket} {kind : Kind} {t ys : List ℕ} → IsForm opened kind t ys → First (t ++ ys)
form_first (IsForm.word c rest ys h run) = record { character = c; rest = rest ++ ys; split = append_assoc (encode_utf8 c) rest ys }
form_first (IsForm.number t ys h) = digit_begins (t ++ ys) (g.number_first t ys h)
form_first (IsForm.string q body ys h run) = ascii_begins q (body ++ q ∷ [] ++ ys) (quote_low q h)
form_first (IsForm.whole body ys run) = ascii_begins 96 (body ++ 96 ∷ [] ++ ys) (lit< tt)
form_first (IsForm.head body ys run) = ascii_begins 96 (body ++ 36 ∷ 123 ∷ [] ++ ys) (lit< tt)
form_first (IsForm.middle body ys h run) = ascii_begins 125 (body ++ 36 ∷ 123 ∷ [] ++ ys) (lit< tt)
form_first (IsForm.tail body ys h run) = ascii_begins 125 (body ++ 96 ∷ [] ++ ys) (lit< tt)
form_first (IsForm.mark t ys h) = mark_begins t ys (and_left (is_mark t) _ h)

-- the kind and the text are one
abbrev Same : Kind → List ℕ → Kind → List ℕ → Type 0
Same a t b u = (a ≡ b) × (t ≡ u)

longest_same : (opened : List Bracket) (a b : Kind) (t ys u zs : List ℕ) → IsLongest opened a t ys → IsLongest opened b u zs → t ++ ys ≡ u ++ zs → Same a t b u
longest_same opened a b t ys u zs f h e =
    let size : length t ≡ length u = omega (arith, f.longest b u zs h.form e, h.longest a t ys f.form (sym e)) in
    let first = form_first f.form in
    let group : g.kind_group a ≡ g.kind_group b = same_group opened a b t ys u zs f.form h.form e first.character first.rest first.split in
    let hole : holed a ≡ holed b = same_hole opened a b t ys u zs f.form h.form e group in
    (sym (kind_is a) ∙ ap (λ n. kind_of n (holed a)) group ∙ ap (λ b'. kind_of (g.kind_group b) b') hole ∙ kind_is b, same_by_length t ys u zs size e)

-- what follows equal fronts of one text
left_same : (t ys u zs : List ℕ) → t ≡ u → t ++ ys ≡ u ++ zs → ys ≡ zs
left_same t ys u zs same e = append_cancel_left u ys zs (sym (ap (λ x. x ++ ys) same) ∙ e)

not_free : (kind : Kind) (c : ℕ) (ys zs : List ℕ) → IsFree kind ys → kind ≡ k.Number → ys ≡ encode_utf8 c ++ zs → is_glue c ≡ true → ⊥
not_free kind c ys zs free number e glue = not_both (is_glue c) glue (free.free number c zs e)

token_same : {opened : List Bracket} {a b : Kind} {t ys u zs : List ℕ} → IsToken opened a t ys → IsToken opened b u zs → t ++ ys ≡ u ++ zs → Same a t b u
token_same {opened = opened} (IsToken.formed a t ys f free) (IsToken.formed b u zs h loose) e = longest_same opened a b t ys u zs f h e
token_same {opened = opened} (IsToken.formed a t ys f free) (IsToken.glued u c zs h glue) e =
    let whole : t ++ ys ≡ u ++ (encode_utf8 c ++ zs) = e ∙ append_assoc u (encode_utf8 c) zs in
    let same = longest_same opened a k.Number t ys u (encode_utf8 c ++ zs) f h whole in
    absurd (not_free a c ys zs free same.0 (left_same t ys u (encode_utf8 c ++ zs) same.1 whole) glue)
token_same (IsToken.formed a t ys f free) (IsToken.unfinished xs h none) e = absurd (none.none a t ys f.form (sym (append-nil xs) ∙ sym e))
token_same (IsToken.formed a t ys f free) (IsToken.stray c zs h none) e = absurd (none.none a t ys f.form (sym e))
token_same {opened = opened} (IsToken.glued t c ys f glue) (IsToken.formed b u zs h free) e =
    let whole : u ++ zs ≡ t ++ (encode_utf8 c ++ ys) = sym e ∙ append_assoc t (encode_utf8 c) ys in
    let same = longest_same opened b k.Number u zs t (encode_utf8 c ++ ys) h f whole in
    absurd (not_free b c zs ys free same.0 (left_same u zs t (encode_utf8 c ++ ys) same.1 whole) glue)
token_same {opened = opened} (IsToken.glued t c ys f glue) (IsToken.glued u d zs h stuck) e =
    let whole : t ++ (encode_utf8 c ++ ys) ≡ u ++ (encode_utf8 d ++ zs) = sym (append_assoc t (encode_utf8 c) ys) ∙ e ∙ append_assoc u (encode_utf8 d) zs in
    let same = longest_same opened k.Number k.Number t (encode_utf8 c ++ ys) u (encode_utf8 d ++ zs) f h whole in
    let last = encode_same c d ys zs (left_same t (encode_utf8 c ++ ys) u (encode_utf8 d ++ zs) same.1 whole) in
    (refl, ap (λ x. x ++ encode_utf8 c) same.1 ∙ ap (λ x. u ++ encode_utf8 x) last.0)
token_same (IsToken.glued t c ys f glue) (IsToken.unfinished xs h none) e =
    absurd (none.none k.Number t (encode_utf8 c ++ ys) f.form (sym (append-nil xs) ∙ sym e ∙ append_assoc t (encode_utf8 c) ys))
token_same (IsToken.glued t c ys f glue) (IsToken.stray d zs h none) e = absurd (none.none k.Number t (encode_utf8 c ++ ys) f.form (sym e ∙ append_assoc t (encode_utf8 c) ys))
token_same (IsToken.unfinished xs h none) (IsToken.formed b u zs f free) e = absurd (none.none b u zs f.form (sym (append-nil xs) ∙ e))
token_same (IsToken.unfinished xs h none) (IsToken.glued u c zs f glue) e =
    absurd (none.none k.Number u (encode_utf8 c ++ zs) f.form (sym (append-nil xs) ∙ e ∙ append_assoc u (encode_utf8 c) zs))
token_same (IsToken.unfinished xs h none) (IsToken.unfinished ys i lacks) e = (refl, sym (append-nil xs) ∙ e ∙ append-nil ys)
token_same {opened = opened} (IsToken.unfinished xs h none) (IsToken.stray c zs i lacks) e =
    absurd (not_both (opens opened xs) h (subst (λ x. opens opened x ≡ false) (sym e ∙ append-nil xs) i))
token_same (IsToken.stray c ys h none) (IsToken.formed b u zs f free) e = absurd (none.none b u zs f.form e)
token_same (IsToken.stray c ys h none) (IsToken.glued u d zs f glue) e = absurd (none.none k.Number u (encode_utf8 d ++ zs) f.form (e ∙ append_assoc u (encode_utf8 d) zs))
token_same {opened = opened} (IsToken.stray c ys h none) (IsToken.unfinished xs i lacks) e =
    absurd (not_both (opens opened xs) i (subst (λ x. opens opened x ≡ false) (e ∙ append-nil xs) h))
token_same (IsToken.stray c ys h none) (IsToken.stray d zs i lacks) e = (refl, ap (λ x. encode_utf8 x) (encode_same c d ys zs e).0)

-- the spacing before a token
spacing_same : (a xs b ys : List ℕ) → Run IsSpacing a xs → Stops IsSpacing xs → Run IsSpacing b ys → Stops IsSpacing ys → a ++ xs ≡ b ++ ys → (a ≡ b) × (xs ≡ ys)
spacing_same a xs b ys r s t u e =
    let left : xs ≡ ys = run_same IsSpacing spacing_exact a xs b ys r s t u e in
    (same_by_length a xs b ys (omega (arith, ap (λ x. length x) e, length-append a xs, length-append b ys, ap (λ x. length x) left)) e, left)

token_eq : (a b : Token) → a.kind ≡ b.kind → a.start ≡ b.start → a.end ≡ b.end → a ≡ b
token_eq a b p q r =
    let make : Kind → ℕ → ℕ → Token = λ kind start end. record { kind = kind; start = start; end = end } in
    ap (λ x. make x a.start a.end) p ∙ ap (λ x. make b.kind x a.end) q ∙ ap (λ x. make b.kind b.start x) r

pub next_is_one : NextIsOne
next_is_one text at opened left other_left token other a b =
    let split = spacing_same a.spacing (a.spelled ++ a.rest) b.spacing (b.spelled ++ b.rest) a.spaced a.begun b.spaced b.begun (sym a.whole ∙ b.whole) in
    let same = token_same a.reads b.reads split.1 in
    let starts : token.start ≡ other.start = omega (arith, a.starts, b.starts, ap (λ x. length x) split.0) in (
      token_eq token other same.0 starts (omega (arith, a.ends, b.ends, starts, ap (λ x. length x) same.1)),
      a.leaves ∙ ap (λ x. after x a.spelled opened) same.0 ∙ ap (λ x. after other.kind x opened) same.1 ∙ sym b.leaves,
    )

pub end_has_none : EndHasNone
end_has_none text at opened left token next done =
    let whole : drop at text ++ [] ≡ next.spacing ++ (next.spelled ++ next.rest) = append-nil (drop at text) ∙ next.whole in
    let nothing : [] ≡ next.spelled ++ next.rest =
    run_same IsSpacing spacing_exact (drop at text) [] next.spacing (next.spelled ++ next.rest) done.spaced (space_at_end [] refl) next.spaced next.begun whole in
    omega (arith, token_positive next.reads, ap (λ x. length x) nothing, length-append next.spelled next.rest)

scans_same : (text : List ℕ) {at : ℕ} {opened : List Bracket} {tokens others : List Token} → Scans text at opened tokens → Scans text at opened others → tokens ≡ others
scans_same text (Scans.done at opened h) (Scans.done _ _ i) = refl
scans_same text (Scans.done at opened h) (Scans.more _ _ left token tokens next rest) = absurd (end_has_none text at opened left token next h)
scans_same text (Scans.more at opened left token tokens next rest) (Scans.done _ _ h) = absurd (end_has_none text at opened left token next h)
scans_same text (Scans.more at opened left token tokens next rest) (Scans.more _ _ other_left other others after_it tail) =
    let one = next_is_one text at opened left other_left token other next after_it in
    let same : Scans text token.end left others = subst (λ x. Scans text token.end x others) (sym one.1) (subst (λ x. Scans text x.end other_left others) (sym one.0) tail) in
    ap (λ x. token ∷ x) (scans_same text rest same) ∙ ap (λ x. x ∷ others) one.0

pub scan_is_one : ScanIsOne
scan_is_one text at opened tokens others a b = scans_same text a b

-- a front of what follows a place ends within the text
room : (text : List ℕ) (at : ℕ) (a b c : List ℕ) → drop at text ≡ a ++ (b ++ c) → 0 < length b → at + length a + length b ≤ length text
room text at a b c e h = omega (arith, ap (λ x. length x) e, length-drop at text, length-append a (b ++ c), length-append b c, h)

scan_places : (text : List ℕ) {at : ℕ} {opened : List Bracket} {tokens : List Token} → Scans text at opened tokens → AreLaidOut at (length text) tokens
scan_places text (Scans.done at opened h) = tt
scan_places text (Scans.more at opened left token tokens next rest) =
    let size = room text at next.spacing next.spelled next.rest next.whole (token_positive next.reads) in
    (omega (arith, next.starts), omega (arith, next.ends, token_positive next.reads), omega (arith, next.starts, next.ends, size), scan_places text rest)

pub scan_is_laid_out : ScanIsLaidOut
scan_is_laid_out text at opened tokens h = scan_places text h

-- Templates, marks, and what has no form.
use Rattle.std.proofs.Common.{inl, inr, ◌≡◌, ℕ, ◌+◌, ◌<◌, ◌≤◌, ◌==◌, Bool, true, false, List, [], ◌∷◌, ◌++◌, length, take, drop, sym, ap, subst, ◌∙◌, refl, arith, length-append, append_assoc, lit<}
use Rattle.std.specs.Prelude.{◌&&◌, ◌||◌, ◌⊎◌, not, nat_lt, encode_utf8, IsUtf8, IsCharBoundary, codes}
use Rattle.std.specs.Char.{len_utf8}
use Rattle.std.specs.List.{list_all}
use Rattle.std.specs.Str.{bytes_eq}
use Rattle.std.proofs.lemmas.Bool.{eqb-true, eq-eqb, ltb-true}
use Rattle.std.proofs.lemmas.List.{take-append-drop, length-drop, length-take}
use Rattle.std.proofs.lemmas.Str.{encode_ascii, length-encode, IsUtf8-drop, IsUtf8-past_char, IsCharBoundary-at_seam}
use Rattle.tb_scan.specs.declared.inside.Inside.TheVariants.{Template}
use Rattle.tb_scan.specs.declared.token.Kind.{Kind}
use Rattle.tb_scan.specs.declared.token.Kind.TheVariants as k
use Rattle.tb_scan.specs.declared.braces.Bracket.{Bracket}
use Rattle.tb_scan.specs.Characters.{is_quote, begins, begins_where, begins_pair}
use Rattle.tb_scan.specs.Pieces.{Run, Stops, RunsFor, IsFront, IsPiece}
use Rattle.tb_scan.specs.Marks.{is_mark, marks}
use Rattle.tb_scan.specs.Tokens.{IsForm, IsLongest, IsToken, HasNoForm, HasNoMark, IsLongestMark, IsOther, AreTemplates, in_hole, is_plain_mark, is_bare_mark, opens}
use Rattle.tb_scan.proofs.Runs.{run_same}
use Rattle.tb_scan.proofs.OnePiece.{encode_positive}
use Rattle.tb_scan.proofs.Exact.{ascii_first, piece_exact, stops_before}
use Rattle.tb_scan.proofs.Spaces.{front_at, utf8_tail, begun_by, pair_is}
use Rattle.tb_scan.proofs.NumberLemmas.{or_either, or_left}
use Rattle.tb_scan.proofs.Reading.{bad_reads, quote_low}
use Rattle.tb_scan.proofs.Forms as g
use Rattle.tb_scan.proofs.TestLemmas.{and_left, and_right, and_both, not_both}

pub tick_stops : (zs : List ℕ) → Stops (IsPiece Template) (96 ∷ zs)
tick_stops zs = stops_before Template 96 zs (lit< tt) refl (λ t e. omega (arith, e))

pub hole_stops : (zs : List ℕ) → Stops (IsPiece Template) (36 ∷ 123 ∷ zs)
hole_stops zs = stops_before Template 36 (123 ∷ zs) (lit< tt) refl (λ t e. omega (arith, e))

-- what stands behind the body of a template, and how long the whole is
abbrev Ends : ℕ → List ℕ → List ℕ → List ℕ → Type 0
Ends n r u zs = ((drop n r ≡ 96 ∷ zs) × (length u ≡ n + 2)) ⊎ ((drop n r ≡ 36 ∷ 123 ∷ zs) × (length u ≡ n + 3))

tick_ends : (b n : ℕ) (r body zs : List ℕ) → b ∷ r ≡ b ∷ ((body ++ 96 ∷ []) ++ zs) → RunsFor (IsPiece Template) r n → Run (IsPiece Template) body (96 ∷ zs)
    → Ends n r (b ∷ body ++ 96 ∷ []) zs
tick_ends b n r body zs e f run =
    let rest : r ≡ (body ++ 96 ∷ []) ++ zs = cc in
    let split : r ≡ body ++ 96 ∷ zs = rest ∙ append_assoc body (96 ∷ []) zs in
    let left : drop n r ≡ 96 ∷ zs = run_same (IsPiece Template) (piece_exact Template) (take n r) (drop n r) body (96 ∷ zs) f.run f.stops run (tick_stops zs) (take-append-drop n r ∙ split) in
    inl (left, omega (arith, length-append body (96 ∷ []), ap (λ x. length x) split, length-append body (96 ∷ zs), ap (λ x. length x) left, length-drop n r, f.within))

hole_ends : (b n : ℕ) (r body zs : List ℕ) → b ∷ r ≡ b ∷ ((body ++ 36 ∷ 123 ∷ []) ++ zs) → RunsFor (IsPiece Template) r n → Run (IsPiece Template) body (36 ∷ 123 ∷ zs)
    → Ends n r (b ∷ body ++ 36 ∷ 123 ∷ []) zs
hole_ends b n r body zs e f run =
    let rest : r ≡ (body ++ 36 ∷ 123 ∷ []) ++ zs = cc in
    let split : r ≡ body ++ 36 ∷ 123 ∷ zs = rest ∙ append_assoc body (36 ∷ 123 ∷ []) zs in
    let left : drop n r ≡ 36 ∷ 123 ∷ zs = run_same (IsPiece Template) (piece_exact Template) (take n r) (drop n r) body (36 ∷ 123 ∷ zs) f.run f.stops run (hole_stops zs) (take-append-drop n r ∙ split) in
    inr (left, omega (arith, length-append body (36 ∷ 123 ∷ []), ap (λ x. length x) split, length-append body (36 ∷ 123 ∷ zs), ap (λ x. length x) left, length-drop n r, f.within))

same_start : (b d : ℕ) (r s : List ℕ) → b ∷ r ≡ d ∷ s → b ∷ r ≡ b ∷ s
same_start b d r s e = ap (λ x. b ∷ drop 1 x) e

template_ends : (opened : List Bracket) (kind : Kind) (u zs : List ℕ) → IsForm opened kind u zs → (b n : ℕ) (r : List ℕ) → 4 ≤ g.kind_group kind → g.kind_group kind ≤ 5
    → b ∷ r ≡ u ++ zs → RunsFor (IsPiece Template) r n → Ends n r u zs
template_ends opened _ _ zs (IsForm.whole body _ run) b n r low high e f = tick_ends b n r body zs (same_start b 96 r _ e) f run
template_ends opened _ _ zs (IsForm.head body _ run) b n r low high e f = hole_ends b n r body zs (same_start b 96 r _ e) f run
template_ends opened _ _ zs (IsForm.middle body _ h run) b n r low high e f = hole_ends b n r body zs (same_start b 125 r _ e) f run
template_ends opened _ _ zs (IsForm.tail body _ h run) b n r low high e f = tick_ends b n r body zs (same_start b 125 r _ e) f run
template_ends opened _ _ zs (IsForm.word d s _ h run) b n r low high e f = absurd (omega (arith, low))
template_ends opened _ _ zs (IsForm.number u _ h) b n r low high e f = absurd (omega (arith, low))
template_ends opened _ _ zs (IsForm.string q body _ h run) b n r low high e f = absurd (omega (arith, low))
template_ends opened _ _ zs (IsForm.mark u _ h) b n r low high e f = absurd (omega (arith, high))

-- a backtick, or a `}` that closes a hole, and what may begin with it
record Begins (opened : List Bracket) (xs : List ℕ) (ended holed : Kind) : Type 0 where
  pub byte : ℕ
  pub low : byte < 128
  pub whole : xs ≡ byte ∷ drop 1 xs
  pub group_low : 4 ≤ g.group opened byte
  pub group_high : g.group opened byte ≤ 5
  pub opening : opens opened xs ≡ true
  pub ends : (body ys : List ℕ) → Run (IsPiece Template) body (96 ∷ ys) → IsForm opened ended (byte ∷ body ++ 96 ∷ []) ys
  pub holes : (body ys : List ℕ) → Run (IsPiece Template) body (36 ∷ 123 ∷ ys) → IsForm opened holed (byte ∷ body ++ 36 ∷ 123 ∷ []) ys
  pub free : ended ≡ k.Number → ⊥
  pub free_hole : holed ≡ k.Number → ⊥

begins_with : (opened : List Bracket) (xs : List ℕ) (ended holed : Kind) → AreTemplates opened xs ended holed → Begins opened xs ended holed
begins_with opened xs _ _ (AreTemplates.first h) =
    let whole = begun_by 96 xs h in
    record {
      byte = 96;
      low = lit< tt;
      whole = whole;
      group_low = omega (arith, g.group_tick opened);
      group_high = omega (arith, g.group_tick opened);
      opening = ap (λ x. opens opened x) whole;
      ends = λ body ys run. IsForm.whole body ys run;
      holes = λ body ys run. IsForm.head body ys run;
      free = λ e. let no : k.Whole ≡ k.Number = e in cc;
      free_hole = λ e. let no : k.Head ≡ k.Number = e in cc;
    }
begins_with opened xs _ _ (AreTemplates.later h i) =
    let whole = begun_by 125 xs h in
    record {
      byte = 125;
      low = lit< tt;
      whole = whole;
      group_low = omega (arith, g.group_closing opened i);
      group_high = omega (arith, g.group_closing opened i);
      opening = ap (λ x. opens opened x) whole ∙ or_left (in_hole opened) _ i;
      ends = λ body ys run. IsForm.tail body ys i run;
      holes = λ body ys run. IsForm.middle body ys i run;
      free = λ e. let no : k.Tail ≡ k.Number = e in cc;
      free_hole = λ e. let no : k.Middle ≡ k.Number = e in cc;
    }

form_ends : (opened : List Bracket) (xs : List ℕ) (ended holed : Kind) (n : ℕ) → Begins opened xs ended holed → RunsFor (IsPiece Template) (drop 1 xs) n
    → (kind : Kind) (u zs : List ℕ) → IsForm opened kind u zs → xs ≡ u ++ zs → Ends n (drop 1 xs) u zs
form_ends opened xs ended holed n b f kind u zs form w =
    let all : b.byte ∷ drop 1 xs ≡ u ++ zs = sym b.whole ∙ w in
    let same = g.form_byte opened kind u zs form b.byte (drop 1 xs) all b.low in
    template_ends opened kind u zs form b.byte n (drop 1 xs) (omega (arith, same, b.group_low)) (omega (arith, same, b.group_high)) all f

rest_clear : (opened : List Bracket) (xs : List ℕ) (ended holed : Kind) → Begins opened xs ended holed → IsUtf8 xs → IsUtf8 (drop 1 xs)
rest_clear opened xs ended holed b u = utf8_tail b.byte (drop 1 xs) b.low (subst IsUtf8 b.whole u)

pub ended_reads : (opened : List Bracket) (xs : List ℕ) (ended holed : Kind) (n : ℕ) → IsUtf8 xs → AreTemplates opened xs ended holed → RunsFor (IsPiece Template) (drop 1 xs) n
    → begins 96 (drop n (drop 1 xs)) ≡ true → IsFront (IsToken opened ended) xs (n + 1 + 1)
ended_reads opened xs ended holed n u kinds f h =
    let b = begins_with opened xs ended holed kinds in
    let r = drop 1 xs in
    let ys = drop 1 (drop n r) in
    let end : drop n r ≡ 96 ∷ ys = begun_by 96 (drop n r) h in
    let t = b.byte ∷ take n r ++ 96 ∷ [] in
    let whole : xs ≡ t ++ ys = b.whole ∙ ap (λ x. b.byte ∷ x) (sym (take-append-drop n r) ∙ ap (λ x. take n r ++ x) end ∙ sym (append_assoc (take n r) (96 ∷ []) ys)) in
    let size : n + 1 + 1 ≡ length t = omega (arith, length-append (take n r) (96 ∷ []), length-take n r, f.within) in
    let longest : IsLongest opened ended t ys = record {
      form = b.ends (take n r) ys (subst (λ x. Run (IsPiece Template) (take n r) x) end f.run);
      longest = λ other v zs form w. elim (form_ends opened xs ended holed n b f other v zs form (whole ∙ w)) [
        | inl ticked ↦ omega (arith, size, ticked.1)
        | inr held ↦ absurd (let no : ◌≡◌ {A = ℕ} 96 36 = cc (sym end ∙ held.0) in omega (arith, no))
      ];
    } in
    front_at (IsToken opened ended) xs t ys (n + 1 + 1) whole (utf8_tail 96 ys (lit< tt) (subst IsUtf8 end (IsUtf8-drop r n (rest_clear opened xs ended holed b u) f.boundary)))
    (IsToken.formed ended t ys longest (record { free = λ q d zs w. absurd (b.free q) })) (omega arith) size

pub holed_reads : (opened : List Bracket) (xs : List ℕ) (ended holed : Kind) (n : ℕ) → IsUtf8 xs → AreTemplates opened xs ended holed → RunsFor (IsPiece Template) (drop 1 xs) n
    → begins_pair 36 123 (drop n (drop 1 xs)) ≡ true → IsFront (IsToken opened holed) xs (n + 1 + 2)
holed_reads opened xs ended holed n u kinds f h =
    let b = begins_with opened xs ended holed kinds in
    let r = drop 1 xs in
    let ys = drop 2 (drop n r) in
    let end : drop n r ≡ 36 ∷ 123 ∷ ys = pair_is 36 123 (drop n r) h in
    let t = b.byte ∷ take n r ++ 36 ∷ 123 ∷ [] in
    let whole : xs ≡ t ++ ys = b.whole ∙ ap (λ x. b.byte ∷ x) (sym (take-append-drop n r) ∙ ap (λ x. take n r ++ x) end ∙ sym (append_assoc (take n r) (36 ∷ 123 ∷ []) ys)) in
    let size : n + 1 + 2 ≡ length t = omega (arith, length-append (take n r) (36 ∷ 123 ∷ []), length-take n r, f.within) in
    let longest : IsLongest opened holed t ys = record {
      form = b.holes (take n r) ys (subst (λ x. Run (IsPiece Template) (take n r) x) end f.run);
      longest = λ other v zs form w. elim (form_ends opened xs ended holed n b f other v zs form (whole ∙ w)) [
        | inl ticked ↦ omega (arith, size, ticked.1)
        | inr held ↦ omega (arith, size, held.1)
      ];
    } in
    front_at (IsToken opened holed) xs t ys (n + 1 + 2) whole
    (utf8_tail 123 ys (lit< tt) (utf8_tail 36 (123 ∷ ys) (lit< tt) (subst IsUtf8 end (IsUtf8-drop r n (rest_clear opened xs ended holed b u) f.boundary))))
    (IsToken.formed holed t ys longest (record { free = λ q d zs w. absurd (b.free_hole q) })) (omega arith) size

pub template_bad : (opened : List Bracket) (xs : List ℕ) (ended holed : Kind) (n : ℕ) → AreTemplates opened xs ended holed → RunsFor (IsPiece Template) (drop 1 xs) n
    → begins 96 (drop n (drop 1 xs)) ≡ false → begins_pair 36 123 (drop n (drop 1 xs)) ≡ false → IsFront (IsToken opened k.Bad) xs (length xs)
template_bad opened xs ended holed n kinds f h i =
    let b = begins_with opened xs ended holed kinds in
    let left = drop n (drop 1 xs) in
    bad_reads opened xs (omega (arith, ap (λ x. length x) b.whole)) b.opening
    (record {
      none = λ kind u zs form w. elim (form_ends opened xs ended holed n b f kind u zs form w) [
        | inl ticked ↦ not_both (begins 96 left) (subst (λ x. begins 96 x ≡ true) (sym ticked.0) refl) h
        | inr held ↦ not_both (begins_pair 36 123 left) (subst (λ x. begins_pair 36 123 x ≡ true) (sym held.0) refl) i
      ];
    })

-- marks

mark_is : (opened : List Bracket) (kind : Kind) (u zs : List ℕ) → IsForm opened kind u zs → g.kind_group kind ≡ 6 → is_plain_mark opened u zs ≡ true
mark_is opened _ _ zs (IsForm.mark u _ h) six = h
mark_is opened _ _ zs (IsForm.word d s _ h run) six = absurd (omega (arith, six))
mark_is opened _ _ zs (IsForm.number u _ h) six = absurd (omega (arith, six))
mark_is opened _ _ zs (IsForm.string q body _ h run) six = absurd (omega (arith, six))
mark_is opened _ _ zs (IsForm.whole body _ run) six = absurd (omega (arith, six))
mark_is opened _ _ zs (IsForm.head body _ run) six = absurd (omega (arith, six))
mark_is opened _ _ zs (IsForm.middle body _ h run) six = absurd (omega (arith, six))
mark_is opened _ _ zs (IsForm.tail body _ h run) six = absurd (omega (arith, six))

bare_from_plain : (opened : List Bracket) (t ys : List ℕ) → is_plain_mark opened t ys ≡ true → is_bare_mark t ys ≡ true
bare_from_plain opened t ys h =
    let closing = not (bytes_eq t (codes "}") && in_hole opened) in
    let comment = not (bytes_eq t (codes "/") && begins 42 ys) in
    and_both (is_mark t) comment (and_left (is_mark t) (closing && comment) h) (and_right closing comment (and_right (is_mark t) (closing && comment) h))

-- each form that begins with such a character is a mark
other_mark : (opened : List Bracket) (xs : List ℕ) (c : ℕ) (rest : List ℕ) → xs ≡ encode_utf8 c ++ rest → IsOther opened c → (kind : Kind) (u zs : List ℕ) → IsForm opened kind u zs → xs ≡ u ++ zs
    → is_bare_mark u zs ≡ true
other_mark opened xs c rest e o kind u zs form w =
    bare_from_plain opened u zs (mark_is opened kind u zs form (sym (g.form_group opened kind u zs form c rest (sym w ∙ e)) ∙ g.group_other opened c o))

utf8_ascii : (t ys : List ℕ) → list_all (λ b. nat_lt b 128) t ≡ true → IsUtf8 (t ++ ys) → IsUtf8 ys
utf8_ascii [] ys h u = u
utf8_ascii (b ∷ t) ys h u =
    utf8_ascii t ys (and_right (nat_lt b 128) (list_all (λ x. nat_lt x 128) t) h) (utf8_tail b (t ++ ys) (ltb-true b 128 (and_left (nat_lt b 128) (list_all (λ x. nat_lt x 128) t) h)) u)

abbrev pub mark_shape : List ℕ → Bool
mark_shape t = nat_lt 0 (length t) && list_all (λ b. nat_lt b 128) t

pub mark_shapes : (t : List ℕ) → is_mark t ≡ true → mark_shape t ≡ true
mark_shapes t h = g.of_marks mark_shape marks t refl h

-- a mark `}` where it closes nothing
not_closing : (opened : List Bracket) (t ys : List ℕ) (c : ℕ) (rest : List ℕ) → t ++ ys ≡ encode_utf8 c ++ rest → ((c == 125) && in_hole opened) ≡ false
    → (b : Bool) → bytes_eq t (codes "}") ≡ b → not (b && in_hole opened) ≡ true
not_closing opened t ys c rest e o false h = refl
not_closing opened t ys c rest e o true h =
    let is : c ≡ 125 = (ascii_first c 125 rest ys (sym e ∙ ap (λ x. x ++ ys) (g.bytes_same t (codes "}") h)) (lit< tt)).0 in
    ap not (subst (λ x. ((x == 125) && in_hole opened) ≡ false) is o)

pub mark_reads : (opened : List Bracket) (xs : List ℕ) (c n : ℕ) → IsUtf8 xs → xs ≡ encode_utf8 c ++ drop (len_utf8 c) xs → IsOther opened c → IsLongestMark xs n
    → IsFront (IsToken opened k.Mark) xs n
mark_reads opened xs c n u e o f =
    let t = take n xs in
    let ys = drop n xs in
    let whole : xs ≡ t ++ ys = sym (take-append-drop n xs) in
    let comment = not (bytes_eq t (codes "/") && begins 42 ys) in
    let is = and_left (is_mark t) comment f.mark in
    let shape = mark_shapes t is in
    let closing : not (bytes_eq t (codes "}") && in_hole opened) ≡ true = not_closing opened t ys c (drop (len_utf8 c) xs) (sym whole ∙ e) o.no_closing (bytes_eq t (codes "}")) refl in
    let plain : is_plain_mark opened t ys ≡ true =
    and_both (is_mark t) (not (bytes_eq t (codes "}") && in_hole opened) && comment) is (and_both (not (bytes_eq t (codes "}") && in_hole opened)) comment closing (and_right (is_mark t) comment f.mark)) in
    let size : n ≡ length t = omega (arith, length-take n xs, f.within) in
    let longest : IsLongest opened k.Mark t ys = record {
      form = IsForm.mark t ys plain;
      longest = λ other v zs form w.
          omega (arith, size, f.longest v zs (whole ∙ w) (other_mark opened xs c (drop (len_utf8 c) xs) e o other v zs form (whole ∙ w)));
    } in
    front_at (IsToken opened k.Mark) xs t ys n whole (utf8_ascii t ys (and_right (nat_lt 0 (length t)) (list_all (λ b. nat_lt b 128) t) shape) (subst IsUtf8 whole u))
    (IsToken.formed k.Mark t ys longest (record { free = λ q d zs w. absurd (let no : k.Mark ≡ k.Number = q in cc) }))
    (ltb-true 0 (length t) (and_left (nat_lt 0 (length t)) (list_all (λ b. nat_lt b 128) t) shape)) size

no_form : (opened : List Bracket) (xs : List ℕ) (c : ℕ) (rest : List ℕ) → xs ≡ encode_utf8 c ++ rest → IsOther opened c → HasNoMark xs → HasNoForm opened xs
no_form opened xs c rest e o h = record { none = λ kind u zs form w. h.none u zs w (other_mark opened xs c rest e o kind u zs form w) }

-- an unfinished comment
pub comment_bad : (opened : List Bracket) (xs : List ℕ) (c : ℕ) → xs ≡ encode_utf8 c ++ drop (len_utf8 c) xs → IsOther opened c → HasNoMark xs → begins_pair 47 42 xs ≡ true
    → IsFront (IsToken opened k.Bad) xs (length xs)
comment_bad opened xs c e o h b =
    let whole = pair_is 47 42 xs b in
    bad_reads opened xs (omega (arith, ap (λ x. length x) whole)) (ap (λ x. opens opened x) whole) (no_form opened xs c (drop (len_utf8 c) xs) e o h)

pub false_from : (b : Bool) → (b ≡ true → ⊥) → b ≡ false
false_from true h = absurd (h refl)
false_from false h = refl

or_false : (a b : Bool) → a ≡ false → b ≡ false → (a || b) ≡ false
or_false true b h k = absurd (not_both true refl h)
or_false false b h k = k

opens_none : (opened : List Bracket) (xs : List ℕ) (c : ℕ) (rest : List ℕ) → xs ≡ encode_utf8 c ++ rest → IsOther opened c → begins_pair 47 42 xs ≡ false → opens opened xs ≡ false
opens_none opened [] c rest e o h = refl
opens_none opened (b ∷ bs) c rest e o h =
    let same : b < 128 → c ≡ b = λ low. (ascii_first c b rest bs (sym e) low).0 in
    or_false (is_quote b) _ (false_from (is_quote b) (λ q. not_both (is_quote b) q (subst (λ x. is_quote x ≡ false) (same (quote_low b q)) o.no_quote)))
    (or_false (b == 96) _ (false_from (b == 96) (λ q. let is = eqb-true b 96 q in not_both (b == 96) q (subst (λ x. (x == 96) ≡ false) (same (omega (arith, is))) o.no_template)))
    (or_false ((b == 125) && in_hole opened) _
    (false_from ((b == 125) && in_hole opened) (λ q.
    let is = eqb-true b 125 (and_left (b == 125) (in_hole opened) q) in
    not_both ((b == 125) && in_hole opened) q (subst (λ x. ((x == 125) && in_hole opened) ≡ false) (same (omega (arith, is))) o.no_closing))) h))

pub stray_reads : (opened : List Bracket) (xs : List ℕ) (c : ℕ) → IsUtf8 xs → xs ≡ encode_utf8 c ++ drop (len_utf8 c) xs → IsOther opened c → HasNoMark xs → begins_pair 47 42 xs ≡ false
    → IsFront (IsToken opened k.Bad) xs (len_utf8 c)
stray_reads opened xs c u e o h b =
    let rest = drop (len_utf8 c) xs in
    let closed : opens opened (encode_utf8 c ++ rest) ≡ false = subst (λ x. opens opened x ≡ false) e (opens_none opened xs c rest e o b) in
    let none : HasNoForm opened (encode_utf8 c ++ rest) = subst (λ x. HasNoForm opened x) e (no_form opened xs c rest e o h) in
    front_at (IsToken opened k.Bad) xs (encode_utf8 c) rest (len_utf8 c) e (IsUtf8-past_char xs rest c u e) (IsToken.stray c rest closed none) (encode_positive c) (sym (length-encode c))

-- a text that begins with such a character begins with its byte
pub begins_char : (b : ℕ) (xs : List ℕ) (c : ℕ) (rest : List ℕ) → xs ≡ encode_utf8 c ++ rest → c ≡ b → b < 128 → begins b xs ≡ true
begins_char b xs c rest e is low =
    let whole : xs ≡ b ∷ rest = e ∙ ap (λ x. encode_utf8 x ++ rest) is ∙ ap (λ x. x ++ rest) (encode_ascii b low) in
    subst (λ x. begins b x ≡ true) (sym whole) (eq-eqb b b refl)

-- the `}` of a hole
pub closing_templates : {T : Type 0} (opened : List Bracket) (xs : List ℕ) (c : ℕ) (rest : List ℕ) → xs ≡ encode_utf8 c ++ rest → ((c == 125) && in_hole opened) ≡ true
    → (AreTemplates opened xs k.Tail k.Middle → T) → T
closing_templates opened xs c rest e h use_it =
    use_it (AreTemplates.later (begins_char 125 xs c rest e (eqb-true c 125 (and_left (c == 125) (in_hole opened) h)) (lit< tt)) (and_right (c == 125) (in_hole opened) h))

-- a place behind a backtick or a `}`
pub template_cut : (xs : List ℕ) → IsUtf8 xs → begins_where (λ c. (c == 96) || (c == 125)) xs ≡ true → IsCharBoundary xs 1
template_cut [] u h = absurd (let no : false ≡ true = h in not_both false no refl)
template_cut (b ∷ xs) u h =
    let low : b < 128 = elim (or_either (b == 96) (b == 125) h) [ inl tick ↦ omega (arith, eqb-true b 96 tick) | inr closing ↦ omega (arith, eqb-true b 125 closing) ] in
    IsCharBoundary-at_seam (b ∷ xs) (b ∷ []) xs refl (utf8_tail b xs low u)

-- Files in the order of their bytes: those that are one path, and those inside a folder, stand together.
use Rattle.std.proofs.Common.{◌≡◌, ℕ, zero, suc, ◌+◌, ◌-◌, ◌<◌, ◌≤◌, Bool, true, false, List, [], ◌∷◌, ◌++◌, length, take, drop, get_or, min, refl, sym, ap, subst, ◌∙◌, inl, inr, arith, length-drop, length-take, get_or-take, get_or-drop, append_assoc}
use Rattle.std.specs.Prelude.{Contains, not}
use Rattle.std.specs.List.{AllByRecursion, filter, flat_map, list_any}
use Rattle.std.specs.List.Sorted.{IsPartitionPoint, IsPartitionedBy, IsStrictlySortedBy}
use Rattle.std.specs.Ordering.{is_lt, nat_cmp, ordering_then}
use Rattle.std.specs.declared.cmp.Ordering.{Ordering}
use Rattle.std.specs.declared.cmp.Ordering.TheVariants.{Less}
use Rattle.std.specs.Cmp.{tied_itself, nat_cmp_total}
use Rattle.std.specs.Cmp.Lexicographic.{nat_list_cmp_total}
use Rattle.std.specs.Str.{bytes_eq}
use Rattle.std.proofs.lemmas.Bool.{false≢true, cases_lt}
use Rattle.std.proofs.lemmas.List.{append-nil}
use Rattle.std.proofs.lemmas.Slice.Eq.{bytes_eq-Decides}
use Rattle.tb_text.specs.Bytes.{bytes_cmp}
use Rattle.tb_text.specs.Paths.{is_inside}
use Rattle.tb_text.proofs.Segments.{and_both}
use Rattle.tb_text.proofs.Inside.{inside_nonempty}
use Rattle.tb_globs.specs.Fronts.{is_within}
use Rattle.tb_globs.specs.Globs.{is_match}
use Rattle.tb_globs.specs.declared.parts.UseOf.TheVariants.{Include, Exclude}
use Rattle.tb_config.specs.declared.setting.Setting.{Setting}
use Rattle.tb_plan.specs.Inputs.{is_included}
use Rattle.tb_plan.specs.Members.{HasSame}
use Rattle.tb_plan.specs.Orders.{Paths}
use Rattle.tb_plan.specs.Within.{HasAll, is_before, is_between, is_taken}
use Rattle.tb_plan.proofs.Among.{any_from, any_in}
use Rattle.tb_plan.proofs.Covered.{same_trans}
use Rattle.tb_plan.proofs.Found.{less_so, and_true, or_cases}
use Rattle.tb_plan.proofs.Members.{in_from, in_back, in_left, in_right, in_append, in_filter, from_filter, in_flat, from_flat, same_by, same_append, same_itself, taken}

-- ---- in ascending files, those before a text come first

all_at : {X : Type 0} (P : X → Type 0) (xs : List X) (j : ℕ) (d : X) → AllByRecursion P xs → j < length xs → P (get_or xs j d)
all_at P [] j d all lt = absurd (omega arith)
all_at P (x ∷ xs) zero d all lt = all.0
all_at P (x ∷ xs) (suc j) d all lt = all_at P xs j d all.1 (omega arith)

before_too : (text x y : List ℕ) → bytes_cmp x y ≡ Less → is_before text y ≡ true → is_before text x ≡ true
before_too text x y e h = ap is_lt (nat_list_cmp_total.trans x y text e (less_so (bytes_cmp y text) h))

pub before_first : (text : List ℕ) (xs : Paths) → IsStrictlySortedBy bytes_cmp xs → IsPartitionedBy (is_before text) xs
unfolding IsStrictlySortedBy
before_first text [] s i j d le lt h = absurd (omega arith)
before_first text (x ∷ xs) s zero zero d le lt h = h
before_first text (x ∷ xs) s zero (suc j) d le lt h = before_too text x (get_or xs j d) (all_at (λ y. bytes_cmp x y ≡ Less) xs j d s.0 (omega arith)) h
before_first text (x ∷ xs) s (suc i) zero d le lt h = absurd (omega arith)
before_first text (x ∷ xs) s (suc i) (suc j) d le lt h = before_first text xs s.1 i j d (omega arith) (omega arith) h

-- ---- what stands between two places

not_true : (b : Bool) → not b ≡ true → b ≡ false
not_true true e = absurd (cc)
not_true false e = refl

module _ (xs : Paths) (from to : List ℕ) (a s e : ℕ) (first : IsPartitionPoint (λ y. is_before from y ≡ true) (λ y. is_before from y ≡ false) xs a)
    (last : IsPartitionPoint (λ y. is_before to y ≡ true) (λ y. is_before to y ≡ false) xs e) (within : e ≤ length xs) (is : s ≡ min a e) where
  abbrev piece : Paths
  piece = take (e - s) (drop s xs)

  at_piece : (k : ℕ) (x : List ℕ) → k < e - s → get_or piece k x ≡ get_or xs (s + k) x
  at_piece k x lt = get_or-take (e - s) (drop s xs) k x lt ∙ get_or-drop s xs k x

  size : length piece ≡ e - s
  size = omega (arith, length-take (e - s) (drop s xs), length-drop s xs)

  from_piece : (x : List ℕ) → Contains piece x → Contains xs x
  from_piece x c = (s + c.0, omega (arith, c.1, size), sym (at_piece c.0 x (omega (arith, c.1, size))) ∙ c.2)

  in_piece : (x : List ℕ) → Contains xs x → is_between from to x ≡ true → Contains piece x
  in_piece x c h =
      let both = and_both (not (is_before from x)) (is_before to x) h in
      elim (cases_lt c.0 a) [
        | inl early ↦ absurd (false≢true (sym (not_true (is_before from x) both.0) ∙ ap (is_before from) (sym c.2) ∙ first.0 c.0 x (omega arith) early))
        | inr late ↦ elim (cases_lt c.0 e) [
          | inl here ↦
              let k : s + (c.0 - s) ≡ c.0 = omega (arith, is, late, here) in
              let lt : c.0 - s < e - s = omega (arith, is, late, here) in
              (c.0 - s, omega (arith, lt, size), at_piece (c.0 - s) x lt ∙ ap (λ (n : ℕ). get_or xs n x) k ∙ c.2)
          | inr beyond ↦ absurd (false≢true (sym (last.1 c.0 x beyond c.1) ∙ ap (is_before to) c.2 ∙ both.1))
        ]
      ]

  pub all_between : HasAll (is_between from to) piece xs
  all_between = record { from = from_piece; each = in_piece }

-- ---- one path, and what lies inside a folder

itself_tied : (b : ℕ) (o : Ordering) → ordering_then (nat_cmp b b) o ≡ o
itself_tied b o = ap (λ r. ordering_then r o) (tied_itself nat_cmp_total b)

front_tied : (front xs ys : List ℕ) → bytes_cmp (front ++ xs) (front ++ ys) ≡ bytes_cmp xs ys
front_tied [] xs ys = refl
front_tied (b ∷ front) xs ys = itself_tied b (bytes_cmp (front ++ xs) (front ++ ys)) ∙ front_tied front xs ys

none_before : (xs : List ℕ) → is_lt (bytes_cmp xs []) ≡ false
none_before [] = refl
none_before (x ∷ xs) = refl

between_ends : (front mark next rest : List ℕ) → is_lt (bytes_cmp (mark ++ rest) mark) ≡ false → is_lt (bytes_cmp (mark ++ rest) next) ≡ true → is_between (front ++ mark) (front ++ next) (front ++ (mark ++ rest)) ≡ true
between_ends front mark next rest e h =
    and_true (not (is_before (front ++ mark) (front ++ (mark ++ rest)))) (is_before (front ++ next) (front ++ (mark ++ rest)))
    (ap (λ r. not (is_lt r)) (front_tied front (mark ++ rest) mark) ∙ ap not e)
    (ap is_lt (front_tied front (mark ++ rest) next) ∙ h)

pub itself_between : (path x : List ℕ) → bytes_eq path x ≡ true → is_between path (path ++ 0 ∷ []) x ≡ true
itself_between path x e =
    let same : path ≡ x = (bytes_eq-Decides path x).0 e in
    subst (λ y. is_between y (path ++ 0 ∷ []) x ≡ true) (append-nil path)
    (subst (λ y. is_between (path ++ []) (path ++ 0 ∷ []) y ≡ true) (append-nil path ∙ same) (between_ends path [] (0 ∷ []) [] refl refl))

pub inside_between : (folder x : List ℕ) → 0 < length folder → is_inside folder x ≡ true → is_between (folder ++ 47 ∷ []) (folder ++ 48 ∷ []) x ≡ true
inside_between folder x some e =
    let on = (inside_nonempty folder x some).0 e in
    subst (λ y. is_between (folder ++ 47 ∷ []) (folder ++ 48 ∷ []) y ≡ true) (sym on.1) (between_ends folder (47 ∷ []) (48 ∷ []) on.0 (itself_lt on.0) refl)
  where
    itself_lt : (rest : List ℕ) → is_lt (bytes_cmp (47 ∷ rest) (47 ∷ [])) ≡ false
    itself_lt rest = none_before rest

pub weaker : (p q : List ℕ → Bool) (some files : Paths) → ((x : List ℕ) → p x ≡ true → q x ≡ true) → HasAll q some files → HasAll p some files
weaker p q some files w h = record { from = h.from; each = λ x c e. h.each x c (w x e) }

pub all_of : (p : List ℕ → Bool) (files : Paths) → HasAll p files files
all_of p files = record { from = λ x c. c; each = λ x c e. c }

-- ---- what a pattern takes is one path or lies inside a folder

pub taken_within : (q : List ℕ → Bool) (folder : List ℕ) (itself inside files : Paths) → HasAll (bytes_eq folder) itself files → HasAll (is_inside folder) inside files → ((x : List ℕ) → q x ≡ true → is_within folder x ≡ true)
    → HasSame (filter q itself ++ filter q inside) (filter q files)
taken_within q folder itself inside files a b w = same_by (filter q itself ++ filter q inside) (filter q files)
    (λ x h. elim (in_append (filter q itself) (filter q inside) x h) [
      | inl l ↦ let r = from_filter q itself x l in in_filter q files x (in_from files x (a.from x (in_back itself x r.0))) r.1
      | inr l ↦ let r = from_filter q inside x l in in_filter q files x (in_from files x (b.from x (in_back inside x r.0))) r.1
    ])
    (λ x h.
    let r = from_filter q files x h in
    let there = in_back files x r.0 in
    elim (or_cases (bytes_eq folder x) (is_inside folder x) (w x r.1)) [
      | inl e ↦ in_left (filter q itself) (filter q inside) x (in_filter q itself x (in_from itself x (a.each x there e)) r.1)
      | inr e ↦ in_right (filter q itself) (filter q inside) x (in_filter q inside x (in_from inside x (b.each x there e)) r.1)
    ])

pub taken_matches : (s : Setting) (pattern : List ℕ × List ℕ) (x : List ℕ) → is_taken s pattern x ≡ true → is_match pattern Include x ≡ true
taken_matches s pattern x e = (and_both (is_match pattern Include x) (not (list_any (λ p. is_match p Exclude x) s.exclude)) e).0

-- ---- all patterns together

pub taken_by_all : (s : Setting) (files : Paths) → HasSame (flat_map (λ p. filter (is_taken s p) files) s.include) (filter (is_included s) files)
taken_by_all s files = same_by (flat_map (λ p. filter (is_taken s p) files) s.include) (filter (is_included s) files)
    (λ x h.
    let r = from_flat (λ p. filter (is_taken s p) files) s.include x h in
    let t = from_filter (is_taken s r.0) files x r.2 in
    let both = and_both (is_match r.0 Include x) (not (list_any (λ p. is_match p Exclude x) s.exclude)) t.1 in
    in_filter (is_included s) files x t.0 (and_true (list_any (λ p. is_match p Include x) s.include) (not (list_any (λ p. is_match p Exclude x) s.exclude)) (any_in (λ p. is_match p Include x) s.include r.0 r.1 both.0) both.1))
    (λ x h.
    let r = from_filter (is_included s) files x h in
    let both = and_both (list_any (λ p. is_match p Include x) s.include) (not (list_any (λ p. is_match p Exclude x) s.exclude)) r.1 in
    let p = any_from (λ p. is_match p Include x) s.include both.0 in
    in_flat (λ p. filter (is_taken s p) files) s.include p.0 x p.1 (in_filter (is_taken s p.0) files x r.0 (and_true (is_match p.0 Include x) (not (list_any (λ q. is_match q Exclude x) s.exclude)) p.2 both.1)))

-- ---- one pattern further

flat_more : {X : Type 0} (f : X → Paths) (xs : List X) (x : X) → flat_map f (xs ++ x ∷ []) ≡ flat_map f xs ++ f x
flat_more f [] x = append-nil (f x)
flat_more f (y ∷ xs) x = ap (λ (l : Paths). f y ++ l) (flat_more f xs x) ∙ sym (append_assoc (f y) (flat_map f xs) (f x))

pub piece_step : {X : Type 0} (f : X → Paths) (xs : List X) (i : ℕ) (x : X) (start so_far new : Paths) → i < length xs → x ≡ get_or xs i x → HasSame so_far (start ++ flat_map f (take i xs)) → HasSame new (so_far ++ f x)
    → HasSame new (start ++ flat_map f (take (i + 1) xs))
piece_step f xs i x start so_far new lt at a b =
    let c = same_trans new (so_far ++ f x) ((start ++ flat_map f (take i xs)) ++ f x) b (same_append so_far (start ++ flat_map f (take i xs)) (f x) (f x) a (same_itself (f x))) in
    subst (λ (l : Paths). HasSame new l) (append_assoc start (flat_map f (take i xs)) (f x) ∙ ap (λ (l : Paths). start ++ l) (sym (ap (λ (l : List _). flat_map f l) (taken xs i x lt at) ∙ flat_more f (take i xs) x))) c

pub two_pieces : (start one two a b whole : Paths) → one ≡ start ++ a → two ≡ one ++ b → HasSame (a ++ b) whole → HasSame two (start ++ whole)
two_pieces start one two a b whole e f h =
    subst (λ (l : Paths). HasSame l (start ++ whole)) (sym (f ∙ ap (λ (l : Paths). l ++ b) e ∙ append_assoc start a b)) (same_append start start (a ++ b) whole (same_itself start) h)

pub last_piece : (start new a b : Paths) → HasSame new (start ++ a) → HasSame a b → HasSame new (start ++ b)
last_piece start new a b g h = same_trans new (start ++ a) (start ++ b) g (same_append start start a b (same_itself start) h)

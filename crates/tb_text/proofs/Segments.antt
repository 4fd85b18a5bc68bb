-- Segments of paths: how texts are cut into them and put together again.
use Rattle.std.proofs.Common.{◌≡◌, ℕ, ◌<◌, ◌≤◌, ◌==◌, Bool, true, false, cond, List, [], ◌∷◌, ◌++◌, length, refl, sym, ap, ◌∙◌, take, drop, get_or, take-append-drop, append_assoc, length-append, length-drop, add-zero, lit<, arith}
use Rattle.std.specs.Prelude.{Some, None, ◌&&◌, ◌↔◌, Decides, nat_le, nat_lt, nat_eq, slice_index}
use Rattle.std.specs.List.{list_all, onto_first, slice_split, starts_with}
use Rattle.std.specs.Str.{NoCharPasses, bytes_eq}
use Rattle.std.proofs.Math.Seq.{get_or-append_seam, take-append_seam}
use Rattle.std.proofs.lemmas.Bool.{eq-eqb, eqb-true, le-leb, leb-true, lt-ltb, ltb-true, ne_eqb}
use Rattle.std.proofs.lemmas.Bool.Decides.{same_from_decides}
use Rattle.std.proofs.lemmas.List.{get_or-drop}
use Rattle.std.proofs.lemmas.Str.Pattern.{NoCharPasses-char, drop_at_char}
use Rattle.std.specs.Cmp.Derive.{both_true}
use Rattle.std.specs.Str.Pattern.{RFindsChar}
use Rattle.std.proofs.lemmas.List.Elements.{All-nil, All-cons, All-from_get_or}
use Rattle.std.proofs.lemmas.List.Folds.{list_all-append}
use Rattle.std.proofs.lemmas.List.Splits.{join_with_byte-slice_split, length-slice_split, slice_split_at, slice_split_none}
use Rattle.std.proofs.lemmas.Slice.Eq.{bytes_eq-Decides}
use Rattle.tb_text.specs.Walks.{Bare, AllBare}
use Rattle.tb_text.specs.Paths.{is_path, is_segment, is_inside, is_proper_front, parent_of, path_text, segments, without_last}

abbrev pub split : List ℕ → List (List ℕ)
split = slice_split (λ b. b == 47)

pub some_part : (xs : List ℕ) → 0 < length (split xs)
some_part xs = omega (arith, length-slice_split (λ b. b == 47) xs)

pub and_both : (a b : Bool) → (a && b) ≡ true → (a ≡ true) × (b ≡ true)
and_both true true e = (refl, refl)
and_both true false e = absurd (cc)
and_both false b e = absurd (cc)

-- ---- cutting at a "/"

onto_append : (b : ℕ) (parts more : List (List ℕ)) → 0 < length parts → onto_first b (parts ++ more) ≡ onto_first b parts ++ more
onto_append b [] more l = absurd (omega arith)
onto_append b (part ∷ parts) more l = refl

split_step : (b : ℕ) (parts more : List (List ℕ)) (t : Bool) → 0 < length parts → cond t ([] ∷ (parts ++ more)) (onto_first b (parts ++ more)) ≡ cond t ([] ∷ parts) (onto_first b parts) ++ more
split_step b parts more true l = refl
split_step b parts more false l = onto_append b parts more l

pub split_append : (front rest : List ℕ) → split (front ++ 47 ∷ rest) ≡ split front ++ split rest
split_append [] rest = refl
split_append (b ∷ front) rest = ap (λ (parts : List (List ℕ)). cond (b == 47) ([] ∷ parts) (onto_first b parts)) (split_append front rest) ∙ split_step b (split front) (split rest) (b == 47) (some_part front)

pub text_back : (t : List ℕ) → path_text (segments t) ≡ t
text_back [] = refl
text_back (b ∷ t) = join_with_byte-slice_split 47 (b ∷ t)

pub text_append : (x : List ℕ) (xs : List (List ℕ)) (y : List ℕ) (ys : List (List ℕ)) → path_text (x ∷ xs ++ y ∷ ys) ≡ path_text (x ∷ xs) ++ 47 ∷ path_text (y ∷ ys)
text_append x [] y ys = refl
text_append x (next ∷ xs) y ys = ap (λ (t : List ℕ). x ++ 47 ∷ t) (text_append next xs y ys) ∙ sym (append_assoc x (47 ∷ path_text (next ∷ xs)) (47 ∷ path_text (y ∷ ys)))

-- ---- inside a folder

front_goes_on : (xs ys : List (List ℕ)) → is_proper_front xs ys ≡ true → (y : List ℕ) × (zs : List (List ℕ)) × (ys ≡ xs ++ y ∷ zs)
front_goes_on [] [] e = absurd (cc)
front_goes_on [] (y ∷ zs) e = (y, zs, refl)
front_goes_on (x ∷ xs) [] e = absurd (cc)
front_goes_on (x ∷ xs) (t ∷ ys) e =
    let both = and_both (bytes_eq x t) (is_proper_front xs ys) e in
    let same : x ≡ t = (bytes_eq-Decides x t).0 both.0 in
    let more = front_goes_on xs ys both.1 in
    (more.0, more.1, ap (λ (s : List ℕ). s ∷ ys) (sym same) ∙ ap (λ (l : List (List ℕ)). x ∷ l) more.2)

is_front : (xs : List (List ℕ)) (y : List ℕ) (zs : List (List ℕ)) → is_proper_front xs (xs ++ y ∷ zs) ≡ true
is_front [] y zs = refl
is_front (x ∷ xs) y zs = ap (λ (b : Bool). b && is_proper_front xs (xs ++ y ∷ zs)) ((bytes_eq-Decides x x).1 refl) ∙ is_front xs y zs

pub front_at : (xs ys : List (List ℕ)) → 0 < length ys → is_proper_front xs (xs ++ ys) ≡ true
front_at xs [] l = absurd (omega arith)
front_at xs (y ∷ ys) l = is_front xs y ys

text_goes_on : (xs ys : List (List ℕ)) → 0 < length xs → is_proper_front xs ys ≡ true → (rest : List ℕ) × (path_text ys ≡ path_text xs ++ 47 ∷ rest)
text_goes_on [] ys l e = absurd (omega arith)
text_goes_on (x ∷ xs) ys l e =
    let more = front_goes_on (x ∷ xs) ys e in
    (path_text (more.0 ∷ more.1), ap path_text more.2 ∙ text_append x xs more.0 more.1)

segments_on : (front rest : List ℕ) → segments (front ++ 47 ∷ rest) ≡ split (front ++ 47 ∷ rest)
segments_on [] rest = refl
segments_on (b ∷ front) rest = refl

-- what lies inside a folder other than the root goes on behind it with a "/"
pub inside_folder : (b : ℕ) (folder path : List ℕ) → is_inside (b ∷ folder) path ≡ true ↔ ((rest : List ℕ) × (path ≡ b ∷ folder ++ 47 ∷ rest))
inside_folder b folder path = (
  (λ e. let on = text_goes_on (split (b ∷ folder)) (segments path) (some_part (b ∷ folder)) e in
      (on.0, sym (text_back path) ∙ on.1 ∙ ap (λ (t : List ℕ). t ++ 47 ∷ on.0) (text_back (b ∷ folder)))),
  (λ r. ap (λ (p : List ℕ). is_inside (b ∷ folder) p) r.1
      ∙ ap (λ (parts : List (List ℕ)). is_proper_front (split (b ∷ folder)) parts) (split_append (b ∷ folder) r.0)
      ∙ front_at (split (b ∷ folder)) (split r.0) (some_part r.0)),
)

-- ---- the folder that a path stands in

pub split_last : (front last : List ℕ) → Bare last → split (front ++ 47 ∷ last) ≡ split front ++ last ∷ []
split_last front last bare = split_append front last ∙ ap (λ (parts : List (List ℕ)). split front ++ parts) (slice_split_none (λ b. b == 47) last bare)

pub without_last_append : (xs : List (List ℕ)) (y : List ℕ) → without_last (xs ++ y ∷ []) ≡ xs
without_last_append [] y = refl
without_last_append (x ∷ []) y = refl
without_last_append (x ∷ next ∷ xs) y = ap (λ (l : List (List ℕ)). x ∷ l) (without_last_append (next ∷ xs) y)

parent_on : (front rest : List ℕ) → parent_of (front ++ 47 ∷ rest) ≡ Some (path_text (without_last (split (front ++ 47 ∷ rest))))
parent_on [] rest = refl
parent_on (b ∷ front) rest = refl

pub parent_front : (front last : List ℕ) → Bare last → parent_of (front ++ 47 ∷ last) ≡ Some front
parent_front front last bare =
    parent_on front last
    ∙ ap (λ (parts : List (List ℕ)). Some (path_text (without_last parts))) (split_last front last bare)
    ∙ ap (λ (parts : List (List ℕ)). Some (path_text parts)) (without_last_append (split front) last)
    ∙ ap Some (join_with_byte-slice_split 47 front)

pub parent_bare : (b : ℕ) (rest : List ℕ) → Bare (b ∷ rest) → parent_of (b ∷ rest) ≡ Some []
parent_bare b rest bare = ap (λ (parts : List (List ℕ)). Some (path_text (without_last parts))) (slice_split_none (λ c. c == 47) (b ∷ rest) bare)

front_is_path : (front : List ℕ) → length front ≤ 1024 → list_all is_segment (split front) ≡ true → is_path front ≡ true
front_is_path [] l e = absurd (cc)
front_is_path (b ∷ front) l e = ap (λ (c : Bool). c && list_all is_segment (split (b ∷ front))) (le-leb (length (b ∷ front)) 1024 l) ∙ e

pub path_front : (front last : List ℕ) → is_path (front ++ 47 ∷ last) ≡ true → is_path front ≡ true
path_front front last e =
    let both = and_both (nat_le (length (front ++ 47 ∷ last)) 1024) (list_all is_segment (segments (front ++ 47 ∷ last))) e in
    let all : list_all is_segment (split front ++ split last) ≡ true = ap (list_all is_segment) (sym (segments_on front last ∙ split_append front last)) ∙ both.1 in
    let fronts = and_both (list_all is_segment (split front)) (list_all is_segment (split last)) (sym (list_all-append is_segment (split front) (split last)) ∙ all) in
    let fits : length (front ++ 47 ∷ last) ≤ 1024 = leb-true (length (front ++ 47 ∷ last)) 1024 both.0 in
    front_is_path front (omega (arith, fits, length-append front (47 ∷ last))) fronts.0

-- ---- joining

bare_step : (b : ℕ) (parts : List (List ℕ)) (t : Bool) → (b == 47) ≡ t → 0 < length parts → AllBare parts → AllBare (cond t ([] ∷ parts) (onto_first b parts))
bare_step b [] t e l all = absurd (omega arith)
bare_step b (part ∷ parts) true e l all = (All-nil (λ c. (c == 47) ≡ false), all)
bare_step b (part ∷ parts) false e l all = (All-cons (λ c. (c == 47) ≡ false) b part e all.0, all.1)

split_bare : (t : List ℕ) → AllBare (split t)
split_bare [] = (All-nil (λ c. (c == 47) ≡ false), tt)
split_bare (b ∷ t) = bare_step b (split t) (b == 47) refl (some_part t) (split_bare t)

pub segments_bare : (t : List ℕ) → AllBare (segments t)
segments_bare [] = tt
segments_bare (b ∷ t) = split_bare (b ∷ t)

pub bare_append : (xs ys : List (List ℕ)) → AllBare xs → AllBare ys → AllBare (xs ++ ys)
bare_append [] ys a b = b
bare_append (x ∷ xs) ys a b = (a.0, bare_append xs ys a.1 b)

pub bare_without_last : (xs : List (List ℕ)) → AllBare xs → AllBare (without_last xs)
bare_without_last [] a = tt
bare_without_last (x ∷ []) a = tt
bare_without_last (x ∷ next ∷ xs) a = (a.0, bare_without_last (next ∷ xs) a.1)

split_text : (s : List ℕ) (rest : List (List ℕ)) → AllBare (s ∷ rest) → split (path_text (s ∷ rest)) ≡ s ∷ rest
split_text s [] all = slice_split_none (λ c. c == 47) s all.0
split_text s (next ∷ rest) all = slice_split_at (λ c. c == 47) s 47 (path_text (next ∷ rest)) all.0 refl ∙ ap (λ (parts : List (List ℕ)). s ∷ parts) (split_text next rest all.1)

first_byte : (s t : List ℕ) → is_segment s ≡ true → (b : ℕ) × (rest : List ℕ) × (s ++ t ≡ b ∷ rest)
first_byte [] t e = absurd (cc)
first_byte (b ∷ s) t e = (b, s ++ t, refl)

text_byte : (s : List ℕ) (rest : List (List ℕ)) → is_segment s ≡ true → (b : ℕ) × (t : List ℕ) × (path_text (s ∷ rest) ≡ b ∷ t)
text_byte [] [] e = absurd (cc)
text_byte (b ∷ s) [] e = (b, s, refl)
text_byte s (next ∷ rest) e = first_byte s (47 ∷ path_text (next ∷ rest)) e

-- segments, put together and cut again
pub segments_back : (parts : List (List ℕ)) → AllBare parts → list_all is_segment parts ≡ true → segments (path_text parts) ≡ parts
segments_back [] all e = refl
segments_back (s ∷ rest) all e =
    let first = text_byte s rest (and_both (is_segment s) (list_all is_segment rest) e).0 in
    ap segments first.2 ∙ ap split (sym first.2) ∙ split_text s rest all

pub whole_path : (parts : List (List ℕ)) → AllBare parts → length (path_text parts) ≤ 1024 → list_all is_segment parts ≡ true → is_path (path_text parts) ≡ true
whole_path parts all l e = rw (segments_back parts all e, le-leb (length (path_text parts)) 1024 l) e

-- ---- a folder's text and then a "/"

headed : (xs : List ℕ) → 0 < length xs → get_or xs 0 0 ≡ 47 → (rest : List ℕ) × (xs ≡ 47 ∷ rest)
headed [] l e = absurd (omega arith)
headed (x ∷ xs) l e = (xs, ap (λ (y : ℕ). y ∷ xs) e)

abbrev pub goes_on : List ℕ → List ℕ → Bool
goes_on path folder = starts_with nat_eq path folder && nat_lt (length folder) (length path) && nat_eq (slice_index path (length folder)) 47

goes_on_yes : (path folder : List ℕ) → goes_on path folder ≡ true → (rest : List ℕ) × (path ≡ folder ++ 47 ∷ rest)
goes_on_yes path folder e =
    let n = length folder in
    let outer = and_both (starts_with nat_eq path folder && nat_lt n (length path)) (nat_eq (slice_index path n) 47) e in
    let inner = and_both (starts_with nat_eq path folder) (nat_lt n (length path)) outer.0 in
    let fits : n < length path = ltb-true n (length path) inner.1 in
    let front : folder ≡ take n path = (bytes_eq-Decides folder (take n path)).0 inner.0 in
    let mark : get_or path n 0 ≡ 47 = eqb-true (get_or path n 0) 47 outer.1 in
    let first : get_or (drop n path) 0 0 ≡ 47 = get_or-drop n path 0 0 ∙ ap (λ (k : ℕ). get_or path k 0) (add-zero n) ∙ mark in
    let on = headed (drop n path) (omega (arith, length-drop n path)) first in
    (on.0, sym (take-append-drop n path) ∙ ap (λ (f : List ℕ). f ++ drop n path) (sym front) ∙ ap (λ (r : List ℕ). folder ++ r) on.1)

goes_on_here : (folder rest : List ℕ) → goes_on (folder ++ 47 ∷ rest) folder ≡ true
goes_on_here folder rest =
    let n = length folder in
    let whole = folder ++ 47 ∷ rest in
    let front : folder ≡ take n whole = sym (take-append_seam folder (47 ∷ rest)) in
    let a : starts_with nat_eq whole folder ≡ true = (bytes_eq-Decides folder (take n whole)).1 front in
    let b : nat_lt n (length whole) ≡ true = lt-ltb n (length whole) (omega (arith, length-append folder (47 ∷ rest))) in
    let c : nat_eq (slice_index whole n) 47 ≡ true = eq-eqb (get_or whole n 0) 47 (get_or-append_seam folder 47 rest 0) in
    both_true (both_true a b) c

goes_on_Decides : (folder path : List ℕ) → Decides (goes_on path folder) ((rest : List ℕ) × (path ≡ folder ++ 47 ∷ rest))
goes_on_Decides folder path = (goes_on_yes path folder, (λ r. ap (λ (p : List ℕ). goes_on p folder) r.1 ∙ goes_on_here folder r.0))

pub inside_from_goes_on : (folder path : List ℕ) → 0 < length folder → goes_on path folder ≡ is_inside folder path
inside_from_goes_on [] path l = absurd (omega arith)
inside_from_goes_on (b ∷ folder) path l =
    same_from_decides (goes_on path (b ∷ folder)) (is_inside (b ∷ folder) path) (goes_on_Decides (b ∷ folder) path)
    ((inside_folder b folder path).0, (inside_folder b folder path).1)

-- ---- the last "/" of a text

bare_from_none : (t : List ℕ) → NoCharPasses (λ d. d == 47) t → Bare t
bare_from_none t none = All-from_get_or (λ b. (b == 47) ≡ false) t 0 (λ i l. ne_eqb (get_or t i 0) 47 (NoCharPasses-char 47 t i none (lit< tt) l))

pub split_at_last : (t : List ℕ) (i j : ℕ) → RFindsChar 47 t (Some (i, j)) → Bare (drop j t) × (t ≡ take i t ++ 47 ∷ drop j t)
split_at_last t i j h = (bare_from_none (drop j t) h.0, sym (take-append-drop i t) ∙ ap (λ (r : List ℕ). take i t ++ r) (drop_at_char 47 t i j h.1 (lit< tt)))

pub parent_at : (t : List ℕ) (i j : ℕ) (front : List ℕ) → RFindsChar 47 t (Some (i, j)) → front ≡ take i t → Some front ≡ parent_of t
parent_at t i j front h e =
    let cut = split_at_last t i j h in
    ap Some e ∙ sym (ap parent_of cut.1 ∙ parent_front (take i t) (drop j t) cut.0)

pub path_at : (t : List ℕ) (i j : ℕ) (front : List ℕ) → RFindsChar 47 t (Some (i, j)) → front ≡ take i t → is_path t ≡ true → is_path front ≡ true
path_at t i j front h e whole =
    let cut = split_at_last t i j h in
    ap is_path e ∙ path_front (take i t) (drop j t) (sym (ap is_path cut.1) ∙ whole)

pub parent_none : (t : List ℕ) → 0 < length t → RFindsChar 47 t None → Some [] ≡ parent_of t
parent_none [] l h = absurd (omega arith)
parent_none (b ∷ rest) l h = sym (parent_bare b rest (bare_from_none (b ∷ rest) h))

pub segments_full : (t : List ℕ) → 0 < length t → segments t ≡ split t
segments_full [] l = absurd (omega arith)
segments_full (b ∷ t) l = refl

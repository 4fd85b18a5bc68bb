-- Inputs: sorted lists that have the same files are equal.
use Rattle.std.proofs.Common.{◌≡◌, ℕ, zero, suc, ◌==◌, Bool, true, false, cond, List, [], ◌∷◌, ◌++◌, length, refl, sym, ap, subst, ◌∙◌, inl, inr, arith}
use Rattle.std.specs.Prelude.{◌⊎◌, ◌&&◌, ◌||◌, not, codes, map, fold, Option, Some, None, T}
use Rattle.std.specs.List.{filter, ends_with, AllByRecursion}
use Rattle.std.specs.List.Sorted.{IsStrictlySortedBy}
use Rattle.std.specs.Option.{option_to_list}
use Rattle.std.specs.Ordering.{is_lt}
use Rattle.std.specs.declared.cmp.Ordering.{Ordering}
use Rattle.std.specs.declared.cmp.Ordering.TheVariants.{Less, Equal, Greater}
use Rattle.std.specs.Cmp.Lexicographic.{nat_list_cmp_total}
use Rattle.std.specs.BTreeSet.{insert_key}
use Rattle.std.specs.FinMap.{entries, entries_sorted, keys}
use Rattle.std.specs.FinMap.Entries.{is_sorted, below_all}
use Rattle.std.proofs.lemmas.Bool.Decides.{Decides-eqb}
use Rattle.std.proofs.lemmas.Slice.Eq.{ends_is}
use Rattle.tb_text.specs.Paths.{is_path}
use Rattle.tb_face.specs.Outputs.{before_ending}
use Rattle.tb_plan.proofs.Shorter.{source_is_path}
use Rattle.std.proofs.lemmas.Bool.{false≢true, ne_eqb}
use Rattle.std.proofs.lemmas.List.Kept.{IsStrictlySortedBy-filter}
use Rattle.std.proofs.lemmas.Map.Lookups.{exact_bytes}
use Rattle.tb_text.specs.Bytes.{bytes_cmp}
use Rattle.tb_text.specs.Paths.{is_inside}
use Rattle.tb_text.proofs.Segments.{and_both}
use Rattle.tb_config.specs.declared.setting.Setting.{Setting}
use Rattle.tb_plan.specs.Inputs.{folders_of, is_inside_any, is_source, is_file, is_beside_source, may_be_found, is_included, named_by, is_named, is_input, inputs_of}
use Rattle.tb_plan.specs.Orders.{Tree, Paths, is_among}
use Rattle.tb_plan.specs.Owners.{folder_at, AreAround}
use Rattle.tb_plan.specs.declared.sources.Sources.{Sources}
use Rattle.std.proofs.lemmas.List.{map_push}
use Rattle.tb_plan.specs.Members.{HasSame}
use Rattle.tb_plan.proofs.Members.{In, in_from, in_back, in_left, in_right, in_append, in_filter, from_filter}
use Rattle.tb_plan.proofs.Among.{any_from, any_in, among_in, in_among, file_in, in_file}
use Rattle.tb_plan.proofs.Sorted.{same_sorted, sorted_fold, in_fold, from_fold}

-- ---- the files of a tree ascend

pub less_so : (r : Ordering) → is_lt r ≡ true → r ≡ Less
less_so Less e = refl
less_so Equal e = absurd (false≢true e)
less_so Greater e = absurd (false≢true e)

below_so : {X : Type 0} (k : List ℕ) (es : List (List ℕ × X)) → below_all bytes_cmp k es ≡ true → AllByRecursion (λ y. bytes_cmp k y ≡ Less) (map (λ e. e.0) es)
below_so k [] h = tt
below_so k (e ∷ es) h = let both = and_both (is_lt (bytes_cmp k e.0)) (below_all bytes_cmp k es) h in (less_so (bytes_cmp k e.0) both.0, below_so k es both.1)

sorted_so : {X : Type 0} (es : List (List ℕ × X)) → is_sorted bytes_cmp es ≡ true → IsStrictlySortedBy bytes_cmp (map (λ e. e.0) es)
unfolding IsStrictlySortedBy
sorted_so [] h = tt
sorted_so (e ∷ es) h = let both = and_both (below_all bytes_cmp e.0 es) (is_sorted bytes_cmp es) h in (below_so e.0 es both.0, sorted_so es both.1)

is_true : (b : Bool) → T b → b ≡ true
is_true true t = refl
is_true false t = absurd t

pub files_sorted : (tree : Tree) → IsStrictlySortedBy bytes_cmp (keys tree)
files_sorted tree = sorted_so (entries tree) (is_true (is_sorted bytes_cmp (entries tree)) (entries_sorted tree))

pub found_sorted : (tree : Tree) (folders found : Paths) → found ≡ filter (may_be_found tree folders) (keys tree) → IsStrictlySortedBy bytes_cmp found
found_sorted tree folders found is = subst (IsStrictlySortedBy bytes_cmp) (sym is) (IsStrictlySortedBy-filter bytes_cmp (may_be_found tree folders) (keys tree) (files_sorted tree))

-- ---- tests

pub and_true : (a b : Bool) → a ≡ true → b ≡ true → (a && b) ≡ true
and_true a b e f = ap (λ x. x && b) e ∙ f

pub or_cases : (a b : Bool) → (a || b) ≡ true → (a ≡ true) ⊎ (b ≡ true)
or_cases true b e = inl refl
or_cases false b e = inr e

pub or_first : (a b : Bool) → a ≡ true → (a || b) ≡ true
or_first a b e = ap (λ x. x || b) e

pub or_second : (a b : Bool) → b ≡ true → (a || b) ≡ true
or_second true b e = refl
or_second false b e = e

-- ---- inputs

module _ (tree : Tree) (folders : Paths) (s : Setting) (findable : Paths) (is : findable ≡ filter (may_be_found tree folders) (keys tree)) (found : Paths) (same : HasSame found (filter (is_included s) findable)) where
  abbrev gathered : Paths
  gathered = found ++ filter (λ path. is_file tree path && is_source path) (named_by s)

  gathered_in : (p : List ℕ) → In gathered p → In (inputs_of tree folders s) p
  gathered_in p h = elim (in_append found (filter (λ path. is_file tree path && is_source path) (named_by s)) p h) [
    | inl a ↦
        let i = from_filter (is_included s) findable p (in_from (filter (is_included s) findable) p (same.into p (in_back found p a))) in
        let f = from_filter (may_be_found tree folders) (keys tree) p (subst (λ (l : Paths). In l p) is i.0) in
        in_filter (is_input tree folders s) (keys tree) p f.0 (or_second (is_named s p) (may_be_found tree folders p && is_included s p) (and_true (may_be_found tree folders p) (is_included s p) f.1 i.1))
    | inr b ↦
        let n = from_filter (λ path. is_file tree path && is_source path) (named_by s) p b in
        let both = and_both (is_file tree p) (is_source p) n.1 in
        in_filter (is_input tree folders s) (keys tree) p (file_in tree p both.0)
        (or_first (is_named s p) (may_be_found tree folders p && is_included s p) (and_true (is_among (named_by s) p) (is_source p) (in_among (named_by s) p n.0) both.1))
  ]

  in_gathered : (p : List ℕ) → In (inputs_of tree folders s) p → In gathered p
  in_gathered p h =
      let r = from_filter (is_input tree folders s) (keys tree) p h in
      elim (or_cases (is_named s p) (may_be_found tree folders p && is_included s p) r.1) [
        | inl a ↦
            let both = and_both (is_among (named_by s) p) (is_source p) a in
            in_right found (filter (λ path. is_file tree path && is_source path) (named_by s)) p
            (in_filter (λ path. is_file tree path && is_source path) (named_by s) p (among_in (named_by s) p both.0) (and_true (is_file tree p) (is_source p) (in_file tree p r.0) both.1))
        | inr b ↦
            let both = and_both (may_be_found tree folders p) (is_included s p) b in
            let there : In findable p = subst (λ (l : Paths). In l p) (sym is) (in_filter (may_be_found tree folders) (keys tree) p r.0 both.0) in
            in_left found (filter (λ path. is_file tree path && is_source path) (named_by s)) p
            (in_from found p (same.back p (in_back (filter (is_included s) findable) p (in_filter (is_included s) findable p there both.1))))
      ]

  pub gathered_is : fold (insert_key bytes_cmp) [] gathered ≡ inputs_of tree folders s
  gathered_is = same_sorted nat_list_cmp_total (fold (insert_key bytes_cmp) [] gathered) (inputs_of tree folders s) (sorted_fold nat_list_cmp_total gathered)
      (IsStrictlySortedBy-filter bytes_cmp (is_input tree folders s) (keys tree) (files_sorted tree))
      (λ p h. gathered_in p (from_fold bytes_cmp exact_bytes gathered p h))
      (λ p h. in_fold bytes_cmp exact_bytes gathered p (in_gathered p h))

-- ---- inside some output folder

folder_number : (settings : List Setting) (f : List ℕ) → In (folders_of settings) f → (n : ℕ) × (folder_at settings n ≡ Some f)
folder_number [] f h = absurd h
folder_number (s ∷ settings) f h = elim (in_append (option_to_list s.folder) (folders_of settings) f h) [
  | inl a ↦ (0, one_folder s.folder f a)
  | inr b ↦ let r = folder_number settings f b in (suc r.0, r.1)
]
  where
    one_folder : (o : Option (List ℕ)) (f : List ℕ) → In (option_to_list o) f → o ≡ Some f
    one_folder None f h = absurd h
    one_folder (Some g) f h = elim h [ inl e ↦ ap Some e | inr n ↦ absurd n ]

in_folders : (settings : List Setting) (n : ℕ) (f : List ℕ) → folder_at settings n ≡ Some f → In (folders_of settings) f
in_folders [] n f e = absurd (cc)
in_folders (s ∷ settings) zero f e = in_left (option_to_list s.folder) (folders_of settings) f (subst (λ (o : Option (List ℕ)). In (option_to_list o) f) (sym e) (inl refl))
in_folders (s ∷ settings) (suc n) f e = in_right (option_to_list s.folder) (folders_of settings) f (in_folders settings n f e)

pub around_none : (settings : List Setting) (path : List ℕ) (numbers : List ℕ) → AreAround settings path numbers → (length numbers == 0) ≡ not (is_inside_any (folders_of settings) path)
around_none settings path [] h = elim (is_inside_any (folders_of settings) path) as (λ b. is_inside_any (folders_of settings) path ≡ b → true ≡ not b) [
  | true ↦ λ e.
      let r = any_from (λ f. is_inside f path) (folders_of settings) e in
      let n = folder_number settings r.0 r.1 in
      absurd (omega (arith, (h.each n.0 r.0 n.1 r.2).1))
  | false ↦ λ e. refl
] refl
around_none settings path (n ∷ numbers) h =
    let f = h.only n (0, omega arith, refl) in
    ne_eqb (length (n ∷ numbers)) 0 (λ e. omega arith) ∙ ap not (sym (any_in (λ g. is_inside g path) (folders_of settings) f.0 (in_folders settings n f.0 f.1) f.2))

-- ---- `x.d.ts` beside `x.ts`

some_if : (b : Bool) (x y : List ℕ) → cond b (Some x) None ≡ Some y → (b ≡ true) × (x ≡ y)
some_if true x y e = (refl, cc)
some_if false x y e = absurd (cc)

from_ending : (ending text stem : List ℕ) → before_ending ending text ≡ Some stem → text ≡ stem ++ ending
from_ending ending text stem e =
    let parts = some_if (ends_with (λ a b. a == b) text ending) _ stem e in
    (ends_is Decides-eqb text ending _ refl).0 parts.0 ∙ ap (λ (l : List ℕ). l ++ ending) parts.1

pub source_there : (path stem text : List ℕ) → Some stem ≡ before_ending (codes ".d.ts") path → text ≡ stem ++ codes ".ts" → is_path path ≡ true → is_path text ≡ true
source_there path stem text e is valid =
    ap is_path is ∙ source_is_path stem (ap is_path (sym (from_ending (codes ".d.ts") path stem (sym e))) ∙ valid)

-- ---- may be found

pub found_so : (tree : Tree) (folders : Paths) (path : List ℕ) (empty : Bool) → empty ≡ not (is_inside_any folders path) → is_source path ≡ true → is_beside_source tree path ≡ false → empty ≡ may_be_found tree folders path
found_so tree folders path empty e source beside = e ∙ sym (all_three (is_source path) (not (is_inside_any folders path)) (is_beside_source tree path) source beside)
  where
    all_three : (a b c : Bool) → a ≡ true → c ≡ false → (a && b && not c) ≡ b
    all_three true true false s t = refl
    all_three true false false s t = refl
    all_three true true true s t = absurd (cc)
    all_three true false true s t = absurd (cc)
    all_three false b c s t = absurd (cc)

-- ---- one project further

pub source_step : (f : Setting → Paths) (done : List Setting) (s : Setting) (inputs : Paths) (so_far new : List Sources) → so_far ≡ map (λ t. record { setting = t; inputs = f t }) done → inputs ≡ f s
    → new ≡ so_far ++ record { setting = s; inputs = inputs } ∷ [] → new ≡ map (λ t. record { setting = t; inputs = f t }) (done ++ s ∷ [])
source_step f done s inputs so_far new is i e =
    let with_inputs : Setting → Sources = λ t. record { setting = t; inputs = f t } in
    e ∙ ap (λ (l : List Sources). l ++ record { setting = s; inputs = inputs } ∷ []) is
    ∙ ap (λ (p : Paths). map with_inputs done ++ record { setting = s; inputs = p } ∷ []) i ∙ sym (map_push with_inputs done s)

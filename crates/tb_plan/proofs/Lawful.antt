-- What holds of every plan that has no faults.
use Rattle.std.proofs.Common.{◌≡◌, ℕ, zero, suc, ◌+◌, ◌<◌, ◌≤◌, ◌==◌, Bool, true, false, cond, not, List, [], ◌∷◌, ◌++◌, length, refl, sym, ap, subst, ◌∙◌, inl, inr, arith, append_assoc}
use Rattle.std.specs.Prelude.{◌&&◌, codes, nat_lt, sum_by, Contains, map, fold, slice_get, Option, Some, None, Ok, Err, Result, IfOk}
use Rattle.std.specs.List.{filter, flat_map, list_any, range_with_len, AllByRecursion}
use Rattle.std.specs.List.Sorted.{IsStrictlySortedBy}
use Rattle.std.specs.Ordering.{nat_cmp}
use Rattle.std.specs.FinMap.{keys}
use Rattle.std.specs.Str.{bytes_eq}
use Rattle.std.specs.declared.cmp.Ordering.TheVariants.{Less, Equal, Greater}
use Rattle.std.proofs.lemmas.Bool.{cases_lt, lt-ltb, false≢true, eqb-true, eq-eqb}
use Rattle.std.proofs.lemmas.List.{length_push}
use Rattle.std.proofs.lemmas.List.Sums.{sum_by-append, sum_by-cons}
use Rattle.std.proofs.lemmas.Slice.Eq.{bytes_eq-Decides}
use Rattle.std.proofs.lemmas.List.Kept.{IsStrictlySortedBy-filter}
use Rattle.tb_text.specs.Bytes.{bytes_cmp}
use Rattle.tb_text.specs.Paths.{is_inside, is_path}
use Rattle.tb_text.specs.declared.findings.Diag.{Diag}
use Rattle.tb_text.specs.declared.statuses.Status.{Status}
use Rattle.tb_text.specs.declared.statuses.Status.TheVariants.{Skipped}
use Rattle.tb_text.proofs.Segments.{and_both}
use Rattle.tb_face.specs.Outputs.{new_info_text, stem_text}
use Rattle.tb_config.specs.Settings.{setting_of}
use Rattle.tb_config.specs.declared.setting.Setting.{Setting}
use Rattle.tb_plan.specs.Faults.{fault_if, own_fault, in_order}
use Rattle.tb_plan.specs.Folders.{are_shared, is_inside_own, kept_apart, covered_in, covered_faults, nested_faults}
use Rattle.tb_plan.specs.Inputs.{folders_of, is_input, inputs_of, sources_of, name_faults, lack_faults, input_faults, shared_after, shared_faults}
use Rattle.tb_plan.specs.Laws.{IsGoodInput, IsGoodProject, IsUpstream, AreApart, IsWithinLimits, PlanOk}
use Rattle.tb_plan.specs.Limits.{most_projects, most_files, most_bytes, most_bytes_together, files_in, bytes_in, size_of, is_large, project_limits, plan_limits, limit_faults}
use Rattle.tb_plan.specs.Orders.{Tree, Paths, Visit, is_among, references_of, visited}
use Rattle.tb_plan.specs.Outputs.{outside_faults, texts_by, faults_of, path_faults_in, faults_by, path_faults}
use Rattle.tb_plan.specs.Plans.{Answers, Planned, Sound, Faulted, first_faults, config_faults, cycle_faults, status_by, setting_in, source_faults, second_faults, unless_faulty, planned_of, plan_of}
use Rattle.tb_plan.specs.Projects.{is_config_of, leads_to, is_behind, upstream_of, digest_in, with_project, projects_of}
use Rattle.tb_plan.specs.declared.plans.Plan.{Plan}
use Rattle.tb_plan.specs.declared.plans.PlanFault.{PlanFault}
use Rattle.tb_plan.specs.declared.plans.Project.{Project}
use Rattle.tb_plan.specs.declared.sources.Sources.{Sources}
use Rattle.tb_plan.proofs.Covered.{setting_there}
use Rattle.tb_plan.proofs.Alike.{all_distinct, all_behind, distinct_at, behind_at, settings_at}
use Rattle.tb_plan.proofs.Among.{any_from, any_in, in_among, in_file}
use Rattle.tb_plan.proofs.Found.{files_sorted, or_cases, or_first, or_second, and_true}
use Rattle.tb_plan.proofs.Members.{In, in_from, in_back, in_left, in_right, in_map, from_map, in_filter, from_filter, in_flat}
use Rattle.tb_plan.proofs.Pairs.{in_nested, from_range, in_range, within, number_in, at_length, left_get}
use Rattle.tb_plan.proofs.Placed.{no_more}
use Rattle.tb_plan.proofs.Planned.{no_first_part, within_limit, no_settings, plan_is, settings_are}
use Rattle.tb_plan.proofs.Visited.{Distinct, Behind}

-- ---- where a test finds nothing

nothing_in : {X : Type 0} (xs : List X) (x : X) → xs ≡ [] → In xs x → ⊥
nothing_in xs x e h = subst (λ l. In l x) e h

never : {X Y : Type 0} (f : X → Y) (p : X → Bool) (xs : List X) (x : X) → map f (filter p xs) ≡ [] → In xs x → p x ≡ false
never f p xs x e h = elim (p x) as (λ b. p x ≡ b → b ≡ false) [
  | true ↦ λ t. absurd (nothing_in (map f (filter p xs)) (f x) e (in_map f (filter p xs) x (in_filter p xs x h t)))
  | false ↦ λ t. refl
] refl

none_from : {X Y : Type 0} (f : X → List Y) (xs : List X) (x : X) → flat_map f xs ≡ [] → In xs x → f x ≡ []
none_from f xs x e h = none (f x) (λ y k. nothing_in (flat_map f xs) y e (in_flat f xs x y h k))
  where
    none : {Y : Type 0} (ys : List Y) → ((y : Y) → In ys y → ⊥) → ys ≡ []
    none [] g = refl
    none (y ∷ ys) g = absurd (g y (inl refl))

not_false : (b : Bool) → not b ≡ false → b ≡ true
not_false true e = refl
not_false false e = absurd (cc)

no_fault_if : (b : Bool) (config : List ℕ) (n : ℕ) (first : List ℕ) → fault_if b config n first ≡ [] → b ≡ false
no_fault_if true config n first e = absurd (cc)
no_fault_if false config n first e = refl

-- ---- sources and projects

-- what is made of the sources after those before
abbrev made : List Project → List Sources → List Project
made before sources = fold with_project before sources

projects_made : (sources : List Sources) → projects_of sources ≡ made [] sources
unfolding projects_of
projects_made sources = refl

-- the project of a number, made of the source of this number and the projects before it
record IsMade (sources : List Sources) (projects : List Project) (number : ℕ) (p : Project) : Type 0 where
  s : Sources
  there : slice_get sources number ≡ Some s
  before : List Project
  count : length before ≡ number
  kept : (n : ℕ) (q : Project) → slice_get before n ≡ Some q → slice_get projects n ≡ Some q
  setting : p.setting ≡ s.setting
  inputs : p.inputs ≡ s.inputs
  upstream : p.upstream ≡ upstream_of before s.setting
  digest : p.options ≡ digest_in s.setting.folder s.setting

one_some : {X : Type 0} (a b : X) → Some a ≡ Some b → a ≡ b
one_some a b e = cc

stays : (sources : List Sources) (before : List Project) (n : ℕ) (q : Project) → slice_get before n ≡ Some q → slice_get (made before sources) n ≡ Some q
stays [] before n q e = e
stays (s ∷ rest) before n q e = stays rest (with_project before s) n q (left_get before _ n q e)

is_made : (done sources : List Sources) (before : List Project) (number : ℕ) (p : Project) → length before ≡ length done → length before ≤ number → slice_get (made before sources) number ≡ Some p
    → IsMade (done ++ sources) (made before sources) number p
is_made done [] before number p e le at = absurd (omega (arith, le, within before number p at))
is_made done (s ∷ rest) before number p e le at =
    let x : Project = record { setting = s.setting; inputs = s.inputs; upstream = upstream_of before s.setting; options = digest_in s.setting.folder s.setting } in
    elim (cases_lt (length before) number) [
      | inl lt ↦ subst (λ (l : List Sources). IsMade l (made before (s ∷ rest)) number p) (append_assoc done (s ∷ []) rest)
          (is_made (done ++ s ∷ []) rest (with_project before s) number p (length_push before x ∙ ap (λ n. n + 1) e ∙ sym (length_push done s)) (omega (arith, length_push before x)) at)
      | inr ge ↦
          let k : length before ≡ number = omega arith in
          let same : x ≡ p = one_some x p (sym (stays rest (with_project before s) (length before) x (at_length before [] x)) ∙ ap (slice_get (made before (s ∷ rest))) k ∙ at) in
          record {
            s = s;
            there = ap (slice_get (done ++ s ∷ rest)) (sym k ∙ e) ∙ at_length done rest s;
            before = before;
            count = k;
            kept = λ n q f. stays (s ∷ rest) before n q f;
            setting = ap (λ (y : Project). y.setting) (sym same);
            inputs = ap (λ (y : Project). y.inputs) (sym same);
            upstream = ap (λ (y : Project). y.upstream) (sym same);
            digest = ap (λ (y : Project). y.options) (sym same);
          }
    ]

member_of : {X : Type 0} (xs : List X) (n : ℕ) (x : X) → slice_get xs n ≡ Some x → In xs x
member_of [] n x e = absurd (cc)
member_of (y ∷ xs) zero x e = inl (one_some y x e)
member_of (y ∷ xs) (suc n) x e = inr (member_of xs n x e)

-- ---- ascending numbers

nat_less : (m a : ℕ) → m < a → nat_cmp m a ≡ Less
nat_less m a lt = ap (λ b. cond b Less (cond (m == a) Equal Greater)) (lt-ltb m a lt)

range_above : (m a n : ℕ) → m < a → AllByRecursion (λ y. nat_cmp m y ≡ Less) (range_with_len a n)
range_above m a zero lt = tt
range_above m a (suc n) lt = (nat_less m a lt, range_above m (a + 1) n (omega arith))

range_ascends : (a n : ℕ) → IsStrictlySortedBy nat_cmp (range_with_len a n)
unfolding IsStrictlySortedBy
range_ascends a zero = tt
range_ascends a (suc n) = (range_above a (a + 1) n (omega arith), range_ascends (a + 1) n)

-- ---- inputs of two projects

shared_there : (before : Paths) (sources : List Sources) (j : ℕ) (s : Sources) (path : List ℕ) → slice_get sources j ≡ Some s → In before path → In s.inputs path → In (shared_after before sources) (own_fault s.setting.config 5015 path)
shared_there before [] j s path e b h = absurd (cc)
shared_there before (x ∷ rest) zero s path e b h =
    let same : x ≡ s = one_some x s e in
    in_left _ (shared_after (before ++ x.inputs) rest) (own_fault s.setting.config 5015 path)
    (subst (λ (y : Sources). In (map (own_fault y.setting.config 5015) (filter (is_among before) y.inputs)) (own_fault s.setting.config 5015 path)) (sym same)
    (in_map (own_fault s.setting.config 5015) (filter (is_among before) s.inputs) path (in_filter (is_among before) s.inputs path h (in_among before path b))))
shared_there before (x ∷ rest) (suc j) s path e b h =
    in_right (map (own_fault x.setting.config 5015) (filter (is_among before) x.inputs)) _ (own_fault s.setting.config 5015 path) (shared_there (before ++ x.inputs) rest j s path e (in_left before x.inputs path b) h)

shared_by : (before : Paths) (sources : List Sources) (i j : ℕ) (r s : Sources) (path : List ℕ) → i < j → slice_get sources i ≡ Some r → slice_get sources j ≡ Some s → In r.inputs path → In s.inputs path
    → In (shared_after before sources) (own_fault s.setting.config 5015 path)
shared_by before [] i j r s path lt e f h k = absurd (cc)
shared_by before (x ∷ rest) i zero r s path lt e f h k = absurd (omega arith)
shared_by before (x ∷ rest) zero (suc j) r s path lt e f h k =
    let same : x ≡ r = one_some x r e in
    in_right (map (own_fault x.setting.config 5015) (filter (is_among before) x.inputs)) _ (own_fault s.setting.config 5015 path)
    (shared_there (before ++ x.inputs) rest j s path f (in_right before x.inputs path (subst (λ (y : Sources). In y.inputs path) (sym same) h)) k)
shared_by before (x ∷ rest) (suc i) (suc j) r s path lt e f h k =
    in_right (map (own_fault x.setting.config 5015) (filter (is_among before) x.inputs)) _ (own_fault s.setting.config 5015 path) (shared_by (before ++ x.inputs) rest i j r s path (omega arith) e f h k)

-- ---- what is counted

made_sum : (f : Project → ℕ) (g : Sources → ℕ) → ((p : Project) (s : Sources) → p.inputs ≡ s.inputs → f p ≡ g s) → (before : List Project) (sources : List Sources) → sum_by f (made before sources) ≡ sum_by f before + sum_by g sources
made_sum f g same before [] = omega arith
made_sum f g same before (s ∷ rest) =
    let x : Project = record { setting = s.setting; inputs = s.inputs; upstream = upstream_of before s.setting; options = digest_in s.setting.folder s.setting } in
    omega (arith, made_sum f g same (with_project before s) rest, sum_by-append f before (x ∷ []), sum_by-cons f x [], same x s refl, sum_by-cons g s rest)

made_many : (before : List Project) (sources : List Sources) → length (made before sources) ≡ length before + length sources
made_many before [] = omega arith
made_many before (s ∷ rest) =
    let x : Project = record { setting = s.setting; inputs = s.inputs; upstream = upstream_of before s.setting; options = digest_in s.setting.folder s.setting } in
    omega (arith, made_many (with_project before s) rest, length_push before x)

-- the counts of sources are within their limits
record FewSources (tree : Tree) (sources : List Sources) : Type 0 where
  count : length sources ≤ most_projects
  files : files_in sources ≤ most_files
  bytes : bytes_in tree sources ≤ most_bytes_together

few_sources : (tree : Tree) (roots : Paths) (sources : List Sources) → plan_limits tree roots sources ≡ [] → (roots ≡ [] → sources ≡ []) → FewSources tree sources
few_sources tree [] sources e none = subst (FewSources tree) (sym (none refl)) (record { count = omega arith; files = omega arith; bytes = omega arith })
few_sources tree (root ∷ roots) sources e none =
    let count : List Diag = fault_if (nat_lt most_projects (length sources)) root 5012 (codes "projects") in
    let files : List Diag = fault_if (nat_lt most_files (files_in sources)) root 5012 (codes "files") in
    let bytes : List Diag = fault_if (nat_lt most_bytes_together (bytes_in tree sources)) root 5012 (codes "bytes") in
    record {
      count = within_limit most_projects (length sources) root (codes "projects") (no_first_part count files (no_first_part (count ++ files) bytes e));
      files = within_limit most_files (files_in sources) root (codes "files") (no_more count files (no_first_part (count ++ files) bytes e));
      bytes = within_limit most_bytes_together (bytes_in tree sources) root (codes "bytes") (no_more (count ++ files) bytes e);
    }

-- ---- the laws

module _ (tree : Tree) (roots : Paths) (settings : List Setting) (none : second_faults tree roots (sources_of tree settings) ≡ []) (rooted : roots ≡ [] → settings ≡ [])
    (finished : Paths) (once : Distinct finished) (behind : Behind (references_of tree) [] finished) (named : (n : ℕ) (s : Setting) → slice_get settings n ≡ Some s → (slice_get finished n ≡ Some s.config) × (references_of tree s.config ≡ s.references)) where
  abbrev sources : List Sources
  sources = sources_of tree settings

  abbrev all_settings : List Setting
  all_settings = map (λ p. p.setting) sources

  no_limits : limit_faults tree roots sources ≡ []
  no_limits = no_more _ (limit_faults tree roots sources) none

  without_limits : flat_map (source_faults tree) sources ++ shared_faults sources ++ nested_faults all_settings ++ covered_faults sources ≡ []
  without_limits = no_first_part _ (limit_faults tree roots sources) none

  no_covered : covered_faults sources ≡ []
  no_covered = no_more (flat_map (source_faults tree) sources ++ shared_faults sources ++ nested_faults all_settings) (covered_faults sources) without_limits

  without_covered : flat_map (source_faults tree) sources ++ shared_faults sources ++ nested_faults all_settings ≡ []
  without_covered = no_first_part (flat_map (source_faults tree) sources ++ shared_faults sources ++ nested_faults all_settings) (covered_faults sources) without_limits

  no_nested : nested_faults all_settings ≡ []
  no_nested = no_more (flat_map (source_faults tree) sources ++ shared_faults sources) (nested_faults all_settings) without_covered

  without_nested : flat_map (source_faults tree) sources ++ shared_faults sources ≡ []
  without_nested = no_first_part (flat_map (source_faults tree) sources ++ shared_faults sources) (nested_faults all_settings) without_covered

  no_shared : shared_faults sources ≡ []
  no_shared = no_more (flat_map (source_faults tree) sources) (shared_faults sources) without_nested

  no_source_faults : (s : Sources) → In sources s → source_faults tree s ≡ []
  no_source_faults s h = none_from (source_faults tree) sources s (no_first_part (flat_map (source_faults tree) sources) (shared_faults sources) without_nested) h

  no_path_faults : (s : Sources) → In sources s → path_faults s ≡ []
  no_path_faults s h = no_more (input_faults tree s ++ outside_faults s) (path_faults s) (no_source_faults s h)

  no_outside : (s : Sources) → In sources s → outside_faults s ≡ []
  no_outside s h = no_more (input_faults tree s) (outside_faults s) (no_first_part (input_faults tree s ++ outside_faults s) (path_faults s) (no_source_faults s h))

  no_project_limits : (s : Sources) → In sources s → project_limits tree s ≡ []
  no_project_limits s h = none_from (project_limits tree) sources s (no_more (plan_limits tree roots sources) (flat_map (project_limits tree) sources) no_limits) h

  inputs_are : (s : Sources) → In sources s → s.inputs ≡ inputs_of tree (folders_of settings) s.setting
  inputs_are s h = let r = from_map {Y = Sources} (λ t. record { setting = t; inputs = inputs_of tree (folders_of settings) t }) settings s h in
      ap (λ (x : Sources). x.inputs) (sym r.2) ∙ ap (λ (x : Sources). inputs_of tree (folders_of settings) x.setting) r.2

  has_input : (s : Sources) → In sources s → s.setting.solution ≡ false → 0 < length s.inputs
  has_input s h e = go s.setting.solution s.inputs e (no_fault_if (not s.setting.solution && length s.inputs == 0) s.setting.config 5013 (codes "files")
      (no_more (name_faults tree s.setting) (lack_faults s.setting s.inputs) (no_first_part (input_faults tree s) (outside_faults s) (no_first_part (input_faults tree s ++ outside_faults s) (path_faults s) (no_source_faults s h)))))
    where
      go : (solution : Bool) (inputs : Paths) → solution ≡ false → (not solution && length inputs == 0) ≡ false → 0 < length inputs
      go true inputs e f = absurd (false≢true (sym e))
      go false [] e f = absurd (false≢true (sym f))
      go false (path ∷ inputs) e f = omega arith

  few : FewSources tree sources
  few = few_sources tree roots sources (no_first_part (plan_limits tree roots sources) (flat_map (project_limits tree) sources) no_limits) (λ e. ap (sources_of tree) (rooted e))

  within_limits : IsWithinLimits tree (made [] sources)
  within_limits = record {
    count = omega (arith, few.count, made_many [] sources);
    files = omega (arith, few.files, made_sum (λ p. length p.inputs) (λ s. length s.inputs) (λ p s e. ap length e) [] sources);
    bytes = omega (arith, few.bytes, made_sum (λ p. sum_by (size_of tree) p.inputs) (λ s. sum_by (size_of tree) s.inputs) (λ p s e. ap (λ (l : Paths). sum_by (size_of tree) l) e) [] sources);
  }

  ascends : (s : Sources) → In sources s → IsStrictlySortedBy bytes_cmp s.inputs
  ascends s h = subst (IsStrictlySortedBy bytes_cmp) (sym (inputs_are s h)) (IsStrictlySortedBy-filter bytes_cmp (is_input tree (folders_of settings) s.setting) (keys tree) (files_sorted tree))

  small : (path : List ℕ) → is_large tree path ≡ false → size_of tree path ≤ most_bytes
  small path e = elim (cases_lt most_bytes (size_of tree path)) [ inl lt ↦ absurd (false≢true (sym e ∙ lt-ltb most_bytes (size_of tree path) lt)) | inr ge ↦ ge ]

  not_large : (s : Sources) (path : List ℕ) → In sources s → In s.inputs path → is_large tree path ≡ false
  not_large s path h k = elim (is_large tree path) as (λ b. is_large tree path ≡ b → b ≡ false) [
    | true ↦ λ t. absurd (false≢true (sym (no_fault_if (list_any (is_large tree) s.inputs) s.setting.config 5012 (codes "bytes") (no_first_part _ _ (no_first_part _ _ (no_project_limits s h)))) ∙ any_in (is_large tree) s.inputs path k t))
    | false ↦ λ t. refl
  ] refl

  good_input : (s : Sources) (path : List ℕ) → In sources s → In s.inputs path → IsGoodInput tree s.setting.root path
  good_input s path h k = record {
    file = in_file tree path (from_filter (is_input tree (folders_of settings) s.setting) (keys tree) path (subst (λ (l : Paths). In l path) (inputs_are s h) k)).0;
    inside = not_false (is_inside s.setting.root path) (never (own_fault s.setting.config 5011) (λ q. not (is_inside s.setting.root q)) s.inputs path (no_outside s h) k);
    small = small path (not_large s path h k);
  }

  good_text : (config : List ℕ) (texts : Paths) (text : List ℕ) → faults_of config texts ≡ [] → In texts text → is_path text ≡ true
  good_text config texts text e h = not_false (is_path text) (never (own_fault config 5014) (λ t. not (is_path t)) texts text e h)

  path_faults_at : (s : Sources) (folder : List ℕ) → In sources s → s.setting.folder ≡ Some folder → path_faults_in s.setting.config folder s.setting.root s.inputs ≡ []
  path_faults_at s folder h e = sym (ap (λ (o : Option (List ℕ)). faults_by s.setting.config o s.setting.root s.inputs) e) ∙ no_path_faults s h

  good_info : (s : Sources) (folder : List ℕ) → In sources s → s.setting.folder ≡ Some folder → is_path (new_info_text folder) ≡ true
  good_info s folder h e = good_text s.setting.config (new_info_text folder ∷ []) (new_info_text folder) (no_first_part (faults_of s.setting.config (new_info_text folder ∷ [])) _ (path_faults_at s folder h e)) (inl refl)

  good_output : (s : Sources) (folder path text : List ℕ) → In sources s → s.setting.folder ≡ Some folder → In s.inputs path → In (texts_by folder (stem_text s.setting.root path)) text → is_path text ≡ true
  good_output s folder path text h e k t =
      good_text s.setting.config (texts_by folder (stem_text s.setting.root path)) text
      (none_from (λ q. faults_of s.setting.config (texts_by folder (stem_text s.setting.root q))) s.inputs path (no_more (faults_of s.setting.config (new_info_text folder ∷ [])) _ (path_faults_at s folder h e)) k) t

  made_at : (number : ℕ) (p : Project) → slice_get (made [] sources) number ≡ Some p → IsMade sources (made [] sources) number p
  made_at number p e = is_made [] sources [] number p refl (omega arith) e

  good_project : (p : Project) → In (made [] sources) p → IsGoodProject tree p
  good_project p h =
      let n = number_in (made [] sources) p h in
      let m = made_at n.0 p n.1 in
      let k = member_of sources n.0 m.s m.there in
      record {
        some = λ e. subst (λ (l : Paths). 0 < length l) (sym m.inputs) (has_input m.s k (ap (λ (x : Setting). x.solution) (sym m.setting) ∙ e));
        ascending = subst (IsStrictlySortedBy bytes_cmp) (sym m.inputs) (ascends m.s k);
        inputs = λ path c. subst (λ (x : Setting). IsGoodInput tree x.root path) (sym m.setting) (good_input m.s path k (subst (λ (l : Paths). In l path) m.inputs (in_from p.inputs path c)));
        paths = λ folder e.
            let f : m.s.setting.folder ≡ Some folder = ap (λ (x : Setting). x.folder) (sym m.setting) ∙ e in
            record {
              info = good_info m.s folder k f;
              outputs = λ path text c d. good_output m.s folder path text k f (subst (λ (l : Paths). In l path) m.inputs (in_from p.inputs path c))
                  (subst (λ (x : Setting). In (texts_by folder (stem_text x.root path)) text) m.setting (in_from (texts_by folder (stem_text p.setting.root path)) text d));
            };
        digest = m.digest ∙ ap (λ (x : Setting). digest_in x.folder x) (sym m.setting);
      }

  good_upstream : (number : ℕ) (p : Project) → slice_get (made [] sources) number ≡ Some p → IsUpstream number p.upstream
  good_upstream number p e =
      let m = made_at number p e in
      let q = λ (n : ℕ). list_any (is_behind m.before n) m.s.setting.references in
      record {
        ascending = subst (IsStrictlySortedBy nat_cmp) (sym m.upstream) (IsStrictlySortedBy-filter nat_cmp q (range_with_len 0 (length m.before)) (range_ascends 0 (length m.before)));
        before = λ up c.
            let r = from_filter q (range_with_len 0 (length m.before)) up (in_from (upstream_of m.before m.s.setting) up (subst (λ (l : List ℕ). Contains l up) m.upstream c)) in
            omega (arith, (from_range up 0 (length m.before) r.0).1, m.count);
      }

  not_shared : (i j : ℕ) (r s : Sources) → i < j → slice_get sources i ≡ Some r → slice_get sources j ≡ Some s → are_shared r.setting.folder s.setting.folder ≡ false
  not_shared i j r s lt e f = elim (are_shared r.setting.folder s.setting.folder) as (λ b. are_shared r.setting.folder s.setting.folder ≡ b → b ≡ false) [
    | true ↦ λ t. absurd (nothing_in (nested_faults all_settings) (own_fault s.setting.config 5008 r.setting.config) no_nested (in_nested [] all_settings i j r.setting s.setting (omega arith) lt (setting_there sources i r e) (setting_there sources j s f) t))
    | false ↦ λ t. refl
  ] refl

  named_at : (number : ℕ) (p : Project) → slice_get (made [] sources) number ≡ Some p → (slice_get finished number ≡ Some p.setting.config) × (references_of tree p.setting.config ≡ p.setting.references)
  named_at number p e =
      let m = made_at number p e in
      let at : slice_get settings number ≡ Some m.s.setting = ap (λ (l : List Setting). slice_get l number) (sym (settings_are tree settings sources refl)) ∙ setting_there sources number m.s m.there in
      subst (λ (x : Setting). (slice_get finished number ≡ Some x.config) × (references_of tree x.config ≡ x.references)) (sym m.setting) (named number m.s.setting at)

  nth : (ps : List Project) (n : ℕ) → n < length ps → (q : Project) × (slice_get ps n ≡ Some q)
  nth [] n lt = absurd (omega arith)
  nth (q ∷ ps) zero lt = (q, refl)
  nth (q ∷ ps) (suc n) lt = nth ps n (omega arith)

  same_path : (a b : List ℕ) → Some a ≡ Some b → a ≡ b
  same_path a b e = cc

  good_references : (number : ℕ) (p : Project) (reference : List ℕ) → slice_get (made [] sources) number ≡ Some p → In p.setting.references reference
      → (up : ℕ) × (q : Project) × In p.upstream up × (slice_get (made [] sources) up ≡ Some q) × (q.setting.config ≡ reference)
  good_references number p reference e h =
      let m = made_at number p e in
      let at = named_at number p e in
      let j = behind_at (references_of tree) finished number p.setting.config reference behind at.0 (subst (λ (l : Paths). In l reference) (sym at.1) h) in
      let q = nth m.before j.0 (omega (arith, j.1, m.count)) in
      let there = m.kept j.0 q.0 q.1 in
      let config : q.0.setting.config ≡ reference = same_path q.0.setting.config reference (sym (named_at j.0 q.0 there).0 ∙ j.2) in
      let leads = λ (n : ℕ). list_any (is_behind m.before n) m.s.setting.references in
      let own : In m.s.setting.references reference = subst (λ (x : Setting). In x.references reference) m.setting h in
      let is : is_behind m.before j.0 reference ≡ true = or_first (is_config_of (slice_get m.before j.0) reference) (list_any (leads_to j.0 reference) m.before)
      (ap (λ (o : Option Project). is_config_of o reference) q.1 ∙ (bytes_eq-Decides q.0.setting.config reference).1 config) in (
        j.0,
        q.0,
        subst (λ (l : List ℕ). In l j.0) (sym m.upstream) (in_filter leads (range_with_len 0 (length m.before)) j.0 (in_range j.0 0 (length m.before) (omega arith) (omega (arith, j.1, m.count))) (any_in (is_behind m.before j.0) m.s.setting.references reference own is)),
        there,
        config,
      )

  good_pair : (i j : ℕ) (p q : Project) → i < j → slice_get (made [] sources) i ≡ Some p → slice_get (made [] sources) j ≡ Some q → AreApart p q
  good_pair i j p q lt e f =
      let m = made_at i p e in
      let n = made_at j q f in
      record {
        folders = ap (λ (x : Setting). are_shared x.folder q.setting.folder) m.setting ∙ ap (λ (x : Setting). are_shared m.s.setting.folder x.folder) n.setting ∙ not_shared i j m.s n.s lt m.there n.there;
        configs = λ same. distinct_at finished i j q.setting.config once lt ((named_at i p e).0 ∙ ap Some same) (named_at j q f).0;
        inputs = λ path c d. nothing_in (shared_faults sources) (own_fault n.s.setting.config 5015 path) no_shared
            (shared_by [] sources i j m.s n.s path lt m.there n.there (subst (λ (l : Paths). In l path) m.inputs (in_from p.inputs path c)) (subst (λ (l : Paths). In l path) n.inputs (in_from q.inputs path d)));
      }

  good_outside : (p q : Project) (path : List ℕ) → In (made [] sources) p → In (made [] sources) q → In (p.setting.read ++ p.inputs) path → is_inside_own q.setting.folder path ≡ false
  good_outside p q path h k c =
      let a = number_in (made [] sources) p h in
      let b = number_in (made [] sources) q k in
      let m = made_at a.0 p a.1 in
      let n = made_at b.0 q b.1 in
      let read : In (m.s.setting.read ++ m.s.inputs) path = subst (λ (l : Paths). In l path) (ap (λ (x : Setting). x.read ++ p.inputs) m.setting ∙ ap (λ (l : Paths). m.s.setting.read ++ l) m.inputs) c in
      ap (λ (x : Setting). is_inside_own x.folder path) n.setting
      ∙ never (own_fault n.s.setting.config 5009) (is_inside_own n.s.setting.folder) (kept_apart sources) path (none_from (λ x. covered_in (kept_apart sources) x.setting) sources n.s no_covered (member_of sources b.0 n.s n.there))
      (in_flat (λ x. x.setting.read ++ x.inputs) sources m.s path (member_of sources a.0 m.s m.there) read)

  -- ---- upstream is closed

  has_number : (us : List ℕ) (n : ℕ) → list_any (λ up. up == n) us ≡ true → In us n
  has_number us n e = let r = any_from (λ up. up == n) us e in subst (In us) (eqb-true r.0 n r.2) r.1

  number_has : (us : List ℕ) (n : ℕ) → In us n → list_any (λ up. up == n) us ≡ true
  number_has us n h = any_in (λ up. up == n) us n h (eq-eqb n n refl)

  config_there : (o : Option Project) (reference : List ℕ) → is_config_of o reference ≡ true → (p : Project) × (o ≡ Some p) × (bytes_eq p.setting.config reference ≡ true)
  config_there None reference e = absurd (cc)
  config_there (Some p) reference e = (p, refl, e)

  leads_on : (before : List Project) (reference : List ℕ) (far : ℕ) (r : Project) → In before r → bytes_eq r.setting.config reference ≡ true → In r.upstream far → is_behind before far reference ≡ true
  leads_on before reference far r h e k = or_second (is_config_of (slice_get before far) reference) (list_any (leads_to far reference) before)
      (any_in (leads_to far reference) before r h (and_true (bytes_eq r.setting.config reference) (list_any (λ up. up == far) r.upstream) e (number_has r.upstream far k)))

  closed_by : (bound number up far : ℕ) (p q : Project) → number < bound → slice_get (made [] sources) number ≡ Some p → slice_get (made [] sources) up ≡ Some q → In p.upstream up → In q.upstream far → In p.upstream far
  closed_by zero number up far p q lt e f h k = absurd (omega arith)
  closed_by (suc bound) number up far p q lt e f h k =
      let m = made_at number p e in
      let leads = λ (n : ℕ). list_any (is_behind m.before n) m.s.setting.references in
      let in' = from_filter leads (range_with_len 0 (length m.before)) up (subst (λ (l : List ℕ). In l up) m.upstream h) in
      let ref = any_from (is_behind m.before up) m.s.setting.references in'.1 in
      let lower = (good_upstream up q f).before far (in_back q.upstream far k) in
      let behind : is_behind m.before far ref.0 ≡ true = elim (or_cases (is_config_of (slice_get m.before up) ref.0) (list_any (leads_to up ref.0) m.before) ref.2) [
        | inl a ↦
            let c = config_there (slice_get m.before up) ref.0 a in
            let same : q ≡ c.0 = one_some q c.0 (sym f ∙ m.kept up c.0 c.1) in
            leads_on m.before ref.0 far c.0 (member_of m.before up c.0 c.1) c.2 (subst (λ (x : Project). In x.upstream far) same k)
        | inr b ↦
            let r = any_from (leads_to up ref.0) m.before b in
            let both = and_both (bytes_eq r.0.setting.config ref.0) (list_any (λ u. u == up) r.0.upstream) r.2 in
            let n = number_in m.before r.0 r.1 in
            leads_on m.before ref.0 far r.0 r.1 both.0
            (closed_by bound n.0 up far r.0 q (omega (arith, within m.before n.0 r.0 n.1, m.count)) (m.kept n.0 r.0 n.1) f (has_number r.0.upstream up both.1) k)
      ] in
      subst (λ (l : List ℕ). In l far) (sym m.upstream)
      (in_filter leads (range_with_len 0 (length m.before)) far
      (in_range far 0 (length m.before) (omega arith) (omega (arith, lower, (from_range up 0 (length m.before) in'.0).1)))
      (any_in (is_behind m.before far) m.s.setting.references ref.0 ref.1 behind))

  lawful_made : PlanOk tree (record { projects = made [] sources })
  lawful_made = record {
    each = λ p c. good_project p (in_from (made [] sources) p c);
    limits = within_limits;
    upstream = good_upstream;
    references = λ number p reference e c. let r = good_references number p reference e (in_from p.setting.references reference c) in (r.0, r.1, in_back p.upstream r.0 r.2, r.3, r.4);
    closed = λ number up far p q e f c d. in_back p.upstream far (closed_by (suc number) number up far p q (omega arith) e f (in_from p.upstream up c) (in_from q.upstream far d));
    apart = good_pair;
    outside = λ p q path c d e. good_outside p q path (in_from (made [] sources) p c) (in_from (made [] sources) q d) (in_from (p.setting.read ++ p.inputs) path e);
  }

  pub lawful_by : (plan : Plan) → plan ≡ record { projects = projects_of sources } → PlanOk tree plan
  lawful_by plan e = subst (PlanOk tree) (ap (λ (l : List Project). record { projects = l }) (sym (projects_made sources)) ∙ sym e) lawful_made

-- ---- from the plan

sound_same : (a b : Plan) → Sound a ≡ Sound b → a ≡ b
sound_same a b e = cc

faulted_not : (ds : List Diag) (status : Status) (plan : Plan) → Faulted ds status ≡ Sound plan → ⊥
faulted_not ds status plan e = cc

without_faults : (ds : List Diag) (status : Status) (planned : Planned) (plan : Plan) → unless_faulty ds status planned ≡ Sound plan → (ds ≡ []) × (planned ≡ Sound plan)
without_faults [] status planned plan e = (refl, e)
without_faults (d ∷ ds) status planned plan e = absurd (faulted_not (in_order (d ∷ ds)) status plan e)

pub lawful : (tree : Tree) (roots : Paths) (plan : Plan) → (visited tree roots).cycle ≡ None → plan_of tree roots ≡ Sound plan → PlanOk tree plan
lawful tree roots plan acyclic e =
    let visit : Visit = visited tree roots in
    let settings : List Setting = flat_map (λ config. setting_in (setting_of tree config)) visit.finished in
    let r = without_faults (first_faults tree visit) (status_by tree roots visit.cycle) (planned_of tree roots (sources_of tree settings)) plan (sym (plan_is tree roots) ∙ e) in
    let t = without_faults (second_faults tree roots (sources_of tree settings)) Skipped (Sound (record { projects = projects_of (sources_of tree settings) })) plan r.1 in
    let whole = no_first_part (flat_map (config_faults tree) visit.finished) (cycle_faults visit.cycle) r.0 in
    lawful_by tree roots settings t.0 (no_settings tree roots settings refl) visit.finished (all_distinct tree roots) (all_behind tree roots acyclic)
    (λ n s. settings_at tree visit.finished n s whole) plan (sym (sound_same (record { projects = projects_of (sources_of tree settings) }) plan t.1))

pub lawful_answer : (tree : Tree) (roots : Paths) (result : Result Plan PlanFault) → (visited tree roots).cycle ≡ None → Answers result (plan_of tree roots) → IfOk result (PlanOk tree)
lawful_answer tree roots (Ok plan) acyclic e = lawful tree roots plan acyclic e
lawful_answer tree roots (Err fault) acyclic e = tt

-- The plan, or its faults, from what is found one after the other.
use Rattle.std.proofs.Common.{◌≡◌, ℕ, zero, suc, ◌<◌, ◌≤◌, ◌==◌, ◌^◌, Bool, true, false, cond, List, [], ◌∷◌, ◌++◌, length, refl, sym, ap, subst, ◌∙◌, inl, inr, arith}
use Rattle.std.specs.Prelude.{nat_lt, map, codes}
use Rattle.std.specs.List.{flat_map}
use Rattle.std.specs.BTreeMap.{BTreeMap}
use Rattle.std.proofs.lemmas.Bool.{lt-ltb, cases_lt, false≢true, eqb-true}
use Rattle.tb_text.specs.declared.findings.Diag.{Diag}
use Rattle.tb_text.specs.declared.statuses.Status.TheVariants.{Skipped}
use Rattle.tb_config.specs.Settings.{setting_of}
use Rattle.tb_config.specs.declared.setting.Setting.{Setting}
use Rattle.tb_plan.specs.Faults.{fault_if, own_fault}
use Rattle.tb_plan.specs.Folders.{nested_faults, covered_faults}
use Rattle.tb_plan.specs.Inputs.{folders_of, inputs_of, sources_of, shared_faults}
use Rattle.tb_plan.specs.Limits.{most_projects, most_files, most_bytes_together, files_in, bytes_in, plan_limits, limit_faults, project_limits}
use Rattle.tb_plan.specs.Members.{HasSame}
use Rattle.tb_plan.specs.Orders.{Tree, Paths, visited_from, visited}
use Rattle.tb_plan.specs.Owners.{AreOwners}
use Rattle.tb_plan.specs.Plans.{Sound, first_faults, status_by, setting_in, source_faults, second_faults, unless_faulty, planned_of, planned_by, plan_of}
use Rattle.tb_plan.specs.Projects.{projects_of}
use Rattle.tb_plan.specs.declared.plans.Project.{Project}
use Rattle.tb_plan.specs.declared.sources.Sources.{Sources}
use Rattle.tb_plan.proofs.Covered.{same_trans}
use Rattle.tb_plan.proofs.Members.{in_from, in_back, in_left, in_right, in_append, same_by, same_itself, same_append}
use Rattle.tb_plan.proofs.Placed.{none_left, no_more}

-- ---- sources

abbrev with_inputs : (Setting → Paths) → Setting → Sources
with_inputs f s = record { setting = s; inputs = f s }

abbrev setting_of_source : Sources → Setting
setting_of_source p = p.setting

settings_back : (f : Setting → Paths) (settings : List Setting) → map setting_of_source (map (with_inputs f) settings) ≡ settings
settings_back f [] = refl
settings_back f (s ∷ settings) = ap (λ (l : List Setting). s ∷ l) (settings_back f settings)

as_many : (f : Setting → Paths) (settings : List Setting) → length (map (with_inputs f) settings) ≡ length settings
as_many f [] = refl
as_many f (s ∷ settings) = ap suc (as_many f settings)

pub settings_are : (tree : Tree) (settings : List Setting) (sources : List Sources) → sources ≡ sources_of tree settings → map (λ p. p.setting) sources ≡ settings
settings_are tree settings sources e = ap (λ (l : List Sources). map (λ p. p.setting) l) e ∙ settings_back (inputs_of tree (folders_of settings)) settings

pub many_sources : (tree : Tree) (settings : List Setting) (sources : List Sources) → sources ≡ sources_of tree settings → length sources ≡ length settings
many_sources tree settings sources e = ap length e ∙ as_many (inputs_of tree (folders_of settings)) settings

pub own_again : (tree : Tree) (settings : List Setting) (sources front : List Sources) (owners : BTreeMap (List ℕ) (List ℕ)) → AreOwners settings owners (length settings) → sources ≡ sources_of tree settings → front ≡ sources
    → AreOwners (map (λ p. p.setting) front) owners (length front)
own_again tree settings sources front owners own e f =
    subst (λ (l : List Sources). AreOwners (map (λ p. p.setting) l) owners (length l)) (sym f)
    (subst (λ (l : List Setting). AreOwners l owners (length sources)) (sym (settings_are tree settings sources e)) (subst (λ n. AreOwners settings owners n) (sym (many_sources tree settings sources e)) own))

-- ---- all second faults

pub four_pieces : (start one two three four a b c d : List Diag) → one ≡ start ++ a → two ≡ one ++ b → HasSame three (two ++ c) → four ≡ three ++ d → HasSame four (start ++ a ++ b ++ c ++ d)
four_pieces start one two three four a b c d e f h g =
    let k : HasSame three (start ++ a ++ b ++ c) = subst (λ (l : List Diag). HasSame three (l ++ c)) (f ∙ ap (λ (l : List Diag). l ++ b) e) h in
    subst (λ (l : List Diag). HasSame l (start ++ a ++ b ++ c ++ d)) (sym g) (same_append three (start ++ a ++ b ++ c) d d k (same_itself d))

same_turn : (old nested a b : List Diag) → HasSame old nested → HasSame (old ++ a ++ b) (a ++ b ++ nested)
same_turn old nested a b h = same_by (old ++ a ++ b) (a ++ b ++ nested)
    (λ d k. elim (in_append (old ++ a) b d k) [
      | inl l ↦ elim (in_append old a d l) [
        | inl o ↦ in_right (a ++ b) nested d (in_from nested d (h.into d (in_back old d o)))
        | inr m ↦ in_left (a ++ b) nested d (in_left a b d m)
      ]
      | inr r ↦ in_left (a ++ b) nested d (in_right a b d r)
    ])
    (λ d k. elim (in_append (a ++ b) nested d k) [
      | inl l ↦ elim (in_append a b d l) [
        | inl m ↦ in_left (old ++ a) b d (in_right old a d m)
        | inr r ↦ in_right (old ++ a) b d r
      ]
      | inr o ↦ in_left (old ++ a) b d (in_left old a d (in_from old d (h.back d (in_back nested d o))))
    ])

pub second_same : (tree : Tree) (roots : Paths) (settings : List Setting) (sources front : List Sources) (none old faults : List Diag) → sources ≡ sources_of tree settings → front ≡ sources → none ≡ [] → HasSame old (none ++ nested_faults settings)
    → HasSame faults (old ++ flat_map (source_faults tree) front ++ shared_faults front ++ covered_faults front ++ limit_faults tree roots front) → HasSame faults (second_faults tree roots (sources_of tree settings))
second_same tree roots settings sources front none old faults e f n h k =
    let flat : List Diag = flat_map (source_faults tree) front in
    let nested : List Diag = nested_faults (map (λ p. p.setting) front) in
    let all : map (λ p. p.setting) front ≡ settings = ap (λ (l : List Sources). map (λ p. p.setting) l) f ∙ settings_are tree settings sources e in
    let first : HasSame old nested = subst (λ (l : List Setting). HasSame old (nested_faults l)) (sym all) (subst (λ (l : List Diag). HasSame old (l ++ nested_faults settings)) n h) in
    subst (λ (l : List Sources). HasSame faults (second_faults tree roots l)) (f ∙ e)
    (same_trans faults (old ++ flat ++ shared_faults front ++ covered_faults front ++ limit_faults tree roots front) (second_faults tree roots front) k
    (same_append (old ++ flat ++ shared_faults front ++ covered_faults front) (flat ++ shared_faults front ++ nested ++ covered_faults front) (limit_faults tree roots front) (limit_faults tree roots front)
    (same_append (old ++ flat ++ shared_faults front) (flat ++ shared_faults front ++ nested) (covered_faults front) (covered_faults front) (same_turn old nested flat (shared_faults front) first) (same_itself (covered_faults front)))
    (same_itself (limit_faults tree roots front))))

-- ---- no faults

pub no_first_part : {X : Type 0} (xs ys : List X) → xs ++ ys ≡ [] → xs ≡ []
no_first_part [] ys e = refl
no_first_part (x ∷ xs) ys e = absurd (cc)

pub within_limit : (most n : ℕ) (config first : List ℕ) → fault_if (nat_lt most n) config 5012 first ≡ [] → n ≤ most
within_limit most n config first e = elim (cases_lt most n) [
  | inl lt ↦ absurd (some_fault (own_fault config 5012 first) (sym (ap (λ b. cond b (own_fault config 5012 first ∷ []) []) (lt-ltb most n lt)) ∙ e))
  | inr ge ↦ ge
]
  where
    some_fault : (d : Diag) → d ∷ [] ≡ [] → ⊥
    some_fault d e = cc

few_by : (tree : Tree) (roots : Paths) (projects : List Sources) → plan_limits tree roots projects ≡ [] → (roots ≡ [] → length projects ≡ 0) → length projects < 2 ^ 32
few_by tree [] projects e none = omega (arith, none refl)
few_by tree (root ∷ roots) projects e none =
    let files : List Diag = fault_if (nat_lt most_files (files_in projects)) root 5012 (codes "files") in
    let bytes : List Diag = fault_if (nat_lt most_bytes_together (bytes_in tree projects)) root 5012 (codes "bytes") in
    let first : List Diag = fault_if (nat_lt most_projects (length projects)) root 5012 (codes "projects") in
    let le = within_limit most_projects (length projects) root (codes "projects") (no_first_part first files (no_first_part (first ++ files) bytes e)) in
    omega (arith, le)

pub few_sources : (tree : Tree) (roots : Paths) (settings : List Setting) (sources : List Sources) → second_faults tree roots (sources_of tree settings) ≡ [] → sources ≡ sources_of tree settings → (roots ≡ [] → settings ≡ []) → length sources < 2 ^ 32
few_sources tree roots settings sources e is none =
    let projects : List Sources = sources_of tree settings in
    let limits : limit_faults tree roots projects ≡ [] = no_more (flat_map (source_faults tree) projects ++ shared_faults projects ++ nested_faults (map (λ p. p.setting) projects) ++ covered_faults projects) (limit_faults tree roots projects) e in
    subst (λ (l : List Sources). length l < 2 ^ 32) (sym is)
    (few_by tree roots projects (no_first_part (plan_limits tree roots projects) (flat_map (project_limits tree) projects) limits)
    (λ r. many_sources tree settings projects refl ∙ ap length (none r)))

pub some_faults : (b : Bool) (n m : ℕ) → b ≡ (n == 0) → n ≡ m → b ≡ false → 0 < m
some_faults b zero m e k f = absurd (false≢true (sym f ∙ e))
some_faults b (suc n) m e k f = omega (arith, k)

pub empty_faults : (b : Bool) (n m : ℕ) → b ≡ (n == 0) → n ≡ m → b ≡ true → m ≡ 0
empty_faults b n m e k f = sym k ∙ eqb-true n 0 (sym e ∙ f)

pub no_faults : (faults all : List Diag) → length faults ≡ 0 → HasSame faults all → all ≡ []
no_faults [] all e h = none_left all h
no_faults (d ∷ faults) all e h = absurd (omega arith)

pub sound : (tree : Tree) (roots : Paths) (settings : List Setting) (sources : List Sources) (projects : List Project) → second_faults tree roots (sources_of tree settings) ≡ [] → sources ≡ sources_of tree settings → projects ≡ projects_of sources
    → planned_of tree roots (sources_of tree settings) ≡ Sound (record { projects = projects })
sound tree roots settings sources projects e is p =
    ap (λ (l : List Diag). unless_faulty l Skipped (Sound (record { projects = projects_of (sources_of tree settings) }))) e
    ∙ ap (λ (l : List Project). Sound (record { projects = l })) (sym (p ∙ ap projects_of is))

-- ---- the whole plan

pub plan_is : (tree : Tree) (roots : Paths) → plan_of tree roots ≡ planned_by tree roots (visited tree roots)
unfolding plan_of
plan_is tree roots = refl

pub nothing_visited : (tree : Tree) → (visited tree []).finished ≡ []
unfolding visited visited_from
nothing_visited tree = refl

pub goes_on : (tree : Tree) (roots : Paths) (settings : List Setting) → first_faults tree (visited tree roots) ≡ [] → settings ≡ flat_map (λ config. setting_in (setting_of tree config)) (visited tree roots).finished
    → planned_of tree roots (sources_of tree settings) ≡ plan_of tree roots
goes_on tree roots settings e is =
    ap (λ (l : List Setting). planned_of tree roots (sources_of tree l)) is
    ∙ sym (ap (λ (l : List Diag). unless_faulty l (status_by tree roots (visited tree roots).cycle) (planned_of tree roots (sources_of tree (flat_map (λ config. setting_in (setting_of tree config)) (visited tree roots).finished)))) e)
    ∙ sym (plan_is tree roots)

pub no_settings : (tree : Tree) (roots : Paths) (settings : List Setting) → settings ≡ flat_map (λ config. setting_in (setting_of tree config)) (visited tree roots).finished → roots ≡ [] → settings ≡ []
no_settings tree roots settings is none =
    is ∙ ap (λ (l : Paths). flat_map (λ config. setting_in (setting_of tree config)) (visited tree l).finished) none ∙ ap (λ (l : Paths). flat_map (λ config. setting_in (setting_of tree config)) l) (nothing_visited tree)

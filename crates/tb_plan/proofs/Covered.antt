-- The faults of paths inside output folders, in any order.
use Rattle.std.proofs.Common.{◌≡◌, ℕ, zero, suc, ◌+◌, ◌<◌, true, List, [], ◌∷◌, ◌++◌, length, get_or, take, refl, sym, ap, subst, ◌∙◌, inl, inr, append_assoc}
use Rattle.std.specs.Prelude.{map, slice_get, Option, Some, None}
use Rattle.std.specs.List.{filter, flat_map}
use Rattle.tb_text.specs.Paths.{is_inside}
use Rattle.tb_text.specs.declared.findings.Diag.{Diag}
use Rattle.tb_config.specs.declared.setting.Setting.{Setting}
use Rattle.tb_plan.specs.Faults.{own_fault}
use Rattle.tb_plan.specs.Folders.{is_inside_own, kept_apart, covered_in, covered_faults}
use Rattle.tb_plan.specs.Members.{HasSame}
use Rattle.tb_plan.specs.Orders.{Paths}
use Rattle.tb_plan.specs.Owners.{folder_at, folder_by, AreOwners, AreAround}
use Rattle.std.specs.BTreeMap.{BTreeMap}
use Rattle.std.proofs.lemmas.List.{length-map}
use Rattle.tb_plan.specs.Covers.{covered_at, fault_of, fault_by}
use Rattle.tb_plan.specs.declared.sources.Sources.{Sources}
use Rattle.tb_plan.proofs.Members.{In, in_from, in_back, in_map, from_map, in_filter, from_filter, in_flat, from_flat, same_by, same_append, same_itself, taken}
use Rattle.tb_plan.proofs.Firsts.{flat_push}

pub same_trans : {X : Type 0} (xs ys zs : List X) → HasSame xs ys → HasSame ys zs → HasSame xs zs
same_trans xs ys zs a b = record { into = λ x c. b.into x (a.into x c); back = λ x c. a.back x (b.back x c) }

-- one more piece
pub same_step : (start so_far done piece new whole : List Diag) → HasSame so_far (start ++ done) → HasSame new (so_far ++ piece) → whole ≡ done ++ piece → HasSame new (start ++ whole)
same_step start so_far done piece new whole a b e =
    let c = same_trans new (so_far ++ piece) ((start ++ done) ++ piece) b (same_append so_far (start ++ done) piece piece a (same_itself piece)) in
    subst (λ (l : List Diag). HasSame new l) (append_assoc start done piece ∙ ap (λ (l : List Diag). start ++ l) (sym e)) c

-- ---- the projects around a path

pub setting_there : (projects : List Sources) (n : ℕ) (p : Sources) → slice_get projects n ≡ Some p → slice_get (map (λ q. q.setting) projects) n ≡ Some p.setting
setting_there [] n p e = absurd (cc)
setting_there (q ∷ projects) zero p e = ap Some (one_setting q p e)
  where
    one_setting : (q p : Sources) → Some q ≡ Some p → q.setting ≡ p.setting
    one_setting q p e = let same : q ≡ p = cc in ap (λ (x : Sources). x.setting) same
setting_there (q ∷ projects) (suc n) p e = setting_there projects n p e

number_of : (projects : List Sources) (p : Sources) → In projects p → (n : ℕ) × (slice_get projects n ≡ Some p)
number_of [] p h = absurd h
number_of (q ∷ projects) p h = elim h [ inl e ↦ (0, ap Some e) | inr t ↦ let r = number_of projects p t in (suc r.0, r.1) ]

project_of : (projects : List Sources) (n : ℕ) (folder : List ℕ) → folder_at (map (λ q. q.setting) projects) n ≡ Some folder → (p : Sources) × (slice_get projects n ≡ Some p) × In projects p × (p.setting.folder ≡ Some folder)
project_of [] n folder e = absurd (cc)
project_of (q ∷ projects) zero folder e = (q, refl, inl refl, e)
project_of (q ∷ projects) (suc n) folder e = let r = project_of projects n folder e in (r.0, r.1, inr r.2, r.3)

inside_some : (o : Option (List ℕ)) (path : List ℕ) → is_inside_own o path ≡ true → (folder : List ℕ) × (o ≡ Some folder) × (is_inside folder path ≡ true)
inside_some None path e = absurd (cc)
inside_some (Some folder) path e = (folder, refl, e)

at_folder : (projects : List Sources) (n : ℕ) (p : Sources) → slice_get projects n ≡ Some p → folder_at (map (λ q. q.setting) projects) n ≡ p.setting.folder
at_folder projects n p e = ap folder_by (setting_there projects n p e)

pub around_same : (projects : List Sources) (path : List ℕ) (numbers : List ℕ) → AreAround (map (λ q. q.setting) projects) path numbers → HasSame (flat_map (fault_by projects path) numbers) (covered_at projects path)
around_same projects path numbers h = same_by (flat_map (fault_by projects path) numbers) (covered_at projects path)
    (λ d k.
    let r = from_flat (fault_by projects path) numbers d k in
    let f = h.only r.0 (in_back numbers r.0 r.1) in
    let p = project_of projects r.0 f.0 f.1 in
    let one : In (own_fault p.0.setting.config 5009 path ∷ []) d = subst (λ (o : Option Sources). In (fault_of path o) d) p.1 r.2 in
    elim one [
      | inl e ↦ subst (In (covered_at projects path)) e (in_map (λ q. own_fault q.setting.config 5009 path) (filter (λ q. is_inside_own q.setting.folder path) projects) p.0
          (in_filter (λ q. is_inside_own q.setting.folder path) projects p.0 p.2 (ap (λ (o : Option (List ℕ)). is_inside_own o path) p.3 ∙ f.2)))
      | inr n ↦ absurd n
    ])
    (λ d k.
    let r = from_map (λ q. own_fault q.setting.config 5009 path) (filter (λ q. is_inside_own q.setting.folder path) projects) d k in
    let q = from_filter (λ q. is_inside_own q.setting.folder path) projects r.0 r.1 in
    let n = number_of projects r.0 q.0 in
    let f = inside_some r.0.setting.folder path q.1 in
    let at : folder_at (map (λ q. q.setting) projects) n.0 ≡ Some f.0 = at_folder projects n.0 r.0 n.1 ∙ f.1 in
    in_flat (fault_by projects path) numbers n.0 d (in_from numbers n.0 (h.each n.0 f.0 at f.2)) (subst (λ (o : Option Sources). In (fault_of path o) d) (sym n.1) (inl r.2)))

-- ---- one loop inside the other, either way

pub covered_same : (projects : List Sources) → HasSame (flat_map (λ p. flat_map (covered_at projects) (p.setting.read ++ p.inputs)) projects) (covered_faults projects)
covered_same projects = same_by _ (covered_faults projects)
    (λ d k.
    let r = from_flat (λ p. flat_map (covered_at projects) (p.setting.read ++ p.inputs)) projects d k in
    let q = from_flat (covered_at projects) (r.0.setting.read ++ r.0.inputs) d r.2 in
    let m = from_map (λ x. own_fault x.setting.config 5009 q.0) (filter (λ x. is_inside_own x.setting.folder q.0) projects) d q.2 in
    let f = from_filter (λ x. is_inside_own x.setting.folder q.0) projects m.0 m.1 in
    in_flat (λ x. covered_in (kept_apart projects) x.setting) projects m.0 d f.0
    (subst (In (covered_in (kept_apart projects) m.0.setting)) m.2
    (in_map (own_fault m.0.setting.config 5009) (filter (is_inside_own m.0.setting.folder) (kept_apart projects)) q.0
    (in_filter (is_inside_own m.0.setting.folder) (kept_apart projects) q.0 (in_flat (λ x. x.setting.read ++ x.inputs) projects r.0 q.0 r.1 q.1) f.1))))
    (λ d k.
    let r = from_flat (λ x. covered_in (kept_apart projects) x.setting) projects d k in
    let m = from_map (own_fault r.0.setting.config 5009) (filter (is_inside_own r.0.setting.folder) (kept_apart projects)) d r.2 in
    let f = from_filter (is_inside_own r.0.setting.folder) (kept_apart projects) m.0 m.1 in
    let q = from_flat (λ x. x.setting.read ++ x.inputs) projects m.0 f.0 in
    in_flat (λ p. flat_map (covered_at projects) (p.setting.read ++ p.inputs)) projects q.0 d q.1
    (in_flat (covered_at projects) (q.0.setting.read ++ q.0.inputs) m.0 d q.2
    (subst (In (covered_at projects m.0)) m.2
    (in_map (λ x. own_fault x.setting.config 5009 m.0) (filter (λ x. is_inside_own x.setting.folder m.0) projects) r.0
    (in_filter (λ x. is_inside_own x.setting.folder m.0) projects r.0 r.1 f.1)))))

-- ---- as the code goes

pub around_all : (projects : List Sources) (owners : BTreeMap (List ℕ) (List ℕ)) (path : List ℕ) (numbers front : List ℕ) (start faults : List Diag) → AreOwners (map (λ q. q.setting) projects) owners (length projects)
    → ((settings : List Setting) → AreOwners settings owners (length settings) → AreAround settings path numbers) → front ≡ numbers → faults ≡ start ++ flat_map (fault_by projects path) front
    → HasSame faults (start ++ covered_at projects path)
around_all projects owners path numbers front start faults own around all is =
    let settings : List Setting = map (λ q. q.setting) projects in
    let many : length projects ≡ length settings = sym (length-map projects (λ q. q.setting)) in
    let h = around settings (subst (AreOwners settings owners) many own) in
    subst (λ (l : List Diag). HasSame l (start ++ covered_at projects path)) (sym (is ∙ ap (λ (l : List ℕ). start ++ flat_map (fault_by projects path) l) all))
    (same_append start start (flat_map (fault_by projects path) numbers) (covered_at projects path) (same_itself start) (around_same projects path numbers h))

pub flat_next : {X : Type 0} (f : X → List Diag) (xs : List X) (i : ℕ) (x : X) → i < length xs → x ≡ get_or xs i x → flat_map f (take (i + 1) xs) ≡ flat_map f (take i xs) ++ f x
flat_next f xs i x lt at = ap (λ l. flat_map f l) (taken xs i x lt at) ∙ flat_push f (take i xs) x

flat_two : (f : List ℕ → List Diag) (xs ys : Paths) → flat_map f (xs ++ ys) ≡ flat_map f xs ++ flat_map f ys
flat_two f [] ys = refl
flat_two f (x ∷ xs) ys = ap (λ (l : List Diag). f x ++ l) (flat_two f xs ys) ∙ sym (append_assoc (f x) (flat_map f xs) (flat_map f ys))

pub two_steps : (f : List ℕ → List Diag) (start one two : List Diag) (xs ys : Paths) → HasSame one (start ++ flat_map f xs) → HasSame two (one ++ flat_map f ys) → HasSame two (start ++ flat_map f (xs ++ ys))
two_steps f start one two xs ys a b = same_step start one (flat_map f xs) (flat_map f ys) two (flat_map f (xs ++ ys)) a b (flat_two f xs ys)

-- The configs of the settings are those that the visit finishes, each after what it references.
use Rattle.std.proofs.Common.{◌≡◌, ℕ, zero, suc, ◌<◌, List, [], ◌∷◌, ◌++◌, length, take, refl, sym, ap, subst, ◌∙◌, inl, inr, arith, append_assoc, append-nil}
use Rattle.std.specs.Prelude.{slice_get, Some, None}
use Rattle.std.specs.List.{flat_map}
use Rattle.std.specs.FinMap.{get, keys}
use Rattle.tb_text.specs.Findings.{diag_cmp}
use Rattle.tb_text.specs.declared.findings.Diag.{Diag}
use Rattle.tb_text.proofs.Order.{diag_equal}
use Rattle.tb_config.specs.Configs.{Content, Missing, Unreadable, Object, Config, content_in}
use Rattle.tb_config.specs.Faults as config
use Rattle.tb_config.specs.Settings.{Reads, Good, Faulty, judged, setting_by_content, setting_of, chain_of, configs_of, circles_of}
use Rattle.tb_config.specs.declared.setting.Setting.{Setting}
use Rattle.tb_plan.specs.Orders.{Tree, Paths, begun, references_of, given_by, visited}
use Rattle.tb_plan.specs.Plans.{faults_in, setting_in, config_faults, composite_faults}
use Rattle.tb_plan.proofs.Among.{is_file_or_none}
use Rattle.tb_plan.proofs.Members.{In}
use Rattle.tb_plan.proofs.Searched.{no_file}
use Rattle.tb_plan.proofs.Sorted.{in_fold}
use Rattle.tb_plan.proofs.Visited.{HasRoom, Went, went, Distinct, Behind}

-- ---- the visit

file_of : (tree : Tree) (c r : List ℕ) → In (references_of tree c) r → In (keys tree) c
file_of tree c r k = elim (is_file_or_none tree c) [
  | inl none ↦ absurd (subst (λ (l : Paths). In l r) (no_file tree c none) k)
  | inr f ↦ f
]

room_for : (tree : Tree) (todo : Paths) → HasRoom (keys tree) (suc (length (keys tree))) [] todo
room_for tree todo = record { size = omega arith; once = tt; known = λ c k p n. absurd n }

went_whole : (tree : Tree) (roots : Paths) → Went (references_of tree) (λ c. Unit {0}) [] begun (visited tree roots) roots
unfolding visited
went_whole tree roots = went (keys tree) (references_of tree) (λ c. Unit {0}) (file_of tree) (λ c r u k. tt) (suc (length (keys tree))) [] begun roots (room_for tree roots)

pub all_distinct : (tree : Tree) (roots : Paths) → Distinct (visited tree roots).finished
all_distinct tree roots = (went_whole tree roots).once (λ c h k. absurd h) tt

pub all_behind : (tree : Tree) (roots : Paths) → (visited tree roots).cycle ≡ None → Behind (references_of tree) [] (visited tree roots).finished
all_behind tree roots none = (went_whole tree roots).behind none tt

pub distinct_at : (xs : Paths) (i j : ℕ) (x : List ℕ) → Distinct xs → i < j → slice_get xs i ≡ Some x → slice_get xs j ≡ Some x → ⊥
distinct_at [] i j x d lt e f = cc
distinct_at (y ∷ xs) i zero x d lt e f = omega arith
distinct_at (y ∷ xs) zero (suc j) x d lt e f = d.0 (subst (In xs) (sym (one y x e)) (there xs j x f))
  where
    one : (a b : List ℕ) → Some a ≡ Some b → a ≡ b
    one a b e = cc

    there : (xs : Paths) (n : ℕ) (x : List ℕ) → slice_get xs n ≡ Some x → In xs x
    there [] n x e = absurd (cc)
    there (y ∷ xs) zero x e = inl (one y x e)
    there (y ∷ xs) (suc n) x e = inr (there xs n x e)
distinct_at (y ∷ xs) (suc i) (suc j) x d lt e f = distinct_at xs i j x d.1 (omega arith) e f

behind_in : (refs : List ℕ → Paths) (before xs : Paths) (k : ℕ) (c r : List ℕ) → Behind refs before xs → slice_get xs k ≡ Some c → In (refs c) r → In (before ++ take k xs) r
behind_in refs before [] k c r b e h = absurd (cc)
behind_in refs before (y ∷ xs) zero c r b e h =
    let same : y ≡ c = one y c e in
    subst (λ (l : Paths). In l r) (sym (append-nil before)) (b.0 r (subst (λ (x : List ℕ). In (refs x) r) (sym same) h))
  where
    one : (a b : List ℕ) → Some a ≡ Some b → a ≡ b
    one a b e = cc
behind_in refs before (y ∷ xs) (suc k) c r b e h = subst (λ (l : Paths). In l r) (append_assoc before (y ∷ []) (take k xs)) (behind_in refs (before ++ y ∷ []) xs k c r b.1 e h)

taken_at : (xs : Paths) (k : ℕ) (r : List ℕ) → In (take k xs) r → (j : ℕ) × (j < k) × (slice_get xs j ≡ Some r)
taken_at [] zero r h = absurd h
taken_at [] (suc k) r h = absurd h
taken_at (y ∷ xs) zero r h = absurd h
taken_at (y ∷ xs) (suc k) r h = elim h [
  | inl e ↦ (0, omega arith, ap Some e)
  | inr t ↦ let a = taken_at xs k r t in (suc a.0, omega (arith, a.1), a.2)
]

pub behind_at : (refs : List ℕ → Paths) (xs : Paths) (k : ℕ) (c r : List ℕ) → Behind refs [] xs → slice_get xs k ≡ Some c → In (refs c) r → (j : ℕ) × (j < k) × (slice_get xs j ≡ Some r)
behind_at refs xs k c r b e h = taken_at xs k r (behind_in refs [] xs k c r b e h)

-- ---- the settings

judged_good : (t s : Setting) (ds : List Diag) → judged t ds ≡ Good s → s.config ≡ t.config
judged_good t s [] e = let same : t ≡ s = cc in ap (λ (x : Setting). x.config) (sym same)
judged_good t s (d ∷ ds) e = absurd (cc)

judged_faulty : (t : Setting) (found ds : List Diag) → judged t ds ≡ Faulty found → found ≡ [] → ⊥
judged_faulty t found [] e none = absurd (cc)
judged_faulty t found (d ∷ ds) e none =
    let same : config.in_order (d ∷ ds) ≡ found = cc in
    subst (λ (l : List Diag). In l d) (same ∙ none) (in_fold diag_cmp diag_equal (d ∷ ds) d (inl refl))

good_at : (x : Content) (chain : ℕ) (path : List ℕ) (configs : List Config) (circles : Paths) (s : Setting) → setting_by_content x chain (record { path = path; content = x }) configs circles ≡ Good s → s.config ≡ path
good_at Missing chain path configs circles s e = absurd (cc)
good_at Unreadable chain path configs circles s e = absurd (cc)
good_at (Object d) chain path configs circles s e = judged_good _ s _ e

faulty_at : (x : Content) (chain : ℕ) (path : List ℕ) (configs : List Config) (circles : Paths) (found : List Diag) → setting_by_content x chain (record { path = path; content = x }) configs circles ≡ Faulty found → found ≡ [] → ⊥
faulty_at Missing chain path configs circles found e none = absurd (cc)
faulty_at Unreadable chain path configs circles found e none = absurd (cc)
faulty_at (Object d) chain path configs circles found e none = judged_faulty _ found _ e none

reads_good : (tree : Tree) (c : List ℕ) (r : Reads) → setting_of tree c ≡ r → faults_in r ≡ [] → (s : Setting) × (r ≡ Good s) × (s.config ≡ c)
reads_good tree c (Good s) e none = (s, refl, good_at (content_in (get tree c)) (chain_of tree c) c (configs_of tree c) (circles_of tree c) s e)
reads_good tree c (Faulty found) e none = absurd (faulty_at (content_in (get tree c)) (chain_of tree c) c (configs_of tree c) (circles_of tree c) found e none)

no_front : {X : Type 0} (xs ys : List X) → xs ++ ys ≡ [] → xs ≡ []
no_front [] ys e = refl
no_front (x ∷ xs) ys e = absurd (cc)

no_back : {X : Type 0} (xs ys : List X) → xs ++ ys ≡ [] → ys ≡ []
no_back [] ys e = e
no_back (x ∷ xs) ys e = absurd (cc)

-- one setting in front of others
first_or : (tree : Tree) (c : List ℕ) (configs : Paths) (rest : List Setting) (s t : Setting) (n : ℕ) → setting_of tree c ≡ Good t → t.config ≡ c → slice_get (t ∷ rest) n ≡ Some s
    → ((m : ℕ) → slice_get rest m ≡ Some s → (slice_get configs m ≡ Some s.config) × (references_of tree s.config ≡ s.references)) → (slice_get (c ∷ configs) n ≡ Some s.config) × (references_of tree s.config ≡ s.references)
first_or tree c configs rest s t zero is at e others =
    let same : t ≡ s = one t s e in (
      ap Some (sym at ∙ ap (λ (x : Setting). x.config) same),
      ap (references_of tree) (ap (λ (x : Setting). x.config) (sym same) ∙ at) ∙ ap given_by is ∙ ap (λ (x : Setting). x.references) same,
    )
  where
    one : (a b : Setting) → Some a ≡ Some b → a ≡ b
    one a b e = cc
first_or tree c configs rest s t (suc n) is at e others = others n e

pub settings_at : (tree : Tree) (configs : Paths) (n : ℕ) (s : Setting) → flat_map (config_faults tree) configs ≡ [] → slice_get (flat_map (λ c. setting_in (setting_of tree c)) configs) n ≡ Some s
    → (slice_get configs n ≡ Some s.config) × (references_of tree s.config ≡ s.references)
settings_at tree [] n s none e = absurd (cc)
settings_at tree (c ∷ configs) n s none e =
    let front = no_front (config_faults tree c) (flat_map (config_faults tree) configs) none in
    let r = reads_good tree c (setting_of tree c) refl (no_front (faults_in (setting_of tree c)) (composite_faults tree (setting_of tree c)) front) in
    first_or tree c configs (flat_map (λ d. setting_in (setting_of tree d)) configs) s r.0 n r.1 r.2
    (ap (λ (x : Reads). slice_get (setting_in x ++ flat_map (λ d. setting_in (setting_of tree d)) configs) n) (sym r.1) ∙ e)
    (λ m k. settings_at tree configs m s (no_back (config_faults tree c) (flat_map (config_faults tree) configs) none) k)

-- Upstream projects, as they are marked one after the other.
use Rattle.std.proofs.Common.{◌≡◌, ℕ, zero, suc, ◌+◌, ◌<◌, ◌==◌, Bool, true, false, cond, List, [], ◌∷◌, ◌++◌, length, get_or, take, refl, sym, ap, subst, ◌∙◌, inl, inr, arith, replicate}
use Rattle.std.specs.Prelude.{◌||◌, Contains, fold, slice_get, slice_index_or, Option, Some, None}
use Rattle.std.specs.List.{filter, list_any, range_with_len}
use Rattle.std.specs.BTreeMap.{BTreeMap, IsEmpty, is_at}
use Rattle.std.specs.Map.{lookup}
use Rattle.std.specs.Str.{bytes_eq}
use Rattle.std.proofs.lemmas.Bool.{cases_lt, eq-eqb, eqb-true}
use Rattle.std.proofs.lemmas.List.{length_push, get_or-replicate}
use Rattle.std.proofs.lemmas.List.Elements.{Contains-append_left, Contains-push, Contains-push_cases, filter-append}
use Rattle.std.proofs.lemmas.List.Folds.{list_any-append}
use Rattle.std.proofs.lemmas.Slice.Eq.{bytes_eq-Decides}
use Rattle.tb_text.specs.Bytes.{bytes_cmp}
use Rattle.tb_text.proofs.Segments.{and_both}
use Rattle.tb_plan.specs.Orders.{Paths}
use Rattle.tb_plan.specs.Owners.{numbers_in, owners_at}
use Rattle.tb_plan.specs.Projects.{is_config_of, leads_to, is_behind, upstream_of, digest_in, with_project, projects_of}
use Rattle.tb_plan.specs.Upstream.{AreConfigs, upstream_in, is_met_by, Marks}
use Rattle.tb_plan.specs.declared.plans.Project.{Project}
use Rattle.tb_plan.specs.declared.sources.Sources.{Sources}
use Rattle.tb_plan.proofs.Among.{any_from, any_in}
use Rattle.tb_plan.proofs.Found.{and_true, or_cases, or_first, or_second}
use Rattle.tb_plan.proofs.Members.{In, in_from, in_back, taken}
use Rattle.tb_plan.proofs.Numbered.{at_itself, at_same}
use Rattle.tb_plan.proofs.Pairs.{from_range, range_push, within, left_get, number_in, at_length}
use Rattle.tb_plan.proofs.Seen.{both_ways}

some_one : {X : Type 0} (a b : X) → Some a ≡ Some b → a ≡ b
some_one a b e = cc

-- ---- what a reference leads to

module _ (before : List Project) (configs : BTreeMap (List ℕ) (List ℕ)) (h : AreConfigs before configs) (reference : List ℕ) (n : ℕ) where
  same_config : (p : Project) → p.setting.config ≡ reference → bytes_eq p.setting.config reference ≡ true
  same_config p e = (bytes_eq-Decides p.setting.config reference).1 e

  member : (k : ℕ) (p : Project) (ps : List Project) → slice_get ps k ≡ Some p → In ps p
  member k p [] e = absurd (cc)
  member zero p (q ∷ ps) e = inl (some_one q p e)
  member (suc k) p (q ∷ ps) e = inr (member k p ps e)

  met_behind : (k : ℕ) (p : Project) → slice_get before k ≡ Some p → p.setting.config ≡ reference → is_met_by before k n ≡ true → is_behind before n reference ≡ true
  met_behind k p at e met = elim (or_cases (k == n) (list_any (λ up. up == n) (upstream_in (slice_get before k))) met) [
    | inl a ↦ or_first (is_config_of (slice_get before n) reference) (list_any (leads_to n reference) before)
        (ap (λ (o : Option Project). is_config_of o reference) (sym (ap (slice_get before) (eqb-true k n a)) ∙ at) ∙ same_config p e)
    | inr b ↦ or_second (is_config_of (slice_get before n) reference) (list_any (leads_to n reference) before)
        (any_in (leads_to n reference) before p (member k p before at)
        (and_true (bytes_eq p.setting.config reference) (list_any (λ up. up == n) p.upstream) (same_config p e) (sym (ap (λ (o : Option Project). list_any (λ up. up == n) (upstream_in o)) at) ∙ b)))
  ]

  here : (o : Option Project) → is_config_of o reference ≡ true → (p : Project) × (o ≡ Some p) × (p.setting.config ≡ reference)
  here None e = absurd (cc)
  here (Some p) e = (p, refl, (bytes_eq-Decides p.setting.config reference).0 e)

  owner : (k : ℕ) (p : Project) → slice_get before k ≡ Some p → p.setting.config ≡ reference → In (owners_at configs reference) k
  owner k p at e = in_from (owners_at configs reference) k (subst (λ (c : List ℕ). Contains (owners_at configs c) k) e (h.each k p at))

  pub behind_is : list_any (λ k. is_met_by before k n) (owners_at configs reference) ≡ is_behind before n reference
  behind_is = both_ways (list_any (λ k. is_met_by before k n) (owners_at configs reference)) (is_behind before n reference)
      (λ t.
      let r = any_from (λ k. is_met_by before k n) (owners_at configs reference) t in
      let p = h.only r.0 reference (in_back (owners_at configs reference) r.0 r.1) in
      met_behind r.0 p.0 p.1 p.2 r.2)
      (λ t. elim (or_cases (is_config_of (slice_get before n) reference) (list_any (leads_to n reference) before) t) [
        | inl a ↦
            let p = here (slice_get before n) a in
            any_in (λ k. is_met_by before k n) (owners_at configs reference) n (owner n p.0 p.1 p.2) (or_first (n == n) (list_any (λ up. up == n) (upstream_in (slice_get before n))) (eq-eqb n n refl))
        | inr b ↦
            let r = any_from (leads_to n reference) before b in
            let both = and_both (bytes_eq r.0.setting.config reference) (list_any (λ up. up == n) r.0.upstream) r.2 in
            let k = number_in before r.0 r.1 in
            any_in (λ m. is_met_by before m n) (owners_at configs reference) k.0 (owner k.0 r.0 k.1 ((bytes_eq-Decides r.0.setting.config reference).0 both.0))
            (or_second (k.0 == n) (list_any (λ up. up == n) (upstream_in (slice_get before k.0))) (ap (λ (o : Option Project). list_any (λ up. up == n) (upstream_in o)) k.1 ∙ both.1))
      ])

-- ---- marks

or_turn : (a b c : Bool) → (a || (b || c)) ≡ ((b || (a || false)) || c)
or_turn true true c = refl
or_turn true false c = refl
or_turn false true c = refl
or_turn false false c = refl

-- one more of those that mark
pub marks_more : {X : Type 0} (q : ℕ → X → Bool) (xs : List X) (x : X) (start old new : List Bool) → Marks (λ n. list_any (q n) xs) start old → Marks (λ n. q n x) old new → Marks (λ n. list_any (q n) (xs ++ x ∷ [])) start new
marks_more q xs x start old new a b = record {
  size = b.size ∙ a.size;
  each = λ n lt. b.each n (omega (arith, a.size)) ∙ ap (λ t. q n x || t) (a.each n lt) ∙ or_turn (q n x) (list_any (q n) xs) (slice_index_or start n false) ∙ ap (λ t. t || slice_index_or start n false) (sym (list_any-append (q n) xs (x ∷ [])));
}

pub references_step : (before : List Project) (configs : BTreeMap (List ℕ) (List ℕ)) (refs : Paths) (i : ℕ) (ref : List ℕ) (numbers : List ℕ) (start old new : List Bool) → AreConfigs before configs → i < length refs → ref ≡ get_or refs i ref
    → numbers ≡ owners_at configs ref → Marks (λ n. list_any (is_behind before n) (take i refs)) start old → Marks (λ n. list_any (λ k. is_met_by before k n) numbers) old new
    → Marks (λ n. list_any (is_behind before n) (take (i + 1) refs)) start new
references_step before configs refs i ref numbers start old new h lt at e a b =
    subst (λ (l : Paths). Marks (λ n. list_any (is_behind before n) l) start new) (sym (taken refs i ref lt at))
    (marks_more (is_behind before) (take i refs) ref start old new a (record {
      size = b.size;
      each = λ n l. b.each n l ∙ ap (λ t. t || slice_index_or old n false) (ap (λ (ns : List ℕ). list_any (λ k. is_met_by before k n) ns) e ∙ behind_is before configs h ref n);
    }))

filter_alike : {X : Type 0} (p q : X → Bool) (xs : List X) → ((x : X) → In xs x → p x ≡ q x) → filter p xs ≡ filter q xs
filter_alike p q [] e = refl
filter_alike p q (x ∷ xs) e = ap (λ b. cond b (x ∷ filter p xs) (filter p xs)) (e x (inl refl)) ∙ ap (λ l. cond (q x) (x ∷ l) l) (filter_alike p q xs (λ y k. e y (inr k)))

or_none : (a : Bool) → (a || false) ≡ a
or_none true = refl
or_none false = refl

length_replicate : (n : ℕ) (b : Bool) → length (replicate n b) ≡ n
length_replicate zero b = refl
length_replicate (suc n) b = ap suc (length_replicate n b)

pub marks_are : (p : ℕ → Bool) (count : ℕ) (start marks front : List Bool) (upstream : List ℕ) → start ≡ replicate count false → Marks p start marks → front ≡ marks
    → upstream ≡ filter (λ n. slice_index_or front n false) (range_with_len 0 (length front)) → upstream ≡ filter p (range_with_len 0 count)
marks_are p count start marks front upstream s m f e =
    let size : length start ≡ count = ap length s ∙ length_replicate count false in
    let long : length front ≡ count = ap length f ∙ m.size ∙ size in
    e ∙ ap (λ n. filter (λ k. slice_index_or front k false) (range_with_len 0 n)) long
    ∙ filter_alike (λ n. slice_index_or front n false) p (range_with_len 0 count)
    (λ n k.
    let lt = (from_range n 0 count k).1 in
    ap (λ (l : List Bool). slice_index_or l n false) f ∙ m.each n (omega (arith, lt, size))
    ∙ ap (λ (l : List Bool). p n || slice_index_or l n false) s ∙ ap (λ t. p n || t) (get_or-replicate count n false false (omega (arith, lt))) ∙ or_none (p n))

one_more : (p : ℕ → Bool) (n : ℕ) → filter p (n ∷ []) ≡ cond (p n) (n ∷ []) []
one_more p n = refl

pub marked_step : (p : ℕ → Bool) (n : ℕ) (m : ℕ) (b : Bool) (so_far new : List ℕ) → so_far ≡ filter p (range_with_len 0 n) → m ≡ n → b ≡ p n → new ≡ so_far ++ cond b (m ∷ []) [] → new ≡ filter p (range_with_len 0 (n + 1))
marked_step p n m b so_far new is e t f =
    f ∙ ap (λ (l : List ℕ). l ++ cond b (m ∷ []) []) is ∙ ap (λ k. filter p (range_with_len 0 n) ++ cond b (k ∷ []) []) e ∙ ap (λ c. filter p (range_with_len 0 n) ++ cond c (n ∷ []) []) t
    ∙ sym (ap (λ (l : List ℕ). filter p l) (range_push n) ∙ filter-append p (range_with_len 0 n) (n ∷ []))

-- ---- the numbers of configs

pub configs_none : (before : List Project) (configs : BTreeMap (List ℕ) (List ℕ)) → before ≡ [] → IsEmpty configs → AreConfigs before configs
configs_none before configs e none = subst (λ (l : List Project). AreConfigs l configs) (sym e) (record {
  each = λ n p k. absurd (omega (arith, within [] n p k));
  only = λ n c k. absurd (omega (arith, (subst (λ (l : List ℕ). Contains l n) (ap (λ (es : List (List ℕ × List ℕ)). numbers_in (lookup (is_at (bytes_cmp c)) es)) none) k).1));
})

module _ (before : List Project) (old new : BTreeMap (List ℕ) (List ℕ)) (p : Project) (h : AreConfigs before old)
    (put : (q : List ℕ) → owners_at new q ≡ cond (is_at (bytes_cmp p.setting.config) q) (owners_at old p.setting.config ++ length before ∷ []) (owners_at old q)) where
  abbrev own : List ℕ
  own = p.setting.config

  kept : (m : ℕ) (c : List ℕ) → Contains (owners_at old c) m → Contains (owners_at new c) m
  kept m c k = subst (λ (l : List ℕ). Contains l m) (sym (put c))
      (elim (is_at (bytes_cmp own) c) as (λ b. is_at (bytes_cmp own) c ≡ b → Contains (cond b (owners_at old own ++ length before ∷ []) (owners_at old c)) m) [
        | true ↦ λ e. Contains-append_left (owners_at old own) (length before ∷ []) m (subst (λ (q : List ℕ). Contains (owners_at old q) m) (sym (at_same own c e)) k)
        | false ↦ λ e. k
      ] refl)

  added : Contains (owners_at new own) (length before)
  added = subst (λ (l : List ℕ). Contains l (length before)) (sym (put own ∙ ap (λ b. cond b (owners_at old own ++ length before ∷ []) (owners_at old own)) (at_itself own))) (Contains-push (owners_at old own) (length before))

  earlier : (n : ℕ) (q : Project) → n < length before → slice_get (before ++ p ∷ []) n ≡ Some q → slice_get before n ≡ Some q
  earlier n q lt e = go before n lt e
    where
      go : (ps : List Project) (n : ℕ) → n < length ps → slice_get (ps ++ p ∷ []) n ≡ Some q → slice_get ps n ≡ Some q
      go [] n lt e = absurd (omega arith)
      go (r ∷ ps) zero lt e = e
      go (r ∷ ps) (suc n) lt e = go ps n (omega arith) e

  each_new : (n : ℕ) (q : Project) → slice_get (before ++ p ∷ []) n ≡ Some q → Contains (owners_at new q.setting.config) n
  each_new n q e = elim (cases_lt n (length before)) [
    | inl lt ↦ kept n q.setting.config (h.each n q (earlier n q lt e))
    | inr ge ↦
        let k : length before ≡ n = omega (arith, within (before ++ p ∷ []) n q e, length_push before p) in
        let same : p ≡ q = some_one p q (sym (at_length before [] p) ∙ ap (slice_get (before ++ p ∷ [])) k ∙ e) in
        subst (λ (r : Project). Contains (owners_at new r.setting.config) n) same (subst (Contains (owners_at new own)) k added)
  ]

  only_new : (m : ℕ) (c : List ℕ) → Contains (owners_at new c) m → (q : Project) × (slice_get (before ++ p ∷ []) m ≡ Some q) × (q.setting.config ≡ c)
  only_new m c k = elim (is_at (bytes_cmp own) c) as (λ b. is_at (bytes_cmp own) c ≡ b → Contains (cond b (owners_at old own ++ length before ∷ []) (owners_at old c)) m → (q : Project) × (slice_get (before ++ p ∷ []) m ≡ Some q) × (q.setting.config ≡ c)) [
    | true ↦ λ e l. elim (Contains-push_cases (owners_at old own) (length before) m l) [
      | inl a ↦ let r = h.only m own a in (r.0, left_get before (p ∷ []) m r.0 r.1, r.2 ∙ at_same own c e)
      | inr i ↦ (p, ap (slice_get (before ++ p ∷ [])) (sym i) ∙ at_length before [] p, at_same own c e)
    ]
    | false ↦ λ e l. let r = h.only m c l in (r.0, left_get before (p ∷ []) m r.0 r.1, r.2)
  ] refl (subst (λ (l : List ℕ). Contains l m) (put c) k)

  configs_push : AreConfigs (before ++ p ∷ []) new
  configs_push = record { each = each_new; only = only_new }

-- ---- one project further

fold_push : {X Y : Type 0} (f : Y → X → Y) (z : Y) (xs : List X) (x : X) → fold f z (xs ++ x ∷ []) ≡ f (fold f z xs) x
fold_push f z [] x = refl
fold_push f z (y ∷ xs) x = fold_push f (f z y) xs x

projects_push : (done : List Sources) (s : Sources) → projects_of (done ++ s ∷ []) ≡ with_project (projects_of done) s
unfolding projects_of
projects_push done s = fold_push with_project [] done s

pub projects_step : (done : List Sources) (s : Sources) (front before new : List Project) (refs : Paths) (upstream digest : List ℕ) → before ≡ projects_of done → front ≡ before → refs ≡ s.setting.references
    → upstream ≡ filter (λ n. list_any (is_behind front n) refs) (range_with_len 0 (length front)) → digest ≡ digest_in s.setting.folder s.setting
    → new ≡ before ++ record { setting = s.setting; inputs = s.inputs; upstream = upstream; options = digest } ∷ [] → new ≡ projects_of (done ++ s ∷ [])
projects_step done s front before new refs upstream digest is f r u d e =
    let up : upstream ≡ upstream_of before s.setting = u ∙ ap (λ (l : List Project). filter (λ n. list_any (is_behind l n) refs) (range_with_len 0 (length l))) f ∙ ap (λ (l : Paths). filter (λ n. list_any (is_behind before n) l) (range_with_len 0 (length before))) r in
    e ∙ ap (λ (l : List ℕ). before ++ record { setting = s.setting; inputs = s.inputs; upstream = l; options = digest } ∷ []) up
    ∙ ap (λ (l : List ℕ). before ++ record { setting = s.setting; inputs = s.inputs; upstream = upstream_of before s.setting; options = l } ∷ []) d
    ∙ ap (λ (l : List Project). with_project l s) is ∙ sym (projects_push done s)

pub no_projects : (projects : List Project) → projects ≡ [] → projects ≡ projects_of []
unfolding projects_of
no_projects projects e = e

pub one_longer : {X : Type 0} (xs ys : List X) (x : X) → ys ≡ xs ++ x ∷ [] → length ys ≡ length xs + 1
one_longer xs ys x e = ap length e ∙ length_push xs x

pub configs_step : (before after : List Project) (old new : BTreeMap (List ℕ) (List ℕ)) (s : Sources) (upstream digest : List ℕ) (n : ℕ) → AreConfigs before old → n ≡ length before
    → ((q : List ℕ) → owners_at new q ≡ cond (is_at (bytes_cmp s.setting.config) q) (owners_at old s.setting.config ++ n ∷ []) (owners_at old q))
    → after ≡ before ++ record { setting = s.setting; inputs = s.inputs; upstream = upstream; options = digest } ∷ [] → AreConfigs after new
configs_step before after old new s upstream digest n h e put is =
    let p : Project = record { setting = s.setting; inputs = s.inputs; upstream = upstream; options = digest } in
    subst (λ (l : List Project). AreConfigs l new) (sym is) (configs_push before old new p h
    (λ q. put q ∙ ap (λ m. cond (is_at (bytes_cmp s.setting.config) q) (owners_at old s.setting.config ++ m ∷ []) (owners_at old q)) e))

-- The first faults, one step further.
use Rattle.std.proofs.Common.{◌≡◌, ℕ, zero, suc, ◌+◌, ◌<◌, ◌==◌, Bool, true, false, cond, List, [], ◌∷◌, ◌++◌, length, get_or, take, refl, sym, ap, subst, ◌∙◌, arith, append_assoc, append-nil}
use Rattle.std.specs.Prelude.{All, map, slice_get, slice_index_or, Option, Some, None, codes}
use Rattle.std.specs.List.{filter, filter_map, cons_option, flat_map}
use Rattle.std.proofs.lemmas.List.{take_more, map_push, map-append}
use Rattle.std.proofs.lemmas.List.Elements.{All-head, All-tail, filter_map-append}
use Rattle.tb_text.specs.declared.findings.Diag.{Diag}
use Rattle.tb_config.specs.Settings.{Reads, setting_of}
use Rattle.tb_plan.specs.Faults.{kept_fault}
use Rattle.tb_plan.specs.Orders.{Tree, Paths, Visit, given_by, references_of}
use Rattle.tb_plan.specs.Plans.{faults_in, lacks_composite, composite_faults, config_faults, listed, cycle_faults, first_faults}
use Rattle.tb_plan.specs.Searches.{path_at, AreNumbers, reads}
use Rattle.tb_plan.specs.Members.{HasSame}
use Rattle.tb_plan.specs.Visits.{IsRead, Arranges, cycle_of, numbers_of, lacks, lacking, between, first_path, reading_faults}
use Rattle.tb_plan.specs.declared.readings.Reading.{Reading}
use Rattle.tb_plan.specs.declared.readings.Reading.TheVariants as reading
use Rattle.tb_plan.specs.declared.reach.Reach.{Reach}
use Rattle.tb_plan.specs.declared.visit.Arrangement.{Arrangement}
use Rattle.tb_plan.specs.declared.visit.Arrangement.TheVariants as arrangement
use Rattle.tb_plan.proofs.Members.{in_from, in_back, in_flat, from_flat, same_by, same_append, same_itself}
use Rattle.tb_plan.proofs.Ordered.{heads, tails}
use Rattle.std.proofs.lemmas.Bool.{ne_eqb}

-- ---- lists

some_reading : (a b : Reading) → Some a ≡ Some b → a ≡ b
some_reading a b e = cc

some_none : {X : Type 0} (x : X) → Some x ≡ None → ⊥
some_none x e = cc

numbers_there : (refs : List (List ℕ)) (n : ℕ) (ns : List ℕ) → slice_get refs n ≡ Some ns → slice_index_or refs n [] ≡ ns
numbers_there [] n ns e = absurd (cc)
numbers_there (r ∷ refs) zero ns e = cc
numbers_there (r ∷ refs) (suc n) ns e = numbers_there refs n ns e

path_is : (configs : Paths) (n : ℕ) (path : List ℕ) → slice_get configs n ≡ Some path → path_at configs n ≡ path
path_is configs n path e = numbers_there configs n path e

none_short : (refs : List (List ℕ)) (n : ℕ) → n < length refs → slice_get refs n ≡ None → ⊥
none_short [] n lt e = omega arith
none_short (r ∷ refs) zero lt e = cc
none_short (r ∷ refs) (suc n) lt e = none_short refs n (omega arith) e

none_short_path : (configs : Paths) (n : ℕ) → n < length configs → slice_get configs n ≡ None → ⊥
none_short_path configs n lt e = none_short configs n lt e

one_more : (b : Bool) (x : List ℕ) (xs : Paths) → cons_option (cond b (Some x) None) xs ≡ cond b (x ∷ xs) xs
one_more true x xs = refl
one_more false x xs = refl

pub flat_push : {X Y : Type 0} (f : X → List Y) (xs : List X) (x : X) → flat_map f (xs ++ x ∷ []) ≡ flat_map f xs ++ f x
flat_push f [] x = append-nil (f x)
flat_push f (y ∷ xs) x = ap (λ l. f y ++ l) (flat_push f xs x) ∙ sym (append_assoc (f y) (flat_map f xs) (f x))

listed_more : (y : List ℕ) (xs : Paths) (x : List ℕ) → listed ((y ∷ xs) ++ x ∷ []) ≡ (listed (y ∷ xs) ++ codes ", ") ++ x
listed_more y [] x = refl
listed_more y (z ∷ xs) x =
    ap (λ (l : List ℕ). y ++ codes ", " ++ l) (listed_more z xs x)
    ∙ sym (append_assoc (y ++ codes ", ") (listed (z ∷ xs) ++ codes ", ") x)
    ∙ ap (λ (l : List ℕ). l ++ x) (sym (append_assoc (y ++ codes ", ") (listed (z ∷ xs)) (codes ", ")))

listed_next : (configs : Paths) (ns : List ℕ) (i : ℕ) (n : ℕ) → i < length ns → listed (map (path_at configs) (take i ns) ++ path_at configs n ∷ []) ≡ between (i == 0) (listed (map (path_at configs) (take i ns))) ++ path_at configs n
listed_next configs [] i n lt = absurd (omega arith)
listed_next configs (m ∷ ns) zero n lt = refl
listed_next configs (m ∷ ns) (suc i) n lt =
    listed_more (path_at configs m) (map (path_at configs) (take i ns)) (path_at configs n)
    ∙ sym (ap (λ b. between b (listed (map (path_at configs) (take (suc i) (m ∷ ns)))) ++ path_at configs n) (ne_eqb (suc i) 0 (λ e. omega arith)))

pub listed_step : (configs : Paths) (ns : List ℕ) (i : ℕ) (text new path : List ℕ) → i < length ns → text ≡ listed (map (path_at configs) (take i ns)) → path ≡ path_at configs (get_or ns i 0)
    → new ≡ between (i == 0) text ++ path → new ≡ listed (map (path_at configs) (take (i + 1) ns))
listed_step configs ns i text new path lt is at e =
    e ∙ ap (λ (p : List ℕ). between (i == 0) text ++ p) at ∙ ap (λ (t : List ℕ). between (i == 0) t ++ path_at configs (get_or ns i 0)) is ∙ sym (listed_next configs ns i (get_or ns i 0) lt)
    ∙ sym (ap (λ (l : List ℕ). listed (map (path_at configs) l)) (take_more ns i 0 lt) ∙ ap listed (map_push (path_at configs) (take i ns) (get_or ns i 0)))

-- ---- configs that are not composite

lacking_more : (f : List ℕ → Diag) (h : ℕ → Option (List ℕ)) (ns : List ℕ) (i : ℕ) → i < length ns
    → map f (filter_map h (take (i + 1) ns)) ≡ map f (filter_map h (take i ns)) ++ map f (filter_map h (get_or ns i 0 ∷ []))
lacking_more f h ns i lt =
    ap (λ (l : List ℕ). map f (filter_map h l)) (take_more ns i 0 lt)
    ∙ ap (λ (l : Paths). map f l) (filter_map-append h (take i ns) (get_or ns i 0 ∷ []))
    ∙ map-append f (filter_map h (take i ns)) (filter_map h (get_or ns i 0 ∷ []))

pub lacking_step : (f : List ℕ → Diag) (h : ℕ → Option (List ℕ)) (ns : List ℕ) (i : ℕ) (start so_far new : List Diag) → i < length ns → so_far ≡ start ++ map f (filter_map h (take i ns))
    → new ≡ so_far ++ map f (filter_map h (get_or ns i 0 ∷ [])) → new ≡ start ++ map f (filter_map h (take (i + 1) ns))
lacking_step f h ns i start so_far new lt is e =
    e ∙ ap (λ (l : List Diag). l ++ map f (filter_map h (get_or ns i 0 ∷ []))) is ∙ append_assoc start (map f (filter_map h (take i ns))) (map f (filter_map h (get_or ns i 0 ∷ [])))
    ∙ ap (λ (l : List Diag). start ++ l) (sym (lacking_more f h ns i lt))

reads_at : (tree : Tree) (rs : List Reading) (configs : Paths) (n : ℕ) → map reads rs ≡ map (setting_of tree) configs → n < length configs → lacks (slice_get rs n) ≡ lacks_composite (setting_of tree (path_at configs n))
reads_at tree [] [] n e lt = absurd (omega arith)
reads_at tree [] (c ∷ configs) n e lt = absurd (cc)
reads_at tree (r ∷ rs) [] n e lt = absurd (cc)
reads_at tree (r ∷ rs) (c ∷ configs) zero e lt = ap lacks_composite (heads (reads r) (setting_of tree c) (map reads rs) (map (setting_of tree) configs) e)
reads_at tree (r ∷ rs) (c ∷ configs) (suc n) e lt = reads_at tree rs configs n (tails (reads r) (setting_of tree c) (map reads rs) (map (setting_of tree) configs) e) (omega arith)

path_there : (configs : Paths) (n : ℕ) → n < length configs → slice_get configs n ≡ Some (path_at configs n)
path_there [] n lt = absurd (omega arith)
path_there (c ∷ configs) zero lt = refl
path_there (c ∷ configs) (suc n) lt = path_there configs n (omega arith)

lacking_is : (tree : Tree) (rs : List Reading) (configs : Paths) (ns : List ℕ) → map reads rs ≡ map (setting_of tree) configs → All (λ n. n < length configs) ns
    → filter_map (lacking rs configs) ns ≡ filter (λ c. lacks_composite (setting_of tree c)) (map (path_at configs) ns)
lacking_is tree rs configs [] e all = refl
lacking_is tree rs configs (n ∷ ns) e all =
    let lt = All-head (λ m. m < length configs) n ns all in
    let rest = lacking_is tree rs configs ns e (All-tail (λ m. m < length configs) n ns all) in
    ap (λ b. cons_option (cond b (slice_get configs n) None) (filter_map (lacking rs configs) ns)) (reads_at tree rs configs n e lt)
    ∙ ap (λ (o : Option (List ℕ)). cons_option (cond (lacks_composite (setting_of tree (path_at configs n))) o None) (filter_map (lacking rs configs) ns)) (path_there configs n lt)
    ∙ ap (λ (l : Paths). cons_option (cond (lacks_composite (setting_of tree (path_at configs n))) (Some (path_at configs n)) None) l) rest
    ∙ one_more (lacks_composite (setting_of tree (path_at configs n))) (path_at configs n) (filter (λ c. lacks_composite (setting_of tree c)) (map (path_at configs) ns))

-- ---- the faults of one config

pub reading_at : (tree : Tree) (rs : List Reading) (configs : Paths) (n : ℕ) → map reads rs ≡ map (setting_of tree) configs → n < length configs → (r : Reading) × (slice_get rs n ≡ Some r) × (reads r ≡ setting_of tree (path_at configs n))
reading_at tree [] [] n e lt = absurd (omega arith)
reading_at tree [] (c ∷ configs) n e lt = absurd (cc)
reading_at tree (r ∷ rs) [] n e lt = absurd (cc)
reading_at tree (r ∷ rs) (c ∷ configs) zero e lt = (r, refl, heads (reads r) (setting_of tree c) (map reads rs) (map (setting_of tree) configs) e)
reading_at tree (r ∷ rs) (c ∷ configs) (suc n) e lt = reading_at tree rs configs n (tails (reads r) (setting_of tree c) (map reads rs) (map (setting_of tree) configs) e) (omega arith)

pub read_there : (tree : Tree) (reach : Reach) (n : ℕ) (r : Reading) → IsRead tree reach → n < length reach.configs.paths.items → slice_get reach.readings.items n ≡ Some r → setting_of tree (path_at reach.configs.paths.items n) ≡ reads r
read_there tree reach n r is lt e =
    let k = reading_at tree reach.readings.items reach.configs.paths.items n is.are lt in
    sym (ap reads (some_reading r k.0 (sym e ∙ k.1)) ∙ k.2)

pub not_there : (tree : Tree) (reach : Reach) (n : ℕ) → IsRead tree reach → n < length reach.configs.paths.items → slice_get reach.readings.items n ≡ None → ⊥
not_there tree reach n is lt e =
    let k = reading_at tree reach.readings.items reach.configs.paths.items n is.are lt in
    some_none k.0 (sym k.1 ∙ e)

same_faults : (tree : Tree) (reach : Reach) (config : List ℕ) (r : Reading) (ns : List ℕ) → map reads reach.readings.items ≡ map (setting_of tree) reach.configs.paths.items
    → AreNumbers reach.configs.paths.items ns (given_by (reads r)) → reading_faults reach r ns ≡ faults_in (reads r) ++ composite_faults tree (reads r)
same_faults tree reach config (reading.Faulty own) ns are lead = sym (append-nil own)
same_faults tree reach config (reading.Good s) ns are lead =
    ap (λ (l : Paths). cond s.solution [] (map (kept_fault s.config 6306) l))
    (lacking_is tree reach.readings.items reach.configs.paths.items ns are lead.within ∙ ap (λ (l : Paths). filter (λ c. lacks_composite (setting_of tree c)) l) lead.are)

pub reading_faults_are : (tree : Tree) (reach : Reach) (n : ℕ) (r : Reading) (ns : List ℕ) → IsRead tree reach → n < length reach.configs.paths.items → slice_get reach.readings.items n ≡ Some r
    → slice_get reach.references.items n ≡ Some ns → reading_faults reach r ns ≡ config_faults tree (path_at reach.configs.paths.items n)
reading_faults_are tree reach n r ns is lt e at =
    let here = read_there tree reach n r is lt e in
    let lead = subst (λ (l : List ℕ). AreNumbers reach.configs.paths.items l (references_of tree (path_at reach.configs.paths.items n))) (numbers_there reach.references.items n ns at) (is.lead n lt) in
    same_faults tree reach (path_at reach.configs.paths.items n) r ns is.are (subst (λ (x : Reads). AreNumbers reach.configs.paths.items ns (given_by x)) here lead)
    ∙ sym (ap (λ (x : Reads). faults_in x ++ composite_faults tree x) here)

pub numbers_missing : (tree : Tree) (reach : Reach) (n : ℕ) → IsRead tree reach → n < length reach.configs.paths.items → slice_get reach.references.items n ≡ None → ⊥
numbers_missing tree reach n is lt e = none_short reach.references.items n (omega (arith, is.whole)) e

-- ---- all first faults

pub faults_step : (tree : Tree) (paths : Paths) (i : ℕ) (faults new : List Diag) → i < length paths → faults ≡ flat_map (config_faults tree) (take i paths) → new ≡ faults ++ config_faults tree (path_at paths i)
    → new ≡ flat_map (config_faults tree) (take (i + 1) paths)
faults_step tree paths i faults new lt is e =
    e ∙ ap (λ (l : List Diag). l ++ config_faults tree (path_at paths i)) is ∙ sym (flat_push (config_faults tree) (take i paths) (path_at paths i))
    ∙ sym (ap (λ (l : Paths). flat_map (config_faults tree) l) (take_more paths i [] lt))

cycle_same : (configs : Paths) (visit : Visit) (a : Arrangement) → Arranges configs visit a → cycle_of configs a ≡ visit.cycle
cycle_same configs visit (arrangement.Order ns) h = sym h.1
cycle_same configs visit (arrangement.Cycle ns) h = ap Some h.2.are ∙ sym h.1

pub arranged_within : (configs : Paths) (visit : Visit) (a : Arrangement) → Arranges configs visit a → All (λ n. n < length configs) (numbers_of a)
arranged_within configs visit (arrangement.Order ns) h = h.0.within
arranged_within configs visit (arrangement.Cycle ns) h = h.2.within

pub same_flat : {X Y : Type 0} (f : X → List Y) (xs ys : List X) → HasSame xs ys → HasSame (flat_map f xs) (flat_map f ys)
same_flat f xs ys h = same_by (flat_map f xs) (flat_map f ys)
    (λ y k. let r = from_flat f xs y k in in_flat f ys r.0 y (in_from ys r.0 (h.into r.0 (in_back xs r.0 r.1))) r.2)
    (λ y k. let r = from_flat f ys y k in in_flat f xs r.0 y (in_from xs r.0 (h.back r.0 (in_back ys r.0 r.1))) r.2)

pub firsts_same : (tree : Tree) (visit : Visit) (configs : Paths) (a : Arrangement) (faults all : List Diag) → HasSame configs visit.finished → Arranges configs visit a
    → faults ≡ flat_map (config_faults tree) configs → all ≡ faults ++ cycle_faults (cycle_of configs a) → HasSame all (first_faults tree visit)
firsts_same tree visit configs a faults all same arr is e =
    let whole : all ≡ flat_map (config_faults tree) configs ++ cycle_faults visit.cycle =
    e ∙ ap (λ (l : List Diag). l ++ cycle_faults (cycle_of configs a)) is ∙ ap (λ (o : Option Paths). flat_map (config_faults tree) configs ++ cycle_faults o) (cycle_same configs visit a arr) in
    subst (λ (l : List Diag). HasSame l (first_faults tree visit)) (sym whole)
    (same_append _ _ _ _ (same_flat (config_faults tree) configs visit.finished same) (same_itself (cycle_faults visit.cycle)))

-- ---- the fault of a cycle

no_first : (configs : Paths) (numbers : List ℕ) → All (λ n. n < length configs) numbers → first_path configs numbers ≡ None → [] ≡ cycle_faults (Some (map (path_at configs) numbers))
no_first configs [] all e = refl
no_first configs (n ∷ numbers) all e = absurd (none_short_path configs n (All-head (λ m. m < length configs) n numbers all) e)

cycle_fault_is : (configs : Paths) (numbers : List ℕ) (path text : List ℕ) → first_path configs numbers ≡ Some path → text ≡ listed (map (path_at configs) numbers)
    → kept_fault path 6202 text ∷ [] ≡ cycle_faults (Some (map (path_at configs) numbers))
cycle_fault_is configs [] path text e is = absurd (cc)
cycle_fault_is configs (n ∷ numbers) path text e is =
    ap (λ (t : List ℕ). kept_fault path 6202 t ∷ []) is ∙ ap (λ (p : List ℕ). kept_fault p 6202 (listed (map (path_at configs) (n ∷ numbers))) ∷ []) (sym (path_is configs n path e))

pub without_cycle_fault : (configs : Paths) (a : Arrangement) (numbers slice : List ℕ) (faults : List Diag) → a ≡ arrangement.Cycle numbers → slice ≡ numbers → None ≡ first_path configs slice
    → All (λ n. n < length configs) (numbers_of a) → faults ≡ faults ++ cycle_faults (cycle_of configs a)
without_cycle_fault configs a numbers slice faults is same none all =
    let within = subst (λ (x : Arrangement). All (λ n. n < length configs) (numbers_of x)) is all in
    sym (append-nil faults) ∙ ap (λ (l : List Diag). faults ++ l)
    (no_first configs numbers within (ap (first_path configs) (sym same) ∙ sym none) ∙ sym (ap (λ (x : Arrangement). cycle_faults (cycle_of configs x)) is))

pub with_cycle_fault : (configs : Paths) (a : Arrangement) (numbers slice again : List ℕ) (path text said : List ℕ) (d : Diag) (faults new : List Diag) → a ≡ arrangement.Cycle numbers → slice ≡ numbers → again ≡ numbers
    → Some path ≡ first_path configs slice → text ≡ listed (map (path_at configs) again) → said ≡ text → d ≡ kept_fault path 6202 said → new ≡ faults ++ d ∷ [] → new ≡ faults ++ cycle_faults (cycle_of configs a)
with_cycle_fault configs a numbers slice again path text said d faults new is same twice some t u e n =
    n ∙ ap (λ (l : List Diag). faults ++ l)
    (ap (λ (x : Diag). x ∷ []) (e ∙ ap (kept_fault path 6202) u)
    ∙ cycle_fault_is configs numbers path text (ap (first_path configs) (sym same) ∙ sym some) (t ∙ ap (λ (l : List ℕ). listed (map (path_at configs) l)) twice)
    ∙ sym (ap (λ (x : Arrangement). cycle_faults (cycle_of configs x)) is))

pub config_faults_step : (tree : Tree) (reach : Reach) (n : ℕ) (r : Reading) (ns slice : List ℕ) (faults new : List Diag) → n < length reach.configs.paths.items → Some r ≡ slice_get reach.readings.items n
    → Some ns ≡ slice_get reach.references.items n → slice ≡ ns → new ≡ faults ++ reading_faults reach r slice → IsRead tree reach → new ≡ faults ++ config_faults tree (path_at reach.configs.paths.items n)
config_faults_step tree reach n r ns slice faults new lt e f same is whole =
    is ∙ ap (λ (l : List ℕ). faults ++ reading_faults reach r l) same ∙ ap (λ (l : List Diag). faults ++ l) (reading_faults_are tree reach n r ns whole lt (sym e) (sym f))

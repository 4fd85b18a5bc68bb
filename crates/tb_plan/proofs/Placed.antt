-- What the readings give in the plan's order, and what the first faults leave.
use Rattle.std.proofs.Common.{◌≡◌, ℕ, ◌<◌, cond, List, [], ◌∷◌, ◌++◌, length, refl, sym, ap, subst, ◌∙◌, inl, arith}
use Rattle.std.specs.Prelude.{All, Contains, ◌||◌, map, fold, Option, Some, None}
use Rattle.std.specs.List.{flat_map, list_any}
use Rattle.std.specs.BTreeMap.{get}
use Rattle.std.specs.BTreeSet.{insert_key}
use Rattle.std.proofs.lemmas.List.{get_or_default, length-map}
use Rattle.std.proofs.lemmas.List.Elements.{All-head, All-tail}
use Rattle.tb_text.specs.Bytes.{bytes_cmp}
use Rattle.tb_text.specs.Findings.{diag_cmp}
use Rattle.tb_text.specs.declared.findings.Diag.{Diag}
use Rattle.tb_text.specs.declared.statuses.Status.{Status}
use Rattle.tb_text.specs.declared.statuses.Status.TheVariants.{Skipped, InvalidProject}
use Rattle.tb_text.proofs.Order.{diag_total, diag_equal}
use Rattle.tb_config.specs.Settings.{Reads, setting_of}
use Rattle.tb_config.specs.declared.setting.Setting.{Setting}
use Rattle.tb_plan.specs.Faults.{in_order}
use Rattle.tb_plan.specs.Members.{HasSame}
use Rattle.tb_plan.specs.Orders.{Tree, Paths, Visit}
use Rattle.tb_plan.specs.Plans.{Planned, Faulted, faults_in, config_faults, cycle_faults, first_faults, is_lost_by, is_lost, status_by, setting_in, unless_faulty}
use Rattle.tb_plan.specs.Searches.{path_at, reads}
use Rattle.tb_plan.specs.Statuses.{setting_read, setting_by, faults_read, lost_at, is_lost_in, status_after}
use Rattle.tb_plan.specs.Visits.{IsRead, IsVisited, Arranges, GoesRound}
use Rattle.tb_plan.specs.declared.readings.Reading.{Reading}
use Rattle.tb_plan.specs.declared.reach.Reach.{Reach}
use Rattle.tb_plan.specs.declared.visit.Arrangement.{Arrangement}
use Rattle.tb_plan.specs.declared.visit.Arrangement.TheVariants as arrangement
use Rattle.tb_plan.specs.declared.visit.Visited.{Visited}
use Rattle.tb_plan.proofs.Firsts.{reading_at}
use Rattle.tb_plan.proofs.Members.{in_from, in_back}
use Rattle.tb_plan.proofs.Sorted.{same_sorted, sorted_fold, in_fold, from_fold}

-- ---- settings

settings_are : (tree : Tree) (rs : List Reading) (configs : Paths) (ns : List ℕ) → map reads rs ≡ map (setting_of tree) configs → All (λ n. n < length configs) ns
    → flat_map (setting_by rs) ns ≡ flat_map (λ c. setting_in (setting_of tree c)) (map (path_at configs) ns)
settings_are tree rs configs [] e all = refl
settings_are tree rs configs (n ∷ ns) e all =
    let r = reading_at tree rs configs n e (All-head (λ m. m < length configs) n ns all) in
    let rest = settings_are tree rs configs ns e (All-tail (λ m. m < length configs) n ns all) in
    ap (λ (l : List Setting). l ++ flat_map (setting_by rs) ns) (ap setting_read r.1 ∙ ap setting_in r.2)
    ∙ ap (λ (l : List Setting). setting_in (setting_of tree (path_at configs n)) ++ l) rest

pub settings_so : (tree : Tree) (visit : Visit) (v : Visited) (ns front : List ℕ) (back : List Reading) (settings : List Setting) → IsVisited tree visit v → v.arrangement ≡ arrangement.Order ns → back ≡ v.reach.readings.items → front ≡ ns
    → settings ≡ flat_map (setting_by back) front → settings ≡ flat_map (λ c. setting_in (setting_of tree c)) visit.finished
settings_so tree visit v ns front back settings is order e f g =
    let arranged : Arranges v.reach.configs.paths.items visit (arrangement.Order ns) = subst (Arranges v.reach.configs.paths.items visit) order is.arranged in
    g ∙ ap (λ (l : List ℕ). flat_map (setting_by back) l) f ∙ ap (λ (l : List Reading). flat_map (setting_by l) ns) e
    ∙ settings_are tree v.reach.readings.items v.reach.configs.paths.items ns is.read.are arranged.0.within
    ∙ ap (λ (l : Paths). flat_map (λ c. setting_in (setting_of tree c)) l) arranged.0.are

-- ---- without first faults there is no cycle

some_cycle : (cycle : Paths) → 0 < length cycle → cycle_faults (Some cycle) ≡ [] → ⊥
some_cycle [] lt e = omega arith
some_cycle (first ∷ rest) lt e = cc

pub no_more : {X : Type 0} (xs ys : List X) → xs ++ ys ≡ [] → ys ≡ []
no_more [] ys e = e
no_more (x ∷ xs) ys e = absurd (cc)

no_cycle_by : (configs : Paths) (visit : Visit) (a : Arrangement) → Arranges configs visit a → GoesRound a → cycle_faults visit.cycle ≡ [] → visit.cycle ≡ None
no_cycle_by configs visit (arrangement.Order ns) h round e = h.1
no_cycle_by configs visit (arrangement.Cycle ns) h round e =
    absurd (some_cycle h.0 (omega (arith, round, ap length h.2.are, length-map ns (path_at configs))) (ap cycle_faults (sym h.1) ∙ e))

pub no_cycle : (tree : Tree) (visit : Visit) (v : Visited) → IsVisited tree visit v → first_faults tree visit ≡ [] → visit.cycle ≡ None
no_cycle tree visit v is e = no_cycle_by v.reach.configs.paths.items visit v.arrangement is.arranged is.round (no_more (flat_map (config_faults tree) visit.finished) (cycle_faults visit.cycle) e)

-- ---- the status

lost_here : (tree : Tree) (reach : Reach) (root : List ℕ) → IsRead tree reach → Contains reach.configs.paths.items root → is_lost_in reach root ≡ is_lost tree root
lost_here tree reach root is c =
    let at : path_at reach.configs.paths.items c.0 ≡ root = get_or_default reach.configs.paths.items c.0 [] root c.1 ∙ c.2 in
    let number : get bytes_cmp reach.configs.numbers root ≡ Some c.0 = ap (get bytes_cmp reach.configs.numbers) (sym at) ∙ is.numbered.each c.0 c.1 in
    let r = reading_at tree reach.readings.items reach.configs.paths.items c.0 is.are c.1 in
    ap (λ (o : Option ℕ). lost_at reach.readings.items o root) number
    ∙ ap (λ (o : Option Reading). list_any (is_lost_by root) (faults_read o)) r.1
    ∙ ap (λ (x : Reads). list_any (is_lost_by root) (faults_in x)) (r.2 ∙ ap (setting_of tree) at)

lost_all : (tree : Tree) (reach : Reach) (roots : Paths) → IsRead tree reach → All (Contains reach.configs.paths.items) roots → list_any (is_lost_in reach) roots ≡ list_any (is_lost tree) roots
lost_all tree reach [] is all = refl
lost_all tree reach (root ∷ roots) is all =
    ap (λ b. b || list_any (is_lost_in reach) roots) (lost_here tree reach root is (All-head (Contains reach.configs.paths.items) root roots all))
    ∙ ap (λ b. is_lost tree root || b) (lost_all tree reach roots is (All-tail (Contains reach.configs.paths.items) root roots all))

status_by_cases : (tree : Tree) (visit : Visit) (reach : Reach) (a : Arrangement) (roots : Paths) → IsRead tree reach → Arranges reach.configs.paths.items visit a → All (Contains reach.configs.paths.items) roots
    → status_after reach a roots ≡ status_by tree roots visit.cycle
status_by_cases tree visit reach (arrangement.Cycle ns) roots is h all = sym (ap (status_by tree roots) h.1)
status_by_cases tree visit reach (arrangement.Order ns) roots is h all =
    ap (λ b. cond b InvalidProject Skipped) (lost_all tree reach roots is all) ∙ sym (ap (status_by tree roots) h.1)

pub status_is : (tree : Tree) (visit : Visit) (v : Visited) (roots : Paths) → IsVisited tree visit v → All (Contains v.reach.configs.paths.items) roots → status_after v.reach v.arrangement roots ≡ status_by tree roots visit.cycle
status_is tree visit v roots is all = status_by_cases tree visit v.reach v.arrangement roots is.read is.arranged all

-- ---- faults in order

pub same_order : (xs ys : List Diag) → HasSame xs ys → in_order xs ≡ in_order ys
unfolding in_order
same_order xs ys h = same_sorted diag_total (fold (insert_key diag_cmp) [] xs) (fold (insert_key diag_cmp) [] ys) (sorted_fold diag_total xs) (sorted_fold diag_total ys)
    (λ d k. in_fold diag_cmp diag_equal ys d (in_from ys d (h.into d (in_back xs d (from_fold diag_cmp diag_equal xs d k)))))
    (λ d k. in_fold diag_cmp diag_equal xs d (in_from xs d (h.back d (in_back ys d (from_fold diag_cmp diag_equal ys d k)))))

pub none_left : (ys : List Diag) → HasSame [] ys → ys ≡ []
none_left [] h = refl
none_left (y ∷ ys) h = absurd (in_from [] y (h.back y (in_back (y ∷ ys) y (inl refl))))

faulted_by : (x : Diag) (xs ys : List Diag) (status : Status) (planned : Planned) → HasSame (x ∷ xs) ys → unless_faulty ys status planned ≡ Faulted (in_order ys) status
faulted_by x xs [] status planned h = absurd (in_from [] x (h.into x (in_back (x ∷ xs) x (inl refl))))
faulted_by x xs (y ∷ ys) status planned h = refl

-- some faults, in any order
pub faulted : (xs ys diags : List Diag) (status is : Status) (planned : Planned) → 0 < length xs → HasSame xs ys → diags ≡ in_order xs → status ≡ is → unless_faulty ys is planned ≡ Faulted diags status
faulted [] ys diags status is planned lt h e s = absurd (omega arith)
faulted (x ∷ xs) ys diags status is planned lt h e s =
    faulted_by x xs ys is planned h ∙ ap (λ (l : List Diag). Faulted l is) (sym (e ∙ same_order (x ∷ xs) ys h)) ∙ ap (Faulted diags) (sym s)

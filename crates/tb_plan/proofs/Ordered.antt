-- What is read and ordered by numbers is what the visit over paths finishes.
use Rattle.std.proofs.Common.{◌≡◌, ℕ, zero, suc, ◌<◌, List, [], ◌∷◌, length, get_or, take, refl, sym, ap, subst, ◌∙◌, inl, inr, arith}
use Rattle.std.specs.Prelude.{All, Contains, map, slice_index_or}
use Rattle.std.specs.List.{AllZip}
use Rattle.std.specs.BTreeMap.{BTreeMap}
use Rattle.std.specs.FinMap.{keys}
use Rattle.std.proofs.lemmas.List.{take_all, get_or_default}
use Rattle.std.proofs.lemmas.List.Elements.{All-head, All-tail, All-contains, All-get_or, All-weaker}
use Rattle.tb_config.specs.Settings.{Reads, setting_of}
use Rattle.tb_graph.specs.Graphs.{refs_of, AreNodes, Reached, root, further, IsCycle}
use Rattle.tb_graph.specs.Visits.{Outcome, Visits}
use Rattle.tb_plan.specs.Members.{HasSame}
use Rattle.tb_plan.specs.Orders.{Tree, Paths, given_by, references_of, Visit, begun, visited_from, visited}
use Rattle.tb_plan.specs.Searches as search
use Rattle.tb_plan.specs.Searches.{path_at, IsNumbering, AreNumbers, IsReached, AreReached, reads, IsSearch}
use Rattle.tb_plan.specs.Visits.{IsArrangement, outcome_of, numbers_of, Arranges}
use Rattle.tb_plan.specs.declared.readings.Reading.{Reading}
use Rattle.tb_plan.specs.declared.visit.Arrangement.{Arrangement}
use Rattle.tb_plan.specs.declared.visit.Arrangement.TheVariants as arrangement
use Rattle.tb_plan.proofs.Members.{In, in_from, in_back, from_map, same_by}
use Rattle.tb_plan.proofs.Among.{is_file_or_none}
use Rattle.tb_plan.proofs.Searched.{no_file}
use Rattle.tb_plan.proofs.Visited.{HasRoom, Went, went}
use Rattle.tb_plan.proofs.Agreed.{Below, Ends, ends}

-- ---- what each config references

abbrev Lead : Tree → Paths → List ℕ → List ℕ → Type 0
Lead tree configs numbers config = AreNumbers configs numbers (references_of tree config)

nil_cons : {X : Type 0} (x : X) (xs : List X) → [] ≡ x ∷ xs → ⊥
nil_cons x xs e = cc

cons_nil : {X : Type 0} (x : X) (xs : List X) → x ∷ xs ≡ [] → ⊥
cons_nil x xs e = cc

pub heads : {X : Type 0} (x y : X) (xs ys : List X) → x ∷ xs ≡ y ∷ ys → x ≡ y
heads x y xs ys e = cc

pub tails : {X : Type 0} (x y : X) (xs ys : List X) → x ∷ xs ≡ y ∷ ys → xs ≡ ys
tails x y xs ys e = cc

lead_zip : (tree : Tree) (configs : Paths) (refs : List (List ℕ)) (rs : List Reading) (cs : Paths) → AllZip (λ numbers r. AreNumbers configs numbers (given_by (reads r))) refs rs
    → map reads rs ≡ map (setting_of tree) cs → AllZip (Lead tree configs) refs cs
lead_zip tree configs [] [] [] z e = tt
lead_zip tree configs [] [] (c ∷ cs) z e = absurd (nil_cons _ _ e)
lead_zip tree configs [] (r ∷ rs) cs z e = absurd z
lead_zip tree configs (ns ∷ refs) [] cs z e = absurd z
lead_zip tree configs (ns ∷ refs) (r ∷ rs) [] z e = absurd (cons_nil _ _ e)
lead_zip tree configs (ns ∷ refs) (r ∷ rs) (c ∷ cs) z e = (
  subst (λ (x : Reads). AreNumbers configs ns (given_by x)) (heads (reads r) (setting_of tree c) (map reads rs) (map (setting_of tree) cs) e) z.0,
  lead_zip tree configs refs rs cs z.1 (tails (reads r) (setting_of tree c) (map reads rs) (map (setting_of tree) cs) e),
)

zip_at : {A B : Type 0} (R : A → B → Type 0) (xs : List A) (ys : List B) (k : ℕ) (d : A) (e : B) → AllZip R xs ys → k < length ys → R (get_or xs k d) (get_or ys k e)
zip_at R [] [] k d e z lt = absurd (omega arith)
zip_at R [] (y ∷ ys) k d e z lt = absurd z
zip_at R (x ∷ xs) [] k d e z lt = absurd z
zip_at R (x ∷ xs) (y ∷ ys) zero d e z lt = z.0
zip_at R (x ∷ xs) (y ∷ ys) (suc k) d e z lt = zip_at R xs ys k d e z.1 (omega arith)

pub all_read : (tree : Tree) (configs : Paths) (rs : List Reading) → length rs ≡ length configs → map reads rs ≡ map (setting_of tree) (take (length rs) configs) → map reads rs ≡ map (setting_of tree) configs
all_read tree configs rs e h = h ∙ ap (λ (l : Paths). map (setting_of tree) l) (take_all (length rs) configs (omega (arith, e)))

pub leads : (tree : Tree) (configs : Paths) (rs : List Reading) (refs : List (List ℕ)) → IsSearch tree configs rs refs → length rs ≡ length configs
    → (k : ℕ) → k < length configs → AreNumbers configs (slice_index_or refs k []) (references_of tree (path_at configs k))
leads tree configs rs refs h e k lt = zip_at (Lead tree configs) refs configs k [] [] (lead_zip tree configs refs rs configs h.lead (all_read tree configs rs e h.are)) lt

zip_length : {A B : Type 0} (R : A → B → Type 0) (xs : List A) (ys : List B) → AllZip R xs ys → length xs ≡ length ys
zip_length R [] [] z = refl
zip_length R [] (y ∷ ys) z = absurd z
zip_length R (x ∷ xs) [] z = absurd z
zip_length R (x ∷ xs) (y ∷ ys) z = ap suc (zip_length R xs ys z.1)

pub as_many : (tree : Tree) (configs : Paths) (rs : List Reading) (refs : List (List ℕ)) → IsSearch tree configs rs refs → length rs ≡ length configs → length refs ≡ length configs
as_many tree configs rs refs h e = zip_length _ refs rs h.lead ∙ e

-- ---- nodes

pub as_nodes : (configs : Paths) (refs : List (List ℕ)) (ns : List ℕ) → length refs ≡ length configs → All (λ n. n < length configs) ns → AreNodes refs ns
as_nodes configs refs ns e all k d lt = subst (λ m. get_or ns k d < m) (sym e) (all k d lt)

pub from_nodes : (configs : Paths) (refs : List (List ℕ)) (ns : List ℕ) → length refs ≡ length configs → AreNodes refs ns → All (λ n. n < length configs) ns
from_nodes configs refs ns e all k d lt = subst (λ m. get_or ns k d < m) e (all k d lt)

pub all_nodes : (tree : Tree) (configs : Paths) (rs : List Reading) (refs : List (List ℕ)) → IsSearch tree configs rs refs → length rs ≡ length configs → All (AreNodes refs) refs
all_nodes tree configs rs refs h e k d lt =
    let many = as_many tree configs rs refs h e in
    subst (AreNodes refs) (get_or_default refs k [] d lt) (as_nodes configs refs (get_or refs k []) many (leads tree configs rs refs h e k (omega (arith, many))).within)

below_all : (n : ℕ) (ns : List ℕ) → All (λ m. m < n) ns → Below n ns
below_all n [] all = tt
below_all n (m ∷ ns) all = (All-head (λ k. k < n) m ns all, below_all n ns (All-tail (λ k. k < n) m ns all))

reached_below : (refs : List (List ℕ)) (starts : List ℕ) → AreNodes refs starts → All (AreNodes refs) refs → (n : ℕ) → Reached refs starts n → n < length refs
reached_below refs starts s all n (root _ c) = All-contains (λ m. m < length refs) starts n s c
reached_below refs starts s all n (further node _ r c) =
    All-contains (λ m. m < length refs) (refs_of refs node) n (All-get_or (AreNodes refs) refs node [] (reached_below refs starts s all node r) all) c

pub cycle_nodes : (refs : List (List ℕ)) (starts cycle : List ℕ) → AreNodes refs starts → All (AreNodes refs) refs → IsCycle refs starts cycle → AreNodes refs cycle
cycle_nodes refs starts [] s all c = absurd c
cycle_nodes refs starts (first ∷ rest) s all c = All-weaker (Reached refs starts) (λ n. n < length refs) (reached_below refs starts s all) (first ∷ rest) c.0

pub cycle_some : (refs : List (List ℕ)) (starts cycle : List ℕ) → IsCycle refs starts cycle → 0 < length cycle
cycle_some refs starts [] c = absurd c
cycle_some refs starts (first ∷ rest) c = omega arith

-- ---- the visit over the paths

at_config : (configs : Paths) (n : ℕ) (c : List ℕ) → n < length configs → path_at configs n ≡ c → In configs c
at_config configs n c lt e = in_from configs c (n, lt, get_or_default configs n c [] lt ∙ e)

named_in : (configs : Paths) (ns : List ℕ) (xs : Paths) (c : List ℕ) → AreNumbers configs ns xs → In xs c → In configs c
named_in configs ns xs c are h =
    let r = from_map (path_at configs) ns c (subst (λ (l : Paths). In l c) (sym are.are) h) in
    at_config configs r.0 c (All-contains (λ m. m < length configs) ns r.0 are.within (in_back ns r.0 r.1)) r.2

pub named_all : (configs : Paths) (ns : List ℕ) (xs : Paths) → AreNumbers configs ns xs → All (Contains configs) xs
named_all configs ns xs are k d lt = in_back configs (get_or xs k d) (named_in configs ns xs (get_or xs k d) are (in_from xs (get_or xs k d) (k, lt, get_or_default xs k (get_or xs k d) d lt)))

module _ (tree : Tree) (roots configs : Paths) (numbers : BTreeMap (List ℕ) ℕ) (rs : List Reading) (refs : List (List ℕ)) (starts : List ℕ) (one : IsNumbering configs numbers)
    (h : IsSearch tree configs rs refs) (whole : length rs ≡ length configs) (reached : AreReached tree roots configs) (named : AreNumbers configs starts roots) where
  file : (c r : List ℕ) → In (references_of tree c) r → In (keys tree) c
  file c r k = elim (is_file_or_none tree c) [
    | inl none ↦ absurd (subst (λ (l : Paths). In l r) (no_file tree c none) k)
    | inr f ↦ f
  ]

  room : (todo : Paths) → HasRoom (keys tree) (suc (length (keys tree))) [] todo
  room todo = record { size = omega arith; once = tt; known = λ c k p n. absurd n }

  stays : (c r : List ℕ) → In configs c → In (references_of tree c) r → In configs r
  stays c r k l =
      let in' = in_back configs c k in
      let at : path_at configs in'.0 ≡ c = get_or_default configs in'.0 [] c in'.1 ∙ in'.2 in
      named_in configs _ (references_of tree c) r (subst (λ x. AreNumbers configs (slice_index_or refs in'.0 []) (references_of tree x)) at (leads tree configs rs refs h whole in'.0 in'.1)) l

  went_all : Went (references_of tree) (In configs) [] begun (visited tree roots) roots
  unfolding visited
  went_all = went (keys tree) (references_of tree) (In configs) file stays (suc (length (keys tree))) [] begun roots (room roots)

  finishes : (c : List ℕ) → IsReached tree roots c → In (visited tree roots).finished c
  finishes c (search.root _ k) = elim (went_all.all c (in_from roots c k)) [ inl a ↦ a | inr b ↦ absurd b ]
  finishes c (search.further from _ r k) = elim (went_all.closed (λ d e n. absurd n) from c (finishes from r) (in_from (references_of tree from) c k)) [ inl a ↦ a | inr b ↦ absurd b ]

  pub same_configs : HasSame configs (visited tree roots).finished
  same_configs = same_by configs (visited tree roots).finished
      (λ c k. finishes c (reached c (in_back configs c k)))
      (λ c k. went_all.only (λ d in'. named_in configs starts roots d named in') (λ d n. absurd n) c k)

  below_refs : (k : ℕ) → k < length configs → Below (length configs) (refs_of refs k)
  below_refs k lt = below_all (length configs) (refs_of refs k) (leads tree configs rs refs h whole k lt).within

  lead_refs : (k : ℕ) → k < length configs → map (path_at configs) (refs_of refs k) ≡ references_of tree (path_at configs k)
  lead_refs k lt = (leads tree configs rs refs h whole k lt).are

  ends_from : (o : Outcome) → Visits refs [] [] starts o → (todo : Paths) → map (path_at configs) starts ≡ todo → Ends configs o (visited_from (suc (length (keys tree))) (references_of tree) [] begun todo)
  ends_from o v todo e = subst (λ (l : Paths). Ends configs o (visited_from (suc (length (keys tree))) (references_of tree) [] begun l)) e
      (ends configs numbers one refs (keys tree) (references_of tree) below_refs lead_refs file v (suc (length (keys tree))) (below_all (length configs) starts named.within) (room (map (path_at configs) starts)))

  ends_so : (o : Outcome) → Visits refs [] [] starts o → Ends configs o (visited tree roots)
  unfolding visited
  ends_so o v = ends_from o v roots named.are

  arranges : (a : Arrangement) → AreNodes refs (numbers_of a) → Ends configs (outcome_of a) (visited tree roots) → Arranges configs (visited tree roots) a
  arranges (arrangement.Order ns) nodes e =
      (record { within = from_nodes configs refs ns (as_many tree configs rs refs h whole) nodes; are = ap (λ (v : Visit). v.finished) (sym e) }, ap (λ (v : Visit). v.cycle) e)
  arranges (arrangement.Cycle ns) nodes e =
      (map (path_at configs) ns, e, record { within = from_nodes configs refs ns (as_many tree configs rs refs h whole) nodes; are = refl })

  pub arranged_so : (a : Arrangement) → IsArrangement refs starts a → Arranges configs (visited tree roots) a
  arranged_so a i = arranges a i.nodes (ends_so (outcome_of a) i.visits)

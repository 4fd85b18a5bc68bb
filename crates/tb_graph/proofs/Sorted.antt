-- What an order that a visit gives is good for.
use Rattle.std.proofs.Common.{◌≡◌, ℕ, zero, suc, ◌<◌, ◌≤◌, List, [], ◌∷◌, ◌++◌, length, take, get_or, refl, sym, ap, subst, ◌∙◌, arith, inl, inr, append_assoc, append-nil, below_more}
use Rattle.std.specs.Prelude.{Contains, All, ◌⊎◌}
use Rattle.std.proofs.lemmas.List.Elements.{Contains-append_left, Contains-append_right, Contains-append_cases, All-contains, All-get_or}
use Rattle.std.proofs.lemmas.List.{length_push, get_or_push, get_or_append_left, take-append-le, get_or_default, get_or-take, length-take-le}
use Rattle.std.proofs.Math.Seq.{take-append_seam}
use Rattle.tb_graph.specs.Graphs.{refs_of, AreNodes, Reached, root, further, EachAfter, IsOrder}
use Rattle.tb_graph.specs.Visits.{Ordered, Visits, ended, passed, entered}

-- ---- members

in_cons_at : (node n : ℕ) (rest : List ℕ) (k : ℕ) → k < length (node ∷ rest) → get_or (node ∷ rest) k n ≡ n → (n ≡ node) ⊎ Contains rest n
in_cons_at node n rest zero lt e = inl (sym e)
in_cons_at node n rest (suc k) lt e = inr (k, omega arith, e)

pub in_cons : (node n : ℕ) (rest : List ℕ) → Contains (node ∷ rest) n → (n ≡ node) ⊎ Contains rest n
in_cons node n rest c = in_cons_at node n rest c.0 c.1 c.2

pub in_none : (n : ℕ) → Contains [] n → ⊥
in_none n c = absurd (omega (arith, c.1))

pub in_one : (node n : ℕ) → Contains (node ∷ []) n → n ≡ node
in_one node n c = elim (in_cons node n [] c) [ inl e ↦ e | inr h ↦ absurd (in_none n h) ]

pub in_head : (node : ℕ) (rest : List ℕ) → Contains (node ∷ rest) node
in_head node rest = (0, omega arith, refl)

pub in_tail : (node n : ℕ) (rest : List ℕ) → Contains rest n → Contains (node ∷ rest) n
in_tail node n rest c = Contains-append_right (node ∷ []) rest n c

-- what stands at an index is among the first ones
pub in_take : (xs : List ℕ) (k i : ℕ) → i < k → k ≤ length xs → Contains (take k xs) (get_or xs i 0)
in_take xs k i below in' = (i, omega (arith, length-take-le k xs in'), get_or-take k xs i (get_or xs i 0) below ∙ get_or_default xs i (get_or xs i 0) 0 (omega arith))

pub from_take : (xs : List ℕ) (k n : ℕ) → k ≤ length xs → Contains (take k xs) n → (i : ℕ) × (i < k) × (get_or xs i 0 ≡ n)
from_take xs k n in' c =
    let below : c.0 < k = omega (arith, c.1, length-take-le k xs in') in
    (c.0, below, get_or_default xs c.0 0 n (omega arith) ∙ sym (get_or-take k xs c.0 n below) ∙ c.2)

pub index_of : (xs : List ℕ) (n : ℕ) → Contains xs n → (k : ℕ) × (k < length xs) × (get_or xs k 0 ≡ n)
index_of xs n c = (c.0, c.1, get_or_default xs c.0 0 n c.1 ∙ c.2)

pub at_index : (xs : List ℕ) (n k : ℕ) → k < length xs → get_or xs k 0 ≡ n → Contains xs n
at_index xs n k lt e = (k, lt, get_or_default xs k n 0 lt ∙ e)

pub EachAfter-push : (P : List ℕ → ℕ → Type 0) (xs : List ℕ) (x : ℕ) → EachAfter P xs → P xs x → EachAfter P (xs ++ x ∷ [])
EachAfter-push P xs x each p k lt =
    let Q : ℕ → Type 0 = λ j. P (take j (xs ++ x ∷ [])) (get_or (xs ++ x ∷ []) j 0) in
    below_more Q (length xs)
    (λ j h. subst (λ front. P front (get_or (xs ++ x ∷ []) j 0)) (sym (take-append-le j xs (x ∷ []) (omega arith))) (subst (P (take j xs)) (sym (get_or_append_left xs (x ∷ []) 0 j h)) (each j h)))
    (subst (λ front. P front (get_or (xs ++ x ∷ []) (length xs) 0)) (sym (take-append_seam xs (x ∷ []))) (subst (P xs) (sym (get_or_push xs x 0 (length xs) refl)) p))
    k (omega (arith, length_push xs x))

-- ---- what a visit that finished all added to the finished nodes

abbrev Once : List ℕ → Type 0
Once order = EachAfter (λ before node. ¬ Contains before node) order

abbrev Behind : List (List ℕ) → List ℕ → Type 0
Behind refs order = EachAfter (λ before node. (ref : ℕ) → Contains (refs_of refs node) ref → Contains before ref) order

record Grew (refs : List (List ℕ)) (path done todo after : List ℕ) : Type 0 where
  more : List ℕ
  whole : after ≡ done ++ more
  apart : (n : ℕ) → Contains path n → Contains more n → ⊥
  met_all : (n : ℕ) → Contains todo n → Contains after n
  once : Once done → Once after
  behind : Behind refs done → Behind refs after
  reached : (roots : List ℕ) → ((n : ℕ) → Contains todo n → Reached refs roots n) → (n : ℕ) → Contains more n → Reached refs roots n

kept : {refs : List (List ℕ)} {path done todo after : List ℕ} → Grew refs path done todo after → (n : ℕ) → Contains done n → Contains after n
kept {done = done} g n c = subst (λ xs. Contains xs n) (sym g.whole) (Contains-append_left done g.more n c)

met_more : {refs : List (List ℕ)} {path done todo after : List ℕ} (node : ℕ) → Grew refs path done todo after → Contains done node → (n : ℕ) → Contains (node ∷ todo) n → Contains after n
met_more {todo = todo} {after = after} node g c n in' =
    elim (in_cons node n todo in') [ inl e ↦ subst (Contains after) (sym e) (kept g node c) | inr h ↦ g.met_all n h ]

grew_passed : {refs : List (List ℕ)} {path done todo after : List ℕ} (node : ℕ) → Contains done node → Grew refs path done todo after → Grew refs path done (node ∷ todo) after
grew_passed {todo = todo} node c g = record {
  more = g.more;
  whole = g.whole;
  apart = g.apart;
  met_all = met_more node g c;
  once = g.once;
  behind = g.behind;
  reached = λ roots all. g.reached roots (λ m i. all m (in_tail node m todo i));
}

-- a node that was visited is between what was finished below it and after it
in_between : (xs ys : List ℕ) (node n : ℕ) → Contains ((xs ++ node ∷ []) ++ ys) n → Contains xs n ⊎ ((n ≡ node) ⊎ Contains ys n)
in_between xs ys node n c =
    elim (Contains-append_cases (xs ++ node ∷ []) ys n c) [
      | inl h ↦ elim (Contains-append_cases xs (node ∷ []) n h) [ inl i ↦ inl i | inr i ↦ inr (inl (in_one node n i)) ]
      | inr h ↦ inr (inr h)
    ]

new_to : {refs : List (List ℕ)} {done todo after : List ℕ} (path : List ℕ) (node : ℕ) → Grew refs (path ++ node ∷ []) done todo after → ¬ Contains done node → Contains after node → ⊥
new_to {done = done} path node g out c =
    elim (Contains-append_cases done g.more node (subst (λ xs. Contains xs node) g.whole c)) [
      | inl h ↦ out h
      | inr h ↦ g.apart node (Contains-append_right path (node ∷ []) node (in_head node [])) h
    ]

grew_entered : {refs : List (List ℕ)} {path done todo between after : List ℕ} (node : ℕ) → ¬ Contains done node → ¬ Contains path node
    → Grew refs (path ++ node ∷ []) done (refs_of refs node) between → Grew refs path (between ++ node ∷ []) todo after → Grew refs path done (node ∷ todo) after
grew_entered {refs = refs} {path = path} {done = done} {todo = todo} {between = between} node out off g h = record {
  more = (g.more ++ node ∷ []) ++ h.more;
  whole = h.whole ∙ ap (λ xs. (xs ++ node ∷ []) ++ h.more) g.whole ∙ simp append_assoc;
  apart = λ n on c. elim (in_between g.more h.more node n c) [
    | inl i ↦ g.apart n (Contains-append_left path (node ∷ []) n on) i
    | inr i ↦ elim i [ inl e ↦ off (subst (Contains path) e on) | inr j ↦ h.apart n on j ]
  ];
  met_all = met_more node h (Contains-append_right between (node ∷ []) node (in_head node []));
  once = λ o. h.once (EachAfter-push (λ before n. ¬ Contains before n) between node (g.once o) (new_to path node g out));
  behind = λ b. h.behind (EachAfter-push (λ before n. (ref : ℕ) → Contains (refs_of refs n) ref → Contains before ref) between node (g.behind b) g.met_all);
  reached = λ roots all n c. elim (in_between g.more h.more node n c) [
    | inl i ↦ g.reached roots (λ ref r. further node ref (all node (in_head node todo)) r) n i
    | inr i ↦ elim i [
      | inl e ↦ subst (Reached refs roots) (sym e) (all node (in_head node todo))
      | inr j ↦ h.reached roots (λ m r. all m (in_tail node m todo r)) n j
    ]
  ];
}

grew : {refs : List (List ℕ)} {path done todo after : List ℕ} → Visits refs path done todo (Ordered after) → Grew refs path done todo after
grew (ended p d) = record {
  more = [];
  whole = sym (append-nil d);
  apart = λ n on c. in_none n c;
  met_all = λ n c. absurd (in_none n c);
  once = λ h. h;
  behind = λ h. h;
  reached = λ roots all n c. absurd (in_none n c);
}
grew (passed p d n t o c v) = grew_passed n c (grew v)
grew (entered p d n t b o out off v w) = grew_entered n out off (grew v) (grew w)

-- ---- the order

pub is_node : {refs : List (List ℕ)} {roots : List ℕ} → AreNodes refs roots → All (AreNodes refs) refs → (n : ℕ) → Reached refs roots n → n < length refs
is_node {refs = refs} {roots = roots} rs all _ (root n c) = All-contains (λ m. m < length refs) roots n rs c
is_node {refs = refs} rs all _ (further m n r c) =
    All-contains (λ k. k < length refs) (refs_of refs m) n (All-get_or (AreNodes refs) refs m [] (is_node rs all m r) all) c

reached_in : {refs : List (List ℕ)} {roots order : List ℕ} → ((n : ℕ) → Contains roots n → Contains order n) → Behind refs order → (n : ℕ) → Reached refs roots n → Contains order n
reached_in all behind _ (root n c) = all n c
reached_in {refs = refs} {order = order} all behind _ (further m n r c) =
    let at = index_of order m (reached_in all behind m r) in
    let far = behind at.0 at.1 n (subst (λ k. Contains (refs_of refs k) n) (sym at.2) c) in
    let before = from_take order at.0 n (omega (arith, at.1)) far in
    at_index order n before.0 (omega (arith, at.1, before.1)) before.2

pub is_order : {refs : List (List ℕ)} {roots order : List ℕ} → AreNodes refs roots → All (AreNodes refs) refs → Visits refs [] [] roots (Ordered order) → IsOrder refs roots order
is_order {refs = refs} {roots = roots} {order = order} rs all v =
    let g = grew v in
    let behind : Behind refs order = g.behind (λ k lt. absurd (omega (arith, lt))) in
    let only : (k : ℕ) (d : ℕ) → k < length order → Reached refs roots (get_or order k d) = λ k d lt.
    g.reached roots (λ n c. root n c) _ (subst (λ xs. Contains xs (get_or order k d)) g.whole (k, lt, get_or_default order k _ d lt)) in
    record {
      once = g.once (λ k lt. absurd (omega (arith, lt)));
      behind = behind;
      roots_in = λ k d lt. g.met_all (get_or roots k d) (k, lt, get_or_default roots k _ d lt);
      all = reached_in g.met_all behind;
      only = only;
      nodes = λ k d lt. is_node rs all _ (only k d lt);
    }

-- What a cycle that a visit meets is, and that an order has none.
use Rattle.std.proofs.Common.{◌≡◌, ℕ, ◌<◌, List, [], ◌∷◌, ◌++◌, length, take, get_or, cond, Bool, true, false, eqb, refl, sym, ap, subst, ◌∙◌, arith, inl, inr}
use Rattle.std.specs.Prelude.{Contains, All}
use Rattle.std.proofs.lemmas.Bool.{eqb-true, eq-eqb}
use Rattle.std.proofs.lemmas.List.Elements.{All-push, All-tail, All-head}
use Rattle.tb_graph.specs.Graphs.{refs_of, Reached, root, further, IsOrder, LeadsTo, IsCycle}
use Rattle.tb_graph.specs.declared.orders.OrderFault.{OrderFault}
use Rattle.tb_graph.specs.declared.orders.OrderFault.TheVariants as fault
use Rattle.tb_graph.specs.Visits.{Cyclic, Visits, OfCycle, path_from, passed, met, entered, failed}
use Rattle.tb_graph.proofs.Sorted.{in_cons, in_none, in_head, in_tail, in_take, from_take, index_of}

LeadsTo-push : (refs : List (List ℕ)) (path : List ℕ) (to n : ℕ) → LeadsTo refs to path → Contains (refs_of refs to) n → LeadsTo refs n (path ++ to ∷ [])
LeadsTo-push refs [] to n h c = (c, tt)
LeadsTo-push refs (at ∷ []) to n h c = (h.0, (c, tt))
LeadsTo-push refs (at ∷ next ∷ rest) to n h c = (h.0, LeadsTo-push refs (next ∷ rest) to n h.1 c)

-- a path that holds the node, from there on
record From (refs : List (List ℕ)) (P : ℕ → Type 0) (node : ℕ) (path : List ℕ) : Type 0 where
  rest : List ℕ
  is : path_from node path ≡ node ∷ rest
  leads : LeadsTo refs node (node ∷ rest)
  all : All P (node ∷ rest)

from_here : (refs : List (List ℕ)) (P : ℕ → Type 0) (node at : ℕ) (rest : List ℕ) → eqb at node ≡ true → LeadsTo refs node (at ∷ rest) → All P (at ∷ rest) → From refs P node (at ∷ rest)
from_here refs P node at rest e leads all =
    let same = eqb-true at node e in
    record {
      rest = rest;
      is = ap (λ b. cond b (at ∷ rest) (path_from node rest)) e ∙ ap (λ m. m ∷ rest) same;
      leads = subst (λ m. LeadsTo refs node (m ∷ rest)) same leads;
      all = subst (λ m. All P (m ∷ rest)) same all;
    }

from_later : (refs : List (List ℕ)) (P : ℕ → Type 0) (node at : ℕ) (rest : List ℕ) → eqb at node ≡ false → From refs P node rest → From refs P node (at ∷ rest)
from_later refs P node at rest e f = record { rest = f.rest; is = ap (λ b. cond b (at ∷ rest) (path_from node rest)) e ∙ f.is; leads = f.leads; all = f.all }

from_by : (refs : List (List ℕ)) (P : ℕ → Type 0) (node at : ℕ) (rest : List ℕ) → LeadsTo refs node (at ∷ rest) → All P (at ∷ rest) → (b : Bool) → eqb at node ≡ b → (eqb at node ≡ false → From refs P node rest) → From refs P node (at ∷ rest)
from_by refs P node at rest leads all true e later = from_here refs P node at rest e leads all
from_by refs P node at rest leads all false e later = from_later refs P node at rest e (later e)

from : (refs : List (List ℕ)) (P : ℕ → Type 0) (node : ℕ) (path : List ℕ) → Contains path node → LeadsTo refs node path → All P path → From refs P node path
from refs P node [] c leads all = absurd (in_none node c)
from refs P node (at ∷ rest) c leads all =
    let later : eqb at node ≡ false → Contains rest node = λ e. elim (in_cons at node rest c) [ inl same ↦ (let t = eq-eqb at node (sym same) in cc) | inr h ↦ h ] in
    from_by refs P node at rest leads all (eqb at node) refl (λ e. from refs P node rest (later e) leads.1 (All-tail P at rest all))

pub is_cycle : {refs : List (List ℕ)} (roots : List ℕ) {path done todo cycle : List ℕ} → Visits refs path done todo (Cyclic cycle) → All (Reached refs roots) path
    → ((n : ℕ) → Contains todo n → Reached refs roots n) → ((n : ℕ) → Contains todo n → LeadsTo refs n path) → IsCycle refs roots cycle
is_cycle {refs = refs} roots (passed p d n t o c v) on todo leads = is_cycle roots v on (λ m i. todo m (in_tail n m t i)) (λ m i. leads m (in_tail n m t i))
is_cycle {refs = refs} roots (met p d n t out c) on todo leads =
    let f = from refs (Reached refs roots) n p c (leads n (in_head n t)) on in
    subst (IsCycle refs roots) (sym f.is) (f.all, f.leads)
is_cycle {refs = refs} roots (entered p d n t b o out off v w) on todo leads = is_cycle roots w on (λ m i. todo m (in_tail n m t i)) (λ m i. leads m (in_tail n m t i))
is_cycle {refs = refs} roots (failed p d n t c out off v) on todo leads =
    is_cycle roots v (All-push (Reached refs roots) p n on (todo n (in_head n t))) (λ m i. further n m (todo n (in_head n t)) i)
    (λ m i. LeadsTo-push refs p n m (leads n (in_head n t)) i)

pub cycle_is_cycle : (refs : List (List ℕ)) (roots : List ℕ) (e : OrderFault) → OfCycle (λ cycle. Visits refs [] [] roots (Cyclic cycle)) e → OfCycle (IsCycle refs roots) e
cycle_is_cycle refs roots (fault.Cycle cycle) v = is_cycle roots v (λ k d lt. absurd (omega (arith, lt))) (λ n i. root n i) (λ n i. tt)
cycle_is_cycle refs roots fault.NoMemory v = tt

-- what a node leads to stands before it
leads_back : {refs : List (List ℕ)} {roots order : List ℕ} → IsOrder refs roots order → (rest : List ℕ) (at to k : ℕ) → k < length order → get_or order k 0 ≡ at → LeadsTo refs to (at ∷ rest) → Contains (take k order) to
leads_back {refs = refs} o [] at to k lt e leads = o.behind k lt to (subst (λ m. Contains (refs_of refs m) to) (sym e) leads.0)
leads_back {refs = refs} {order = order} o (next ∷ rest) at to k lt e leads =
    let step = from_take order k next (omega arith) (o.behind k lt next (subst (λ m. Contains (refs_of refs m) next) (sym e) leads.0)) in
    let below = leads_back o rest next to step.0 (omega (arith, step.1)) step.2 leads.1 in
    let at_last = from_take order step.0 to (omega (arith, step.1)) below in
    subst (Contains (take k order)) {x = get_or order at_last.0 0} at_last.2 (in_take order k at_last.0 (omega (arith, step.1, at_last.1)) (omega arith))

pub has_no_cycle : {refs : List (List ℕ)} {roots order : List ℕ} → IsOrder refs roots order → (cycle : List ℕ) → ¬ IsCycle refs roots cycle
has_no_cycle o [] h = h
has_no_cycle {refs = refs} {roots = roots} {order = order} o (first ∷ rest) h =
    let at = index_of order first (o.all first (All-head (Reached refs roots) first rest h.0)) in
    o.once at.0 at.1 (subst (Contains (take at.0 order)) (sym at.2) (leads_back o rest first first at.0 at.1 at.2 h.1))

-- A visit ends in one way.
use Rattle.std.proofs.Common.{◌≡◌, ℕ, List, [], ◌∷◌, ◌++◌, refl, subst}
use Rattle.std.specs.Prelude.{Err}
use Rattle.tb_graph.specs.declared.orders.OrderFault.{OrderFault}
use Rattle.tb_graph.specs.declared.orders.OrderFault.TheVariants as fault
use Rattle.tb_graph.specs.Visits.{Outcome, Ordered, Cyclic, Visits, ended, passed, met, entered, failed, Answers, OfCycle}

same_order : {xs ys : List ℕ} → Ordered xs ≡ Ordered ys → xs ≡ ys
same_order e = cc

pub unique : {refs : List (List ℕ)} {path done todo : List ℕ} {a b : Outcome} → Visits refs path done todo a → Visits refs path done todo b → b ≡ a
unique (ended p d) (ended _ _) = refl
unique (passed p d n t o c v) (passed _ _ _ _ _ _ w) = unique v w
unique (passed p d n t o c v) (met _ _ _ _ out _) = absurd (out c)
unique (passed p d n t o c v) (entered _ _ _ _ _ _ out _ _ _) = absurd (out c)
unique (passed p d n t o c v) (failed _ _ _ _ _ out _ _) = absurd (out c)
unique (met p d n t out on) (passed _ _ _ _ _ c _) = absurd (out c)
unique (met p d n t out on) (met _ _ _ _ _ _) = refl
unique (met p d n t out on) (entered _ _ _ _ _ _ _ off _ _) = absurd (off on)
unique (met p d n t out on) (failed _ _ _ _ _ _ off _) = absurd (off on)
unique (entered p d n t b o out off v w) (passed _ _ _ _ _ c _) = absurd (out c)
unique (entered p d n t b o out off v w) (met _ _ _ _ _ on) = absurd (off on)
unique {refs = refs} (entered p d n t b o out off v w) (entered _ _ _ _ b2 o2 _ _ v2 w2) =
    unique w (subst (λ x. Visits refs p (x ++ n ∷ []) t o2) (same_order (unique v v2)) w2)
unique (entered p d n t b o out off v w) (failed _ _ _ _ c _ _ v2) = let e = unique v v2 in cc
unique (failed p d n t c out off v) (passed _ _ _ _ _ k _) = absurd (out k)
unique (failed p d n t c out off v) (met _ _ _ _ _ on) = absurd (off on)
unique (failed p d n t c out off v) (entered _ _ _ _ b o _ _ v2 w2) = let e = unique v v2 in cc
unique (failed p d n t c out off v) (failed _ _ _ _ c2 _ _ v2) = unique v v2

pub ordered_only : {refs : List (List ℕ)} {path done todo order : List ℕ} → Visits refs path done todo (Ordered order) → (o : Outcome) → Visits refs path done todo o → o ≡ Ordered order
ordered_only v o w = unique v w

pub cyclic_only : {refs : List (List ℕ)} {path done todo : List ℕ} (e : OrderFault) → OfCycle (λ cycle. Visits refs path done todo (Cyclic cycle)) e → (o : Outcome) → Visits refs path done todo o → Answers (Err e) o
cyclic_only (fault.Cycle cycle) v o w = unique v w
cyclic_only fault.NoMemory v o w = tt

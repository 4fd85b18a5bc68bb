-- Where each member is below the next one, each is below all that follow, and the other way round.
use Rattle.std.proofs.Common.{◌≡◌, ◌↔◌, true, List, [], ◌∷◌, IsTrue, refl}
use Rattle.std.proofs.lemmas.Bool.{and_parts}
use Rattle.std.specs.Cmp.{IsTotalOrder}
use Rattle.std.specs.List.{AllByRecursion}
use Rattle.std.specs.List.Sorted.{IsStrictlySortedBy}
use Rattle.std.specs.Ordering.{is_lt}
use Rattle.std.specs.declared.cmp.Ordering.{Ordering}
use Rattle.std.specs.declared.cmp.Ordering.TheVariants.{Less, Equal, Greater}
use Rattle.tb_info.specs.Ascending.{neighbours_ascend}

is_less : (r : Ordering) → is_lt r ≡ true → r ≡ Less
is_less Less e = refl
is_less Equal e = absurd (cc)
is_less Greater e = absurd (cc)

further : {X : Type 0} (cmp : X → X → Ordering) → IsTotalOrder cmp → (x y : X) → cmp x y ≡ Less → (rest : List X) → AllByRecursion (λ z. cmp y z ≡ Less) rest
    → AllByRecursion (λ z. cmp x z ≡ Less) rest
further cmp total x y less [] h = tt
further cmp total x y less (z ∷ rest) h = (total.trans x y z less h.0, further cmp total x y less rest h.1)

sorted_from : {X : Type 0} (cmp : X → X → Ordering) → IsTotalOrder cmp → (xs : List X) → neighbours_ascend cmp xs ≡ true → IsStrictlySortedBy cmp xs
unfolding IsStrictlySortedBy
sorted_from cmp total [] e = tt
sorted_from cmp total (x ∷ []) e = (tt, tt)
sorted_from cmp total (x ∷ y ∷ rest) e =
    let parts = and_parts _ _ e in
    let less = is_less (cmp x y) parts.0 in
    let sorted = sorted_from cmp total (y ∷ rest) parts.1 in
    ((less, further cmp total x y less rest sorted.0), sorted)

ascends_from : {X : Type 0} (cmp : X → X → Ordering) → (xs : List X) → IsStrictlySortedBy cmp xs → neighbours_ascend cmp xs ≡ true
unfolding IsStrictlySortedBy
ascends_from cmp [] s = refl
ascends_from cmp (x ∷ []) s = refl
ascends_from cmp (x ∷ y ∷ rest) s = rw (s.0.0, ascends_from cmp (y ∷ rest) s.1)

pub ascends_is : {X : Type 0} (cmp : X → X → Ordering) → IsTotalOrder cmp → (xs : List X) → IsTrue (neighbours_ascend cmp xs) ↔ IsStrictlySortedBy cmp xs
ascends_is cmp total xs = (sorted_from cmp total xs, ascends_from cmp xs)

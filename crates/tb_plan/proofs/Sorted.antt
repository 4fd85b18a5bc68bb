-- Lists in strict order are told by their members.
use Rattle.std.proofs.Common.{◌≡◌, List, [], ◌∷◌, refl, sym, ap, subst, ◌∙◌, inl, inr}
use Rattle.std.specs.Prelude.{◌⊎◌, fold}
use Rattle.std.specs.List.{AllByRecursion}
use Rattle.std.specs.List.Sorted.{IsStrictlySortedBy}
use Rattle.std.specs.Ordering.{match_ordering, ordering_reverse}
use Rattle.std.specs.Cmp.{IsTotalOrder, tied_itself}
use Rattle.std.specs.BTreeSet.{insert_key}
use Rattle.std.specs.declared.cmp.Ordering.{Ordering}
use Rattle.std.specs.declared.cmp.Ordering.TheVariants.{Less, Equal, Greater}
use Rattle.tb_plan.proofs.Members.{In}

less_not_equal : Less ≡ Equal → ⊥
less_not_equal e = cc

less_not_greater : Less ≡ Greater → ⊥
less_not_greater e = cc

above : {X : Type 0} (R : X → X → Ordering) (x y : X) (ys : List X) → AllByRecursion (λ z. R x z ≡ Less) ys → In ys y → R x y ≡ Less
above R x y [] all h = absurd h
above R x y (z ∷ ys) all h = elim h [ inl e ↦ subst (λ w. R x w ≡ Less) e all.0 | inr t ↦ above R x y ys all.1 t ]

module _ {X : Type 0} {R : X → X → Ordering} (o : IsTotalOrder R) where
  not_itself : (x : X) → R x x ≡ Less → ⊥
  not_itself x e = less_not_equal (sym e ∙ tied_itself o x)

  not_both : (x y : X) → R x y ≡ Less → R y x ≡ Less → ⊥
  not_both x y e f = less_not_greater (sym e ∙ o.antisymm x y ∙ ap ordering_reverse f)

  heads : (x y : X) (xs ys : List X) → IsStrictlySortedBy R (x ∷ xs) → IsStrictlySortedBy R (y ∷ ys) → In (y ∷ ys) x → In (x ∷ xs) y → x ≡ y
  unfolding IsStrictlySortedBy
  heads x y xs ys s t h k = elim h [
    | inl e ↦ sym e
    | inr a ↦ elim k [ inl e ↦ e | inr b ↦ absurd (not_both x y (above R x y xs s.0 b) (above R y x ys t.0 a)) ]
  ]

  in_rest : (x y z : X) (xs ys : List X) → x ≡ y → IsStrictlySortedBy R (x ∷ xs) → In xs z → In (y ∷ ys) z → In ys z
  unfolding IsStrictlySortedBy
  in_rest x y z xs ys e s h k = elim k [
    | inl f ↦ absurd (not_itself z (subst (λ w. R w z ≡ Less) (e ∙ f) (above R x z xs s.0 h)))
    | inr t ↦ t
  ]

  pub same_sorted : (xs ys : List X) → IsStrictlySortedBy R xs → IsStrictlySortedBy R ys → ((z : X) → In xs z → In ys z) → ((z : X) → In ys z → In xs z) → xs ≡ ys
  unfolding IsStrictlySortedBy
  same_sorted [] [] s t f g = refl
  same_sorted [] (y ∷ ys) s t f g = absurd (g y (inl refl))
  same_sorted (x ∷ xs) [] s t f g = absurd (f x (inl refl))
  same_sorted (x ∷ xs) (y ∷ ys) s t f g =
      let e = heads x y xs ys s t (f x (inl refl)) (g y (inl refl)) in
      let rest = same_sorted xs ys s.1 t.1 (λ z h. in_rest x y z xs ys e s h (f z (inr h))) (λ z h. in_rest y x z ys xs (sym e) t h (g z (inr h))) in
      ap (λ (w : X). w ∷ xs) e ∙ ap (λ (l : List X). y ∷ l) rest

-- ---- keys that are put in their places

all_put : {X : Type 0} (R : X → X → Ordering) (P : X → Type 0) (k : X) (xs : List X) → P k → AllByRecursion P xs → AllByRecursion P (insert_key R xs k)
all_put R P k [] p all = (p, tt)
all_put R P k (x ∷ xs) p all = elim (R k x) as (λ r. AllByRecursion P (match_ordering r (k ∷ x ∷ xs) (x ∷ xs) (x ∷ insert_key R xs k))) [
  | Less ↦ (p, all)
  | Equal ↦ all
  | Greater ↦ (all.0, all_put R P k xs p all.1)
]

all_weaker : {X : Type 0} (P Q : X → Type 0) → ((x : X) → P x → Q x) → (xs : List X) → AllByRecursion P xs → AllByRecursion Q xs
all_weaker P Q f [] all = tt
all_weaker P Q f (x ∷ xs) all = (f x all.0, all_weaker P Q f xs all.1)

module _ {X : Type 0} {R : X → X → Ordering} (o : IsTotalOrder R) where
  sorted_put : (k : X) (xs : List X) → IsStrictlySortedBy R xs → IsStrictlySortedBy R (insert_key R xs k)
  unfolding IsStrictlySortedBy
  sorted_put k [] s = (tt, tt)
  sorted_put k (x ∷ xs) s = elim (R k x) as (λ r. R k x ≡ r → IsStrictlySortedBy R (match_ordering r (k ∷ x ∷ xs) (x ∷ xs) (x ∷ insert_key R xs k))) [
    | Less ↦ λ e. ((e, all_weaker (λ y. R x y ≡ Less) (λ y. R k y ≡ Less) (λ y h. o.trans k x y e h) xs s.0), s)
    | Equal ↦ λ e. s
    | Greater ↦ λ e. (all_put R (λ y. R x y ≡ Less) k xs (o.antisymm x k ∙ ap ordering_reverse e) s.0, sorted_put k xs s.1)
  ] refl

  put_all : (ks xs : List X) → IsStrictlySortedBy R xs → IsStrictlySortedBy R (fold (insert_key R) xs ks)
  put_all [] xs s = s
  put_all (k ∷ ks) xs s = put_all ks (insert_key R xs k) (sorted_put k xs s)

  pub sorted_fold : (ks : List X) → IsStrictlySortedBy R (fold (insert_key R) [] ks)
  unfolding IsStrictlySortedBy
  sorted_fold ks = put_all ks [] tt

module _ {X : Type 0} (R : X → X → Ordering) (exact : (x y : X) → R x y ≡ Equal → x ≡ y) where
  put_itself : (k : X) (xs : List X) → In (insert_key R xs k) k
  put_itself k [] = inl refl
  put_itself k (x ∷ xs) = elim (R k x) as (λ r. R k x ≡ r → In (match_ordering r (k ∷ x ∷ xs) (x ∷ xs) (x ∷ insert_key R xs k)) k) [
    | Less ↦ λ e. inl refl
    | Equal ↦ λ e. inl (sym (exact k x e))
    | Greater ↦ λ e. inr (put_itself k xs)
  ] refl

  put_other : (k z : X) (xs : List X) → In xs z → In (insert_key R xs k) z
  put_other k z [] h = absurd h
  put_other k z (x ∷ xs) h = elim (R k x) as (λ r. In (match_ordering r (k ∷ x ∷ xs) (x ∷ xs) (x ∷ insert_key R xs k)) z) [
    | Less ↦ inr h
    | Equal ↦ h
    | Greater ↦ elim h [ inl e ↦ inl e | inr t ↦ inr (put_other k z xs t) ]
  ]

  from_put : (k z : X) (xs : List X) → In (insert_key R xs k) z → (k ≡ z) ⊎ In xs z
  from_put k z [] h = elim h [ inl e ↦ inl e | inr t ↦ absurd t ]
  from_put k z (x ∷ xs) h = elim (R k x) as (λ r. In (match_ordering r (k ∷ x ∷ xs) (x ∷ xs) (x ∷ insert_key R xs k)) z → (k ≡ z) ⊎ In (x ∷ xs) z) [
    | Less ↦ λ h. h
    | Equal ↦ λ h. inr h
    | Greater ↦ λ h. elim h [ inl e ↦ inr (inl e) | inr t ↦ elim (from_put k z xs t) [ inl a ↦ inl a | inr b ↦ inr (inr b) ] ]
  ] h

  in_fold_start : (ks xs : List X) (z : X) → In xs z → In (fold (insert_key R) xs ks) z
  in_fold_start [] xs z h = h
  in_fold_start (k ∷ ks) xs z h = in_fold_start ks (insert_key R xs k) z (put_other k z xs h)

  in_fold_from : (ks xs : List X) (z : X) → In ks z → In (fold (insert_key R) xs ks) z
  in_fold_from [] xs z h = absurd h
  in_fold_from (k ∷ ks) xs z h = elim h [
    | inl e ↦ in_fold_start ks (insert_key R xs k) z (subst (In (insert_key R xs k)) e (put_itself k xs))
    | inr t ↦ in_fold_from ks (insert_key R xs k) z t
  ]

  from_fold_at : (ks xs : List X) (z : X) → In (fold (insert_key R) xs ks) z → In ks z ⊎ In xs z
  from_fold_at [] xs z h = inr h
  from_fold_at (k ∷ ks) xs z h = elim (from_fold_at ks (insert_key R xs k) z h) [
    | inl a ↦ inl (inr a)
    | inr b ↦ elim (from_put k z xs b) [ inl e ↦ inl (inl e) | inr t ↦ inr t ]
  ]

  pub in_fold : (ks : List X) (z : X) → In ks z → In (fold (insert_key R) [] ks) z
  in_fold ks z h = in_fold_from ks [] z h

  pub from_fold : (ks : List X) (z : X) → In (fold (insert_key R) [] ks) z → In ks z
  from_fold ks z h = elim (from_fold_at ks [] z h) [ inl a ↦ a | inr b ↦ absurd b ]

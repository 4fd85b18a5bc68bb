-- Members of lists, by recursion on the list.
use Rattle.std.proofs.Common.{◌≡◌, ◌⊎◌, inl, inr, ℕ, zero, suc, ◌+◌, ◌<◌, List, [], ◌∷◌, ◌++◌, length, get_or, take, map, flat_map, IsPermutation, refl, sym, ap, ◌∙◌, arith}
use Rattle.std.specs.Prelude.{Contains}
use Rattle.std.specs.List.{AllByRecursion}
use Rattle.std.proofs.lemmas.List.{take_more}
use Rattle.std.proofs.lemmas.List.Elements.{All-from_recursion, recursion_from_All}
use Rattle.std.proofs.lemmas.List.Sorted.{All-permutation}

abbrev pub In : {X : Type 0} → List X → X → Type 0
In [] x = ⊥
In (y ∷ ys) x = (y ≡ x) ⊎ In ys x

in_of : {X : Type 0} (xs : List X) (x : X) (k : ℕ) → k < length xs → get_or xs k x ≡ x → In xs x
in_of [] x k lt e = absurd (omega (arith, lt))
in_of (y ∷ ys) x zero lt e = inl e
in_of (y ∷ ys) x (suc k) lt e = inr (in_of ys x k (omega (arith, lt)) e)

pub in_from : {X : Type 0} (xs : List X) (x : X) → Contains xs x → In xs x
in_from xs x c = in_of xs x c.0 c.1 c.2

later : {X : Type 0} (y x : X) (ys : List X) → Contains ys x → Contains (y ∷ ys) x
later y x ys c = (suc c.0, omega (arith, c.1), c.2)

pub in_back : {X : Type 0} (xs : List X) (x : X) → In xs x → Contains xs x
in_back [] x h = absurd h
in_back (y ∷ ys) x h = elim h [ inl e ↦ (0, omega arith, e) | inr t ↦ later y x ys (in_back ys x t) ]

-- ---- lists that are made of others

pub in_left : {X : Type 0} (xs ys : List X) (x : X) → In xs x → In (xs ++ ys) x
in_left [] ys x h = absurd h
in_left (y ∷ xs) ys x h = elim h [ inl e ↦ inl e | inr t ↦ inr (in_left xs ys x t) ]

pub in_right : {X : Type 0} (xs ys : List X) (x : X) → In ys x → In (xs ++ ys) x
in_right [] ys x h = h
in_right (y ∷ xs) ys x h = inr (in_right xs ys x h)

pub in_append : {X : Type 0} (xs ys : List X) (x : X) → In (xs ++ ys) x → In xs x ⊎ In ys x
in_append [] ys x h = inr h
in_append (y ∷ xs) ys x h = elim h [
  | inl e ↦ inl (inl e)
  | inr t ↦ elim (in_append xs ys x t) [ inl a ↦ inl (inr a) | inr b ↦ inr b ]
]

pub in_flat : {X Y : Type 0} (f : X → List Y) (xs : List X) (y : Y) → In (flat_map f xs) y → (x : X) × In xs x × In (f x) y
in_flat f [] y h = absurd h
in_flat f (x ∷ xs) y h = elim (in_append (f x) (flat_map f xs) y h) [
  | inl a ↦ (x, inl refl, a)
  | inr b ↦ let r = in_flat f xs y b in (r.0, inr r.1, r.2)
]

pub flat_in : {X Y : Type 0} (f : X → List Y) (xs : List X) (x : X) (y : Y) → In xs x → In (f x) y → In (flat_map f xs) y
flat_in f [] x y h g = absurd h
flat_in f (z ∷ xs) x y h g = elim h [
  | inl e ↦ in_left (f z) (flat_map f xs) y (rw e g)
  | inr t ↦ in_right (f z) (flat_map f xs) y (flat_in f xs x y t g)
]

pub in_map : {X Y : Type 0} (f : X → Y) (xs : List X) (x : X) → In xs x → In (map f xs) (f x)
in_map f [] x h = absurd h
in_map f (y ∷ xs) x h = elim h [ inl e ↦ inl (ap f e) | inr t ↦ inr (in_map f xs x t) ]

-- ---- what holds of all

pub all_by : {X : Type 0} (P : X → Type 0) (xs : List X) → ((x : X) → In xs x → P x) → AllByRecursion P xs
all_by P [] h = tt
all_by P (x ∷ xs) h = (h x (inl refl), all_by P xs (λ y i. h y (inr i)))

pub each_of : {X : Type 0} (P : X → Type 0) (xs : List X) (x : X) → AllByRecursion P xs → In xs x → P x
each_of P [] x h i = absurd i
each_of P (y ∷ xs) x h i = elim i [ inl e ↦ rw (sym e) h.0 | inr t ↦ each_of P xs x h.1 t ]

pub in_permuted : {X : Type 0} (xs ys : List X) → IsPermutation xs ys → (x : X) → In ys x → In xs x
in_permuted xs ys p x h =
    each_of (In xs) ys x (recursion_from_All (In xs) ys (All-permutation (In xs) xs ys p (All-from_recursion (In xs) xs (all_by (In xs) xs (λ y i. i))))) h

-- ---- one member further

pub taken : {X : Type 0} (xs : List X) (i : ℕ) (x : X) → i < length xs → x ≡ get_or xs i x → take (i + 1) xs ≡ take i xs ++ x ∷ []
taken xs i x lt e = take_more xs i x lt ∙ ap (λ y. take i xs ++ y ∷ []) (sym e)

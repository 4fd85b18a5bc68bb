-- Members of lists, by recursion on the list.
use Rattle.std.proofs.Common.{◌≡◌, ℕ, zero, suc, ◌<◌, List, [], ◌∷◌, ◌++◌, length, get_or, refl, sym, ap, subst, inl, inr, arith}
use Rattle.std.specs.Prelude.{Contains, ◌⊎◌, map}
use Rattle.std.specs.List.{flat_map}

abbrev pub In : {X : Type 0} → List X → X → Type 0
In [] x = ⊥
In (y ∷ ys) x = (y ≡ x) ⊎ In ys x

pub in_of : {X : Type 0} (xs : List X) (x : X) (k : ℕ) → k < length xs → get_or xs k x ≡ x → In xs x
in_of [] x k lt e = absurd (omega arith)
in_of (y ∷ ys) x zero lt e = inl e
in_of (y ∷ ys) x (suc k) lt e = inr (in_of ys x k (omega arith) e)

pub in_from : {X : Type 0} (xs : List X) (x : X) → Contains xs x → In xs x
in_from xs x c = in_of xs x c.0 c.1 c.2

later : {X : Type 0} (y x : X) (ys : List X) → Contains ys x → Contains (y ∷ ys) x
later y x ys c = (suc c.0, omega (arith, c.1), c.2)

pub in_back : {X : Type 0} (xs : List X) (x : X) → In xs x → Contains xs x
in_back [] x h = absurd h
in_back (y ∷ ys) x h = elim h [ inl e ↦ (0, omega arith, e) | inr t ↦ later y x ys (in_back ys x t) ]

-- ---- lists that are made of others

pub in_left : {X : Type 0} (xs ys : List X) (x : X) → In xs x → In (xs ++ ys) x
in_left [] ys x h = absurd h
in_left (y ∷ xs) ys x h = elim h [ inl e ↦ inl e | inr t ↦ inr (in_left xs ys x t) ]

pub in_right : {X : Type 0} (xs ys : List X) (x : X) → In ys x → In (xs ++ ys) x
in_right [] ys x h = h
in_right (y ∷ xs) ys x h = inr (in_right xs ys x h)

pub in_append : {X : Type 0} (xs ys : List X) (x : X) → In (xs ++ ys) x → In xs x ⊎ In ys x
in_append [] ys x h = inr h
in_append (y ∷ xs) ys x h = elim h [
  | inl e ↦ inl (inl e)
  | inr t ↦ elim (in_append xs ys x t) [ inl a ↦ inl (inr a) | inr b ↦ inr b ]
]

pub in_map : {X Y : Type 0} (f : X → Y) (xs : List X) (x : X) → In xs x → In (map f xs) (f x)
in_map f [] x h = absurd h
in_map f (y ∷ xs) x h = elim h [ inl e ↦ inl (ap f e) | inr t ↦ inr (in_map f xs x t) ]

pub from_map : {X Y : Type 0} (f : X → Y) (xs : List X) (y : Y) → In (map f xs) y → (x : X) × In xs x × (f x ≡ y)
from_map f [] y h = absurd h
from_map f (x ∷ xs) y h = elim h [
  | inl e ↦ (x, inl refl, e)
  | inr t ↦ let r = from_map f xs y t in (r.0, inr r.1, r.2)
]

pub in_flat : {X Y : Type 0} (f : X → List Y) (xs : List X) (x : X) (y : Y) → In xs x → In (f x) y → In (flat_map f xs) y
in_flat f [] x y h k = absurd h
in_flat f (z ∷ xs) x y h k = elim h [
  | inl e ↦ in_left (f z) (flat_map f xs) y (subst (λ w. In (f w) y) (sym e) k)
  | inr t ↦ in_right (f z) (flat_map f xs) y (in_flat f xs x y t k)
]

pub from_flat : {X Y : Type 0} (f : X → List Y) (xs : List X) (y : Y) → In (flat_map f xs) y → (x : X) × In xs x × In (f x) y
from_flat f [] y h = absurd h
from_flat f (z ∷ xs) y h = elim (in_append (f z) (flat_map f xs) y h) [
  | inl a ↦ (z, inl refl, a)
  | inr b ↦ let r = from_flat f xs y b in (r.0, inr r.1, r.2)
]

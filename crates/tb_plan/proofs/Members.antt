-- Members of lists, by recursion on the list.
use Rattle.std.proofs.Common.{◌≡◌, ℕ, zero, suc, ◌+◌, ◌<◌, take, Bool, true, false, cond, List, [], ◌∷◌, ◌++◌, length, get_or, refl, sym, ap, subst, ◌∙◌, inl, inr, arith}
use Rattle.std.specs.Prelude.{Contains, ◌⊎◌, map}
use Rattle.std.specs.List.{filter, flat_map}
use Rattle.std.proofs.lemmas.List.{take_more}
use Rattle.tb_plan.specs.Members.{HasSame}

abbrev pub In : {X : Type 0} → List X → X → Type 0
In [] x = ⊥
In (y ∷ ys) x = (y ≡ x) ⊎ In ys x

pub in_of : {X : Type 0} (xs : List X) (x : X) (k : ℕ) → k < length xs → get_or xs k x ≡ x → In xs x
in_of [] x k lt e = absurd (omega arith)
in_of (y ∷ ys) x zero lt e = inl e
in_of (y ∷ ys) x (suc k) lt e = inr (in_of ys x k (omega arith) e)

pub in_from : {X : Type 0} (xs : List X) (x : X) → Contains xs x → In xs x
in_from xs x c = in_of xs x c.0 c.1 c.2

later : {X : Type 0} (y x : X) (ys : List X) → Contains ys x → Contains (y ∷ ys) x
later y x ys c = (suc c.0, omega (arith, c.1), c.2)

pub in_back : {X : Type 0} (xs : List X) (x : X) → In xs x → Contains xs x
in_back [] x h = absurd h
in_back (y ∷ ys) x h = elim h [ inl e ↦ (0, omega arith, e) | inr t ↦ later y x ys (in_back ys x t) ]

-- ---- lists that are made of others

pub in_left : {X : Type 0} (xs ys : List X) (x : X) → In xs x → In (xs ++ ys) x
in_left [] ys x h = absurd h
in_left (y ∷ xs) ys x h = elim h [ inl e ↦ inl e | inr t ↦ inr (in_left xs ys x t) ]

pub in_right : {X : Type 0} (xs ys : List X) (x : X) → In ys x → In (xs ++ ys) x
in_right [] ys x h = h
in_right (y ∷ xs) ys x h = inr (in_right xs ys x h)

pub in_append : {X : Type 0} (xs ys : List X) (x : X) → In (xs ++ ys) x → In xs x ⊎ In ys x
in_append [] ys x h = inr h
in_append (y ∷ xs) ys x h = elim h [
  | inl e ↦ inl (inl e)
  | inr t ↦ elim (in_append xs ys x t) [ inl a ↦ inl (inr a) | inr b ↦ inr b ]
]

pub in_map : {X Y : Type 0} (f : X → Y) (xs : List X) (x : X) → In xs x → In (map f xs) (f x)
in_map f [] x h = absurd h
in_map f (y ∷ xs) x h = elim h [ inl e ↦ inl (ap f e) | inr t ↦ inr (in_map f xs x t) ]

pub from_map : {X Y : Type 0} (f : X → Y) (xs : List X) (y : Y) → In (map f xs) y → (x : X) × In xs x × (f x ≡ y)
from_map f [] y h = absurd h
from_map f (x ∷ xs) y h = elim h [
  | inl e ↦ (x, inl refl, e)
  | inr t ↦ let r = from_map f xs y t in (r.0, inr r.1, r.2)
]

in_cond : {X : Type 0} (b : Bool) (y x : X) (ys : List X) → In (cond b (y ∷ ys) ys) x → ((y ≡ x) × (b ≡ true)) ⊎ In ys x
in_cond true y x ys h = elim h [ inl e ↦ inl (e, refl) | inr t ↦ inr t ]
in_cond false y x ys h = inr h

cond_in : {X : Type 0} (b : Bool) (y x : X) (ys : List X) → In ys x → In (cond b (y ∷ ys) ys) x
cond_in true y x ys h = inr h
cond_in false y x ys h = h

pub from_filter : {X : Type 0} (p : X → Bool) (xs : List X) (x : X) → In (filter p xs) x → In xs x × (p x ≡ true)
from_filter p [] x h = absurd h
from_filter p (y ∷ xs) x h = elim (in_cond (p y) y x (filter p xs) h) [
  | inl e ↦ (inl e.0, ap p (sym e.0) ∙ e.1)
  | inr t ↦ let r = from_filter p xs x t in (inr r.0, r.1)
]

pub in_filter : {X : Type 0} (p : X → Bool) (xs : List X) (x : X) → In xs x → p x ≡ true → In (filter p xs) x
in_filter p [] x h e = absurd h
in_filter p (y ∷ xs) x h e = elim h [
  | inl s ↦ subst (λ b. In (cond b (y ∷ filter p xs) (filter p xs)) x) (sym (ap p s ∙ e)) (inl s)
  | inr t ↦ cond_in (p y) y x (filter p xs) (in_filter p xs x t e)
]

pub in_flat : {X Y : Type 0} (f : X → List Y) (xs : List X) (x : X) (y : Y) → In xs x → In (f x) y → In (flat_map f xs) y
in_flat f [] x y h k = absurd h
in_flat f (z ∷ xs) x y h k = elim h [
  | inl e ↦ in_left (f z) (flat_map f xs) y (subst (λ w. In (f w) y) (sym e) k)
  | inr t ↦ in_right (f z) (flat_map f xs) y (in_flat f xs x y t k)
]

pub from_flat : {X Y : Type 0} (f : X → List Y) (xs : List X) (y : Y) → In (flat_map f xs) y → (x : X) × In xs x × In (f x) y
from_flat f [] y h = absurd h
from_flat f (z ∷ xs) y h = elim (in_append (f z) (flat_map f xs) y h) [
  | inl a ↦ (z, inl refl, a)
  | inr b ↦ let r = from_flat f xs y b in (r.0, inr r.1, r.2)
]

-- ---- the same members

pub same_by : {X : Type 0} (xs ys : List X) → ((x : X) → In xs x → In ys x) → ((x : X) → In ys x → In xs x) → HasSame xs ys
same_by xs ys f g = record { into = λ x c. in_back ys x (f x (in_from xs x c)); back = λ x c. in_back xs x (g x (in_from ys x c)) }

pub same_itself : {X : Type 0} (xs : List X) → HasSame xs xs
same_itself xs = record { into = λ x c. c; back = λ x c. c }

pub same_append : {X : Type 0} (xs ys us vs : List X) → HasSame xs ys → HasSame us vs → HasSame (xs ++ us) (ys ++ vs)
same_append xs ys us vs a b = same_by (xs ++ us) (ys ++ vs)
    (λ x h. elim (in_append xs us x h) [ inl l ↦ in_left ys vs x (in_from ys x (a.into x (in_back xs x l))) | inr r ↦ in_right ys vs x (in_from vs x (b.into x (in_back us x r))) ])
    (λ x h. elim (in_append ys vs x h) [ inl l ↦ in_left xs us x (in_from xs x (a.back x (in_back ys x l))) | inr r ↦ in_right xs us x (in_from us x (b.back x (in_back vs x r))) ])

-- ---- one member further

pub taken : {X : Type 0} (xs : List X) (i : ℕ) (x : X) → i < length xs → x ≡ get_or xs i x → take (i + 1) xs ≡ take i xs ++ x ∷ []
taken xs i x lt e = take_more xs i x lt ∙ ap (λ y. take i xs ++ y ∷ []) (sym e)

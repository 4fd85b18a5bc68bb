-- Members of lists, by recursion.
use Rattle.std.proofs.Common.{◌≡◌, ℕ, zero, suc, ◌<◌, ◌⊎◌, inl, inr, Bool, true, false, ◌||◌, List, [], ◌∷◌, ◌++◌, length, map, flat_map, Contains, refl, ap, subst, ◌∙◌, arith, bytes_eq}
use Rattle.std.specs.List.{slice_index_or}
use Rattle.std.specs.Cmp.Lexicographic.{bytes_decides}
use Rattle.std.proofs.lemmas.Bool.{false≢true, or_cases}
use Rattle.tb_layout.specs.Parts.{is_one_of}

pub data In (A : Type 0) : List A → A → Type 0 where
  here : {x : A} {xs : List A} → In A (x ∷ xs) x
  there : {x y : A} {xs : List A} → In A xs x → In A (y ∷ xs) x

at_in : {A : Type 0} (xs : List A) (k : ℕ) (x : A) → k < length xs → slice_index_or xs k x ≡ x → In A xs x
at_in [] k x l e = absurd (omega arith)
at_in {A = A} (y ∷ ys) zero x l e = subst (λ (z : A). In A (y ∷ ys) z) e here
at_in (y ∷ ys) (suc k) x l e = there (at_in ys k x (omega arith) e)

pub in_list : {A : Type 0} (xs : List A) (x : A) → Contains xs x → In A xs x
in_list xs x c = at_in xs c.0 x c.1 c.2

pub contained : {A : Type 0} {xs : List A} {x : A} → In A xs x → Contains xs x
contained here = (zero, omega arith, refl)
contained (there h) = let c = contained h in (suc c.0, omega (arith, c.1), c.2)

-- ---- lists made of others

pub in_left : {A : Type 0} {xs : List A} (ys : List A) {x : A} → In A xs x → In A (xs ++ ys) x
in_left ys here = here
in_left ys (there h) = there (in_left ys h)

pub in_right : {A : Type 0} (xs : List A) {ys : List A} {x : A} → In A ys x → In A (xs ++ ys) x
in_right [] h = h
in_right (y ∷ xs) h = there (in_right xs h)

pub in_either : {A : Type 0} (xs ys : List A) (x : A) → In A (xs ++ ys) x → In A xs x ⊎ In A ys x
in_either [] ys x h = inr h
in_either (y ∷ xs) ys x here = inl here
in_either (y ∷ xs) ys x (there h) = elim (in_either xs ys x h) [ inl a ↦ inl (there a) | inr b ↦ inr b ]

pub in_flat : {A B : Type 0} (f : A → List B) (xs : List A) (y : B) → In B (flat_map f xs) y → (x : A) × In A xs x × In B (f x) y
in_flat f [] y h = elim h [ ]
in_flat f (x ∷ xs) y h = elim (in_either (f x) (flat_map f xs) y h) [
  | inl a ↦ (x, here, a)
  | inr b ↦ let found = in_flat f xs y b in (found.0, there found.1, found.2)
]

pub flat_in : {A B : Type 0} (f : A → List B) {xs : List A} {x : A} {y : B} → In A xs x → In B (f x) y → In B (flat_map f xs) y
flat_in f (here {xs = rest}) b = in_left (flat_map f rest) b
flat_in f (there {y = z} h) b = in_right (f z) (flat_in f h b)

pub in_map : {A B : Type 0} (f : A → B) (xs : List A) (y : B) → In B (map f xs) y → (x : A) × (f x ≡ y)
in_map f [] y h = elim h [ ]
in_map f (x ∷ xs) y here = (x, refl)
in_map f (x ∷ xs) y (there h) = in_map f xs y h

-- ---- names

pub or_true : (b : Bool) → (b || true) ≡ true
or_true true = refl
or_true false = refl

pub one_of : (names : List (List ℕ)) (name : List ℕ) → is_one_of names name ≡ true → In (List ℕ) names name
one_of [] name e = absurd (false≢true e)
one_of (x ∷ xs) name e = elim (or_cases (bytes_eq name x) (is_one_of xs name) e) [
  | inl a ↦ subst (λ (z : List ℕ). In (List ℕ) (z ∷ xs) name) ((bytes_decides name x).0 a) here
  | inr b ↦ there (one_of xs name b)
]

pub is_one : {names : List (List ℕ)} {name : List ℕ} → In (List ℕ) names name → is_one_of names name ≡ true
is_one (here {x = x} {xs = xs}) = ap (λ b. b || is_one_of xs x) ((bytes_decides x x).1 refl)
is_one (there {x = x} {y = y} h) = ap (λ b. bytes_eq x y || b) (is_one h) ∙ or_true (bytes_eq x y)

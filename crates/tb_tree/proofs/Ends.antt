-- How the readings of parts make the reading of a whole.
use Rattle.std.proofs.Common.{◌≡◌, ◌≤◌, List, [], ◌∷◌, ◌++◌, length, ◌∙◌, inl, inr, ap, sym, subst, arith, append_assoc, length-append}
use Rattle.tb_tree.specs.Sym.{Sym}
use Rattle.tb_tree.specs.Longest.{Found, Lacks, Starts, Never, Any}

-- a reading does not go on where none may
pub exact : {X : Type 0} {D : List Sym → X → Type 0} {C : Sym → Type 0} {xs : List Sym} {x : X} {ys : List Sym} → Found D C xs x ys
    → (a : List Sym) (y : X) (zs : List Sym) → D a y → xs ≡ a ++ zs → (Starts C zs → ⊥) → (x ≡ y) × (ys ≡ zs)
exact f a y zs d w h = elim (f.longest a y zs d w) [ inl p ↦ p | inr q ↦ absurd (h q.1) ]

-- what is left is no longer than the whole
pub shorter : {X : Type 0} {D : List Sym → X → Type 0} {C : Sym → Type 0} {xs : List Sym} {x : X} {ys : List Sym} → Found D C xs x ys → length ys ≤ length xs
shorter {ys = ys} f = omega (arith, ap length f.whole, length-append f.front ys)

pub never : (zs : List Sym) → Starts Never zs → ⊥
never [] h = h
never (s ∷ zs) h = h

-- a list that is known to begin with a symbol
pub starts_by : (C : Sym → Type 0) {zs vs : List Sym} {s : Sym} → zs ≡ s ∷ vs → C s → Starts C zs
starts_by C e h = subst (λ v. Starts C v) (sym e) h

pub ap_both : {A B C : Type 0} (f : A → B → C) {a u : A} {b v : B} → a ≡ u → b ≡ v → f a b ≡ f u v
ap_both f {a = a} {v = v} p q = ap (λ y. f a y) q ∙ ap (λ x. f x v) p

pub append_three : (a b c d : List Sym) → a ++ b ++ c ++ d ≡ a ++ (b ++ (c ++ d))
append_three a b c d = append_assoc (a ++ b) c d ∙ append_assoc a b (c ++ d)

-- the same reading of equal lists

pub found_from : {X : Type 0} {D : List Sym → X → Type 0} {C : Sym → Type 0} {xs vs : List Sym} {x : X} {ys : List Sym} → xs ≡ vs → Found D C vs x ys → Found D C xs x ys
found_from {D = D} {C = C} {x = x} {ys = ys} e f = subst (λ v. Found D C v x ys) (sym e) f

pub found_left : {X : Type 0} {D : List Sym → X → Type 0} {C : Sym → Type 0} {xs : List Sym} {x : X} {ys zs : List Sym} → ys ≡ zs → Found D C xs x ys → Found D C xs x zs
found_left {D = D} {C = C} {xs = xs} {x = x} e f = subst (λ v. Found D C xs x v) e f

pub lacks_from : {X : Type 0} {D : List Sym → X → Type 0} {xs vs : List Sym} → xs ≡ vs → Lacks D vs → Lacks D xs
lacks_from {D = D} e f = subst (λ v. Lacks D v) (sym e) f

pub found_as : {X : Type 0} {D : List Sym → X → Type 0} {C : Sym → Type 0} {xs : List Sym} {x y : X} {ys : List Sym} → x ≡ y → Found D C xs y ys → Found D C xs x ys
found_as {D = D} {C = C} {xs = xs} {ys = ys} e f = subst (λ v. Found D C xs v ys) (sym e) f

pub both : {A B : Type 0} {a u : A} {b v : B} → a ≡ u → b ≡ v → ◌≡◌ {A = A × B} (a, b) (u, v)
both {A = A} {B = B} p q = ap_both (λ a b. let x : A × B = (a, b) in x) p q

pub under_both : {A B : Type 0} (P : A → B → Type 0) {a u : A} {b v : B} → a ≡ u → b ≡ v → P u v → P a b
under_both P {u = u} {b = b} p q h = subst (λ x. P x b) (sym p) (subst (λ y. P u y) (sym q) h)

-- a wider set of symbols
pub wider : {X : Type 0} {D : List Sym → X → Type 0} {C E : Sym → Type 0} {xs : List Sym} {x : X} {ys : List Sym} → ((s : Sym) → C s → E s) → Found D C xs x ys → Found D E xs x ys
wider {X = X} {D = D} {C = C} {E = E} {xs = xs} {x = x} {ys = ys} h f = record {
  front = f.front;
  whole = f.whole;
  derives = f.derives;
  longest = λ a y zs d w. elim (f.longest a y zs d w) [ inl p ↦ inl p | inr q ↦ inr (q.0, starts zs q.1) ];
}
  where
    starts : (zs : List Sym) → Starts C zs → Starts E zs
    starts [] n = n
    starts (s ∷ zs) c = h s c

-- ---- one reading, or none

-- what is found is one: the longest front has one tree
pub same_found : {X : Type 0} {D : List Sym → X → Type 0} {xs : List Sym} {x y : X} {ys zs : List Sym} → Found D Any xs x ys → Found D Any xs y zs → (x ≡ y) × (ys ≡ zs)
same_found {ys = ys} {zs = zs} f g = elim (f.longest g.front _ zs g.derives g.whole) [
  | inl p ↦ p
  | inr p ↦ elim (g.longest f.front _ ys f.derives f.whole) [
    | inl q ↦ (sym q.0, sym q.1)
    | inr q ↦ absurd (omega (arith, p.0, q.0))
  ]
]

pub found_not_lacks : {X : Type 0} {D : List Sym → X → Type 0} {C : Sym → Type 0} {xs : List Sym} {x : X} {ys : List Sym} → Found D C xs x ys → Lacks D xs → ⊥
found_not_lacks {x = x} {ys = ys} f g = g.none f.front x ys f.derives f.whole

-- A rule that stands behind one symbol.
use Rattle.std.proofs.Common.{◌≡◌, List, ◌∷◌, ◌++◌, ap, ◌∙◌, inl, inr}
use Rattle.tb_tree.specs.Sym.{Sym}
use Rattle.tb_tree.specs.Longest.{Found, Lacks}

-- what E derives where this symbol stands is what D derives behind it
abbrev pub IsBehind : {X Y : Type 0} → (X → Y) → (List Sym → X → Type 0) → (List Sym → Y → Type 0) → Sym → List Sym → Type 0
IsBehind {X = X} {Y = Y} make D E s xs = (a : List Sym) (u : Y) (us : List Sym) → E a u → s ∷ xs ≡ a ++ us → (b : List Sym) × (x : X) × (xs ≡ b ++ us) × D b x × (make x ≡ u)

pub behind_found : {X Y : Type 0} {D : List Sym → X → Type 0} {E : List Sym → Y → Type 0} {C : Sym → Type 0} {xs ys : List Sym} {x : X} (make : X → Y) (s : Sym)
    → ((a : List Sym) → D a x → E (s ∷ a) (make x)) → IsBehind make D E s xs → Found D C xs x ys → Found E C (s ∷ xs) (make x) ys
behind_found make s forth back f = record {
  front = s ∷ f.front;
  whole = ap (λ v. s ∷ v) f.whole;
  derives = forth f.front f.derives;
  longest = λ a u us d w.
      let q = back a u us d w in
      elim (f.longest q.0 q.1 us q.3 q.2) [
        | inl p ↦ inl (ap make p.0 ∙ q.4, p.1)
        | inr p ↦ inr p
      ];
}

pub behind_lacks : {X Y : Type 0} {D : List Sym → X → Type 0} {E : List Sym → Y → Type 0} {xs : List Sym} (make : X → Y) (s : Sym) → IsBehind make D E s xs → Lacks D xs → Lacks E (s ∷ xs)
behind_lacks make s back f = record { none = λ a u us d w. let q = back a u us d w in f.none q.0 q.1 us q.3 q.2 }

-- A rule that stands behind some symbols.
use Rattle.std.proofs.Common.{◌≡◌, List, ◌++◌, sym, ◌∙◌, ap, inl, inr, append_assoc}
use Rattle.tb_tree.specs.Sym.{Sym}
use Rattle.tb_tree.specs.Longest.{Found, Lacks}

-- what E derives that begins with the head goes on as D derives
abbrev pub Continues : {X Y : Type 0} → (X → Y) → (List Sym → X → Type 0) → (List Sym → Y → Type 0) → List Sym → List Sym → Type 0
Continues {X = X} {Y = Y} make D E head xs = (a : List Sym) (u : Y) (us : List Sym) → E a u → head ++ xs ≡ a ++ us → (b : List Sym) × (r : X) × D b r × (xs ≡ b ++ us) × (make r ≡ u)

pub headed_found : {X Y : Type 0} {D : List Sym → X → Type 0} {E : List Sym → Y → Type 0} {C : Sym → Type 0} {xs ys : List Sym} {r : X} (make : X → Y) (head : List Sym)
    → ((b : List Sym) → D b r → E (head ++ b) (make r)) → Continues make D E head xs → Found D C xs r ys → Found E C (head ++ xs) (make r) ys
headed_found {ys = ys} make head forth back f = record {
  front = head ++ f.front;
  whole = ap (λ v. head ++ v) f.whole ∙ sym (append_assoc head f.front ys);
  derives = forth f.front f.derives;
  longest = λ a u us d w.
      let q = back a u us d w in
      elim (f.longest q.0 q.1 us q.2 q.3) [
        | inl o ↦ inl (ap make o.0 ∙ q.4, o.1)
        | inr o ↦ inr o
      ];
}

pub headed_lacks : {X Y : Type 0} {D : List Sym → X → Type 0} {E : List Sym → Y → Type 0} {xs : List Sym} (make : X → Y) (head : List Sym) → Continues make D E head xs → Lacks D xs → Lacks E (head ++ xs)
headed_lacks make head back f = record { none = λ a u us d w. let q = back a u us d w in f.none q.0 q.1 us q.2 q.3 }

-- A rule that stands behind some symbols and before a mark.
use Rattle.std.proofs.Common.{◌≡◌, ℕ, List, [], ◌∷◌, ◌++◌, sym, ◌∙◌, ap, inl, append_assoc}
use Rattle.tb_tree.specs.declared.marks.Mark.{Mark as MarkKind}
use Rattle.tb_tree.specs.Sym.{Sym, Mark}
use Rattle.tb_tree.specs.Longest.{Found, Lacks, Starts, Never}
use Rattle.tb_tree.proofs.Ends.{exact}

-- what E derives behind the head is enclosed: D derives what stands before the mark
abbrev pub Encloses : {X Y : Type 0} → MarkKind → (X → Y) → (List Sym → X → Type 0) → (List Sym → Y → Type 0) → List Sym → List Sym → Type 0
Encloses {X = X} {Y = Y} k make D E head xs = (a : List Sym) (u : Y) (us : List Sym) → E a u → head ++ xs ≡ a ++ us
    → (b : List Sym) × (r : X) × (p : ℕ) × (xs ≡ b ++ (Mark k p ∷ us)) × D b r × (make r ≡ u)

pub enclosed_found : {X Y : Type 0} {D : List Sym → X → Type 0} {E : List Sym → Y → Type 0} {C : Sym → Type 0} {xs : List Sym} {r : X} (k : MarkKind) (make : X → Y) (head : List Sym) (p : ℕ) (ys : List Sym)
    → ((at : ℕ) → C (Mark k at) → ⊥) → ((b : List Sym) → D b r → E (head ++ (b ++ Mark k p ∷ [])) (make r)) → Encloses k make D E head xs → Found D C xs r (Mark k p ∷ ys)
    → Found E Never (head ++ xs) (make r) ys
enclosed_found {xs = xs} {r = r} k make head p ys ends forth back f = record {
  front = head ++ (f.front ++ Mark k p ∷ []);
  whole = ap (λ v. head ++ v) (f.whole ∙ sym (append_assoc f.front (Mark k p ∷ []) ys)) ∙ sym (append_assoc head (f.front ++ Mark k p ∷ []) ys);
  derives = forth f.front f.derives;
  longest = λ a u us d w.
      let q = back a u us d w in
      let z = exact f q.0 q.1 (Mark k q.2 ∷ us) q.4 q.3 (ends q.2) in
      let e : Mark k p ∷ ys ≡ Mark k q.2 ∷ us = z.1 in
      inl (ap make z.0 ∙ q.5, cc);
}

pub enclosed_lacks : {X Y : Type 0} {D : List Sym → X → Type 0} {E : List Sym → Y → Type 0} {xs : List Sym} (k : MarkKind) (make : X → Y) (head : List Sym)
    → Encloses k make D E head xs → Lacks D xs → Lacks E (head ++ xs)
enclosed_lacks k make head back f = record { none = λ a u us d w. let q = back a u us d w in f.none q.0 q.1 (Mark k q.2 ∷ us) q.4 q.3 }

pub enclosed_lacks_close : {X Y : Type 0} {D : List Sym → X → Type 0} {E : List Sym → Y → Type 0} {C : Sym → Type 0} {xs ys : List Sym} {r : X} (k : MarkKind) (make : X → Y) (head : List Sym)
    → ((at : ℕ) → C (Mark k at) → ⊥) → Encloses k make D E head xs → Found D C xs r ys → ((at : ℕ) (zs : List Sym) → ys ≡ Mark k at ∷ zs → ⊥) → Lacks E (head ++ xs)
enclosed_lacks_close k make head ends back f n = record {
  none = λ a u us d w.
      let q = back a u us d w in
      let z = exact f q.0 q.1 (Mark k q.2 ∷ us) q.4 q.3 (ends q.2) in
      n q.2 us z.1;
}

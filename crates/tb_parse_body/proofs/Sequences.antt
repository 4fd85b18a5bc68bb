-- Rules that follow one another, and rules that are others.
use Rattle.std.proofs.Common.{◌≡◌, ℕ, ◌≤◌, ◌<◌, List, [], ◌∷◌, ◌++◌, length, refl, sym, ◌∙◌, ap, subst, inl, inr, arith, append_assoc}
use Rattle.std.specs.Prelude.{Option, Some, None}
use Rattle.tb_tree.specs.declared.marks.Mark.{Mark as MarkKind}
use Rattle.tb_tree.specs.Sym.{Sym, Mark}
use Rattle.tb_tree.specs.Longest.{Found, Lacks, Ends, Starts, Never}
use Rattle.tb_tree.proofs.Ends.{exact, shorter, both, never}
use Rattle.tb_parse_type.specs.declared.reader.Reader.{Reader}
use Rattle.tb_parse_type.specs.Rules.{MarkRule}
use Rattle.tb_parse_type.specs.Reading.{rest, FoundAt}
use Rattle.tb_parse_body.specs.declared.fronts.Front.{Front}
use Rattle.tb_parse_body.specs.Rules.{Deep}
use Rattle.tb_parse_body.specs.Reading.{Reads}

-- ---- what an answer says

pub lacking : {X : Type 0} (D : List Sym → Deep X → Type 0) (C : Sym → Type 0) (r : Reader) (at : ℕ) (o : Option (Front X)) → o ≡ None → Reads D C r at o → Lacks D (rest r at)
lacking D C r at o e h = subst (λ v. Reads D C r at v) e h

pub reading : {X : Type 0} (D : List Sym → Deep X → Type 0) (C : Sym → Type 0) (r : Reader) (at : ℕ) (o : Option (Front X)) (x : Front X) → o ≡ Some x → Reads D C r at o
    → FoundAt D C r at (x.tree, x.depth) x.next
reading D C r at o x e h = subst (λ v. Reads D C r at v) e h

-- ---- one rule is another, for the fronts of a list

abbrev pub IsBack : {X Y : Type 0} → (X → Y) → (List Sym → X → Type 0) → (List Sym → Y → Type 0) → List Sym → Type 0
IsBack {X = X} {Y = Y} f D E xs = (a : List Sym) (u : Y) (us : List Sym) → E a u → xs ≡ a ++ us → (v : X) × D a v × (f v ≡ u)

pub found_by : {X Y : Type 0} {D : List Sym → X → Type 0} {E : List Sym → Y → Type 0} {C : Sym → Type 0} {xs ys : List Sym} {x : X} (f : X → Y)
    → ((a : List Sym) → xs ≡ a ++ ys → D a x → E a (f x)) → IsBack f D E xs → Found D C xs x ys → Found E C xs (f x) ys
found_by {D = D} {x = x} f forth back q = record {
  front = q.front;
  whole = q.whole;
  derives = forth q.front q.whole q.derives;
  longest = λ a u us d w.
      let v = back a u us d w in
      elim (q.longest a v.0 us v.1 w) [
        | inl o ↦ inl (ap f o.0 ∙ v.2, o.1)
        | inr o ↦ inr o
      ];
}

pub lacks_by : {X Y : Type 0} {D : List Sym → X → Type 0} {E : List Sym → Y → Type 0} {xs : List Sym} (f : X → Y) → IsBack f D E xs → Lacks D xs → Lacks E xs
lacks_by f back q = record { none = λ a u us d w. let v = back a u us d w in q.none a v.0 us v.1 w }

-- ---- one rule, and another behind it that depends on what the first derived

abbrev pub ThenBy : {X Y : Type 0} → (List Sym → X → Type 0) → (X → List Sym → Y → Type 0) → List Sym → X × Y → Type 0
ThenBy D E xs r = (front behind : List Sym) × (xs ≡ front ++ behind) × D front r.0 × E r.0 behind r.1

-- what E derives begins as a reading of the rule before it goes on only where it is empty, and then the whole goes on so
abbrev pub Passes : {X Y : Type 0} → (Sym → Type 0) → (Sym → Type 0) → (X → List Sym → Y → Type 0) → Type 0
Passes {X = X} {Y = Y} C F E = (x : X) (b : List Sym) (y : Y) (us : List Sym) → E x b y → Starts C (b ++ us) → (length (b ++ us) ≤ length us) × Starts F us

pub then_found : {X Y : Type 0} {D : List Sym → X → Type 0} {E : X → List Sym → Y → Type 0} {C F : Sym → Type 0} {xs ys zs : List Sym} {x : X} {y : Y}
    → Passes C F E → Found D C xs x ys → Found (E x) F ys y zs → Found (ThenBy D E) F xs (x, y) zs
then_found {X = X} {Y = Y} {D = D} {E = E} {C = C} {F = F} {xs = xs} {ys = ys} {zs = zs} {x = x} {y = y} h f g = record {
  front = f.front ++ g.front;
  whole = f.whole ∙ ap (λ v. f.front ++ v) g.whole ∙ sym (append_assoc f.front g.front zs);
  derives = (f.front, g.front, refl, f.derives, g.derives);
  longest = λ a r us d w. go r us d (w ∙ ap (λ v. v ++ us) d.2 ∙ append_assoc d.0 d.1 us);
}
  where
    go : {a : List Sym} (r : X × Y) (us : List Sym) (d : ThenBy D E a r) → xs ≡ d.0 ++ (d.1 ++ us) → Ends {X = X × Y} F (x, y) zs r us
    go r us d w =
        elim (f.longest d.0 r.0 (d.1 ++ us) d.3 w) [
          | inl p ↦ elim (g.longest d.1 r.1 us (subst (λ (v : X). E v d.1 r.1) (sym p.0) d.4) p.1) [
            | inl q ↦ inl (both p.0 q.0, q.1)
            | inr q ↦ inr q
          ]
          | inr p ↦
              let k = h r.0 d.1 r.1 us d.4 p.1 in
              inr (omega (arith, shorter g, p.0, k.0), k.1)
        ]

-- what E derives does not begin as a reading of the rule before it goes on
abbrev pub Apart : {X Y : Type 0} → (Sym → Type 0) → (X → List Sym → Y → Type 0) → Type 0
Apart {X = X} {Y = Y} C E = (x : X) (b : List Sym) (y : Y) (us : List Sym) → E x b y → Starts C (b ++ us) → ⊥

pub apart_passes : {X Y : Type 0} {C : Sym → Type 0} (F : Sym → Type 0) {E : X → List Sym → Y → Type 0} → Apart C E → Passes C F E
apart_passes F h x b y us d s = absurd (h x b y us d s)

pub then_lacks : {X Y : Type 0} {D : List Sym → X → Type 0} (E : X → List Sym → Y → Type 0) {xs : List Sym} → Lacks D xs → Lacks (ThenBy D E) xs
then_lacks E f = record { none = λ a r us d w. f.none d.0 r.0 (d.1 ++ us) d.3 (w ∙ ap (λ v. v ++ us) d.2 ∙ append_assoc d.0 d.1 us) }

pub then_lacks_second : {X Y : Type 0} {D : List Sym → X → Type 0} {E : X → List Sym → Y → Type 0} {C : Sym → Type 0} {xs ys : List Sym} {x : X}
    → Apart C E → Found D C xs x ys → Lacks (E x) ys → Lacks (ThenBy D E) xs
then_lacks_second {X = X} {E = E} h f g = record {
  none = λ a r us d w.
      let p = exact f d.0 r.0 (d.1 ++ us) d.3 (w ∙ ap (λ v. v ++ us) d.2 ∙ append_assoc d.0 d.1 us) (h r.0 d.1 r.1 us d.4) in
      g.none d.1 r.1 us (subst (λ (v : X). E v d.1 r.1) (sym p.0) d.4) p.1;
}

-- ---- marks

pub mark_found : (kind : MarkKind) (at : ℕ) (ys : List Sym) → Found (MarkRule kind) Never (Mark kind at ∷ ys) at ys
mark_found kind at ys = record {
  front = Mark kind at ∷ [];
  whole = refl;
  derives = refl;
  longest = λ a y us d w. let e : Mark kind at ∷ ys ≡ Mark kind y ∷ us = w ∙ ap (λ v. v ++ us) d in inl (cc, cc);
}

pub mark_lacks : (kind : MarkKind) (xs : List Sym) → ((at : ℕ) (zs : List Sym) → xs ≡ Mark kind at ∷ zs → ⊥) → Lacks (MarkRule kind) xs
mark_lacks kind xs h = record { none = λ a y us d w. h y us (w ∙ ap (λ v. v ++ us) d) }

-- a rule that ends in a mark ends exactly there
pub apart_never : {X Y : Type 0} (E : X → List Sym → Y → Type 0) → Apart Never E
apart_never E x b y us d s = never (b ++ us) s

pub apart_mark : {X : Type 0} (C : Sym → Type 0) (kind : MarkKind) → ((at : ℕ) → C (Mark kind at) → ⊥) → Apart {X = X} C (λ x. MarkRule kind)
apart_mark C kind h x b y us d s = h y (subst (λ v. Starts C (v ++ us)) d s)

-- ---- a rule between two marks

abbrev pub Delimited : {X : Type 0} → MarkKind → MarkKind → (List Sym → X → Type 0) → List Sym → ℕ × (X × ℕ) → Type 0
Delimited opening closing D = ThenBy (MarkRule opening) (λ o. ThenBy D (λ x. MarkRule closing))

pub in_delimiters : {X : Type 0} {opening closing : MarkKind} (D : List Sym → X → Type 0) {a : List Sym} {x : ℕ × (X × ℕ)} → Delimited opening closing D a x
    → (b : List Sym) × (a ≡ Mark opening x.0 ∷ b ++ Mark closing x.1.1 ∷ []) × D b x.1.0
in_delimiters {opening = opening} {closing = closing} D {x = x} d =
    let q = d.4 in
    (q.0, d.2 ∙ ap (λ v. v ++ d.1) d.3 ∙ ap (λ v. Mark opening x.0 ∷ v) (q.2 ∙ ap (λ v. q.0 ++ v) q.4), q.3)

pub delimited : {X : Type 0} {opening closing : MarkKind} {D : List Sym → X → Type 0} {C : Sym → Type 0} {xs : List Sym} {x : X} (o p : ℕ) (ys : List Sym)
    → ((at : ℕ) → C (Mark closing at) → ⊥) → Found D C xs x (Mark closing p ∷ ys) → Found (Delimited opening closing D) Never (Mark opening o ∷ xs) (o, (x, p)) ys
delimited {opening = opening} {closing = closing} {D = D} {C = C} {xs = xs} o p ys h f =
    then_found (apart_passes Never (apart_never (λ o. ThenBy D (λ x. MarkRule closing)))) (mark_found opening o xs) (then_found (apart_passes Never (apart_mark C closing h)) f (mark_found closing p ys))

pub delimited_lacks : {X : Type 0} {opening closing : MarkKind} {D : List Sym → X → Type 0} {xs : List Sym} (o : ℕ) → Lacks D xs → Lacks (Delimited opening closing D) (Mark opening o ∷ xs)
delimited_lacks {opening = opening} {closing = closing} {D = D} {xs = xs} o f =
    then_lacks_second (apart_never (λ o. ThenBy D (λ x. MarkRule closing))) (mark_found opening o xs) (then_lacks (λ x. MarkRule closing) f)

pub delimited_lacks_close : {X : Type 0} {opening closing : MarkKind} {D : List Sym → X → Type 0} {C : Sym → Type 0} {xs ys : List Sym} {x : X} (o : ℕ)
    → ((at : ℕ) → C (Mark closing at) → ⊥) → Found D C xs x ys → ((at : ℕ) (zs : List Sym) → ys ≡ Mark closing at ∷ zs → ⊥) → Lacks (Delimited opening closing D) (Mark opening o ∷ xs)
delimited_lacks_close {opening = opening} {closing = closing} {D = D} {C = C} {xs = xs} {ys = ys} o h f n =
    then_lacks_second (apart_never (λ o. ThenBy D (λ x. MarkRule closing))) (mark_found opening o xs) (then_lacks_second (apart_mark C closing h) f (mark_lacks closing ys n))

-- ---- the depth of the deeper of two

pub deep_as : {X : Type 0} {t u : X} {d e : ℕ} → t ≡ u → d ≡ e → ◌≡◌ {A = Deep X} (t, d) (u, e)
deep_as p q = both p q

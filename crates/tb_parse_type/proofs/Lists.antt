-- Lists of items with marks between, the last of which may be left out: parameters and members.
use Rattle.std.proofs.Common.{◌≡◌, ℕ, ◌≤◌, ◌<◌, max, Bool, true, List, [], ◌∷◌, ◌++◌, length, refl, sym, ◌∙◌, ap, subst, inl, inr, arith, append_assoc, length-append, append-nil}
use Rattle.tb_tree.specs.declared.marks.Mark.{Mark as MarkKind}
use Rattle.tb_tree.specs.Sym.{Sym, Mark}
use Rattle.tb_tree.specs.Longest.{Found, Lacks, Ends, Starts}
use Rattle.tb_tree.proofs.Ends.{exact, shorter, starts_by, ap_both, found_left}
use Rattle.tb_parse_type.specs.Rules.{Counted}

module _ {X : Type 0} (D : List Sym → Counted X → Type 0) (S : MarkKind → Bool) where
  pub data IsList : List Sym → List X → ℕ → ℕ → Type 0 where
    no_items : IsList [] [] 0 0
    last_item : {xs : List Sym} {of : X} {own depth : ℕ} → D xs (of, own, depth) → IsList xs (of ∷ []) own depth
    more_items : (mark : MarkKind) (at : ℕ) {xs ys : List Sym} {of : X} {rest : List X} {own depth rest_own rest_depth : ℕ}
        → D xs (of, own, depth) → S mark ≡ true → IsList ys rest rest_own rest_depth
        → IsList (xs ++ Mark mark at ∷ ys) (of ∷ rest) (max own rest_own) (max depth rest_depth)

abbrev pub ListRule : {X : Type 0} → (List Sym → Counted X → Type 0) → (MarkKind → Bool) → List Sym → Counted (List X) → Type 0
ListRule D S xs r = IsList D S xs r.0 r.1 r.2

-- an item goes on with symbols of C, which are no separators, and a list of them with symbols of F
pub record Separates {X : Type 0} (D : List Sym → Counted X → Type 0) (S : MarkKind → Bool) (C F : Sym → Type 0) : Type 0 where
  pub separator : (k : MarkKind) (at : ℕ) → S k ≡ true → C (Mark k at) → ⊥
  pub more : (k : MarkKind) (at : ℕ) → S k ≡ true → F (Mark k at)
  pub wider : (s : Sym) → C s → F s
  pub starts : (a : List Sym) (x : Counted X) (us : List Sym) → D a x → Starts F (a ++ us)
  pub long : (a : List Sym) (x : Counted X) → D a x → 1 ≤ length a

widened : {C F : Sym → Type 0} (zs : List Sym) → ((s : Sym) → C s → F s) → Starts C zs → Starts F zs
widened [] h n = n
widened (s ∷ zs) h c = h s c

-- what follows the first of a list
after_mark : (k : MarkKind) (at : ℕ) (a b us : List Sym) → a ++ Mark k at ∷ b ++ us ≡ a ++ (Mark k at ∷ b ++ us)
after_mark k at a b us = append_assoc a (Mark k at ∷ b) us

pub items_stop : {X : Type 0} {D : List Sym → Counted X → Type 0} (S : MarkKind → Bool) (F : Sym → Type 0) (xs : List Sym) → Lacks D xs → Found (ListRule D S) F xs ([], 0, 0) xs
items_stop {X = X} {D = D} S F xs f = record {
  front = [];
  whole = refl;
  derives = no_items;
  longest = λ a y us d w. go us d w;
}
  where
    go : {u : List X} {a : List Sym} {e d : ℕ} (us : List Sym) → IsList D S a u e d → xs ≡ a ++ us → Ends {X = Counted (List X)} F ([], 0, 0) xs (u, e, d) us
    go us no_items w = inl (refl, w)
    go us (last_item {xs = a} {of = u} {own = e} {depth = d} q) w = absurd (f.none a (u, e, d) us q w)
    go us (more_items k at {xs = a} {ys = b} {of = u} {own = e} {depth = d} q s r) w = absurd (f.none a (u, e, d) (Mark k at ∷ b ++ us) q (w ∙ after_mark k at a b us))

pub items_last : {X : Type 0} {D : List Sym → Counted X → Type 0} {S : MarkKind → Bool} {C F : Sym → Type 0} {of : X} {own depth : ℕ} {xs ys : List Sym} → Separates D S C F
    → Found D C xs (of, own, depth) ys → ((k : MarkKind) (at : ℕ) → S k ≡ true → (zs : List Sym) → ys ≡ Mark k at ∷ zs → ⊥) → Found (ListRule D S) F xs (of ∷ [], own, depth) ys
items_last {X = X} {D = D} {S = S} {C = C} {F = F} {of = of} {own = own} {depth = depth} {xs = xs} {ys = ys} i f h = record {
  front = f.front;
  whole = f.whole;
  derives = last_item f.derives;
  longest = λ a y us d w. go us d w;
}
  where
    go : {u : List X} {a : List Sym} {e d : ℕ} (us : List Sym) → IsList D S a u e d → xs ≡ a ++ us → Ends {X = Counted (List X)} F (of ∷ [], own, depth) ys (u, e, d) us
    go us no_items w = inr (
      omega (arith, i.long f.front (of, own, depth) f.derives, ap length f.whole, length-append f.front ys, ap length w),
      subst (λ v. Starts F v) (sym f.whole ∙ w) (i.starts f.front (of, own, depth) ys f.derives),
    )
    go us (last_item {xs = a} {of = u} {own = e} {depth = d} q) w = elim (f.longest a (u, e, d) us q w) [
      | inl o ↦ inl (ap (λ (x : Counted X). let y : Counted (List X) = (x.0 ∷ [], x.1, x.2) in y) o.0, o.1)
      | inr o ↦ inr (o.0, widened us i.wider o.1)
    ]
    go us (more_items k at {xs = a} {ys = b} {of = u} {own = e} {depth = d} q s r) w =
        let o = exact f a (u, e, d) (Mark k at ∷ b ++ us) q (w ∙ after_mark k at a b us) (i.separator k at s) in
        absurd (h k at s (b ++ us) o.1)

pub items_more : {X : Type 0} {D : List Sym → Counted X → Type 0} {S : MarkKind → Bool} {C F : Sym → Type 0} {of : X} {rest : List X} {own depth rest_own rest_depth : ℕ} {xs ys zs : List Sym}
    → Separates D S C F → (k : MarkKind) (at : ℕ) → S k ≡ true → Found D C xs (of, own, depth) (Mark k at ∷ ys) → Found (ListRule D S) F ys (rest, rest_own, rest_depth) zs
    → Found (ListRule D S) F xs (of ∷ rest, max own rest_own, max depth rest_depth) zs
items_more {X = X} {D = D} {S = S} {C = C} {F = F} {of = of} {rest = rest} {own = own} {depth = depth} {rest_own = rest_own} {rest_depth = rest_depth} {xs = xs} {ys = ys} {zs = zs} i k at s f g = record {
  front = f.front ++ Mark k at ∷ g.front;
  whole = f.whole ∙ ap (λ v. f.front ++ Mark k at ∷ v) g.whole ∙ sym (after_mark k at f.front g.front zs);
  derives = more_items k at f.derives s g.derives;
  longest = λ a y us d w. go us d w;
}
  where
    go : {u : List X} {a : List Sym} {e d : ℕ} (us : List Sym) → IsList D S a u e d → xs ≡ a ++ us
        → Ends {X = Counted (List X)} F (of ∷ rest, max own rest_own, max depth rest_depth) zs (u, e, d) us
    go us no_items w = inr (
      omega (arith, shorter g, shorter f, ap length w),
      subst (λ v. Starts F v) (sym f.whole ∙ w) (i.starts f.front (of, own, depth) (Mark k at ∷ ys) f.derives),
    )
    go us (last_item {xs = a} {of = u} {own = e} {depth = d} q) w = elim (f.longest a (u, e, d) us q w) [
      | inl o ↦ inr (omega (arith, shorter g, ap length o.1), starts_by F (sym o.1) (i.more k at s))
      | inr o ↦ inr (omega (arith, shorter g, o.0), widened us i.wider o.1)
    ]
    go us (more_items l p {xs = a} {ys = b} {of = u} {rest = us'} {own = e} {depth = d} {rest_own = e'} {rest_depth = d'} q t r) w =
        let o = exact f a (u, e, d) (Mark l p ∷ b ++ us) q (w ∙ after_mark l p a b us) (i.separator l p t) in
        elim (g.longest b (us', e', d') us r cc) [
          | inl z ↦ inl (ap_both (λ (x : Counted X) (y : Counted (List X)). let v : Counted (List X) = (x.0 ∷ y.0, max x.1 y.1, max x.2 y.2) in v) o.0 z.0, z.1)
          | inr z ↦ inr z
        ]

-- ---- a loop over items: whatever list is found from here makes what is found in all

abbrev pub ItemsSoFar : {X : Type 0} → (List Sym → Counted X → Type 0) → (MarkKind → Bool) → (Sym → Type 0) → List X → ℕ → ℕ → List Sym → List Sym → Type 0
ItemsSoFar {X = X} D S F acc own depth start xs = (ts : List X) (e d : ℕ) (zs : List Sym) → Found (ListRule D S) F xs (ts, e, d) zs → Found (ListRule D S) F start (acc ++ ts, max own e, max depth d) zs

pub items_start : {X : Type 0} (D : List Sym → Counted X → Type 0) (S : MarkKind → Bool) (F : Sym → Type 0) (start : List Sym) → ItemsSoFar D S F [] 0 0 start start
items_start {X = X} D S F start ts e d zs f =
    let p : e ≡ max 0 e = omega arith in
    let q : d ≡ max 0 d = omega arith in
    subst (λ (n : ℕ). Found (ListRule D S) F start (ts, n, max 0 d) zs) p (subst (λ (n : ℕ). Found (ListRule D S) F start (ts, e, n) zs) q f)

-- what is found behind a part makes what is found in all
regroup : {X : Type 0} {D : List Sym → Counted X → Type 0} {S : MarkKind → Bool} {F : Sym → Type 0} {start zs : List Sym} (acc ts us : List X) (own depth a b e d : ℕ)
    → Found (ListRule D S) F start (acc ++ (ts ++ us), max own (max a e), max depth (max b d)) zs
    → Found (ListRule D S) F start ((acc ++ ts) ++ us, max (max own a) e, max (max depth b) d) zs
regroup {X = X} {D = D} {S = S} {F = F} {start = start} {zs = zs} acc ts us own depth a b e d f =
    let p : max own (max a e) ≡ max (max own a) e = omega arith in
    let q : max depth (max b d) ≡ max (max depth b) d = omega arith in
    subst (λ (v : List X). Found (ListRule D S) F start (v, max (max own a) e, max (max depth b) d) zs) (sym (append_assoc acc ts us))
    (subst (λ (n : ℕ). Found (ListRule D S) F start (acc ++ (ts ++ us), n, max (max depth b) d) zs) p
    (subst (λ (n : ℕ). Found (ListRule D S) F start (acc ++ (ts ++ us), max own (max a e), n) zs) q f))

pub items_on : {X : Type 0} {D : List Sym → Counted X → Type 0} {S : MarkKind → Bool} {C F : Sym → Type 0} {of : X} {a b : ℕ} {vs : List Sym} → Separates D S C F → (acc : List X) (own depth : ℕ)
    (start xs ys : List Sym) (k : MarkKind) (at : ℕ) → S k ≡ true → ItemsSoFar D S F acc own depth start xs → Found D C xs (of, a, b) ys → ys ≡ Mark k at ∷ vs
    → ItemsSoFar D S F (acc ++ of ∷ []) (max own a) (max depth b) start vs
items_on {of = of} {a = a} {b = b} i acc own depth start xs ys k at s all g e ts n m zs f =
    regroup acc (of ∷ []) ts own depth a b n m (all (of ∷ ts) (max a n) (max b m) zs (items_more i k at s (found_left e g) f))

-- the last item
pub items_to_last : {X : Type 0} {D : List Sym → Counted X → Type 0} {S : MarkKind → Bool} {C F : Sym → Type 0} {of : X} {a b : ℕ} → Separates D S C F → (acc : List X) (own depth : ℕ)
    (start xs ys : List Sym) → ItemsSoFar D S F acc own depth start xs → Found D C xs (of, a, b) ys → ((k : MarkKind) (at : ℕ) → S k ≡ true → (zs : List Sym) → ys ≡ Mark k at ∷ zs → ⊥)
    → Found (ListRule D S) F start (acc ++ of ∷ [], max own a, max depth b) ys
items_to_last {of = of} {a = a} {b = b} i acc own depth start xs ys all g h = all (of ∷ []) a b ys (items_last i g h)

-- no further item
pub items_end : {X : Type 0} {D : List Sym → Counted X → Type 0} {S : MarkKind → Bool} {F : Sym → Type 0} (acc : List X) (own depth : ℕ) (start xs : List Sym)
    → ItemsSoFar D S F acc own depth start xs → Lacks D xs → Found (ListRule D S) F start (acc, own, depth) xs
items_end {X = X} {D = D} {S = S} {F = F} acc own depth start xs all h =
    let p : max own 0 ≡ own = omega arith in
    let q : max depth 0 ≡ depth = omega arith in
    subst (λ (v : List X). Found (ListRule D S) F start (v, own, depth) xs) (append-nil acc)
    (subst (λ (n : ℕ). Found (ListRule D S) F start (acc ++ [], n, depth) xs) p
    (subst (λ (n : ℕ). Found (ListRule D S) F start (acc ++ [], max own 0, n) xs) q (all [] 0 0 xs (items_stop S F xs h))))

pub item_falls : {X : Type 0} {D : List Sym → Counted X → Type 0} {C : Sym → Type 0} {r : Counted X} {xs ys vs : List Sym} (k : MarkKind) (at : ℕ) → Found D C xs r ys → ys ≡ Mark k at ∷ vs → length vs < length xs
item_falls k at f e = omega (arith, shorter f, ap length e)

pub under_three : {A B C : Type 0} (P : A → B → C → Type 0) {a u : A} {b v : B} {c w : C} → a ≡ u → b ≡ v → c ≡ w → P u v w → P a b c
under_three P {u = u} {b = b} {v = v} {c = c} p q r h = subst (λ x. P x b c) (sym p) (subst (λ y. P u y c) (sym q) (subst (λ z. P u v z) (sym r) h))

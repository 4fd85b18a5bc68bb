-- Lists of items with commas between, the last of which may be left out.
use Rattle.std.proofs.Common.{◌≡◌, ℕ, ◌≤◌, ◌<◌, max, List, [], ◌∷◌, ◌++◌, length, refl, sym, ◌∙◌, ap, subst, inl, inr, arith, append_assoc, length-append, append-nil}
use Rattle.tb_tree.specs.declared.marks.Mark.TheVariants as m
use Rattle.tb_tree.specs.Sym.{Sym, Mark}
use Rattle.tb_tree.specs.Longest.{Found, Lacks, Ends, Starts}
use Rattle.tb_tree.proofs.Ends.{exact, shorter, starts_by, ap_both, found_left}
use Rattle.tb_parse_body.specs.Rules.{Deep}

module _ {X : Type 0} (D : List Sym → Deep X → Type 0) where
  pub data IsCommas : List Sym → List X → ℕ → Type 0 where
    no_items : IsCommas [] [] 0
    last_item : {xs : List Sym} {of : X} {d : ℕ} → D xs (of, d) → IsCommas xs (of ∷ []) d
    more_items : (at : ℕ) {xs ys : List Sym} {of : X} {rest : List X} {d e : ℕ} → D xs (of, d) → IsCommas ys rest e
        → IsCommas (xs ++ Mark m.Comma at ∷ ys) (of ∷ rest) (max d e)

abbrev pub CommasRule : {X : Type 0} → (List Sym → Deep X → Type 0) → List Sym → Deep (List X) → Type 0
CommasRule D xs r = IsCommas D xs r.0 r.1

-- an item goes on with symbols of C, which are no commas, and a list of them with symbols of F
pub record Separates {X : Type 0} (D : List Sym → Deep X → Type 0) (C F : Sym → Type 0) : Type 0 where
  pub separator : (at : ℕ) → C (Mark m.Comma at) → ⊥
  pub more : (at : ℕ) → F (Mark m.Comma at)
  pub wider : (s : Sym) → C s → F s
  pub starts : (a : List Sym) (x : Deep X) (us : List Sym) → D a x → Starts F (a ++ us)
  pub long : (a : List Sym) (x : Deep X) → D a x → 1 ≤ length a

widened : {C F : Sym → Type 0} (zs : List Sym) → ((s : Sym) → C s → F s) → Starts C zs → Starts F zs
widened [] h n = n
widened (s ∷ zs) h c = h s c

-- what follows the first of a list
after_comma : (at : ℕ) (a b us : List Sym) → a ++ Mark m.Comma at ∷ b ++ us ≡ a ++ (Mark m.Comma at ∷ b ++ us)
after_comma at a b us = append_assoc a (Mark m.Comma at ∷ b) us

pub commas_stop : {X : Type 0} {D : List Sym → Deep X → Type 0} (F : Sym → Type 0) (xs : List Sym) → Lacks D xs → Found (CommasRule D) F xs ([], 0) xs
commas_stop {X = X} {D = D} F xs f = record {
  front = [];
  whole = refl;
  derives = no_items;
  longest = λ a y us d w. go us d w;
}
  where
    go : {u : List X} {a : List Sym} {d : ℕ} (us : List Sym) → IsCommas D a u d → xs ≡ a ++ us → Ends {X = Deep (List X)} F ([], 0) xs (u, d) us
    go us no_items w = inl (refl, w)
    go us (last_item {xs = a} {of = u} {d = d} q) w = absurd (f.none a (u, d) us q w)
    go us (more_items at {xs = a} {ys = b} {of = u} {d = d} q r) w = absurd (f.none a (u, d) (Mark m.Comma at ∷ b ++ us) q (w ∙ after_comma at a b us))

pub commas_last : {X : Type 0} {D : List Sym → Deep X → Type 0} {C F : Sym → Type 0} {of : X} {depth : ℕ} {xs ys : List Sym} → Separates D C F
    → Found D C xs (of, depth) ys → ((at : ℕ) (zs : List Sym) → ys ≡ Mark m.Comma at ∷ zs → ⊥) → Found (CommasRule D) F xs (of ∷ [], depth) ys
commas_last {X = X} {D = D} {C = C} {F = F} {of = of} {depth = depth} {xs = xs} {ys = ys} i f h = record {
  front = f.front;
  whole = f.whole;
  derives = last_item f.derives;
  longest = λ a y us d w. go us d w;
}
  where
    go : {u : List X} {a : List Sym} {d : ℕ} (us : List Sym) → IsCommas D a u d → xs ≡ a ++ us → Ends {X = Deep (List X)} F (of ∷ [], depth) ys (u, d) us
    go us no_items w = inr (
      omega (arith, i.long f.front (of, depth) f.derives, ap length f.whole, length-append f.front ys, ap length w),
      subst (λ v. Starts F v) (sym f.whole ∙ w) (i.starts f.front (of, depth) ys f.derives),
    )
    go us (last_item {xs = a} {of = u} {d = d} q) w = elim (f.longest a (u, d) us q w) [
      | inl o ↦ inl (ap (λ (x : Deep X). let y : Deep (List X) = (x.0 ∷ [], x.1) in y) o.0, o.1)
      | inr o ↦ inr (o.0, widened us i.wider o.1)
    ]
    go us (more_items at {xs = a} {ys = b} {of = u} {d = d} q r) w =
        let o = exact f a (u, d) (Mark m.Comma at ∷ b ++ us) q (w ∙ after_comma at a b us) (i.separator at) in
        absurd (h at (b ++ us) o.1)

pub commas_more : {X : Type 0} {D : List Sym → Deep X → Type 0} {C F : Sym → Type 0} {of : X} {rest : List X} {depth rest_depth : ℕ} {xs ys zs : List Sym}
    → Separates D C F → (at : ℕ) → Found D C xs (of, depth) (Mark m.Comma at ∷ ys) → Found (CommasRule D) F ys (rest, rest_depth) zs
    → Found (CommasRule D) F xs (of ∷ rest, max depth rest_depth) zs
commas_more {X = X} {D = D} {C = C} {F = F} {of = of} {rest = rest} {depth = depth} {rest_depth = rest_depth} {xs = xs} {ys = ys} {zs = zs} i at f g = record {
  front = f.front ++ Mark m.Comma at ∷ g.front;
  whole = f.whole ∙ ap (λ v. f.front ++ Mark m.Comma at ∷ v) g.whole ∙ sym (after_comma at f.front g.front zs);
  derives = more_items at f.derives g.derives;
  longest = λ a y us d w. go us d w;
}
  where
    go : {u : List X} {a : List Sym} {d : ℕ} (us : List Sym) → IsCommas D a u d → xs ≡ a ++ us → Ends {X = Deep (List X)} F (of ∷ rest, max depth rest_depth) zs (u, d) us
    go us no_items w = inr (
      omega (arith, shorter g, shorter f, ap length w),
      subst (λ v. Starts F v) (sym f.whole ∙ w) (i.starts f.front (of, depth) (Mark m.Comma at ∷ ys) f.derives),
    )
    go us (last_item {xs = a} {of = u} {d = d} q) w = elim (f.longest a (u, d) us q w) [
      | inl o ↦ inr (omega (arith, shorter g, ap length o.1), starts_by F (sym o.1) (i.more at))
      | inr o ↦ inr (omega (arith, shorter g, o.0), widened us i.wider o.1)
    ]
    go us (more_items p {xs = a} {ys = b} {of = u} {rest = us'} {d = d} {e = e} q r) w =
        let o = exact f a (u, d) (Mark m.Comma p ∷ b ++ us) q (w ∙ after_comma p a b us) (i.separator p) in
        elim (g.longest b (us', e) us r cc) [
          | inl z ↦ inl (ap_both (λ (x : Deep X) (y : Deep (List X)). let v : Deep (List X) = (x.0 ∷ y.0, max x.1 y.1) in v) o.0 z.0, z.1)
          | inr z ↦ inr z
        ]

-- ---- a loop over items: whatever list is found from here makes what is found in all

abbrev pub CommasSoFar : {X : Type 0} → (List Sym → Deep X → Type 0) → (Sym → Type 0) → List X → ℕ → List Sym → List Sym → Type 0
CommasSoFar {X = X} D F acc depth start xs = (ts : List X) (d : ℕ) (zs : List Sym) → Found (CommasRule D) F xs (ts, d) zs → Found (CommasRule D) F start (acc ++ ts, max depth d) zs

pub commas_start : {X : Type 0} (D : List Sym → Deep X → Type 0) (F : Sym → Type 0) (start : List Sym) → CommasSoFar D F [] 0 start start
commas_start {X = X} D F start ts d zs f =
    let p : d ≡ max 0 d = omega arith in
    subst (λ (n : ℕ). Found (CommasRule D) F start (ts, n) zs) p f

-- what is found behind a part makes what is found in all
regroup : {X : Type 0} {D : List Sym → Deep X → Type 0} {F : Sym → Type 0} {start zs : List Sym} (acc ts us : List X) (depth b d : ℕ)
    → Found (CommasRule D) F start (acc ++ (ts ++ us), max depth (max b d)) zs → Found (CommasRule D) F start ((acc ++ ts) ++ us, max (max depth b) d) zs
regroup {X = X} {D = D} {F = F} {start = start} {zs = zs} acc ts us depth b d f =
    let p : max depth (max b d) ≡ max (max depth b) d = omega arith in
    subst (λ (v : List X). Found (CommasRule D) F start (v, max (max depth b) d) zs) (sym (append_assoc acc ts us))
    (subst (λ (n : ℕ). Found (CommasRule D) F start (acc ++ (ts ++ us), n) zs) p f)

pub commas_on : {X : Type 0} {D : List Sym → Deep X → Type 0} {C F : Sym → Type 0} {of : X} {b : ℕ} {vs : List Sym} → Separates D C F → (acc : List X) (depth : ℕ)
    (start xs ys : List Sym) (at : ℕ) → CommasSoFar D F acc depth start xs → Found D C xs (of, b) ys → ys ≡ Mark m.Comma at ∷ vs
    → CommasSoFar D F (acc ++ of ∷ []) (max depth b) start vs
commas_on {of = of} {b = b} i acc depth start xs ys at all g e ts m zs f = regroup acc (of ∷ []) ts depth b m (all (of ∷ ts) (max b m) zs (commas_more i at (found_left e g) f))

-- the last item
pub commas_to_last : {X : Type 0} {D : List Sym → Deep X → Type 0} {C F : Sym → Type 0} {of : X} {b : ℕ} → Separates D C F → (acc : List X) (depth : ℕ)
    (start xs ys : List Sym) → CommasSoFar D F acc depth start xs → Found D C xs (of, b) ys → ((at : ℕ) (zs : List Sym) → ys ≡ Mark m.Comma at ∷ zs → ⊥)
    → Found (CommasRule D) F start (acc ++ of ∷ [], max depth b) ys
commas_to_last {of = of} {b = b} i acc depth start xs ys all g h = all (of ∷ []) b ys (commas_last i g h)

-- no further item
pub commas_end : {X : Type 0} {D : List Sym → Deep X → Type 0} {F : Sym → Type 0} (acc : List X) (depth : ℕ) (start xs : List Sym)
    → CommasSoFar D F acc depth start xs → Lacks D xs → Found (CommasRule D) F start (acc, depth) xs
commas_end {X = X} {D = D} {F = F} acc depth start xs all h =
    let q : max depth 0 ≡ depth = omega arith in
    subst (λ (v : List X). Found (CommasRule D) F start (v, depth) xs) (append-nil acc)
    (subst (λ (n : ℕ). Found (CommasRule D) F start (acc ++ [], n) xs) q (all [] 0 xs (commas_stop F xs h)))

pub comma_falls : {X : Type 0} {D : List Sym → Deep X → Type 0} {C : Sym → Type 0} {r : Deep X} {xs ys vs : List Sym} (at : ℕ) → Found D C xs r ys → ys ≡ Mark m.Comma at ∷ vs → length vs < length xs
comma_falls at f e = omega (arith, shorter f, ap length e)

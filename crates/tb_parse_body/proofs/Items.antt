-- Items that follow one another with nothing between.
use Rattle.std.proofs.Common.{◌≡◌, ℕ, ◌+◌, ◌≤◌, ◌<◌, max, List, [], ◌∷◌, ◌++◌, length, refl, sym, ◌∙◌, ap, subst, inl, inr, arith, append_assoc, length-append, append-nil}
use Rattle.tb_tree.specs.Sym.{Sym}
use Rattle.tb_tree.specs.Longest.{Found, Lacks, Ends, Starts}
use Rattle.tb_tree.proofs.Ends.{shorter, ap_both}
use Rattle.tb_parse_body.specs.Rules.{Deep}
use Rattle.tb_parse_body.specs.ItemReadings.{Parted}

module _ {X : Type 0} (D : List Sym → Deep X → Type 0) where
  pub data IsRow : List Sym → List X → ℕ → Type 0 where
    no_items : IsRow [] [] 0
    more_items : {xs ys : List Sym} {of : X} {rest : List X} {d e : ℕ} → D xs (of, d) → IsRow ys rest e → IsRow (xs ++ ys) (of ∷ rest) (max d e)

abbrev pub RowRule : {X : Type 0} → (List Sym → Deep X → Type 0) → List Sym → Deep (List X) → Type 0
RowRule D xs r = IsRow D xs r.0 r.1

-- An item begins with a symbol of F, and so does what goes on behind a shorter one.
pub record Follows {X : Type 0} (D : List Sym → Deep X → Type 0) (C F : Sym → Type 0) : Type 0 where
  pub starts : (a : List Sym) (x : Deep X) (us : List Sym) → D a x → Starts F (a ++ us)
  pub long : (a : List Sym) (x : Deep X) → D a x → 1 ≤ length a
  pub goes : (us : List Sym) → Starts C us → Starts F us

pub row_stop : {X : Type 0} {D : List Sym → Deep X → Type 0} (F : Sym → Type 0) (xs : List Sym) → Lacks D xs → Found (RowRule D) F xs ([], 0) xs
row_stop {X = X} {D = D} F xs f = record {
  front = [];
  whole = refl;
  derives = no_items;
  longest = λ a y us d w. go us d w;
}
  where
    go : {u : List X} {a : List Sym} {d : ℕ} (us : List Sym) → IsRow D a u d → xs ≡ a ++ us → Ends {X = Deep (List X)} F ([], 0) xs (u, d) us
    go us no_items w = inl (refl, w)
    go us (more_items {xs = a} {ys = b} {of = u} {d = d} q r) w = absurd (f.none a (u, d) (b ++ us) q (w ∙ append_assoc a b us))

pub row_more : {X : Type 0} {D : List Sym → Deep X → Type 0} {C F : Sym → Type 0} {of : X} {rest : List X} {d e : ℕ} {xs ys zs : List Sym} → Follows D C F
    → Found D C xs (of, d) ys → Parted D xs ys → Found (RowRule D) F ys (rest, e) zs → Found (RowRule D) F xs (of ∷ rest, max d e) zs
row_more {X = X} {D = D} {C = C} {F = F} {of = of} {rest = rest} {d = d} {e = e} {xs = xs} {ys = ys} {zs = zs} i f p g = record {
  front = f.front ++ g.front;
  whole = f.whole ∙ ap (λ v. f.front ++ v) g.whole ∙ sym (append_assoc f.front g.front zs);
  derives = more_items f.derives g.derives;
  longest = λ a y us q w. go us q w;
}
  where
    behind : {b : List Sym} {v : List X} {k : ℕ} (us : List Sym) → IsRow D b v k → Lacks D (b ++ us) → Starts F (b ++ us) → length zs < length (b ++ us) → (length zs < length us) × Starts F us
    behind us no_items l s h = (h, s)
    behind us (more_items {xs = a} {ys = b} {of = u} {d = k} q r) l s h = absurd (l.none a (u, k) (b ++ us) q (append_assoc a b us))

    go : {u : List X} {a : List Sym} {k : ℕ} (us : List Sym) → IsRow D a u k → xs ≡ a ++ us → Ends {X = Deep (List X)} F (of ∷ rest, max d e) zs (u, k) us
    go us no_items w = inr (
      omega (arith, shorter g, i.long f.front (of, d) f.derives, ap length f.whole, length-append f.front ys, ap length w),
      subst (λ v. Starts F v) (sym f.whole ∙ w) (i.starts f.front (of, d) ys f.derives),
    )
    go us (more_items {xs = a} {ys = b} {of = u} {rest = us'} {d = k} {e = l} q r) w =
        elim (f.longest a (u, k) (b ++ us) q (w ∙ append_assoc a b us)) [
          | inl o ↦ elim (g.longest b (us', l) us r o.1) [
            | inl z ↦ inl (ap_both (λ (x : Deep X) (y : Deep (List X)). let v : Deep (List X) = (x.0 ∷ y.0, max x.1 y.1) in v) o.0 z.0, z.1)
            | inr z ↦ inr z
          ]
          | inr o ↦
              let n = p.parted a (u, k) (b ++ us) q (w ∙ append_assoc a b us) o.0 in
              inr (behind us r n (i.goes (b ++ us) o.1) (omega (arith, shorter g, o.0)))
        ]

-- ---- a loop over items: whatever row is found from here makes what is found in all

abbrev pub RowSoFar : {X : Type 0} → (List Sym → Deep X → Type 0) → (Sym → Type 0) → List X → ℕ → List Sym → List Sym → Type 0
RowSoFar {X = X} D F acc depth start xs = (ts : List X) (d : ℕ) (zs : List Sym) → Found (RowRule D) F xs (ts, d) zs → Found (RowRule D) F start (acc ++ ts, max depth d) zs

pub row_start : {X : Type 0} (D : List Sym → Deep X → Type 0) (F : Sym → Type 0) (start : List Sym) → RowSoFar D F [] 0 start start
row_start {X = X} D F start ts d zs f =
    let p : d ≡ max 0 d = omega arith in
    subst (λ (n : ℕ). Found (RowRule D) F start (ts, n) zs) p f

pub row_on : {X : Type 0} {D : List Sym → Deep X → Type 0} {C F : Sym → Type 0} {of : X} {k : ℕ} → Follows D C F → (acc : List X) (depth : ℕ) (start xs ys : List Sym) → RowSoFar D F acc depth start xs
    → Found D C xs (of, k) ys → Parted D xs ys → RowSoFar D F (acc ++ of ∷ []) (max depth k) start ys
row_on {X = X} {D = D} {F = F} {of = of} {k = k} i acc depth start xs ys all g h ts d zs f =
    let p : max depth (max k d) ≡ max (max depth k) d = omega arith in
    subst (λ (v : List X). Found (RowRule D) F start (v, max (max depth k) d) zs) (sym (append_assoc acc (of ∷ []) ts))
    (subst (λ (n : ℕ). Found (RowRule D) F start (acc ++ (of ∷ ts), n) zs) p (all (of ∷ ts) (max k d) zs (row_more i g h f)))

pub row_end : {X : Type 0} {D : List Sym → Deep X → Type 0} {F : Sym → Type 0} (acc : List X) (depth : ℕ) (start xs : List Sym) → RowSoFar D F acc depth start xs → Lacks D xs
    → Found (RowRule D) F start (acc, depth) xs
row_end {X = X} {D = D} {F = F} acc depth start xs all h =
    let p : max depth 0 ≡ depth = omega arith in
    subst (λ (v : List X). Found (RowRule D) F start (v, depth) xs) (append-nil acc)
    (subst (λ (n : ℕ). Found (RowRule D) F start (acc ++ [], n) xs) p (all [] 0 xs (row_stop F xs h)))

-- an item is not empty
pub row_falls : {X : Type 0} {D : List Sym → Deep X → Type 0} {C F : Sym → Type 0} {x : Deep X} {xs ys : List Sym} → Follows D C F → Found D C xs x ys → length ys < length xs
row_falls {x = x} {ys = ys} i f = omega (arith, i.long f.front x f.derives, ap length f.whole, length-append f.front ys)

-- Lists of items with commas between, the last of which may be left out, and whether all are named by Names.
use Rattle.std.proofs.Common.{◌≡◌, ℕ, ◌≤◌, ◌<◌, Bool, true, false, List, [], ◌∷◌, ◌++◌, length, refl, sym, ◌∙◌, ap, subst, inl, inr, arith, append_assoc, length-append, append-nil}
use Rattle.std.specs.Prelude.{◌&&◌}
use Rattle.tb_tree.specs.declared.marks.Mark.TheVariants as m
use Rattle.tb_tree.specs.Sym.{Sym, Mark}
use Rattle.tb_tree.specs.Longest.{Found, Lacks, Ends, Starts}
use Rattle.tb_tree.proofs.Ends.{exact, shorter, starts_by, ap_both, found_left}
use Rattle.tb_parse_file.specs.Lists.{Named, IsNamedList, no_named, last_named, more_named}

abbrev pub NamedListRule : {X : Type 0} → (List Sym → Named X → Type 0) → List Sym → Named (List X) → Type 0
NamedListRule D xs r = IsNamedList D xs r.0 r.1

-- an item goes on with symbols of C, which are no commas, and a list of them with symbols of F
pub record Separates {X : Type 0} (D : List Sym → Named X → Type 0) (C F : Sym → Type 0) : Type 0 where
  pub separator : (at : ℕ) → C (Mark m.Comma at) → ⊥
  pub more : (at : ℕ) → F (Mark m.Comma at)
  pub wider : (s : Sym) → C s → F s
  pub starts : (a : List Sym) (x : Named X) (us : List Sym) → D a x → Starts F (a ++ us)
  pub long : (a : List Sym) (x : Named X) → D a x → 1 ≤ length a

widened : {C F : Sym → Type 0} (zs : List Sym) → ((s : Sym) → C s → F s) → Starts C zs → Starts F zs
widened [] h n = n
widened (s ∷ zs) h c = h s c

-- what follows the first of a list
after_comma : (at : ℕ) (a b us : List Sym) → a ++ Mark m.Comma at ∷ b ++ us ≡ a ++ (Mark m.Comma at ∷ b ++ us)
after_comma at a b us = append_assoc a (Mark m.Comma at ∷ b) us

pub named_stop : {X : Type 0} {D : List Sym → Named X → Type 0} (F : Sym → Type 0) (xs : List Sym) → Lacks D xs → Found (NamedListRule D) F xs ([], true) xs
named_stop {X = X} {D = D} F xs f = record {
  front = [];
  whole = refl;
  derives = no_named;
  longest = λ a y us d w. go us d w;
}
  where
    go : {u : List X} {a : List Sym} {d : Bool} (us : List Sym) → IsNamedList D a u d → xs ≡ a ++ us → Ends {X = Named (List X)} F ([], true) xs (u, d) us
    go us no_named w = inl (refl, w)
    go us (last_named {xs = a} {of = u} {b = d} q) w = absurd (f.none a (u, d) us q w)
    go us (more_named at {xs = a} {ys = b} {of = u} {b = d} q r) w = absurd (f.none a (u, d) (Mark m.Comma at ∷ b ++ us) q (w ∙ after_comma at a b us))

pub named_last : {X : Type 0} {D : List Sym → Named X → Type 0} {C F : Sym → Type 0} {of : X} {named : Bool} {xs ys : List Sym} → Separates D C F
    → Found D C xs (of, named) ys → ((at : ℕ) (zs : List Sym) → ys ≡ Mark m.Comma at ∷ zs → ⊥) → Found (NamedListRule D) F xs (of ∷ [], named) ys
named_last {X = X} {D = D} {C = C} {F = F} {of = of} {named = named} {xs = xs} {ys = ys} i f h = record {
  front = f.front;
  whole = f.whole;
  derives = last_named f.derives;
  longest = λ a y us d w. go us d w;
}
  where
    go : {u : List X} {a : List Sym} {d : Bool} (us : List Sym) → IsNamedList D a u d → xs ≡ a ++ us → Ends {X = Named (List X)} F (of ∷ [], named) ys (u, d) us
    go us no_named w = inr (
      omega (arith, i.long f.front (of, named) f.derives, ap length f.whole, length-append f.front ys, ap length w),
      subst (λ v. Starts F v) (sym f.whole ∙ w) (i.starts f.front (of, named) ys f.derives),
    )
    go us (last_named {xs = a} {of = u} {b = d} q) w = elim (f.longest a (u, d) us q w) [
      | inl o ↦ inl (ap (λ (x : Named X). let y : Named (List X) = (x.0 ∷ [], x.1) in y) o.0, o.1)
      | inr o ↦ inr (o.0, widened us i.wider o.1)
    ]
    go us (more_named at {xs = a} {ys = b} {of = u} {b = d} q r) w =
        let o = exact f a (u, d) (Mark m.Comma at ∷ b ++ us) q (w ∙ after_comma at a b us) (i.separator at) in
        absurd (h at (b ++ us) o.1)

pub named_more : {X : Type 0} {D : List Sym → Named X → Type 0} {C F : Sym → Type 0} {of : X} {rest : List X} {named later : Bool} {xs ys zs : List Sym}
    → Separates D C F → (at : ℕ) → Found D C xs (of, named) (Mark m.Comma at ∷ ys) → Found (NamedListRule D) F ys (rest, later) zs
    → Found (NamedListRule D) F xs (of ∷ rest, named && later) zs
named_more {X = X} {D = D} {C = C} {F = F} {of = of} {rest = rest} {named = named} {later = later} {xs = xs} {ys = ys} {zs = zs} i at f g = record {
  front = f.front ++ Mark m.Comma at ∷ g.front;
  whole = f.whole ∙ ap (λ v. f.front ++ Mark m.Comma at ∷ v) g.whole ∙ sym (after_comma at f.front g.front zs);
  derives = more_named at f.derives g.derives;
  longest = λ a y us d w. go us d w;
}
  where
    go : {u : List X} {a : List Sym} {d : Bool} (us : List Sym) → IsNamedList D a u d → xs ≡ a ++ us → Ends {X = Named (List X)} F (of ∷ rest, named && later) zs (u, d) us
    go us no_named w = inr (
      omega (arith, shorter g, shorter f, ap length w),
      subst (λ v. Starts F v) (sym f.whole ∙ w) (i.starts f.front (of, named) (Mark m.Comma at ∷ ys) f.derives),
    )
    go us (last_named {xs = a} {of = u} {b = d} q) w = elim (f.longest a (u, d) us q w) [
      | inl o ↦ inr (omega (arith, shorter g, ap length o.1), starts_by F (sym o.1) (i.more at))
      | inr o ↦ inr (omega (arith, shorter g, o.0), widened us i.wider o.1)
    ]
    go us (more_named p {xs = a} {ys = b} {of = u} {rest = us'} {b = d} {later = e} q r) w =
        let o = exact f a (u, d) (Mark m.Comma p ∷ b ++ us) q (w ∙ after_comma p a b us) (i.separator p) in
        elim (g.longest b (us', e) us r cc) [
          | inl z ↦ inl (ap_both (λ (x : Named X) (y : Named (List X)). let v : Named (List X) = (x.0 ∷ y.0, x.1 && y.1) in v) o.0 z.0, z.1)
          | inr z ↦ inr z
        ]

-- ---- a loop over items: whatever list is found from here makes what is found in all

abbrev pub NamedSoFar : {X : Type 0} → (List Sym → Named X → Type 0) → (Sym → Type 0) → List X → Bool → List Sym → List Sym → Type 0
NamedSoFar {X = X} D F acc named start xs = (ts : List X) (later : Bool) (zs : List Sym) → Found (NamedListRule D) F xs (ts, later) zs
    → Found (NamedListRule D) F start (acc ++ ts, named && later) zs

pub named_start : {X : Type 0} (D : List Sym → Named X → Type 0) (F : Sym → Type 0) (start : List Sym) → NamedSoFar D F [] true start start
named_start D F start ts later zs f = f

and_assoc : (a b d : Bool) → (a && (b && d)) ≡ ((a && b) && d)
and_assoc true b d = refl
and_assoc false b d = refl

and_true : (a : Bool) → (a && true) ≡ a
and_true true = refl
and_true false = refl

-- what is found behind a part makes what is found in all
regroup : {X : Type 0} {D : List Sym → Named X → Type 0} {F : Sym → Type 0} {start zs : List Sym} (acc ts us : List X) (named b d : Bool)
    → Found (NamedListRule D) F start (acc ++ (ts ++ us), named && (b && d)) zs → Found (NamedListRule D) F start ((acc ++ ts) ++ us, (named && b) && d) zs
regroup {X = X} {D = D} {F = F} {start = start} {zs = zs} acc ts us named b d f =
    subst (λ (v : List X). Found (NamedListRule D) F start (v, (named && b) && d) zs) (sym (append_assoc acc ts us))
    (subst (λ (n : Bool). Found (NamedListRule D) F start (acc ++ (ts ++ us), n) zs) (and_assoc named b d) f)

pub named_on : {X : Type 0} {D : List Sym → Named X → Type 0} {C F : Sym → Type 0} {of : X} {b : Bool} {vs : List Sym} → Separates D C F → (acc : List X) (named : Bool)
    (start xs ys : List Sym) (at : ℕ) → NamedSoFar D F acc named start xs → Found D C xs (of, b) ys → ys ≡ Mark m.Comma at ∷ vs
    → NamedSoFar D F (acc ++ of ∷ []) (named && b) start vs
named_on {of = of} {b = b} i acc named start xs ys at all g e ts later zs f =
    regroup acc (of ∷ []) ts named b later (all (of ∷ ts) (b && later) zs (named_more i at (found_left e g) f))

-- the last item
pub named_to_last : {X : Type 0} {D : List Sym → Named X → Type 0} {C F : Sym → Type 0} {of : X} {b : Bool} → Separates D C F → (acc : List X) (named : Bool)
    (start xs ys : List Sym) → NamedSoFar D F acc named start xs → Found D C xs (of, b) ys → ((at : ℕ) (zs : List Sym) → ys ≡ Mark m.Comma at ∷ zs → ⊥)
    → Found (NamedListRule D) F start (acc ++ of ∷ [], named && b) ys
named_to_last {of = of} {b = b} i acc named start xs ys all g h = all (of ∷ []) b ys (named_last i g h)

-- no further item
pub named_end : {X : Type 0} {D : List Sym → Named X → Type 0} {F : Sym → Type 0} (acc : List X) (named : Bool) (start xs : List Sym)
    → NamedSoFar D F acc named start xs → Lacks D xs → Found (NamedListRule D) F start (acc, named) xs
named_end {X = X} {D = D} {F = F} acc named start xs all h =
    subst (λ (v : List X). Found (NamedListRule D) F start (v, named) xs) (append-nil acc)
    (subst (λ (n : Bool). Found (NamedListRule D) F start (acc ++ [], n) xs) (and_true named) (all [] true xs (named_stop F xs h)))

pub comma_falls : {X : Type 0} {D : List Sym → Named X → Type 0} {C : Sym → Type 0} {r : Named X} {xs ys vs : List Sym} (at : ℕ) → Found D C xs r ys → ys ≡ Mark m.Comma at ∷ vs → length vs < length xs
comma_falls at f e = omega (arith, shorter f, ap length e)

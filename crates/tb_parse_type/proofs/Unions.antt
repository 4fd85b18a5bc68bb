-- The longest union at the front of a list.
use Rattle.std.proofs.Common.{◌≡◌, ℕ, ◌+◌, ◌-◌, ◌≤◌, ◌<◌, max, Bool, true, false, List, [], ◌∷◌, ◌++◌, length, refl, sym, ◌∙◌, ap, subst, inl, inr, arith, append_assoc, length-append, append-nil}
use Rattle.std.specs.Prelude.{if◌then◌else◌}
use Rattle.tb_tree.specs.declared.marks.Mark.TheVariants as m
use Rattle.tb_tree.specs.declared.types.TypeExpr.{TypeExpr, out-TypeExpr}
use Rattle.tb_tree.specs.declared.types.TypeExpr.TheVariants as t
use Rattle.tb_tree.specs.declared.types.TypeExpr.TheOpen.{TypeExpr-F}
use Rattle.tb_tree.specs.declared.types.TypeParam.{TypeParam}
use Rattle.tb_tree.specs.declared.types.TypeMember.{TypeMember}
use Rattle.tb_parse_type.specs.declared.reader.Limits.{Limits}
use Rattle.tb_tree.specs.Sym.{Sym, Mark, Lex}
use Rattle.tb_tree.specs.Longest.{Found, Lacks, Ends, Starts}
use Rattle.tb_tree.specs.Shapes.{start_of}
use Rattle.tb_tree.specs.Types.{IsElement, plain_element, read_only_element, IsTail, no_tail, more_tail, IsUnion, one_element, several_elements, parts_of, count_at, part_count}
use Rattle.tb_tree.proofs.Ends.{exact, shorter, starts_by, ap_both, append_three}
use Rattle.tb_parse_type.specs.Rules.{Counted, Fits, inside, limits_of, is_union, is_union_at, ElementUpto, NextUpto, TailUpto, UnionUpto, InElement, InType}
use Rattle.tb_tree.specs.declared.words.Class.TheVariants as c
use Rattle.tb_parse_type.proofs.Atoms.{atom_start}

-- what goes on with an element goes on with a type
pub wider_symbol : (s : Sym) → InElement s → InType s
wider_symbol (Mark m.OpenBracket at) h = refl
wider_symbol (Mark m.OpenBrace at) h = refl
wider_symbol (Mark m.OpenParen at) h = refl
wider_symbol (Mark m.Minus at) h = refl
wider_symbol (Mark m.Bar at) h = refl
wider_symbol (Mark _ at) h = cc
wider_symbol (Lex (c.Word k) s at) h = refl
wider_symbol (Lex c.Number s at) h = refl
wider_symbol (Lex c.String s at) h = refl
wider_symbol (Lex (c.Template k) s at) h = cc
wider_symbol (Lex c.Bad s at) h = cc

wider : (zs : List Sym) → Starts InElement zs → Starts InType zs
wider [] h = h
wider (s ∷ zs) h = wider_symbol s h

-- ---- counts of parts

count_is : (n : ℕ) (x : TypeExpr-F TypeExpr TypeMember TypeParam) → count_at n x ≡ (if is_union_at x then n - 1 else n)
count_is n (TypeExpr-F.Union at parts) = refl
count_is n _ = refl

pub part_is : (n : ℕ) (of : TypeExpr) (b : Bool) → is_union of ≡ b → part_count of n ≡ (if b then n - 1 else n)
part_is n of b e = count_is n (out-TypeExpr of) ∙ ap (λ (b : Bool). if b then n - 1 else n) e

abbrev chosen : Bool → Limits → Limits → Limits
chosen b flat l = if b then flat else l

part_fits : (l : Limits) (of : TypeExpr) (own depth : ℕ) → Fits (limits_of (inside l) l of) own depth → Fits (inside l) (part_count of own) (part_count of depth)
part_fits l of own depth f = go (is_union of) refl
  where
    go : (b : Bool) → is_union of ≡ b → Fits (inside l) (part_count of own) (part_count of depth)
    go true e =
        let g = subst (λ b. Fits (chosen b l (inside l)) own depth) e f in
        (omega (arith, g.0, part_is own of true e), omega (arith, g.1, part_is depth of true e))
    go false e =
        let g = subst (λ b. Fits (chosen b l (inside l)) own depth) e f in
        (omega (arith, g.0, part_is own of false e), omega (arith, g.1, part_is depth of false e))

part_within : (l : Limits) (of : TypeExpr) (own depth : ℕ) → 0 < l.own → 0 < l.depth → Fits (inside l) (part_count of own) (part_count of depth) → Fits (limits_of (inside l) l of) own depth
part_within l of own depth h k f = go (is_union of) refl
  where
    go : (b : Bool) → is_union of ≡ b → Fits (limits_of (inside l) l of) own depth
    go true e = subst (λ b. Fits (chosen b l (inside l)) own depth) (sym e) (omega (arith, h, f.0, part_is own of true e), omega (arith, k, f.1, part_is depth of true e))
    go false e = subst (λ b. Fits (chosen b l (inside l)) own depth) (sym e) (omega (arith, f.0, part_is own of false e), omega (arith, f.1, part_is depth of false e))

-- the same limits for all
one_fits : (l : Limits) (of : TypeExpr) (own depth : ℕ) → Fits (limits_of l l of) own depth → Fits l own depth
one_fits l of own depth f = go (is_union of) refl
  where
    go : (b : Bool) → is_union of ≡ b → Fits l own depth
    go true e = subst (λ b. Fits (chosen b l l) own depth) e f
    go false e = subst (λ b. Fits (chosen b l l) own depth) e f

fits_one : (l : Limits) (of : TypeExpr) (own depth : ℕ) → Fits l own depth → Fits (limits_of l l of) own depth
fits_one l of own depth f = go (is_union of) refl
  where
    go : (b : Bool) → is_union of ≡ b → Fits (limits_of l l of) own depth
    go true e = subst (λ b. Fits (chosen b l l) own depth) (sym e) f
    go false e = subst (λ b. Fits (chosen b l l) own depth) (sym e) f

-- a part of a union that is within limits is within them by itself
part_below : (n own : ℕ) (of : TypeExpr) → part_count of own + 1 ≤ n → own ≤ n
part_below n own of h = go (is_union of) refl
  where
    go : (b : Bool) → is_union of ≡ b → own ≤ n
    go true e = omega (arith, h, part_is own of true e)
    go false e = omega (arith, h, part_is own of false e)

-- ---- `|` with an element

pub next_found : {of : TypeExpr} {own depth : ℕ} {xs ys : List Sym} (l : Limits) (o : ℕ) → 0 < l.own → 0 < l.depth → Found (ElementUpto (inside l) l) InElement xs (of, own, depth) ys
    → Found (NextUpto (inside l)) InElement (Mark m.Bar o ∷ xs) (parts_of of, part_count of own, part_count of depth) ys
next_found {of = of} {own = own} {depth = depth} {xs = xs} {ys = ys} l o h k f = record {
  front = Mark m.Bar o ∷ f.front;
  whole = ap (λ v. Mark m.Bar o ∷ v) f.whole;
  derives = let g = part_fits l of own depth f.derives.1 in (o, f.front, refl, (of, own, depth, f.derives.0, refl, refl, refl, g));
  longest = λ a y zs d w. go y zs d (w ∙ ap (λ v. v ++ zs) d.2);
}
  where
    go : {a : List Sym} (y : Counted (List TypeExpr)) (zs : List Sym) (d : NextUpto (inside l) a y) → Mark m.Bar o ∷ xs ≡ Mark m.Bar d.0 ∷ d.1 ++ zs
        → Ends {X = Counted (List TypeExpr)} InElement (parts_of of, part_count of own, part_count of depth) ys y zs
    go y zs d w =
        let p = d.3 in
        let fit : Fits (inside l) (part_count p.0 p.1) (part_count p.0 p.2) = subst (λ (n : ℕ). Fits (inside l) n (part_count p.0 p.2)) p.5 (subst (λ (n : ℕ). Fits (inside l) y.1 n) p.6 p.7) in
        elim (f.longest d.1 (p.0, p.1, p.2) zs (p.3, part_within l p.0 p.1 p.2 h k fit) cc) [
          | inl e ↦ inl (ap (λ (r : Counted TypeExpr). let x : Counted (List TypeExpr) = (parts_of r.0, part_count r.0 r.1, part_count r.0 r.2) in x) e.0 ∙ as_parts p.0 p.1 p.2 y p.4 p.5 p.6, e.1)
          | inr e ↦ inr e
        ]
      where
        as_parts : (u : TypeExpr) (e d : ℕ) (y : Counted (List TypeExpr)) → y.0 ≡ parts_of u → y.1 ≡ part_count u e → y.2 ≡ part_count u d
            → ◌≡◌ {A = Counted (List TypeExpr)} (parts_of u, part_count u e, part_count u d) y
        as_parts u e d y a b c =
            ap (λ (v : List TypeExpr). let x : Counted (List TypeExpr) = (v, part_count u e, part_count u d) in x) (sym a)
            ∙ ap_both (λ (i j : ℕ). let x : Counted (List TypeExpr) = (y.0, i, j) in x) (sym b) (sym c)

pub next_lacks : {xs : List Sym} (l : Limits) (o : ℕ) → 0 < l.own → 0 < l.depth → Lacks (ElementUpto (inside l) l) xs → Lacks (NextUpto (inside l)) (Mark m.Bar o ∷ xs)
next_lacks {xs = xs} l o h k f = record { none = λ a y zs d w. go y zs d (w ∙ ap (λ v. v ++ zs) d.2) }
  where
    go : {a : List Sym} (y : Counted (List TypeExpr)) (zs : List Sym) (d : NextUpto (inside l) a y) → Mark m.Bar o ∷ xs ≡ Mark m.Bar d.0 ∷ d.1 ++ zs → ⊥
    go y zs d w =
        let p = d.3 in
        let fit : Fits (inside l) (part_count p.0 p.1) (part_count p.0 p.2) = subst (λ (n : ℕ). Fits (inside l) n (part_count p.0 p.2)) p.5 (subst (λ (n : ℕ). Fits (inside l) y.1 n) p.6 p.7) in
        f.none d.1 (p.0, p.1, p.2) zs (p.3, part_within l p.0 p.1 p.2 h k fit) cc

pub next_lacks_bar : (l : Limits) (xs : List Sym) → ((o : ℕ) (zs : List Sym) → xs ≡ Mark m.Bar o ∷ zs → ⊥) → Lacks (NextUpto l) xs
next_lacks_bar l xs h = record { none = λ a y zs d w. h d.0 (d.1 ++ zs) (w ∙ ap (λ v. v ++ zs) d.2) }

-- ---- any number of them

-- what derives a part, in limits
in_next : {of : TypeExpr} {own depth : ℕ} {a : List Sym} (l : Limits) (bar : ℕ) → IsElement a of own depth → part_count of own ≤ l.own → part_count of depth ≤ l.depth
    → NextUpto l (Mark m.Bar bar ∷ a) (parts_of of, part_count of own, part_count of depth)
in_next l bar q h k = (bar, _, refl, (_, _, _, q, refl, refl, refl, (h, k)))

tail_empty : {a : List Sym} {ts : List TypeExpr} {own depth : ℕ} (zs : List Sym) → IsTail a ts own depth → Starts InElement (a ++ zs) → a ≡ []
tail_empty zs no_tail h = refl
tail_empty zs (more_tail bar q r) h = let n : false ≡ true = h in cc

abbrev joined : Counted (List TypeExpr) → Counted (List TypeExpr) → Counted (List TypeExpr)
joined a b = (a.0 ++ b.0, max a.1 b.1, max a.2 b.2)

tail_of : {a b : List Sym} {ts : List TypeExpr} {own depth : ℕ} (l : Limits) (r : Counted (List TypeExpr)) → NextUpto l a r → IsTail b ts own depth
    → IsTail (a ++ b) (r.0 ++ ts) (max r.1 own) (max r.2 depth)
tail_of {b = b} {ts = ts} {own = own} {depth = depth} l r d t =
    let p = d.3 in
    let q = more_tail d.0 p.3 t in
    let e : Mark m.Bar d.0 ∷ d.1 ++ b ≡ _ ++ b = ap (λ v. v ++ b) (sym d.2) in
    subst (λ v. IsTail v (r.0 ++ ts) (max r.1 own) (max r.2 depth)) e
    (subst (λ (x : List TypeExpr). IsTail (Mark m.Bar d.0 ∷ d.1 ++ b) (x ++ ts) (max r.1 own) (max r.2 depth)) (sym p.4)
    (subst (λ (x : ℕ). IsTail (Mark m.Bar d.0 ∷ d.1 ++ b) (parts_of p.0 ++ ts) (max x own) (max r.2 depth)) (sym p.5)
    (subst (λ (x : ℕ). IsTail (Mark m.Bar d.0 ∷ d.1 ++ b) (parts_of p.0 ++ ts) (max (part_count p.0 p.1) own) (max x depth)) (sym p.6) q)))

pub tail_more : {r t : Counted (List TypeExpr)} {xs ys zs : List Sym} (l : Limits) → Found (NextUpto l) InElement xs r ys → Found (TailUpto l) InType ys t zs
    → Found (TailUpto l) InType xs (r.0 ++ t.0, max r.1 t.1, max r.2 t.2) zs
tail_more {r = r} {t = t} {xs = xs} {ys = ys} {zs = zs} l f g = record {
  front = f.front ++ g.front;
  whole = f.whole ∙ ap (λ v. f.front ++ v) g.whole ∙ sym (append_assoc f.front g.front zs);
  derives = (tail_of l r f.derives g.derives.0, (omega (arith, f.derives.3.7.0, g.derives.1.0), omega (arith, f.derives.3.7.1, g.derives.1.1)));
  longest = λ a y vs d w. go vs d.0 d.1 w;
}
  where
    -- the reading begins with a bar
    bar : xs ≡ Mark m.Bar f.derives.0 ∷ f.derives.1 ++ ys
    bar = f.whole ∙ ap (λ v. v ++ ys) f.derives.2

    go : {us : List TypeExpr} {a : List Sym} {e d : ℕ} (vs : List Sym) → IsTail a us e d → Fits l e d → xs ≡ a ++ vs
        → Ends {X = Counted (List TypeExpr)} InType (r.0 ++ t.0, max r.1 t.1, max r.2 t.2) zs (us, e, d) vs
    go vs no_tail fit w = inr (omega (arith, shorter g, ap length bar, length-append f.derives.1 ys, ap length w), starts_by InType (sym w ∙ bar) refl)
    go vs (more_tail o {xs = p} {ys = b} {of = u} {rest = us} {own = e} {depth = d} {rest_own = e'} {rest_depth = d'} q s) fit w =
        let v : xs ≡ (Mark m.Bar o ∷ p) ++ (b ++ vs) = w ∙ append_assoc (Mark m.Bar o ∷ p) b vs in
        elim (f.longest (Mark m.Bar o ∷ p) (parts_of u, part_count u e, part_count u d) (b ++ vs) (in_next l o q (omega (arith, fit.0)) (omega (arith, fit.1))) v) [
          | inl x ↦ elim (g.longest b (us, e', d') vs (s, (omega (arith, fit.0), omega (arith, fit.1))) x.1) [
            | inl i ↦ inl (ap_both (λ (a b : Counted (List TypeExpr)). joined a b) x.0 i.0, i.1)
            | inr i ↦ inr i
          ]
          | inr x ↦
              let i = tail_empty vs s x.1 in
              inr (omega (arith, x.0, shorter g, ap length i, length-append b vs), wider vs (subst (λ x. Starts InElement (x ++ vs)) i x.1))
        ]

pub tail_stop : (l : Limits) (xs : List Sym) → Lacks (NextUpto l) xs → Found (TailUpto l) InType xs ([], 0, 0) xs
tail_stop l xs h = record {
  front = [];
  whole = refl;
  derives = (no_tail, (omega arith, omega arith));
  longest = λ a y vs d w. go vs d.0 d.1 w;
}
  where
    go : {us : List TypeExpr} {a : List Sym} {e d : ℕ} (vs : List Sym) → IsTail a us e d → Fits l e d → xs ≡ a ++ vs → Ends {X = Counted (List TypeExpr)} InType ([], 0, 0) xs (us, e, d) vs
    go vs no_tail fit w = inl (refl, w)
    go vs (more_tail o {xs = p} {ys = b} {of = u} {own = e} {depth = d} q s) fit w =
        absurd (h.none (Mark m.Bar o ∷ p) (parts_of u, part_count u e, part_count u d) (b ++ vs) (in_next l o q (omega (arith, fit.0)) (omega (arith, fit.1))) (w ∙ append_assoc (Mark m.Bar o ∷ p) b vs))

-- whatever tail is found from here makes what is found in all
abbrev pub TailSoFar : Limits → List TypeExpr → ℕ → ℕ → List Sym → List Sym → Type 0
TailSoFar l acc own depth start xs = (ts : List TypeExpr) (e d : ℕ) (zs : List Sym) → Found (TailUpto l) InType xs (ts, e, d) zs → Found (TailUpto l) InType start (acc ++ ts, max own e, max depth d) zs

pub tail_start : (l : Limits) (start : List Sym) → TailSoFar l [] 0 0 start start
tail_start l start ts e d zs f =
    let p : e ≡ max 0 e = omega arith in
    let q : d ≡ max 0 d = omega arith in
    subst (λ (n : ℕ). Found (TailUpto l) InType start (ts, n, max 0 d) zs) p (subst (λ (n : ℕ). Found (TailUpto l) InType start (ts, e, n) zs) q f)

pub tail_on : {r : Counted (List TypeExpr)} {ys : List Sym} (l : Limits) (acc : List TypeExpr) (own depth : ℕ) (start xs : List Sym) → TailSoFar l acc own depth start xs
    → Found (NextUpto l) InElement xs r ys → TailSoFar l (acc ++ r.0) (max own r.1) (max depth r.2) start ys
tail_on {r = r} l acc own depth start xs all g ts e d zs f =
    let p : max own (max r.1 e) ≡ max (max own r.1) e = omega arith in
    let q : max depth (max r.2 d) ≡ max (max depth r.2) d = omega arith in
    subst (λ (v : List TypeExpr). Found (TailUpto l) InType start (v, max (max own r.1) e, max (max depth r.2) d) zs) (sym (append_assoc acc r.0 ts))
    (subst (λ (n : ℕ). Found (TailUpto l) InType start (acc ++ (r.0 ++ ts), n, max (max depth r.2) d) zs) p
    (subst (λ (n : ℕ). Found (TailUpto l) InType start (acc ++ (r.0 ++ ts), max own (max r.1 e), n) zs) q (all (r.0 ++ ts) (max r.1 e) (max r.2 d) zs (tail_more l g f))))

pub tail_end : (l : Limits) (acc : List TypeExpr) (own depth : ℕ) (start xs : List Sym) → TailSoFar l acc own depth start xs → Lacks (NextUpto l) xs → Found (TailUpto l) InType start (acc, own, depth) xs
tail_end l acc own depth start xs all h =
    let p : max own 0 ≡ own = omega arith in
    let q : max depth 0 ≡ depth = omega arith in
    subst (λ (v : List TypeExpr). Found (TailUpto l) InType start (v, own, depth) xs) (append-nil acc)
    (subst (λ (n : ℕ). Found (TailUpto l) InType start (acc ++ [], n, depth) xs) p
    (subst (λ (n : ℕ). Found (TailUpto l) InType start (acc ++ [], max own 0, n) xs) q (all [] 0 0 xs (tail_stop l xs h))))

pub next_falls : {r : Counted (List TypeExpr)} {xs ys : List Sym} (l : Limits) → Found (NextUpto l) InElement xs r ys → length ys < length xs
next_falls {ys = ys} l f = omega (arith, ap length f.whole, length-append f.front ys, ap length f.derives.2)

-- ---- a union

-- where an element begins, whatever follows it
pub element_start : {a : List Sym} {of : TypeExpr} {own depth : ℕ} (zs : List Sym) → IsElement a of own depth → start_of (a ++ zs) ≡ start_of a
element_start zs (plain_element {xs = p} {ys = b} q r) = ap start_of (append_assoc p b zs) ∙ atom_start (b ++ zs) q ∙ sym (atom_start b q)
element_start zs (read_only_element s o q r) = refl

-- one element alone: nothing goes on with it in a union
pub union_one : {of : TypeExpr} {own depth : ℕ} {xs ys : List Sym} (l : Limits) → Found (ElementUpto l l) InElement xs (of, own, depth) ys
    → (part_count of own < l.own → part_count of depth < l.depth → Lacks (NextUpto (inside l)) ys) → Found (UnionUpto l) InType xs (of, own, depth) ys
union_one {of = of} {own = own} {depth = depth} {xs = xs} {ys = ys} l f h = record {
  front = f.front;
  whole = f.whole;
  derives = (one_element f.derives.0, one_fits l of own depth f.derives.1);
  longest = λ a y vs d w. go vs d.0 d.1 w;
}
  where
    go : {u : TypeExpr} {a : List Sym} {e d : ℕ} (vs : List Sym) → IsUnion a u e d → Fits l e d → xs ≡ a ++ vs → Ends {X = Counted TypeExpr} InType (of, own, depth) ys (u, e, d) vs
    go vs (one_element {xs = p} {of = u} {own = e} {depth = d} q) fit w = elim (f.longest p (u, e, d) vs (q, fits_one l u e d fit) w) [
      | inl o ↦ inl o
      | inr o ↦ inr (o.0, wider vs o.1)
    ]
    go vs (several_elements bar {xs = p} {ys = b} {zs = c} {of = u} {next = v} {own = e} {depth = d} {next_own = e'} {next_depth = d'} q r s) fit w =
        let first : Fits l e d = (part_below l.own e u (omega (arith, fit.0)), part_below l.depth d u (omega (arith, fit.1))) in
        let i = exact f p (u, e, d) (Mark m.Bar bar ∷ b ++ (c ++ vs)) (q, fits_one l u e d first) (w ∙ append_three p (Mark m.Bar bar ∷ b) c vs) (λ n. let x : false ≡ true = n in cc) in
        let own_first : part_count of own < l.own = subst (λ (x : Counted TypeExpr). part_count x.0 x.1 < l.own) (sym i.0) (omega (arith, fit.0)) in
        let depth_first : part_count of depth < l.depth = subst (λ (x : Counted TypeExpr). part_count x.0 x.2 < l.depth) (sym i.0) (omega (arith, fit.1)) in
        let none = h own_first depth_first in
        absurd (none.none (Mark m.Bar bar ∷ b) (parts_of v, part_count v e', part_count v d') (c ++ vs) (in_next (inside l) bar r (omega (arith, fit.0)) (omega (arith, fit.1))) i.1)

abbrev together : ℕ → TypeExpr → ℕ → ℕ → Counted (List TypeExpr) → Counted (List TypeExpr) → Counted TypeExpr
together at of own depth next rest =
    (t.Union at (parts_of of ++ next.0 ++ rest.0), max (part_count of own) (max next.1 rest.1) + 1, max (part_count of depth) (max next.2 rest.2) + 1)

union_of : {a b c : List Sym} {of : TypeExpr} {own depth rest_own rest_depth : ℕ} {ts : List TypeExpr} (l : Limits) (r : Counted (List TypeExpr)) → IsElement a of own depth → NextUpto l b r
    → IsTail c ts rest_own rest_depth → IsUnion (a ++ b ++ c) (t.Union (start_of a) (parts_of of ++ r.0 ++ ts)) (max (part_count of own) (max r.1 rest_own) + 1) (max (part_count of depth) (max r.2 rest_depth) + 1)
union_of {a = a} {b = b} {c = c} {of = of} {own = own} {depth = depth} {rest_own = e} {rest_depth = d} {ts = ts} l r q n s =
    let p = n.3 in
    let made = several_elements n.0 q p.3 s in
    subst (λ v. IsUnion (a ++ v ++ c) (t.Union (start_of a) (parts_of of ++ r.0 ++ ts)) (max (part_count of own) (max r.1 e) + 1) (max (part_count of depth) (max r.2 d) + 1)) (sym n.2)
    (subst (λ (x : List TypeExpr). IsUnion (a ++ Mark m.Bar n.0 ∷ n.1 ++ c) (t.Union (start_of a) (parts_of of ++ x ++ ts)) (max (part_count of own) (max r.1 e) + 1) (max (part_count of depth) (max r.2 d) + 1)) (sym p.4)
    (subst (λ (x : ℕ). IsUnion (a ++ Mark m.Bar n.0 ∷ n.1 ++ c) (t.Union (start_of a) (parts_of of ++ parts_of p.0 ++ ts)) (max (part_count of own) (max x e) + 1) (max (part_count of depth) (max r.2 d) + 1)) (sym p.5)
    (subst (λ (x : ℕ). IsUnion (a ++ Mark m.Bar n.0 ∷ n.1 ++ c) (t.Union (start_of a) (parts_of of ++ parts_of p.0 ++ ts)) (max (part_count of own) (max (part_count p.0 p.1) e) + 1) (max (part_count of depth) (max x d) + 1)) (sym p.6) made)))

pub union_several : {of : TypeExpr} {own depth : ℕ} {next rest : Counted (List TypeExpr)} {xs ys zs vs : List Sym} (l : Limits) (at : ℕ) → at ≡ start_of xs
    → Found (ElementUpto l l) InElement xs (of, own, depth) ys → part_count of own < l.own → part_count of depth < l.depth → Found (NextUpto (inside l)) InElement ys next zs → Found (TailUpto (inside l)) InType zs rest vs
    → Found (UnionUpto l) InType xs (t.Union at (parts_of of ++ next.0 ++ rest.0), max (part_count of own) (max next.1 rest.1) + 1, max (part_count of depth) (max next.2 rest.2) + 1) vs
union_several {of = of} {own = own} {depth = depth} {next = next} {rest = rest} {xs = xs} {ys = ys} {zs = zs} {vs = vs} l at place f h k g r = record {
  front = f.front ++ g.front ++ r.front;
  whole = f.whole ∙ ap (λ v. f.front ++ v) (g.whole ∙ ap (λ v. g.front ++ v) r.whole ∙ sym (append_assoc g.front r.front vs))
      ∙ sym (append_assoc f.front (g.front ++ r.front) vs) ∙ ap (λ v. v ++ vs) (sym (append_assoc f.front g.front r.front));
  derives = (
    subst (λ (o : ℕ). IsUnion (f.front ++ g.front ++ r.front) (t.Union o (parts_of of ++ next.0 ++ rest.0)) (max (part_count of own) (max next.1 rest.1) + 1) (max (part_count of depth) (max next.2 rest.2) + 1))
        (sym (place ∙ ap start_of f.whole ∙ element_start ys f.derives.0)) (union_of (inside l) next f.derives.0 g.derives r.derives.0),
    (omega (arith, h, g.derives.3.7.0, r.derives.1.0), omega (arith, k, g.derives.3.7.1, r.derives.1.1)),
  );
  longest = λ a y us d w. go us d.0 d.1 w;
}
  where
    -- what follows the first element begins with a bar
    bar : ys ≡ Mark m.Bar g.derives.0 ∷ g.derives.1 ++ zs
    bar = g.whole ∙ ap (λ v. v ++ zs) g.derives.2

    go : {u : TypeExpr} {a : List Sym} {e d : ℕ} (us : List Sym) → IsUnion a u e d → Fits l e d → xs ≡ a ++ us
        → Ends {X = Counted TypeExpr} InType (together at of own depth next rest) vs (u, e, d) us
    go us (one_element {xs = p} {of = u} {own = e} {depth = d} q) fit w = elim (f.longest p (u, e, d) us (q, fits_one l u e d fit) w) [
      | inl o ↦ inr (omega (arith, shorter r, ap length bar, length-append g.derives.1 zs, ap length o.1), starts_by InType (sym o.1 ∙ bar) refl)
      | inr o ↦ inr (omega (arith, o.0, shorter r, shorter g), wider us o.1)
    ]
    go us (several_elements o {xs = p} {ys = b} {zs = c} {of = u} {next = v} {rest = ws} {own = e} {depth = d} {next_own = e'} {next_depth = d'} {rest_own = x} {rest_depth = y} q s z) fit w =
        let first : Fits l e d = (part_below l.own e u (omega (arith, fit.0)), part_below l.depth d u (omega (arith, fit.1))) in
        let front : xs ≡ p ++ (Mark m.Bar o ∷ b ++ (c ++ us)) = w ∙ append_three p (Mark m.Bar o ∷ b) c us in
        let i = exact f p (u, e, d) (Mark m.Bar o ∷ b ++ (c ++ us)) (q, fits_one l u e d first) front (λ n. let x : false ≡ true = n in cc) in
        let here : at ≡ start_of p = place ∙ ap start_of front ∙ element_start (Mark m.Bar o ∷ b ++ (c ++ us)) q in
        elim (g.longest (Mark m.Bar o ∷ b) (parts_of v, part_count v e', part_count v d') (c ++ us) (in_next (inside l) o s (omega (arith, fit.0)) (omega (arith, fit.1))) i.1) [
          | inl n ↦ elim (r.longest c (ws, x, y) us (z, (omega (arith, fit.0), omega (arith, fit.1))) n.1) [
            | inl j ↦ inl (same_union here i.0 n.0 j.0, j.1)
            | inr j ↦ inr j
          ]
          | inr n ↦
              let j = tail_empty us z n.1 in
              inr (omega (arith, n.0, shorter r, ap length j, length-append c us), wider us (subst (λ x. Starts InElement (x ++ us)) j n.1))
        ]
      where
        same_union : {at o : ℕ} {of u : TypeExpr} {own depth e d : ℕ} {n n' r r' : Counted (List TypeExpr)} → at ≡ o → ◌≡◌ {A = Counted TypeExpr} (of, own, depth) (u, e, d) → n ≡ n' → r ≡ r'
            → together at of own depth n r ≡ together o u e d n' r'
        same_union {o = o} {of = of} {u = u} {own = own} {depth = depth} {e = e} {d = d} {n = n} {r = r} i p q x =
            ap (λ (at : ℕ). together at of own depth n r) i
            ∙ ap (λ (y : Counted TypeExpr). together o y.0 y.1 y.2 n r) p
            ∙ ap_both (λ (n r : Counted (List TypeExpr)). together o u e d n r) q x

pub union_lacks : {xs : List Sym} (l : Limits) → Lacks (ElementUpto l l) xs → Lacks (UnionUpto l) xs
union_lacks {xs = xs} l f = record { none = λ a y zs d w. go zs d.0 d.1 w }
  where
    go : {u : TypeExpr} {a : List Sym} {e d : ℕ} (us : List Sym) → IsUnion a u e d → Fits l e d → xs ≡ a ++ us → ⊥
    go us (one_element {xs = p} {of = u} {own = e} {depth = d} q) fit w = f.none p (u, e, d) us (q, fits_one l u e d fit) w
    go us (several_elements o {xs = p} {ys = b} {zs = c} {of = u} {own = e} {depth = d} q s z) fit w =
        let first : Fits l e d = (part_below l.own e u (omega (arith, fit.0)), part_below l.depth d u (omega (arith, fit.1))) in
        f.none p (u, e, d) (Mark m.Bar o ∷ b ++ (c ++ us)) (q, fits_one l u e d first) (w ∙ append_three p (Mark m.Bar o ∷ b) c us)

pub counted_as : {X : Type 0} {x y : X} {a b c d : ℕ} → x ≡ y → a ≡ b → c ≡ d → ◌≡◌ {A = Counted X} (x, a, c) (y, b, d)
counted_as {X = X} {y = y} {a = a} {c = c} p q r =
    ap (λ (z : X). let v : Counted X = (z, a, c) in v) p ∙ ap_both (λ (i j : ℕ). let v : Counted X = (y, i, j) in v) q r

-- The longest element of a union at the front of a list.
use Rattle.std.proofs.Common.{◌≡◌, ℕ, zero, suc, ◌+◌, ◌-◌, ◌≤◌, ◌<◌, min, Bool, true, false, List, [], ◌∷◌, ◌++◌, length, refl, sym, ◌∙◌, ap, subst, inl, inr, arith, append_assoc, length-append}
use Rattle.std.specs.Prelude.{if◌then◌else◌}
use Rattle.tb_tree.specs.declared.marks.Mark.TheVariants as m
use Rattle.tb_tree.specs.declared.words.Word.TheVariants as w
use Rattle.tb_tree.specs.declared.types.TypeExpr.{TypeExpr}
use Rattle.tb_tree.specs.declared.types.TypeExpr.TheVariants as t
use Rattle.tb_parse_type.specs.declared.reader.Limits.{Limits}
use Rattle.tb_tree.specs.Sym.{Sym, Mark}
use Rattle.tb_tree.specs.Longest.{Found, Lacks, Ends, Starts, Never}
use Rattle.tb_tree.specs.Shapes.{word, start_of}
use Rattle.tb_tree.specs.Types.{IsAtom, IsBrackets, no_brackets, brackets, IsElement, plain_element, read_only_element, arrays}
use Rattle.tb_tree.proofs.Ends.{exact, shorter, never, starts_by, ap_both}
use Rattle.tb_parse_type.specs.Rules.{Counted, Fits, IsBelow, limits_of, is_union, is_union_at, IsReadOnly, read_only_array, AtomUpto, BracketsUpto, ElementUpto, ReadOnlyUpto, InElement}
use Rattle.tb_parse_type.proofs.Atoms.{AtomView, single, minus, parens, braces, view, mark_not_single, atom_starts, atom_start}

-- ---- brackets

pub brackets_step : {k : ℕ} {xs ys : List Sym} (o c low n : ℕ) → n ≡ suc low → Found (BracketsUpto low) InElement xs k ys
    → Found (BracketsUpto n) InElement (Mark m.OpenBracket o ∷ Mark m.CloseBracket c ∷ xs) (suc k) ys
brackets_step {k = k} {xs = xs} {ys = ys} o c low n i f = record {
  front = Mark m.OpenBracket o ∷ Mark m.CloseBracket c ∷ f.front;
  whole = ap (λ v. Mark m.OpenBracket o ∷ Mark m.CloseBracket c ∷ v) f.whole;
  derives = (brackets o c f.derives.0, omega (arith, f.derives.1));
  longest = λ a y zs d w. go zs d.0 d.1 w;
}
  where
    go : {y : ℕ} {a : List Sym} (zs : List Sym) → IsBrackets y a → y ≤ n → Mark m.OpenBracket o ∷ Mark m.CloseBracket c ∷ xs ≡ a ++ zs → Ends {X = ℕ} InElement (suc k) ys y zs
    go zs no_brackets h w = inr (omega (arith, shorter f, ap length w), starts_by InElement (sym w) refl)
    go zs (brackets p q {n = j} {xs = b} r) h w = elim (f.longest b j zs (r, omega (arith, h)) cc) [
      | inl e ↦ inl (ap suc e.0, e.1)
      | inr e ↦ inr e
    ]

-- no more brackets, or no room for more
pub brackets_stop : (n : ℕ) (xs : List Sym) → (1 ≤ n → (o c : ℕ) (zs : List Sym) → xs ≡ Mark m.OpenBracket o ∷ Mark m.CloseBracket c ∷ zs → ⊥) → Found (BracketsUpto n) InElement xs 0 xs
brackets_stop n xs h = record {
  front = [];
  whole = refl;
  derives = (no_brackets, omega arith);
  longest = λ a y zs d w. go zs d.0 d.1 w;
}
  where
    go : {y : ℕ} {a : List Sym} (zs : List Sym) → IsBrackets y a → y ≤ n → xs ≡ a ++ zs → Ends {X = ℕ} InElement 0 xs y zs
    go zs no_brackets l w = inl (refl, w)
    go zs (brackets p q {xs = b} r) l w = absurd (h (omega (arith, l)) p q (b ++ zs) w)

-- ---- limits

arrays_are_no_union : (k at : ℕ) (of : TypeExpr) → is_union (arrays at (suc k) of) ≡ false
arrays_are_no_union zero at of = ap is_union_at (t.outs-Array at false of)
arrays_are_no_union (suc k) at of = arrays_are_no_union k at (t.Array at false of)

abbrev chosen : Bool → Limits → Limits → Limits
chosen b flat l = if b then flat else l

-- an atom with so many brackets is within the limits, and the other way round
element_fits : (l flat : Limits) (at own depth : ℕ) (of : TypeExpr) (k : ℕ) → Fits flat own depth → (is_union of ≡ false → Fits l own depth) → k ≤ min (l.own - own) (l.depth - depth)
    → Fits (limits_of l flat (arrays at k of)) (own + k) (depth + k)
element_fits l flat at own depth of zero f h i = go (is_union of) refl
  where
    go : (b : Bool) → is_union of ≡ b → Fits (limits_of l flat of) (own + 0) (depth + 0)
    go true e = subst (λ b. Fits (chosen b flat l) (own + 0) (depth + 0)) (sym e) (omega (arith, f.0), omega (arith, f.1))
    go false e = let g = h e in subst (λ b. Fits (chosen b flat l) (own + 0) (depth + 0)) (sym e) (omega (arith, g.0), omega (arith, g.1))
element_fits l flat at own depth of (suc k) f h i =
    subst (λ b. Fits (chosen b flat l) (own + suc k) (depth + suc k)) (sym (arrays_are_no_union k at of)) (omega (arith, i), omega (arith, i))

atom_fits : (l flat : Limits) (at own depth : ℕ) (of : TypeExpr) (k : ℕ) → IsBelow l flat → Fits (limits_of l flat (arrays at k of)) (own + k) (depth + k)
    → Fits flat own depth × (k ≤ min (l.own - own) (l.depth - depth)) × (is_union of ≡ false → Fits l own depth)
atom_fits l flat at own depth of zero below f = go (is_union of) refl
  where
    go : (b : Bool) → is_union of ≡ b → Fits flat own depth × (0 ≤ min (l.own - own) (l.depth - depth)) × (is_union of ≡ false → Fits l own depth)
    go true e =
        let g = subst (λ b. Fits (chosen b flat l) (own + 0) (depth + 0)) e f in
        ((omega (arith, g.0), omega (arith, g.1)), omega arith, λ n. let i : true ≡ false = sym e ∙ n in cc)
    go false e =
        let g = subst (λ b. Fits (chosen b flat l) (own + 0) (depth + 0)) e f in
        ((omega (arith, g.0, below.0), omega (arith, g.1, below.1)), omega arith, λ n. (omega (arith, g.0), omega (arith, g.1)))
atom_fits l flat at own depth of (suc k) below f =
    let g = subst (λ b. Fits (chosen b flat l) (own + suc k) (depth + suc k)) (arrays_are_no_union k at of) f in
    ((omega (arith, g.0, below.0), omega (arith, g.1, below.1)), omega (arith, g.0, g.1), λ n. (omega (arith, g.0), omega (arith, g.1)))

-- a read-only array is read flat by nothing
array_fits : (l flat : Limits) (at : ℕ) (of : TypeExpr) (own depth : ℕ) → Fits l own depth → Fits (limits_of l flat (t.Array at true of)) own depth
array_fits l flat at of own depth f = subst (λ b. Fits (chosen b flat l) own depth) (sym (ap is_union_at (t.outs-Array at true of))) f

fits_array : (l flat : Limits) (at : ℕ) (of : TypeExpr) (own depth : ℕ) → Fits (limits_of l flat (t.Array at true of)) own depth → Fits l own depth
fits_array l flat at of own depth f = subst (λ b. Fits (chosen b flat l) own depth) (ap is_union_at (t.outs-Array at true of)) f

-- ---- an atom, and brackets

-- where a list begins that begins with an atom
begins : {a : List Sym} {u : TypeExpr} {own depth : ℕ} (xs zs : List Sym) → IsAtom a u own depth → xs ≡ a ++ zs → start_of xs ≡ start_of a
begins xs zs q e = ap start_of e ∙ atom_start zs q

-- the same readings of the parts make the same reading
same_arrays : {of u : TypeExpr} {own depth e d k j at o : ℕ} → ◌≡◌ {A = Counted TypeExpr} (of, own, depth) (u, e, d) → k ≡ j → at ≡ o
    → ◌≡◌ {A = Counted TypeExpr} (arrays at k of, own + k, depth + k) (arrays o j u, e + j, d + j)
same_arrays {u = u} {e = e} {d = d} {k = k} {j = j} {at = at} {o = o} p q i =
    ap (λ (r : Counted TypeExpr). let x : Counted TypeExpr = (arrays at k r.0, r.1 + k, r.2 + k) in x) p
    ∙ ap (λ (j : ℕ). let x : Counted TypeExpr = (arrays at j u, e + j, d + j) in x) q
    ∙ ap (λ (o : ℕ). let x : Counted TypeExpr = (arrays o j u, e + j, d + j) in x) i

pub element_plain : {of : TypeExpr} {own depth k : ℕ} {xs ys zs : List Sym} (l flat : Limits) (at : ℕ) → IsBelow l flat → at ≡ start_of xs → Found (AtomUpto flat) Never xs (of, own, depth) ys
    → (is_union of ≡ false → Fits l own depth) → Found (BracketsUpto (min (l.own - own) (l.depth - depth))) InElement ys k zs → Lacks (ReadOnlyUpto l) xs
    → Found (ElementUpto l flat) InElement xs (arrays at k of, own + k, depth + k) zs
element_plain {of = of} {own = own} {depth = depth} {k = k} {xs = xs} {ys = ys} {zs = zs} l flat at below place f fits g h = record {
  front = f.front ++ g.front;
  whole = f.whole ∙ ap (λ v. f.front ++ v) g.whole ∙ sym (append_assoc f.front g.front zs);
  derives = (
    subst (λ o. IsElement (f.front ++ g.front) (arrays o k of) (own + k) (depth + k)) (sym (place ∙ begins xs ys f.derives.0 f.whole)) (plain_element f.derives.0 g.derives.0),
    element_fits l flat at own depth of k f.derives.1 fits g.derives.1,
  );
  longest = λ a y vs d w. go vs d.0 d.1 w;
}
  where
    go : {a : List Sym} {u : TypeExpr} {e d : ℕ} (vs : List Sym) → IsElement a u e d → Fits (limits_of l flat u) e d → xs ≡ a ++ vs
        → Ends {X = Counted TypeExpr} InElement (arrays at k of, own + k, depth + k) zs (u, e, d) vs
    go vs (plain_element {xs = p} {ys = b} {of = u} {own = e} {depth = d} {n = j} q r) fit w =
        let n = atom_fits l flat (start_of p) e d u j below fit in
        let v : xs ≡ p ++ (b ++ vs) = w ∙ append_assoc p b vs in
        let i = exact f p (u, e, d) (b ++ vs) (q, n.0) v (never (b ++ vs)) in
        let room : j ≤ min (l.own - own) (l.depth - depth) =
        subst (λ (r : Counted TypeExpr). j ≤ min (l.own - r.1) (l.depth - r.2)) (sym i.0) n.1 in
        elim (g.longest b j vs (r, room) i.1) [
          | inl o ↦ inl (same_arrays i.0 o.0 (place ∙ begins xs (b ++ vs) q v), o.1)
          | inr o ↦ inr o
        ]
    go vs (read_only_element s o {xs = c} {of = v} {own = e} {depth = d} {n = n} q r) fit w =
        absurd (h.none _ (_, _, _) vs (read_only_array s o q r, fits_array l flat o (arrays (start_of c) n v) (e + suc n) (d + suc n) fit) w)

pub element_lacks : {xs : List Sym} (l flat : Limits) → IsBelow l flat → Lacks (AtomUpto flat) xs → Lacks (ReadOnlyUpto l) xs → Lacks (ElementUpto l flat) xs
element_lacks {xs = xs} l flat below f h = record { none = λ a y zs d w. go zs d.0 d.1 w }
  where
    go : {a : List Sym} {u : TypeExpr} {e d : ℕ} (vs : List Sym) → IsElement a u e d → Fits (limits_of l flat u) e d → xs ≡ a ++ vs → ⊥
    go vs (plain_element {xs = p} {ys = b} {of = u} {own = e} {depth = d} {n = j} q r) fit w =
        f.none p (u, e, d) (b ++ vs) (q, (atom_fits l flat (start_of p) e d u j below fit).0) (w ∙ append_assoc p b vs)
    go vs (read_only_element s o {xs = c} {of = v} {own = e} {depth = d} {n = n} q r) fit w =
        h.none _ (_, _, _) vs (read_only_array s o q r, fits_array l flat o (arrays (start_of c) n v) (e + suc n) (d + suc n) fit) w

-- an atom that is deeper than a part may be, and is not read flat
pub element_lacks_deep : {of : TypeExpr} {own depth : ℕ} {xs ys : List Sym} (l flat : Limits) → IsBelow l flat → Found (AtomUpto flat) Never xs (of, own, depth) ys → is_union of ≡ false
    → (Fits l own depth → ⊥) → Lacks (ReadOnlyUpto l) xs → Lacks (ElementUpto l flat) xs
element_lacks_deep {of = of} {own = own} {depth = depth} {xs = xs} l flat below f one deep h = record { none = λ a y zs d w. go zs d.0 d.1 w }
  where
    go : {a : List Sym} {u : TypeExpr} {e d : ℕ} (vs : List Sym) → IsElement a u e d → Fits (limits_of l flat u) e d → xs ≡ a ++ vs → ⊥
    go vs (plain_element {xs = p} {ys = b} {of = u} {own = e} {depth = d} {n = j} q r) fit w =
        let n = atom_fits l flat (start_of p) e d u j below fit in
        let i = exact f p (u, e, d) (b ++ vs) (q, n.0) (w ∙ append_assoc p b vs) (never (b ++ vs)) in
        deep (subst (λ (r : Counted TypeExpr). is_union r.0 ≡ false → Fits l r.1 r.2) (sym i.0) n.2 one)
    go vs (read_only_element s o {xs = c} {of = v} {own = e} {depth = d} {n = n} q r) fit w =
        h.none _ (_, _, _) vs (read_only_array s o q r, fits_array l flat o (arrays (start_of c) n v) (e + suc n) (d + suc n) fit) w

-- ---- the word `readonly`

pub read_only_lacks_word : (l : Limits) (xs : List Sym) → ((s : List ℕ) (o : ℕ) (zs : List Sym) → xs ≡ word w.Readonly s o ∷ zs → ⊥) → Lacks (ReadOnlyUpto l) xs
read_only_lacks_word l xs h = record { none = λ a y zs d w. go zs d.0 w }
  where
    go : {a : List Sym} {u : TypeExpr} {e d : ℕ} (vs : List Sym) → IsReadOnly a u e d → xs ≡ a ++ vs → ⊥
    go vs (read_only_array s o {xs = p} {ys = b} q r) w = h s o (p ++ b ++ vs) w

-- what follows the word
after_word : {ys : List Sym} {s : List ℕ} {o : ℕ} (z : List ℕ) (i : ℕ) (a b vs : List Sym) → word w.Readonly s o ∷ ys ≡ (word w.Readonly z i ∷ a ++ b) ++ vs
    → (o ≡ i) × (ys ≡ a ++ (b ++ vs))
after_word {ys = ys} {o = o} z i a b vs w = let e : ys ≡ (a ++ b) ++ vs = cc in (cc, e ∙ append_assoc a b vs)

pub read_only_lacks_atom : {ys : List Sym} (l : Limits) (s : List ℕ) (o : ℕ) → Lacks (AtomUpto l) ys → Lacks (ReadOnlyUpto l) (word w.Readonly s o ∷ ys)
read_only_lacks_atom {ys = ys} l s o f = record { none = λ a y zs d w. go zs d.0 d.1 w }
  where
    go : {a : List Sym} {u : TypeExpr} {e d : ℕ} (vs : List Sym) → IsReadOnly a u e d → Fits l e d → word w.Readonly s o ∷ ys ≡ a ++ vs → ⊥
    go vs (read_only_array z i {xs = p} {ys = b} {of = u} {own = e} {depth = d} q r) fit w =
        f.none p (u, e, d) (b ++ vs) (q, (omega (arith, fit.0), omega (arith, fit.1))) (after_word z i p b vs w).1

-- a read-only array at the front has this atom and these brackets
read_only_parts : {of : TypeExpr} {own depth k : ℕ} {ys zs vs : List Sym} (l : Limits) (s : List ℕ) (o : ℕ) → Found (AtomUpto l) Never ys (of, own, depth) zs
    → Found (BracketsUpto (min (l.own - own) (l.depth - depth))) InElement zs k vs → (j e d i : ℕ) (z : List ℕ) (p b us : List Sym) (u : TypeExpr) → IsAtom p u e d → IsBrackets (suc j) b
    → Fits l (e + suc j) (d + suc j) → word w.Readonly s o ∷ ys ≡ (word w.Readonly z i ∷ p ++ b) ++ us
    → ◌≡◌ {A = Counted TypeExpr} (of, own, depth) (u, e, d) × (o ≡ i) × (start_of ys ≡ start_of p) × Ends {X = ℕ} InElement k vs (suc j) us
read_only_parts {own = own} {depth = depth} {ys = ys} l s o f g j e d i z p b us u q r fit w =
    let v = after_word z i p b us w in
    let same = exact f p (u, e, d) (b ++ us) (q, (omega (arith, fit.0), omega (arith, fit.1))) v.1 (never (b ++ us)) in
    let here : suc j ≤ min (l.own - e) (l.depth - d) = omega (arith, fit.0, fit.1) in
    let room : suc j ≤ min (l.own - own) (l.depth - depth) =
    subst (λ (r : Counted TypeExpr). suc j ≤ min (l.own - r.1) (l.depth - r.2)) (sym same.0) here in
    (same.0, v.0, begins ys (b ++ us) q v.1, g.longest b (suc j) us (r, room) same.1)

pub read_only_lacks_brackets : {of : TypeExpr} {own depth : ℕ} {ys zs vs : List Sym} (l : Limits) (s : List ℕ) (o : ℕ) → Found (AtomUpto l) Never ys (of, own, depth) zs
    → Found (BracketsUpto (min (l.own - own) (l.depth - depth))) InElement zs 0 vs → Lacks (ReadOnlyUpto l) (word w.Readonly s o ∷ ys)
read_only_lacks_brackets {ys = ys} {zs = us} {vs = vs} l s o f g = record { none = λ a y zs d w. go zs d.0 d.1 w }
  where
    nothing : {j : ℕ} {b : List Sym} → IsBrackets j b → j ≡ 0 → b ≡ []
    nothing no_brackets e = refl
    nothing (brackets p q r) e = absurd (omega (arith, e))

    go : {a : List Sym} {u : TypeExpr} {e d : ℕ} (zs : List Sym) → IsReadOnly a u e d → Fits l e d → word w.Readonly s o ∷ ys ≡ a ++ zs → ⊥
    go zs (read_only_array z i {xs = p} {ys = b} {of = u} {own = e} {depth = d} {n = j} q r) fit w =
        let v = after_word z i p b zs w in
        let same = exact f p (u, e, d) (b ++ zs) (q, (omega (arith, fit.0), omega (arith, fit.1))) v.1 (never (b ++ zs)) in
        elim (read_only_parts l s o f g j e d i z p b zs u q r fit w).3 [
          | inl n ↦ omega (arith, n.0)
          | inr n ↦ omega (arith, n.0, ap length g.whole, length-append g.front vs, ap length (nothing g.derives.0 refl), ap length same.1, length-append b zs)
        ]

same_read_only : {of u : TypeExpr} {own depth e d k j at o p q : ℕ} → ◌≡◌ {A = Counted TypeExpr} (of, own, depth) (u, e, d) → suc k ≡ suc j → at ≡ o → p ≡ q
    → ◌≡◌ {A = Counted TypeExpr} (t.Array at true (arrays p k of), own + suc k, depth + suc k) (t.Array o true (arrays q j u), e + suc j, d + suc j)
same_read_only {u = u} {e = e} {d = d} {k = k} {j = j} {at = at} {p = p} x q i n =
    let same : k ≡ j = omega (arith, q) in
    ap (λ (r : Counted TypeExpr). let y : Counted TypeExpr = (t.Array at true (arrays p k r.0), r.1 + suc k, r.2 + suc k) in y) x
    ∙ ap (λ (j : ℕ). let y : Counted TypeExpr = (t.Array at true (arrays p j u), e + suc j, d + suc j) in y) same
    ∙ ap_both (λ (o q : ℕ). let y : Counted TypeExpr = (t.Array o true (arrays q j u), e + suc j, d + suc j) in y) i n

pub read_only_found : {of inner : TypeExpr} {own depth : ℕ} {ys zs vs : List Sym} (l : Limits) (s : List ℕ) (o k : ℕ) → 0 < k → Found (AtomUpto l) Never ys (of, own, depth) zs
    → Found (BracketsUpto (min (l.own - own) (l.depth - depth))) InElement zs k vs → inner ≡ arrays (start_of ys) (k - 1) of
    → Found (ReadOnlyUpto l) InElement (word w.Readonly s o ∷ ys) (t.Array o true inner, own + k, depth + k) vs
read_only_found {of = of} {inner = inner} {own = own} {depth = depth} {ys = ys} {zs = zs} {vs = vs} l s o k some f g e = record {
  front = word w.Readonly s o ∷ f.front ++ g.front;
  whole = ap (λ v. word w.Readonly s o ∷ v) (f.whole ∙ ap (λ v. f.front ++ v) g.whole ∙ sym (append_assoc f.front g.front vs));
  derives = (made, (omega (arith, g.derives.1, some), omega (arith, g.derives.1, some)));
  longest = λ a y us d w. go us d.0 d.1 w;
}
  where
    low : ℕ
    low = k - 1

    is : k ≡ suc (k - 1)
    is = omega (arith, some)

    made : IsReadOnly (word w.Readonly s o ∷ f.front ++ g.front) (t.Array o true inner) (own + k) (depth + k)
    made =
        let b = subst (λ n. IsBrackets n g.front) is g.derives.0 in
        subst (λ n. IsReadOnly (word w.Readonly s o ∷ f.front ++ g.front) (t.Array o true inner) (own + n) (depth + n)) (sym is)
        (subst (λ x. IsReadOnly (word w.Readonly s o ∷ f.front ++ g.front) (t.Array o true x) (own + suc (k - 1)) (depth + suc (k - 1)))
        (ap (λ n. arrays n (k - 1) of) (sym (begins ys zs f.derives.0 f.whole)) ∙ sym e) (read_only_array s o f.derives.0 b))

    whole_as : ◌≡◌ {A = Counted TypeExpr} (t.Array o true inner, own + k, depth + k) (t.Array o true (arrays (start_of ys) (k - 1) of), own + suc (k - 1), depth + suc (k - 1))
    whole_as =
        ap (λ (x : TypeExpr). let y : Counted TypeExpr = (t.Array o true x, own + k, depth + k) in y) e
        ∙ ap (λ (n : ℕ). let y : Counted TypeExpr = (t.Array o true (arrays (start_of ys) (k - 1) of), own + n, depth + n) in y) is

    go : {a : List Sym} {u : TypeExpr} {e d : ℕ} (us : List Sym) → IsReadOnly a u e d → Fits l e d → word w.Readonly s o ∷ ys ≡ a ++ us
        → Ends {X = Counted TypeExpr} InElement (t.Array o true inner, own + k, depth + k) vs (u, e, d) us
    go us (read_only_array z i {xs = p} {ys = b} {of = u} {own = i'} {depth = d} {n = j} q r) fit w =
        let n = read_only_parts l s o f g j i' d i z p b us u q r fit w in
        elim n.3 [
          | inl x ↦ inl (whole_as ∙ same_read_only n.0 (sym is ∙ x.0) n.1 n.2, x.1)
          | inr x ↦ inr x
        ]

-- a read-only array is an element, and a longer one than the name `readonly`

-- the word itself is the only atom that begins with it
word_alone : {p : List Sym} {u : TypeExpr} {e d : ℕ} (s : List ℕ) (o : ℕ) (ys zs : List Sym) → AtomView p u e d → word w.Readonly s o ∷ ys ≡ p ++ zs → ys ≡ zs
word_alone s o ys zs (single f) w = cc
word_alone s o ys zs (minus digits p q f) w = cc
word_alone s o ys zs (parens p q f) w = cc
word_alone s o ys zs (braces p q f) w = cc

-- no atom begins with a bracket
no_bracket : {p : List Sym} {u : TypeExpr} {e d : ℕ} (o : ℕ) (ys zs : List Sym) → AtomView p u e d → Mark m.OpenBracket o ∷ ys ≡ p ++ zs → ⊥
no_bracket o ys zs (single {s = v} f) w = mark_not_single v m.OpenBracket o f cc
no_bracket o ys zs (minus digits p q f) w = cc
no_bracket o ys zs (parens p q f) w = cc
no_bracket o ys zs (braces p q f) w = cc

pub element_read_only : {r : Counted TypeExpr} {xs ys : List Sym} (l flat : Limits) → Found (ReadOnlyUpto l) InElement xs r ys → Found (ElementUpto l flat) InElement xs r ys
element_read_only {r = r} {xs = xs} {ys = ys} l flat f = record {
  front = f.front;
  whole = f.whole;
  derives = into f.derives.0 f.derives.1;
  longest = λ a y us d w. go us d.0 d.1 w;
}
  where
    into : {a : List Sym} {u : TypeExpr} {e d : ℕ} → IsReadOnly a u e d → Fits l e d → ElementUpto l flat a (u, e, d)
    into (read_only_array s o {xs = c} {of = v} {own = e} {depth = d} {n = n} q b) fit = (read_only_element s o q b, array_fits l flat o (arrays (start_of c) n v) (e + suc n) (d + suc n) fit)

    -- the name `readonly` with brackets
    name : {a : List Sym} {v : TypeExpr} {e' d' j : ℕ} {p b : List Sym} {u : TypeExpr} {e d : ℕ} (us : List Sym) → IsReadOnly a v e' d' → xs ≡ a ++ ys → AtomView p u e d → IsBrackets j b
        → xs ≡ p ++ (b ++ us) → (length ys < length us) × Starts InElement us
    name us (read_only_array s o {xs = c} {ys = c'} q x) i n no_brackets w =
        let rest : c ++ (c' ++ ys) ≡ us = sym (append_assoc c c' ys) ∙ word_alone s o (c ++ c' ++ ys) us n (sym i ∙ w) in
        (omega (arith, ap length rest, length-append c (c' ++ ys), length-append c' ys, long x), atom_starts us (c' ++ ys) q (sym rest))
      where
        long : {n : ℕ} {z : List Sym} → IsBrackets (suc n) z → 1 ≤ length z
        long (brackets p q r) = omega arith
    name us (read_only_array s o {xs = c} {ys = c'} q x) i n (brackets y z {xs = b} g) w =
        let rest : c ++ (c' ++ ys) ≡ Mark m.OpenBracket y ∷ Mark m.CloseBracket z ∷ b ++ us = sym (append_assoc c c' ys) ∙ word_alone s o (c ++ c' ++ ys) _ n (sym i ∙ w) in
        absurd (no_bracket y (Mark m.CloseBracket z ∷ b ++ us) (c' ++ ys) (view q) (sym rest))

    go : {a : List Sym} {u : TypeExpr} {e d : ℕ} (us : List Sym) → IsElement a u e d → Fits (limits_of l flat u) e d → xs ≡ a ++ us → Ends {X = Counted TypeExpr} InElement r ys (u, e, d) us
    go us (plain_element {xs = p} {ys = b} q x) fit w = inr (name us f.derives.0 f.whole (view q) x (w ∙ append_assoc p b us))
    go us (read_only_element s o {xs = c} {of = v} {own = e} {depth = d} {n = n} q x) fit w =
        f.longest _ (_, _, _) us (read_only_array s o q x, fits_array l flat o (arrays (start_of c) n v) (e + suc n) (d + suc n) fit) w

-- ---- loops

-- whatever brackets are found from here make what is found in all
abbrev pub BracketsSoFar : ℕ → ℕ → List Sym → List Sym → Type 0
BracketsSoFar room count start xs = (k : ℕ) (ys : List Sym) → Found (BracketsUpto (room - count)) InElement xs k ys → Found (BracketsUpto room) InElement start (count + k) ys

pub brackets_on : (room count : ℕ) (start xs ys : List Sym) (o c : ℕ) → BracketsSoFar room count start xs → count < room → xs ≡ Mark m.OpenBracket o ∷ Mark m.CloseBracket c ∷ ys
    → BracketsSoFar room (count + 1) start ys
brackets_on room count start xs ys o c all h e k zs f =
    let same : count + suc k ≡ count + 1 + k = omega arith in
    let found = subst (λ v. Found (BracketsUpto (room - count)) InElement v (suc k) zs) (sym e) (brackets_step o c (room - (count + 1)) (room - count) (omega (arith, h)) f) in
    subst (λ n. Found (BracketsUpto room) InElement start n zs) same (all (suc k) zs found)

pub brackets_end : (room count : ℕ) (start xs : List Sym) → BracketsSoFar room count start xs
    → (1 ≤ room - count → (o c : ℕ) (zs : List Sym) → xs ≡ Mark m.OpenBracket o ∷ Mark m.CloseBracket c ∷ zs → ⊥) → Found (BracketsUpto room) InElement start count xs
brackets_end room count start xs all h =
    let same : count + 0 ≡ count = omega arith in
    subst (λ n. Found (BracketsUpto room) InElement start n xs) same (all 0 xs (brackets_stop (room - count) xs h))

pub arrays_on : (at count counter : ℕ) (tree of inner : TypeExpr) → counter < count → inner ≡ tree → arrays at (count - counter) tree ≡ arrays at count of
    → arrays at (count - (counter + 1)) (t.Array at false inner) ≡ arrays at count of
arrays_on at count counter tree of inner h i e =
    let same : count - counter ≡ suc (count - (counter + 1)) = omega (arith, h) in
    ap (λ x. arrays at (count - (counter + 1)) (t.Array at false x)) i ∙ sym (ap (λ n. arrays at n tree) same) ∙ e

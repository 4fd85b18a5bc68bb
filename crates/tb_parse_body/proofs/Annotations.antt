-- The type and the value of what is declared.
use Rattle.std.proofs.Common.{◌≡◌, ℕ, ◌≤◌, ◌<◌, ◌+◌, max, Bool, true, false, List, [], ◌∷◌, ◌++◌, length, refl, sym, ◌∙◌, ap, subst, inl, inr, arith, append_assoc, length-append, append-nil}
use Rattle.std.specs.Prelude.{Option, Some, None, ◌&&◌}
use Rattle.tb_tree.specs.declared.marks.Mark.TheVariants as m
use Rattle.tb_tree.specs.declared.types.TypeExpr.{TypeExpr}
use Rattle.tb_tree.specs.declared.exprs.Expr.{Expr}
use Rattle.tb_tree.specs.Sym.{Sym, Mark, Lex}
use Rattle.tb_tree.specs.Longest.{Found, Lacks, Ends, Starts}
use Rattle.tb_tree.specs.Shapes.{max_depth, IsMarked, unmarked, marked}
use Rattle.tb_tree.specs.Types.{IsShape, shape}
use Rattle.tb_tree.specs.Exprs.{IsAnnotation, no_annotation, some_annotation, IsValue, no_value, some_value, has_value}
use Rattle.tb_tree.proofs.Ends.{exact, shorter, starts_by, wider}
use Rattle.tb_parse_type.specs.Rules.{Counted, limits, TypeUpto, InType}
use Rattle.tb_parse_body.proofs.Sequences.{found_by}
use Rattle.tb_parse_body.specs.Rules.{Deep, ShapeUpto, AnnotationUpto, ValueUpto, DefaultUpto, ExprUpto, InAnnotation, InExpr, InQuestion}

-- ---- `: Type`

pub shape_found : {r : Counted TypeExpr} {xs ys : List Sym} (n o : ℕ) → Found (TypeUpto (limits max_depth n)) InType xs r ys → Found (ShapeUpto n) InType (Mark m.Colon o ∷ xs) (r.0, r.2) ys
shape_found {r = r} {xs = xs} {ys = ys} n o f = record {
  front = Mark m.Colon o ∷ f.front;
  whole = ap (λ v. Mark m.Colon o ∷ v) f.whole;
  derives = (shape o f.derives.0 f.derives.1.0, f.derives.1.1);
  longest = λ a y us d w. go us d.0 d.1 w;
}
  where
    go : {a : List Sym} {u : TypeExpr} {e : ℕ} (us : List Sym) → IsShape a u e → e ≤ n → Mark m.Colon o ∷ xs ≡ a ++ us → Ends {X = Deep TypeExpr} InType (r.0, r.2) ys (u, e) us
    go {u = u} {e = e} us (shape c {xs = a} {own = own} t h) i w = elim (f.longest a (u, own, e) us (t, (h, i)) cc) [
      | inl p ↦ inl (ap (λ (x : Counted TypeExpr). let y : Deep TypeExpr = (x.0, x.2) in y) p.0, p.1)
      | inr p ↦ inr p
    ]

pub shape_lacks : {xs : List Sym} (n o : ℕ) → Lacks (TypeUpto (limits max_depth n)) xs → Lacks (ShapeUpto n) (Mark m.Colon o ∷ xs)
shape_lacks {xs = xs} n o f = record { none = λ a y us d w. go us d.0 d.1 w }
  where
    go : {a : List Sym} {u : TypeExpr} {e : ℕ} (us : List Sym) → IsShape a u e → e ≤ n → Mark m.Colon o ∷ xs ≡ a ++ us → ⊥
    go {u = u} {e = e} us (shape c {xs = a} {own = own} t h) i w = f.none a (u, own, e) us (t, (h, i)) cc

pub shape_begins : {a : List Sym} {u : TypeExpr} {e : ℕ} (us : List Sym) → IsShape a u e → (o : ℕ) × (zs : List Sym) × (a ++ us ≡ Mark m.Colon o ∷ zs)
shape_begins us (shape c {xs = a} t h) = (c, a ++ us, refl)

pub shape_lacks_colon : (n : ℕ) (xs : List Sym) → ((o : ℕ) (zs : List Sym) → xs ≡ Mark m.Colon o ∷ zs → ⊥) → Lacks (ShapeUpto n) xs
shape_lacks_colon n xs h = record { none = λ a y us d w. let b = shape_begins us d.0 in h b.0 b.1 (w ∙ b.2) }

-- ---- an optional `: Type`

type_in_annotation : (s : Sym) → InType s → InAnnotation s
type_in_annotation (Lex k w o) h = grind (arith, h)
type_in_annotation (Mark k o) h = grind (arith, h)

pub annotation_some : {r : Deep TypeExpr} {xs ys : List Sym} (n : ℕ) → Found (ShapeUpto n) InType xs r ys → Found (AnnotationUpto n) InAnnotation xs (Some r.0, r.1) ys
annotation_some {r = r} {xs = xs} {ys = ys} n f = record {
  front = f.front;
  whole = f.whole;
  derives = (some_annotation f.derives.0, f.derives.1);
  longest = λ a y us d w. go us d.0 d.1 w;
}
  where
    g : Found (ShapeUpto n) InAnnotation xs r ys
    g = wider type_in_annotation f

    begins : (o : ℕ) × (zs : List Sym) × (f.front ++ ys ≡ Mark m.Colon o ∷ zs)
    begins = shape_begins ys f.derives.0

    long : length ys < length xs
    long = go f.front ys f.derives.0 f.whole
      where
        go : {u : TypeExpr} {e : ℕ} (a us : List Sym) → IsShape a u e → xs ≡ a ++ us → length us < length xs
        go a us (shape c {xs = b} t h) w = omega (arith, ap length w, length-append b us)

    go : {a : List Sym} {u : Option TypeExpr} {e : ℕ} (us : List Sym) → IsAnnotation a u e → e ≤ n → xs ≡ a ++ us → Ends {X = Deep (Option TypeExpr)} InAnnotation (Some r.0, r.1) ys (u, e) us
    go us no_annotation i w = inr (omega (arith, long, ap length w), starts_by InAnnotation (sym w ∙ f.whole ∙ begins.2) refl)
    go {a = a} {e = e} us (some_annotation {of = of} s) i w = elim (g.longest a (of, e) us (s, i) w) [
      | inl p ↦ inl (ap (λ (x : Deep TypeExpr). let y : Deep (Option TypeExpr) = (Some x.0, x.1) in y) p.0, p.1)
      | inr p ↦ inr p
    ]

pub annotation_none : {xs : List Sym} (n : ℕ) → Lacks (ShapeUpto n) xs → Found (AnnotationUpto n) InAnnotation xs (None, 0) xs
annotation_none {xs = xs} n f = record {
  front = [];
  whole = refl;
  derives = (no_annotation, omega arith);
  longest = λ a y us d w. go us d.0 d.1 w;
}
  where
    go : {a : List Sym} {u : Option TypeExpr} {e : ℕ} (us : List Sym) → IsAnnotation a u e → e ≤ n → xs ≡ a ++ us → Ends {X = Deep (Option TypeExpr)} InAnnotation (None, 0) xs (u, e) us
    go us no_annotation i w = inl (refl, w)
    go {a = a} {e = e} us (some_annotation {of = of} s) i w = absurd (f.none a (of, e) us (s, i) w)

-- ---- `?`

pub question_found : (o : ℕ) (ys : List Sym) → Found (IsMarked m.Question) InQuestion (Mark m.Question o ∷ ys) true ys
question_found o ys = record {
  front = Mark m.Question o ∷ [];
  whole = refl;
  derives = marked o;
  longest = λ a y us d w. go us d w;
}
  where
    go : {a : List Sym} {y : Bool} (us : List Sym) → IsMarked m.Question a y → Mark m.Question o ∷ ys ≡ a ++ us → Ends {X = Bool} InQuestion true ys y us
    go us unmarked w = inr (omega (arith, ap length w), starts_by InQuestion (sym w) refl)
    go us (marked n) w = inl (refl, cc)

pub question_absent : (xs : List Sym) → ((o : ℕ) (zs : List Sym) → xs ≡ Mark m.Question o ∷ zs → ⊥) → Found (IsMarked m.Question) InQuestion xs false xs
question_absent xs h = record {
  front = [];
  whole = refl;
  derives = unmarked;
  longest = λ a y us d w. go us d w;
}
  where
    go : {a : List Sym} {y : Bool} (us : List Sym) → IsMarked m.Question a y → xs ≡ a ++ us → Ends {X = Bool} InQuestion false xs y us
    go us unmarked w = inl (refl, w)
    go us (marked n) w = absurd (h n us w)

-- ---- an optional `= Expr`

pub value_some : {r : Deep Expr} {xs ys : List Sym} (n o : ℕ) → Found (ExprUpto true n) (InExpr true) xs r ys → Found (ValueUpto n) (InExpr true) (Mark m.Assign o ∷ xs) (Some r.0, r.1) ys
value_some {r = r} {xs = xs} {ys = ys} n o f = record {
  front = Mark m.Assign o ∷ f.front;
  whole = ap (λ v. Mark m.Assign o ∷ v) f.whole;
  derives = (some_value o f.derives.0, f.derives.1);
  longest = λ a y us d w. go us d.0 d.1 w;
}
  where
    go : {a : List Sym} {u : Option Expr} {e : ℕ} (us : List Sym) → IsValue true a u e → e ≤ n → Mark m.Assign o ∷ xs ≡ a ++ us → Ends {X = Deep (Option Expr)} (InExpr true) (Some r.0, r.1) ys (u, e) us
    go us no_value i w = inr (omega (arith, shorter f, ap length w), starts_by (InExpr true) (sym w) refl)
    go {e = e} us (some_value p {xs = a} {of = of} q) i w = elim (f.longest a (of, e) us (q, i) cc) [
      | inl p ↦ inl (ap (λ (x : Deep Expr). let y : Deep (Option Expr) = (Some x.0, x.1) in y) p.0, p.1)
      | inr p ↦ inr p
    ]

pub value_none : {vs xs : List Sym} (n o : ℕ) → vs ≡ Mark m.Assign o ∷ xs → Lacks (ExprUpto true n) xs → Found (ValueUpto n) (InExpr true) vs (None, 0) vs
value_none {vs = vs} {xs = xs} n o z f = record {
  front = [];
  whole = refl;
  derives = (no_value, omega arith);
  longest = λ a y us d w. go us d.0 d.1 w;
}
  where
    go : {a : List Sym} {u : Option Expr} {e : ℕ} (us : List Sym) → IsValue true a u e → e ≤ n → vs ≡ a ++ us → Ends {X = Deep (Option Expr)} (InExpr true) (None, 0) vs (u, e) us
    go us no_value i w = inl (refl, w)
    go {e = e} us (some_value p {xs = a} {of = of} q) i w = let v : Mark m.Assign o ∷ xs ≡ Mark m.Assign p ∷ a ++ us = sym z ∙ w in absurd (f.none a (of, e) us (q, i) cc)

pub value_absent : (n : ℕ) (xs : List Sym) → ((o : ℕ) (zs : List Sym) → xs ≡ Mark m.Assign o ∷ zs → ⊥) → Found (ValueUpto n) (InExpr true) xs (None, 0) xs
value_absent n xs h = record {
  front = [];
  whole = refl;
  derives = (no_value, omega arith);
  longest = λ a y us d w. go us d.0 w;
}
  where
    go : {a : List Sym} {u : Option Expr} {e : ℕ} (us : List Sym) → IsValue true a u e → xs ≡ a ++ us → Ends {X = Deep (Option Expr)} (InExpr true) (None, 0) xs (u, e) us
    go us no_value w = inl (refl, w)
    go us (some_value p {xs = a} q) w = absurd (h p (a ++ us) w)

-- ---- the default of a parameter

-- one with `?` has none
pub default_optional : (n : ℕ) (xs : List Sym) → Found (DefaultUpto true n) (InExpr true) xs (None, 0) xs
default_optional n xs = record {
  front = [];
  whole = refl;
  derives = (no_value, refl, omega arith);
  longest = λ a y us d w. go us d.0 d.1 w;
}
  where
    go : {a : List Sym} {u : Option Expr} {e : ℕ} (us : List Sym) → IsValue true a u e → has_value u ≡ false → xs ≡ a ++ us → Ends {X = Deep (Option Expr)} (InExpr true) (None, 0) xs (u, e) us
    go us no_value i w = inl (refl, w)
    go us (some_value p q) i w = let n : true ≡ false = i in cc

abbrev same : {X : Type 0} → X → X
same x = x

pub default_given : {r : Deep (Option Expr)} {xs ys : List Sym} (n : ℕ) → Found (ValueUpto n) (InExpr true) xs r ys → Found (DefaultUpto false n) (InExpr true) xs r ys
default_given n f = found_by same (λ a w d. (d.0, refl, d.1)) (λ a u us d w. (u, (d.0, d.2), refl)) f

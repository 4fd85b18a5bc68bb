-- What an arrow is made of.
use Rattle.std.proofs.Common.{◌≡◌, ℕ, suc, ◌+◌, ◌-◌, ◌≤◌, ◌<◌, max, Bool, true, false, List, [], ◌∷◌, ◌++◌, length, refl, sym, ◌∙◌, ap, subst, inl, inr, arith, append_assoc, length-append, append-nil}
use Rattle.std.specs.Prelude.{Option, Some, None, ◌⊎◌}
use Rattle.tb_tree.specs.declared.marks.Mark.TheVariants as m
use Rattle.tb_tree.specs.declared.words.Word.{Word}
use Rattle.tb_tree.specs.declared.types.TypeExpr.{TypeExpr}
use Rattle.tb_tree.specs.declared.exprs.Expr.{Expr}
use Rattle.tb_tree.specs.declared.exprs.Expr.TheVariants as expr
use Rattle.tb_tree.specs.declared.exprs.Block.{Block}
use Rattle.tb_tree.specs.declared.exprs.Param.{Param, roll-Param}
use Rattle.tb_tree.specs.declared.exprs.ArrowBody.{ArrowBody}
use Rattle.tb_tree.specs.declared.exprs.ArrowBody.TheVariants as arrow_body
use Rattle.tb_tree.specs.Sym.{Sym, Mark, Lex}
use Rattle.tb_tree.specs.Words.{is_name}
use Rattle.tb_tree.specs.Shapes.{word}
use Rattle.tb_tree.specs.Types.{shape}
use Rattle.tb_tree.specs.Longest.{Found, Lacks, Ends, Starts, Never}
use Rattle.tb_tree.specs.Exprs.{a_body, begins_with_brace, IsAnnotation, no_annotation, some_annotation, IsResult, no_result, some_result, IsBlock, block, IsExpr, IsArrowBody, block_body, expr_body}
use Rattle.tb_tree.proofs.Ends.{exact, shorter, both, ap_both, never}
use Rattle.tb_parse_type.specs.declared.reader.Reader.{Reader}
use Rattle.tb_parse_type.specs.Reading.{rest}
use Rattle.tb_parse_type.specs.Rules.{MarkRule}
use Rattle.tb_parse_body.specs.Rules.{Deep, AnnotationUpto, ResultUpto, BlockUpto, ExprUpto, ArrowBodyUpto, ArrowRestUpto, ArrowUpto, IsArrow, arrow, short_arrow, InAnnotation, InExpr}
use Rattle.tb_parse_body.proofs.ParamOpenings.{expr_long}
use Rattle.tb_parse_body.proofs.Sequences.{ThenBy, Apart, IsBack, then_found, then_lacks, then_lacks_second, found_by, lacks_by, mark_found, mark_lacks, apart_passes, apart_mark, apart_never}

-- ---- an optional `: Type`, where one may stand

pub result_none : (n : ℕ) (xs : List Sym) → Found (ResultUpto false n) InAnnotation xs (None, 0) xs
result_none n xs = record {
  front = [];
  whole = refl;
  derives = (no_result, omega arith);
  longest = λ a y us d w. go us d.0 w;
}
  where
    go : {a : List Sym} {u : Option TypeExpr} {e : ℕ} (us : List Sym) → IsResult false a u e → xs ≡ a ++ us → Ends {X = Deep (Option TypeExpr)} InAnnotation (None, 0) xs (u, e) us
    go us no_result w = inl (refl, w)

result_forth : {a : List Sym} {u : Option TypeExpr} {e : ℕ} → IsAnnotation a u e → IsResult true a u e
result_forth no_annotation = no_result
result_forth (some_annotation s) = some_result s

result_back : {a : List Sym} {u : Option TypeExpr} {e : ℕ} → IsResult true a u e → IsAnnotation a u e
result_back no_result = no_annotation
result_back (some_result s) = some_annotation s

pub result_some : {r : Deep (Option TypeExpr)} {xs ys : List Sym} (n : ℕ) → Found (AnnotationUpto n) InAnnotation xs r ys → Found (ResultUpto true n) InAnnotation xs r ys
result_some n f = found_by (λ (x : Deep (Option TypeExpr)). x) (λ a w d. (result_forth d.0, d.1)) (λ a u us d w. (u, (result_back d.0, d.1), refl)) f

-- ---- the body

block_begins : {a : List Sym} {u : Block} {e : ℕ} (us : List Sym) → IsBlock true a_body a u e → (o : ℕ) × (zs : List Sym) × (a ++ us ≡ Mark m.OpenBrace o ∷ zs)
block_begins us (block o p {xs = xs} d) = (o, xs ++ Mark m.CloseBrace p ∷ [] ++ us, refl)

begins_brace : (a us vs : List Sym) (o : ℕ) → 1 ≤ length a → Mark m.OpenBrace o ∷ vs ≡ a ++ us → begins_with_brace a ≡ true
begins_brace [] us vs o l w = absurd (omega (arith, l))
begins_brace (s ∷ a) us vs o l w = let e : s ≡ Mark m.OpenBrace o = cc in ap (λ x. begins_with_brace (x ∷ a)) e

brace_of : (a : List Sym) → begins_with_brace a ≡ true → (o : ℕ) × (vs : List Sym) × (a ≡ Mark m.OpenBrace o ∷ vs)
brace_of (Mark m.OpenBrace o ∷ vs) h = (o, vs, refl)
brace_of _ h = let n : false ≡ true = h in absurd (cc)

either : (b : Bool) → (b ≡ true) ⊎ (b ≡ false)
either true = inl refl
either false = inr refl

no_brace : (xs : List Sym) → ((o : ℕ) (zs : List Sym) → xs ≡ Mark m.OpenBrace o ∷ zs → ⊥) → (a us : List Sym) → xs ≡ a ++ us → begins_with_brace a ≡ false
no_brace xs h a us w = elim (either (begins_with_brace a)) [
  | inl e ↦ let b = brace_of a e in absurd (h b.0 (b.1 ++ us) (w ∙ ap (λ v. v ++ us) b.2))
  | inr e ↦ e
]

pub body_block : {r : Deep Block} {xs ys vs : List Sym} (typed : Bool) (n o : ℕ) → xs ≡ Mark m.OpenBrace o ∷ vs → Found (BlockUpto a_body n) Never xs r ys
    → Found (ArrowBodyUpto typed n) (InExpr typed) xs (arrow_body.Block r.0, r.1) ys
body_block {r = r} {xs = xs} {ys = ys} typed n o z f = record {
  front = f.front;
  whole = f.whole;
  derives = (block_body f.derives.0, f.derives.1);
  longest = λ a y us d w. go us d.0 d.1 w;
}
  where
    go : {a : List Sym} {u : ArrowBody} {e : ℕ} (us : List Sym) → IsArrowBody true typed a u e → e ≤ n → xs ≡ a ++ us → Ends {X = Deep ArrowBody} (InExpr typed) (arrow_body.Block r.0, r.1) ys (u, e) us
    go {a = a} {e = e} us (block_body {of = of} d) i w = let p = exact f a (of, e) us (d, i) w (never us) in inl (ap (λ (x : Deep Block). let y : Deep ArrowBody = (arrow_body.Block x.0, x.1) in y) p.0, p.1)
    go us (expr_body h d) i w = let n : true ≡ false = sym (begins_brace _ us _ o (expr_long d) (sym z ∙ w)) ∙ h in absurd (cc)

pub body_lacks_block : {xs vs : List Sym} (typed : Bool) (n o : ℕ) → xs ≡ Mark m.OpenBrace o ∷ vs → Lacks (BlockUpto a_body n) xs → Lacks (ArrowBodyUpto typed n) xs
body_lacks_block {xs = xs} typed n o z f = record { none = λ a y us d w. go us d.0 d.1 w }
  where
    go : {a : List Sym} {u : ArrowBody} {e : ℕ} (us : List Sym) → IsArrowBody true typed a u e → e ≤ n → xs ≡ a ++ us → ⊥
    go {a = a} {e = e} us (block_body {of = of} d) i w = f.none a (of, e) us (d, i) w
    go us (expr_body h d) i w = let n : true ≡ false = sym (begins_brace _ us _ o (expr_long d) (sym z ∙ w)) ∙ h in cc

pub body_expr : {r : Deep Expr} {xs ys : List Sym} (typed : Bool) (n : ℕ) → ((o : ℕ) (zs : List Sym) → xs ≡ Mark m.OpenBrace o ∷ zs → ⊥) → Found (ExprUpto typed n) (InExpr typed) xs r ys
    → Found (ArrowBodyUpto typed n) (InExpr typed) xs (arrow_body.Expr r.0, r.1) ys
body_expr {r = r} {xs = xs} {ys = ys} typed n z f = record {
  front = f.front;
  whole = f.whole;
  derives = (expr_body (no_brace xs z f.front ys f.whole) f.derives.0, f.derives.1);
  longest = λ a y us d w. go us d.0 d.1 w;
}
  where
    go : {a : List Sym} {u : ArrowBody} {e : ℕ} (us : List Sym) → IsArrowBody true typed a u e → e ≤ n → xs ≡ a ++ us → Ends {X = Deep ArrowBody} (InExpr typed) (arrow_body.Expr r.0, r.1) ys (u, e) us
    go us (block_body d) i w = let b = block_begins us d in absurd (z b.0 b.1 (w ∙ b.2))
    go {a = a} {e = e} us (expr_body {of = of} h d) i w = elim (f.longest a (of, e) us (d, i) w) [
      | inl p ↦ inl (ap (λ (x : Deep Expr). let y : Deep ArrowBody = (arrow_body.Expr x.0, x.1) in y) p.0, p.1)
      | inr p ↦ inr p
    ]

pub body_lacks_expr : {xs : List Sym} (typed : Bool) (n : ℕ) → ((o : ℕ) (zs : List Sym) → xs ≡ Mark m.OpenBrace o ∷ zs → ⊥) → Lacks (ExprUpto typed n) xs → Lacks (ArrowBodyUpto typed n) xs
body_lacks_expr {xs = xs} typed n z f = record { none = λ a y us d w. go us d.0 d.1 w }
  where
    go : {a : List Sym} {u : ArrowBody} {e : ℕ} (us : List Sym) → IsArrowBody true typed a u e → e ≤ n → xs ≡ a ++ us → ⊥
    go us (block_body d) i w = let b = block_begins us d in z b.0 b.1 (w ∙ b.2)
    go {a = a} {e = e} us (expr_body {of = of} h d) i w = f.none a (of, e) us (d, i) w

-- ---- what follows the parameters

abbrev RestParts : Type 0
RestParts = Deep (Option TypeExpr) × (ℕ × Deep ArrowBody)

abbrev BodyPart : Bool → ℕ → List Sym → ℕ × Deep ArrowBody → Type 0
BodyPart typed n = ThenBy (MarkRule m.Arrow) (λ p. ArrowBodyUpto typed n)

abbrev RestRule : Bool → ℕ → List Sym → RestParts → Type 0
RestRule typed n = ThenBy (ResultUpto typed n) (λ t. BodyPart typed n)

abbrev rest_of : RestParts → Deep (Option TypeExpr × ArrowBody)
rest_of r = ((r.0.0, r.1.1.0), max r.0.1 r.1.1.1)

rest_forth : (typed : Bool) (n : ℕ) (a : List Sym) (r : RestParts) → RestRule typed n a r → ArrowRestUpto typed n a (rest_of r)
rest_forth typed n a r d =
    let q = d.4 in
    let e : a ≡ d.0 ++ Mark m.Arrow r.1.0 ∷ q.1 = d.2 ∙ ap (λ v. d.0 ++ v) (q.2 ∙ ap (λ v. v ++ q.1) q.3) in
    (r.1.0, d.0, q.1, r.0.1, r.1.1.1, e, d.3.0, q.4.0, refl, omega (arith, d.3.1, q.4.1))

rest_back : (typed : Bool) (n : ℕ) (xs : List Sym) → IsBack rest_of (RestRule typed n) (ArrowRestUpto typed n) xs
rest_back typed n xs a u us d w =
    let deep : d.3 ≤ n = omega (arith, d.8, d.9) in
    let deep' : d.4 ≤ n = omega (arith, d.8, d.9) in (
      ((u.0.0, d.3), (d.0, (u.0.1, d.4))),
      (d.1, Mark m.Arrow d.0 ∷ d.2, d.5, (d.6, deep), (Mark m.Arrow d.0 ∷ [], d.2, refl, refl, (d.7, deep'))),
      both refl (sym d.8),
    )

no_annotation_arrow : (o : ℕ) → InAnnotation (Mark m.Arrow o) → ⊥
no_annotation_arrow o h = let n : false ≡ true = h in cc

arrow_apart : (typed : Bool) (n : ℕ) → Apart {X = Deep (Option TypeExpr)} InAnnotation (λ t. BodyPart typed n)
arrow_apart typed n x b y us d s = no_annotation_arrow y.0 (subst (λ v. Starts InAnnotation (v ++ us)) (d.2 ∙ ap (λ v. v ++ d.1) d.3) s)

pub rest_found : {t : Deep (Option TypeExpr)} {b : Deep ArrowBody} {xs ys zs : List Sym} (typed : Bool) (n o : ℕ) → Found (ResultUpto typed n) InAnnotation xs t (Mark m.Arrow o ∷ ys)
    → Found (ArrowBodyUpto typed n) (InExpr typed) ys b zs → Found (ArrowRestUpto typed n) (InExpr typed) xs ((t.0, b.0), max t.1 b.1) zs
rest_found {t = t} {b = b} {xs = xs} {ys = ys} typed n o f g =
    found_by rest_of (λ a w d. rest_forth typed n a (t, (o, b)) d) (rest_back typed n xs)
    (then_found (apart_passes (InExpr typed) (arrow_apart typed n)) f (then_found (apart_passes (InExpr typed) (apart_never (λ p. ArrowBodyUpto typed n))) (mark_found m.Arrow o ys) g))

pub rest_lacks_arrow : {t : Deep (Option TypeExpr)} {xs ys : List Sym} (typed : Bool) (n : ℕ) → Found (ResultUpto typed n) InAnnotation xs t ys → ((o : ℕ) (zs : List Sym) → ys ≡ Mark m.Arrow o ∷ zs → ⊥)
    → Lacks (ArrowRestUpto typed n) xs
rest_lacks_arrow {xs = xs} {ys = ys} typed n f h =
    lacks_by rest_of (rest_back typed n xs) (then_lacks_second (arrow_apart typed n) f (then_lacks (λ p. ArrowBodyUpto typed n) (mark_lacks m.Arrow ys h)))

pub rest_lacks_body : {t : Deep (Option TypeExpr)} {xs ys : List Sym} (typed : Bool) (n o : ℕ) → Found (ResultUpto typed n) InAnnotation xs t (Mark m.Arrow o ∷ ys) → Lacks (ArrowBodyUpto typed n) ys
    → Lacks (ArrowRestUpto typed n) xs
rest_lacks_body {xs = xs} {ys = ys} typed n o f g =
    lacks_by rest_of (rest_back typed n xs) (then_lacks_second (arrow_apart typed n) f (then_lacks_second (apart_never (λ p. ArrowBodyUpto typed n)) (mark_found m.Arrow o ys) g))

-- ---- Name, `=>`, and the body

abbrev pub named : ℕ → List ℕ → ArrowBody → Expr
named at spelled of = expr.Arrow at (roll-Param (record { at = at; name = spelled; optional = false; annotation = None; value = None }) ∷ []) None of

pub short_found : {b : Deep ArrowBody} {xs ys : List Sym} (typed : Bool) (n : ℕ) (k : Word) (s : List ℕ) (o p : ℕ) → 0 < n → is_name k ≡ true → Found (ArrowBodyUpto typed (n - 1)) (InExpr typed) xs b ys
    → Found (ArrowUpto typed n) (InExpr typed) (word k s o ∷ Mark m.Arrow p ∷ xs) (named o s b.0, b.1 + 1) ys
short_found {b = b} {xs = xs} {ys = ys} typed n k s o p some i f = record {
  front = word k s o ∷ Mark m.Arrow p ∷ f.front;
  whole = ap (λ v. word k s o ∷ Mark m.Arrow p ∷ v) f.whole;
  derives = (short_arrow s o p i f.derives.0, omega (arith, some, f.derives.1));
  longest = λ a y us d w. go us d.0 d.1 w;
}
  where
    go : {a : List Sym} {u : Expr} {e : ℕ} (us : List Sym) → IsArrow typed a u e → e ≤ n → word k s o ∷ Mark m.Arrow p ∷ xs ≡ a ++ us → Ends {X = Deep Expr} (InExpr typed) (named o s b.0, b.1 + 1) ys (u, e) us
    go us (arrow o' c' a' {xs = ps} ps' r' b') fit w = absurd (cc)
    go us (short_arrow z q q' {xs = c} {of = of} {d = d} j h) fit w =
        let behind : xs ≡ c ++ us = cc in
        let place : o ≡ q = cc in
        let name : s ≡ z = cc in
        let deep : d ≤ n - 1 = omega (arith, fit) in
        elim (f.longest c (of, d) us (h, deep) behind) [
          | inl e ↦ inl (both (ap_both (λ (x : ℕ) (y : List ℕ). named x y b.0) place name ∙ ap (λ (x : Deep ArrowBody). named q z x.0) e.0) (ap (λ (x : Deep ArrowBody). x.1 + 1) e.0), e.1)
          | inr e ↦ inr e
        ]

pub short_lacks : {xs : List Sym} (typed : Bool) (n : ℕ) (k : Word) (s : List ℕ) (o p : ℕ) → Lacks (ArrowBodyUpto typed (n - 1)) xs → Lacks (ArrowUpto typed n) (word k s o ∷ Mark m.Arrow p ∷ xs)
short_lacks {xs = xs} typed n k s o p f = record { none = λ a y us d w. go us d.0 d.1 w }
  where
    go : {a : List Sym} {u : Expr} {e : ℕ} (us : List Sym) → IsArrow typed a u e → e ≤ n → word k s o ∷ Mark m.Arrow p ∷ xs ≡ a ++ us → ⊥
    go us (arrow o' c' a' {xs = ps} ps' r' b') fit w = cc
    go us (short_arrow z q q' {xs = c} {of = of} {d = d} j h) fit w =
        let behind : xs ≡ c ++ us = cc in
        let deep : d ≤ n - 1 = omega (arith, fit) in
        f.none c (of, d) us (h, deep) behind

pub short_lacks_name : (typed : Bool) (n : ℕ) (xs : List Sym) → ((p : ℕ) (zs : List Sym) → xs ≡ Mark m.OpenParen p ∷ zs → ⊥)
    → ((k : Word) (s : List ℕ) (o p : ℕ) (zs : List Sym) → is_name k ≡ true → xs ≡ word k s o ∷ Mark m.Arrow p ∷ zs → ⊥) → Lacks (ArrowUpto typed n) xs
short_lacks_name typed n xs h g = record { none = λ a y us d w. go us d.0 w }
  where
    go : {a : List Sym} {u : Expr} {e : ℕ} (us : List Sym) → IsArrow typed a u e → xs ≡ a ++ us → ⊥
    go us (arrow o c p {xs = ps} {ys = y} {zs = z} ps' r' b') w = h o (ps ++ Mark m.CloseParen c ∷ y ++ Mark m.Arrow p ∷ z ++ us) w
    go us (short_arrow {kind = k} s o p {xs = c} i b) w = g k s o p (c ++ us) i w

pub same_short : {at at' : ℕ} {name name' : List ℕ} {acc params : List Param} (of : ArrowBody) (d : ℕ) → at ≡ at' → name ≡ name' → acc ≡ []
    → params ≡ acc ++ (roll-Param (record { at = at; name = name; optional = false; annotation = None; value = None }) ∷ [])
    → ◌≡◌ {A = Deep Expr} (expr.Arrow at params None of, d) (named at' name' of, d)
same_short {at = at} {name = name} of d p q h i =
    both (ap (λ (v : List Param). expr.Arrow at v None of) (i ∙ ap (λ (v : List Param). v ++ (roll-Param (record { at = at; name = name; optional = false; annotation = None; value = None }) ∷ [])) h)
    ∙ ap_both (λ (x : ℕ) (y : List ℕ). named x y of) p q) refl

pub two_at : (r : Reader) (at : ℕ) {s t : Sym} → rest r at ≡ s ∷ rest r (at + 1) → rest r (at + 1) ≡ t ∷ rest r (at + 1 + 1) → rest r at ≡ s ∷ t ∷ rest r (at + 2)
two_at r at {s = s} {t = t} e i =
    let p : at + 1 + 1 ≡ at + 2 = omega arith in
    e ∙ ap (λ v. s ∷ v) (i ∙ ap (λ n. t ∷ rest r n) p)

-- a name that no `=>` follows
pub short_lacks_arrow : {xs ys : List Sym} {t : Sym} (typed : Bool) (n : ℕ) → ((p : ℕ) (zs : List Sym) → xs ≡ Mark m.OpenParen p ∷ zs → ⊥) → xs ≡ t ∷ ys
    → ((p : ℕ) (zs : List Sym) → ys ≡ Mark m.Arrow p ∷ zs → ⊥) → Lacks (ArrowUpto typed n) xs
short_lacks_arrow {xs = xs} {ys = ys} {t = t} typed n h e g =
    short_lacks_name typed n xs h (λ k s o p zs i w. let behind : t ∷ ys ≡ word k s o ∷ Mark m.Arrow p ∷ zs = sym e ∙ w in g p zs cc)

-- ---- a name and `=` behind `(`

pub three_at : (r : Reader) (at : ℕ) {s t u : Sym} → rest r at ≡ s ∷ rest r (at + 1) → rest r (at + 1) ≡ t ∷ rest r (at + 1 + 1) → rest r (at + 2) ≡ u ∷ rest r (at + 2 + 1)
    → rest r at ≡ s ∷ t ∷ u ∷ rest r (at + 2 + 1)
three_at r at {s = s} {t = t} e i j = two_at r at e i ∙ ap (λ v. s ∷ t ∷ v) j

pub default_name : {xs ys zs : List Sym} {s t : Sym} → xs ≡ s ∷ ys → xs ≡ t ∷ zs → ys ≡ zs
default_name {ys = ys} {zs = zs} {s = s} {t = t} e i = let same : s ∷ ys ≡ t ∷ zs = sym e ∙ i in cc

pub default_assign : (r : Reader) (at : ℕ) {s t u v : Sym} {zs : List Sym} → rest r at ≡ s ∷ rest r (at + 1) → rest r (at + 1) ≡ t ∷ rest r (at + 1 + 1) → rest r at ≡ u ∷ v ∷ zs → rest r (at + 2) ≡ zs
default_assign r at {s = s} {t = t} {u = u} {v = v} {zs = zs} e i j = let same : s ∷ t ∷ rest r (at + 2) ≡ u ∷ v ∷ zs = sym (two_at r at e i) ∙ j in cc

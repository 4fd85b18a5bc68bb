-- Declarators, and lists of them.
use Rattle.std.proofs.Common.{◌≡◌, ℕ, ◌+◌, ◌≤◌, ◌<◌, max, Bool, true, false, List, [], ◌∷◌, ◌++◌, length, refl, sym, ◌∙◌, ap, subst, inl, inr, arith, append_assoc, length-append, append-nil}
use Rattle.std.specs.Prelude.{Option, Some, None}
use Rattle.tb_tree.specs.declared.marks.Mark.TheVariants as m
use Rattle.tb_tree.specs.declared.words.Word.{Word}
use Rattle.tb_tree.specs.declared.types.TypeExpr.{TypeExpr}
use Rattle.tb_tree.specs.declared.exprs.Expr.{Expr}
use Rattle.tb_tree.specs.declared.exprs.Declarator.{Declarator, roll-Declarator}
use Rattle.tb_tree.specs.declared.exprs.Var.{Var, roll-Var}
use Rattle.tb_tree.specs.declared.exprs.VarKind.{VarKind}
use Rattle.tb_tree.specs.declared.exprs.VarKind.TheVariants as v
use Rattle.tb_tree.specs.Sym.{Sym, Mark, Lex}
use Rattle.tb_tree.specs.Words.{is_name}
use Rattle.tb_tree.specs.Longest.{Found, Lacks, Ends, Starts, Never}
use Rattle.tb_tree.specs.Shapes.{word}
use Rattle.tb_tree.specs.Exprs.{kind_of, is_valued, has_value, IsAnnotation, IsValue, IsDeclarator, declarator, IsDeclarators, last_declarator, more_declarators, IsVar, var}
use Rattle.tb_tree.proofs.Ends.{exact, shorter, starts_by, both, ap_both, found_from, lacks_from}
use Rattle.tb_parse_type.specs.declared.reader.Reader.{Reader}
use Rattle.tb_parse_type.specs.Reading.{Stands}
use Rattle.tb_parse_body.specs.declared.fronts.Front.{Front}
use Rattle.tb_parse_body.specs.Reading.{Reads}
use Rattle.tb_parse_type.specs.Rules.{MarkRule}
use Rattle.tb_parse_body.specs.Rules.{Deep, AnnotationUpto, ValueUpto, DeclaratorUpto, NextDeclaratorUpto, DeclaratorsUpto, VarUpto, InAnnotation, InExpr, InDeclarators}
use Rattle.tb_parse_body.proofs.Sequences.{ThenBy, Passes, Apart, IsBack, then_found, then_lacks, then_lacks_second, found_by, lacks_by, mark_found, mark_lacks, apart_passes, apart_mark}
use Rattle.tb_parse_body.proofs.Parameters.{value_passes, annotation_in_expr, no_annotation_assign, unvalued, widened}

-- ---- a declarator

abbrev pub declarator_of : ℕ → List ℕ → Option TypeExpr → Option Expr → Declarator
declarator_of at name annotation value = roll-Declarator (record { at = at; name = name; annotation = annotation; value = value })

pub same_declarator : {at at' : ℕ} {name name' : List ℕ} {d d' : ℕ} (t : Option TypeExpr) (x : Option Expr) → at ≡ at' → name ≡ name' → d ≡ d'
    → ◌≡◌ {A = Deep Declarator} (declarator_of at name t x, d) (declarator_of at' name' t x, d')
same_declarator t x p q r = both (ap_both (λ (x' : ℕ) (y : List ℕ). declarator_of x' y t x) p q) r

-- what follows the name
abbrev Parts : Type 0
Parts = Deep (Option TypeExpr) × Deep (Option Expr)

abbrev Annotated : ℕ → List Sym → Parts → Type 0
Annotated n = ThenBy (AnnotationUpto n) (λ a. ValueUpto n)

abbrev made : ℕ → List ℕ → Parts → Deep Declarator
made o s r = (declarator_of o s r.0.0 r.1.0, max r.0.1 r.1.1)

annotated_passes : (n : ℕ) → Passes {X = Deep (Option TypeExpr)} InAnnotation (InExpr true) (λ a. ValueUpto n)
annotated_passes n x b y us d s = value_passes InAnnotation (InExpr true) us d.0 no_annotation_assign annotation_in_expr s

declarator_forth : (kind : VarKind) (n : ℕ) (k : Word) (s : List ℕ) (o : ℕ) (a : List Sym) (r : Parts) → is_name k ≡ true → is_valued kind r.1.0 ≡ true → Annotated n a r
    → DeclaratorUpto kind n (word k s o ∷ a) (made o s r)
declarator_forth kind n k s o a r i h d =
    (subst (λ v. IsDeclarator true kind (word k s o ∷ v) (declarator_of o s r.0.0 r.1.0) (max r.0.1 r.1.1)) (sym d.2) (declarator s o i d.3.0 d.4.0 h), omega (arith, d.3.1, d.4.1))

declarator_back : {a : List Sym} {u : Declarator} {e : ℕ} (kind : VarKind) (n : ℕ) (k : Word) (s : List ℕ) (o : ℕ) (xs us : List Sym) → IsDeclarator true kind a u e → e ≤ n → word k s o ∷ xs ≡ a ++ us
    → (b : List Sym) × (r : Parts) × Annotated n b r × (xs ≡ b ++ us) × (made o s r ≡ (u, e)) × (is_valued kind r.1.0 ≡ true)
declarator_back kind n k s o xs us (declarator z p {xs = b} {ys = y} {shape = t} {given = g} {d = d} {e = e} i ann val h) fit w =
    let behind : xs ≡ b ++ y ++ us = cc in
    let place : o ≡ p = cc in
    let name : s ≡ z = cc in
    let first : d ≤ n = omega (arith, fit) in
    let second : e ≤ n = omega (arith, fit) in
    (b ++ y, ((t, d), (g, e)), (b, y, refl, (ann, first), (val, second)), behind, same_declarator t g place name refl, h)

pub declarator_found : {a : Deep (Option TypeExpr)} {x : Deep (Option Expr)} {xs ys zs : List Sym} (kind : VarKind) (n : ℕ) (k : Word) (s : List ℕ) (o : ℕ) → is_name k ≡ true → is_valued kind x.0 ≡ true
    → Found (AnnotationUpto n) InAnnotation xs a ys → Found (ValueUpto n) (InExpr true) ys x zs
    → Found (DeclaratorUpto kind n) (InExpr true) (word k s o ∷ xs) (declarator_of o s a.0 x.0, max a.1 x.1) zs
declarator_found {a = a} {x = x} {xs = xs} {zs = zs} kind n k s o i h f g = record {
  front = word k s o ∷ all.front;
  whole = ap (λ v. word k s o ∷ v) all.whole;
  derives = declarator_forth kind n k s o all.front (a, x) i h all.derives;
  longest = λ a y us d w. go us d.0 d.1 w;
}
  where
    all : Found (Annotated n) (InExpr true) xs (a, x) zs
    all = then_found (annotated_passes n) f g

    go : {b : List Sym} {u : Declarator} {e : ℕ} (us : List Sym) → IsDeclarator true kind b u e → e ≤ n → word k s o ∷ xs ≡ b ++ us → Ends {X = Deep Declarator} (InExpr true) (made o s (a, x)) zs (u, e) us
    go us q fit w =
        let b = declarator_back kind n k s o xs us q fit w in
        elim (all.longest b.0 b.1 us b.2 b.3) [
          | inl e ↦ inl (ap (λ (r : Parts). made o s r) e.0 ∙ b.4, e.1)
          | inr e ↦ inr e
        ]

-- a constant has a value

has_none : (kind : VarKind) (x : Option Expr) → is_valued kind x ≡ false → has_value x ≡ false
has_none v.Const None h = refl
has_none v.Const (Some of) h = let n : true ≡ false = h in absurd (cc)
has_none v.Let x h = let n : true ≡ false = h in absurd (cc)

needs_one : (kind : VarKind) (x y : Option Expr) → is_valued kind x ≡ false → is_valued kind y ≡ true → has_value y ≡ true
needs_one v.Const x None h i = let n : false ≡ true = i in absurd (cc)
needs_one v.Const x (Some of) h i = refl
needs_one v.Let x y h i = let n : true ≡ false = h in absurd (cc)

pub declarator_lacks_value : {a : Deep (Option TypeExpr)} {x : Deep (Option Expr)} {xs ys zs : List Sym} (kind : VarKind) (n : ℕ) (k : Word) (s : List ℕ) (o : ℕ) → is_valued kind x.0 ≡ false
    → Found (AnnotationUpto n) InAnnotation xs a ys → Found (ValueUpto n) (InExpr true) ys x zs → Lacks (DeclaratorUpto kind n) (word k s o ∷ xs)
declarator_lacks_value {x = x} {xs = xs} kind n k s o none f g = record { none = λ a y us d w. go us d.0 d.1 w }
  where
    go : {b : List Sym} {u : Declarator} {e : ℕ} (us : List Sym) → IsDeclarator true kind b u e → e ≤ n → word k s o ∷ xs ≡ b ++ us → ⊥
    go us q fit w =
        let b = declarator_back kind n k s o xs us q fit w in
        let d = b.2 in
        unvalued n (has_none kind x.0 none) f g us d.3.0 d.3.1 d.4.0 d.4.1 (needs_one kind x.0 b.1.1.0 none b.5) (b.3 ∙ ap (λ v. v ++ us) d.2 ∙ append_assoc d.0 d.1 us)

pub declarator_lacks_name : (kind : VarKind) (n : ℕ) (xs : List Sym) → ((k : Word) (s : List ℕ) (o : ℕ) → is_name k ≡ true → (zs : List Sym) → xs ≡ word k s o ∷ zs → ⊥) → Lacks (DeclaratorUpto kind n) xs
declarator_lacks_name kind n xs h = record { none = λ a y us d w. go us d.0 w }
  where
    go : {a : List Sym} {u : Declarator} {e : ℕ} (us : List Sym) → IsDeclarator true kind a u e → xs ≡ a ++ us → ⊥
    go us (declarator {name_kind = k} s o {xs = b} {ys = y} i ann val g) w = h k s o i (b ++ y ++ us) w

declarator_starts : {kind : VarKind} {a : List Sym} {u : Declarator} {e : ℕ} (us : List Sym) → IsDeclarator true kind a u e → Starts InDeclarators (a ++ us)
declarator_starts us (declarator s o i ann val g) = refl

declarator_long : {kind : VarKind} {a : List Sym} {u : Declarator} {e : ℕ} → IsDeclarator true kind a u e → 1 ≤ length a
declarator_long (declarator s o i ann val g) = omega arith

-- ---- `,` and a declarator

pub next_found : {x : Deep Declarator} {xs ys : List Sym} (kind : VarKind) (n o : ℕ) → Found (DeclaratorUpto kind n) (InExpr true) xs x ys
    → Found (NextDeclaratorUpto kind n) (InExpr true) (Mark m.Comma o ∷ xs) x ys
next_found {xs = xs} kind n o f = record {
  front = Mark m.Comma o ∷ f.front;
  whole = ap (λ v. Mark m.Comma o ∷ v) f.whole;
  derives = (o, f.front, refl, f.derives);
  longest = λ a y us d w. let e : Mark m.Comma o ∷ xs ≡ Mark m.Comma d.0 ∷ d.1 ++ us = w ∙ ap (λ v. v ++ us) d.2 in f.longest d.1 y us d.3 cc;
}

pub next_lacks : {xs : List Sym} (kind : VarKind) (n o : ℕ) → Lacks (DeclaratorUpto kind n) xs → Lacks (NextDeclaratorUpto kind n) (Mark m.Comma o ∷ xs)
next_lacks {xs = xs} kind n o f = record {
  none = λ a y us d w. let e : Mark m.Comma o ∷ xs ≡ Mark m.Comma d.0 ∷ d.1 ++ us = w ∙ ap (λ v. v ++ us) d.2 in f.none d.1 y us d.3 cc;
}

pub next_lacks_comma : (kind : VarKind) (n : ℕ) (xs : List Sym) → ((o : ℕ) (zs : List Sym) → xs ≡ Mark m.Comma o ∷ zs → ⊥) → Lacks (NextDeclaratorUpto kind n) xs
next_lacks_comma kind n xs h = record { none = λ a y us d w. h d.0 (d.1 ++ us) (w ∙ ap (λ v. v ++ us) d.2) }

-- ---- any number of them

pub data IsTail (kind : VarKind) : List Sym → List Declarator → ℕ → Type 0 where
  no_tail : IsTail kind [] [] 0
  more_tail : (comma : ℕ) {xs ys : List Sym} {of : Declarator} {rest : List Declarator} {d e : ℕ} → IsDeclarator true kind xs of d → IsTail kind ys rest e
      → IsTail kind (Mark m.Comma comma ∷ xs ++ ys) (of ∷ rest) (max d e)

abbrev pub TailUpto : VarKind → ℕ → List Sym → Deep (List Declarator) → Type 0
TailUpto kind n xs r = IsTail kind xs r.0 r.1 × (r.1 ≤ n)

expr_in_declarators : (s : Sym) → InExpr true s → InDeclarators s
expr_in_declarators (Mark m.Semicolon o) h = let n : true ≡ false = h in cc
expr_in_declarators (Mark _ o) h = refl
expr_in_declarators (Lex _ w o) h = refl

tail_stop : (kind : VarKind) (n : ℕ) (xs : List Sym) → Lacks (NextDeclaratorUpto kind n) xs → Found (TailUpto kind n) InDeclarators xs ([], 0) xs
tail_stop kind n xs f = record {
  front = [];
  whole = refl;
  derives = (no_tail, omega arith);
  longest = λ a y us d w. go us d.0 d.1 w;
}
  where
    go : {a : List Sym} {u : List Declarator} {e : ℕ} (us : List Sym) → IsTail kind a u e → e ≤ n → xs ≡ a ++ us → Ends {X = Deep (List Declarator)} InDeclarators ([], 0) xs (u, e) us
    go us no_tail i w = inl (refl, w)
    go us (more_tail comma {xs = a} {ys = b} {of = u} {d = d} q r) i w = absurd (f.none (Mark m.Comma comma ∷ a) (u, d) (b ++ us) (comma, a, refl, (q, omega (arith, i))) (w ∙ append_assoc (Mark m.Comma comma ∷ a) b us))

no_expr_comma : (o : ℕ) → InExpr true (Mark m.Comma o) → ⊥
no_expr_comma o h = let n : true ≡ false = h in cc

tail_starts : {kind : VarKind} {a : List Sym} {u : List Declarator} {e : ℕ} (us : List Sym) → IsTail kind a u e → Starts (InExpr true) (a ++ us) → (length (a ++ us) ≤ length us) × Starts InDeclarators us
tail_starts us no_tail s = (omega arith, widened us expr_in_declarators s)
tail_starts us (more_tail comma q r) s = absurd (no_expr_comma comma s)

abbrev NextAndTail : VarKind → ℕ → List Sym → Deep Declarator × Deep (List Declarator) → Type 0
NextAndTail kind n = ThenBy (NextDeclaratorUpto kind n) (λ d. TailUpto kind n)

tail_more : {x : Deep Declarator} {r : Deep (List Declarator)} {xs ys zs : List Sym} (kind : VarKind) (n : ℕ) → Found (NextDeclaratorUpto kind n) (InExpr true) xs x ys → Found (TailUpto kind n) InDeclarators ys r zs
    → Found (TailUpto kind n) InDeclarators xs (x.0 ∷ r.0, max x.1 r.1) zs
tail_more {x = x} {r = r} {xs = xs} {ys = ys} {zs = zs} kind n f g = record {
  front = all.front;
  whole = all.whole;
  derives = forth all.front all.derives;
  longest = λ a y us d w. go us d.0 d.1 w;
}
  where
    all : Found (NextAndTail kind n) InDeclarators xs (x, r) zs
    all = then_found (λ x b y us d s. tail_starts us d.0 s) f g

    forth : (a : List Sym) → NextAndTail kind n a (x, r) → TailUpto kind n a (x.0 ∷ r.0, max x.1 r.1)
    forth a d =
        let q = d.3 in
        let e : Mark m.Comma q.0 ∷ q.1 ++ d.1 ≡ a = sym (d.2 ∙ ap (λ v. v ++ d.1) q.2) in
        (subst (λ v. IsTail kind v (x.0 ∷ r.0) (max x.1 r.1)) e (more_tail q.0 q.3.0 d.4.0), omega (arith, q.3.1, d.4.1))

    go : {a : List Sym} {u : List Declarator} {e : ℕ} (us : List Sym) → IsTail kind a u e → e ≤ n → xs ≡ a ++ us → Ends {X = Deep (List Declarator)} InDeclarators (x.0 ∷ r.0, max x.1 r.1) zs (u, e) us
    go us no_tail i w =
        let q = f.derives in
        inr (
          omega (arith, shorter g, ap length w, ap length (f.whole ∙ ap (λ v. v ++ ys) q.2), length-append q.1 ys),
          starts_by InDeclarators (sym w ∙ f.whole ∙ ap (λ v. v ++ ys) q.2) refl,
        )
    go us (more_tail comma {xs = a} {ys = b} {of = u} {rest = us'} {d = d} {e = e} q t) i w =
        elim (all.longest (Mark m.Comma comma ∷ a ++ b) ((u, d), (us', e)) us (Mark m.Comma comma ∷ a, b, refl, (comma, a, refl, (q, omega (arith, i))), (t, omega (arith, i))) w) [
          | inl p ↦ inl (ap (λ (y : Deep Declarator × Deep (List Declarator)). let z : Deep (List Declarator) = (y.0.0 ∷ y.1.0, max y.0.1 y.1.1) in z) p.0, p.1)
          | inr p ↦ inr p
        ]

-- ---- a declarator, and the tail of a list

declarators_forth : (kind : VarKind) {b : List Sym} {us : List Declarator} {e : ℕ} {a : List Sym} {u : Declarator} {d : ℕ} → IsDeclarator true kind a u d → IsTail kind b us e → IsDeclarators true kind (a ++ b) (u ∷ us) (max d e)
declarators_forth kind {a = a} {u = u} {d = d} q no_tail =
    let i : d ≡ max d 0 = omega arith in
    subst (λ v. IsDeclarators true kind v (u ∷ []) (max d 0)) (sym (append-nil a)) (subst (λ (k : ℕ). IsDeclarators true kind a (u ∷ []) k) i (last_declarator q))
declarators_forth kind {a = a} q (more_tail comma p t) = more_declarators comma q (declarators_forth kind p t)

declarators_back : (kind : VarKind) {a : List Sym} {us : List Declarator} {e : ℕ} → IsDeclarators true kind a us e
    → (b c : List Sym) × (u : Declarator) × (ts : List Declarator) × (d f : ℕ) × (a ≡ b ++ c) × IsDeclarator true kind b u d × IsTail kind c ts f × (◌≡◌ {A = Deep (List Declarator)} (u ∷ ts, max d f) (us, e))
declarators_back kind (last_declarator {xs = xs} {of = of} {d = d} q) =
    let i : max d 0 ≡ d = omega arith in
    (xs, [], of, [], d, 0, sym (append-nil xs), q, no_tail, both refl i)
declarators_back kind (more_declarators comma {xs = xs} {ys = ys} {of = of} {d = d} q r) =
    let b = declarators_back kind r in (
      xs,
      Mark m.Comma comma ∷ ys,
      of,
      b.2 ∷ b.3,
      d,
      max b.4 b.5,
      refl,
      q,
      subst (λ v. IsTail kind (Mark m.Comma comma ∷ v) (b.2 ∷ b.3) (max b.4 b.5)) (sym b.6) (more_tail comma b.7 b.8),
      both (ap (λ (x : Deep (List Declarator)). of ∷ x.0) b.9) (ap (λ (x : Deep (List Declarator)). max d x.1) b.9),
    )

same_list : {r : Deep (List Declarator)} {u : Declarator} {ts : List Declarator} {d f : ℕ} (x : Deep Declarator × Deep (List Declarator)) → x ≡ ((u, d), (ts, f)) → ◌≡◌ {A = Deep (List Declarator)} (u ∷ ts, max d f) r
    → ◌≡◌ {A = Deep (List Declarator)} (x.0.0 ∷ x.1.0, max x.0.1 x.1.1) r
same_list x p q = ap (λ (y : Deep Declarator × Deep (List Declarator)). let z : Deep (List Declarator) = (y.0.0 ∷ y.1.0, max y.0.1 y.1.1) in z) p ∙ q

abbrev HeadAndTail : VarKind → ℕ → List Sym → Deep Declarator × Deep (List Declarator) → Type 0
HeadAndTail kind n = ThenBy (DeclaratorUpto kind n) (λ d. TailUpto kind n)

list_found : {x : Deep Declarator} {r : Deep (List Declarator)} {xs ys zs : List Sym} (kind : VarKind) (n : ℕ) → Found (DeclaratorUpto kind n) (InExpr true) xs x ys → Found (TailUpto kind n) InDeclarators ys r zs
    → Found (DeclaratorsUpto kind n) InDeclarators xs (x.0 ∷ r.0, max x.1 r.1) zs
list_found {x = x} {r = r} {xs = xs} {zs = zs} kind n f g = record {
  front = all.front;
  whole = all.whole;
  derives = forth all.front all.derives;
  longest = λ a y us d w. go us d.0 d.1 w;
}
  where
    all : Found (HeadAndTail kind n) InDeclarators xs (x, r) zs
    all = then_found (λ x b y us d s. tail_starts us d.0 s) f g

    forth : (a : List Sym) → HeadAndTail kind n a (x, r) → DeclaratorsUpto kind n a (x.0 ∷ r.0, max x.1 r.1)
    forth a d = (subst (λ v. IsDeclarators true kind v (x.0 ∷ r.0) (max x.1 r.1)) (sym d.2) (declarators_forth kind d.3.0 d.4.0), omega (arith, d.3.1, d.4.1))

    go : {a : List Sym} {u : List Declarator} {e : ℕ} (us : List Sym) → IsDeclarators true kind a u e → e ≤ n → xs ≡ a ++ us → Ends {X = Deep (List Declarator)} InDeclarators (x.0 ∷ r.0, max x.1 r.1) zs (u, e) us
    go {a = a} us q i w =
        let b = declarators_back kind q in
        let deep : max b.4 b.5 ≤ n = omega (arith, i, ap (λ (y : Deep (List Declarator)). y.1) b.9) in
        elim (all.longest a ((b.2, b.4), (b.3, b.5)) us (b.0, b.1, b.6, (b.7, omega (arith, deep)), (b.8, omega (arith, deep))) w) [
          | inl p ↦ inl (same_list (x, r) p.0 b.9, p.1)
          | inr p ↦ inr p
        ]

-- ---- a loop over declarators: whatever tail is found from here makes what is found in all

abbrev pub DeclaratorsSoFar : VarKind → ℕ → List Declarator → ℕ → List Sym → List Sym → Type 0
DeclaratorsSoFar kind n acc depth start xs = (ts : List Declarator) (e : ℕ) (zs : List Sym) → Found (TailUpto kind n) InDeclarators xs (ts, e) zs
    → Found (DeclaratorsUpto kind n) InDeclarators start (acc ++ ts, max depth e) zs

pub declarators_start : {x : Deep Declarator} {start ys : List Sym} (kind : VarKind) (n : ℕ) → Found (DeclaratorUpto kind n) (InExpr true) start x ys → DeclaratorsSoFar kind n (x.0 ∷ []) x.1 start ys
declarators_start kind n f ts e zs g = list_found kind n f g

pub declarators_on : {x : Deep Declarator} {ys : List Sym} (kind : VarKind) (n : ℕ) (acc : List Declarator) (depth : ℕ) (start xs : List Sym) → DeclaratorsSoFar kind n acc depth start xs
    → Found (NextDeclaratorUpto kind n) (InExpr true) xs x ys → DeclaratorsSoFar kind n (acc ++ x.0 ∷ []) (max depth x.1) start ys
declarators_on {x = x} kind n acc depth start xs all f ts e zs g =
    let p : max depth (max x.1 e) ≡ max (max depth x.1) e = omega arith in
    subst (λ (v : List Declarator). Found (DeclaratorsUpto kind n) InDeclarators start (v, max (max depth x.1) e) zs) (sym (append_assoc acc (x.0 ∷ []) ts))
    (subst (λ (k : ℕ). Found (DeclaratorsUpto kind n) InDeclarators start (acc ++ (x.0 ∷ ts), k) zs) p
    (all (x.0 ∷ ts) (max x.1 e) zs (tail_more kind n f g)))

pub declarators_end : (kind : VarKind) (n : ℕ) (acc : List Declarator) (depth : ℕ) (start xs : List Sym) → DeclaratorsSoFar kind n acc depth start xs → Lacks (NextDeclaratorUpto kind n) xs
    → Found (DeclaratorsUpto kind n) InDeclarators start (acc, depth) xs
declarators_end kind n acc depth start xs all f =
    let p : max depth 0 ≡ depth = omega arith in
    subst (λ (v : List Declarator). Found (DeclaratorsUpto kind n) InDeclarators start (v, depth) xs) (append-nil acc)
    (subst (λ (k : ℕ). Found (DeclaratorsUpto kind n) InDeclarators start (acc ++ [], k) xs) p (all [] 0 xs (tail_stop kind n xs f)))

pub next_falls : {x : Deep Declarator} {xs ys : List Sym} (kind : VarKind) (n : ℕ) → Found (NextDeclaratorUpto kind n) (InExpr true) xs x ys → length ys < length xs
next_falls {ys = ys} kind n f =
    let q = f.derives in
    omega (arith, ap length (f.whole ∙ ap (λ v. v ++ ys) q.2), length-append q.1 ys)

pub declarators_lack : {xs : List Sym} (kind : VarKind) (n : ℕ) → Lacks (DeclaratorUpto kind n) xs → Lacks (DeclaratorsUpto kind n) xs
declarators_lack {xs = xs} kind n f = record { none = λ a y us d w. go us d.0 d.1 w }
  where
    go : {a : List Sym} {u : List Declarator} {e : ℕ} (us : List Sym) → IsDeclarators true kind a u e → e ≤ n → xs ≡ a ++ us → ⊥
    go {a = a} {e = e} us (last_declarator {of = of} q) i w = f.none a (of, e) us (q, i) w
    go us (more_declarators comma {xs = a} {ys = b} {of = of} {d = d} q r) i w =
        f.none a (of, d) (Mark m.Comma comma ∷ b ++ us) (q, omega (arith, i)) (w ∙ append_assoc a (Mark m.Comma comma ∷ b) us)

-- ---- `const` or `let`, declarators, and `;`

abbrev pub var_of : VarKind → List Declarator → Var
var_of kind declarators = roll-Var (record { kind = kind; declarators = declarators })

no_semicolon : (o : ℕ) → InDeclarators (Mark m.Semicolon o) → ⊥
no_semicolon o h = let n : true ≡ false = h in cc

same_kind : {kind kind' : VarKind} → Some kind ≡ Some kind' → kind ≡ kind'
same_kind e = cc

pub var_found : {r : Deep (List Declarator)} {xs : List Sym} (kind : VarKind) (n : ℕ) (k : Word) (s : List ℕ) (o p : ℕ) (ys : List Sym) → kind_of k ≡ Some kind
    → Found (DeclaratorsUpto kind n) InDeclarators xs r (Mark m.Semicolon p ∷ ys) → Found (VarUpto n) Never (word k s o ∷ xs) (var_of kind r.0, r.1) ys
var_found {r = r} {xs = xs} kind n k s o p ys h f = record {
  front = word k s o ∷ f.front ++ Mark m.Semicolon p ∷ [];
  whole = ap (λ v. word k s o ∷ v) (f.whole ∙ sym (append_assoc f.front (Mark m.Semicolon p ∷ []) ys));
  derives = (var s o p h f.derives.0, f.derives.1);
  longest = λ a y us d w. go us d.0 d.1 w;
}
  where
    go : {a : List Sym} {u : Var} {e : ℕ} (us : List Sym) → IsVar true a u e → e ≤ n → word k s o ∷ xs ≡ a ++ us → Ends {X = Deep Var} Never (var_of kind r.0, r.1) ys (u, e) us
    go {e = e} us (var {word_kind = k'} {kind = kind'} z q semicolon {xs = b} {of = of} h' d) i w =
        let word_is : k ≡ k' = cc in
        let same : kind' ≡ kind = same_kind (sym h' ∙ ap kind_of (sym word_is) ∙ h) in
        let behind : xs ≡ (b ++ Mark m.Semicolon semicolon ∷ []) ++ us = cc in
        let d' = subst (λ (v : VarKind). IsDeclarators true v b of e) same d in
        let t = exact f b (of, e) (Mark m.Semicolon semicolon ∷ us) (d', i) (behind ∙ append_assoc b (Mark m.Semicolon semicolon ∷ []) us) (no_semicolon semicolon) in
        inl (both (ap_both (λ (x : VarKind) (y : List Declarator). var_of x y) (sym same) (ap (λ (x : Deep (List Declarator)). x.0) t.0)) (ap (λ (x : Deep (List Declarator)). x.1) t.0), cc)

pub var_lacks : {xs : List Sym} (kind : VarKind) (n : ℕ) (k : Word) (s : List ℕ) (o : ℕ) → kind_of k ≡ Some kind
    → ((a : List Sym) (u : List Declarator) (e : ℕ) (p : ℕ) (us : List Sym) → IsDeclarators true kind a u e → e ≤ n → xs ≡ a ++ (Mark m.Semicolon p ∷ us) → ⊥) → Lacks (VarUpto n) (word k s o ∷ xs)
var_lacks {xs = xs} kind n k s o h f = record { none = λ a y us d w. go us d.0 d.1 w }
  where
    go : {a : List Sym} {u : Var} {e : ℕ} (us : List Sym) → IsVar true a u e → e ≤ n → word k s o ∷ xs ≡ a ++ us → ⊥
    go {e = e} us (var {word_kind = k'} {kind = kind'} z q semicolon {xs = b} {of = of} h' d) i w =
        let word_is : k ≡ k' = cc in
        let same : kind' ≡ kind = same_kind (sym h' ∙ ap kind_of (sym word_is) ∙ h) in
        let behind : xs ≡ (b ++ Mark m.Semicolon semicolon ∷ []) ++ us = cc in
        f b of e semicolon us (subst (λ (v : VarKind). IsDeclarators true v b of e) same d) i (behind ∙ append_assoc b (Mark m.Semicolon semicolon ∷ []) us)

pub var_lacks_list : {xs : List Sym} (kind : VarKind) (n : ℕ) (k : Word) (s : List ℕ) (o : ℕ) → kind_of k ≡ Some kind → Lacks (DeclaratorsUpto kind n) xs → Lacks (VarUpto n) (word k s o ∷ xs)
var_lacks_list kind n k s o h f = var_lacks kind n k s o h (λ a u e p us d i w. f.none a (u, e) (Mark m.Semicolon p ∷ us) (d, i) w)

pub var_lacks_semicolon : {r : Deep (List Declarator)} {xs ys : List Sym} (kind : VarKind) (n : ℕ) (k : Word) (s : List ℕ) (o : ℕ) → kind_of k ≡ Some kind
    → Found (DeclaratorsUpto kind n) InDeclarators xs r ys → ((p : ℕ) (zs : List Sym) → ys ≡ Mark m.Semicolon p ∷ zs → ⊥) → Lacks (VarUpto n) (word k s o ∷ xs)
var_lacks_semicolon kind n k s o h f no_mark = var_lacks kind n k s o h
    (λ a u e p us d i w. let t = exact f a (u, e) (Mark m.Semicolon p ∷ us) (d, i) w (no_semicolon p) in no_mark p us t.1)

pub var_lacks_kind : (n : ℕ) (xs : List Sym) → ((k : Word) (kind : VarKind) (s : List ℕ) (o : ℕ) → kind_of k ≡ Some kind → (zs : List Sym) → xs ≡ word k s o ∷ zs → ⊥) → Lacks (VarUpto n) xs
var_lacks_kind n xs h = record { none = λ a y us d w. go us d.0 w }
  where
    go : {a : List Sym} {u : Var} {e : ℕ} (us : List Sym) → IsVar true a u e → xs ≡ a ++ us → ⊥
    go us (var {word_kind = k} {kind = kind} s o p {xs = b} e d) w = h k kind s o e (b ++ Mark m.Semicolon p ∷ [] ++ us) w

-- ---- from the answers of the rules inside

pub next_reads : (kind : VarKind) (n : ℕ) (r : Reader) (at place : ℕ) (o : Option (Front Declarator)) → Stands r at (Mark m.Comma place) → Reads (DeclaratorUpto kind n) (InExpr true) r (at + 1) o
    → Reads (NextDeclaratorUpto kind n) (InExpr true) r at o
next_reads kind n r at place None s h = lacks_from s.2 (next_lacks kind n place h)
next_reads kind n r at place (Some x) s h = (h.0, found_from s.2 (next_found kind n place h.1))

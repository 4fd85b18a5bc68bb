-- What stands in the parentheses of a `for`.
use Rattle.std.proofs.Common.{◌≡◌, ℕ, ◌+◌, ◌≤◌, max, Bool, true, false, List, [], ◌∷◌, ◌++◌, refl, sym, ◌∙◌, ap, subst, inl, inr, arith, append_assoc}
use Rattle.std.specs.Prelude.{◌⊎◌, Option, Some, None}
use Rattle.tb_tree.specs.declared.marks.Mark.{Mark as MarkKind}
use Rattle.tb_tree.specs.declared.marks.Mark.TheVariants as m
use Rattle.tb_tree.specs.declared.words.Word.{Word}
use Rattle.tb_tree.specs.declared.words.Word.TheVariants as wd
use Rattle.tb_tree.specs.declared.types.TypeExpr.{TypeExpr}
use Rattle.tb_tree.specs.declared.exprs.Declarator.{Declarator}
use Rattle.tb_tree.specs.declared.exprs.Expr.{Expr}
use Rattle.tb_tree.specs.declared.exprs.Var.{Var}
use Rattle.tb_tree.specs.declared.exprs.VarKind.{VarKind}
use Rattle.tb_tree.specs.declared.exprs.ForStart.{ForStart}
use Rattle.tb_tree.specs.declared.exprs.ForStart.TheVariants as start
use Rattle.tb_tree.specs.Sym.{Sym, Mark}
use Rattle.tb_tree.specs.Words.{is_name}
use Rattle.tb_tree.specs.Types.{IsShape, shape}
use Rattle.tb_tree.specs.Shapes.{word}
use Rattle.tb_tree.specs.Longest.{Found, Lacks, Ends, Never}
use Rattle.tb_tree.specs.Exprs.{kind_of, IsExpr, IsOptional, no_expr, some_expr, IsForStart, var_start, expr_start, no_start, IsVar, var, IsDeclarators, last_declarator, more_declarators, IsDeclarator, declarator, IsAnnotation, no_annotation, some_annotation, IsValue, no_value, some_value}
use Rattle.tb_tree.proofs.Ends.{exact, both}
use Rattle.tb_parse_type.specs.declared.reader.Reader.{Reader}
use Rattle.tb_parse_type.specs.Reading.{rest}
use Rattle.tb_parse_type.specs.Rules.{Then, MarkRule}
use Rattle.tb_parse_body.specs.declared.fors.ForHead.{ForHead}
use Rattle.tb_parse_body.specs.declared.fors.OfHead.{OfHead}
use Rattle.tb_parse_body.specs.Rules.{Deep, ExprUpto, VarUpto, EndedUpto, ForStartUpto, OfHeadUpto, ForHeadUpto, InExpr}
use Rattle.tb_parse_body.proofs.Beginnings.{begins_expr, word_begins, expr_first}
use Rattle.tb_parse_body.proofs.FirstSymbols.{then_found, then_lacks, then_lacks_second, apart_never, mark_found, mark_lacks}
use Rattle.tb_parse_body.proofs.Sequences.{IsBack, found_by, lacks_by}
use Rattle.tb_parse_body.proofs.StmtHeads.{ends_here}

-- ---- `( const Name of Expr )`

abbrev pub of_head : VarKind → ℕ → List ℕ → Expr → OfHead
of_head kind at name subject = record { kind = kind; element = record { at = at; name = name }; subject = subject }

pub of_head_as : {k k' : VarKind} {a a' : ℕ} {s s' : List ℕ} {x x' : Expr} → k ≡ k' → a ≡ a' → s ≡ s' → x ≡ x' → of_head k a s x ≡ of_head k' a' s' x'
of_head_as {k' = k'} {a = a} {a' = a'} {s = s} {s' = s'} {x = x} p q r t = ap (λ (v : VarKind). of_head v a s x) p ∙ ap (λ (v : ℕ). of_head k' v s x) q ∙ ap (λ (v : List ℕ). of_head k' a' v x) r ∙ ap (λ (v : Expr). of_head k' a' s' v) t

same_kind : {kind kind' : VarKind} → Some kind ≡ Some kind' → kind ≡ kind'
same_kind e = cc

module _ (n : ℕ) (kind : VarKind) (k e : Word) (o : ℕ) (ks : List ℕ) (ka : ℕ) (es : List ℕ) (ea : ℕ) (os : List ℕ) (oa : ℕ) where
  abbrev opening : List Sym → List Sym
  opening v = Mark m.OpenParen o ∷ word k ks ka ∷ word e es ea ∷ word wd.Of os oa ∷ v

  opened : {xs bs cs ds vs : List Sym} → xs ≡ Mark m.OpenParen o ∷ bs → bs ≡ word k ks ka ∷ cs → cs ≡ word e es ea ∷ ds → ds ≡ word wd.Of os oa ∷ vs → xs ≡ opening vs
  opened p q r s = cc

  of_whole : {xs vs a : List Sym} {y : Deep OfHead} (us : List Sym) (d : OfHeadUpto n a y) → xs ≡ opening vs → xs ≡ a ++ us
      → opening vs ≡ Mark m.OpenParen d.0 ∷ word d.2 d.4 d.5 ∷ word d.3 y.0.element.name y.0.element.at ∷ word wd.Of d.6 d.7 ∷ (d.8 ++ (Mark m.CloseParen d.1 ∷ us))
  of_whole {y = y} us d i w =
      sym i ∙ w ∙ ap (λ v. v ++ us) d.10
      ∙ ap (λ v. Mark m.OpenParen d.0 ∷ word d.2 d.4 d.5 ∷ word d.3 y.0.element.name y.0.element.at ∷ word wd.Of d.6 d.7 ∷ v) (append_assoc d.8 (Mark m.CloseParen d.1 ∷ []) us)

  of_inside : {xs vs a : List Sym} {y : Deep OfHead} (us : List Sym) (d : OfHeadUpto n a y) → xs ≡ opening vs → xs ≡ a ++ us → vs ≡ d.8 ++ (Mark m.CloseParen d.1 ∷ us)
  of_inside us d i w = let h = of_whole us d i w in cc

  pub of_found : {xs bs cs ds vs ys : List Sym} {x : Deep Expr} (p : ℕ) → xs ≡ Mark m.OpenParen o ∷ bs → bs ≡ word k ks ka ∷ cs → cs ≡ word e es ea ∷ ds → ds ≡ word wd.Of os oa ∷ vs
      → kind_of k ≡ Some kind → is_name e ≡ true → Found (ExprUpto true n) (InExpr true) vs x (Mark m.CloseParen p ∷ ys) → Found (OfHeadUpto n) Never xs (of_head kind ea es x.0, x.1) ys
  of_found {xs = xs} {vs = vs} {ys = ys} {x = x} p i1 i2 i3 i4 h j f = record {
    front = opening (f.front ++ (Mark m.CloseParen p ∷ []));
    whole = i ∙ ap opening (f.whole ∙ sym (append_assoc f.front (Mark m.CloseParen p ∷ []) ys));
    derives = (o, p, k, e, ks, ka, os, oa, f.front, x.0, refl, h, j, refl, f.derives.0, f.derives.1);
    longest = λ a y us d w.
        let all = of_whole us d i w in
        let q = exact f d.8 (d.9, y.1) (Mark m.CloseParen d.1 ∷ us) (d.14, d.15) (of_inside us d i w) (ends_here true (Mark m.CloseParen d.1) refl) in
        let words : k ≡ d.2 = cc in
        let place : ea ≡ y.0.element.at = cc in
        let name : es ≡ y.0.element.name = cc in
        inl (both (of_head_as (same_kind (sym h ∙ ap kind_of words ∙ d.11)) place name (ap (λ (v : Deep Expr). v.0) q.0 ∙ d.13)) (ap (λ (v : Deep Expr). v.1) q.0), cc);
  }
    where
      i : xs ≡ opening vs
      i = opened i1 i2 i3 i4

  pub of_lacks_subject : {xs bs cs ds vs : List Sym} → xs ≡ Mark m.OpenParen o ∷ bs → bs ≡ word k ks ka ∷ cs → cs ≡ word e es ea ∷ ds → ds ≡ word wd.Of os oa ∷ vs
      → Lacks (ExprUpto true n) vs → Lacks (OfHeadUpto n) xs
  of_lacks_subject i1 i2 i3 i4 f = record { none = λ a y us d w. f.none d.8 (d.9, y.1) (Mark m.CloseParen d.1 ∷ us) (d.14, d.15) (of_inside us d (opened i1 i2 i3 i4) w) }

  pub of_lacks_close : {xs bs cs ds vs ys : List Sym} {x : Deep Expr} → xs ≡ Mark m.OpenParen o ∷ bs → bs ≡ word k ks ka ∷ cs → cs ≡ word e es ea ∷ ds → ds ≡ word wd.Of os oa ∷ vs
      → Found (ExprUpto true n) (InExpr true) vs x ys → ((at : ℕ) (zs : List Sym) → ys ≡ Mark m.CloseParen at ∷ zs → ⊥) → Lacks (OfHeadUpto n) xs
  of_lacks_close i1 i2 i3 i4 f h = record {
    none = λ a y us d w.
        let q = exact f d.8 (d.9, y.1) (Mark m.CloseParen d.1 ∷ us) (d.14, d.15) (of_inside us d (opened i1 i2 i3 i4) w) (ends_here true (Mark m.CloseParen d.1) refl) in
        h d.1 us q.1;
  }

-- ---- variables, or `Expr? ;`

-- no expression begins with `const` or `let`
kind_no_start : (k : Word) (kind : VarKind) → kind_of k ≡ Some kind → word_begins k ≡ true → ⊥
kind_no_start wd.Const kind e i = let n : false ≡ true = i in cc
kind_no_start wd.Let kind e i = let n : false ≡ true = i in cc
kind_no_start _ kind e i = cc

expr_no_kind : {a : List Sym} {of : Expr} {d : ℕ} (k : Word) (kind : VarKind) (s : List ℕ) (at : ℕ) (us zs : List Sym) → kind_of k ≡ Some kind → IsExpr true true a of d → word k s at ∷ zs ≡ a ++ us → ⊥
expr_no_kind k kind s at us zs h q w =
    let p = expr_first q in
    let e : word k s at ∷ zs ≡ p.0 ∷ (p.1 ++ us) = w ∙ ap (λ v. v ++ us) p.2 in
    let z : p.0 ≡ word k s at = cc in
    kind_no_start k kind h (sym (ap begins_expr z) ∙ p.3)

var_no_expr : {a b : List Sym} {of : Var} {d : ℕ} {x : Expr} {e : ℕ} (us zs : List Sym) → IsVar true b of d → IsExpr true true a x e → b ++ zs ≡ a ++ us → ⊥
var_no_expr us zs (var {word_kind = k} {kind = kind} s at p {xs = b} h d) q w = expr_no_kind k kind s at us ((b ++ (Mark m.Semicolon p ∷ [])) ++ zs) h q w

var_no_mark : {b : List Sym} {of : Var} {d : ℕ} (at : ℕ) (us zs : List Sym) → IsVar true b of d → b ++ zs ≡ Mark m.Semicolon at ∷ us → ⊥
var_no_mark at us zs (var s p q h d) w = cc

pub start_var : (n : ℕ) {xs ys : List Sym} {x : Deep Var} → Found (VarUpto n) Never xs x ys → Found (ForStartUpto n) Never xs (start.Var x.0, x.1) ys
start_var n {xs = xs} {ys = ys} {x = x} f = record {
  front = f.front;
  whole = f.whole;
  derives = (var_start f.derives.0, f.derives.1);
  longest = λ a y us d w. go us d.0 d.1 w;
}
  where
    go : {a : List Sym} {y : ForStart} {e : ℕ} (us : List Sym) → IsForStart true a y e → e ≤ n → xs ≡ a ++ us → Ends {X = Deep ForStart} Never (start.Var x.0, x.1) ys (y, e) us
    go us (var_start {xs = a} {of = of} {d = d} q) h w = elim (f.longest a (of, d) us (q, h) w) [
      | inl p ↦ inl (ap (λ (v : Deep Var). let s : Deep ForStart = (start.Var v.0, v.1) in s) p.0, p.1)
      | inr p ↦ inr p
    ]
    go us (expr_start p {xs = a} q) h w = absurd (var_no_expr (Mark m.Semicolon p ∷ us) ys f.derives.0 q (sym f.whole ∙ w ∙ append_assoc a (Mark m.Semicolon p ∷ []) us))
    go us (no_start p) h w = absurd (var_no_mark p us ys f.derives.0 (sym f.whole ∙ w))

abbrev pub start_of : Option Expr → ForStart
start_of None = start.Nothing
start_of (Some of) = start.Expr of

abbrev started : Deep (Option Expr) → Deep ForStart
started r = (start_of r.0, r.1)

started_forth : (n p : ℕ) {a : List Sym} {of : Option Expr} {d : ℕ} → IsOptional true a of d → d ≤ n → ForStartUpto n (a ++ (Mark m.Semicolon p ∷ [])) (start_of of, d)
started_forth n p no_expr h = (no_start p, h)
started_forth n p (some_expr q) h = (expr_start p q, h)

started_back : (n : ℕ) {xs : List Sym} → Lacks (VarUpto n) xs → IsBack started (EndedUpto m.Semicolon n) (ForStartUpto n) xs
started_back n {xs = xs} f a u us d w = go us d.0 d.1 w
  where
    go : {a : List Sym} {u : ForStart} {e : ℕ} (us : List Sym) → IsForStart true a u e → e ≤ n → xs ≡ a ++ us → (v : Deep (Option Expr)) × EndedUpto m.Semicolon n a v × (started v ≡ (u, e))
    go us (var_start {xs = a} {of = of} {d = d} q) h w = absurd (f.none a (of, d) us (q, h) w)
    go us (expr_start p {xs = a} {of = of} {d = d} q) h w = ((Some of, d), (p, a, refl, some_expr q, h), refl)
    go us (no_start p) h w = ((None, 0), (p, [], refl, no_expr, h), refl)

pub start_ended : (n : ℕ) {xs ys : List Sym} {x : Deep (Option Expr)} → Lacks (VarUpto n) xs → Found (EndedUpto m.Semicolon n) Never xs x ys → Found (ForStartUpto n) Never xs (start_of x.0, x.1) ys
start_ended n {x = x} f g = found_by started (λ a e d. subst (λ v. ForStartUpto n v (start_of x.0, x.1)) (sym d.2) (started_forth n d.0 d.3 d.4)) (started_back n f) g

pub start_lacks : (n : ℕ) {xs : List Sym} → Lacks (VarUpto n) xs → Lacks (EndedUpto m.Semicolon n) xs → Lacks (ForStartUpto n) xs
start_lacks n f g = lacks_by started (started_back n f) g

-- ---- `(`, what it begins with, `Expr? ; Expr? )`

abbrev Parts : Type 0
Parts = ℕ × (Deep ForStart × (Deep (Option Expr) × Deep (Option Expr)))

abbrev head_of : Parts → Deep ForHead
head_of r = (record { start = r.1.0.0; condition = r.1.1.0.0; update = r.1.1.1.0 }, max r.1.0.1 (max r.1.1.0.1 r.1.1.1.1))

abbrev Rest : ℕ → List Sym → Deep (Option Expr) × Deep (Option Expr) → Type 0
Rest n = Then (EndedUpto m.Semicolon n) (EndedUpto m.CloseParen n)

abbrev Inside : ℕ → List Sym → Deep ForStart × (Deep (Option Expr) × Deep (Option Expr)) → Type 0
Inside n = Then (ForStartUpto n) (Rest n)

abbrev Head : ℕ → List Sym → Parts → Type 0
Head n = Then (MarkRule m.OpenParen) (Inside n)

regrouped : (p q : ℕ) (vs ys zs : List Sym) → vs ++ ((ys ++ (Mark m.Semicolon p ∷ [])) ++ (zs ++ (Mark m.CloseParen q ∷ []))) ≡ ((vs ++ ys) ++ (Mark m.Semicolon p ∷ zs)) ++ (Mark m.CloseParen q ∷ [])
regrouped p q vs ys zs =
    ap (λ v. vs ++ v) (append_assoc ys (Mark m.Semicolon p ∷ []) (zs ++ (Mark m.CloseParen q ∷ []))) ∙ sym (append_assoc vs ys (Mark m.Semicolon p ∷ (zs ++ (Mark m.CloseParen q ∷ []))))
    ∙ sym (append_assoc (vs ++ ys) (Mark m.Semicolon p ∷ zs) (Mark m.CloseParen q ∷ []))

head_forth : (n : ℕ) (a : List Sym) (r : Parts) → Head n a r → ForHeadUpto n a (head_of r)
head_forth n a r d =
    let inner = d.4 in
    let behind = inner.4 in
    let c = behind.3 in
    let u = behind.4 in (
      r.0,
      c.0,
      u.0,
      inner.0,
      c.1,
      u.1,
      r.1.0.1,
      r.1.1.0.1,
      r.1.1.1.1,
      d.2 ∙ ap (λ v. v ++ d.1) d.3
          ∙ ap (λ v. Mark m.OpenParen r.0 ∷ v) (inner.2 ∙ ap (λ v. inner.0 ++ v) (behind.2 ∙ ap (λ v. v ++ behind.1) c.2 ∙ ap (λ v. (c.1 ++ (Mark m.Semicolon c.0 ∷ [])) ++ v) u.2) ∙ regrouped c.0 u.0 inner.0 c.1 u.1),
      inner.3.0,
      c.3,
      u.3,
      refl,
      omega (arith, inner.3.1, c.4, u.4),
    )

head_back : (n : ℕ) (xs : List Sym) → IsBack head_of (Head n) (ForHeadUpto n) xs
head_back n xs a u us d w =
    let c : List Sym = d.4 ++ (Mark m.Semicolon d.1 ∷ []) in
    let s : List Sym = d.5 ++ (Mark m.CloseParen d.2 ∷ []) in (
      (d.0, ((u.0.start, d.6), ((u.0.condition, d.7), (u.0.update, d.8)))),
      (
        Mark m.OpenParen d.0 ∷ [],
        d.3 ++ (c ++ s),
        d.9 ∙ ap (λ v. Mark m.OpenParen d.0 ∷ v) (sym (regrouped d.1 d.2 d.3 d.4 d.5)),
        refl,
        (d.3, c ++ s, refl, (d.10, omega (arith, d.13, d.14)), (c, s, refl, (d.1, d.4, refl, d.11, omega (arith, d.13, d.14)), (d.2, d.5, refl, d.12, omega (arith, d.13, d.14)))),
      ),
      both refl (sym d.13),
    )

pub head_lacks_open : (n : ℕ) (xs : List Sym) → ((at : ℕ) (zs : List Sym) → xs ≡ Mark m.OpenParen at ∷ zs → ⊥) → Lacks (ForHeadUpto n) xs
head_lacks_open n xs h = lacks_by head_of (head_back n xs) (then_lacks (Inside n) (mark_lacks m.OpenParen xs h))

pub head_lacks_inside : (n o : ℕ) {vs : List Sym} → Lacks (Inside n) vs → Lacks (ForHeadUpto n) (Mark m.OpenParen o ∷ vs)
head_lacks_inside n o {vs = vs} f = lacks_by head_of (head_back n (Mark m.OpenParen o ∷ vs)) (then_lacks_second (apart_never (Inside n)) (mark_found m.OpenParen o vs) f)

pub head_lacks_start : (n o : ℕ) {vs : List Sym} → Lacks (ForStartUpto n) vs → Lacks (ForHeadUpto n) (Mark m.OpenParen o ∷ vs)
head_lacks_start n o f = head_lacks_inside n o (then_lacks (Rest n) f)

pub head_lacks_condition : (n o : ℕ) {vs ys : List Sym} {x : Deep ForStart} → Found (ForStartUpto n) Never vs x ys → Lacks (EndedUpto m.Semicolon n) ys → Lacks (ForHeadUpto n) (Mark m.OpenParen o ∷ vs)
head_lacks_condition n o f g = head_lacks_inside n o (then_lacks_second (apart_never (Rest n)) f (then_lacks (EndedUpto m.CloseParen n) g))

pub head_lacks_update : (n o : ℕ) {vs ys zs : List Sym} {x : Deep ForStart} {y : Deep (Option Expr)} → Found (ForStartUpto n) Never vs x ys → Found (EndedUpto m.Semicolon n) Never ys y zs
    → Lacks (EndedUpto m.CloseParen n) zs → Lacks (ForHeadUpto n) (Mark m.OpenParen o ∷ vs)
head_lacks_update n o f g h = head_lacks_inside n o (then_lacks_second (apart_never (Rest n)) f (then_lacks_second (apart_never (EndedUpto m.CloseParen n)) g h))

pub head_found : (n o : ℕ) {vs ys zs us : List Sym} {x : Deep ForStart} {y z : Deep (Option Expr)} → Found (ForStartUpto n) Never vs x ys → Found (EndedUpto m.Semicolon n) Never ys y zs
    → Found (EndedUpto m.CloseParen n) Never zs z us → Found (ForHeadUpto n) Never (Mark m.OpenParen o ∷ vs) (record { start = x.0; condition = y.0; update = z.0 }, max x.1 (max y.1 z.1)) us
head_found n o {vs = vs} {x = x} {y = y} {z = z} f g h =
    found_by head_of (λ a e d. head_forth n a (o, (x, (y, z))) d) (head_back n (Mark m.OpenParen o ∷ vs))
    (then_found (apart_never (Inside n)) (mark_found m.OpenParen o vs) (then_found (apart_never (Rest n)) f (then_found (apart_never (EndedUpto m.CloseParen n)) g h)))

-- ---- both heads exclude each other

annotated_no_of : {a b : List Sym} {t : Option TypeExpr} {x : Option Expr} {d e : ℕ} (os : List ℕ) (oa : ℕ) (z : Sym) (us zs : List Sym) → IsAnnotation a t d → IsValue true b x e
    → ((s : List ℕ) (at : ℕ) → z ≡ word wd.Of s at → ⊥) → (a ++ b) ++ (z ∷ us) ≡ word wd.Of os oa ∷ zs → ⊥
annotated_no_of os oa z us zs no_annotation no_value h w = h os oa cc
annotated_no_of os oa z us zs no_annotation (some_value at q) h w = cc
annotated_no_of os oa z us zs (some_annotation (shape colon q l)) v h w = cc

declarator_no_of : {kind : VarKind} {a : List Sym} {of : Declarator} {d : ℕ} (e : Word) (es : List ℕ) (ea : ℕ) (os : List ℕ) (oa : ℕ) (z : Sym) (us zs : List Sym) → IsDeclarator true kind a of d
    → ((s : List ℕ) (at : ℕ) → z ≡ word wd.Of s at → ⊥) → a ++ (z ∷ us) ≡ word e es ea ∷ word wd.Of os oa ∷ zs → ⊥
declarator_no_of e es ea os oa z us zs (declarator s at {xs = a} {ys = b} i ann val g) h w =
    let behind : (a ++ b) ++ (z ∷ us) ≡ word wd.Of os oa ∷ zs = cc in
    annotated_no_of os oa z us zs ann val h behind

mark_no_of : {kind : MarkKind} (p : ℕ) (s : List ℕ) (at : ℕ) → Mark kind p ≡ word wd.Of s at → ⊥
mark_no_of p s at e = cc

declarators_no_of : {kind : VarKind} {a : List Sym} {of : List Declarator} {d : ℕ} (e : Word) (es : List ℕ) (ea : ℕ) (os : List ℕ) (oa p : ℕ) (us zs : List Sym) → IsDeclarators true kind a of d
    → a ++ (Mark m.Semicolon p ∷ us) ≡ word e es ea ∷ word wd.Of os oa ∷ zs → ⊥
declarators_no_of e es ea os oa p us zs (last_declarator q) w = declarator_no_of e es ea os oa (Mark m.Semicolon p) us zs q (mark_no_of p) w
declarators_no_of e es ea os oa p us zs (more_declarators comma {xs = a} {ys = b} q r) w =
    declarator_no_of e es ea os oa (Mark m.Comma comma) (b ++ (Mark m.Semicolon p ∷ us)) zs q (mark_no_of comma) (sym (append_assoc a (Mark m.Comma comma ∷ b) (Mark m.Semicolon p ∷ us)) ∙ w)

start_no_of : {a : List Sym} {of : ForStart} {d : ℕ} (k e : Word) (kind : VarKind) (ks : List ℕ) (ka : ℕ) (es : List ℕ) (ea : ℕ) (os : List ℕ) (oa : ℕ) (us zs : List Sym) → kind_of k ≡ Some kind
    → IsForStart true a of d → word k ks ka ∷ word e es ea ∷ word wd.Of os oa ∷ zs ≡ a ++ us → ⊥
start_no_of k e kind ks ka es ea os oa us zs h (var_start (var s at p {xs = b} i d)) w =
    let behind : (b ++ (Mark m.Semicolon p ∷ [])) ++ us ≡ word e es ea ∷ word wd.Of os oa ∷ zs = cc in
    declarators_no_of e es ea os oa p us zs d (sym (append_assoc b (Mark m.Semicolon p ∷ []) us) ∙ behind)
start_no_of k e kind ks ka es ea os oa us zs h (expr_start p {xs = a} q) w =
    expr_no_kind k kind ks ka (Mark m.Semicolon p ∷ us) (word e es ea ∷ word wd.Of os oa ∷ zs) h q (w ∙ append_assoc a (Mark m.Semicolon p ∷ []) us)
start_no_of k e kind ks ka es ea os oa us zs h (no_start p) w = cc

pub of_excludes : (n : ℕ) {xs ys : List Sym} {x : Deep OfHead} → Found (OfHeadUpto n) Never xs x ys → Lacks (ForHeadUpto n) xs
of_excludes n {xs = xs} {ys = ys} {x = x} f = record {
  none = λ a y us d w.
      let o = f.derives in
      let r : List Sym = o.8 ++ (Mark m.CloseParen o.1 ∷ []) in
      let t : List Sym = (d.4 ++ (Mark m.Semicolon d.1 ∷ [])) ++ (d.5 ++ (Mark m.CloseParen d.2 ∷ [])) in
      let all : Mark m.OpenParen o.0 ∷ word o.2 o.4 o.5 ∷ word o.3 x.0.element.name x.0.element.at ∷ word wd.Of o.6 o.7 ∷ (r ++ ys) ≡ Mark m.OpenParen d.0 ∷ ((d.3 ++ t) ++ us) =
      sym (f.whole ∙ ap (λ v. v ++ ys) o.10) ∙ w ∙ ap (λ v. v ++ us) (d.9 ∙ ap (λ v. Mark m.OpenParen d.0 ∷ v) (sym (regrouped d.1 d.2 d.3 d.4 d.5))) in
      let inside : word o.2 o.4 o.5 ∷ word o.3 x.0.element.name x.0.element.at ∷ word wd.Of o.6 o.7 ∷ (r ++ ys) ≡ (d.3 ++ t) ++ us = cc in
      start_no_of o.2 o.3 x.0.kind o.4 o.5 x.0.element.name x.0.element.at o.6 o.7 (t ++ us) (r ++ ys) o.11 d.10 (inside ∙ append_assoc d.3 t us);
}

-- ---- places that are the same

pub stepped : {a b c d : List Sym} {z : Sym} → a ≡ b → b ≡ z ∷ c → c ≡ d → a ≡ z ∷ d
stepped p q r = cc

pub same_place : (r : Reader) {i j : ℕ} → i ≡ j → rest r i ≡ rest r j
same_place r e = ap (λ (v : ℕ). rest r v) e

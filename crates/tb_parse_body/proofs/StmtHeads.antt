-- Expressions in parentheses, and before a mark that ends expressions.
use Rattle.std.proofs.Common.{◌≡◌, ℕ, ◌≤◌, Bool, true, false, List, [], ◌∷◌, ◌++◌, refl, sym, ◌∙◌, ap, subst, inl, inr, arith, append_assoc}
use Rattle.std.specs.Prelude.{◌⊎◌, ◌||◌, ◌&&◌, not, Option, Some, None}
use Rattle.tb_tree.specs.declared.marks.Mark.{Mark as MarkKind}
use Rattle.tb_tree.specs.declared.marks.Mark.TheVariants as m
use Rattle.tb_tree.specs.declared.exprs.Expr.{Expr}
use Rattle.tb_tree.specs.Sym.{Sym, Mark}
use Rattle.tb_tree.specs.Longest.{Found, Lacks, Ends, Never}
use Rattle.tb_tree.specs.Exprs.{IsExpr, IsOptional, no_expr, some_expr}
use Rattle.tb_tree.proofs.Ends.{exact, both}
use Rattle.tb_parse_body.specs.Rules.{Deep, ExprUpto, HeadUpto, EndedUpto, SentenceUpto, InExpr, is_end, is_colon}
use Rattle.tb_parse_body.proofs.Beginnings.{expr_first, end_no_start}

-- an expression ends before what ends expressions
pub ends_here : (typed : Bool) (s : Sym) → is_end s ≡ true → InExpr typed s → ⊥
ends_here typed s e h = let q : true ≡ false = subst (λ (b : Bool). (b || (not typed && is_colon s)) ≡ false) e h in cc

pub head_found : (n o p : ℕ) {xs ys : List Sym} {x : Deep Expr} → Found (ExprUpto true n) (InExpr true) xs x (Mark m.CloseParen p ∷ ys) → Found (HeadUpto n) Never (Mark m.OpenParen o ∷ xs) x ys
head_found n o p {xs = xs} {ys = ys} {x = x} f = record {
  front = Mark m.OpenParen o ∷ (f.front ++ (Mark m.CloseParen p ∷ []));
  whole = ap (λ v. Mark m.OpenParen o ∷ v) (f.whole ∙ sym (append_assoc f.front (Mark m.CloseParen p ∷ []) ys));
  derives = (o, p, f.front, refl, f.derives.0, f.derives.1);
  longest = λ a y us d w.
      let whole : Mark m.OpenParen o ∷ xs ≡ Mark m.OpenParen d.0 ∷ (d.2 ++ (Mark m.CloseParen d.1 ∷ us)) =
      w ∙ ap (λ v. v ++ us) d.3 ∙ ap (λ v. Mark m.OpenParen d.0 ∷ v) (append_assoc d.2 (Mark m.CloseParen d.1 ∷ []) us) in
      let inside : xs ≡ d.2 ++ (Mark m.CloseParen d.1 ∷ us) = cc in
      let q = exact f d.2 y (Mark m.CloseParen d.1 ∷ us) (d.4, d.5) inside (ends_here true (Mark m.CloseParen d.1) refl) in
      inl (q.0, cc);
}

head_inside : (n o : ℕ) {xs a : List Sym} (us : List Sym) {y : Deep Expr} (d : HeadUpto n a y) → Mark m.OpenParen o ∷ xs ≡ a ++ us → xs ≡ d.2 ++ (Mark m.CloseParen d.1 ∷ us)
head_inside n o {xs = xs} us d w =
    let whole : Mark m.OpenParen o ∷ xs ≡ Mark m.OpenParen d.0 ∷ (d.2 ++ (Mark m.CloseParen d.1 ∷ us)) =
    w ∙ ap (λ v. v ++ us) d.3 ∙ ap (λ v. Mark m.OpenParen d.0 ∷ v) (append_assoc d.2 (Mark m.CloseParen d.1 ∷ []) us) in
    cc

pub head_lacks_open : (n : ℕ) (xs : List Sym) → ((at : ℕ) (zs : List Sym) → xs ≡ Mark m.OpenParen at ∷ zs → ⊥) → Lacks (HeadUpto n) xs
head_lacks_open n xs h = record { none = λ a y us d w. h d.0 ((d.2 ++ (Mark m.CloseParen d.1 ∷ [])) ++ us) (w ∙ ap (λ v. v ++ us) d.3) }

pub head_lacks_inside : (n o : ℕ) {xs : List Sym} → Lacks (ExprUpto true n) xs → Lacks (HeadUpto n) (Mark m.OpenParen o ∷ xs)
head_lacks_inside n o f = record { none = λ a y us d w. f.none d.2 y (Mark m.CloseParen d.1 ∷ us) (d.4, d.5) (head_inside n o us d w) }

pub head_lacks_close : (n o : ℕ) {xs ys : List Sym} {x : Deep Expr} → Found (ExprUpto true n) (InExpr true) xs x ys → ((at : ℕ) (zs : List Sym) → ys ≡ Mark m.CloseParen at ∷ zs → ⊥)
    → Lacks (HeadUpto n) (Mark m.OpenParen o ∷ xs)
head_lacks_close n o f h = record {
  none = λ a y us d w.
      let q = exact f d.2 y (Mark m.CloseParen d.1 ∷ us) (d.4, d.5) (head_inside n o us d w) (ends_here true (Mark m.CloseParen d.1) refl) in
      h d.1 us q.1;
}

-- ---- `Expr ;`

sentence_inside : (n : ℕ) {xs a : List Sym} (us : List Sym) {y : Deep Expr} (d : SentenceUpto n a y) → xs ≡ a ++ us → xs ≡ d.1 ++ (Mark m.Semicolon d.0 ∷ us)
sentence_inside n us d w = w ∙ ap (λ v. v ++ us) d.2 ∙ append_assoc d.1 (Mark m.Semicolon d.0 ∷ []) us

pub sentence_found : (n p : ℕ) {xs ys : List Sym} {x : Deep Expr} → Found (ExprUpto true n) (InExpr true) xs x (Mark m.Semicolon p ∷ ys) → Found (SentenceUpto n) Never xs x ys
sentence_found n p {xs = xs} {ys = ys} {x = x} f = record {
  front = f.front ++ (Mark m.Semicolon p ∷ []);
  whole = f.whole ∙ sym (append_assoc f.front (Mark m.Semicolon p ∷ []) ys);
  derives = (p, f.front, refl, f.derives.0, f.derives.1);
  longest = λ a y us d w.
      let q = exact f d.1 y (Mark m.Semicolon d.0 ∷ us) (d.3, d.4) (sentence_inside n us d w) (ends_here true (Mark m.Semicolon d.0) refl) in
      inl (q.0, cc);
}

pub sentence_lacks : (n : ℕ) {xs : List Sym} → Lacks (ExprUpto true n) xs → Lacks (SentenceUpto n) xs
sentence_lacks n f = record { none = λ a y us d w. f.none d.1 y (Mark m.Semicolon d.0 ∷ us) (d.3, d.4) (sentence_inside n us d w) }

pub sentence_lacks_close : (n : ℕ) {xs ys : List Sym} {x : Deep Expr} → Found (ExprUpto true n) (InExpr true) xs x ys → ((at : ℕ) (zs : List Sym) → ys ≡ Mark m.Semicolon at ∷ zs → ⊥)
    → Lacks (SentenceUpto n) xs
sentence_lacks_close n f h = record {
  none = λ a y us d w.
      let q = exact f d.1 y (Mark m.Semicolon d.0 ∷ us) (d.3, d.4) (sentence_inside n us d w) (ends_here true (Mark m.Semicolon d.0) refl) in
      h d.0 us q.1;
}

-- ---- `Expr?` and a mark

pub optional_cases : {xs : List Sym} {of : Option Expr} {d : ℕ} → IsOptional true xs of d
    → ((xs ≡ []) × (◌≡◌ {A = Deep (Option Expr)} (of, d) (None, 0))) ⊎ ((x : Expr) × (of ≡ Some x) × IsExpr true true xs x d)
optional_cases no_expr = inl (refl, refl)
optional_cases (some_expr {of = of} q) = inr (of, refl, q)

module _ (kind : MarkKind) (ends : (o : ℕ) → is_end (Mark kind o) ≡ true) (n : ℕ) where
  ended_inside : {xs a : List Sym} (us : List Sym) {y : Deep (Option Expr)} (d : EndedUpto kind n a y) → xs ≡ a ++ us → xs ≡ d.1 ++ (Mark kind d.0 ∷ us)
  ended_inside us d w = w ∙ ap (λ v. v ++ us) d.2 ∙ append_assoc d.1 (Mark kind d.0 ∷ []) us

  -- no expression begins with the mark
  mark_first : {a : List Sym} {x : Expr} {d : ℕ} (at : ℕ) (us zs : List Sym) → IsExpr true true a x d → Mark kind at ∷ zs ≡ a ++ us → ⊥
  mark_first at us zs q w =
      let p = expr_first q in
      let e : Mark kind at ∷ zs ≡ p.0 ∷ (p.1 ++ us) = w ∙ ap (λ v. v ++ us) p.2 in
      let s : p.0 ≡ Mark kind at = cc in
      end_no_start p.0 (ap is_end s ∙ ends at) p.3

  pub ended_bare : (at : ℕ) (ys : List Sym) → Found (EndedUpto kind n) Never (Mark kind at ∷ ys) (None, 0) ys
  ended_bare at ys = record {
    front = Mark kind at ∷ [];
    whole = refl;
    derives = (at, [], refl, no_expr, omega arith);
    longest = λ a y us d w.
        let e : Mark kind at ∷ ys ≡ d.1 ++ (Mark kind d.0 ∷ us) = ended_inside us d w in
        elim (optional_cases d.3) [
          | inl p ↦ let i : Mark kind at ∷ ys ≡ Mark kind d.0 ∷ us = e ∙ ap (λ v. v ++ (Mark kind d.0 ∷ us)) p.0 in inl (sym p.1, cc)
          | inr p ↦ absurd (mark_first at (Mark kind d.0 ∷ us) ys p.2 e)
        ];
  }

  ended_with : {xs ys a : List Sym} (us : List Sym) {x : Deep Expr} {y : Deep (Option Expr)} → ((at : ℕ) (zs : List Sym) → xs ≡ Mark kind at ∷ zs → ⊥) → Found (ExprUpto true n) (InExpr true) xs x ys
      → (d : EndedUpto kind n a y) → xs ≡ a ++ us → (◌≡◌ {A = Deep (Option Expr)} (Some x.0, x.1) y) × (ys ≡ Mark kind d.0 ∷ us)
  ended_with {xs = xs} us {x = x} {y = y} h f d w =
      let e : xs ≡ d.1 ++ (Mark kind d.0 ∷ us) = ended_inside us d w in
      elim (optional_cases d.3) [
        | inl p ↦ absurd (h d.0 us (e ∙ ap (λ v. v ++ (Mark kind d.0 ∷ us)) p.0))
        | inr p ↦
            let q = exact f d.1 (p.0, y.1) (Mark kind d.0 ∷ us) (p.2, d.4) e (ends_here true (Mark kind d.0) (ends d.0)) in
            (ap (λ (r : Deep Expr). let v : Deep (Option Expr) = (Some r.0, r.1) in v) q.0 ∙ both (sym p.1) refl, q.1)
      ]

  pub ended_found : (p : ℕ) {xs ys : List Sym} {x : Deep Expr} → ((at : ℕ) (zs : List Sym) → xs ≡ Mark kind at ∷ zs → ⊥)
      → Found (ExprUpto true n) (InExpr true) xs x (Mark kind p ∷ ys) → Found (EndedUpto kind n) Never xs (Some x.0, x.1) ys
  ended_found p {xs = xs} {ys = ys} {x = x} h f = record {
    front = f.front ++ (Mark kind p ∷ []);
    whole = f.whole ∙ sym (append_assoc f.front (Mark kind p ∷ []) ys);
    derives = (p, f.front, refl, some_expr f.derives.0, f.derives.1);
    longest = λ a y us d w. let q = ended_with us h f d w in inl (q.0, cc);
  }

  pub ended_lacks : {xs : List Sym} → ((at : ℕ) (zs : List Sym) → xs ≡ Mark kind at ∷ zs → ⊥) → Lacks (ExprUpto true n) xs → Lacks (EndedUpto kind n) xs
  ended_lacks {xs = xs} h f = record {
    none = λ a y us d w.
        let e : xs ≡ d.1 ++ (Mark kind d.0 ∷ us) = ended_inside us d w in
        elim (optional_cases d.3) [
          | inl p ↦ h d.0 us (e ∙ ap (λ v. v ++ (Mark kind d.0 ∷ us)) p.0)
          | inr p ↦ f.none d.1 (p.0, y.1) (Mark kind d.0 ∷ us) (p.2, d.4) e
        ];
  }

  pub ended_lacks_close : {xs ys : List Sym} {x : Deep Expr} → ((at : ℕ) (zs : List Sym) → xs ≡ Mark kind at ∷ zs → ⊥) → Found (ExprUpto true n) (InExpr true) xs x ys
      → ((at : ℕ) (zs : List Sym) → ys ≡ Mark kind at ∷ zs → ⊥) → Lacks (EndedUpto kind n) xs
  ended_lacks_close h f k = record { none = λ a y us d w. let q = ended_with us h f d w in k d.0 us q.1 }

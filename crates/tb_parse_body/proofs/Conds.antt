-- The longest condition with its branches at the front of a list.
use Rattle.std.proofs.Common.{◌≡◌, ℕ, suc, ◌+◌, ◌≤◌, ◌<◌, max, Bool, true, false, List, [], ◌∷◌, ◌++◌, length, refl, sym, ◌∙◌, ap, subst, inl, inr, arith, append_assoc, length-append}
use Rattle.std.specs.Prelude.{◌⊎◌}
use Rattle.tb_tree.specs.declared.marks.Mark.TheVariants as m
use Rattle.tb_tree.specs.declared.exprs.Expr.{Expr}
use Rattle.tb_tree.specs.declared.exprs.Expr.TheVariants as expr
use Rattle.tb_tree.specs.Sym.{Sym, Mark}
use Rattle.tb_tree.specs.Longest.{Found, Lacks, Ends, Starts}
use Rattle.tb_tree.specs.Shapes.{start_of}
use Rattle.tb_tree.specs.Exprs.{IsExpr, IsCond, or_expr, conditional_expr, IsOr}
use Rattle.tb_tree.proofs.Ends.{exact, shorter, starts_by, wider, both, ap_both, append_three}
use Rattle.tb_parse_body.specs.Rules.{Deep, OrUpto, CondUpto, ExprUpto, BranchesUpto, InOr, InExpr}
use Rattle.tb_parse_body.proofs.Heads.{begun_start, or_begun}
use Rattle.tb_parse_body.proofs.Signs.{question_not_in_or, question_in_expr, or_in_expr, colon_not_in_expr}

-- ---- `? Expr : Expr`

abbrev branches : Deep Expr → Deep Expr → Deep (Expr × Expr)
branches x y = ((x.0, y.0), max x.1 y.1)

pub branches_found : {x y : Deep Expr} {xs ys zs : List Sym} (typed : Bool) (n o p : ℕ) → Found (ExprUpto false n) (InExpr false) xs x (Mark m.Colon p ∷ ys)
    → Found (ExprUpto typed n) (InExpr typed) ys y zs → Found (BranchesUpto typed n) (InExpr typed) (Mark m.Question o ∷ xs) ((x.0, y.0), max x.1 y.1) zs
branches_found {x = x} {y = y} {xs = xs} {ys = ys} {zs = zs} typed n o p f g = record {
  front = Mark m.Question o ∷ f.front ++ Mark m.Colon p ∷ g.front;
  whole = ap (λ v. Mark m.Question o ∷ v) (f.whole ∙ ap (λ v. f.front ++ Mark m.Colon p ∷ v) g.whole ∙ sym (append_assoc f.front (Mark m.Colon p ∷ g.front) zs));
  derives = (o, p, f.front, g.front, x.1, y.1, refl, f.derives.0, g.derives.0, refl, omega (arith, f.derives.1, g.derives.1));
  longest = λ a r vs d w. go a r vs d w;
}
  where
    go : (a : List Sym) (r : Deep (Expr × Expr)) (vs : List Sym) → BranchesUpto typed n a r → Mark m.Question o ∷ xs ≡ a ++ vs → Ends {X = Deep (Expr × Expr)} (InExpr typed) (branches x y) zs r vs
    go a r vs d w =
        let first = d.2 in
        let second = d.3 in
        let whole : Mark m.Question o ∷ xs ≡ (Mark m.Question d.0 ∷ first ++ Mark m.Colon d.1 ∷ second) ++ vs = w ∙ ap (λ v. v ++ vs) d.6 in
        let after : xs ≡ first ++ Mark m.Colon d.1 ∷ second ++ vs = cc in
        let fits : r.1 ≤ n = d.10 in
        let deep : r.1 ≡ max d.4 d.5 = d.9 in
        let e = exact f first (r.0.0, d.4) (Mark m.Colon d.1 ∷ second ++ vs) (d.7, omega (arith, fits, deep)) (after ∙ append_assoc first (Mark m.Colon d.1 ∷ second) vs) (colon_not_in_expr d.1) in
        let behind : Mark m.Colon p ∷ ys ≡ Mark m.Colon d.1 ∷ second ++ vs = e.1 in
        let rest : ys ≡ second ++ vs = cc in
        elim (g.longest second (r.0.1, d.5) vs (d.8, omega (arith, fits, deep)) rest) [
          | inl k ↦ inl (ap_both (λ (x y : Deep Expr). branches x y) e.0 k.0 ∙ ap (λ (n : ℕ). let v : Deep (Expr × Expr) = (r.0, n) in v) (sym deep), k.1)
          | inr k ↦ inr k
        ]

pub branches_lack : {xs : List Sym} (typed : Bool) (n : ℕ) → ((o : ℕ) (vs : List Sym) → xs ≡ Mark m.Question o ∷ vs → ⊥) → Lacks (BranchesUpto typed n) xs
branches_lack typed n h = record { none = λ a r vs d w. h d.0 ((d.2 ++ Mark m.Colon d.1 ∷ d.3) ++ vs) (w ∙ ap (λ v. v ++ vs) d.6) }

pub branches_lack_then : {xs : List Sym} (typed : Bool) (n o : ℕ) → Lacks (ExprUpto false n) xs → Lacks (BranchesUpto typed n) (Mark m.Question o ∷ xs)
branches_lack_then {xs = xs} typed n o f = record {
  none = λ a r vs d w.
      let whole : Mark m.Question o ∷ xs ≡ (Mark m.Question d.0 ∷ d.2 ++ Mark m.Colon d.1 ∷ d.3) ++ vs = w ∙ ap (λ v. v ++ vs) d.6 in
      let after : xs ≡ d.2 ++ Mark m.Colon d.1 ∷ d.3 ++ vs = cc in
      f.none d.2 (r.0.0, d.4) (Mark m.Colon d.1 ∷ d.3 ++ vs) (d.7, omega (arith, d.10, d.9)) (after ∙ append_assoc d.2 (Mark m.Colon d.1 ∷ d.3) vs);
}

branches_first : {x : Deep Expr} {xs ys : List Sym} (typed : Bool) (n o : ℕ) → Found (ExprUpto false n) (InExpr false) xs x ys
    → ((p : ℕ) (bs us : List Sym) (z : Expr) (k : ℕ) → IsExpr true typed bs z k → k ≤ n → ys ≡ Mark m.Colon p ∷ bs ++ us → ⊥) → Lacks (BranchesUpto typed n) (Mark m.Question o ∷ xs)
branches_first {xs = xs} typed n o f h = record {
  none = λ a r vs d w.
      let whole : Mark m.Question o ∷ xs ≡ (Mark m.Question d.0 ∷ d.2 ++ Mark m.Colon d.1 ∷ d.3) ++ vs = w ∙ ap (λ v. v ++ vs) d.6 in
      let after : xs ≡ d.2 ++ Mark m.Colon d.1 ∷ d.3 ++ vs = cc in
      let e = exact f d.2 (r.0.0, d.4) (Mark m.Colon d.1 ∷ d.3 ++ vs) (d.7, omega (arith, d.10, d.9)) (after ∙ append_assoc d.2 (Mark m.Colon d.1 ∷ d.3) vs) (colon_not_in_expr d.1) in
      h d.1 d.3 vs r.0.1 d.5 d.8 (omega (arith, d.10, d.9)) e.1;
}

pub branches_lack_colon : {x : Deep Expr} {xs ys : List Sym} (typed : Bool) (n o : ℕ) → Found (ExprUpto false n) (InExpr false) xs x ys → ((p : ℕ) (vs : List Sym) → ys ≡ Mark m.Colon p ∷ vs → ⊥)
    → Lacks (BranchesUpto typed n) (Mark m.Question o ∷ xs)
branches_lack_colon typed n o f h = branches_first typed n o f (λ p bs us z k q le w. h p (bs ++ us) w)

pub branches_lack_else : {x : Deep Expr} {xs ys : List Sym} (typed : Bool) (n o p : ℕ) → Found (ExprUpto false n) (InExpr false) xs x (Mark m.Colon p ∷ ys) → Lacks (ExprUpto typed n) ys
    → Lacks (BranchesUpto typed n) (Mark m.Question o ∷ xs)
branches_lack_else {ys = ys} typed n o p f g = branches_first typed n o f (λ i bs us z k q le w. let after : ys ≡ bs ++ us = cc in g.none bs (z, k) us (q, le) after)

-- ---- a condition

pub cond_or : {x : Expr} {d : ℕ} {xs ys : List Sym} (typed : Bool) (low n : ℕ) → (d < n → n ≡ low + 1) → Found (OrUpto n) InOr xs (x, d) ys → (d < n → Lacks (BranchesUpto typed low) ys)
    → Found (CondUpto typed n) (InExpr typed) xs (x, d) ys
cond_or {x = x} {d = d} {xs = xs} {ys = ys} typed low n is f h = record {
  front = f.front;
  whole = f.whole;
  derives = (or_expr f.derives.0, f.derives.1);
  longest = λ a y vs i w. go vs i.0 i.1 w;
}
  where
    go : {u : Expr} {a : List Sym} {k : ℕ} (vs : List Sym) → IsCond true typed a u k → k ≤ n → xs ≡ a ++ vs → Ends {X = Deep Expr} (InExpr typed) (x, d) ys (u, k) vs
    go {u = u} {a = a} {k = k} vs (or_expr q) le w = (wider (or_in_expr typed) f).longest a (u, k) vs (q, le) w
    go vs (conditional_expr o p {xs = a} {ys = b} {zs = c} {condition = u} {then = v} {otherwise = z} {d = i} {e = j} {f = k} q r s) le w =
        let front : xs ≡ a ++ (Mark m.Question o ∷ b ++ (Mark m.Colon p ∷ c ++ vs)) = w ∙ append_three a (Mark m.Question o ∷ b) (Mark m.Colon p ∷ c) vs in
        let e = exact f a (u, i) (Mark m.Question o ∷ b ++ (Mark m.Colon p ∷ c ++ vs)) (q, omega (arith, le)) front (question_not_in_or o) in
        let deep : d ≡ i = ap (λ (r : Deep Expr). r.1) e.0 in
        let below : d < n = omega (arith, deep, le) in
        absurd ((h below).none (Mark m.Question o ∷ b ++ Mark m.Colon p ∷ c) ((v, z), max j k) vs (o, p, b, c, j, k, refl, r, s, refl, omega (arith, le, is below))
        (e.1 ∙ sym (append_assoc (Mark m.Question o ∷ b) (Mark m.Colon p ∷ c) vs)))

abbrev condition : ℕ → Deep Expr → Deep (Expr × Expr) → Deep Expr
condition at x r = (expr.Conditional at x.0 r.0.0 r.0.1, max x.1 r.1 + 1)

pub cond_branches : {x : Expr} {d : ℕ} {r : Deep (Expr × Expr)} {xs ys zs : List Sym} (typed : Bool) (at low n : ℕ) → n ≡ low + 1 → d < n → at ≡ start_of xs → Found (OrUpto n) InOr xs (x, d) ys
    → Found (BranchesUpto typed low) (InExpr typed) ys r zs → Found (CondUpto typed n) (InExpr typed) xs (expr.Conditional at x r.0.0 r.0.1, max d r.1 + 1) zs
cond_branches {x = x} {d = d} {r = r} {xs = xs} {ys = ys} {zs = zs} typed at low n is below place f g = record {
  front = f.front ++ g.front;
  whole = f.whole ∙ ap (λ v. f.front ++ v) g.whole ∙ sym (append_assoc f.front g.front zs);
  derives = (made g.derives, omega (arith, is, below, g.derives.10));
  longest = λ a y vs i w. go vs i.0 i.1 w;
}
  where
    made : BranchesUpto typed low g.front r → IsCond true typed (f.front ++ g.front) (expr.Conditional at x r.0.0 r.0.1) (max d r.1 + 1)
    made b =
        let c = conditional_expr b.0 b.1 f.derives.0 b.7 b.8 in
        let here : start_of f.front ≡ at = sym (place ∙ ap start_of f.whole ∙ begun_start ys (or_begun f.derives.0)) in
        let parts : f.front ++ Mark m.Question b.0 ∷ b.2 ++ Mark m.Colon b.1 ∷ b.3 ≡ f.front ++ g.front =
        append_assoc f.front (Mark m.Question b.0 ∷ b.2) (Mark m.Colon b.1 ∷ b.3) ∙ ap (λ v. f.front ++ v) (sym b.6) in
        subst (λ v. IsCond true typed v (expr.Conditional at x r.0.0 r.0.1) (max d r.1 + 1)) parts
        (subst (λ (i : ℕ). IsCond true typed (f.front ++ Mark m.Question b.0 ∷ b.2 ++ Mark m.Colon b.1 ∷ b.3) (expr.Conditional i x r.0.0 r.0.1) (max d r.1 + 1)) here
        (subst (λ (i : ℕ). IsCond true typed (f.front ++ Mark m.Question b.0 ∷ b.2 ++ Mark m.Colon b.1 ∷ b.3) (expr.Conditional (start_of f.front) x r.0.0 r.0.1) (max d i + 1)) (sym b.9) c))

    -- branches begin with `?`
    question : ys ≡ Mark m.Question g.derives.0 ∷ (g.derives.2 ++ Mark m.Colon g.derives.1 ∷ g.derives.3) ++ zs
    question = g.whole ∙ ap (λ v. v ++ zs) g.derives.6

    go : {u : Expr} {a : List Sym} {k : ℕ} (vs : List Sym) → IsCond true typed a u k → k ≤ n → xs ≡ a ++ vs → Ends {X = Deep Expr} (InExpr typed) (condition at (x, d) r) zs (u, k) vs
    go {u = u} {a = a} {k = k} vs (or_expr q) le w = elim ((wider (or_in_expr typed) f).longest a (u, k) vs (q, le) w) [
      | inl e ↦ inr (
        omega (arith, ap length (sym question ∙ e.1), length-append (g.derives.2 ++ Mark m.Colon g.derives.1 ∷ g.derives.3) zs),
        subst (λ v. Starts (InExpr typed) v) (sym question ∙ e.1) (question_in_expr typed g.derives.0),
      )
      | inr e ↦ inr (omega (arith, e.0, shorter g), e.1)
    ]
    go vs (conditional_expr o p {xs = a} {ys = b} {zs = c} {condition = u} {then = v} {otherwise = z} {d = i} {e = j} {f = k} q s t) le w =
        let front : xs ≡ a ++ (Mark m.Question o ∷ b ++ (Mark m.Colon p ∷ c ++ vs)) = w ∙ append_three a (Mark m.Question o ∷ b) (Mark m.Colon p ∷ c) vs in
        let e = exact f a (u, i) (Mark m.Question o ∷ b ++ (Mark m.Colon p ∷ c ++ vs)) (q, omega (arith, le)) front (question_not_in_or o) in
        let here : at ≡ start_of a = place ∙ ap start_of front ∙ begun_start (Mark m.Question o ∷ b ++ (Mark m.Colon p ∷ c ++ vs)) (or_begun q) in
        elim (g.longest (Mark m.Question o ∷ b ++ Mark m.Colon p ∷ c) ((v, z), max j k) vs (o, p, b, c, j, k, refl, s, t, refl, omega (arith, le, is))
        (e.1 ∙ sym (append_assoc (Mark m.Question o ∷ b) (Mark m.Colon p ∷ c) vs))) [
          | inl l ↦ inl (same here e.0 l.0, l.1)
          | inr l ↦ inr l
        ]
      where
        same : {i : ℕ} {y : Deep Expr} {s : Deep (Expr × Expr)} → at ≡ i → ◌≡◌ {A = Deep Expr} (x, d) y → r ≡ s → condition at (x, d) r ≡ condition i y s
        same {i = i} {s = s} h e k =
            ap (λ (i : ℕ). condition i (x, d) r) h ∙ ap_both (λ (y : Deep Expr) (s : Deep (Expr × Expr)). condition i y s) e k

pub cond_lacks : {xs : List Sym} (typed : Bool) (n : ℕ) → Lacks (OrUpto n) xs → Lacks (CondUpto typed n) xs
cond_lacks {xs = xs} typed n f = record { none = λ a y vs i w. go vs i.0 i.1 w }
  where
    go : {u : Expr} {a : List Sym} {k : ℕ} (vs : List Sym) → IsCond true typed a u k → k ≤ n → xs ≡ a ++ vs → ⊥
    go {u = u} {a = a} {k = k} vs (or_expr q) le w = f.none a (u, k) vs (q, le) w
    go vs (conditional_expr o p {xs = a} {ys = b} {zs = c} {condition = u} {d = i} q r s) le w =
        f.none a (u, i) (Mark m.Question o ∷ b ++ (Mark m.Colon p ∷ c ++ vs)) (q, omega (arith, le)) (w ∙ append_three a (Mark m.Question o ∷ b) (Mark m.Colon p ∷ c) vs)

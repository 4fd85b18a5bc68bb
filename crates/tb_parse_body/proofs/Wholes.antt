-- The longest expression at the front of a list, where it is no arrow.
use Rattle.std.proofs.Common.{◌≡◌, ℕ, suc, ◌+◌, ◌≤◌, ◌<◌, max, Bool, true, false, List, [], ◌∷◌, ◌++◌, length, refl, sym, ◌∙◌, ap, subst, inl, inr, arith, append_assoc, length-append}
use Rattle.std.specs.Prelude.{Option, Some, None, ◌⊎◌}
use Rattle.tb_tree.specs.declared.marks.Mark.TheVariants as m
use Rattle.tb_tree.specs.declared.exprs.AssignOperator.{AssignOperator}
use Rattle.tb_tree.specs.declared.exprs.Expr.{Expr}
use Rattle.tb_tree.specs.declared.exprs.Expr.TheVariants as expr
use Rattle.tb_tree.specs.Sym.{Sym, Mark}
use Rattle.tb_tree.specs.Longest.{Found, Lacks, Ends, Starts}
use Rattle.tb_tree.specs.Shapes.{start_of}
use Rattle.tb_tree.specs.Exprs.{assign_of, is_target, is_target_at, IsExpr, arrow_expr, short_arrow_expr, assign_expr, cond_expr, IsCond, or_expr, conditional_expr, IsOr, level_expr, nullish_expr, IsNullish, first_nullish, next_nullish, IsLevel, unary_operand, next_level, joined_expr, as_expr, IsUnary, prefix_expr, update_before, update_after, chain_expr, IsChain}
use Rattle.tb_tree.proofs.Ends.{exact, shorter, starts_by, wider, both, ap_both, append_three}
use Rattle.tb_parse_body.specs.Rules.{Deep, LevelUpto, UnaryUpto, OrUpto, CondUpto, ExprUpto, ArrowUpto, IsArrow, arrow, short_arrow, AssignedUpto, InOr, InExpr}
use Rattle.tb_parse_body.proofs.Heads.{begun_start, or_begun, chain_begun}
use Rattle.tb_parse_body.proofs.Signs.{question_not_in_or, assign_not_in_or, assign_in_expr, or_in_expr, question_not_assign}
use Rattle.tb_parse_body.proofs.Joining.{unary_level_lacks, level_lacks}
use Rattle.tb_parse_body.proofs.Ors.{or_lacks}
use Rattle.tb_parse_body.proofs.Conds.{cond_lacks}

-- ---- a target is a chain

no_target : (of u : Expr) → of ≡ u → is_target u ≡ false → is_target of ≡ true → ⊥
no_target of u i h t = let n : false ≡ true = sym h ∙ sym (ap is_target i) ∙ t in cc

target_unary : {xs : List Sym} {of : Expr} {d : ℕ} → is_target of ≡ true → IsUnary true xs of d → IsChain true xs of d
target_unary t (prefix_expr s {operator = o} {of = x} h q) = absurd (no_target _ _ refl (ap is_target_at (expr.outs-Unary _ o x)) t)
target_unary t (update_before s {operator = o} {of = x} h q z) = absurd (no_target _ _ refl (ap is_target_at (expr.outs-Update _ o true x)) t)
target_unary t (update_after s {operator = o} {of = x} q z h) = absurd (no_target _ _ refl (ap is_target_at (expr.outs-Update _ o false x)) t)
target_unary t (chain_expr q) = q

target_level : {l : ℕ} {xs : List Sym} {of : Expr} {d : ℕ} → is_target of ≡ true → IsLevel true l xs of d → IsChain true xs of d
target_level t (unary_operand e q) = target_unary t q
target_level t (next_level q) = target_level t q
target_level t (joined_expr s {operator = o} {left = x} {right = y} q h i r) = absurd (no_target _ _ refl (ap is_target_at (expr.outs-Binary _ x o y)) t)
target_level t (as_expr s o {of = x} {shape = z} e q r h) = absurd (no_target _ _ refl (ap is_target_at (expr.outs-As _ x z)) t)

target_nullish : {xs : List Sym} {of : Expr} {d : ℕ} → is_target of ≡ true → IsNullish true xs of d → ⊥
target_nullish t (first_nullish o {left = x} {right = y} q r) = no_target _ _ refl (ap is_target_at (expr.outs-Binary _ x _ y)) t
target_nullish t (next_nullish o {left = x} {right = y} q r) = no_target _ _ refl (ap is_target_at (expr.outs-Binary _ x _ y)) t

pub target_or : {xs : List Sym} {of : Expr} {d : ℕ} → is_target of ≡ true → IsOr true xs of d → IsChain true xs of d
target_or t (level_expr q) = target_level t q
target_or t (nullish_expr q) = absurd (target_nullish t q)

level_down_from : {xs : List Sym} {of : Expr} {d : ℕ} → IsLevel true 7 xs of d → IsLevel true 1 xs of d
level_down_from q = next_level (next_level (next_level (next_level (next_level (next_level q)))))

pub chain_or : {xs : List Sym} {of : Expr} {d : ℕ} → IsChain true xs of d → IsOr true xs of d
chain_or q = level_expr (level_down_from (unary_operand refl (chain_expr q)))

-- ---- an operator that writes a target, and its value

pub assigned_found : {x : Deep Expr} {xs ys : List Sym} (typed : Bool) (n : ℕ) (s : Sym) {o : AssignOperator} → assign_of s ≡ Some o → Found (ExprUpto typed n) (InExpr typed) xs x ys
    → Found (AssignedUpto typed n) (InExpr typed) (s ∷ xs) ((o, x.0), x.1) ys
assigned_found {x = x} {xs = xs} {ys = ys} typed n s {o = o} h f = record {
  front = s ∷ f.front;
  whole = ap (λ v. s ∷ v) f.whole;
  derives = (s, f.front, refl, h, f.derives.0, f.derives.1);
  longest = λ a y vs d w. go a y vs d w;
}
  where
    same : {p : AssignOperator} {q : Deep Expr} → o ≡ p → x ≡ q → ◌≡◌ {A = Deep (AssignOperator × Expr)} ((o, x.0), x.1) ((p, q.0), q.1)
    same {q = q} e k =
        ap (λ (q : Deep Expr). let y : Deep (AssignOperator × Expr) = ((o, q.0), q.1) in y) k
        ∙ ap (λ (p : AssignOperator). let y : Deep (AssignOperator × Expr) = ((p, q.0), q.1) in y) e

    go : (a : List Sym) (y : Deep (AssignOperator × Expr)) (vs : List Sym) → AssignedUpto typed n a y → s ∷ xs ≡ a ++ vs → Ends {X = Deep (AssignOperator × Expr)} (InExpr typed) ((o, x.0), x.1) ys y vs
    go a y vs d w =
        let e : s ∷ xs ≡ d.0 ∷ d.1 ++ vs = w ∙ ap (λ v. v ++ vs) d.2 in
        let sign : s ≡ d.0 = cc in
        let after : xs ≡ d.1 ++ vs = cc in
        let signs : Some o ≡ Some y.0.0 = sym h ∙ ap assign_of sign ∙ d.3 in
        let operators : o ≡ y.0.0 = cc in
        elim (f.longest d.1 (y.0.1, y.1) vs (d.4, d.5) after) [
          | inl k ↦ inl (same operators k.0, k.1)
          | inr k ↦ inr k
        ]

pub assigned_lacks : {xs : List Sym} (typed : Bool) (n : ℕ) → ((s : Sym) (o : AssignOperator) (vs : List Sym) → assign_of s ≡ Some o → xs ≡ s ∷ vs → ⊥) → Lacks (AssignedUpto typed n) xs
assigned_lacks typed n h = record { none = λ a y vs d w. h d.0 y.0.0 (d.1 ++ vs) d.3 (w ∙ ap (λ v. v ++ vs) d.2) }

pub assigned_lacks_value : {xs : List Sym} (typed : Bool) (n : ℕ) (s : Sym) → Lacks (ExprUpto typed n) xs → Lacks (AssignedUpto typed n) (s ∷ xs)
assigned_lacks_value {xs = xs} typed n s f = record {
  none = λ a y vs d w.
      let e : s ∷ xs ≡ d.0 ∷ d.1 ++ vs = w ∙ ap (λ v. v ++ vs) d.2 in
      let after : xs ≡ d.1 ++ vs = cc in
      f.none d.1 (y.0.1, y.1) vs (d.4, d.5) after;
}

-- ---- expressions

-- where no arrow derives, an expression is an assignment or a condition
pub expr_cond : {x r : Deep Expr} {xs ys zs : List Sym} (typed : Bool) (low n : ℕ) → (x.1 < n → n ≡ low + 1) → Lacks (ArrowUpto typed n) xs → Found (OrUpto n) InOr xs x ys
    → (is_target x.0 ≡ true → x.1 < n → Lacks (AssignedUpto typed low) ys) → Found (CondUpto typed n) (InExpr typed) xs r zs → Found (ExprUpto typed n) (InExpr typed) xs r zs
expr_cond {x = x} {r = r} {xs = xs} {ys = ys} {zs = zs} typed low n is without f h g = record {
  front = g.front;
  whole = g.whole;
  derives = (cond_expr g.derives.0, g.derives.1);
  longest = λ a y vs i w. go vs i.0 i.1 w;
}
  where
    go : {u : Expr} {a : List Sym} {k : ℕ} (vs : List Sym) → IsExpr true typed a u k → k ≤ n → xs ≡ a ++ vs → Ends {X = Deep Expr} (InExpr typed) r zs (u, k) vs
    go {u = u} {a = a} {k = k} vs (arrow_expr o p q s t v) le w = absurd (without.none a (u, k) vs (arrow o p q s t v, le) w)
    go {u = u} {a = a} {k = k} vs (short_arrow_expr s o p q t) le w = absurd (without.none a (u, k) vs (short_arrow s o p q t, le) w)
    go vs (assign_expr s {operator = o} {xs = a} {ys = b} {target = u} {value = v} {d = i} {e = j} q t k p) le w =
        let front : xs ≡ a ++ (s ∷ b ++ vs) = w ∙ append_assoc a (s ∷ b) vs in
        let e = exact f a (u, i) (s ∷ b ++ vs) (chain_or q, omega (arith, le)) front (assign_not_in_or s k) in
        let target : is_target x.0 ≡ true = ap (λ (r : Deep Expr). is_target r.0) e.0 ∙ t in
        let deep : x.1 ≡ i = ap (λ (r : Deep Expr). r.1) e.0 in
        let below : x.1 < n = omega (arith, deep, le) in
        absurd ((h target below).none (s ∷ b) ((o, v), j) vs (s, b, refl, k, p, omega (arith, le, is below)) e.1)
    go {u = u} {a = a} {k = k} vs (cond_expr q) le w = g.longest a (u, k) vs (q, le) w

abbrev assignment : ℕ → Deep Expr → Deep (AssignOperator × Expr) → Deep Expr
assignment at x r = (expr.Assign at x.0 r.0.0 r.0.1, max x.1 r.1 + 1)

pub expr_assigned : {x : Expr} {d : ℕ} {r : Deep (AssignOperator × Expr)} {xs ys zs : List Sym} (typed : Bool) (at low n : ℕ) → n ≡ low + 1 → d < n → at ≡ start_of xs → is_target x ≡ true
    → Lacks (ArrowUpto typed n) xs → Found (OrUpto n) InOr xs (x, d) ys → Found (AssignedUpto typed low) (InExpr typed) ys r zs
    → Found (ExprUpto typed n) (InExpr typed) xs (expr.Assign at x r.0.0 r.0.1, max d r.1 + 1) zs
expr_assigned {x = x} {d = d} {r = r} {xs = xs} {ys = ys} {zs = zs} typed at low n is below place target without f g = record {
  front = f.front ++ g.front;
  whole = f.whole ∙ ap (λ v. f.front ++ v) g.whole ∙ sym (append_assoc f.front g.front zs);
  derives = (made g.derives, omega (arith, is, below, g.derives.5));
  longest = λ a y vs i w. go vs i.0 i.1 w;
}
  where
    made : AssignedUpto typed low g.front r → IsExpr true typed (f.front ++ g.front) (expr.Assign at x r.0.0 r.0.1) (max d r.1 + 1)
    made b =
        let c = assign_expr b.0 (target_or target f.derives.0) target b.3 b.4 in
        let here : start_of f.front ≡ at = sym (place ∙ ap start_of f.whole ∙ begun_start ys (or_begun f.derives.0)) in
        subst (λ v. IsExpr true typed (f.front ++ v) (expr.Assign at x r.0.0 r.0.1) (max d r.1 + 1)) (sym b.2)
        (subst (λ (i : ℕ). IsExpr true typed (f.front ++ b.0 ∷ b.1) (expr.Assign i x r.0.0 r.0.1) (max d r.1 + 1)) here c)

    -- what is assigned begins with an operator
    sign : ys ≡ g.derives.0 ∷ g.derives.1 ++ zs
    sign = g.whole ∙ ap (λ v. v ++ zs) g.derives.2

    cond : {u : Expr} {a : List Sym} {k : ℕ} (vs : List Sym) → IsCond true typed a u k → k ≤ n → xs ≡ a ++ vs → Ends {X = Deep Expr} (InExpr typed) (assignment at (x, d) r) zs (u, k) vs
    cond {u = u} {a = a} {k = k} vs (or_expr q) le w = elim ((wider (or_in_expr typed) f).longest a (u, k) vs (q, le) w) [
      | inl e ↦ inr (omega (arith, ap length (sym sign ∙ e.1), length-append g.derives.1 zs), subst (λ v. Starts (InExpr typed) v) (sym sign ∙ e.1) (assign_in_expr typed g.derives.0 g.derives.3))
      | inr e ↦ inr (omega (arith, e.0, shorter g), e.1)
    ]
    cond vs (conditional_expr o p {xs = a} {ys = b} {zs = c} {condition = u} {d = i} q s t) le w =
        let front : xs ≡ a ++ (Mark m.Question o ∷ b ++ (Mark m.Colon p ∷ c ++ vs)) = w ∙ append_three a (Mark m.Question o ∷ b) (Mark m.Colon p ∷ c) vs in
        let e = exact f a (u, i) (Mark m.Question o ∷ b ++ (Mark m.Colon p ∷ c ++ vs)) (q, omega (arith, le)) front (question_not_in_or o) in
        let signs : g.derives.0 ∷ g.derives.1 ++ zs ≡ Mark m.Question o ∷ b ++ (Mark m.Colon p ∷ c ++ vs) = sym sign ∙ e.1 in
        let same : g.derives.0 ≡ Mark m.Question o = cc in
        absurd (question_not_assign o (sym (ap assign_of same) ∙ g.derives.3))

    go : {u : Expr} {a : List Sym} {k : ℕ} (vs : List Sym) → IsExpr true typed a u k → k ≤ n → xs ≡ a ++ vs → Ends {X = Deep Expr} (InExpr typed) (assignment at (x, d) r) zs (u, k) vs
    go {u = u} {a = a} {k = k} vs (arrow_expr o p q s t v) le w = absurd (without.none a (u, k) vs (arrow o p q s t v, le) w)
    go {u = u} {a = a} {k = k} vs (short_arrow_expr s o p q t) le w = absurd (without.none a (u, k) vs (short_arrow s o p q t, le) w)
    go vs (assign_expr s {operator = o} {xs = a} {ys = b} {target = u} {value = v} {d = i} {e = j} q t k p) le w =
        let front : xs ≡ a ++ (s ∷ b ++ vs) = w ∙ append_assoc a (s ∷ b) vs in
        let e = exact f a (u, i) (s ∷ b ++ vs) (chain_or q, omega (arith, le)) front (assign_not_in_or s k) in
        let here : at ≡ start_of a = place ∙ ap start_of front ∙ begun_start (s ∷ b ++ vs) (chain_begun q) in
        elim (g.longest (s ∷ b) ((o, v), j) vs (s, b, refl, k, p, omega (arith, le, is)) e.1) [
          | inl l ↦ inl (same here e.0 l.0, l.1)
          | inr l ↦ inr l
        ]
      where
        same : {i : ℕ} {y : Deep Expr} {s : Deep (AssignOperator × Expr)} → at ≡ i → ◌≡◌ {A = Deep Expr} (x, d) y → r ≡ s → assignment at (x, d) r ≡ assignment i y s
        same {i = i} h e k =
            ap (λ (i : ℕ). assignment i (x, d) r) h ∙ ap_both (λ (y : Deep Expr) (s : Deep (AssignOperator × Expr)). assignment i y s) e k
    go vs (cond_expr q) le w = cond vs q le w

-- no operand begins here
pub expr_lacks : {xs : List Sym} (typed : Bool) (n : ℕ) → Lacks (ArrowUpto typed n) xs → Lacks (UnaryUpto n) xs → Lacks (ExprUpto typed n) xs
expr_lacks {xs = xs} typed n without f = record { none = λ a y vs i w. go vs i.0 i.1 w }
  where
    ors : Lacks (OrUpto n) xs
    ors =
        let product = level_lacks {l = 6} n (λ h. omega (arith, h)) (unary_level_lacks 7 n refl f) in
        let sum = level_lacks {l = 5} n (λ h. omega (arith, h)) product in
        let relation = level_lacks {l = 4} n (λ h. omega (arith, h)) sum in
        or_lacks n (level_lacks {l = 3} n (λ h. omega (arith, h)) relation)

    go : {u : Expr} {a : List Sym} {k : ℕ} (vs : List Sym) → IsExpr true typed a u k → k ≤ n → xs ≡ a ++ vs → ⊥
    go {u = u} {a = a} {k = k} vs (arrow_expr o p q s t v) le w = without.none a (u, k) vs (arrow o p q s t v, le) w
    go {u = u} {a = a} {k = k} vs (short_arrow_expr s o p q t) le w = without.none a (u, k) vs (short_arrow s o p q t, le) w
    go vs (assign_expr s {xs = a} {ys = b} {target = u} {d = i} q t k p) le w = ors.none a (u, i) (s ∷ b ++ vs) (chain_or q, omega (arith, le)) (w ∙ append_assoc a (s ∷ b) vs)
    go {u = u} {a = a} {k = k} vs (cond_expr q) le w = (cond_lacks typed n ors).none a (u, k) vs (q, le) w

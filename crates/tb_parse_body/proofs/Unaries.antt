-- The longest unary at the front of a list.
use Rattle.std.proofs.Common.{◌≡◌, ℕ, ◌+◌, ◌≤◌, ◌<◌, Bool, true, false, List, [], ◌∷◌, ◌++◌, length, refl, sym, ◌∙◌, ap, subst, inl, inr, arith, append_assoc, append-nil, length-append}
use Rattle.std.specs.Prelude.{Option, Some, None, ◌⊎◌}
use Rattle.tb_tree.specs.declared.exprs.UpdateOperator.{UpdateOperator}
use Rattle.tb_tree.specs.declared.exprs.UnaryOperator.{UnaryOperator}
use Rattle.tb_tree.specs.declared.exprs.Expr.{Expr}
use Rattle.tb_tree.specs.declared.exprs.Expr.TheVariants as expr
use Rattle.tb_tree.specs.Sym.{Sym, at_of}
use Rattle.tb_tree.specs.Longest.{Found, Lacks, Ends, Starts, Never}
use Rattle.tb_tree.specs.Shapes.{start_of}
use Rattle.tb_tree.specs.Exprs.{unary_of, update_of, is_target, IsUnary, prefix_expr, update_before, update_after, chain_expr, IsChain}
use Rattle.tb_tree.proofs.Ends.{exact, shorter, wider, starts_by, ap_both, both}
use Rattle.tb_parse_body.specs.Rules.{Deep, PrimaryUpto, ChainUpto, TargetUpto, UnaryUpto, InChain, InUnary}
use Rattle.tb_parse_body.proofs.Heads.{begun_start, chain_begun, unary_begun, chain_operand, chain_deep, unary_deep, primed}
use Rattle.tb_parse_body.proofs.Signs.{update_not_chain, update_in_unary, update_not_prefix, chain_in_unary}

-- ---- where a chain begins no operator stands

pub prefix_no_chain : {a : List Sym} {u : Expr} {j : ℕ} (s : Sym) {p : UnaryOperator} (xs vs : List Sym) → unary_of s ≡ Some p → IsChain true a u j → s ∷ xs ≡ a ++ vs → ⊥
prefix_no_chain s xs vs h q w =
    let b = chain_operand q in
    let e : s ∷ xs ≡ b.head ∷ b.tail ++ vs = w ∙ ap (λ v. v ++ vs) b.whole in
    let i : s ≡ b.head = cc in
    let n : Some _ ≡ None = sym h ∙ ap unary_of i ∙ b.no_unary in
    cc

pub update_no_chain : {a : List Sym} {u : Expr} {j : ℕ} (s : Sym) {p : UpdateOperator} (xs vs : List Sym) → update_of s ≡ Some p → IsChain true a u j → s ∷ xs ≡ a ++ vs → ⊥
update_no_chain s xs vs h q w =
    let b = chain_operand q in
    let e : s ∷ xs ≡ b.head ∷ b.tail ++ vs = w ∙ ap (λ v. v ++ vs) b.whole in
    let i : s ≡ b.head = cc in
    let n : Some _ ≡ None = sym h ∙ ap update_of i ∙ b.no_update in
    cc

-- no operator stands where a chain was read
chain_no_prefix : {xs ys : List Sym} {r : Deep Expr} {s : Sym} {p : UnaryOperator} (n : ℕ) (vs : List Sym) → Found (ChainUpto n) InChain xs r ys → unary_of s ≡ Some p → xs ≡ s ∷ vs → ⊥
chain_no_prefix {ys = ys} {s = s} n vs f h w = prefix_no_chain s vs ys h f.derives.0 (sym w ∙ f.whole)

chain_no_update : {xs ys : List Sym} {r : Deep Expr} {s : Sym} {p : UpdateOperator} (n : ℕ) (vs : List Sym) → Found (ChainUpto n) InChain xs r ys → update_of s ≡ Some p → xs ≡ s ∷ vs → ⊥
chain_no_update {ys = ys} {s = s} n vs f h w = update_no_chain s vs ys h f.derives.0 (sym w ∙ f.whole)

-- ---- a chain, with `++` or `--` behind it or not

-- no update is behind it
pub unary_chain : {xs ys : List Sym} {x : Expr} {d : ℕ} (n : ℕ) → Found (ChainUpto n) InChain xs (x, d) ys
    → (is_target x ≡ true → d + 1 ≤ n → (s : Sym) (o : UpdateOperator) (vs : List Sym) → update_of s ≡ Some o → ys ≡ s ∷ vs → ⊥)
    → Found (UnaryUpto n) InUnary xs (x, d) ys
unary_chain {xs = xs} {ys = ys} {x = x} {d = d} n f h = record {
  front = f.front;
  whole = f.whole;
  derives = (chain_expr f.derives.0, f.derives.1);
  longest = λ a y vs q w. go vs q.0 q.1 w;
}
  where
    go : {u : Expr} {a : List Sym} {j : ℕ} (vs : List Sym) → IsUnary true a u j → j ≤ n → xs ≡ a ++ vs → Ends {X = Deep Expr} InUnary (x, d) ys (u, j) vs
    go vs (prefix_expr s {xs = b} o q) le w = absurd (chain_no_prefix n (b ++ vs) f o w)
    go vs (update_before s {xs = b} o q t) le w = absurd (chain_no_update n (b ++ vs) f o w)
    go vs (update_after s {operator = p} {xs = b} {of = u} {d = j} q t o) le w =
        let e = exact f b (u, j) (s ∷ vs) (q, omega (arith, le)) (w ∙ append_assoc b (s ∷ []) vs) (update_not_chain s o) in
        let same : x ≡ u = ap (λ (r : Deep Expr). r.0) e.0 in
        let deep : d ≡ j = ap (λ (r : Deep Expr). r.1) e.0 in
        absurd (h (ap is_target same ∙ t) (omega (arith, deep, le)) s p vs o e.1)
    go {u = u} {a = a} {j = j} vs (chain_expr q) le w = (wider chain_in_unary f).longest a (u, j) vs (q, le) w

pub unary_after : {xs ys : List Sym} {x : Expr} {d : ℕ} {s : Sym} {o : UpdateOperator} (n at : ℕ) → at ≡ start_of xs → Found (ChainUpto n) InChain xs (x, d) (s ∷ ys)
    → is_target x ≡ true → d + 1 ≤ n → update_of s ≡ Some o → Found (UnaryUpto n) InUnary xs (expr.Update at o false x, d + 1) ys
unary_after {xs = xs} {ys = ys} {x = x} {d = d} {s = s} {o = o} n at place f target le h = record {
  front = f.front ++ s ∷ [];
  whole = f.whole ∙ sym (append_assoc f.front (s ∷ []) ys);
  derives = (
    subst (λ (p : ℕ). IsUnary true (f.front ++ s ∷ []) (expr.Update p o false x) (d + 1)) (sym (place ∙ ap start_of f.whole ∙ begun_start (s ∷ ys) (chain_begun f.derives.0)))
        (update_after s f.derives.0 target h),
    le,
  );
  longest = λ a y vs q w. go vs q.0 q.1 w;
}
  where
    go : {u : Expr} {a : List Sym} {j : ℕ} (vs : List Sym) → IsUnary true a u j → j ≤ n → xs ≡ a ++ vs → Ends {X = Deep Expr} InUnary (expr.Update at o false x, d + 1) ys (u, j) vs
    go vs (prefix_expr t {xs = b} i q) l w = absurd (chain_no_prefix n (b ++ vs) f i w)
    go vs (update_before t {xs = b} i q z) l w = absurd (chain_no_update n (b ++ vs) f i w)
    go vs (update_after t {operator = p} {xs = b} {of = u} {d = j} q z i) l w =
        let front : xs ≡ b ++ (t ∷ vs) = w ∙ append_assoc b (t ∷ []) vs in
        let e = exact f b (u, j) (t ∷ vs) (q, omega (arith, l)) front (update_not_chain t i) in
        let both_ends : s ∷ ys ≡ t ∷ vs = e.1 in
        let sign : s ≡ t = cc in
        let signs : Some o ≡ Some p = sym h ∙ ap update_of sign ∙ i in
        let operators : o ≡ p = cc in
        let here : at ≡ start_of b = place ∙ ap start_of front ∙ begun_start (t ∷ vs) (chain_begun q) in
        inl (same here operators e.0, cc)
      where
        same : {i : ℕ} {p : UpdateOperator} {r : Deep Expr} → at ≡ i → o ≡ p → ◌≡◌ {A = Deep Expr} (x, d) r
            → ◌≡◌ {A = Deep Expr} (expr.Update at o false x, d + 1) (expr.Update i p false r.0, r.1 + 1)
        same {i = i} {p = p} h e k =
            ap (λ (i : ℕ). let y : Deep Expr = (expr.Update i o false x, d + 1) in y) h
            ∙ ap (λ (p : UpdateOperator). let y : Deep Expr = (expr.Update i p false x, d + 1) in y) e
            ∙ ap (λ (r : Deep Expr). let y : Deep Expr = (expr.Update i p false r.0, r.1 + 1) in y) k
    go {u = u} {a = a} {j = j} vs (chain_expr q) l w = elim (f.longest a (u, j) vs (q, l) w) [
      | inl e ↦ let i = e.1 in inr (omega (arith, ap length i), subst (λ v. Starts InUnary v) i (update_in_unary s h))
      | inr e ↦ inr (omega (arith, e.0), chain_starts vs e.1)
    ]
      where
        chain_starts : (zs : List Sym) → Starts InChain zs → Starts InUnary zs
        chain_starts [] c = c
        chain_starts (z ∷ zs) c = chain_in_unary z c

-- ---- operators before an operand

pub unary_prefix : {xs ys : List Sym} {x : Expr} {d : ℕ} (s : Sym) {o : UnaryOperator} (low n : ℕ) → n ≡ low + 1 → unary_of s ≡ Some o → Found (UnaryUpto low) InUnary xs (x, d) ys
    → Found (UnaryUpto n) InUnary (s ∷ xs) (expr.Unary (at_of s) o x, d + 1) ys
unary_prefix {xs = xs} {ys = ys} {x = x} {d = d} s {o = o} low n is h f = record {
  front = s ∷ f.front;
  whole = ap (λ v. s ∷ v) f.whole;
  derives = (prefix_expr s h f.derives.0, omega (arith, f.derives.1));
  longest = λ a y vs q w. go vs q.0 q.1 w;
}
  where
    go : {u : Expr} {a : List Sym} {j : ℕ} (vs : List Sym) → IsUnary true a u j → j ≤ n → s ∷ xs ≡ a ++ vs → Ends {X = Deep Expr} InUnary (expr.Unary (at_of s) o x, d + 1) ys (u, j) vs
    go vs (prefix_expr t {operator = p} {xs = b} {of = u} {d = j} i q) le w =
        let sign : s ≡ t = cc in
        let after : xs ≡ b ++ vs = cc in
        let signs : Some o ≡ Some p = sym h ∙ ap unary_of sign ∙ i in
        let operators : o ≡ p = cc in
        elim (f.longest b (u, j) vs (q, omega (arith, le)) after) [
          | inl e ↦ inl (same sign operators e.0, e.1)
          | inr e ↦ inr e
        ]
      where
        same : {t : Sym} {p : UnaryOperator} {r : Deep Expr} → s ≡ t → o ≡ p → ◌≡◌ {A = Deep Expr} (x, d) r
            → ◌≡◌ {A = Deep Expr} (expr.Unary (at_of s) o x, d + 1) (expr.Unary (at_of t) p r.0, r.1 + 1)
        same {t = t} {p = p} h e k =
            ap (λ (t : Sym). let y : Deep Expr = (expr.Unary (at_of t) o x, d + 1) in y) h
            ∙ ap (λ (p : UnaryOperator). let y : Deep Expr = (expr.Unary (at_of t) p x, d + 1) in y) e
            ∙ ap (λ (r : Deep Expr). let y : Deep Expr = (expr.Unary (at_of t) p r.0, r.1 + 1) in y) k
    go vs (update_before t i q z) le w =
        let sign : s ≡ t = cc in
        absurd (update_not_prefix s (ap update_of sign ∙ i) h)
    go vs (update_after t {xs = b} q z i) le w = absurd (prefix_no_chain s xs (t ∷ vs) h q (w ∙ append_assoc b (t ∷ []) vs))
    go vs (chain_expr q) le w = absurd (prefix_no_chain s xs vs h q w)

pub unary_prefix_lacks : {xs : List Sym} (s : Sym) {o : UnaryOperator} (low n : ℕ) → n ≡ low + 1 → unary_of s ≡ Some o → Lacks (UnaryUpto low) xs → Lacks (UnaryUpto n) (s ∷ xs)
unary_prefix_lacks {xs = xs} s low n is h f = record { none = λ a y vs q w. go vs q.0 q.1 w }
  where
    go : {u : Expr} {a : List Sym} {j : ℕ} (vs : List Sym) → IsUnary true a u j → j ≤ n → s ∷ xs ≡ a ++ vs → ⊥
    go vs (prefix_expr t {xs = b} {of = u} {d = j} i q) le w =
        let after : xs ≡ b ++ vs = cc in
        f.none b (u, j) vs (q, omega (arith, le)) after
    go vs (update_before t i q z) le w =
        let sign : s ≡ t = cc in
        update_not_prefix s (ap update_of sign ∙ i) h
    go vs (update_after t {xs = b} q z i) le w = prefix_no_chain s xs (t ∷ vs) h q (w ∙ append_assoc b (t ∷ []) vs)
    go vs (chain_expr q) le w = prefix_no_chain s xs vs h q w

-- ---- `++` and `--` before a target

pub unary_before : {xs ys : List Sym} {x : Expr} {d : ℕ} (s : Sym) {o : UpdateOperator} (low n : ℕ) → n ≡ low + 1 → update_of s ≡ Some o → Found (TargetUpto low) InChain xs (x, d) ys
    → Found (UnaryUpto n) InUnary (s ∷ xs) (expr.Update (at_of s) o true x, d + 1) ys
unary_before {xs = xs} {ys = ys} {x = x} {d = d} s {o = o} low n is h f = record {
  front = s ∷ f.front;
  whole = ap (λ v. s ∷ v) f.whole;
  derives = (update_before s h f.derives.0 f.derives.1, omega (arith, f.derives.2));
  longest = λ a y vs q w. go vs q.0 q.1 w;
}
  where
    go : {u : Expr} {a : List Sym} {j : ℕ} (vs : List Sym) → IsUnary true a u j → j ≤ n → s ∷ xs ≡ a ++ vs → Ends {X = Deep Expr} InUnary (expr.Update (at_of s) o true x, d + 1) ys (u, j) vs
    go vs (prefix_expr t i q) le w =
        let sign : s ≡ t = cc in
        absurd (update_not_prefix s h (ap unary_of sign ∙ i))
    go vs (update_before t {operator = p} {xs = b} {of = u} {d = j} i q z) le w =
        let sign : s ≡ t = cc in
        let after : xs ≡ b ++ vs = cc in
        let signs : Some o ≡ Some p = sym h ∙ ap update_of sign ∙ i in
        let operators : o ≡ p = cc in
        elim ((wider chain_in_unary f).longest b (u, j) vs (q, z, omega (arith, le)) after) [
          | inl e ↦ inl (same sign operators e.0, e.1)
          | inr e ↦ inr e
        ]
      where
        same : {t : Sym} {p : UpdateOperator} {r : Deep Expr} → s ≡ t → o ≡ p → ◌≡◌ {A = Deep Expr} (x, d) r
            → ◌≡◌ {A = Deep Expr} (expr.Update (at_of s) o true x, d + 1) (expr.Update (at_of t) p true r.0, r.1 + 1)
        same {t = t} {p = p} h e k =
            ap (λ (t : Sym). let y : Deep Expr = (expr.Update (at_of t) o true x, d + 1) in y) h
            ∙ ap (λ (p : UpdateOperator). let y : Deep Expr = (expr.Update (at_of t) p true x, d + 1) in y) e
            ∙ ap (λ (r : Deep Expr). let y : Deep Expr = (expr.Update (at_of t) p true r.0, r.1 + 1) in y) k
    go vs (update_after t {xs = b} q z i) le w = absurd (update_no_chain s xs (t ∷ vs) h q (w ∙ append_assoc b (t ∷ []) vs))
    go vs (chain_expr q) le w = absurd (update_no_chain s xs vs h q w)

pub unary_before_lacks : {xs : List Sym} (s : Sym) {o : UpdateOperator} (low n : ℕ) → n ≡ low + 1 → update_of s ≡ Some o → Lacks (TargetUpto low) xs → Lacks (UnaryUpto n) (s ∷ xs)
unary_before_lacks {xs = xs} s low n is h f = record { none = λ a y vs q w. go vs q.0 q.1 w }
  where
    go : {u : Expr} {a : List Sym} {j : ℕ} (vs : List Sym) → IsUnary true a u j → j ≤ n → s ∷ xs ≡ a ++ vs → ⊥
    go vs (prefix_expr t i q) le w =
        let sign : s ≡ t = cc in
        update_not_prefix s h (ap unary_of sign ∙ i)
    go vs (update_before t {xs = b} {of = u} {d = j} i q z) le w =
        let after : xs ≡ b ++ vs = cc in
        f.none b (u, j) vs (q, z, omega (arith, le)) after
    go vs (update_after t {xs = b} q z i) le w = update_no_chain s xs (t ∷ vs) h q (w ∙ append_assoc b (t ∷ []) vs)
    go vs (chain_expr q) le w = update_no_chain s xs vs h q w

-- ---- nothing

pub unary_lacks_shallow : (n : ℕ) (xs : List Sym) → n ≡ 0 → Lacks (UnaryUpto n) xs
unary_lacks_shallow n xs is = record { none = λ a y vs q w. omega (arith, q.1, unary_deep q.0) }

pub unary_lacks : {xs : List Sym} (n : ℕ) → ((s : Sym) (o : UnaryOperator) (vs : List Sym) → unary_of s ≡ Some o → xs ≡ s ∷ vs → ⊥)
    → ((s : Sym) (o : UpdateOperator) (vs : List Sym) → update_of s ≡ Some o → xs ≡ s ∷ vs → ⊥) → Lacks (PrimaryUpto n) xs → Lacks (UnaryUpto n) xs
unary_lacks {xs = xs} n h i f = record { none = λ a y vs q w. go vs q.0 q.1 w }
  where
    chain : {u : Expr} {a : List Sym} {j : ℕ} (vs : List Sym) → IsChain true a u j → j ≤ n → xs ≡ a ++ vs → ⊥
    chain vs q le w =
        let p = primed q in
        f.none p.front (p.of, p.depth) (p.more ++ vs) (p.primary, omega (arith, le, p.shallow)) (w ∙ ap (λ v. v ++ vs) p.whole ∙ append_assoc p.front p.more vs)

    go : {u : Expr} {a : List Sym} {j : ℕ} (vs : List Sym) → IsUnary true a u j → j ≤ n → xs ≡ a ++ vs → ⊥
    go vs (prefix_expr s {operator = o} {xs = b} e q) le w = h s o (b ++ vs) e w
    go vs (update_before s {operator = o} {xs = b} e q z) le w = i s o (b ++ vs) e w
    go vs (update_after s {xs = b} q z e) le w = chain (s ∷ vs) q (omega (arith, le)) (w ∙ append_assoc b (s ∷ []) vs)
    go vs (chain_expr q) le w = chain vs q le w

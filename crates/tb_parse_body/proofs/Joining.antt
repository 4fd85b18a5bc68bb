-- The longest front of a level: operands joined from the left to the right.
use Rattle.std.proofs.Common.{◌≡◌, ◌≢◌, ℕ, zero, suc, ◌+◌, ◌≤◌, ◌<◌, max, List, [], ◌∷◌, ◌++◌, length, true, false, refl, sym, ◌∙◌, ap, subst, inl, inr, arith, append_assoc, append-nil, length-append}
use Rattle.std.specs.Prelude.{Option, Some, None, ◌⊎◌}
use Rattle.tb_tree.specs.declared.words.Word.TheVariants as words
use Rattle.tb_tree.specs.declared.words.Class.TheVariants as c
use Rattle.tb_tree.specs.declared.types.TypeExpr.{TypeExpr}
use Rattle.tb_tree.specs.declared.exprs.BinaryOperator.{BinaryOperator}
use Rattle.tb_tree.specs.declared.exprs.Expr.{Expr}
use Rattle.tb_tree.specs.declared.exprs.Expr.TheVariants as expr
use Rattle.tb_tree.specs.Sym.{Sym, Lex}
use Rattle.tb_tree.specs.Longest.{Found, Lacks, Ends, Starts}
use Rattle.tb_tree.specs.Shapes.{max_depth, word, start_of}
use Rattle.tb_tree.specs.Types.{IsType}
use Rattle.tb_tree.specs.Exprs.{binary_of, strength, rel_level, unary_level, IsLevel, unary_operand, next_level, joined_expr, as_expr, IsUnary}
use Rattle.tb_tree.proofs.Ends.{exact, shorter, starts_by, found_from, found_as, wider, both}
use Rattle.tb_parse_type.specs.declared.reader.Limits.{Limits}
use Rattle.tb_parse_type.specs.Rules.{Counted, TypeUpto, InType}
use Rattle.tb_parse_body.specs.declared.levels.Join.{Join}
use Rattle.tb_parse_body.specs.declared.levels.Join.TheVariants as j
use Rattle.tb_parse_body.specs.Rules.{Deep, UnaryUpto, LevelUpto, InUnary, InLevel}
use Rattle.tb_parse_body.specs.Joins.{joined, IsCast, IsOperation, IsJoin, CastUpto, OperationUpto, JoinUpto, InJoin}
use Rattle.tb_parse_body.proofs.Heads.{begun_start, level_begun}
use Rattle.tb_parse_body.proofs.Signs.{unary_in_level, level_down, type_in_level, operator_in_level, operator_not_above, relation_not_type, strength_below}
use Rattle.tb_parse_body.proofs.Rests.{IsRest, stop, step, OneUpto, RestUpto, rest_on, rest_grows, RestSoFar, Parted}
use Rattle.tb_parse_body.proofs.Goes.{as_apart}

-- ---- above the levels of joins stands a unary

pub level_bound : {l : ℕ} {xs : List Sym} {x : Expr} {d : ℕ} → IsLevel true l xs x d → l ≤ 7
level_bound (unary_operand e q) = omega (arith, e)
level_bound (next_level q) = omega (arith, level_bound q)
level_bound (joined_expr s q h i r) = level_bound q
level_bound (as_expr s o e q r h) = level_bound q

pub level_unary : {l : ℕ} {xs : List Sym} {x : Expr} {d : ℕ} → l ≡ 7 → IsLevel true l xs x d → IsUnary true xs x d
level_unary is (unary_operand e q) = q
level_unary is (next_level q) = absurd (omega (arith, is, level_bound q))
level_unary is (joined_expr s {operator = o} q h i r) = absurd (omega (arith, is, i, strength_below o))
level_unary is (as_expr s o e q r h) = absurd (omega (arith, is, e))

pub unary_level_found : {r : Deep Expr} {xs ys : List Sym} (l n : ℕ) → l ≡ 7 → Found (UnaryUpto n) InUnary xs r ys → Found (LevelUpto l n) (InLevel l) xs r ys
unary_level_found {r = r} {xs = xs} {ys = ys} l n is f =
    let g = wider (unary_in_level l) f in record {
      front = f.front;
      whole = f.whole;
      derives = (unary_operand is f.derives.0, f.derives.1);
      longest = λ a y zs d w. g.longest a y zs (level_unary is d.0, d.1) w;
    }

pub unary_level_lacks : {xs : List Sym} (l n : ℕ) → l ≡ 7 → Lacks (UnaryUpto n) xs → Lacks (LevelUpto l n) xs
unary_level_lacks l n is f = record { none = λ a y zs d w. f.none a y zs (level_unary is d.0, d.1) w }

-- ---- a level as its first operand and what follows it

pub record Begins (l : ℕ) (xs : List Sym) (x : Expr) (d : ℕ) : Type 0 where
  pub first : List Sym
  pub more : List Sym
  pub of : Expr
  pub depth : ℕ
  pub parts : xs ≡ first ++ more
  pub level : IsLevel true (suc l) first of depth
  pub rest : IsRest (IsJoin l) (start_of xs) of depth more x d

rest_from : {J : List Sym → Join → ℕ → Type 0} {at o : ℕ} {x y : Expr} {d n : ℕ} {xs : List Sym} → at ≡ o → IsRest J at x d xs y n → IsRest J o x d xs y n
rest_from {J = J} {x = x} {y = y} {d = d} {n = n} {xs = xs} i q = subst (λ (o : ℕ). IsRest J o x d xs y n) i q

-- one more join
begins_on : {l : ℕ} {xs : List Sym} {x : Expr} {d : ℕ} (ys : List Sym) (e : ℕ) (i : Join) → IsLevel true l xs x d → Begins l xs x d → IsJoin l ys i e → Begins l (xs ++ ys) (joined (start_of xs) x i) (max d e + 1)
begins_on {xs = xs} ys e i q b p = record {
  first = b.first;
  more = b.more ++ ys;
  of = b.of;
  depth = b.depth;
  parts = ap (λ v. v ++ ys) b.parts ∙ append_assoc b.first b.more ys;
  level = b.level;
  rest = rest_from (sym (begun_start ys (level_begun q))) (rest_on i b.rest p);
}

pub unroll : {l : ℕ} {xs : List Sym} {x : Expr} {d : ℕ} → l ≢ 7 → IsLevel true l xs x d → Begins l xs x d
unroll below (unary_operand e q) = absurd (below e)
unroll {xs = xs} below (next_level q) = record { first = xs; more = []; of = _; depth = _; parts = sym (append-nil xs); level = q; rest = stop }
unroll below (joined_expr s {operator = o} {ys = ys} {right = r} {e = e} q h i p) = begins_on (s ∷ ys) e (j.Operator o r) q (unroll below q) (s, ys, refl, h, i, p)
unroll below (as_expr s o {ys = ys} {shape = t} {own = own} {e = depth} e q p h) = begins_on (word words.As s o ∷ ys) depth (j.As t) q (unroll below q) (s, o, ys, own, refl, e, p, h)

level_as : {l : ℕ} {x : Expr} {d : ℕ} {xs ys : List Sym} → xs ≡ ys → IsLevel true l xs x d → IsLevel true l ys x d
level_as {l = l} {x = x} {d = d} i q = subst (λ v. IsLevel true l v x d) i q

level_on : {l : ℕ} {xs : List Sym} {x : Expr} {d : ℕ} (ys : List Sym) (e : ℕ) (i : Join) → IsLevel true l xs x d → IsJoin l ys i e → IsLevel true l (xs ++ ys) (joined (start_of xs) x i) (max d e + 1)
level_on {xs = xs} ys e (j.Operator o r) q p = level_as (ap (λ v. xs ++ v) (sym p.2)) (joined_expr p.0 q p.3 p.4 p.5)
level_on {xs = xs} ys e (j.As t) q p = level_as (ap (λ v. xs ++ v) (sym p.4)) (as_expr p.0 p.1 p.5 q p.6 p.7)

pub roll : {l at : ℕ} {x y : Expr} {d n : ℕ} {xs ys : List Sym} → at ≡ start_of xs → IsLevel true l xs x d → IsRest (IsJoin l) at x d ys y n → IsLevel true l (xs ++ ys) y n
roll {xs = xs} place q stop = level_as (sym (append-nil xs)) q
roll {l = l} {x = x} {d = d} {xs = xs} place q (step {e = e} {ys = a} {zs = b} i p r) =
    let made = subst (λ (o : ℕ). IsLevel true l (xs ++ a) (joined o x i) (max d e + 1)) (sym place) (level_on a e i q p) in
    level_as (append_assoc xs a b) (roll (place ∙ sym (begun_start a (level_begun q))) made r)

-- ---- what follows an operand begins with no symbol with which that goes on

pub join_starts : (l : ℕ) (xs : List Sym) (e : ℕ) (i : Join) (vs : List Sym) → IsJoin l xs i e → Starts (InLevel (suc l)) (xs ++ vs) → ⊥
join_starts l xs e (j.Operator o r) vs p h = operator_not_above l p.0 p.3 p.4 (subst (λ v. Starts (InLevel (suc l)) (v ++ vs)) p.2 h)
join_starts l xs e (j.As t) vs p h =
    let k = subst (λ v. Starts (InLevel (suc l)) (v ++ vs)) p.4 h in
    let n : false ≡ true = subst (λ (l : ℕ). InLevel (suc l) (word words.As p.0 p.1)) p.5 k in
    cc

pub rest_starts : {l at : ℕ} {x y : Expr} {d n : ℕ} {xs : List Sym} (vs : List Sym) → IsRest (IsJoin l) at x d xs y n → Starts (InLevel (suc l)) (xs ++ vs) → xs ≡ []
rest_starts vs stop h = refl
rest_starts {l = l} vs (step {e = e} {ys = a} {zs = b} i p r) h = absurd (join_starts l a e i (b ++ vs) p (subst (λ v. Starts (InLevel (suc l)) v) (append_assoc a b vs) h))

pub down : (l : ℕ) (zs : List Sym) → Starts (InLevel (suc l)) zs → Starts (InLevel l) zs
down l [] h = h
down l (s ∷ zs) h = level_down l s h

-- ---- the first operand, and what goes on after it

pub level_found : {l at d : ℕ} {x : Expr} {r : Deep Expr} {xs ys zs : List Sym} (n : ℕ) → l ≢ 7 → at ≡ start_of xs → Found (LevelUpto (suc l) n) (InLevel (suc l)) xs (x, d) ys
    → Found (RestUpto (IsJoin l) at n x d) (InLevel l) ys r zs → Found (LevelUpto l n) (InLevel l) xs r zs
level_found {l = l} {at = at} {d = d} {x = x} {r = r} {xs = xs} {ys = ys} {zs = zs} n below place f g = record {
  front = f.front ++ g.front;
  whole = f.whole ∙ ap (λ v. f.front ++ v) g.whole ∙ sym (append_assoc f.front g.front zs);
  derives = (roll (place ∙ ap start_of f.whole ∙ begun_start ys (level_begun f.derives.0)) (next_level f.derives.0) g.derives.0, g.derives.1);
  longest = λ a y vs i w. go vs i.0 i.1 w;
}
  where
    go : {u : Expr} {a : List Sym} {k : ℕ} (vs : List Sym) → IsLevel true l a u k → k ≤ n → xs ≡ a ++ vs → Ends {X = Deep Expr} (InLevel l) r zs (u, k) vs
    go {u = u} {a = a} {k = k} vs q le w =
        let b = unroll below q in
        let shallow : b.depth ≤ n = omega (arith, le, rest_grows b.rest) in
        let here : start_of a ≡ at = sym (place ∙ ap start_of w ∙ begun_start vs (level_begun q)) in
        elim (f.longest b.first (b.of, b.depth) (b.more ++ vs) (b.level, shallow) (w ∙ ap (λ v. v ++ vs) b.parts ∙ append_assoc b.first b.more vs)) [
          | inl o ↦ g.longest b.more (u, k) vs (subst (λ (v : Deep Expr). IsRest (IsJoin l) at v.0 v.1 b.more u k) (sym o.0) (rest_from here b.rest), le) o.1
          | inr o ↦
              let i = rest_starts vs b.rest o.1 in
              inr (omega (arith, o.0, shorter g, ap length i, length-append b.more vs), down l vs (subst (λ v. Starts (InLevel (suc l)) (v ++ vs)) i o.1))
        ]

pub level_lacks : {l : ℕ} {xs : List Sym} (n : ℕ) → l ≢ 7 → Lacks (LevelUpto (suc l) n) xs → Lacks (LevelUpto l n) xs
level_lacks {l = l} {xs = xs} n below f = record { none = λ a y vs i w. go vs i.0 i.1 w }
  where
    go : {u : Expr} {a : List Sym} {k : ℕ} (vs : List Sym) → IsLevel true l a u k → k ≤ n → xs ≡ a ++ vs → ⊥
    go vs q le w =
        let b = unroll below q in
        let shallow : b.depth ≤ n = omega (arith, le, rest_grows b.rest) in
        f.none b.first (b.of, b.depth) (b.more ++ vs) (b.level, shallow) (w ∙ ap (λ v. v ++ vs) b.parts ∙ append_assoc b.first b.more vs)

-- whatever follows the first operand makes the whole
pub level_start : {l at d : ℕ} {x : Expr} {xs ys : List Sym} (n : ℕ) → l ≢ 7 → at ≡ start_of xs → Found (LevelUpto (suc l) n) (InLevel (suc l)) xs (x, d) ys
    → RestSoFar (IsJoin l) (InLevel l) (LevelUpto l n) at n xs x d ys
level_start n below place f r zs g = level_found n below place f g

-- ---- the next level, as code writes it

pub up_found : {r : Deep Expr} {xs ys : List Sym} (l n : ℕ) → Found (LevelUpto (l + 1) n) (InLevel (l + 1)) xs r ys → Found (LevelUpto (suc l) n) (InLevel (suc l)) xs r ys
up_found {r = r} {xs = xs} {ys = ys} l n f = let i : l + 1 ≡ suc l = omega arith in subst (λ (m : ℕ). Found (LevelUpto m n) (InLevel m) xs r ys) i f

pub up_lacks : {xs : List Sym} (l n : ℕ) → Lacks (LevelUpto (l + 1) n) xs → Lacks (LevelUpto (suc l) n) xs
up_lacks {xs = xs} l n f = let i : l + 1 ≡ suc l = omega arith in subst (λ (m : ℕ). Lacks (LevelUpto m n) xs) i f

-- ---- an operator, and an operand

pub operation_found : {r : Deep Expr} {xs ys : List Sym} (l n : ℕ) (s : Sym) {o : BinaryOperator} → binary_of s ≡ Some o → strength o ≡ l → Found (LevelUpto (suc l) n) (InLevel (suc l)) xs r ys
    → Found (OperationUpto l n) (InLevel (suc l)) (s ∷ xs) ((o, r.0), r.1) ys
operation_found {r = r} {xs = xs} {ys = ys} l n s {o = o} h i f = record {
  front = s ∷ f.front;
  whole = ap (λ v. s ∷ v) f.whole;
  derives = ((s, f.front, refl, h, i, f.derives.0), f.derives.1);
  longest = λ a y vs d w. go a y vs d.0 d.1 w;
}
  where
    same : {p : BinaryOperator} {q : Deep Expr} → o ≡ p → r ≡ q → ◌≡◌ {A = Deep (BinaryOperator × Expr)} ((o, r.0), r.1) ((p, q.0), q.1)
    same {q = q} e k =
        ap (λ (q : Deep Expr). let y : Deep (BinaryOperator × Expr) = ((o, q.0), q.1) in y) k
        ∙ ap (λ (p : BinaryOperator). let y : Deep (BinaryOperator × Expr) = ((p, q.0), q.1) in y) e

    go : (a : List Sym) (y : Deep (BinaryOperator × Expr)) (vs : List Sym) → IsOperation l a y.0 y.1 → y.1 ≤ n → s ∷ xs ≡ a ++ vs
        → Ends {X = Deep (BinaryOperator × Expr)} (InLevel (suc l)) ((o, r.0), r.1) ys y vs
    go a y vs d le w =
        let e : s ∷ xs ≡ d.0 ∷ d.1 ++ vs = w ∙ ap (λ v. v ++ vs) d.2 in
        let sign : s ≡ d.0 = cc in
        let after : xs ≡ d.1 ++ vs = cc in
        let signs : Some o ≡ Some y.0.0 = sym h ∙ ap binary_of sign ∙ d.3 in
        let operators : o ≡ y.0.0 = cc in
        elim (f.longest d.1 (y.0.1, y.1) vs (d.5, le) after) [
          | inl k ↦ inl (same operators k.0, k.1)
          | inr k ↦ inr k
        ]

pub operation_lacks : {xs : List Sym} (l n : ℕ) → ((s : Sym) (o : BinaryOperator) (vs : List Sym) → binary_of s ≡ Some o → strength o ≡ l → xs ≡ s ∷ vs → ⊥) → Lacks (OperationUpto l n) xs
operation_lacks l n h = record { none = λ a y vs d w. h d.0.0 y.0.0 (d.0.1 ++ vs) d.0.3 d.0.4 (w ∙ ap (λ v. v ++ vs) d.0.2) }

pub operation_lacks_operand : {xs : List Sym} (l n : ℕ) (s : Sym) → Lacks (LevelUpto (suc l) n) xs → Lacks (OperationUpto l n) (s ∷ xs)
operation_lacks_operand {xs = xs} l n s f = record {
  none = λ a y vs d w.
      let e : s ∷ xs ≡ d.0.0 ∷ d.0.1 ++ vs = w ∙ ap (λ v. v ++ vs) d.0.2 in
      let after : xs ≡ d.0.1 ++ vs = cc in
      f.none d.0.1 (y.0.1, y.1) vs (d.0.5, d.1) after;
}

-- ---- `as`, and a type

pub cast_found : {t : TypeExpr} {own d : ℕ} {xs ys : List Sym} (l n : ℕ) (k : Limits) (s : List ℕ) (o : ℕ) → l ≡ rel_level → k.own ≡ max_depth → k.depth ≡ n
    → Found (TypeUpto k) InType xs (t, own, d) ys → Found (CastUpto l n) InType (word words.As s o ∷ xs) (t, d) ys
cast_found {t = t} {own = own} {d = d} {xs = xs} {ys = ys} l n k s o is h i f = record {
  front = word words.As s o ∷ f.front;
  whole = ap (λ v. word words.As s o ∷ v) f.whole;
  derives = ((s, o, f.front, own, refl, is, f.derives.0, omega (arith, h, f.derives.1.0)), omega (arith, i, f.derives.1.1));
  longest = λ a y vs q w. go a y vs q.0 q.1 w;
}
  where
    go : (a : List Sym) (y : Deep TypeExpr) (vs : List Sym) → IsCast l a y.0 y.1 → y.1 ≤ n → word words.As s o ∷ xs ≡ a ++ vs → Ends {X = Deep TypeExpr} InType (t, d) ys y vs
    go a y vs q le w =
        let e : word words.As s o ∷ xs ≡ word words.As q.0 q.1 ∷ q.2 ++ vs = w ∙ ap (λ v. v ++ vs) q.4 in
        let after : xs ≡ q.2 ++ vs = cc in
        elim (f.longest q.2 (y.0, q.3, y.1) vs (q.6, (omega (arith, h, q.7), omega (arith, i, le))) after) [
          | inl k ↦ inl (ap (λ (c : Counted TypeExpr). let v : Deep TypeExpr = (c.0, c.2) in v) k.0, k.1)
          | inr k ↦ inr k
        ]

pub cast_lacks : {xs : List Sym} (l n : ℕ) → (l ≡ rel_level → (s : List ℕ) (o : ℕ) (vs : List Sym) → xs ≡ word words.As s o ∷ vs → ⊥) → Lacks (CastUpto l n) xs
cast_lacks l n h = record { none = λ a y vs d w. h d.0.5 d.0.0 d.0.1 (d.0.2 ++ vs) (w ∙ ap (λ v. v ++ vs) d.0.4) }

pub cast_lacks_type : {xs : List Sym} (l n : ℕ) (k : Limits) (s : List ℕ) (o : ℕ) → k.own ≡ max_depth → k.depth ≡ n → Lacks (TypeUpto k) xs → Lacks (CastUpto l n) (word words.As s o ∷ xs)
cast_lacks_type {xs = xs} l n k s o h i f = record {
  none = λ a y vs d w.
      let q = d.0 in
      let e : word words.As s o ∷ xs ≡ word words.As q.0 q.1 ∷ q.2 ++ vs = w ∙ ap (λ v. v ++ vs) q.4 in
      let after : xs ≡ q.2 ++ vs = cc in
      f.none q.2 (y.0, q.3, y.1) vs (q.6, (omega (arith, h, q.7), omega (arith, i, d.1))) after;
}

-- ---- either of them

-- an operator is no `as`
operation_no_cast : {l k : ℕ} {a b : List Sym} {r : BinaryOperator × Expr} {t : TypeExpr} {d e : ℕ} (vs us : List Sym) → IsOperation l a r d → IsCast k b t e → a ++ vs ≡ b ++ us → ⊥
operation_no_cast vs us p q w =
    let i : p.0 ∷ p.1 ++ vs ≡ word words.As q.0 q.1 ∷ q.2 ++ us = sym (ap (λ v. v ++ vs) p.2) ∙ w ∙ ap (λ v. v ++ us) q.4 in
    let sign : p.0 ≡ word words.As q.0 q.1 = cc in
    let n : None ≡ Some _ = sym (ap binary_of sign) ∙ p.3 in
    cc

pub join_cast : {t : TypeExpr} {d : ℕ} {xs ys : List Sym} (l n : ℕ) → Found (CastUpto l n) InType xs (t, d) ys → Found (JoinUpto l n) (InJoin l (j.As t)) xs (j.As t, d) ys
join_cast {t = t} {d = d} {xs = xs} {ys = ys} l n f = record {
  front = f.front;
  whole = f.whole;
  derives = f.derives;
  longest = λ a y vs q w. go a y.0 y.1 vs q.0 q.1 w;
}
  where
    go : (a : List Sym) (i : Join) (e : ℕ) (vs : List Sym) → IsJoin l a i e → e ≤ n → xs ≡ a ++ vs → Ends {X = Deep Join} InType (j.As t, d) ys (i, e) vs
    go a (j.Operator o r) e vs q le w = absurd (operation_no_cast vs ys q f.derives.0 (sym w ∙ f.whole))
    go a (j.As u) e vs q le w = elim (f.longest a (u, e) vs (q, le) w) [
      | inl k ↦ inl (ap (λ (c : Deep TypeExpr). let v : Deep Join = (j.As c.0, c.1) in v) k.0, k.1)
      | inr k ↦ inr k
    ]

pub join_operation : {o : BinaryOperator} {x : Expr} {d : ℕ} {xs ys : List Sym} (l n : ℕ) → Found (OperationUpto l n) (InLevel (suc l)) xs ((o, x), d) ys
    → Found (JoinUpto l n) (InJoin l (j.Operator o x)) xs (j.Operator o x, d) ys
join_operation {o = o} {x = x} {d = d} {xs = xs} {ys = ys} l n f = record {
  front = f.front;
  whole = f.whole;
  derives = f.derives;
  longest = λ a y vs q w. go a y.0 y.1 vs q.0 q.1 w;
}
  where
    go : (a : List Sym) (i : Join) (e : ℕ) (vs : List Sym) → IsJoin l a i e → e ≤ n → xs ≡ a ++ vs → Ends {X = Deep Join} (InLevel (suc l)) (j.Operator o x, d) ys (i, e) vs
    go a (j.Operator p r) e vs q le w = elim (f.longest a ((p, r), e) vs (q, le) w) [
      | inl k ↦ inl (ap (λ (c : Deep (BinaryOperator × Expr)). let v : Deep Join = (j.Operator c.0.0 c.0.1, c.1) in v) k.0, k.1)
      | inr k ↦ inr k
    ]
    go a (j.As u) e vs q le w = absurd (operation_no_cast ys vs f.derives.0 q (sym f.whole ∙ w))

pub join_lacks : {xs : List Sym} (l n : ℕ) → Lacks (CastUpto l n) xs → Lacks (OperationUpto l n) xs → Lacks (JoinUpto l n) xs
join_lacks {xs = xs} l n f g = record { none = λ a y vs q w. go a y.0 y.1 vs q.0 q.1 w }
  where
    go : (a : List Sym) (i : Join) (e : ℕ) (vs : List Sym) → IsJoin l a i e → e ≤ n → xs ≡ a ++ vs → ⊥
    go a (j.Operator p r) e vs q le w = g.none a ((p, r), e) vs (q, le) w
    go a (j.As u) e vs q le w = f.none a (u, e) vs (q, le) w

-- ---- turns of the loop over joins

-- what follows an operand goes on with it
pub join_begins : {l n : ℕ} {i : Join} {e : ℕ} {xs ys : List Sym} {D : Sym → Type 0} → Found (JoinUpto l n) D xs (i, e) ys → Starts (InLevel l) xs
join_begins {l = l} {i = i} {e = e} {xs = xs} {ys = ys} f = go i f.derives.0
  where
    go : (i : Join) → IsJoin l f.front i e → Starts (InLevel l) xs
    go (j.Operator o r) p = starts_by (InLevel l) (f.whole ∙ ap (λ v. v ++ ys) p.2) (operator_in_level l p.0 p.3 p.4)
    go (j.As t) p = starts_by (InLevel l) (f.whole ∙ ap (λ v. v ++ ys) p.4) (subst (λ (l : ℕ). InLevel l (word words.As p.0 p.1)) (sym p.5) (type_in_level (word words.As p.0 p.1) refl))

pub join_wide : (l : ℕ) (a : List Sym) (e : ℕ) (i : Join) → IsJoin l a i e → (s : Sym) → InJoin l i s → InLevel l s
join_wide l a e (j.Operator o r) p s h = level_down l s h
join_wide l a e (j.As t) p s h = subst (λ (l : ℕ). InLevel l s) (sym p.5) (type_in_level s h)

pub join_falls : {l n : ℕ} {i : Join} {e : ℕ} {xs ys : List Sym} {D : Sym → Type 0} → Found (JoinUpto l n) D xs (i, e) ys → length ys < length xs
join_falls {l = l} {i = i} {e = e} {xs = xs} {ys = ys} f = go i f.derives.0
  where
    go : (i : Join) → IsJoin l f.front i e → length ys < length xs
    go (j.Operator o r) p = omega (arith, ap length f.whole, length-append f.front ys, ap length p.2)
    go (j.As t) p = omega (arith, ap length f.whole, length-append f.front ys, ap length p.4)

-- behind a shorter join no further one begins
pub join_parted : {l n : ℕ} {i : Join} {e : ℕ} {xs ys : List Sym} → Found (JoinUpto l n) (InJoin l i) xs (i, e) ys → Parted (IsJoin l) (InJoin l i) xs ys
join_parted {l = l} {i = i} {e = e} {xs = xs} {ys = ys} f a b u k m t vs p q w less h = go i f.derives.0 h
  where
    -- a type is longer than another, and a relation's operator or `as` stands behind that
    after_type : {shape : TypeExpr} (u k : Join) → IsJoin l a u m → IsJoin l b k t → IsCast l f.front shape e → Starts InType (b ++ vs) → ⊥
    after_type (j.Operator o r) k p q c h = operation_no_cast (b ++ vs) ys p c (sym w ∙ f.whole)
    after_type (j.As t) (j.Operator o r) p q c h =
        relation_not_type q.0 q.3 (q.4 ∙ c.5) (subst (λ v. Starts InType (v ++ vs)) q.2 h)
    after_type (j.As t) (j.As r) p q c h =
        let front : word words.As p.0 p.1 ∷ p.2 ++ (b ++ vs) ≡ word words.As c.0 c.1 ∷ c.2 ++ ys =
        sym (ap (λ v. v ++ (b ++ vs)) p.4) ∙ sym w ∙ f.whole ∙ ap (λ v. v ++ ys) c.4 in
        let types : p.2 ++ (b ++ vs) ≡ c.2 ++ ys = cc in
        let behind : b ++ vs ≡ word words.As q.0 q.1 ∷ (q.2 ++ vs) = ap (λ v. v ++ vs) q.4 in
        as_apart words.As q.0 q.1 (q.2 ++ vs) ys vs p.6 c.6 (sym (ap (λ v. p.2 ++ v) behind) ∙ types) (omega (arith, less, ap length behind)) q.6 refl

    go : (i : Join) → IsJoin l f.front i e → Starts (InJoin l i) (b ++ vs) → ⊥
    go (j.Operator o r) c h = join_starts l b t k vs q h
    go (j.As shape) c h = after_type u k p q c h

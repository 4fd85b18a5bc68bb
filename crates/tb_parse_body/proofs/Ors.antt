-- The longest front that joins operands by `||` and what joins more strongly, or by `??`.
use Rattle.std.proofs.Common.{◌≡◌, ◌≢◌, ℕ, zero, suc, ◌+◌, ◌≤◌, ◌<◌, max, List, [], ◌∷◌, ◌++◌, length, true, false, refl, sym, ◌∙◌, ap, subst, inl, inr, arith, append_assoc, append-nil, length-append}
use Rattle.std.specs.Prelude.{Option, Some, None, ◌⊎◌}
use Rattle.tb_tree.specs.declared.marks.Mark.TheVariants as m
use Rattle.tb_tree.specs.declared.exprs.BinaryOperator.{BinaryOperator}
use Rattle.tb_tree.specs.declared.exprs.BinaryOperator.TheVariants as binary
use Rattle.tb_tree.specs.declared.exprs.Expr.{Expr}
use Rattle.tb_tree.specs.declared.exprs.Expr.TheVariants as expr
use Rattle.tb_tree.specs.Sym.{Sym, Mark}
use Rattle.tb_tree.specs.Longest.{Found, Lacks, Ends, Starts}
use Rattle.tb_tree.specs.Shapes.{start_of}
use Rattle.tb_tree.specs.Exprs.{binary_of, strength, IsOr, level_expr, nullish_expr, IsNullish, first_nullish, next_nullish, IsLevel, next_level}
use Rattle.tb_tree.proofs.Ends.{exact, shorter, starts_by, wider, both}
use Rattle.tb_parse_body.specs.declared.levels.Join.{Join}
use Rattle.tb_parse_body.specs.declared.levels.Join.TheVariants as j
use Rattle.tb_parse_body.specs.Rules.{Deep, LevelUpto, OrUpto, InLevel, InOr}
use Rattle.tb_parse_body.specs.Joins.{joined, IsJoin, IsNullishJoin, NullishUpto}
use Rattle.tb_parse_body.proofs.Heads.{begun_start, level_begun, nullish_begun}
use Rattle.tb_parse_body.proofs.Signs.{level_down, level_down_two, level_in_or, nullish_in_or, nullish_not_in_level, operator_not_above}
use Rattle.tb_parse_body.proofs.Rests.{IsRest, stop, step, OneUpto, RestUpto, rest_on, rest_grows, RestSoFar, Parted}
use Rattle.tb_parse_body.proofs.Joining.{Begins, unroll, rest_starts, join_starts, down}

-- ---- what joins by `??`

pub nullish_found : {r : Deep Expr} {xs ys : List Sym} (n at : ℕ) → Found (LevelUpto 3 n) (InLevel 3) xs r ys
    → Found (NullishUpto n) (InLevel 3) (Mark m.Nullish at ∷ xs) (j.Operator binary.Nullish r.0, r.1) ys
nullish_found {r = r} {xs = xs} {ys = ys} n at f = record {
  front = Mark m.Nullish at ∷ f.front;
  whole = ap (λ v. Mark m.Nullish at ∷ v) f.whole;
  derives = ((at, f.front, refl, refl, f.derives.0), f.derives.1);
  longest = λ a y vs d w. go a y.0 y.1 vs d.0 d.1 w;
}
  where
    same : {p : BinaryOperator} {q : Deep Expr} → p ≡ binary.Nullish → r ≡ q → ◌≡◌ {A = Deep Join} (j.Operator binary.Nullish r.0, r.1) (j.Operator p q.0, q.1)
    same {q = q} e k =
        ap (λ (q : Deep Expr). let y : Deep Join = (j.Operator binary.Nullish q.0, q.1) in y) k
        ∙ ap (λ (p : BinaryOperator). let y : Deep Join = (j.Operator p q.0, q.1) in y) (sym e)

    go : (a : List Sym) (i : Join) (e : ℕ) (vs : List Sym) → IsNullishJoin a i e → e ≤ n → Mark m.Nullish at ∷ xs ≡ a ++ vs
        → Ends {X = Deep Join} (InLevel 3) (j.Operator binary.Nullish r.0, r.1) ys (i, e) vs
    go a (j.Operator o x) e vs d le w =
        let i : Mark m.Nullish at ∷ xs ≡ Mark m.Nullish d.0 ∷ d.1 ++ vs = w ∙ ap (λ v. v ++ vs) d.2 in
        let after : xs ≡ d.1 ++ vs = cc in
        elim (f.longest d.1 (x, e) vs (d.4, le) after) [
          | inl k ↦ inl (same d.3 k.0, k.1)
          | inr k ↦ inr k
        ]
    go a (j.As t) e vs d le w = absurd d

pub nullish_lacks : {xs : List Sym} (n : ℕ) → ((at : ℕ) (vs : List Sym) → xs ≡ Mark m.Nullish at ∷ vs → ⊥) → Lacks (NullishUpto n) xs
nullish_lacks {xs = xs} n h = record { none = λ a y vs d w. go a y.0 y.1 vs d.0 w }
  where
    go : (a : List Sym) (i : Join) (e : ℕ) (vs : List Sym) → IsNullishJoin a i e → xs ≡ a ++ vs → ⊥
    go a (j.Operator o x) e vs d w = h d.0 (d.1 ++ vs) (w ∙ ap (λ v. v ++ vs) d.2)
    go a (j.As t) e vs d w = d

pub nullish_lacks_operand : {xs : List Sym} (n at : ℕ) → Lacks (LevelUpto 3 n) xs → Lacks (NullishUpto n) (Mark m.Nullish at ∷ xs)
nullish_lacks_operand {xs = xs} n at f = record { none = λ a y vs d w. go a y.0 y.1 vs d.0 d.1 w }
  where
    go : (a : List Sym) (i : Join) (e : ℕ) (vs : List Sym) → IsNullishJoin a i e → e ≤ n → Mark m.Nullish at ∷ xs ≡ a ++ vs → ⊥
    go a (j.Operator o x) e vs d le w =
        let i : Mark m.Nullish at ∷ xs ≡ Mark m.Nullish d.0 ∷ d.1 ++ vs = w ∙ ap (λ v. v ++ vs) d.2 in
        let after : xs ≡ d.1 ++ vs = cc in
        f.none d.1 (x, e) vs (d.4, le) after
    go a (j.As t) e vs d le w = d

nullish_starts : (C : Sym → Type 0) (xs : List Sym) (e : ℕ) (i : Join) (vs : List Sym) → ((at : ℕ) → C (Mark m.Nullish at)) → IsNullishJoin xs i e → Starts C (xs ++ vs)
nullish_starts C xs e (j.Operator o x) vs h d = starts_by C (ap (λ v. v ++ vs) d.2) (h d.0)
nullish_starts C xs e (j.As t) vs h d = absurd d

-- in the level of operands nothing goes on with `??`
nullish_apart : (xs : List Sym) (e : ℕ) (i : Join) (vs : List Sym) → IsNullishJoin xs i e → Starts (InLevel 3) (xs ++ vs) → ⊥
nullish_apart xs e (j.Operator o x) vs d h = nullish_not_in_level d.0 (subst (λ v. Starts (InLevel 3) (v ++ vs)) d.2 h)
nullish_apart xs e (j.As t) vs d h = d

nullish_filled : (xs : List Sym) (e : ℕ) (i : Join) → IsNullishJoin xs i e → 0 < length xs
nullish_filled xs e (j.Operator o x) d = omega (arith, ap length d.2)
nullish_filled xs e (j.As t) d = absurd d

-- for the turns of the loop

pub nullish_begins : {n : ℕ} {i : Join} {e : ℕ} {xs ys : List Sym} {D : Sym → Type 0} → Found (NullishUpto n) D xs (i, e) ys → Starts InOr xs
nullish_begins {i = i} {e = e} {ys = ys} f = subst (λ v. Starts InOr v) (sym f.whole) (nullish_starts InOr f.front e i ys nullish_in_or f.derives.0)

pub nullish_wide : (s : Sym) → InLevel 3 s → InOr s
nullish_wide s h = level_in_or s (level_down_two 1 s h)

pub nullish_falls : {n : ℕ} {i : Join} {e : ℕ} {xs ys : List Sym} {D : Sym → Type 0} → Found (NullishUpto n) D xs (i, e) ys → length ys < length xs
nullish_falls {i = i} {e = e} {ys = ys} f = omega (arith, ap length f.whole, length-append f.front ys, nullish_filled f.front e i f.derives.0)

pub nullish_parted : (xs ys : List Sym) → Parted IsNullishJoin (InLevel 3) xs ys
nullish_parted xs ys a b i k e f vs p q w less h = nullish_apart b f k vs q h

-- ---- joins by `??` from the left to the right

-- what is joined by at least one `??`
pub record Nulls (xs : List Sym) (x : Expr) (d : ℕ) : Type 0 where
  pub first : List Sym
  pub next : List Sym
  pub more : List Sym
  pub of : Expr
  pub depth : ℕ
  pub join : Join
  pub join_depth : ℕ
  pub parts : xs ≡ first ++ (next ++ more)
  pub level : IsLevel true 3 first of depth
  pub joins : IsNullishJoin next join join_depth
  pub rest : IsRest IsNullishJoin (start_of xs) (joined (start_of xs) of join) (max depth join_depth + 1) more x d

pub nulls : {xs : List Sym} {x : Expr} {d : ℕ} → IsNullish true xs x d → Nulls xs x d
nulls (first_nullish o {xs = xs} {ys = ys} {left = x} {right = r} {d = d} {e = e} q p) =
    let place : start_of xs ≡ start_of (xs ++ Mark m.Nullish o ∷ ys) = sym (begun_start (Mark m.Nullish o ∷ ys) (level_begun q)) in record {
      first = xs;
      next = Mark m.Nullish o ∷ ys;
      more = [];
      of = x;
      depth = d;
      join = j.Operator binary.Nullish r;
      join_depth = e;
      parts = ap (λ v. xs ++ v) (sym (append-nil (Mark m.Nullish o ∷ ys)));
      level = q;
      joins = (o, ys, refl, refl, p);
      rest = subst (λ (i : ℕ). IsRest IsNullishJoin (start_of (xs ++ Mark m.Nullish o ∷ ys)) (joined (start_of (xs ++ Mark m.Nullish o ∷ ys)) x (j.Operator binary.Nullish r)) (max d e + 1) []
          (expr.Binary i x binary.Nullish r) (max d e + 1)) (sym place) stop;
    }
nulls (next_nullish o {xs = xs} {ys = ys} {left = x} {right = r} {d = d} {e = e} q p) =
    let b = nulls q in
    let place : start_of xs ≡ start_of (xs ++ Mark m.Nullish o ∷ ys) = sym (begun_start (Mark m.Nullish o ∷ ys) (nullish_begun q)) in
    let rest = rest_on (j.Operator binary.Nullish r) b.rest (o, ys, refl, refl, p) in record {
      first = b.first;
      next = b.next;
      more = b.more ++ Mark m.Nullish o ∷ ys;
      of = b.of;
      depth = b.depth;
      join = b.join;
      join_depth = b.join_depth;
      parts = ap (λ v. v ++ Mark m.Nullish o ∷ ys) b.parts ∙ append_assoc b.first (b.next ++ b.more) (Mark m.Nullish o ∷ ys)
          ∙ ap (λ v. b.first ++ v) (append_assoc b.next b.more (Mark m.Nullish o ∷ ys));
      level = b.level;
      joins = b.joins;
      rest = subst (λ (i : ℕ). IsRest IsNullishJoin i (joined i b.of b.join) (max b.depth b.join_depth + 1) (b.more ++ Mark m.Nullish o ∷ ys) (expr.Binary (start_of xs) x binary.Nullish r) (max d e + 1)) place rest;
    }

nullish_as : {x : Expr} {d : ℕ} {xs ys : List Sym} → xs ≡ ys → IsNullish true xs x d → IsNullish true ys x d
nullish_as {x = x} {d = d} i q = subst (λ v. IsNullish true v x d) i q

nullish_made : (o : ℕ) (zs : List Sym) (x r : Expr) (n : ℕ) {p : BinaryOperator} → p ≡ binary.Nullish → IsNullish true zs (expr.Binary o x binary.Nullish r) n → IsNullish true zs (expr.Binary o x p r) n
nullish_made o zs x r n i q = subst (λ (p : BinaryOperator). IsNullish true zs (expr.Binary o x p r) n) (sym i) q

nullish_first : {xs : List Sym} {x : Expr} {d : ℕ} (ys : List Sym) (e : ℕ) (i : Join) → IsLevel true 3 xs x d → IsNullishJoin ys i e → IsNullish true (xs ++ ys) (joined (start_of xs) x i) (max d e + 1)
nullish_first {xs = xs} {x = x} {d = d} ys e (j.Operator o r) q p = nullish_made (start_of xs) (xs ++ ys) x r (max d e + 1) p.3 (nullish_as (ap (λ v. xs ++ v) (sym p.2)) (first_nullish p.0 q p.4))
nullish_first ys e (j.As t) q p = absurd p

nullish_next : {xs : List Sym} {x : Expr} {d : ℕ} (ys : List Sym) (e : ℕ) (i : Join) → IsNullish true xs x d → IsNullishJoin ys i e → IsNullish true (xs ++ ys) (joined (start_of xs) x i) (max d e + 1)
nullish_next {xs = xs} {x = x} {d = d} ys e (j.Operator o r) q p = nullish_made (start_of xs) (xs ++ ys) x r (max d e + 1) p.3 (nullish_as (ap (λ v. xs ++ v) (sym p.2)) (next_nullish p.0 q p.4))
nullish_next ys e (j.As t) q p = absurd p

nullish_roll : {at : ℕ} {x y : Expr} {d n : ℕ} {xs ys : List Sym} → at ≡ start_of xs → IsNullish true xs x d → IsRest IsNullishJoin at x d ys y n → IsNullish true (xs ++ ys) y n
nullish_roll {xs = xs} place q stop = nullish_as (sym (append-nil xs)) q
nullish_roll {x = x} {d = d} {xs = xs} place q (step {e = e} {ys = a} {zs = b} i p r) =
    let made = subst (λ (o : ℕ). IsNullish true (xs ++ a) (joined o x i) (max d e + 1)) (sym place) (nullish_next a e i q p) in
    nullish_as (append_assoc xs a b) (nullish_roll (place ∙ sym (begun_start a (nullish_begun q))) made r)

or_roll : {at : ℕ} {x y : Expr} {d n : ℕ} {xs ys : List Sym} → at ≡ start_of xs → IsLevel true 3 xs x d → IsRest IsNullishJoin at x d ys y n → IsOr true (xs ++ ys) y n
or_roll {x = x} {d = d} {xs = xs} place q stop = subst (λ v. IsOr true v x d) (sym (append-nil xs)) (level_expr (next_level (next_level q)))
or_roll {x = x} {d = d} {xs = xs} place q (step {e = e} {ys = a} {zs = b} i p r) =
    let made = subst (λ (o : ℕ). IsNullish true (xs ++ a) (joined o x i) (max d e + 1)) (sym place) (nullish_first a e i q p) in
    nullish_expr (nullish_as (append_assoc xs a b) (nullish_roll (place ∙ sym (begun_start a (level_begun q))) made r))

-- ---- what joins more weakly than an operand of `??`

-- a derivation of the lowest level begins with an operand of `??`: it is that, or an operator of a lower level stands behind
pub record Lower (xs : List Sym) (x : Expr) (d : ℕ) : Type 0 where
  pub first : List Sym
  pub more : List Sym
  pub of : Expr
  pub depth : ℕ
  pub parts : xs ≡ first ++ more
  pub level : IsLevel true 3 first of depth
  pub shallow : depth ≤ d
  pub rest : ((more ≡ []) × (of ≡ x) × (depth ≡ d)) ⊎ ((s : Sym) × (o : BinaryOperator) × (vs : List Sym) × (more ≡ s ∷ vs) × (binary_of s ≡ Some o) × (strength o ≤ 2))

-- what follows an operand of the two lowest levels begins with an operator
low_join : (l : ℕ) (xs : List Sym) (e : ℕ) (i : Join) → l ≤ 2 → IsJoin l xs i e → (s : Sym) × (o : BinaryOperator) × (vs : List Sym) × (xs ≡ s ∷ vs) × (binary_of s ≡ Some o) × (strength o ≤ 2)
low_join l xs e (j.Operator o r) low p = (p.0, o, p.1, p.2, p.3, omega (arith, low, p.4))
low_join l xs e (j.As t) low p = absurd (omega (arith, low, p.5))

low_rest : {l at : ℕ} {x y : Expr} {d n : ℕ} {xs : List Sym} → l ≤ 2 → IsRest (IsJoin l) at x d xs y n
    → ((xs ≡ []) × (x ≡ y) × (d ≡ n)) ⊎ ((s : Sym) × (o : BinaryOperator) × (vs : List Sym) × (xs ≡ s ∷ vs) × (binary_of s ≡ Some o) × (strength o ≤ 2))
low_rest low stop = inl (refl, refl, refl)
low_rest {l = l} low (step {e = e} {ys = a} {zs = b} i p r) =
    let k = low_join l a e i low p in
    inr (k.0, k.1, k.2 ++ b, ap (λ v. v ++ b) k.3, k.4, k.5)

pub lower : {xs : List Sym} {x : Expr} {d : ℕ} → IsLevel true 1 xs x d → Lower xs x d
lower {xs = xs} {x = x} {d = d} q = go (low_rest (omega arith) c.rest) (low_rest (omega arith) b.rest)
  where
    below_two : ◌≢◌ {A = ℕ} 1 7
    below_two h = omega (arith, h)

    below : ◌≢◌ {A = ℕ} 2 7
    below h = omega (arith, h)

    b : Begins 1 xs x d
    b = unroll below_two q

    c : Begins 2 b.first b.of b.depth
    c = unroll below b.level

    go : ((c.more ≡ []) × (c.of ≡ b.of) × (c.depth ≡ b.depth)) ⊎ ((s : Sym) × (o : BinaryOperator) × (vs : List Sym) × (c.more ≡ s ∷ vs) × (binary_of s ≡ Some o) × (strength o ≤ 2))
        → ((b.more ≡ []) × (b.of ≡ x) × (b.depth ≡ d)) ⊎ ((s : Sym) × (o : BinaryOperator) × (vs : List Sym) × (b.more ≡ s ∷ vs) × (binary_of s ≡ Some o) × (strength o ≤ 2)) → Lower xs x d
    go h i = record {
      first = c.first;
      more = c.more ++ b.more;
      of = c.of;
      depth = c.depth;
      parts = b.parts ∙ ap (λ v. v ++ b.more) c.parts ∙ append_assoc c.first c.more b.more;
      level = c.level;
      shallow = omega (arith, rest_grows c.rest, rest_grows b.rest);
      rest = elim h [
        | inl k ↦ elim i [
          | inl p ↦ inl (ap (λ v. v ++ b.more) k.0 ∙ p.0, k.1 ∙ p.1, k.2 ∙ p.2)
          | inr p ↦ inr (p.0, p.1, p.2, ap (λ v. v ++ b.more) k.0 ∙ p.3, p.4, p.5)
        ]
        | inr k ↦ inr (k.0, k.1, k.2 ++ b.more, ap (λ v. v ++ b.more) k.3, k.4, k.5)
      ];
    }

-- an operator of a lower level does not go on with an operand of `??`
low_apart : (s : Sym) {o : BinaryOperator} → binary_of s ≡ Some o → strength o ≤ 2 → InLevel 3 s → ⊥
low_apart s {o = o} h low i = go (strength o) refl low
  where
    at : (l : ℕ) → strength o ≡ l → InLevel (suc l) s → ⊥
    at l e k = operator_not_above l s h e k

    go : (l : ℕ) → strength o ≡ l → l ≤ 2 → ⊥
    go zero e le = at zero e (level_down_two 1 s i)
    go (suc zero) e le = at 1 e (level_down 2 s i)
    go (suc (suc zero)) e le = at 2 e i
    go (suc (suc (suc l))) e le = omega (arith, le)

low_no_nullish : (s : Sym) {o : BinaryOperator} (at : ℕ) → binary_of s ≡ Some o → s ≡ Mark m.Nullish at → ⊥
low_no_nullish s at h i = let n : Some _ ≡ None = sym h ∙ ap binary_of i in cc

-- ---- operands joined by `??`

pub or_nullish : {at o d : ℕ} {x : Expr} {r : Deep Expr} {xs ys us zs : List Sym} (n : ℕ) → at ≡ start_of xs → Found (LevelUpto 3 n) (InLevel 3) xs (x, d) ys → ys ≡ Mark m.Nullish o ∷ us
    → Found (RestUpto IsNullishJoin at n x d) InOr ys r zs → Found (OrUpto n) InOr xs r zs
or_nullish {at = at} {o = o} {d = d} {x = x} {r = r} {xs = xs} {ys = ys} {us = us} {zs = zs} n place f sign g = record {
  front = f.front ++ g.front;
  whole = f.whole ∙ ap (λ v. f.front ++ v) g.whole ∙ sym (append_assoc f.front g.front zs);
  derives = (or_roll (place ∙ ap start_of f.whole ∙ begun_start ys (level_begun f.derives.0)) f.derives.0 g.derives.0, g.derives.1);
  longest = λ a y vs i w. go vs i.0 i.1 w;
}
  where
    starts : (vs : List Sym) → Starts (InLevel 3) vs → Starts InOr vs
    starts [] h = h
    starts (v ∷ vs) h = nullish_wide v h

    -- the front of an operand of `??`, with nothing behind it
    alone : {u : Expr} {a : List Sym} {k : ℕ} (vs : List Sym) → IsLevel true 3 a u k → k ≤ n → xs ≡ a ++ vs → Ends {X = Deep Expr} InOr r zs (u, k) vs
    alone {u = u} {a = a} {k = k} vs q le w = elim (f.longest a (u, k) vs (q, le) w) [
      | inl e ↦ subst (λ (v : Deep Expr). Ends {X = Deep Expr} InOr r zs v vs) e.0 (g.longest [] (x, d) vs (stop, f.derives.1) e.1)
      | inr e ↦ inr (omega (arith, e.0, shorter g), starts vs e.1)
    ]

    low : {u : Expr} {a : List Sym} {k : ℕ} (vs : List Sym) → Lower a u k → k ≤ n → xs ≡ a ++ vs → Ends {X = Deep Expr} InOr r zs (u, k) vs
    low {u = u} {k = k} vs b le w =
        let front : xs ≡ b.first ++ (b.more ++ vs) = w ∙ ap (λ v. v ++ vs) b.parts ∙ append_assoc b.first b.more vs in
        elim b.rest [
          | inl e ↦
              subst (λ (v : Deep Expr). Ends {X = Deep Expr} InOr r zs v vs) (both e.1 e.2)
              (alone vs b.level (omega (arith, le, b.shallow)) (front ∙ ap (λ v. b.first ++ (v ++ vs)) e.0))
          | inr e ↦
              let behind : b.more ++ vs ≡ e.0 ∷ (e.2 ++ vs) = ap (λ v. v ++ vs) e.3 in
              absurd (elim (f.longest b.first (b.of, b.depth) (b.more ++ vs) (b.level, omega (arith, le, b.shallow)) front) [
                | inl k ↦
                    let signs : Mark m.Nullish o ∷ us ≡ e.0 ∷ (e.2 ++ vs) = sym sign ∙ k.1 ∙ behind in
                    low_no_nullish e.0 o e.4 (cc)
                | inr k ↦ low_apart e.0 e.4 e.5 (subst (λ v. Starts (InLevel 3) v) behind k.1)
              ])
        ]

    go : {u : Expr} {a : List Sym} {k : ℕ} (vs : List Sym) → IsOr true a u k → k ≤ n → xs ≡ a ++ vs → Ends {X = Deep Expr} InOr r zs (u, k) vs
    go vs (level_expr q) le w = low vs (lower q) le w
    go {u = u} {a = a} {k = k} vs (nullish_expr q) le w =
        let b = nulls q in
        let front : xs ≡ b.first ++ (b.next ++ (b.more ++ vs)) =
        w ∙ ap (λ v. v ++ vs) b.parts ∙ append_assoc b.first (b.next ++ b.more) vs ∙ ap (λ v. b.first ++ v) (append_assoc b.next b.more vs) in
        let e = exact f b.first (b.of, b.depth) (b.next ++ (b.more ++ vs)) (b.level, omega (arith, le, rest_grows b.rest)) front (λ h. nullish_apart b.next b.join_depth b.join (b.more ++ vs) b.joins h) in
        let here : start_of a ≡ at = sym (place ∙ ap start_of w ∙ begun_start vs (nullish_begun q)) in
        let rest = step b.join b.joins b.rest in
        let rest_here = subst (λ (i : ℕ). IsRest IsNullishJoin i b.of b.depth (b.next ++ b.more) u k) here rest in
        g.longest (b.next ++ b.more) (u, k) vs (subst (λ (v : Deep Expr). IsRest IsNullishJoin at v.0 v.1 (b.next ++ b.more) u k) (sym e.0) rest_here, le) (e.1 ∙ sym (append_assoc b.next b.more vs))

pub or_start : {at o d : ℕ} {x : Expr} {xs ys us : List Sym} (n : ℕ) → at ≡ start_of xs → Found (LevelUpto 3 n) (InLevel 3) xs (x, d) ys → ys ≡ Mark m.Nullish o ∷ us
    → RestSoFar IsNullishJoin InOr (OrUpto n) at n xs x d ys
or_start n place f sign r zs g = or_nullish n place f sign g

-- ---- operands of the lowest level, with no `??`

pub or_level : {r e : Deep Expr} {xs ys us : List Sym} (n : ℕ) → Found (LevelUpto 3 n) (InLevel 3) xs e us → ((o : ℕ) (vs : List Sym) → us ≡ Mark m.Nullish o ∷ vs → ⊥)
    → Found (LevelUpto 1 n) (InLevel 1) xs r ys → Found (OrUpto n) InOr xs r ys
or_level {r = r} {xs = xs} {ys = ys} {us = us} n h without f = record {
  front = f.front;
  whole = f.whole;
  derives = (level_expr f.derives.0, f.derives.1);
  longest = λ a y vs i w. go vs i.0 i.1 w;
}
  where
    behind : (b : List Sym) (e : ℕ) (i : Join) (vs : List Sym) → IsNullishJoin b i e → us ≡ b ++ vs → ⊥
    behind b e (j.Operator o x) vs d w = without d.0 (d.1 ++ vs) (w ∙ ap (λ v. v ++ vs) d.2)
    behind b e (j.As t) vs d w = d

    go : {u : Expr} {a : List Sym} {k : ℕ} (vs : List Sym) → IsOr true a u k → k ≤ n → xs ≡ a ++ vs → Ends {X = Deep Expr} InOr r ys (u, k) vs
    go {u = u} {a = a} {k = k} vs (level_expr q) le w = (wider level_in_or f).longest a (u, k) vs (q, le) w
    go vs (nullish_expr q) le w =
        let b = nulls q in
        let front = w ∙ ap (λ v. v ++ vs) b.parts ∙ append_assoc b.first (b.next ++ b.more) vs ∙ ap (λ v. b.first ++ v) (append_assoc b.next b.more vs) in
        let e = exact h b.first (b.of, b.depth) (b.next ++ (b.more ++ vs)) (b.level, omega (arith, le, rest_grows b.rest)) front (λ h. nullish_apart b.next b.join_depth b.join (b.more ++ vs) b.joins h) in
        absurd (behind b.next b.join_depth b.join (b.more ++ vs) b.joins e.1)

pub or_lacks : {xs : List Sym} (n : ℕ) → Lacks (LevelUpto 3 n) xs → Lacks (OrUpto n) xs
or_lacks {xs = xs} n f = record { none = λ a y vs i w. go vs i.0 i.1 w }
  where
    go : {u : Expr} {a : List Sym} {k : ℕ} (vs : List Sym) → IsOr true a u k → k ≤ n → xs ≡ a ++ vs → ⊥
    go vs (level_expr q) le w =
        let b = lower q in
        f.none b.first (b.of, b.depth) (b.more ++ vs) (b.level, omega (arith, le, b.shallow)) (w ∙ ap (λ v. v ++ vs) b.parts ∙ append_assoc b.first b.more vs)
    go vs (nullish_expr q) le w =
        let b = nulls q in
        f.none b.first (b.of, b.depth) ((b.next ++ b.more) ++ vs) (b.level, omega (arith, le, rest_grows b.rest)) (w ∙ ap (λ v. v ++ vs) b.parts ∙ append_assoc b.first (b.next ++ b.more) vs)

-- Joins from the left to the right: what follows a first operand.
use Rattle.std.proofs.Common.{◌≡◌, ℕ, suc, ◌+◌, ◌≤◌, ◌<◌, max, List, [], ◌∷◌, ◌++◌, length, refl, sym, ◌∙◌, ap, subst, inl, inr, arith, append_assoc, append-nil, length-append}
use Rattle.std.specs.Prelude.{◌⊎◌}
use Rattle.tb_tree.specs.declared.exprs.Expr.{Expr}
use Rattle.tb_tree.specs.Sym.{Sym}
use Rattle.tb_tree.specs.Longest.{Found, Lacks, Ends, Starts}
use Rattle.tb_tree.proofs.Ends.{exact, shorter, found_from}
use Rattle.tb_parse_body.specs.declared.levels.Join.{Join}
use Rattle.tb_parse_body.specs.Joins.{joined}
use Rattle.tb_parse_body.specs.Rules.{Deep}

-- J is what may follow an operand; the first operand begins at `at`.
module _ (J : List Sym → Join → ℕ → Type 0) (at : ℕ) where
  pub data IsRest : Expr → ℕ → List Sym → Expr → ℕ → Type 0 where
    stop : {x : Expr} {d : ℕ} → IsRest x d [] x d
    step : {x z : Expr} {d e n : ℕ} {ys zs : List Sym} (j : Join) → J ys j e → IsRest (joined at x j) (max d e + 1) zs z n → IsRest x d (ys ++ zs) z n

-- up to a depth
abbrev pub OneUpto : (List Sym → Join → ℕ → Type 0) → ℕ → List Sym → Deep Join → Type 0
OneUpto J n xs r = J xs r.0 r.1 × (r.1 ≤ n)

abbrev pub RestUpto : (List Sym → Join → ℕ → Type 0) → ℕ → ℕ → Expr → ℕ → List Sym → Deep Expr → Type 0
RestUpto J at n x d xs r = IsRest J at x d xs r.0 r.1 × (r.1 ≤ n)

pub rest_as : {J : List Sym → Join → ℕ → Type 0} {at : ℕ} {x y : Expr} {d n : ℕ} {xs ys : List Sym} → xs ≡ ys → IsRest J at x d xs y n → IsRest J at x d ys y n
rest_as {J = J} {at = at} {x = x} {y = y} {d = d} {n = n} i q = subst (λ v. IsRest J at x d v y n) i q

pub rest_grows : {J : List Sym → Join → ℕ → Type 0} {at : ℕ} {x y : Expr} {d n : ℕ} {xs : List Sym} → IsRest J at x d xs y n → d ≤ n
rest_grows stop = omega arith
rest_grows (step j p r) = omega (arith, rest_grows r)

-- a rest with one more join
pub rest_on : {J : List Sym → Join → ℕ → Type 0} {at : ℕ} {x y : Expr} {d n e : ℕ} {xs ys : List Sym} (j : Join) → IsRest J at x d xs y n → J ys j e
    → IsRest J at x d (xs ++ ys) (joined at y j) (max n e + 1)
rest_on {ys = ys} j stop q = rest_as (append-nil ys) (step j q stop)
rest_on {ys = ys} j (step {ys = a} {zs = b} i p r) q = rest_as (sym (append_assoc a b ys)) (step i p (rest_on j r q))

-- nothing goes on
pub rest_stop : (J : List Sym → Join → ℕ → Type 0) (C : Sym → Type 0) (at low n : ℕ) (x : Expr) (d : ℕ) (xs : List Sym) → d ≤ n → (d < n → n ≡ low + 1) → (d < n → Lacks (OneUpto J low) xs)
    → Found (RestUpto J at n x d) C xs (x, d) xs
rest_stop J C at low n x d xs shallow is h = record {
  front = [];
  whole = refl;
  derives = (stop, shallow);
  longest = λ a y vs i w. go vs i.0 i.1 w;
}
  where
    go : {u : Expr} {a : List Sym} {k : ℕ} (vs : List Sym) → IsRest J at x d a u k → k ≤ n → xs ≡ a ++ vs → Ends {X = Deep Expr} C (x, d) xs (u, k) vs
    go vs stop le w = inl (refl, w)
    go vs (step {e = e} {ys = a} {zs = b} j p r) le w =
        let below : d < n = omega (arith, le, rest_grows r) in
        absurd ((h below).none a (j, e) (b ++ vs) (p, omega (arith, le, rest_grows r, is below)) (w ∙ append_assoc a b vs))

-- A further join does not begin behind a shorter one: where j was read, and a shorter i is followed by a further join.
abbrev pub Parted : (List Sym → Join → ℕ → Type 0) → (Sym → Type 0) → List Sym → List Sym → Type 0
Parted J D xs ys = (a b : List Sym) (i k : Join) (e f : ℕ) (vs : List Sym) → J a i e → J b k f → xs ≡ a ++ (b ++ vs) → length ys < length (b ++ vs) → Starts D (b ++ vs) → ⊥

-- one more join
pub rest_step : {J : List Sym → Join → ℕ → Type 0} {D C : Sym → Type 0} {at d e : ℕ} {x : Expr} {j : Join} {r : Deep Expr} {xs ys zs : List Sym} (low n : ℕ) → n ≡ low + 1
    → Found (OneUpto J low) D xs (j, e) ys → Starts C xs → ((s : Sym) → D s → C s) → Parted J D xs ys → length ys < length xs
    → Found (RestUpto J at n (joined at x j) (max d e + 1)) C ys r zs → Found (RestUpto J at n x d) C xs r zs
rest_step {J = J} {D = D} {C = C} {at = at} {d = d} {e = e} {x = x} {j = j} {r = r} {xs = xs} {ys = ys} {zs = zs} low n is f begins wide parted falls g = record {
  front = f.front ++ g.front;
  whole = f.whole ∙ ap (λ v. f.front ++ v) g.whole ∙ sym (append_assoc f.front g.front zs);
  derives = (step j f.derives.0 g.derives.0, g.derives.1);
  longest = λ a y vs i w. go vs i.0 i.1 w;
}
  where
    starts : (vs : List Sym) → Starts D vs → Starts C vs
    starts [] h = h
    starts (v ∷ vs) h = wide v h

    same : {b : List Sym} {u : Expr} {k : ℕ} (i : Deep Join) → ◌≡◌ {A = Deep Join} (j, e) i → IsRest J at (joined at x i.0) (max d i.1 + 1) b u k → IsRest J at (joined at x j) (max d e + 1) b u k
    same {b = b} {u = u} {k = k} i h q = subst (λ (i : Deep Join). IsRest J at (joined at x i.0) (max d i.1 + 1) b u k) (sym h) q

    -- a shorter join with nothing behind it
    longer : {a b : List Sym} {y u : Expr} {i : Join} {m l k : ℕ} (vs : List Sym) → J a i l → IsRest J at y m b u k → xs ≡ a ++ (b ++ vs) → length ys < length (b ++ vs) → Starts D (b ++ vs)
        → Ends {X = Deep Expr} C r zs (u, k) vs
    longer vs p stop w less h = inr (omega (arith, less, shorter g), starts vs h)
    longer {a = a} {i = i} {l = l} vs p (step {e = m} {ys = b} {zs = t} k q z) w less h =
        absurd (parted a b i k l m (t ++ vs) p q (w ∙ ap (λ v. a ++ v) (append_assoc b t vs))
        (omega (arith, less, ap length (append_assoc b t vs))) (subst (λ v. Starts D v) (append_assoc b t vs) h))

    go : {u : Expr} {a : List Sym} {k : ℕ} (vs : List Sym) → IsRest J at x d a u k → k ≤ n → xs ≡ a ++ vs → Ends {X = Deep Expr} C r zs (u, k) vs
    go vs stop le w = inr (omega (arith, falls, shorter g, ap length w), subst (λ v. Starts C v) w begins)
    go {u = u} {k = k} vs (step {e = m} {ys = a} {zs = b} i p q) le w =
        let after : xs ≡ a ++ (b ++ vs) = w ∙ append_assoc a b vs in
        elim (f.longest a (i, m) (b ++ vs) (p, omega (arith, is, le, rest_grows q)) after) [
          | inl o ↦ g.longest b (u, k) vs (same (i, m) o.0 q, le) o.1
          | inr o ↦ longer vs p q after o.0 o.1
        ]

-- Whatever is found from here on makes what is found in all.
abbrev pub RestSoFar : (List Sym → Join → ℕ → Type 0) → (Sym → Type 0) → (List Sym → Deep Expr → Type 0) → ℕ → ℕ → List Sym → Expr → ℕ → List Sym → Type 0
RestSoFar J C W at n start x d xs = (r : Deep Expr) (zs : List Sym) → Found (RestUpto J at n x d) C xs r zs → Found W C start r zs

pub rest_turn : {J : List Sym → Join → ℕ → Type 0} {D C : Sym → Type 0} {W : List Sym → Deep Expr → Type 0} {at e : ℕ} {j : Join} {xs ys : List Sym} (low n : ℕ) (start : List Sym) (x : Expr) (d : ℕ)
    → n ≡ low + 1 → RestSoFar J C W at n start x d xs
    → Found (OneUpto J low) D xs (j, e) ys → Starts C xs → ((s : Sym) → D s → C s) → Parted J D xs ys → length ys < length xs
    → RestSoFar J C W at n start (joined at x j) (max d e + 1) ys
rest_turn low n start x d is all f begins wide parted falls r zs g = all r zs (rest_step low n is f begins wide parted falls g)

pub rest_end : {J : List Sym → Join → ℕ → Type 0} {C : Sym → Type 0} {W : List Sym → Deep Expr → Type 0} {at : ℕ} {xs : List Sym} (low n : ℕ) (start : List Sym) (x : Expr) (d : ℕ)
    → RestSoFar J C W at n start x d xs → d ≤ n → (d < n → n ≡ low + 1) → (d < n → Lacks (OneUpto J low) xs) → Found W C start (x, d) xs
rest_end {J = J} {C = C} {at = at} {xs = xs} low n start x d all shallow is h = all (x, d) xs (rest_stop J C at low n x d xs shallow is h)

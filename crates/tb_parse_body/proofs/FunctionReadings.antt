-- The longest function at the front of a list.
use Rattle.std.proofs.Common.{◌≡◌, ℕ, ◌+◌, ◌≤◌, max, true, List, [], ◌∷◌, ◌++◌, refl, sym, ◌∙◌, ap, subst, inl, inr, arith, append_assoc}
use Rattle.std.specs.Prelude.{Option}
use Rattle.tb_tree.specs.declared.marks.Mark.TheVariants as m
use Rattle.tb_tree.specs.declared.words.Word.{Word}
use Rattle.tb_tree.specs.declared.words.Word.TheVariants as w
use Rattle.tb_tree.specs.declared.types.TypeExpr.{TypeExpr}
use Rattle.tb_tree.specs.declared.exprs.Identifier.{Identifier}
use Rattle.tb_tree.specs.declared.exprs.Block.{Block}
use Rattle.tb_tree.specs.declared.exprs.Param.{Param}
use Rattle.tb_tree.specs.declared.exprs.Function.{Function, roll-Function}
use Rattle.tb_tree.specs.Sym.{Sym, Mark}
use Rattle.tb_tree.specs.Words.{is_name}
use Rattle.tb_tree.specs.Shapes.{word}
use Rattle.tb_tree.specs.Longest.{Found, Lacks, Ends, Never}
use Rattle.tb_tree.specs.Exprs.{IsFunction, function}
use Rattle.tb_tree.proofs.Ends.{exact, never, both, ap_both}
use Rattle.tb_parse_type.specs.declared.reader.Reader.{Reader}
use Rattle.tb_parse_type.specs.Reading.{rest}
use Rattle.tb_parse_body.specs.Rules.{Deep, SignatureUpto, BodyUpto, FunctionUpto, InBody}

-- the tree of a function of these parts
abbrev pub function_tree : ℕ → List ℕ → Deep (List Param) → Deep (Option TypeExpr × Block) → Deep Function
function_tree at name ps b = (roll-Function (record { at = at; name = name; variables = []; params = ps.0; result = b.0.0; body = b.0.1 }), max ps.1 b.1)

-- the parts of a function
abbrev Parts : ℕ → List Sym → Deep Function → Type 0
Parts n a r = (function_spelled : List ℕ) × (function_at : ℕ) × (k : Word) × (name : List ℕ) × (at : ℕ) × (x : List Sym) × (y : List Sym) × (ps : Deep (List Param)) × (b : Deep (Option TypeExpr × Block))
    × (a ≡ word w.Function function_spelled function_at ∷ word k name at ∷ (x ++ y)) × (is_name k ≡ true) × SignatureUpto n x ps × BodyUpto n y b × (function_tree at name ps b ≡ r)

parts : {n : ℕ} {a : List Sym} {r : Deep Function} → FunctionUpto n a r → Parts n a r
parts {n = n} d = go d.0 d.1
  where
    go : {a : List Sym} {of : Function} {depth : ℕ} → IsFunction true a of depth → depth ≤ n → Parts n a (of, depth)
    go (function {kind = k} fs fa s at o p {xs = x} {ys = y} {zs = z} {params = ps} {shape = t} {of = b} {d = d} {e = e} {f = f} i q r c) h = (
      fs,
      fa,
      k,
      s,
      at,
      Mark m.OpenParen o ∷ x ++ Mark m.CloseParen p ∷ [],
      y ++ z,
      (ps, d),
      ((t, b), max e f),
      ap (λ v. word w.Function fs fa ∷ word k s at ∷ v)
          (append_assoc (Mark m.OpenParen o ∷ x) (Mark m.CloseParen p ∷ y) z ∙ sym (append_assoc (Mark m.OpenParen o ∷ x) (Mark m.CloseParen p ∷ []) (y ++ z))),
      i,
      (o, p, x, refl, (q, omega (arith, h))),
      (y, z, e, f, refl, r, c, refl, omega (arith, h)),
      refl,
    )

whole : {n : ℕ} {k : Word} {x y : List Sym} {ps : Deep (List Param)} {b : Deep (Option TypeExpr × Block)} (fs : List ℕ) (fa : ℕ) (s : List ℕ) (at : ℕ) → is_name k ≡ true → SignatureUpto n x ps → BodyUpto n y b
    → FunctionUpto n (word w.Function fs fa ∷ word k s at ∷ (x ++ y)) (function_tree at s ps b)
whole {n = n} {k = k} {x = x} {y = y} {ps = ps} {b = b} fs fa s at i q c =
    let f = function {kind = k} fs fa s at q.0 q.1 i q.4.0 c.5 c.6 in
    let e : Mark m.OpenParen q.0 ∷ q.2 ++ Mark m.CloseParen q.1 ∷ c.0 ++ c.1 ≡ x ++ y =
    append_assoc (Mark m.OpenParen q.0 ∷ q.2) (Mark m.CloseParen q.1 ∷ c.0) c.1 ∙ sym (append_assoc (Mark m.OpenParen q.0 ∷ q.2) (Mark m.CloseParen q.1 ∷ []) (c.0 ++ c.1))
    ∙ ap_both (λ (u v : List Sym). u ++ v) (sym q.3) (sym c.4) in (
      subst (λ (v : List Sym). IsFunction true (word w.Function fs fa ∷ word k s at ∷ v) (function_tree at s ps b).0 (max ps.1 b.1)) e
          (subst (λ (d : ℕ). IsFunction true (word w.Function fs fa ∷ word k s at ∷ (Mark m.OpenParen q.0 ∷ q.2 ++ Mark m.CloseParen q.1 ∷ c.0 ++ c.1)) (function_tree at s ps b).0 (max ps.1 d)) (sym c.7) f),
      omega (arith, q.4.1, c.8),
    )

pub function_lacks : (n : ℕ) (xs : List Sym) → ((s : List ℕ) (o : ℕ) (zs : List Sym) → xs ≡ word w.Function s o ∷ zs → ⊥) → Lacks (FunctionUpto n) xs
function_lacks n xs h = record { none = λ a y zs d v. let p = parts d in h p.0 p.1 (word p.2 p.3 p.4 ∷ (p.5 ++ p.6) ++ zs) (v ∙ ap (λ u. u ++ zs) p.9) }

pub function_lacks_name : (n : ℕ) (xs ys : List Sym) (s : List ℕ) (o : ℕ) → xs ≡ word w.Function s o ∷ ys → ((k : Word) (s : List ℕ) (o : ℕ) → is_name k ≡ true → (zs : List Sym) → ys ≡ word k s o ∷ zs → ⊥)
    → Lacks (FunctionUpto n) xs
function_lacks_name n xs ys s o e h = record {
  none = λ a y zs d v.
      let p = parts d in
      let i : word w.Function s o ∷ ys ≡ word w.Function p.0 p.1 ∷ word p.2 p.3 p.4 ∷ ((p.5 ++ p.6) ++ zs) = sym e ∙ v ∙ ap (λ u. u ++ zs) p.9 in
      h p.2 p.3 p.4 p.10 ((p.5 ++ p.6) ++ zs) cc;
}

-- behind its first two symbols
behind_name : {n : ℕ} {a : List Sym} {r : Deep Function} (fs : List ℕ) (fa : ℕ) (k : Word) (s : List ℕ) (at : ℕ) (xs zs : List Sym) (p : Parts n a r)
    → word w.Function fs fa ∷ word k s at ∷ xs ≡ a ++ zs → (p.3 ≡ s) × (p.4 ≡ at) × (xs ≡ p.5 ++ (p.6 ++ zs))
behind_name fs fa k s at xs zs p e =
    let i : word w.Function fs fa ∷ word k s at ∷ xs ≡ word w.Function p.0 p.1 ∷ word p.2 p.3 p.4 ∷ ((p.5 ++ p.6) ++ zs) = e ∙ ap (λ u. u ++ zs) p.9 in
    let j : xs ≡ (p.5 ++ p.6) ++ zs = cc in (cc, cc, j ∙ append_assoc p.5 p.6 zs)

pub function_lacks_signature : {xs : List Sym} (n : ℕ) (fs : List ℕ) (fa : ℕ) (k : Word) (s : List ℕ) (at : ℕ) → Lacks (SignatureUpto n) xs → Lacks (FunctionUpto n) (word w.Function fs fa ∷ word k s at ∷ xs)
function_lacks_signature {xs = xs} n fs fa k s at f = record {
  none = λ a y zs d v.
      let p = parts d in
      f.none p.5 p.7 (p.6 ++ zs) p.11 (behind_name fs fa k s at xs zs p v).2;
}

pub function_lacks_body : {xs ys : List Sym} {ps : Deep (List Param)} (n : ℕ) (fs : List ℕ) (fa : ℕ) (k : Word) (s : List ℕ) (at : ℕ) → Found (SignatureUpto n) Never xs ps ys → Lacks (BodyUpto n) ys
    → Lacks (FunctionUpto n) (word w.Function fs fa ∷ word k s at ∷ xs)
function_lacks_body {xs = xs} n fs fa k s at f g = record {
  none = λ a y zs d v.
      let p = parts d in
      let e = exact f p.5 p.7 (p.6 ++ zs) p.11 (behind_name fs fa k s at xs zs p v).2 (never (p.6 ++ zs)) in
      g.none p.6 p.8 zs p.12 e.1;
}

pub function_found : {xs ys zs : List Sym} {ps : Deep (List Param)} {b : Deep (Option TypeExpr × Block)} (n : ℕ) (fs : List ℕ) (fa : ℕ) (k : Word) (s : List ℕ) (at : ℕ) → is_name k ≡ true
    → Found (SignatureUpto n) Never xs ps ys → Found (BodyUpto n) InBody ys b zs → Found (FunctionUpto n) InBody (word w.Function fs fa ∷ word k s at ∷ xs) (function_tree at s ps b) zs
function_found {xs = xs} {ys = ys} {zs = zs} {ps = ps} {b = b} n fs fa k s at i f g = record {
  front = word w.Function fs fa ∷ word k s at ∷ (f.front ++ g.front);
  whole = ap (λ v. word w.Function fs fa ∷ word k s at ∷ v) (f.whole ∙ ap (λ v. f.front ++ v) g.whole ∙ sym (append_assoc f.front g.front zs));
  derives = whole fs fa s at i f.derives g.derives;
  longest = λ a y us d v. go y us (parts d) v;
}
  where
    go : {a : List Sym} (y : Deep Function) (us : List Sym) → Parts n a y → word w.Function fs fa ∷ word k s at ∷ xs ≡ a ++ us → Ends {X = Deep Function} InBody (function_tree at s ps b) zs y us
    go y us p v =
        let e = behind_name fs fa k s at xs us p v in
        let q = exact f p.5 p.7 (p.6 ++ us) p.11 e.2 (never (p.6 ++ us)) in
        elim (g.longest p.6 p.8 us p.12 q.1) [
          | inl o ↦ inl (same_tree p.3 p.4 p.7 p.8 (sym e.0) (sym e.1) q.0 o.0 ∙ p.13, o.1)
          | inr o ↦ inr o
        ]
      where
        same_tree : (t : List ℕ) (o : ℕ) (qs : Deep (List Param)) (c : Deep (Option TypeExpr × Block)) → s ≡ t → at ≡ o → ps ≡ qs → b ≡ c → function_tree at s ps b ≡ function_tree o t qs c
        same_tree t o qs c h i j l =
            ap (λ (v : List ℕ). function_tree at v ps b) h ∙ ap (λ (v : ℕ). function_tree v t ps b) i ∙ ap (λ (v : Deep (List Param)). function_tree o t v b) j
            ∙ ap (λ (v : Deep (Option TypeExpr × Block)). function_tree o t qs v) l

-- the tree that was made
pub same_function : {o at : ℕ} {t s : List ℕ} {vs : List Identifier} {of : Block} {d : ℕ} (ps : Deep (List Param)) (b : Deep (Option TypeExpr × Block)) → o ≡ at → t ≡ s → vs ≡ [] → of ≡ b.0.1 → d ≡ max ps.1 b.1
    → ◌≡◌ {A = Deep Function} (roll-Function (record { at = o; name = t; variables = vs; params = ps.0; result = b.0.0; body = of }), d) (function_tree at s ps b)
same_function {o = o} {at = at} {t = t} {s = s} {vs = vs} {of = of} ps b e h i j k =
    both
    (ap (λ (x : ℕ). roll-Function (record { at = x; name = t; variables = vs; params = ps.0; result = b.0.0; body = of })) e
    ∙ ap (λ (x : List ℕ). roll-Function (record { at = at; name = x; variables = vs; params = ps.0; result = b.0.0; body = of })) h
    ∙ ap (λ (x : List Identifier). roll-Function (record { at = at; name = s; variables = x; params = ps.0; result = b.0.0; body = of })) i
    ∙ ap (λ (x : Block). roll-Function (record { at = at; name = s; variables = []; params = ps.0; result = b.0.0; body = x })) j)
    k

-- two symbols that follow one another at a place
pub two_stand : (r : Reader) (at : ℕ) {s t : Sym} → rest r at ≡ s ∷ rest r (at + 1) → rest r (at + 1) ≡ t ∷ rest r (at + 1 + 1) → rest r at ≡ s ∷ t ∷ rest r (at + 2)
two_stand r at {s = s} {t = t} e i =
    let p : at + 1 + 1 ≡ at + 2 = omega arith in
    e ∙ ap (λ v. s ∷ v) (i ∙ ap (λ n. t ∷ rest r n) p)

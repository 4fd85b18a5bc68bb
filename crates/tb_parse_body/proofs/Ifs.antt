-- `if`, with and without `else`.
use Rattle.std.proofs.Common.{◌≡◌, ℕ, ◌-◌, ◌≤◌, ◌<◌, max, Bool, true, false, List, [], ◌∷◌, ◌++◌, length, refl, sym, ◌∙◌, ap, subst, inl, inr, arith, append_assoc}
use Rattle.std.specs.Prelude.{Option, Some, None}
use Rattle.tb_tree.specs.declared.words.Word.TheVariants as words
use Rattle.tb_tree.specs.declared.exprs.Expr.{Expr}
use Rattle.tb_tree.specs.declared.exprs.Stmt.{Stmt}
use Rattle.tb_tree.specs.Sym.{Sym}
use Rattle.tb_tree.specs.Shapes.{word}
use Rattle.tb_tree.specs.Longest.{Found, Lacks, Ends, Starts, Never}
use Rattle.tb_tree.specs.Exprs.{Around, IsStmt}
use Rattle.tb_tree.specs.Exprs as g
use Rattle.tb_tree.proofs.Ends.{shorter, starts_by, both}
use Rattle.tb_parse_body.specs.Rules.{Deep, StmtUpto, HeadUpto, InStmt}
use Rattle.tb_parse_body.specs.Reading.{Closes}
use Rattle.tb_parse_body.specs.Elses.{ElseUpto}
use Rattle.tb_parse_body.proofs.FirstSymbols.{Image, IfRest, open_rest, full_rest, ClosesBy, two_image, two_then, two_given, given_found, image_found, then_found, apart_never, Behind, if_of}

-- what may stand before an `else` of an outer `if` is a statement
pub opened : {around : Around} {closed : Bool} {a : List Sym} {s : Stmt} {d : ℕ} → IsStmt true around closed a s d → IsStmt true around false a s d
opened (g.block_stmt q) = g.block_stmt q
opened (g.if_stmt s at o p q r) = g.if_stmt s at o p q r
opened (g.if_else_stmt s at o p es ea q r f) = g.if_else_stmt s at o p es ea q r (opened f)
opened (g.while_stmt s at o p q r) = g.while_stmt s at o p q (opened r)
opened (g.do_stmt s at ws wa o p n q r) = g.do_stmt s at ws wa o p n q r
opened (g.for_stmt s at o n p q r f t) = g.for_stmt s at o n p q r f (opened t)
opened (g.for_of_stmt s at o ks ka ns na fs fa p i j q r) = g.for_of_stmt s at o ks ka ns na fs fa p i j q (opened r)
opened (g.return_stmt s at n i q) = g.return_stmt s at n i q
opened (g.break_stmt s at n i) = g.break_stmt s at n i
opened (g.continue_stmt s at n i) = g.continue_stmt s at n i
opened (g.throw_stmt s at n q) = g.throw_stmt s at n q
opened (g.switch_stmt s at o p ob cb q r) = g.switch_stmt s at o p ob cb q r
opened (g.expr_stmt n i q) = g.expr_stmt n i q
opened (g.empty_stmt at) = g.empty_stmt at

module _ (around : Around) (n : ℕ) where
  after_else : (spelled : List ℕ) (at : ℕ) (xs ys us : List Sym) → (xs ++ (word words.Else spelled at ∷ ys)) ++ us ≡ xs ++ (word words.Else spelled at ∷ (ys ++ us))
  after_else spelled at xs ys us = append_assoc xs (word words.Else spelled at ∷ ys) us

  -- no `else` belongs to what was read
  bare_ends : {xs ys a : List Sym} {then : Stmt} {d : ℕ} {flag closed : Bool} {u : Deep (Stmt × Option Stmt)} (us : List Sym)
      → Found (StmtUpto around false n) InStmt xs (then, d) ys → Closes around n xs (then, d) ys flag → Lacks (ElseUpto around n flag) ys
      → IfRest around n closed a u → xs ≡ a ++ us → (closed ≡ false) × Ends {X = Deep (Stmt × Option Stmt)} InStmt ((then, None), d) ys u us
  bare_ends us f k l (open_rest {xs = a} {then = t} {d = e} q) w = (
    refl,
    elim (f.longest a (t, e) us q w) [
      | inl o ↦ inl (ap (λ (r : Deep Stmt). let v : Deep (Stmt × Option Stmt) = ((r.0, None), r.1) in v) o.0, o.1)
      | inr o ↦ inr o
    ],
  )
  bare_ends us f k l (full_rest spelled at {xs = a} {ys = b} {then = t} {otherwise = s} {d = d} {e = e} q r) w =
      let o = k.alone a (t, d) (word words.Else spelled at ∷ (b ++ us)) q (w ∙ after_else spelled at a b us) in
      absurd (l.none (word words.Else spelled at ∷ b) (s, e) us (o.0, spelled, at, b, refl, (opened r.0, r.1)) o.2)

  pub if_bare : {xs ys : List Sym} {then : Stmt} {d : ℕ} {flag : Bool} → Found (StmtUpto around false n) InStmt xs (then, d) ys → Closes around n xs (then, d) ys flag → Lacks (ElseUpto around n flag) ys
      → Found (IfRest around n false) InStmt xs ((then, None), d) ys × ClosesBy (IfRest around n) xs ((then, None), d) ys false
  if_bare f k l = (
    record {
      front = f.front;
      whole = f.whole;
      derives = open_rest f.derives;
      longest = λ a u us q w. (bare_ends us f k l q w).1;
    },
    record {
      closes = λ e. cc;
      alone = λ a u us q w. let o = (bare_ends us f k l q w).0 in absurd (let p : true ≡ false = o in cc);
    },
  )

  full_ends : {xs ys vs ws a : List Sym} {then otherwise : Stmt} {d e : ℕ} {flag : Bool} {u : Deep (Stmt × Option Stmt)} (spelled : List ℕ) (at : ℕ) (us : List Sym)
      → Found (StmtUpto around false n) InStmt xs (then, d) ys → Closes around n xs (then, d) ys flag → ys ≡ word words.Else spelled at ∷ vs → Found (StmtUpto around false n) InStmt vs (otherwise, e) ws
      → IfRest around n false a u → xs ≡ a ++ us → Ends {X = Deep (Stmt × Option Stmt)} InStmt ((then, Some otherwise), max d e) ws u us
  full_ends spelled at us f k i h (open_rest {xs = a} {then = t} {d = e} q) w = elim (f.longest a (t, e) us q w) [
    | inl o ↦ inr (omega (arith, shorter h, ap length i, ap length o.1), starts_by InStmt (sym o.1 ∙ i) refl)
    | inr o ↦ inr (omega (arith, shorter h, ap length i, o.0), o.1)
  ]
  full_ends {vs = vs} {ws = ws} spelled at us f k i h (full_rest s' p {xs = a} {ys = b} {then = t} {otherwise = s} {d = d'} {e = e'} q r) w =
      let o = k.alone a (t, d') (word words.Else s' p ∷ (b ++ us)) q (w ∙ after_else s' p a b us) in
      let j : word words.Else spelled at ∷ vs ≡ word words.Else s' p ∷ (b ++ us) = sym i ∙ o.2 in
      elim (h.longest b (s, e') us r cc) [
        | inl z ↦ inl (joined o.1 z.0, z.1)
        | inr z ↦ inr z
      ]
    where
      joined : {x y u v : Deep Stmt} → x ≡ y → u ≡ v → ◌≡◌ {A = Deep (Stmt × Option Stmt)} ((x.0, Some u.0), max x.1 u.1) ((y.0, Some v.0), max y.1 v.1)
      joined p q = cc

  full_alone : {xs ys vs ws a : List Sym} {then otherwise : Stmt} {d e : ℕ} {flag last : Bool} {u : Deep (Stmt × Option Stmt)} (spelled : List ℕ) (at : ℕ) (us : List Sym)
      → Closes around n xs (then, d) ys flag → ys ≡ word words.Else spelled at ∷ vs → Closes around n vs (otherwise, e) ws last
      → IfRest around n true a u → xs ≡ a ++ us → (last ≡ true) × (◌≡◌ {A = Deep (Stmt × Option Stmt)} ((then, Some otherwise), max d e) u) × (ws ≡ us)
  full_alone {vs = vs} spelled at us k i h (full_rest s' p {xs = a} {ys = b} {then = t} {otherwise = s} {d = d'} {e = e'} q r) w =
      let o = k.alone a (t, d') (word words.Else s' p ∷ (b ++ us)) q (w ∙ after_else s' p a b us) in
      let j : word words.Else spelled at ∷ vs ≡ word words.Else s' p ∷ (b ++ us) = sym i ∙ o.2 in
      let z = h.alone b (s, e') us r cc in
      (z.0, joined o.1 z.1, z.2)
    where
      joined : {x y u v : Deep Stmt} → x ≡ y → u ≡ v → ◌≡◌ {A = Deep (Stmt × Option Stmt)} ((x.0, Some u.0), max x.1 u.1) ((y.0, Some v.0), max y.1 v.1)
      joined p q = cc

  -- the `else` belongs to what was read
  pub if_full : {xs ys vs ws : List Sym} {then otherwise : Stmt} {d e : ℕ} {flag last : Bool} (spelled : List ℕ) (at : ℕ)
      → Found (StmtUpto around false n) InStmt xs (then, d) ys → Closes around n xs (then, d) ys flag → flag ≡ true → ys ≡ word words.Else spelled at ∷ vs
      → Found (StmtUpto around false n) InStmt vs (otherwise, e) ws → Closes around n vs (otherwise, e) ws last
      → Found (IfRest around n false) InStmt xs ((then, Some otherwise), max d e) ws × ClosesBy (IfRest around n) xs ((then, Some otherwise), max d e) ws last
  if_full {ws = ws} spelled at f k c i h l =
      let p = k.closes c in (
        record {
          front = p.0 ++ (word words.Else spelled at ∷ h.front);
          whole = p.1 ∙ ap (λ v. p.0 ++ v) (i ∙ ap (λ v. word words.Else spelled at ∷ v) h.whole) ∙ sym (after_else spelled at p.0 h.front ws);
          derives = full_rest spelled at p.2 h.derives;
          longest = λ a u us q w. full_ends spelled at us f k i h q w;
        },
        record {
          closes = λ e. let r = l.closes e in (
            p.0 ++ (word words.Else spelled at ∷ r.0),
            p.1 ∙ ap (λ v. p.0 ++ v) (i ∙ ap (λ v. word words.Else spelled at ∷ v) r.1) ∙ sym (after_else spelled at p.0 r.0 ws),
            full_rest spelled at p.2 r.2,
          );
          alone = λ a u us q w. full_alone spelled at us k i l q w;
        },
      )

-- what stands behind `if`
pub if_behind : {around : Around} {n : ℕ} {xs ys zs : List Sym} {x : Deep Expr} {y : Deep (Stmt × Option Stmt)} {closed : Bool} (spelled : List ℕ) (at : ℕ) → 0 < n → Found (HeadUpto (n - 1)) Never xs x ys
    → Found (IfRest around (n - 1) false) InStmt ys y zs × ClosesBy (IfRest around (n - 1)) ys y zs closed
    → Found (Behind around n (word words.If spelled at) false) InStmt xs (if_of at (x, y)) zs × ClosesBy (Behind around n (word words.If spelled at)) xs (if_of at (x, y)) zs closed
if_behind {around = around} {n = n} spelled at some f k =
    (given_found some (image_found (if_of at) (then_found (apart_never (IfRest around (n - 1) false)) f k.0)), two_given some (two_image (if_of at) (two_then f k.1)))

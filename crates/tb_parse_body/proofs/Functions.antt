-- How a function goes on behind a shorter one, and that no item of a block begins there.
use Rattle.std.proofs.Common.{◌≡◌, ℕ, ◌+◌, ◌<◌, Bool, true, false, List, [], ◌∷◌, ◌++◌, length, refl, sym, ◌∙◌, ap, arith, append_assoc, length-append, append-nil, inl, inr}
use Rattle.std.proofs.lemmas.Bool.{cases_order}
use Rattle.std.specs.Prelude.{Option, Some, None}
use Rattle.tb_tree.specs.declared.marks.Mark.TheVariants as m
use Rattle.tb_tree.specs.declared.words.Word.TheVariants as w
use Rattle.tb_tree.specs.declared.types.TypeExpr.{TypeExpr}
use Rattle.tb_tree.specs.declared.exprs.UpdateOperator.{UpdateOperator}
use Rattle.tb_tree.specs.declared.exprs.BinaryOperator.{BinaryOperator}
use Rattle.tb_tree.specs.declared.exprs.AssignOperator.{AssignOperator}
use Rattle.tb_tree.specs.declared.exprs.Expr.{Expr}
use Rattle.tb_tree.specs.declared.exprs.Block.{Block}
use Rattle.tb_tree.specs.declared.exprs.BlockItem.{BlockItem}
use Rattle.tb_tree.specs.declared.exprs.Function.{Function}
use Rattle.tb_tree.specs.declared.exprs.Stmt.{Stmt}
use Rattle.tb_tree.specs.Sym.{Sym, Mark}
use Rattle.tb_tree.specs.Shapes.{word}
use Rattle.tb_tree.specs.Types.{shape}
use Rattle.tb_tree.specs.Exprs as g
use Rattle.tb_tree.proofs.Ends.{append_three}
use Rattle.tb_parse_body.proofs.Even.{Even, even_nil, group_exact, params_even, block_items_even, expr_even, exprs_even}
use Rattle.tb_parse_body.proofs.Goes.{closed_same, Rest, rest_none, rest_brackets, rest_bar, AfterGroup, brace_behind}

-- ---- lists

-- two fronts of one list that leave as much are the same
pub same_left : (a b zs ws : List Sym) → a ++ zs ≡ b ++ ws → length zs ≡ length ws → (a ≡ b) × (zs ≡ ws)
same_left [] [] zs ws e h = (refl, e)
same_left [] (s ∷ b) zs ws e h = absurd (omega (arith, h, ap length e, length-append b ws))
same_left (s ∷ a) [] zs ws e h = absurd (omega (arith, h, ap length e, length-append a zs))
same_left (s ∷ a) (t ∷ b) zs ws e h = let r = same_left a b zs ws (cc) h in let i = r.0 in (cc, r.1)

-- ---- blocks and the types before them

module _ (ordered : Bool) where
  -- a block is a balanced group
  pub block_group : {around : g.Around} {y : List Sym} {of : Block} {d : ℕ} → g.IsBlock ordered around y of d
      → (o : ℕ) × (p : ℕ) × (x : List Sym) × Even x × (y ≡ Mark m.OpenBrace o ∷ x ++ Mark m.CloseBrace p ∷ [])
  block_group (g.block o p {xs = x} q) = (o, p, x, block_items_even ordered q, refl)

  -- blocks of one list end at one place
  pub blocks_same : {around other : g.Around} {y z : List Sym} {b t : Block} {d e : ℕ} (us ws : List Sym) → g.IsBlock ordered around y b d → g.IsBlock ordered other z t e → y ++ us ≡ z ++ ws
      → (y ≡ z) × (us ≡ ws)
  blocks_same us ws (g.block o p {xs = x} q) (g.block o' p' {xs = y} r) e =
      let j = closed_same m.CloseBrace p p' us ws (λ at. refl) (block_items_even ordered q) (block_items_even ordered r) cc in
      let i : o ≡ o' = cc in
      let k = j.0 in
      let l = j.1 in (cc, j.2)

-- Where a balanced group in braces stands behind a shorter `: Type`, or behind none, that type ended in the name `readonly`, and `[ ]`
-- stands behind the group.
pub annotation_behind : {a b x : List Sym} {s t : Option TypeExpr} {d e : ℕ} (o p : ℕ) (zs ws : List Sym) → g.IsAnnotation a s d → g.IsAnnotation b t e → Even x
    → a ++ (Mark m.OpenBrace o ∷ (x ++ (Mark m.CloseBrace p ∷ zs))) ≡ b ++ ws → length ws < length (Mark m.OpenBrace o ∷ (x ++ (Mark m.CloseBrace p ∷ zs))) → AfterGroup a zs ws
annotation_behind o p zs ws g.no_annotation g.no_annotation y e h = absurd (omega (arith, h, ap length e))
annotation_behind o p zs ws g.no_annotation (g.some_annotation (shape colon q n)) y e h = cc
annotation_behind {x = x} o p zs ws (g.some_annotation (shape colon {xs = a} q n)) g.no_annotation y e h =
    absurd (omega (arith, h, ap length e, length-append a (Mark m.OpenBrace o ∷ (x ++ (Mark m.CloseBrace p ∷ zs)))))
annotation_behind o p zs ws (g.some_annotation (shape colon q n)) (g.some_annotation (shape colon' r k)) y e h =
    let i = brace_behind o p zs ws q r y (cc) h in
    (Mark m.Colon colon ∷ i.0, i.1, i.2, i.3, i.4, i.5, ap (λ v. Mark m.Colon colon ∷ v) i.6, i.7, i.8)

-- what stands behind `[ ]` there
pub data Halts : List Sym → Type 0 where
  halts_brackets : (o p : ℕ) (vs : List Sym) → Halts (Mark m.OpenBracket o ∷ Mark m.CloseBracket p ∷ vs)
  halts_bar : (o : ℕ) (vs : List Sym) → Halts (Mark m.Bar o ∷ vs)
  halts_brace : (o : ℕ) (vs : List Sym) → Halts (Mark m.OpenBrace o ∷ vs)

-- `[ ]` and a symbol that goes on with no expression
abbrev pub BehindBody : List Sym → Type 0
BehindBody us = (o : ℕ) × (p : ℕ) × (vs : List Sym) × (us ≡ Mark m.OpenBracket o ∷ Mark m.CloseBracket p ∷ vs) × Halts vs

rest_halts : {r : List Sym} (o : ℕ) (vs : List Sym) → Rest r → Halts (r ++ (Mark m.OpenBrace o ∷ vs))
rest_halts o vs rest_none = halts_brace o vs
rest_halts o vs (rest_brackets i j us) = halts_brackets i j _
rest_halts o vs (rest_bar i us) = halts_bar i _

module _ (ordered : Bool) where
  -- what stands behind the body of a shorter type
  pub body_behind : {a b y z : List Sym} {s t : Option TypeExpr} {of by : Block} {d e i j : ℕ} {around other : g.Around} (us ws : List Sym)
      → g.IsAnnotation a s d → g.IsBlock ordered around y of i → g.IsAnnotation b t e → g.IsBlock ordered other z by j → a ++ (y ++ us) ≡ b ++ (z ++ ws)
      → length (z ++ ws) < length (y ++ us) → (front : List Sym) × (v : List ℕ) × (at : ℕ) × (a ≡ front ++ (word w.Readonly v at ∷ [])) × BehindBody us × (length ws < length us)
  body_behind {a = a} us ws p (g.block o n {xs = x} q) r (g.block o' n' {xs = x'} t) e h =
      let l = append_assoc x (Mark m.CloseBrace n ∷ []) us in
      let f = annotation_behind o n us (Mark m.OpenBrace o' ∷ x' ++ Mark m.CloseBrace n' ∷ [] ++ ws) p r (block_items_even ordered q)
      (ap (λ v. a ++ (Mark m.OpenBrace o ∷ v)) (sym l) ∙ e) (omega (arith, h, ap length l)) in (
        f.0,
        f.1,
        f.2,
        f.6,
        (f.3, f.4, f.5 ++ (Mark m.OpenBrace o' ∷ x' ++ Mark m.CloseBrace n' ∷ [] ++ ws), f.8, rest_halts o' (x' ++ Mark m.CloseBrace n' ∷ [] ++ ws) f.7),
        omega (arith, ap length f.8, length-append f.5 (Mark m.OpenBrace o' ∷ x' ++ Mark m.CloseBrace n' ∷ [] ++ ws), length-append (x' ++ Mark m.CloseBrace n' ∷ []) ws),
      )

  -- two bodies of one list: what stands behind the one that ends first
  pub body_goes : {a b y z : List Sym} {s t : Option TypeExpr} {of by : Block} {d e i j : ℕ} {around other : g.Around} (us ws : List Sym)
      → g.IsAnnotation a s d → g.IsBlock ordered around y of i → g.IsAnnotation b t e → g.IsBlock ordered other z by j → a ++ (y ++ us) ≡ b ++ (z ++ ws)
      → length ws < length us → BehindBody us
  body_goes {a = a} {b = b} {y = y} {z = z} us ws p q r t e h = elim (cases_order (length (z ++ ws)) (length (y ++ us))) [
    | inl i ↦
        let j = blocks_same ordered us ws q t (same_left a b (y ++ us) (z ++ ws) e (sym i)).1 in
        absurd (omega (arith, h, ap length j.1))
    | inr k ↦ elim k [
      | inl i ↦ (body_behind us ws p q r t e i).4
      | inr i ↦ absurd (omega (arith, h, (body_behind ws us r t p q (sym e) i).5))
    ]
  ]

  -- two functions of one list: what stands behind the one that ends first
  pub function_goes : {a b : List Sym} {f t : Function} {d e : ℕ} (us ws : List Sym) → g.IsFunction ordered a f d → g.IsFunction ordered b t e → a ++ us ≡ b ++ ws → length ws < length us → BehindBody us
  function_goes us ws (g.function fs fa s at o p {xs = x} {ys = y} {zs = z} n q r b) (g.function fs' fa' s' at' o' p' {xs = x'} {ys = y'} {zs = z'} n' q' r' b') e h =
      let i = append_three (Mark m.OpenParen o ∷ x) (Mark m.CloseParen p ∷ y) z us in
      let j = append_three (Mark m.OpenParen o' ∷ x') (Mark m.CloseParen p' ∷ y') z' ws in
      let k : Mark m.OpenParen o ∷ x ++ Mark m.CloseParen p ∷ y ++ z ++ us ≡ Mark m.OpenParen o' ∷ x' ++ Mark m.CloseParen p' ∷ y' ++ z' ++ ws = cc in
      let l : x ++ (Mark m.CloseParen p ∷ (y ++ (z ++ us))) ≡ x' ++ (Mark m.CloseParen p' ∷ (y' ++ (z' ++ ws))) = cc (sym i ∙ k ∙ j) in
      body_goes us ws r b r' b' (group_exact (Mark m.CloseParen p) (Mark m.CloseParen p') (y ++ (z ++ us)) (y' ++ (z' ++ ws)) (params_even ordered q) (params_even ordered q') refl refl l).2 h

-- ---- no item begins there

abbrev halting : Sym → Bool
halting (Mark m.OpenBracket at) = true
halting (Mark m.Bar at) = true
halting (Mark m.OpenBrace at) = true
halting _ = false

halts_head : {vs : List Sym} (s : Sym) (ys : List Sym) → Halts vs → s ∷ ys ≡ vs → halting s ≡ true
halts_head s ys (halts_brackets o p us) e = let i : s ≡ Mark m.OpenBracket o = cc in ap halting i
halts_head s ys (halts_bar o us) e = let i : s ≡ Mark m.Bar o = cc in ap halting i
halts_head s ys (halts_brace o us) e = let i : s ≡ Mark m.OpenBrace o = cc in ap halting i

no_update : (s : Sym) {x : UpdateOperator} → halting s ≡ true → g.update_of s ≡ Some x → ⊥
no_update (Mark m.OpenBracket at) h e = cc
no_update (Mark m.Bar at) h e = cc
no_update (Mark m.OpenBrace at) h e = cc
no_update _ h e = cc

no_assign : (s : Sym) {x : AssignOperator} → halting s ≡ true → g.assign_of s ≡ Some x → ⊥
no_assign (Mark m.OpenBracket at) h e = cc
no_assign (Mark m.Bar at) h e = cc
no_assign (Mark m.OpenBrace at) h e = cc
no_assign _ h e = cc

no_binary : (s : Sym) {x : BinaryOperator} → halting s ≡ true → g.binary_of s ≡ Some x → ⊥
no_binary (Mark m.OpenBracket at) h e = cc
no_binary (Mark m.Bar at) h e = cc
no_binary (Mark m.OpenBrace at) h e = cc
no_binary _ h e = cc

module _ (ordered : Bool) where
  -- no expression is empty

  primary_some : {x : List Sym} {of : Expr} {d : ℕ} (zs : List Sym) → g.IsPrimary ordered x of d → [] ≡ x ++ zs → ⊥
  primary_some zs (g.name_expr s at n) e = cc
  primary_some zs (g.this_expr s at) e = cc
  primary_some zs (g.number_expr s at) e = cc
  primary_some zs (g.string_expr s at) e = cc
  primary_some zs (g.template_expr s at) e = cc
  primary_some zs (g.spans_expr s at q) e = cc
  primary_some zs (g.boolean_expr s at n) e = cc
  primary_some zs (g.null_expr s at) e = cc
  primary_some zs (g.undefined_expr s at) e = cc
  primary_some zs (g.parens_expr o p q) e = cc
  primary_some zs (g.array_expr o p q) e = cc
  primary_some zs (g.object_expr o p q) e = cc
  primary_some zs (g.new_expr ns na s at o p n q) e = cc

  chain_some : {x : List Sym} {of : Expr} {d : ℕ} (zs : List Sym) → g.IsChain ordered x of d → [] ≡ x ++ zs → ⊥
  chain_some zs (g.primary_expr q) e = primary_some zs q e
  chain_some zs (g.member_expr k dot s at {xs = x} q n) e = chain_some (Mark m.Dot dot ∷ word k s at ∷ zs) q (e ∙ append_assoc x (Mark m.Dot dot ∷ word k s at ∷ []) zs)
  chain_some zs (g.index_expr o p {xs = x} {ys = y} q r) e =
      chain_some (Mark m.OpenBracket o ∷ y ++ (Mark m.CloseBracket p ∷ zs)) q (e ∙ append_three x (Mark m.OpenBracket o ∷ y) (Mark m.CloseBracket p ∷ []) zs)
  chain_some zs (g.call_expr o p {xs = x} {ys = y} q r) e =
      chain_some (Mark m.OpenParen o ∷ y ++ (Mark m.CloseParen p ∷ zs)) q (e ∙ append_three x (Mark m.OpenParen o ∷ y) (Mark m.CloseParen p ∷ []) zs)

  unary_some : {x : List Sym} {of : Expr} {d : ℕ} (zs : List Sym) → g.IsUnary ordered x of d → [] ≡ x ++ zs → ⊥
  unary_some zs (g.prefix_expr s i q) e = cc
  unary_some zs (g.update_before s i q t) e = cc
  unary_some zs (g.update_after s {xs = x} q t i) e = chain_some (s ∷ zs) q (e ∙ append_assoc x (s ∷ []) zs)
  unary_some zs (g.chain_expr q) e = chain_some zs q e

  level_some : {l : ℕ} {x : List Sym} {of : Expr} {d : ℕ} (zs : List Sym) → g.IsLevel ordered l x of d → [] ≡ x ++ zs → ⊥
  level_some zs (g.unary_operand i q) e = unary_some zs q e
  level_some zs (g.next_level q) e = level_some zs q e
  level_some zs (g.joined_expr s {xs = x} {ys = y} q o i r) e = level_some (s ∷ y ++ zs) q (e ∙ append_assoc x (s ∷ y) zs)
  level_some zs (g.as_expr s at {xs = x} {ys = y} i q r h) e = level_some (word w.As s at ∷ y ++ zs) q (e ∙ append_assoc x (word w.As s at ∷ y) zs)

  nullish_some : {x : List Sym} {of : Expr} {d : ℕ} (zs : List Sym) → g.IsNullish ordered x of d → [] ≡ x ++ zs → ⊥
  nullish_some zs (g.first_nullish at {xs = x} {ys = y} q r) e = level_some (Mark m.Nullish at ∷ y ++ zs) q (e ∙ append_assoc x (Mark m.Nullish at ∷ y) zs)
  nullish_some zs (g.next_nullish at {xs = x} {ys = y} q r) e = nullish_some (Mark m.Nullish at ∷ y ++ zs) q (e ∙ append_assoc x (Mark m.Nullish at ∷ y) zs)

  or_some : {x : List Sym} {of : Expr} {d : ℕ} (zs : List Sym) → g.IsOr ordered x of d → [] ≡ x ++ zs → ⊥
  or_some zs (g.level_expr q) e = level_some zs q e
  or_some zs (g.nullish_expr q) e = nullish_some zs q e

  cond_some : {typed : Bool} {x : List Sym} {of : Expr} {d : ℕ} (zs : List Sym) → g.IsCond ordered typed x of d → [] ≡ x ++ zs → ⊥
  cond_some zs (g.or_expr q) e = or_some zs q e
  cond_some zs (g.conditional_expr a b {xs = x} {ys = y} {zs = z} q r f) e =
      or_some (Mark m.Question a ∷ y ++ (Mark m.Colon b ∷ z ++ zs)) q (e ∙ append_three x (Mark m.Question a ∷ y) (Mark m.Colon b ∷ z) zs)

  pub expr_some : {typed : Bool} {x : List Sym} {of : Expr} {d : ℕ} (zs : List Sym) → g.IsExpr ordered typed x of d → [] ≡ x ++ zs → ⊥
  expr_some zs (g.arrow_expr o p a q r b) e = cc
  expr_some zs (g.short_arrow_expr s at a n b) e = cc
  expr_some zs (g.assign_expr s {xs = x} {ys = y} q t o r) e = chain_some (s ∷ y ++ zs) q (e ∙ append_assoc x (s ∷ y) zs)
  expr_some zs (g.cond_expr q) e = cond_some zs q e

  -- what begins with `[ ]` there is that array alone

  primary_stops : {x : List Sym} {of : Expr} {d : ℕ} (o p : ℕ) (zs vs : List Sym) → g.IsPrimary ordered x of d → x ++ zs ≡ Mark m.OpenBracket o ∷ Mark m.CloseBracket p ∷ vs → zs ≡ vs
  primary_stops o p zs vs (g.name_expr s at n) e = cc
  primary_stops o p zs vs (g.this_expr s at) e = cc
  primary_stops o p zs vs (g.number_expr s at) e = cc
  primary_stops o p zs vs (g.string_expr s at) e = cc
  primary_stops o p zs vs (g.template_expr s at) e = cc
  primary_stops o p zs vs (g.spans_expr s at q) e = cc
  primary_stops o p zs vs (g.boolean_expr s at n) e = cc
  primary_stops o p zs vs (g.null_expr s at) e = cc
  primary_stops o p zs vs (g.undefined_expr s at) e = cc
  primary_stops o p zs vs (g.parens_expr o' p' q) e = cc
  primary_stops o p zs vs (g.array_expr o' p' q) e = (closed_same {y = []} m.CloseBracket p' p zs vs (λ at. refl) (exprs_even ordered q) even_nil cc).2
  primary_stops o p zs vs (g.object_expr o' p' q) e = cc
  primary_stops o p zs vs (g.new_expr ns na s at o' p' n q) e = cc

  index_stops : {y vs : List Sym} {of : Expr} {d : ℕ} (o p : ℕ) (zs : List Sym) → Halts vs → g.IsExpr ordered true y of d → Mark m.OpenBracket o ∷ y ++ (Mark m.CloseBracket p ∷ zs) ≡ vs → ⊥
  index_stops {y = y} o p zs (halts_brackets i j us) q e =
      let f = group_exact {ys = []} (Mark m.CloseBracket p) (Mark m.CloseBracket j) zs us (expr_even ordered q) even_nil refl refl cc in
      expr_some [] q (sym (append-nil y ∙ f.0))
  index_stops o p zs (halts_bar i us) q e = cc
  index_stops o p zs (halts_brace i us) q e = cc

  chain_stops : {x vs : List Sym} {of : Expr} {d : ℕ} (o p : ℕ) (zs : List Sym) → Halts vs → g.IsChain ordered x of d → x ++ zs ≡ Mark m.OpenBracket o ∷ Mark m.CloseBracket p ∷ vs → zs ≡ vs
  chain_stops {vs = vs} o p zs h (g.primary_expr q) e = primary_stops o p zs vs q e
  chain_stops o p zs h (g.member_expr k dot s at {xs = x} q n) e =
      let i = chain_stops o p (Mark m.Dot dot ∷ word k s at ∷ zs) h q (sym (append_assoc x (Mark m.Dot dot ∷ word k s at ∷ []) zs) ∙ e) in
      let j : false ≡ true = halts_head (Mark m.Dot dot) (word k s at ∷ zs) h i in cc
  chain_stops o p zs h (g.index_expr o' p' {xs = x} {ys = y} q r) e =
      absurd (index_stops o' p' zs h r (chain_stops o p (Mark m.OpenBracket o' ∷ y ++ (Mark m.CloseBracket p' ∷ zs)) h q (sym (append_three x (Mark m.OpenBracket o' ∷ y) (Mark m.CloseBracket p' ∷ []) zs) ∙ e)))
  chain_stops o p zs h (g.call_expr o' p' {xs = x} {ys = y} q r) e =
      let i = chain_stops o p (Mark m.OpenParen o' ∷ y ++ (Mark m.CloseParen p' ∷ zs)) h q (sym (append_three x (Mark m.OpenParen o' ∷ y) (Mark m.CloseParen p' ∷ []) zs) ∙ e) in
      let j : false ≡ true = halts_head (Mark m.OpenParen o') (y ++ (Mark m.CloseParen p' ∷ zs)) h i in cc

  unary_stops : {x vs : List Sym} {of : Expr} {d : ℕ} (o p : ℕ) (zs : List Sym) → Halts vs → g.IsUnary ordered x of d → x ++ zs ≡ Mark m.OpenBracket o ∷ Mark m.CloseBracket p ∷ vs → zs ≡ vs
  unary_stops o p zs h (g.prefix_expr s {operator = r} i q) e = let j : s ≡ Mark m.OpenBracket o = cc in let n : Some r ≡ None = sym i ∙ ap g.unary_of j in cc
  unary_stops o p zs h (g.update_before s {operator = r} i q t) e = let j : s ≡ Mark m.OpenBracket o = cc in let n : Some r ≡ None = sym i ∙ ap g.update_of j in cc
  unary_stops o p zs h (g.update_after s {xs = x} q t i) e = absurd (no_update s (halts_head s zs h (chain_stops o p (s ∷ zs) h q (sym (append_assoc x (s ∷ []) zs) ∙ e))) i)
  unary_stops o p zs h (g.chain_expr q) e = chain_stops o p zs h q e

  level_stops : {l : ℕ} {x vs : List Sym} {of : Expr} {d : ℕ} (o p : ℕ) (zs : List Sym) → Halts vs → g.IsLevel ordered l x of d → x ++ zs ≡ Mark m.OpenBracket o ∷ Mark m.CloseBracket p ∷ vs → zs ≡ vs
  level_stops o p zs h (g.unary_operand i q) e = unary_stops o p zs h q e
  level_stops o p zs h (g.next_level q) e = level_stops o p zs h q e
  level_stops o p zs h (g.joined_expr s {xs = x} {ys = y} q i j r) e =
      absurd (no_binary s (halts_head s (y ++ zs) h (level_stops o p (s ∷ y ++ zs) h q (sym (append_assoc x (s ∷ y) zs) ∙ e))) i)
  level_stops o p zs h (g.as_expr s at {xs = x} {ys = y} i q r k) e =
      let j : false ≡ true = halts_head (word w.As s at) (y ++ zs) h (level_stops o p (word w.As s at ∷ y ++ zs) h q (sym (append_assoc x (word w.As s at ∷ y) zs) ∙ e)) in cc

  nullish_stops : {x vs : List Sym} {of : Expr} {d : ℕ} (o p : ℕ) (zs : List Sym) → Halts vs → g.IsNullish ordered x of d → x ++ zs ≡ Mark m.OpenBracket o ∷ Mark m.CloseBracket p ∷ vs → zs ≡ vs
  nullish_stops o p zs h (g.first_nullish at {xs = x} {ys = y} q r) e =
      let j : false ≡ true = halts_head (Mark m.Nullish at) (y ++ zs) h (level_stops o p (Mark m.Nullish at ∷ y ++ zs) h q (sym (append_assoc x (Mark m.Nullish at ∷ y) zs) ∙ e)) in cc
  nullish_stops o p zs h (g.next_nullish at {xs = x} {ys = y} q r) e =
      let j : false ≡ true = halts_head (Mark m.Nullish at) (y ++ zs) h (nullish_stops o p (Mark m.Nullish at ∷ y ++ zs) h q (sym (append_assoc x (Mark m.Nullish at ∷ y) zs) ∙ e)) in cc

  or_stops : {x vs : List Sym} {of : Expr} {d : ℕ} (o p : ℕ) (zs : List Sym) → Halts vs → g.IsOr ordered x of d → x ++ zs ≡ Mark m.OpenBracket o ∷ Mark m.CloseBracket p ∷ vs → zs ≡ vs
  or_stops o p zs h (g.level_expr q) e = level_stops o p zs h q e
  or_stops o p zs h (g.nullish_expr q) e = nullish_stops o p zs h q e

  cond_stops : {typed : Bool} {x vs : List Sym} {of : Expr} {d : ℕ} (o p : ℕ) (zs : List Sym) → Halts vs → g.IsCond ordered typed x of d → x ++ zs ≡ Mark m.OpenBracket o ∷ Mark m.CloseBracket p ∷ vs → zs ≡ vs
  cond_stops o p zs h (g.or_expr q) e = or_stops o p zs h q e
  cond_stops o p zs h (g.conditional_expr a b {xs = x} {ys = y} {zs = z} q r f) e =
      let j : false ≡ true = halts_head (Mark m.Question a) (y ++ (Mark m.Colon b ∷ z ++ zs)) h
      (or_stops o p (Mark m.Question a ∷ y ++ (Mark m.Colon b ∷ z ++ zs)) h q (sym (append_three x (Mark m.Question a ∷ y) (Mark m.Colon b ∷ z) zs) ∙ e)) in cc

  expr_stops : {typed : Bool} {x vs : List Sym} {of : Expr} {d : ℕ} (o p : ℕ) (zs : List Sym) → Halts vs → g.IsExpr ordered typed x of d → x ++ zs ≡ Mark m.OpenBracket o ∷ Mark m.CloseBracket p ∷ vs → zs ≡ vs
  expr_stops o p zs h (g.arrow_expr o' p' a q r b) e = cc
  expr_stops o p zs h (g.short_arrow_expr s at a n b) e = cc
  expr_stops o p zs h (g.assign_expr s {xs = x} {ys = y} q t i r) e = absurd (no_assign s (halts_head s (y ++ zs) h (chain_stops o p (s ∷ y ++ zs) h q (sym (append_assoc x (s ∷ y) zs) ∙ e))) i)
  expr_stops o p zs h (g.cond_expr q) e = cond_stops o p zs h q e

  stmt_stops : {around : g.Around} {closed : Bool} {x vs : List Sym} {of : Stmt} {d : ℕ} (o p : ℕ) (zs : List Sym) → Halts vs → g.IsStmt ordered around closed x of d
      → x ++ zs ≡ Mark m.OpenBracket o ∷ Mark m.CloseBracket p ∷ vs → ⊥
  stmt_stops o p zs h (g.block_stmt (g.block o' p' q)) e = cc
  stmt_stops o p zs h (g.if_stmt s at o' p' q r) e = cc
  stmt_stops o p zs h (g.if_else_stmt s at o' p' es ea q r f) e = cc
  stmt_stops o p zs h (g.while_stmt s at o' p' q r) e = cc
  stmt_stops o p zs h (g.do_stmt s at ws wa o' p' semicolon q r) e = cc
  stmt_stops o p zs h (g.for_stmt s at o' semicolon p' q r f b) e = cc
  stmt_stops o p zs h (g.for_of_stmt s at o' ks ka ns na os oa p' k n q r) e = cc
  stmt_stops o p zs h (g.return_stmt s at semicolon i q) e = cc
  stmt_stops o p zs h (g.break_stmt s at semicolon i) e = cc
  stmt_stops o p zs h (g.continue_stmt s at semicolon i) e = cc
  stmt_stops o p zs h (g.throw_stmt s at semicolon q) e = cc
  stmt_stops o p zs h (g.switch_stmt s at o' p' ob pb q r) e = cc
  stmt_stops o p zs h (g.expr_stmt semicolon {xs = x} b q) e =
      let j : false ≡ true = halts_head (Mark m.Semicolon semicolon) zs h (expr_stops o p (Mark m.Semicolon semicolon ∷ zs) h q (sym (append_assoc x (Mark m.Semicolon semicolon ∷ []) zs) ∙ e)) in cc
  stmt_stops o p zs h (g.empty_stmt at) e = cc

  item_stops : {around : g.Around} {x vs : List Sym} {of : BlockItem} {d : ℕ} (o p : ℕ) (zs : List Sym) → Halts vs → g.IsBlockItem ordered around x of d
      → x ++ zs ≡ Mark m.OpenBracket o ∷ Mark m.CloseBracket p ∷ vs → ⊥
  item_stops o p zs h (g.var_item (g.var s at semicolon k q)) e = cc
  item_stops o p zs h (g.function_item (g.function fs fa s at o' p' n q r b)) e = cc
  item_stops o p zs h (g.stmt_item q) e = stmt_stops o p zs h q e

  -- no item of a block begins behind the body of a shorter type
  pub no_item_behind : {around : g.Around} {x us : List Sym} {of : BlockItem} {d : ℕ} (zs : List Sym) → BehindBody us → g.IsBlockItem ordered around x of d → us ≡ x ++ zs → ⊥
  no_item_behind zs f q e = item_stops f.0 f.1 zs f.4 q (sym e ∙ f.3)

  -- no item of a block begins behind a function where a longer one ends further on
  pub no_item_behind_function : {a b x : List Sym} {f t : Function} {of : BlockItem} {d e n : ℕ} {around : g.Around} (us ws zs : List Sym) → g.IsFunction ordered a f d → g.IsFunction ordered b t e
      → a ++ us ≡ b ++ ws → length ws < length us → g.IsBlockItem ordered around x of n → us ≡ x ++ zs → ⊥
  no_item_behind_function us ws zs q r i h t e = no_item_behind zs (function_goes ordered us ws q r i h) t e

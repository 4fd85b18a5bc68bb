-- A name with a default in parentheses, which is a parameter of an arrow or an assignment.
use Rattle.std.proofs.Common.{◌≡◌, ℕ, suc, ◌+◌, ◌-◌, ◌≤◌, ◌<◌, max, Bool, true, false, List, [], ◌∷◌, ◌++◌, length, refl, sym, ◌∙◌, ap, subst, inl, inr, arith, append_assoc, length-append}
use Rattle.std.specs.Prelude.{Option, Some, None, ◌⊎◌}
use Rattle.std.proofs.lemmas.List.{append_cancel_right}
use Rattle.tb_tree.specs.declared.marks.Mark.TheVariants as m
use Rattle.tb_tree.specs.declared.words.Word.{Word}
use Rattle.tb_tree.specs.declared.words.Word.TheVariants as words
use Rattle.tb_tree.specs.declared.exprs.AssignOperator.{AssignOperator}
use Rattle.tb_tree.specs.declared.exprs.AssignOperator.TheVariants as assign
use Rattle.tb_tree.specs.declared.exprs.Expr.{Expr}
use Rattle.tb_tree.specs.declared.exprs.Expr.TheVariants as expr
use Rattle.tb_tree.specs.declared.exprs.Param.{Param, out-Param}
use Rattle.tb_tree.specs.declared.exprs.ArrowBody.{ArrowBody}
use Rattle.tb_tree.specs.declared.types.TypeExpr.{TypeExpr}
use Rattle.tb_tree.specs.Sym.{Sym, Mark, Lex}
use Rattle.tb_tree.specs.Words.{is_name}
use Rattle.tb_tree.specs.Shapes.{word, start_of, unmarked, marked}
use Rattle.tb_tree.specs.Types.{truth_of, shape}
use Rattle.tb_tree.specs.Longest.{Found, Lacks, Ends, Starts, Never}
use Rattle.tb_tree.specs.Exprs.{is_target, is_target_at, assign_of, no_annotation, some_annotation, no_value, some_value, IsParam, param, IsParams, no_params, last_param, more_params, IsExpr, arrow_expr, short_arrow_expr, assign_expr, cond_expr, IsCond, or_expr, conditional_expr, IsOr, level_expr, nullish_expr, IsNullish, first_nullish, next_nullish, IsLevel, unary_operand, next_level, joined_expr, as_expr, IsUnary, prefix_expr, update_before, update_after, chain_expr, IsChain, primary_expr, member_expr, index_expr, call_expr, IsPrimary, name_expr, this_expr, number_expr, string_expr, template_expr, spans_expr, boolean_expr, null_expr, undefined_expr, parens_expr, array_expr, object_expr, new_expr}
use Rattle.tb_tree.proofs.Ends.{exact, both, found_as, found_from, found_left}
use Rattle.tb_parse_body.specs.Rules.{Deep, ExprUpto, PrimaryUpto, ParamUpto, SignatureUpto, ArrowUpto, IsArrow, arrow, short_arrow, InExpr}
use Rattle.tb_parse_body.proofs.ArrowStarts.{name_leads, paren_leads, name_primary, paren_primary}
use Rattle.tb_parse_body.proofs.ParamOpenings.{GoesOn, Leads, chain_stops, cond_stops, chain_long}
use Rattle.tb_parse_body.proofs.Parameters.{param_of, params_one, signature_found}

-- ---- neither an arrow nor a primary: no expression

lead_of : (o : ℕ) (xs vs : List Sym) → xs ≡ Mark m.OpenParen o ∷ vs → (s : Sym) (us : List Sym) → xs ≡ s ∷ us → Leads s
lead_of o xs vs e s us w = let same : Mark m.OpenParen o ∷ vs ≡ s ∷ us = sym e ∙ w in let here : Mark m.OpenParen o ≡ s = cc in subst (λ (x : Sym). Leads x) here (paren_leads o)

nothing : (us : List Sym) → ⊥ → Starts GoesOn us → ⊥
nothing us h s = h

pub expr_lacks : {xs vs : List Sym} (typed : Bool) (n o : ℕ) → xs ≡ Mark m.OpenParen o ∷ vs → Lacks (ArrowUpto typed n) xs → Lacks (PrimaryUpto n) xs → Lacks (ExprUpto typed n) xs
expr_lacks {xs = xs} {vs = vs} typed n o e f g = record { none = λ a y us d w. go us d.0 d.1 w }
  where
    prim : (a : List Sym) (u : Expr) (k : ℕ) (us : List Sym) → IsPrimary true a u k → k ≤ n → xs ≡ a ++ us → ⊥
    prim a u k us d i w = g.none a (u, k) us (d, i) w

    go : {a : List Sym} {u : Expr} {k : ℕ} (us : List Sym) → IsExpr true typed a u k → k ≤ n → xs ≡ a ++ us → ⊥
    go {a = a} {u = u} {k = k} us (arrow_expr o c p d r b) i w = f.none a (u, k) us (arrow o c p d r b, i) w
    go {a = a} {u = u} {k = k} us (short_arrow_expr s o p j b) i w = f.none a (u, k) us (short_arrow s o p j b, i) w
    go us (assign_expr s {xs = a} {ys = b} h t j v) i w = chain_stops xs n (λ vs. ⊥) prim nothing (lead_of o xs vs e) (s ∷ b ++ us) h (omega (arith, i)) (w ∙ append_assoc a (s ∷ b) us)
    go us (cond_expr d) i w = cond_stops xs n (λ vs. ⊥) prim nothing (lead_of o xs vs e) us d i w

-- ---- a name alone

no_truth : {of : Bool} (k : Word) → is_name k ≡ true → truth_of k ≡ Some of → ⊥
no_truth words.True i e = let n : false ≡ true = i in cc
no_truth words.False i e = let n : false ≡ true = i in cc
no_truth _ i e = cc

same_word : {k l : Word} {s t : List ℕ} {o p : ℕ} {xs ys : List Sym} → word k s o ∷ xs ≡ word l t p ∷ ys → k ≡ l
same_word e = cc

reserved : (k l : Word) → is_name l ≡ false → k ≡ l → is_name k ≡ true → ⊥
reserved k l h e i = let n : false ≡ true = sym h ∙ ap is_name (sym e) ∙ i in cc

name_alone : {a : List Sym} {u : Expr} {e : ℕ} (k : Word) (s : List ℕ) (o : ℕ) → is_name k ≡ true → a ≡ word k s o ∷ [] → IsPrimary true a u e → (u ≡ expr.Name o s) × (e ≡ 1)
name_alone k s o i w (name_expr z p j) = let place : p ≡ o = cc in let name : z ≡ s = cc in (ap (λ (x : ℕ). expr.Name x z) place ∙ ap (λ (x : List ℕ). expr.Name o x) name, refl)
name_alone k s o i w (this_expr z p) = absurd (reserved k words.This refl (same_word (sym w)) i)
name_alone k s o i w (number_expr z p) = absurd (cc)
name_alone k s o i w (string_expr z p) = absurd (cc)
name_alone k s o i w (template_expr z p) = absurd (cc)
name_alone k s o i w (spans_expr z p d) = absurd (cc)
name_alone k s o i w (boolean_expr {kind = l} z p t) = absurd (no_truth k i (ap truth_of (same_word (sym w)) ∙ t))
name_alone k s o i w (null_expr z p) = absurd (reserved k words.Null refl (same_word (sym w)) i)
name_alone k s o i w (undefined_expr z p) = absurd (reserved k words.Undefined refl (same_word (sym w)) i)
name_alone k s o i w (parens_expr p q d) = absurd (cc)
name_alone k s o i w (array_expr p q d) = absurd (cc)
name_alone k s o i w (object_expr p q d) = absurd (cc)
name_alone k s o i w (new_expr z p t q o' p' j d) = absurd (cc)

chain_alone : {a : List Sym} {u : Expr} {e : ℕ} (k : Word) (s : List ℕ) (o : ℕ) → is_name k ≡ true → a ≡ word k s o ∷ [] → IsChain true a u e → (u ≡ expr.Name o s) × (e ≡ 1)
chain_alone k s o i w (primary_expr d) = name_alone k s o i w d
chain_alone k s o i w (member_expr l q z p {xs = xs} d j) = absurd (omega (arith, chain_long d, ap length w, length-append xs (Mark m.Dot q ∷ word l z p ∷ [])))
chain_alone k s o i w (index_expr q p {xs = xs} {ys = ys} d e) =
    absurd (omega (arith, chain_long d, ap length w, length-append xs (Mark m.OpenBracket q ∷ ys), length-append (xs ++ Mark m.OpenBracket q ∷ ys) (Mark m.CloseBracket p ∷ [])))
chain_alone k s o i w (call_expr q p {xs = xs} {ys = ys} d e) =
    absurd (omega (arith, chain_long d, ap length w, length-append xs (Mark m.OpenParen q ∷ ys), length-append (xs ++ Mark m.OpenParen q ∷ ys) (Mark m.CloseParen p ∷ [])))

-- ---- an assignment to a name

no_word_assign : (q : ℕ) (kind : Word) (w : List ℕ) (p : ℕ) → Mark m.Assign q ≡ word kind w p → ⊥
no_word_assign q kind w p e = cc

-- what an expression is that begins with a name and `=`, and is followed by `)`
abbrev pub Assigned : ℕ → List ℕ → List Sym → List Sym → Expr → ℕ → Type 0
Assigned o s zs us v d = (b : List Sym) × (of : Expr) × (e : ℕ) × (zs ≡ b ++ us) × IsExpr true true b of e × (v ≡ expr.Assign o (expr.Name o s) assign.Assign of) × (d ≡ max 1 e + 1)

pub assigned : {xs zs y : List Sym} {v : Expr} {d : ℕ} (k : Word) (s : List ℕ) (o q c : ℕ) (us : List Sym) → is_name k ≡ true → xs ≡ word k s o ∷ Mark m.Assign q ∷ zs → IsExpr true true y v d
    → xs ≡ y ++ (Mark m.CloseParen c ∷ us) → Assigned o s zs (Mark m.CloseParen c ∷ us) v d
assigned {xs = xs} {zs = zs} k s o q c us i e x w = go x w
  where
    left : List Sym → Type 0
    left vs = vs ≡ Mark m.Assign q ∷ zs

    prim : (n : ℕ) (a : List Sym) (u : Expr) (f : ℕ) (us : List Sym) → IsPrimary true a u f → f ≤ n → xs ≡ a ++ us → us ≡ Mark m.Assign q ∷ zs
    prim n a u f us d j w = name_primary e (no_word_assign q) us d w

    ends : (us : List Sym) → us ≡ Mark m.Assign q ∷ zs → Starts GoesOn us → ⊥
    ends us e h = let n : true ≡ false = subst (λ v. Starts GoesOn v) e h in cc

    leads : (t : Sym) (vs : List Sym) → xs ≡ t ∷ vs → Leads t
    leads t vs w = let same : word k s o ∷ Mark m.Assign q ∷ zs ≡ t ∷ vs = sym e ∙ w in let here : word k s o ≡ t = cc in subst (λ (x : Sym). Leads x) here (name_leads k s o i)

    go : {y : List Sym} {v : Expr} {d : ℕ} → IsExpr true true y v d → xs ≡ y ++ (Mark m.CloseParen c ∷ us) → Assigned o s zs (Mark m.CloseParen c ∷ us) v d
    go (arrow_expr o' c' p' d r b) w = absurd (cc)
    go (short_arrow_expr z p r j b) w = absurd (cc)
    go {d = d} (cond_expr x) w =
        let t = cond_stops xs d (λ vs. vs ≡ Mark m.Assign q ∷ zs) (prim d) ends leads (Mark m.CloseParen c ∷ us) x (omega arith) w in
        absurd (cc)
    go (assign_expr t {operator = operator} {xs = a} {ys = b} {target = target} {value = value} {d = d} {e = f} h g j v) w =
        let behind : xs ≡ a ++ (t ∷ (b ++ (Mark m.CloseParen c ∷ us))) = w ∙ append_assoc a (t ∷ b) (Mark m.CloseParen c ∷ us) in
        let r = chain_stops xs d (λ vs. vs ≡ Mark m.Assign q ∷ zs) (prim d) ends leads (t ∷ (b ++ (Mark m.CloseParen c ∷ us))) h (omega arith) behind in
        let mark : t ≡ Mark m.Assign q = cc in
        let rest : zs ≡ b ++ (Mark m.CloseParen c ∷ us) = cc in
        let same : a ++ (Mark m.Assign q ∷ zs) ≡ (word k s o ∷ []) ++ (Mark m.Assign q ∷ zs) = ap (λ v. a ++ v) (sym r) ∙ sym behind ∙ e in
        let front : a ≡ word k s o ∷ [] = append_cancel_right a (word k s o ∷ []) (Mark m.Assign q ∷ zs) same in
        let name = chain_alone k s o i front h in
        let write : Some assign.Assign ≡ Some operator = sym (ap assign_of mark) ∙ j in
        let op : operator ≡ assign.Assign = cc in
        let place : start_of a ≡ o = ap start_of front in (
          b,
          value,
          f,
          rest,
          v,
          ap (λ (x : ℕ). expr.Assign x target operator value) place ∙ ap (λ (x : Expr). expr.Assign o x operator value) name.0 ∙ ap (λ (x : AssignOperator). expr.Assign o (expr.Name o s) x value) op,
          ap (λ (x : ℕ). max x f + 1) name.1,
        )

-- ---- a primary there is a parameter in parentheses

abbrev pub InParens : ℕ → ℕ → List ℕ → List Sym → List Sym → Expr → ℕ → ℕ → Type 0
InParens p o s ws us u e n = (c : ℕ) × (b : List Sym) × (of : Expr) × (d : ℕ) × (ws ≡ b ++ (Mark m.CloseParen c ∷ us)) × ParamUpto (n - 1) b ((param_of o s false None (Some of), true), d)
    × (u ≡ expr.Parens p (expr.Assign o (expr.Name o s) assign.Assign of)) × (e ≡ max 1 d + 1 + 1)

pub primary_param : {xs ws zs a us : List Sym} {u : Expr} {e : ℕ} (n p : ℕ) (k : Word) (s : List ℕ) (o q : ℕ) → is_name k ≡ true → xs ≡ Mark m.OpenParen p ∷ ws → ws ≡ word k s o ∷ Mark m.Assign q ∷ zs
    → IsPrimary true a u e → e ≤ n → xs ≡ a ++ us → InParens p o s ws us u e n
primary_param {ws = ws} {us = us} n p k s o q i w v d h z =
    let x = paren_primary w us d z in
    let y = assigned k s o q x.0 us i v x.5 x.4 in
    let own = param s o i unmarked no_annotation (some_value q y.4) refl in
    let deep : max 0 y.2 ≡ y.2 = omega arith in
    let small : y.2 ≤ n - 1 = omega (arith, h, x.7, y.6) in (
      x.0,
      word k s o ∷ Mark m.Assign q ∷ y.0,
      y.1,
      y.2,
      v ∙ ap (λ v. word k s o ∷ Mark m.Assign q ∷ v) y.3,
      (subst (λ (k' : ℕ). IsParam true true (word k s o ∷ Mark m.Assign q ∷ y.0) (param_of o s false None (Some y.1)) k') deep own, small),
      x.6 ∙ ap (λ (t : Expr). expr.Parens p t) y.5,
      x.7 ∙ ap (λ (t : ℕ). t + 1) y.6,
    )

no_expr_close : (c : ℕ) → InExpr true (Mark m.CloseParen c) → ⊥
no_expr_close c h = let n : true ≡ false = h in cc

-- where no parameter is read, there is neither
pub signature_lacks_param : {xs ws zs : List Sym} (n p : ℕ) (k : Word) (s : List ℕ) (o : ℕ) → xs ≡ Mark m.OpenParen p ∷ ws → ws ≡ word k s o ∷ zs → Lacks (ParamUpto n) ws → Lacks (SignatureUpto n) xs
signature_lacks_param {xs = xs} {ws = ws} n p k s o w v f = record { none = λ a y us d z. go us d.0 d.1 d.4.0 d.4.1 (sym w ∙ z ∙ ap (λ v. v ++ us) d.3) }
  where
    go : {b : List Sym} {u : List Param} {e : ℕ} (us : List Sym) (o' c : ℕ) → IsParams true false b u e → e ≤ n → Mark m.OpenParen p ∷ ws ≡ (Mark m.OpenParen o' ∷ b ++ Mark m.CloseParen c ∷ []) ++ us → ⊥
    go us o' c no_params i z = let first : word k s o ∷ _ ≡ Mark m.CloseParen c ∷ us = sym v ∙ cc in cc
    go us o' c (last_param {given = given} {xs = b} {of = of} {d = d} q may) i z =
        let behind : ws ≡ (b ++ Mark m.CloseParen c ∷ []) ++ us = cc in
        f.none b ((of, given), d) (Mark m.CloseParen c ∷ us) (q, i) (behind ∙ append_assoc b (Mark m.CloseParen c ∷ []) us)
    go us o' c (more_params {given = given} comma {xs = b} {ys = y} {of = of} {d = d} q may r) i z =
        let behind : ws ≡ ((b ++ Mark m.Comma comma ∷ y) ++ Mark m.CloseParen c ∷ []) ++ us = cc in
        f.none b ((of, given), d) (Mark m.Comma comma ∷ y ++ Mark m.CloseParen c ∷ [] ++ us) (q, omega (arith, i))
        (behind ∙ ap (λ v. v ++ us) (append_assoc b (Mark m.Comma comma ∷ y) (Mark m.CloseParen c ∷ [])) ∙ append_assoc b (Mark m.Comma comma ∷ y ++ Mark m.CloseParen c ∷ []) us)

pub primary_lacks_param : {xs ws zs : List Sym} (n p : ℕ) (k : Word) (s : List ℕ) (o q : ℕ) → is_name k ≡ true → xs ≡ Mark m.OpenParen p ∷ ws → ws ≡ word k s o ∷ Mark m.Assign q ∷ zs → Lacks (ParamUpto (n - 1)) ws
    → Lacks (PrimaryUpto n) xs
primary_lacks_param n p k s o q i w v f = record {
  none = λ a y us d z.
      let x = primary_param n p k s o q i w v d.0 d.1 z in
      f.none x.1 ((param_of o s false None (Some x.2), true), x.3) (Mark m.CloseParen x.0 ∷ us) x.5 x.4;
}

-- nor is there a primary where `)` does not follow the longest parameter
pub primary_lacks_close : {x : Deep (Param × Bool)} {xs ws zs ys : List Sym} (n p : ℕ) (k : Word) (s : List ℕ) (o q : ℕ) → is_name k ≡ true → xs ≡ Mark m.OpenParen p ∷ ws
    → ws ≡ word k s o ∷ Mark m.Assign q ∷ zs → Found (ParamUpto (n - 1)) (InExpr true) ws x ys → ((c : ℕ) (us : List Sym) → ys ≡ Mark m.CloseParen c ∷ us → ⊥) → Lacks (PrimaryUpto n) xs
primary_lacks_close n p k s o q i w v f h = record {
  none = λ a y us d z.
      let x = primary_param n p k s o q i w v d.0 d.1 z in
      let t = exact f x.1 ((param_of o s false None (Some x.2), true), x.3) (Mark m.CloseParen x.0 ∷ us) x.5 x.4 (no_expr_close x.0) in
      h x.0 us t.1;
}

-- nor where the parameter is too deep
pub primary_lacks_depth : {x : Deep (Param × Bool)} {xs ws zs ys : List Sym} (n p : ℕ) (k : Word) (s : List ℕ) (o q : ℕ) → is_name k ≡ true → xs ≡ Mark m.OpenParen p ∷ ws
    → ws ≡ word k s o ∷ Mark m.Assign q ∷ zs → Found (ParamUpto (n - 1)) (InExpr true) ws x ys → n ≤ x.1 + 1 → Lacks (PrimaryUpto n) xs
primary_lacks_depth n p k s o q i w v f h = record {
  none = λ a y us d z.
      let x = primary_param n p k s o q i w v d.0 d.1 z in
      let t = exact f x.1 ((param_of o s false None (Some x.2), true), x.3) (Mark m.CloseParen x.0 ∷ us) x.5 x.4 (no_expr_close x.0) in
      omega (arith, h, d.1, x.7, ap (λ (r : Deep (Param × Bool)). r.1) t.0);
}

-- ---- and where it does, the primary is that parameter in parentheses

primary_deep : {a : List Sym} {u : Expr} {e : ℕ} → IsPrimary true a u e → 1 ≤ e
primary_deep (name_expr s o i) = omega arith
primary_deep (this_expr s o) = omega arith
primary_deep (number_expr s o) = omega arith
primary_deep (string_expr s o) = omega arith
primary_deep (template_expr s o) = omega arith
primary_deep (spans_expr s o d) = omega arith
primary_deep (boolean_expr s o i) = omega arith
primary_deep (null_expr s o) = omega arith
primary_deep (undefined_expr s o) = omega arith
primary_deep (parens_expr o p d) = omega arith
primary_deep (array_expr o p d) = omega arith
primary_deep (object_expr o p d) = omega arith
primary_deep (new_expr s o t q o' p i d) = omega arith

chain_deep : {a : List Sym} {u : Expr} {e : ℕ} → IsChain true a u e → 1 ≤ e
chain_deep (primary_expr d) = primary_deep d
chain_deep (member_expr k o s p d i) = omega arith
chain_deep (index_expr o p d e) = omega arith
chain_deep (call_expr o p d e) = omega arith

unary_deep : {a : List Sym} {u : Expr} {e : ℕ} → IsUnary true a u e → 1 ≤ e
unary_deep (prefix_expr s i d) = omega arith
unary_deep (update_before s i d t) = omega arith
unary_deep (update_after s d t i) = omega arith
unary_deep (chain_expr d) = chain_deep d

level_deep : {l : ℕ} {a : List Sym} {u : Expr} {e : ℕ} → IsLevel true l a u e → 1 ≤ e
level_deep (unary_operand i d) = unary_deep d
level_deep (next_level d) = level_deep d
level_deep (joined_expr s d i j e) = omega arith
level_deep (as_expr s o i d t j) = omega arith

nullish_deep : {a : List Sym} {u : Expr} {e : ℕ} → IsNullish true a u e → 1 ≤ e
nullish_deep (first_nullish o d e) = omega arith
nullish_deep (next_nullish o d e) = omega arith

or_deep : {a : List Sym} {u : Expr} {e : ℕ} → IsOr true a u e → 1 ≤ e
or_deep (level_expr d) = level_deep d
or_deep (nullish_expr d) = nullish_deep d

cond_deep : {typed : Bool} {a : List Sym} {u : Expr} {e : ℕ} → IsCond true typed a u e → 1 ≤ e
cond_deep (or_expr d) = or_deep d
cond_deep (conditional_expr q p d e f) = omega arith

expr_deep : {typed : Bool} {a : List Sym} {u : Expr} {e : ℕ} → IsExpr true typed a u e → 1 ≤ e
expr_deep (arrow_expr o p q d e f) = omega arith
expr_deep (short_arrow_expr s o p i d) = omega arith
expr_deep (assign_expr s d t i e) = omega arith
expr_deep (cond_expr d) = cond_deep d

abbrev pub Valued : ℕ → List ℕ → List Sym → List Sym → Param → ℕ → Type 0
Valued o s zs us u e = (b : List Sym) × (of : Expr) × (f : ℕ) × (zs ≡ b ++ us) × IsExpr true true b of f × (u ≡ param_of o s false None (Some of)) × (e ≡ f)

valued_param : {given : Bool} {a zs : List Sym} {u : Param} {e : ℕ} (k : Word) (s : List ℕ) (o q c : ℕ) (us : List Sym) → IsParam true given a u e → word k s o ∷ Mark m.Assign q ∷ zs ≡ a ++ (Mark m.CloseParen c ∷ us)
    → Valued o s zs (Mark m.CloseParen c ∷ us) u e
valued_param {zs = zs} k s o q c us (param z p i unmarked no_annotation (some_value t {xs = b} {of = of} {d = d} v) n) w =
    let place : p ≡ o = cc in
    let name : z ≡ s = cc in
    let behind : zs ≡ b ++ (Mark m.CloseParen c ∷ us) = cc in
    (b, of, d, behind, v, ap (λ (x : ℕ). param_of x z false None (Some of)) place ∙ ap (λ (x : List ℕ). param_of o x false None (Some of)) name, omega arith)
valued_param k s o q c us (param z p i unmarked no_annotation no_value n) w = absurd (cc)
valued_param k s o q c us (param z p i unmarked (some_annotation (shape t d h)) v n) w = absurd (cc)
valued_param k s o q c us (param z p i (marked t) a v n) w = absurd (cc)

pub found_valued : {r : Deep (Param × Bool)} {ws zs us : List Sym} (n : ℕ) (k : Word) (s : List ℕ) (o q c : ℕ) → ws ≡ word k s o ∷ Mark m.Assign q ∷ zs
    → Found (ParamUpto n) (InExpr true) ws r (Mark m.CloseParen c ∷ us) → Valued o s zs (Mark m.CloseParen c ∷ us) r.0.0 r.1
found_valued {us = us} n k s o q c v f = valued_param k s o q c us f.derives.0 (sym v ∙ f.whole)

name_target : (o : ℕ) (s : List ℕ) → is_target (expr.Name o s) ≡ true
name_target o s = ap is_target_at (expr.outs-Name o s)

abbrev pub parens_of : ℕ → Param → Expr → Expr
parens_of p u of = expr.Parens p (expr.Assign (out-Param u).at (expr.Name (out-Param u).at (out-Param u).name) assign.Assign of)

abbrev pub value_of : Param → Option Expr
value_of u = (out-Param u).value

same_value : {v w : Expr} → Some v ≡ Some w → v ≡ w
same_value e = cc

pub parens_found : {r : Deep (Param × Bool)} {xs ws zs us : List Sym} (n p : ℕ) (k : Word) (s : List ℕ) (o q c : ℕ) → is_name k ≡ true → xs ≡ Mark m.OpenParen p ∷ ws
    → ws ≡ word k s o ∷ Mark m.Assign q ∷ zs → Found (ParamUpto (n - 1)) (InExpr true) ws r (Mark m.CloseParen c ∷ us) → r.1 + 1 < n → (value : Expr) → (out-Param r.0.0).value ≡ Some value
    → Found (PrimaryUpto n) Never xs (parens_of p r.0.0 value, r.1 + 2) us
parens_found {r = r} {xs = xs} {ws = ws} {zs = zs} {us = us} n p k s o q c i w v f h value e =
    let x = found_valued (n - 1) k s o q c v f in
    let deep = expr_deep x.4 in
    let same : x.1 ≡ value = same_value {v = x.1} {w = value} (sym (ap value_of x.5) ∙ e) in
    let split : word k s o ∷ Mark m.Assign q ∷ (x.0 ++ (Mark m.CloseParen c ∷ us)) ≡ ((word k s o ∷ Mark m.Assign q ∷ x.0) ++ Mark m.CloseParen c ∷ []) ++ us =
    sym (append_assoc (word k s o ∷ Mark m.Assign q ∷ x.0) (Mark m.CloseParen c ∷ []) us) in
    let made = parens_expr p c (assign_expr {typed = true} (Mark m.Assign q) (primary_expr (name_expr {kind = k} s o i)) (name_target o s) refl x.4) in
    let tree : parens_of p r.0.0 value ≡ parens_of p (param_of o s false None (Some x.1)) x.1 = ap (λ (u : Param). parens_of p u value) x.5 ∙ ap (λ (t : Expr). parens_of p (param_of o s false None (Some x.1)) t) (sym same) in
    let depth : r.1 + 2 ≡ max 1 x.2 + 1 + 1 = omega (arith, deep, x.6) in
    found_as (both tree depth) (record {
      front = Mark m.OpenParen p ∷ (word k s o ∷ Mark m.Assign q ∷ x.0) ++ Mark m.CloseParen c ∷ [];
      whole = w ∙ ap (λ t. Mark m.OpenParen p ∷ t) (v ∙ ap (λ t. word k s o ∷ Mark m.Assign q ∷ t) x.3 ∙ split);
      derives = (made, omega (arith, h, depth));
      longest = λ a y us' d z. go x.1 x.2 x.5 x.6 d.0 d.1 us' z;
    })
  where
    go : {a : List Sym} {u : Expr} {e : ℕ} (of : Expr) (g : ℕ) → r.0.0 ≡ param_of o s false None (Some of) → r.1 ≡ g → IsPrimary true a u e → e ≤ n → (us' : List Sym) → xs ≡ a ++ us'
        → Ends {X = Deep Expr} Never (parens_of p (param_of o s false None (Some of)) of, max 1 g + 1 + 1) us (u, e) us'
    go of g same deep d j us' z =
        let y = primary_param n p k s o q i w v d j z in
        let t = exact f y.1 ((param_of o s false None (Some y.2), true), y.3) (Mark m.CloseParen y.0 ∷ us') y.5 y.4 (no_expr_close y.0) in
        let value : of ≡ y.2 = same_value {v = of} {w = y.2} (sym (ap value_of same) ∙ ap (λ (x : Deep (Param × Bool)). value_of x.0.0) t.0) in
        let behind : Mark m.CloseParen c ∷ us ≡ Mark m.CloseParen y.0 ∷ us' = t.1 in
        let left : us ≡ us' = cc in
        let depth : g ≡ y.3 = sym deep ∙ ap (λ (x : Deep (Param × Bool)). x.1) t.0 in
        inl (both (ap (λ (x : Expr). expr.Parens p (expr.Assign o (expr.Name o s) assign.Assign x)) value ∙ sym y.6) (ap (λ (x : ℕ). max 1 x + 1 + 1) depth ∙ sym y.7), left)

-- ---- one parameter in parentheses

pub single_signature : {r : Deep (Param × Bool)} {xs ws ys us : List Sym} (n p c : ℕ) → xs ≡ Mark m.OpenParen p ∷ ws → Found (ParamUpto n) (InExpr true) ws r ys → ys ≡ Mark m.CloseParen c ∷ us
    → Found (SignatureUpto n) Never xs (r.0.0 ∷ [], r.1) us
single_signature {us = us} n p c w f v = found_from w (signature_found n p c us (params_one n c (found_left v f)))

pub same_single : {at at' d d' : ℕ} {acc params : List Param} (of : Param) (result : Option TypeExpr) (body : ArrowBody) → at ≡ at' → acc ≡ [] → params ≡ acc ++ (of ∷ []) → d ≡ d'
    → ◌≡◌ {A = Deep Expr} (expr.Arrow at params result body, d) (expr.Arrow at' (of ∷ []) result body, d')
same_single {at' = at'} {params = params} of result body p h i q =
    both (ap (λ (x : ℕ). expr.Arrow x params result body) p ∙ ap (λ (v : List Param). expr.Arrow at' v result body) (i ∙ ap (λ (v : List Param). v ++ (of ∷ [])) h)) q

pub never_valueless : {r : Deep (Param × Bool)} {ws zs us : List Sym} (n : ℕ) (k : Word) (s : List ℕ) (o q c : ℕ) → ws ≡ word k s o ∷ Mark m.Assign q ∷ zs
    → Found (ParamUpto n) (InExpr true) ws r (Mark m.CloseParen c ∷ us) → (out-Param r.0.0).value ≡ None → ⊥
never_valueless n k s o q c v f h =
    let x = found_valued n k s o q c v f in
    let same : None ≡ Some x.1 = sym h ∙ ap value_of x.5 in
    cc

-- The symbols that are laid out of an expression, of a statement and of each of their parts read as the erased one: by the derivation
-- of the source, where words are classed by their spelling.
use Rattle.std.proofs.Common.{◌≡◌, ℕ, suc, ◌+◌, ◌≤◌, max, Bool, true, false, ◌||◌, ◌&&◌, List, [], ◌∷◌, ◌++◌, map, Option, Some, None, refl, sym, ap, ◌∙◌, arith}
use Rattle.std.specs.List.{AllByRecursion}
use Rattle.tb_tree.specs.declared.marks.Mark.TheVariants as m
use Rattle.tb_tree.specs.declared.words.Word.TheVariants as w
use Rattle.tb_tree.specs.declared.words.Class.TheVariants as c
use Rattle.tb_tree.specs.declared.words.Template.TheVariants as part
use Rattle.tb_tree.specs.declared.exprs.BinaryOperator.TheVariants as binary
use Rattle.tb_tree.specs.declared.exprs.VarKind.{VarKind}
use Rattle.tb_tree.specs.declared.exprs.ArrowBody.{ArrowBody}
use Rattle.tb_tree.specs.declared.exprs.Block.{Block}
use Rattle.tb_tree.specs.declared.exprs.BlockItem.{BlockItem}
use Rattle.tb_tree.specs.declared.exprs.Clause.{Clause}
use Rattle.tb_tree.specs.declared.exprs.Declarator.{Declarator}
use Rattle.tb_tree.specs.declared.exprs.Expr.{Expr}
use Rattle.tb_tree.specs.declared.exprs.ForStart.{ForStart}
use Rattle.tb_tree.specs.declared.exprs.Function.{Function}
use Rattle.tb_tree.specs.declared.exprs.Param.{Param, roll-Param}
use Rattle.tb_tree.specs.declared.exprs.Prop.{Prop}
use Rattle.tb_tree.specs.declared.exprs.Stmt.{Stmt}
use Rattle.tb_tree.specs.declared.exprs.TemplateSpan.{TemplateSpan, roll-TemplateSpan}
use Rattle.tb_tree.specs.declared.exprs.Var.{Var}
use Rattle.tb_tree.specs.Sym.{Sym, Mark, Lex, at_of}
use Rattle.tb_tree.specs.Shapes.{word, start_of}
use Rattle.tb_tree.specs.Bare.{bare_arrow_body, bare_block, bare_block_item, bare_clause, bare_declarator, bare_expr, bare_function, bare_param, bare_prop, bare_span, bare_start, bare_stmt, bare_value, bare_var}
use Rattle.tb_tree.specs.Exprs as g
use Rattle.tb_layout.specs.Erase.{erased_arrow_body, erased_block, erased_block_item, erased_clause, erased_declarator, erased_expr, erased_function, erased_optional, erased_param, erased_prop, erased_span, erased_start, erased_stmt, erased_var}
use Rattle.tb_layout.specs.Js.{laid_all, laid_list, laid_spans, spans_pieces, value_pieces, part_pieces, lines}
use Rattle.tb_layout.specs.Steady.{ParamForm, are_params_steady, are_steady, steady_arrow_body, steady_block, steady_block_item, steady_clause, steady_declarator, steady_expr, steady_function, steady_optional, steady_param, steady_prop, steady_span, steady_start, steady_stmt, steady_var}
use Rattle.tb_layout.proofs.Erasing as erased
use Rattle.tb_layout.proofs.Steadying as steady
use Rattle.tb_layout.proofs.Written as written
use Rattle.tb_layout.proofs.Written.{js_arrow_body, js_block, js_block_item, js_clause, js_declarator, js_expr, js_function, js_lines, js_optional, js_param, js_prop, js_span, js_start, js_stmt, js_var}
use Rattle.tb_emit_law.proofs.Back.{Back, Where, IsClassed, through, deeper, seen, told_by, fore, aft, where_as, part_left, part_right, named}
use Rattle.tb_emit_law.proofs.Facts.{target_erased, number_erased, binary_told, has_value_erased, valued_erased}
use Rattle.tb_emit_law.proofs.Braces.{expr_plain, chain_no_as}
use Rattle.tb_emit_law.proofs.ExprSteps as step
use Rattle.tb_emit_law.proofs.StmtSteps as stmts
use Rattle.tb_emit_law.proofs.ListSteps.{ParamBack, around_one, below_one, behind, exprs_more, props_more, declarators_more, follow_first, params_last, params_more, name_param, spans_last, spans_more, template_told, object_told}

zero_left : (d : ℕ) → max 0 d + 1 ≤ d + 1
zero_left d = omega arith

around_two : (d e f : ℕ) → max d f ≤ max d (max e f)
around_two d e f = omega arith

abbrev param_form : Bool → Bool → Bool → ParamForm
param_form optional valued inner = record { optional = optional; valued = valued; steady = inner }

valued_same : (of : Option Expr) → steady.is_valued of ≡ g.has_value (erased_optional of)
valued_same None = refl
valued_same (Some of) = refl

span_steady : {o : Bool} (of : Expr) (text : List ℕ) → Where o (steady_span (roll-TemplateSpan (record { value = of; text = text }))) → Where o (steady_expr of)
span_steady of text t = where_as (steady.span_rolled _) t

module _ (o : Bool) where
  mutual
    pub expr_back : {typed : Bool} {xs : List Sym} {of : Expr} {d : ℕ} → g.IsExpr true typed xs of d → AllByRecursion IsClassed xs → Where o (steady_expr of) → (n : ℕ)
        → Back (g.IsExpr o typed) bare_expr (js_expr of n) (erased_expr of) d
    expr_back (g.arrow_expr a b k {xs = xs} {ys = ys} {zs = zs} {params = params} {result = result} {of = of} {d = d} {e = e} {f = f} p r q) all t n =
        seen (written.arrow_expr a params result of n) (erased.arrow_expr a params result of)
        (deeper (around_one d e f) (step.arrow_step a (params_back p (fore (Mark m.OpenParen a ∷ xs) (Mark m.CloseParen b ∷ ys) (fore (Mark m.OpenParen a ∷ xs ++ Mark m.CloseParen b ∷ ys) (Mark m.Arrow k ∷ zs) all)).1 false (λ h. h) (part_left _ _ (steady.arrow_expr a params result of) t) n) (arrow_body_back q (aft (Mark m.OpenParen a ∷ xs ++ Mark m.CloseParen b ∷ ys) (Mark m.Arrow k ∷ zs) all).1 (part_right _ _ (steady.arrow_expr a params result of) t) n)))
    expr_back (g.short_arrow_expr {kind = kind} spelled at k {xs = xs} {of = of} {d = d} h q) all t n =
        seen (written.arrow_expr at (roll-Param (record { at = at; name = spelled; optional = false; annotation = None; value = None }) ∷ []) None of n) (erased.arrow_expr at (roll-Param (record { at = at; name = spelled; optional = false; annotation = None; value = None }) ∷ []) None of)
        (deeper (zero_left d) (step.arrow_step at (stmts.last_param_step false (follow_first o false) (name_param at spelled n (named spelled all.0 h))) (arrow_body_back q all.1.1 (part_right _ _ (steady.arrow_expr at (roll-Param (record { at = at; name = spelled; optional = false; annotation = None; value = None }) ∷ []) None of) t) n)))
    expr_back (g.assign_expr s {operator = operator} {xs = xs} {ys = ys} {target = target} {value = value} p h e q) all t n =
        seen (written.assign_expr (start_of xs) target operator value n) (erased.assign_expr (start_of xs) target operator value)
        (step.assign_step (start_of xs) operator (target_erased target (chain_no_as p) ∙ h) (chain_back p (fore (xs) (s ∷ ys) all) (part_left _ _ (steady.assign_expr (start_of xs) target operator value) t) n) (expr_back q (aft (xs) (s ∷ ys) all).1 (part_right _ _ (steady.assign_expr (start_of xs) target operator value) t) n))
    expr_back (g.cond_expr q) all t n = through (λ xs of n r. g.cond_expr r) (cond_back q all t n)

    pub arrow_body_back : {typed : Bool} {xs : List Sym} {of : ArrowBody} {d : ℕ} → g.IsArrowBody true typed xs of d → AllByRecursion IsClassed xs → Where o (steady_arrow_body of) → (n : ℕ)
        → Back (g.IsArrowBody o typed) bare_arrow_body (js_arrow_body of n) (erased_arrow_body of) d
    arrow_body_back (g.block_body {of = of} q) all t n =
        seen (written.block_arrow_body of n) (erased.block_arrow_body of)
        (stmts.block_body_step (block_back q all (where_as (steady.block_arrow_body of) t) n))
    arrow_body_back (g.expr_body {of = of} h q) all t n =
        let plain = expr_plain true q h n in seen (written.expr_arrow_body of n) (erased.expr_arrow_body of)
        (stmts.expr_body_step plain.plain (expr_back q all (where_as (steady.expr_arrow_body of) t) n))

    pub value_back : {xs : List Sym} {of : Option Expr} {d : ℕ} → g.IsValue true xs of d → AllByRecursion IsClassed xs → Where o (steady_optional of) → (n : ℕ)
        → Back (g.IsValue o) bare_value (value_pieces n (js_optional of)) (erased_optional of) d
    value_back g.no_value all t n = stmts.no_value_step
    value_back (g.some_value at {xs = xs} q) all t n = stmts.some_value_step (expr_back q all.1 t n)

    param_back : {given : Bool} {xs : List Sym} {of : Param} {d : ℕ} → g.IsParam true given xs of d → AllByRecursion IsClassed xs → (n : ℕ) → ParamBack o given of n d
    param_back (g.param {kind = kind} {optional = optional} spelled at {xs = xs} {ys = ys} {zs = zs} {shape = shape} {default = default} {d = d} {e = e} h m a v b) all n = record {
      optional = optional;
      valued = g.has_value (erased_optional default);
      inner = steady_optional default;
      given_is = ap (λ x. optional || x) (sym (has_value_erased default));
      form = steady.param_rolled _ ∙ ap (λ x. param_form optional x (steady_optional default)) (valued_same default);
      back = λ t. seen (written.param_rolled _ n) (erased.param_rolled _) (deeper (behind d e) (stmts.param_step at spelled (named spelled (fore (word kind spelled at ∷ xs) (ys) (fore (word kind spelled at ∷ xs ++ ys) (zs) all)).0 h) (value_back v (aft (word kind spelled at ∷ xs ++ ys) (zs) all) t n)));
    }

    pub params_back : {after : Bool} {xs : List Sym} {of : List Param} {d : ℕ} → g.IsParams true after xs of d → AllByRecursion IsClassed xs → (v : Bool) → (v ≡ true → after ≡ true) → Where o (are_params_steady v (map steady_param of)) → (n : ℕ)
        → Back (g.IsParams o v) (map bare_param) (laid_list n (map js_param of)) (map erased_param of) d
    params_back g.no_params all v h t n = stmts.no_params_step v
    params_back (g.last_param q e) all v h t n = params_last v h e (param_back q all n) t
    params_back (g.more_params comma {xs = xs} {ys = ys} {rest = rest} q e r) all v h t n = params_more v rest h e (param_back q (fore (xs) (Mark m.Comma comma ∷ ys) all) n) t (λ u k s. params_back r (aft (xs) (Mark m.Comma comma ∷ ys) all).1 u k s n)

    pub cond_back : {typed : Bool} {xs : List Sym} {of : Expr} {d : ℕ} → g.IsCond true typed xs of d → AllByRecursion IsClassed xs → Where o (steady_expr of) → (n : ℕ)
        → Back (g.IsCond o typed) bare_expr (js_expr of n) (erased_expr of) d
    cond_back (g.or_expr q) all t n = through (λ xs of n r. g.or_expr r) (or_back q all t n)
    cond_back (g.conditional_expr a b {xs = xs} {ys = ys} {zs = zs} {condition = condition} {then = chosen} {otherwise = otherwise} p q r) all t n =
        seen (written.conditional_expr (start_of xs) condition chosen otherwise n) (erased.conditional_expr (start_of xs) condition chosen otherwise)
        (step.conditional_step (start_of xs) (or_back p (fore (xs) (Mark m.Question a ∷ ys) (fore (xs ++ Mark m.Question a ∷ ys) (Mark m.Colon b ∷ zs) all)) (part_left _ _ (steady.conditional_expr (start_of xs) condition chosen otherwise) t) n) (expr_back q (aft (xs) (Mark m.Question a ∷ ys) (fore (xs ++ Mark m.Question a ∷ ys) (Mark m.Colon b ∷ zs) all)).1 (part_left _ _ refl (part_right _ _ (steady.conditional_expr (start_of xs) condition chosen otherwise) t)) n) (expr_back r (aft (xs ++ Mark m.Question a ∷ ys) (Mark m.Colon b ∷ zs) all).1 (part_right _ _ refl (part_right _ _ (steady.conditional_expr (start_of xs) condition chosen otherwise) t)) n))

    pub or_back : {xs : List Sym} {of : Expr} {d : ℕ} → g.IsOr true xs of d → AllByRecursion IsClassed xs → Where o (steady_expr of) → (n : ℕ)
        → Back (g.IsOr o) bare_expr (js_expr of n) (erased_expr of) d
    or_back (g.level_expr q) all t n = through (λ xs of n r. g.level_expr r) (level_back q all t n)
    or_back (g.nullish_expr q) all t n =
        through (λ xs of n r. g.nullish_expr r) (nullish_back q all t n)

    pub nullish_back : {xs : List Sym} {of : Expr} {d : ℕ} → g.IsNullish true xs of d → AllByRecursion IsClassed xs → Where o (steady_expr of) → (n : ℕ)
        → Back (g.IsNullish o) bare_expr (js_expr of n) (erased_expr of) d
    nullish_back (g.first_nullish at {xs = xs} {ys = ys} {left = left} {right = right} p q) all t n =
        seen (written.binary_expr (start_of xs) left binary.Nullish right n) (erased.binary_expr (start_of xs) left binary.Nullish right)
        (step.first_nullish_step (start_of xs) (level_back p (fore (xs) (Mark m.Nullish at ∷ ys) all) (part_left _ _ (steady.binary_expr (start_of xs) left binary.Nullish right) t) n) (level_back q (aft (xs) (Mark m.Nullish at ∷ ys) all).1 (part_right _ _ (steady.binary_expr (start_of xs) left binary.Nullish right) t) n))
    nullish_back (g.next_nullish at {xs = xs} {ys = ys} {left = left} {right = right} p q) all t n =
        seen (written.binary_expr (start_of xs) left binary.Nullish right n) (erased.binary_expr (start_of xs) left binary.Nullish right)
        (step.next_nullish_step (start_of xs) (nullish_back p (fore (xs) (Mark m.Nullish at ∷ ys) all) (part_left _ _ (steady.binary_expr (start_of xs) left binary.Nullish right) t) n) (level_back q (aft (xs) (Mark m.Nullish at ∷ ys) all).1 (part_right _ _ (steady.binary_expr (start_of xs) left binary.Nullish right) t) n))

    pub level_back : {l : ℕ} {xs : List Sym} {of : Expr} {d : ℕ} → g.IsLevel true l xs of d → AllByRecursion IsClassed xs → Where o (steady_expr of) → (n : ℕ)
        → Back (g.IsLevel o l) bare_expr (js_expr of n) (erased_expr of) d
    level_back (g.unary_operand e q) all t n =
        through (λ xs of n r. g.unary_operand e r) (unary_back q all t n)
    level_back (g.next_level q) all t n = through (λ xs of n r. g.next_level r) (level_back q all t n)
    level_back (g.joined_expr s {operator = operator} {xs = xs} {ys = ys} {left = left} {right = right} p h e q) all t n =
        seen (written.binary_expr (start_of xs) left operator right n) (erased.binary_expr (start_of xs) left operator right)
        (step.joined_step (start_of xs) operator (binary_told s operator h) e (level_back p (fore (xs) (s ∷ ys) all) (part_left _ _ (steady.binary_expr (start_of xs) left operator right) t) n) (level_back q (aft (xs) (s ∷ ys) all).1 (part_right _ _ (steady.binary_expr (start_of xs) left operator right) t) n))
    level_back (g.as_expr spelled at {xs = xs} {ys = ys} {of = of} {shape = shape} {d = d} {e = e} h p q k) all t n =
        seen (written.as_expr (start_of xs) of shape n) (erased.as_expr (start_of xs) of shape)
        (deeper (below_one d e) (level_back p (fore (xs) (word w.As spelled at ∷ ys) all) (where_as (steady.as_expr (start_of xs) of shape) t) n))

    pub unary_back : {xs : List Sym} {of : Expr} {d : ℕ} → g.IsUnary true xs of d → AllByRecursion IsClassed xs → Where o (steady_expr of) → (n : ℕ)
        → Back (g.IsUnary o) bare_expr (js_expr of n) (erased_expr of) d
    unary_back (g.prefix_expr s {operator = operator} {xs = xs} {of = of} h q) all t n =
        seen (written.unary_expr (at_of s) operator of n) (erased.unary_expr (at_of s) operator of)
        (step.unary_step (at_of s) operator (unary_back q all.1 (where_as (steady.unary_expr (at_of s) operator of) t) n))
    unary_back (g.update_before s {operator = operator} {xs = xs} {of = of} h q e) all t n =
        seen (written.update_before_expr (at_of s) operator of n) (erased.update_before_expr (at_of s) operator of)
        (step.update_before_step (at_of s) operator (target_erased of (chain_no_as q) ∙ e) (chain_back q all.1 (where_as (steady.update_before_expr (at_of s) operator of) t) n))
    unary_back (g.update_after s {operator = operator} {xs = xs} {of = of} q e h) all t n =
        seen (written.update_behind_expr (start_of xs) operator of n) (erased.update_behind_expr (start_of xs) operator of)
        (step.update_behind_step (start_of xs) operator (target_erased of (chain_no_as q) ∙ e) (chain_back q (fore (xs) (s ∷ []) all) (where_as (steady.update_behind_expr (start_of xs) operator of) t) n))
    unary_back (g.chain_expr q) all t n = through (λ xs of n r. g.chain_expr r) (chain_back q all t n)

    pub chain_back : {xs : List Sym} {of : Expr} {d : ℕ} → g.IsChain true xs of d → AllByRecursion IsClassed xs → Where o (steady_expr of) → (n : ℕ)
        → Back (g.IsChain o) bare_expr (js_expr of n) (erased_expr of) d
    chain_back (g.primary_expr q) all t n =
        through (λ xs of n r. g.primary_expr r) (primary_back q all t n)
    chain_back (g.member_expr kind dot spelled at {xs = xs} {of = of} q e) all t n =
        seen (written.member_expr (start_of xs) of spelled n) (erased.member_expr (start_of xs) of spelled)
        (step.member_step (start_of xs) spelled (number_erased of (chain_no_as q) ∙ e) (chain_back q (fore (xs) (Mark m.Dot dot ∷ word kind spelled at ∷ []) all) (where_as (steady.member_expr (start_of xs) of spelled) t) n))
    chain_back (g.index_expr a b {xs = xs} {ys = ys} {of = of} {place = place} p q) all t n =
        seen (written.index_expr (start_of xs) of place n) (erased.index_expr (start_of xs) of place)
        (step.index_step (start_of xs) (chain_back p (fore (xs) (Mark m.OpenBracket a ∷ ys) (fore (xs ++ Mark m.OpenBracket a ∷ ys) (Mark m.CloseBracket b ∷ []) all)) (part_left _ _ (steady.index_expr (start_of xs) of place) t) n) (expr_back q (aft (xs) (Mark m.OpenBracket a ∷ ys) (fore (xs ++ Mark m.OpenBracket a ∷ ys) (Mark m.CloseBracket b ∷ []) all)).1 (part_right _ _ (steady.index_expr (start_of xs) of place) t) n))
    chain_back (g.call_expr a b {xs = xs} {ys = ys} {of = of} {arguments = arguments} p q) all t n =
        seen (written.call_expr (start_of xs) of [] arguments n) (erased.call_expr (start_of xs) of [] arguments)
        (step.call_step (start_of xs) (chain_back p (fore (xs) (Mark m.OpenParen a ∷ ys) (fore (xs ++ Mark m.OpenParen a ∷ ys) (Mark m.CloseParen b ∷ []) all)) (part_left _ _ (steady.call_expr (start_of xs) of [] arguments) t) n) (exprs_back q (aft (xs) (Mark m.OpenParen a ∷ ys) (fore (xs ++ Mark m.OpenParen a ∷ ys) (Mark m.CloseParen b ∷ []) all)).1 (part_right _ _ (steady.call_expr (start_of xs) of [] arguments) t) n))

    pub primary_back : {xs : List Sym} {of : Expr} {d : ℕ} → g.IsPrimary true xs of d → AllByRecursion IsClassed xs → Where o (steady_expr of) → (n : ℕ)
        → Back (g.IsPrimary o) bare_expr (js_expr of n) (erased_expr of) d
    primary_back (g.name_expr {kind = kind} spelled at h) all t n =
        seen (written.name_expr at spelled n) (erased.name_expr at spelled)
        (step.name_step at spelled (named spelled all.0 h))
    primary_back (g.this_expr spelled at) all t n =
        seen (written.this_expr at n) (erased.this_expr at)
        (step.this_step at)
    primary_back (g.null_expr spelled at) all t n =
        seen (written.null_expr at n) (erased.null_expr at)
        (step.null_step at)
    primary_back (g.undefined_expr spelled at) all t n =
        seen (written.undefined_expr at n) (erased.undefined_expr at)
        (step.undefined_step at)
    primary_back (g.number_expr spelled at) all t n =
        seen (written.number_expr at spelled n) (erased.number_expr at spelled)
        (step.number_step at spelled)
    primary_back (g.string_expr spelled at) all t n =
        seen (written.string_expr at spelled n) (erased.string_expr at spelled)
        (step.string_step at spelled)
    primary_back (g.template_expr spelled at) all t n =
        seen (written.template_expr at spelled [] n) (erased.template_expr at spelled [])
        (step.template_step at spelled)
    primary_back (g.spans_expr spelled at {xs = xs} {spans = spans} q) all t n =
        seen (written.template_expr at spelled spans n ∙ template_told n spelled spans q) (erased.template_expr at spelled spans) (step.spans_step at spelled (spans_back q all.1 (where_as (steady.template_expr at spelled spans) t) n))
    primary_back (g.boolean_expr {of = of} spelled at h) all t n =
        seen (written.boolean_expr at of n) (erased.boolean_expr at of)
        (step.boolean_step at of)
    primary_back (g.parens_expr a b {xs = xs} {of = of} q) all t n =
        seen (written.parens_expr a of n) (erased.parens_expr a of)
        (step.parens_step a (expr_back q (fore (Mark m.OpenParen a ∷ xs) (Mark m.CloseParen b ∷ []) all).1 (where_as (steady.parens_expr a of) t) n))
    primary_back (g.array_expr a b {xs = xs} {of = of} q) all t n =
        seen (written.array_expr a of n) (erased.array_expr a of)
        (step.array_step a (exprs_back q (fore (Mark m.OpenBracket a ∷ xs) (Mark m.CloseBracket b ∷ []) all).1 (where_as (steady.array_expr a of) t) n))
    primary_back (g.object_expr a b {xs = xs} {of = of} q) all t n =
        seen (written.object_expr a of n) (erased.object_expr a of)
        (told_by (object_told (laid_all n (map js_prop of))) (step.object_step a (props_back q (fore (Mark m.OpenBrace a ∷ xs) (Mark m.CloseBrace b ∷ []) all).1 (where_as (steady.object_expr a of) t) n)))
    primary_back (g.new_expr {kind = kind} new_spelled new_at spelled at i j {xs = xs} {of = of} h q) all t n =
        seen (written.new_expr new_at (record { at = at; name = spelled }) of n) (erased.new_expr new_at (record { at = at; name = spelled }) of)
        (step.new_step new_at at spelled (named spelled (fore (word w.New new_spelled new_at ∷ word kind spelled at ∷ Mark m.OpenParen i ∷ xs) (Mark m.CloseParen j ∷ []) all).1.0 h) (exprs_back q (fore (word w.New new_spelled new_at ∷ word kind spelled at ∷ Mark m.OpenParen i ∷ xs) (Mark m.CloseParen j ∷ []) all).1.1.1 (where_as (steady.new_expr new_at (record { at = at; name = spelled }) of) t) n))

    pub spans_back : {xs : List Sym} {of : List TemplateSpan} {d : ℕ} → g.IsSpans true xs of d → AllByRecursion IsClassed xs → Where o (are_steady (map steady_span of)) → (n : ℕ)
        → Back (g.IsSpans o) (map bare_span) (spans_pieces (laid_spans n (map js_span of))) (map erased_span of) d
    spans_back (g.last_span spelled at {xs = xs} {of = of} q) all t n =
        spans_last n of spelled (expr_back q (fore (xs) (Lex (c.Template part.Tail) spelled at ∷ []) all) (span_steady of spelled (part_left _ _ refl t)) n)
    spans_back (g.more_spans spelled at {xs = xs} {ys = ys} {of = of} {rest = rest} q r) all t n =
        spans_more n of spelled rest r (expr_back q (fore (xs) (Lex (c.Template part.Middle) spelled at ∷ ys) all) (span_steady of spelled (part_left _ _ refl t)) n) (spans_back r (aft (xs) (Lex (c.Template part.Middle) spelled at ∷ ys) all).1 (part_right _ _ refl t) n)

    pub exprs_back : {xs : List Sym} {of : List Expr} {d : ℕ} → g.IsExprs true xs of d → AllByRecursion IsClassed xs → Where o (are_steady (map steady_expr of)) → (n : ℕ)
        → Back (g.IsExprs o) (map bare_expr) (laid_list n (map js_expr of)) (map erased_expr of) d
    exprs_back g.no_exprs all t n = stmts.no_exprs_step
    exprs_back (g.last_expr q) all t n =
        stmts.last_expr_step (expr_back q all (part_left _ _ refl t) n)
    exprs_back (g.more_exprs comma {xs = xs} {ys = ys} {of = of} {rest = rest} q r) all t n =
        exprs_more n of rest (expr_back q (fore (xs) (Mark m.Comma comma ∷ ys) all) (part_left _ _ refl t) n) (exprs_back r (aft (xs) (Mark m.Comma comma ∷ ys) all).1 (part_right _ _ refl t) n)

    pub prop_back : {xs : List Sym} {of : Prop} {d : ℕ} → g.IsProp true xs of d → AllByRecursion IsClassed xs → Where o (steady_prop of) → (n : ℕ)
        → Back (g.IsProp o) bare_prop (js_prop of n) (erased_prop of) d
    prop_back (g.valued_prop s {key = key} colon {xs = xs} {of = of} h q) all t n =
        seen (written.valued_prop (at_of s) key of n) (erased.valued_prop (at_of s) key of)
        (step.valued_prop_step (at_of s) key (expr_back q all.1.1 (where_as (steady.valued_prop (at_of s) key of) t) n))
    prop_back (g.short_prop {kind = kind} spelled at h) all t n =
        seen (written.short_prop at spelled n) (erased.short_prop at spelled)
        (step.short_prop_step at spelled (named spelled all.0 h))

    pub props_back : {xs : List Sym} {of : List Prop} {d : ℕ} → g.IsProps true xs of d → AllByRecursion IsClassed xs → Where o (are_steady (map steady_prop of)) → (n : ℕ)
        → Back (g.IsProps o) (map bare_prop) (laid_list n (map js_prop of)) (map erased_prop of) d
    props_back g.no_props all t n = stmts.no_props_step
    props_back (g.last_prop q) all t n =
        stmts.last_prop_step (prop_back q all (part_left _ _ refl t) n)
    props_back (g.more_props comma {xs = xs} {ys = ys} {of = of} {rest = rest} q r) all t n =
        props_more n of rest (prop_back q (fore (xs) (Mark m.Comma comma ∷ ys) all) (part_left _ _ refl t) n) (props_back r (aft (xs) (Mark m.Comma comma ∷ ys) all).1 (part_right _ _ refl t) n)

    pub block_back : {around : g.Around} {xs : List Sym} {of : Block} {d : ℕ} → g.IsBlock true around xs of d → AllByRecursion IsClassed xs → Where o (steady_block of) → (n : ℕ)
        → Back (g.IsBlock o around) bare_block (js_block of n) (erased_block of) d
    block_back (g.block a b {xs = xs} {of = of} q) all t n =
        seen (written.block_rolled _ n) (erased.block_rolled _) (stmts.block_step a n (map js_block_item of) (block_items_back q (fore (Mark m.OpenBrace a ∷ xs) (Mark m.CloseBrace b ∷ []) all).1 (where_as (steady.block_rolled _) t) n))

    pub block_item_back : {around : g.Around} {xs : List Sym} {of : BlockItem} {d : ℕ} → g.IsBlockItem true around xs of d → AllByRecursion IsClassed xs → Where o (steady_block_item of) → (n : ℕ)
        → Back (g.IsBlockItem o around) bare_block_item (js_block_item of n) (erased_block_item of) d
    block_item_back (g.var_item {of = of} q) all t n =
        seen (written.var_block_item of n) (erased.var_block_item of)
        (stmts.var_item_step (var_back q all (where_as (steady.var_block_item of) t) n))
    block_item_back (g.function_item {of = of} q) all t n =
        seen (written.function_block_item of n) (erased.function_block_item of)
        (stmts.function_item_step (function_back q all (where_as (steady.function_block_item of) t) n))
    block_item_back (g.stmt_item {of = of} q) all t n =
        seen (written.stmt_block_item of n) (erased.stmt_block_item of)
        (stmts.stmt_item_step (stmt_back q all (where_as (steady.stmt_block_item of) t) n))

    pub block_items_back : {around : g.Around} {xs : List Sym} {of : List BlockItem} {d : ℕ} → g.IsBlockItems true around xs of d → AllByRecursion IsClassed xs → Where o (are_steady (map steady_block_item of)) → (n : ℕ)
        → Back (g.IsBlockItems o around) (map bare_block_item) (lines n (map js_block_item of)) (map erased_block_item of) d
    block_items_back g.no_block_items all t n = stmts.no_block_items_step
    block_items_back (g.more_block_items {xs = xs} {ys = ys} q r) all t n =
        stmts.more_block_items_step n (block_item_back q (fore (xs) (ys) all) (part_left _ _ refl t) (suc n)) (block_items_back r (aft (xs) (ys) all) (part_right _ _ refl t) n)

    pub var_back : {xs : List Sym} {of : Var} {d : ℕ} → g.IsVar true xs of d → AllByRecursion IsClassed xs → Where o (steady_var of) → (n : ℕ)
        → Back (g.IsVar o) bare_var (js_var of n) (erased_var of) d
    var_back (g.var {word_kind = word_kind} {kind = kind} spelled at semicolon {xs = xs} {of = of} h q) all t n =
        seen (written.var_rolled _ n) (erased.var_rolled _) (stmts.var_step kind (declarators_back q (fore (word word_kind spelled at ∷ xs) (Mark m.Semicolon semicolon ∷ []) all).1 (where_as (steady.var_rolled _) t) n))

    pub declarator_back : {kind : VarKind} {xs : List Sym} {of : Declarator} {d : ℕ} → g.IsDeclarator true kind xs of d → AllByRecursion IsClassed xs → Where o (steady_declarator of) → (n : ℕ)
        → Back (g.IsDeclarator o kind) bare_declarator (js_declarator of n) (erased_declarator of) d
    declarator_back (g.declarator {kind = kind} {name_kind = name_kind} spelled at {xs = xs} {ys = ys} {given = given} {d = d} {e = e} h a v k) all t n =
        seen (written.declarator_rolled _ n) (erased.declarator_rolled _)
        (deeper (behind d e) (stmts.declarator_step kind at spelled (named spelled (fore (word name_kind spelled at ∷ xs) (ys) all).0 h) (valued_erased kind given k) (value_back v (aft (word name_kind spelled at ∷ xs) (ys) all) (where_as (steady.declarator_rolled _) t) n)))

    pub declarators_back : {kind : VarKind} {xs : List Sym} {of : List Declarator} {d : ℕ} → g.IsDeclarators true kind xs of d → AllByRecursion IsClassed xs → Where o (are_steady (map steady_declarator of)) → (n : ℕ)
        → Back (g.IsDeclarators o kind) (map bare_declarator) (laid_list n (map js_declarator of)) (map erased_declarator of) d
    declarators_back (g.last_declarator q) all t n =
        stmts.last_declarator_step (declarator_back q all (part_left _ _ refl t) n)
    declarators_back (g.more_declarators comma {xs = xs} {ys = ys} {of = of} {rest = rest} q r) all t n =
        declarators_more n of rest r (declarator_back q (fore (xs) (Mark m.Comma comma ∷ ys) all) (part_left _ _ refl t) n) (declarators_back r (aft (xs) (Mark m.Comma comma ∷ ys) all).1 (part_right _ _ refl t) n)

    pub function_back : {xs : List Sym} {of : Function} {d : ℕ} → g.IsFunction true xs of d → AllByRecursion IsClassed xs → Where o (steady_function of) → (n : ℕ)
        → Back (g.IsFunction o) bare_function (js_function of n) (erased_function of) d
    function_back (g.function {kind = kind} function_spelled function_at spelled at i j {xs = xs} {ys = ys} {zs = zs} {d = d} {e = e} {f = f} h p a q) all t n =
        seen (written.function_rolled _ n) (erased.function_rolled _)
        (deeper (around_two d e f) (stmts.function_step at spelled (named spelled (fore (word w.Function function_spelled function_at ∷ word kind spelled at ∷ Mark m.OpenParen i ∷ xs) (Mark m.CloseParen j ∷ ys) (fore (word w.Function function_spelled function_at ∷ word kind spelled at ∷ Mark m.OpenParen i ∷ xs ++ Mark m.CloseParen j ∷ ys) (zs) all)).1.0 h) (params_back p (fore (word w.Function function_spelled function_at ∷ word kind spelled at ∷ Mark m.OpenParen i ∷ xs) (Mark m.CloseParen j ∷ ys) (fore (word w.Function function_spelled function_at ∷ word kind spelled at ∷ Mark m.OpenParen i ∷ xs ++ Mark m.CloseParen j ∷ ys) (zs) all)).1.1.1 false (λ k. k) (part_left _ _ (steady.function_rolled _) t) n) (block_back q (aft (word w.Function function_spelled function_at ∷ word kind spelled at ∷ Mark m.OpenParen i ∷ xs ++ Mark m.CloseParen j ∷ ys) (zs) all) (part_right _ _ (steady.function_rolled _) t) n)))

    pub stmt_back : {around : g.Around} {closed : Bool} {xs : List Sym} {of : Stmt} {d : ℕ} → g.IsStmt true around closed xs of d → AllByRecursion IsClassed xs → Where o (steady_stmt of) → (n : ℕ)
        → Back (g.IsStmt o around closed) bare_stmt (js_lines of n) (erased_stmt of) d
    stmt_back (g.block_stmt {of = of} q) all t n =
        seen (written.block_stmt_lines of n) (erased.block_stmt of)
        (stmts.block_stmt_step (block_back q all (where_as (steady.block_stmt of) t) n))
    stmt_back (g.if_stmt spelled at i j {xs = xs} {ys = ys} {condition = condition} {then = chosen} p q) all t n =
        seen (written.if_stmt_lines at condition chosen None n) (erased.if_stmt_none at condition chosen)
        (stmts.if_step at (expr_back p (fore (word w.If spelled at ∷ Mark m.OpenParen i ∷ xs) (Mark m.CloseParen j ∷ ys) all).1.1 (part_left _ _ (steady.if_stmt_none at condition chosen) t) n)
        (stmts.body_step n (js_stmt chosen) (λ deep. stmt_back q (aft (word w.If spelled at ∷ Mark m.OpenParen i ∷ xs) (Mark m.CloseParen j ∷ ys) all).1 (part_left _ _ refl (part_right _ _ (steady.if_stmt_none at condition chosen) t)) deep)))
    stmt_back (g.if_else_stmt spelled at i j else_spelled else_at {xs = xs} {ys = ys} {zs = zs} {condition = condition} {then = chosen} {otherwise = otherwise} p q r) all t n =
        seen (written.if_stmt_lines at condition chosen (Some otherwise) n) (erased.if_stmt_some at condition chosen otherwise)
        (stmts.if_else_step n at (expr_back p (fore (word w.If spelled at ∷ Mark m.OpenParen i ∷ xs) (Mark m.CloseParen j ∷ ys) (fore (word w.If spelled at ∷ Mark m.OpenParen i ∷ xs ++ Mark m.CloseParen j ∷ ys) (word w.Else else_spelled else_at ∷ zs) all)).1.1 (part_left _ _ (steady.if_stmt_some at condition chosen otherwise) t) n)
        (stmts.body_step n (js_stmt chosen) (λ deep. stmt_back q (aft (word w.If spelled at ∷ Mark m.OpenParen i ∷ xs) (Mark m.CloseParen j ∷ ys) (fore (word w.If spelled at ∷ Mark m.OpenParen i ∷ xs ++ Mark m.CloseParen j ∷ ys) (word w.Else else_spelled else_at ∷ zs) all)).1 (part_left _ _ refl (part_right _ _ (steady.if_stmt_some at condition chosen otherwise) t)) deep))
        (stmts.body_step n (js_stmt otherwise) (λ deep. stmt_back r (aft (word w.If spelled at ∷ Mark m.OpenParen i ∷ xs ++ Mark m.CloseParen j ∷ ys) (word w.Else else_spelled else_at ∷ zs) all).1 (part_right _ _ refl (part_right _ _ (steady.if_stmt_some at condition chosen otherwise) t)) deep)))
    stmt_back (g.while_stmt spelled at i j {xs = xs} {ys = ys} {condition = condition} {of = of} p q) all t n =
        seen (written.while_stmt_lines at condition of n) (erased.while_stmt at condition of)
        (stmts.while_step at (expr_back p (fore (word w.While spelled at ∷ Mark m.OpenParen i ∷ xs) (Mark m.CloseParen j ∷ ys) all).1.1 (part_left _ _ (steady.while_stmt at condition of) t) n)
        (stmts.body_step n (js_stmt of) (λ deep. stmt_back q (aft (word w.While spelled at ∷ Mark m.OpenParen i ∷ xs) (Mark m.CloseParen j ∷ ys) all).1 (part_right _ _ (steady.while_stmt at condition of) t) deep)))
    stmt_back (g.do_stmt spelled at while_spelled while_at i j k {xs = xs} {ys = ys} {of = of} {condition = condition} p q) all t n =
        seen (written.do_stmt_lines at of condition n) (erased.do_stmt at of condition)
        (stmts.do_step n at
        (stmts.body_step n (js_stmt of) (λ deep. stmt_back p (fore (word w.Do spelled at ∷ xs) (word w.While while_spelled while_at ∷ Mark m.OpenParen i ∷ ys) (fore (word w.Do spelled at ∷ xs ++ word w.While while_spelled while_at ∷ Mark m.OpenParen i ∷ ys) (Mark m.CloseParen j ∷ Mark m.Semicolon k ∷ []) all)).1 (part_left _ _ (steady.do_stmt at of condition) t) deep)) (expr_back q (aft (word w.Do spelled at ∷ xs) (word w.While while_spelled while_at ∷ Mark m.OpenParen i ∷ ys) (fore (word w.Do spelled at ∷ xs ++ word w.While while_spelled while_at ∷ Mark m.OpenParen i ∷ ys) (Mark m.CloseParen j ∷ Mark m.Semicolon k ∷ []) all)).1.1 (part_right _ _ (steady.do_stmt at of condition) t) n))
    stmt_back (g.for_stmt spelled at i j k {vs = vs} {xs = xs} {ys = ys} {zs = zs} {first = first} {condition = condition} {step = next} {of = of} p q r s) all t n =
        seen (written.for_stmt_lines at first condition next of n) (erased.for_stmt at first condition next of)
        (stmts.for_step at (start_back p (fore (word w.For spelled at ∷ Mark m.OpenParen i ∷ vs) (xs) (fore (word w.For spelled at ∷ Mark m.OpenParen i ∷ vs ++ xs) (Mark m.Semicolon j ∷ ys) (fore (word w.For spelled at ∷ Mark m.OpenParen i ∷ vs ++ xs ++ Mark m.Semicolon j ∷ ys) (Mark m.CloseParen k ∷ zs) all))).1.1 (part_left _ _ (steady.for_stmt at first condition next of) t) n) (optional_back q (aft (word w.For spelled at ∷ Mark m.OpenParen i ∷ vs) (xs) (fore (word w.For spelled at ∷ Mark m.OpenParen i ∷ vs ++ xs) (Mark m.Semicolon j ∷ ys) (fore (word w.For spelled at ∷ Mark m.OpenParen i ∷ vs ++ xs ++ Mark m.Semicolon j ∷ ys) (Mark m.CloseParen k ∷ zs) all))) (part_left (steady_optional condition) (steady_optional next && steady_stmt of) refl (part_right (steady_start first) (steady_optional condition && (steady_optional next && steady_stmt of)) (steady.for_stmt at first condition next of) t)) n) (optional_back r (aft (word w.For spelled at ∷ Mark m.OpenParen i ∷ vs ++ xs) (Mark m.Semicolon j ∷ ys) (fore (word w.For spelled at ∷ Mark m.OpenParen i ∷ vs ++ xs ++ Mark m.Semicolon j ∷ ys) (Mark m.CloseParen k ∷ zs) all)).1 (part_left (steady_optional next) (steady_stmt of) refl (part_right (steady_optional condition) (steady_optional next && steady_stmt of) refl (part_right (steady_start first) (steady_optional condition && (steady_optional next && steady_stmt of)) (steady.for_stmt at first condition next of) t))) n)
        (stmts.body_step n (js_stmt of) (λ deep. stmt_back s (aft (word w.For spelled at ∷ Mark m.OpenParen i ∷ vs ++ xs ++ Mark m.Semicolon j ∷ ys) (Mark m.CloseParen k ∷ zs) all).1 (part_right (steady_optional next) (steady_stmt of) refl (part_right (steady_optional condition) (steady_optional next && steady_stmt of) refl (part_right (steady_start first) (steady_optional condition && (steady_optional next && steady_stmt of)) (steady.for_stmt at first condition next of) t))) deep)))
    stmt_back (g.for_of_stmt {word_kind = word_kind} {kind = kind} {name_kind = name_kind} spelled at i kind_spelled kind_at name_spelled name_at of_spelled of_at j {xs = xs} {ys = ys} {subject = subject} {of = of} e h p q) all t n =
        seen (written.for_of_stmt_lines at kind (record { at = name_at; name = name_spelled }) subject of n) (erased.for_of_stmt at kind (record { at = name_at; name = name_spelled }) subject of)
        (stmts.for_of_step kind at name_at name_spelled (named name_spelled (fore (word w.For spelled at ∷ Mark m.OpenParen i ∷ word word_kind kind_spelled kind_at ∷ word name_kind name_spelled name_at ∷ word w.Of of_spelled of_at ∷ xs) (Mark m.CloseParen j ∷ ys) all).1.1.1.0 h) (expr_back p (fore (word w.For spelled at ∷ Mark m.OpenParen i ∷ word word_kind kind_spelled kind_at ∷ word name_kind name_spelled name_at ∷ word w.Of of_spelled of_at ∷ xs) (Mark m.CloseParen j ∷ ys) all).1.1.1.1.1 (part_left _ _ (steady.for_of_stmt at kind (record { at = name_at; name = name_spelled }) subject of) t) n)
        (stmts.body_step n (js_stmt of) (λ deep. stmt_back q (aft (word w.For spelled at ∷ Mark m.OpenParen i ∷ word word_kind kind_spelled kind_at ∷ word name_kind name_spelled name_at ∷ word w.Of of_spelled of_at ∷ xs) (Mark m.CloseParen j ∷ ys) all).1 (part_right _ _ (steady.for_of_stmt at kind (record { at = name_at; name = name_spelled }) subject of) t) deep)))
    stmt_back (g.return_stmt spelled at i h g.no_expr) all t n =
        seen (written.return_stmt_none_lines at n) (erased.return_stmt_none at)
        (stmts.return_none_step at h)
    stmt_back (g.return_stmt spelled at i h (g.some_expr {xs = xs} {of = of} q)) all t n =
        seen (written.return_stmt_some_lines at of n) (erased.return_stmt_some at of)
        (stmts.return_some_step at h (expr_back q (fore (word w.Return spelled at ∷ xs) (Mark m.Semicolon i ∷ []) all).1 (where_as (steady.return_stmt_some at of) t) n))
    stmt_back (g.break_stmt spelled at i h) all t n =
        seen (written.break_stmt_lines at n) (erased.break_stmt at)
        (stmts.break_step at h)
    stmt_back (g.continue_stmt spelled at i h) all t n =
        seen (written.continue_stmt_lines at n) (erased.continue_stmt at)
        (stmts.continue_step at h)
    stmt_back (g.throw_stmt spelled at i {xs = xs} {of = of} q) all t n =
        seen (written.throw_stmt_lines at of n) (erased.throw_stmt at of)
        (stmts.throw_step at (expr_back q (fore (word w.Throw spelled at ∷ xs) (Mark m.Semicolon i ∷ []) all).1 (where_as (steady.throw_stmt at of) t) n))
    stmt_back (g.switch_stmt spelled at i j k l {xs = xs} {ys = ys} {subject = subject} {of = of} p q) all t n =
        seen (written.switch_stmt_lines at subject of n) (erased.switch_stmt at subject of)
        (stmts.switch_step n at (expr_back p (fore (word w.Switch spelled at ∷ Mark m.OpenParen i ∷ xs) (Mark m.CloseParen j ∷ Mark m.OpenBrace k ∷ ys) (fore (word w.Switch spelled at ∷ Mark m.OpenParen i ∷ xs ++ Mark m.CloseParen j ∷ Mark m.OpenBrace k ∷ ys) (Mark m.CloseBrace l ∷ []) all)).1.1 (part_left _ _ (steady.switch_stmt at subject of) t) n) (clauses_back q (aft (word w.Switch spelled at ∷ Mark m.OpenParen i ∷ xs) (Mark m.CloseParen j ∷ Mark m.OpenBrace k ∷ ys) (fore (word w.Switch spelled at ∷ Mark m.OpenParen i ∷ xs ++ Mark m.CloseParen j ∷ Mark m.OpenBrace k ∷ ys) (Mark m.CloseBrace l ∷ []) all)).1.1 (part_right _ _ (steady.switch_stmt at subject of) t) n))
    stmt_back (g.expr_stmt i {xs = xs} {of = of} h q) all t n =
        let plain = expr_plain true q h n in seen (written.expr_stmt_lines (start_of xs) of n) (erased.expr_stmt (start_of xs) of)
        (stmts.expr_stmt_step (start_of xs) plain.plain (expr_back q (fore (xs) (Mark m.Semicolon i ∷ []) all) (where_as (steady.expr_stmt (start_of xs) of) t) n))
    stmt_back (g.empty_stmt at) all t n =
        seen (written.empty_stmt_lines at n) (erased.empty_stmt at)
        (stmts.empty_step at)

    pub optional_back : {xs : List Sym} {of : Option Expr} {d : ℕ} → g.IsOptional true xs of d → AllByRecursion IsClassed xs → Where o (steady_optional of) → (n : ℕ)
        → Back (g.IsOptional o) bare_value (part_pieces n (js_optional of)) (erased_optional of) d
    optional_back g.no_expr all t n = stmts.no_expr_step
    optional_back (g.some_expr q) all t n = told_by refl (stmts.some_expr_step (expr_back q all t n))

    pub start_back : {xs : List Sym} {of : ForStart} {d : ℕ} → g.IsForStart true xs of d → AllByRecursion IsClassed xs → Where o (steady_start of) → (n : ℕ)
        → Back (g.IsForStart o) bare_start (js_start of n) (erased_start of) d
    start_back (g.var_start {of = of} q) all t n =
        seen (written.var_start of n) (erased.var_start of)
        (stmts.var_start_step (var_back q all (where_as (steady.var_start of) t) n))
    start_back (g.expr_start i {xs = xs} {of = of} q) all t n =
        seen (written.expr_start of n) (erased.expr_start of)
        (stmts.expr_start_step (expr_back q (fore (xs) (Mark m.Semicolon i ∷ []) all) (where_as (steady.expr_start of) t) n))
    start_back (g.no_start i) all t n =
        seen (written.nothing_start n) erased.nothing_start stmts.no_start_step

    pub clause_back : {around : g.Around} {first : Bool} {xs : List Sym} {of : Clause} {d : ℕ} → g.IsClause true around first xs of d → AllByRecursion IsClassed xs → Where o (steady_clause of) → (n : ℕ)
        → Back (g.IsClause o around first) bare_clause (js_clause of n) (erased_clause of) d
    clause_back (g.case_clause spelled at i {xs = xs} {ys = ys} {of = of} {items = items} p q) all t n =
        seen (written.case_clause at of items n) (erased.case_clause at of items)
        (stmts.case_step at (expr_back p (fore (word w.Case spelled at ∷ xs) (Mark m.Colon i ∷ ys) all).1 (part_left _ _ (steady.case_clause at of items) t) n) (block_items_back q (aft (word w.Case spelled at ∷ xs) (Mark m.Colon i ∷ ys) all).1 (part_right _ _ (steady.case_clause at of items) t) n))
    clause_back (g.default_clause spelled at i {xs = xs} {items = items} q) all t n =
        seen (written.default_clause at items n) (erased.default_clause at items)
        (stmts.default_step at (block_items_back q all.1.1 (where_as (steady.default_clause at items) t) n))

    pub clauses_back : {around : g.Around} {first : Bool} {xs : List Sym} {of : List Clause} {d : ℕ} → g.IsClauses true around first xs of d → AllByRecursion IsClassed xs → Where o (are_steady (map steady_clause of)) → (n : ℕ)
        → Back (g.IsClauses o around first) (map bare_clause) (lines n (map js_clause of)) (map erased_clause of) d
    clauses_back g.no_clauses all t n = stmts.no_clauses_step
    clauses_back (g.more_clauses {xs = xs} {ys = ys} q r h) all t n =
        stmts.more_clauses_step n h (clause_back q (fore (xs) (ys) all) (part_left _ _ refl t) (suc n)) (clauses_back r (aft (xs) (ys) all) (part_right _ _ refl t) n)

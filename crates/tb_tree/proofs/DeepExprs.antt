-- The depth that a derivation has is that of its tree.
use Rattle.std.proofs.Common.{◌≡◌, ℕ, ◌+◌, max, Bool, false, List, [], ◌∷◌, Option, Some, None, refl, sym, ap, ◌∙◌, arith}
use Rattle.tb_tree.specs.declared.types.TypeExpr.{TypeExpr}
use Rattle.tb_tree.specs.declared.exprs.Expr.{Expr}
use Rattle.tb_tree.specs.declared.exprs.Expr.TheVariants as expr
use Rattle.tb_tree.specs.declared.exprs.TemplateSpan.{TemplateSpan}
use Rattle.tb_tree.specs.declared.exprs.Prop.{Prop}
use Rattle.tb_tree.specs.declared.exprs.ArrowBody.{ArrowBody}
use Rattle.tb_tree.specs.declared.exprs.Param.{Param, roll-Param}
use Rattle.tb_tree.specs.declared.exprs.Block.{Block}
use Rattle.tb_tree.specs.declared.exprs.BlockItem.{BlockItem}
use Rattle.tb_tree.specs.declared.exprs.Var.{Var}
use Rattle.tb_tree.specs.declared.exprs.VarKind.{VarKind}
use Rattle.tb_tree.specs.declared.exprs.Declarator.{Declarator}
use Rattle.tb_tree.specs.declared.exprs.Function.{Function}
use Rattle.tb_tree.specs.declared.exprs.Stmt.{Stmt}
use Rattle.tb_tree.specs.declared.exprs.Stmt.TheVariants as stmt
use Rattle.tb_tree.specs.declared.exprs.ForStart.{ForStart}
use Rattle.tb_tree.specs.declared.exprs.Clause.{Clause}
use Rattle.tb_tree.specs.Sym.{Sym}
use Rattle.tb_tree.specs.Exprs as g
use Rattle.tb_tree.specs.Depth as d
use Rattle.tb_tree.proofs.DeepTypes.{type_deep, shape_deep}
use Rattle.tb_tree.proofs.Layers as l
use Rattle.tb_tree.proofs.Ends.{ap_both}

-- a node above one, two, three and four parts
above : {a u : ℕ} → a ≡ u → a + 1 ≡ u + 1
above p = ap (λ n. n + 1) p

above_two : {a u b v : ℕ} → a ≡ u → b ≡ v → max a b + 1 ≡ max u v + 1
above_two p q = above (ap_both max p q)

of_three : {a u b v c w : ℕ} → a ≡ u → b ≡ v → c ≡ w → max a (max b c) ≡ max u (max v w)
of_three p q r = ap_both max p (ap_both max q r)

above_three : {a u b v c w : ℕ} → a ≡ u → b ≡ v → c ≡ w → max a (max b c) + 1 ≡ max u (max v w) + 1
above_three p q r = above (of_three p q r)

above_four : {a u b v c w e x : ℕ} → a ≡ u → b ≡ v → c ≡ w → e ≡ x → max a (max b (max c e)) + 1 ≡ max u (max v (max w x)) + 1
above_four p q r s = above (ap_both max p (of_three q r s))

last : {a u : ℕ} → a ≡ u → a ≡ max u 0
last p = omega (arith, p)

-- a Call, whose list of type arguments is empty
above_call : {a u b v : ℕ} → a ≡ u → b ≡ v → max a b + 1 ≡ max u (max 0 v) + 1
above_call p q = omega (arith, p, q)

-- an Arrow whose list of parameters is a name alone
abbrev name_param : ℕ → List ℕ → Param
name_param at spelled = roll-Param (record { at = at; name = spelled; optional = false; annotation = None; value = None })

short_arrow : (at : ℕ) (spelled : List ℕ) (of : ArrowBody) {n : ℕ} → n ≡ d.arrow_body_depth of → n + 1 ≡ d.expr_depth (expr.Arrow at (name_param at spelled ∷ []) None of)
short_arrow at spelled of p =
    let param = l.param_rolled (record { at = at; name = spelled; optional = false; annotation = None; value = None }) in
    let whole = l.arrow_expr at (name_param at spelled ∷ []) None of in omega (arith, p, param, whole)

-- an `if` without `else`, and with one
if_alone : (at : ℕ) (condition : Expr) (then : Stmt) {a b : ℕ} → a ≡ d.expr_depth condition → b ≡ d.stmt_depth then
    → max a b + 1 ≡ d.stmt_depth (stmt.If at condition then None)
if_alone at condition then p q = let whole = l.if_stmt at condition then None in omega (arith, p, q, whole)

if_else : (at : ℕ) (condition : Expr) (then otherwise : Stmt) {a b c : ℕ} → a ≡ d.expr_depth condition → b ≡ d.stmt_depth then → c ≡ d.stmt_depth otherwise
    → max a (max b c) + 1 ≡ d.stmt_depth (stmt.If at condition then (Some otherwise))
if_else at condition then otherwise p q r = above_three p q r ∙ sym (l.if_stmt at condition then (Some otherwise))

pub annotation_deep : {xs : List Sym} {of : Option TypeExpr} {n : ℕ} → g.IsAnnotation xs of n → n ≡ d.annotation_depth of
annotation_deep g.no_annotation = refl
annotation_deep (g.some_annotation q) = shape_deep q

result_deep : {typed : Bool} {xs : List Sym} {of : Option TypeExpr} {n : ℕ} → g.IsResult typed xs of n → n ≡ d.annotation_depth of
result_deep g.no_result = refl
result_deep (g.some_result q) = shape_deep q

module _ (ordered : Bool) where
  mutual
    pub expr_deep : {typed : Bool} {xs : List Sym} {of : Expr} {n : ℕ} → g.IsExpr ordered typed xs of n → n ≡ d.expr_depth of
    expr_deep (g.arrow_expr o c a p r b) = above_three (params_deep p) (result_deep r) (arrow_body_deep b) ∙ sym (l.arrow_expr _ _ _ _)
    expr_deep (g.short_arrow_expr s at a n b) = short_arrow at s _ (arrow_body_deep b)
    expr_deep (g.assign_expr s p t o q) = above_two (chain_deep p) (expr_deep q) ∙ sym (l.assign_expr _ _ _ _)
    expr_deep (g.cond_expr q) = cond_deep q

    pub arrow_body_deep : {typed : Bool} {xs : List Sym} {of : ArrowBody} {n : ℕ} → g.IsArrowBody ordered typed xs of n → n ≡ d.arrow_body_depth of
    arrow_body_deep (g.block_body q) = block_deep q ∙ sym (l.block_arrow_body _)
    arrow_body_deep (g.expr_body b q) = expr_deep q ∙ sym (l.expr_arrow_body _)

    pub value_deep : {xs : List Sym} {of : Option Expr} {n : ℕ} → g.IsValue ordered xs of n → n ≡ d.optional_depth of
    value_deep g.no_value = refl
    value_deep (g.some_value at q) = expr_deep q

    pub param_deep : {given : Bool} {xs : List Sym} {of : Param} {n : ℕ} → g.IsParam ordered given xs of n → n ≡ d.param_depth of
    param_deep (g.param s at n o p q h) = ap_both max (annotation_deep p) (value_deep q) ∙ sym (l.param_rolled _)

    pub params_deep : {after : Bool} {xs : List Sym} {of : List Param} {n : ℕ} → g.IsParams ordered after xs of n → n ≡ d.params_depth of
    params_deep g.no_params = refl
    params_deep (g.last_param q h) = last (param_deep q)
    params_deep (g.more_params comma q h r) = ap_both max (param_deep q) (params_deep r)

    pub cond_deep : {typed : Bool} {xs : List Sym} {of : Expr} {n : ℕ} → g.IsCond ordered typed xs of n → n ≡ d.expr_depth of
    cond_deep (g.or_expr q) = or_deep q
    cond_deep (g.conditional_expr a b p q r) = above_three (or_deep p) (expr_deep q) (expr_deep r) ∙ sym (l.conditional_expr _ _ _ _)

    pub or_deep : {xs : List Sym} {of : Expr} {n : ℕ} → g.IsOr ordered xs of n → n ≡ d.expr_depth of
    or_deep (g.level_expr q) = level_deep q
    or_deep (g.nullish_expr q) = nullish_deep q

    pub nullish_deep : {xs : List Sym} {of : Expr} {n : ℕ} → g.IsNullish ordered xs of n → n ≡ d.expr_depth of
    nullish_deep (g.first_nullish at p q) = above_two (level_deep p) (level_deep q) ∙ sym (l.binary_expr _ _ _ _)
    nullish_deep (g.next_nullish at p q) = above_two (nullish_deep p) (level_deep q) ∙ sym (l.binary_expr _ _ _ _)

    pub level_deep : {level : ℕ} {xs : List Sym} {of : Expr} {n : ℕ} → g.IsLevel ordered level xs of n → n ≡ d.expr_depth of
    level_deep (g.unary_operand e q) = unary_deep q
    level_deep (g.next_level q) = level_deep q
    level_deep (g.joined_expr s p o e q) = above_two (level_deep p) (level_deep q) ∙ sym (l.binary_expr _ _ _ _)
    level_deep (g.as_expr s at e p q h) = above_two (level_deep p) (type_deep q) ∙ sym (l.as_expr _ _ _)

    pub unary_deep : {xs : List Sym} {of : Expr} {n : ℕ} → g.IsUnary ordered xs of n → n ≡ d.expr_depth of
    unary_deep (g.prefix_expr s e q) = above (unary_deep q) ∙ sym (l.unary_expr _ _ _)
    unary_deep (g.update_before s e q t) = above (chain_deep q) ∙ sym (l.update_expr _ _ _ _)
    unary_deep (g.update_after s q t e) = above (chain_deep q) ∙ sym (l.update_expr _ _ _ _)
    unary_deep (g.chain_expr q) = chain_deep q

    pub chain_deep : {xs : List Sym} {of : Expr} {n : ℕ} → g.IsChain ordered xs of n → n ≡ d.expr_depth of
    chain_deep (g.primary_expr q) = primary_deep q
    chain_deep (g.member_expr k dot s at q n) = above (chain_deep q) ∙ sym (l.member_expr _ _ _)
    chain_deep (g.index_expr o c p q) = above_two (chain_deep p) (expr_deep q) ∙ sym (l.index_expr _ _ _)
    chain_deep (g.call_expr o c p q) = above_call (chain_deep p) (exprs_deep q) ∙ sym (l.call_expr _ _ _ _)

    pub primary_deep : {xs : List Sym} {of : Expr} {n : ℕ} → g.IsPrimary ordered xs of n → n ≡ d.expr_depth of
    primary_deep (g.name_expr s at n) = sym (l.name_expr _ _)
    primary_deep (g.this_expr s at) = sym (l.this_expr _)
    primary_deep (g.number_expr s at) = sym (l.number_expr _ _)
    primary_deep (g.string_expr s at) = sym (l.string_expr _ _)
    primary_deep (g.template_expr s at) = sym (l.template_expr _ _ _)
    primary_deep (g.spans_expr s at q) = above (spans_deep q) ∙ sym (l.template_expr _ _ _)
    primary_deep (g.boolean_expr s at e) = sym (l.boolean_expr _ _)
    primary_deep (g.null_expr s at) = sym (l.null_expr _)
    primary_deep (g.undefined_expr s at) = sym (l.undefined_expr _)
    primary_deep (g.parens_expr o c q) = above (expr_deep q) ∙ sym (l.parens_expr _ _)
    primary_deep (g.array_expr o c q) = above (exprs_deep q) ∙ sym (l.array_expr _ _)
    primary_deep (g.object_expr o c q) = above (props_deep q) ∙ sym (l.object_expr _ _)
    primary_deep (g.new_expr ns na s at o c n q) = above (exprs_deep q) ∙ sym (l.new_expr _ _ _)

    pub spans_deep : {xs : List Sym} {of : List TemplateSpan} {n : ℕ} → g.IsSpans ordered xs of n → n ≡ d.spans_depth of
    spans_deep (g.last_span s at q) = last (expr_deep q ∙ sym (l.span_rolled _))
    spans_deep (g.more_spans s at q r) = ap_both max (expr_deep q ∙ sym (l.span_rolled _)) (spans_deep r)

    pub exprs_deep : {xs : List Sym} {of : List Expr} {n : ℕ} → g.IsExprs ordered xs of n → n ≡ d.exprs_depth of
    exprs_deep g.no_exprs = refl
    exprs_deep (g.last_expr q) = last (expr_deep q)
    exprs_deep (g.more_exprs comma q r) = ap_both max (expr_deep q) (exprs_deep r)

    pub prop_deep : {xs : List Sym} {of : Prop} {n : ℕ} → g.IsProp ordered xs of n → n ≡ d.prop_depth of
    prop_deep (g.valued_prop s colon k q) = expr_deep q ∙ sym (l.valued_prop _ _ _)
    prop_deep (g.short_prop s at n) = sym (l.short_prop _ _)

    pub props_deep : {xs : List Sym} {of : List Prop} {n : ℕ} → g.IsProps ordered xs of n → n ≡ d.props_depth of
    props_deep g.no_props = refl
    props_deep (g.last_prop q) = last (prop_deep q)
    props_deep (g.more_props comma q r) = ap_both max (prop_deep q) (props_deep r)

    pub block_deep : {around : g.Around} {xs : List Sym} {of : Block} {n : ℕ} → g.IsBlock ordered around xs of n → n ≡ d.block_depth of
    block_deep (g.block o c q) = above (block_items_deep q) ∙ sym (l.block_rolled _)

    pub block_item_deep : {around : g.Around} {xs : List Sym} {of : BlockItem} {n : ℕ} → g.IsBlockItem ordered around xs of n → n ≡ d.block_item_depth of
    block_item_deep (g.var_item q) = var_deep q ∙ sym (l.var_block_item _)
    block_item_deep (g.function_item q) = function_deep q ∙ sym (l.function_block_item _)
    block_item_deep (g.stmt_item q) = stmt_deep q ∙ sym (l.stmt_block_item _)

    pub block_items_deep : {around : g.Around} {xs : List Sym} {of : List BlockItem} {n : ℕ} → g.IsBlockItems ordered around xs of n → n ≡ d.block_items_depth of
    block_items_deep g.no_block_items = refl
    block_items_deep (g.more_block_items q r) = ap_both max (block_item_deep q) (block_items_deep r)

    pub var_deep : {xs : List Sym} {of : Var} {n : ℕ} → g.IsVar ordered xs of n → n ≡ d.var_depth of
    var_deep (g.var s at semicolon k q) = declarators_deep q ∙ sym (l.var_rolled _)

    pub declarator_deep : {kind : VarKind} {xs : List Sym} {of : Declarator} {n : ℕ} → g.IsDeclarator ordered kind xs of n → n ≡ d.declarator_depth of
    declarator_deep (g.declarator s at n p q h) = ap_both max (annotation_deep p) (value_deep q) ∙ sym (l.declarator_rolled _)

    pub declarators_deep : {kind : VarKind} {xs : List Sym} {of : List Declarator} {n : ℕ} → g.IsDeclarators ordered kind xs of n → n ≡ d.declarators_depth of
    declarators_deep (g.last_declarator q) = last (declarator_deep q)
    declarators_deep (g.more_declarators comma q r) = ap_both max (declarator_deep q) (declarators_deep r)

    pub function_deep : {xs : List Sym} {of : Function} {n : ℕ} → g.IsFunction ordered xs of n → n ≡ d.function_depth of
    function_deep (g.function fs fa s at o c n p q r) = of_three (params_deep p) (annotation_deep q) (block_deep r) ∙ sym (l.function_rolled _)

    pub stmt_deep : {around : g.Around} {closed : Bool} {xs : List Sym} {of : Stmt} {n : ℕ} → g.IsStmt ordered around closed xs of n → n ≡ d.stmt_depth of
    stmt_deep (g.block_stmt q) = block_deep q ∙ sym (l.block_stmt _)
    stmt_deep (g.if_stmt s at o c p q) = if_alone at _ _ (expr_deep p) (stmt_deep q)
    stmt_deep (g.if_else_stmt s at o c es ea p q r) = if_else at _ _ _ (expr_deep p) (stmt_deep q) (stmt_deep r)
    stmt_deep (g.while_stmt s at o c p q) = above_two (expr_deep p) (stmt_deep q) ∙ sym (l.while_stmt _ _ _)
    stmt_deep (g.do_stmt s at ws wa o c semicolon p q) = above_two (stmt_deep p) (expr_deep q) ∙ sym (l.do_stmt _ _ _)
    stmt_deep (g.for_stmt s at o semicolon c p q r t) = above_four (start_deep p) (optional_deep q) (optional_deep r) (stmt_deep t) ∙ sym (l.for_stmt _ _ _ _ _)
    stmt_deep (g.for_of_stmt s at o ks ka ns na os oa c k n p q) = above_two (expr_deep p) (stmt_deep q) ∙ sym (l.for_of_stmt _ _ _ _ _)
    stmt_deep (g.return_stmt s at semicolon b q) = optional_deep q ∙ sym (l.return_stmt _ _)
    stmt_deep (g.break_stmt s at semicolon b) = sym (l.break_stmt _)
    stmt_deep (g.continue_stmt s at semicolon b) = sym (l.continue_stmt _)
    stmt_deep (g.throw_stmt s at semicolon q) = expr_deep q ∙ sym (l.throw_stmt _ _)
    stmt_deep (g.switch_stmt s at o c ob cb p q) = above_two (expr_deep p) (clauses_deep q) ∙ sym (l.switch_stmt _ _ _)
    stmt_deep (g.expr_stmt semicolon b q) = expr_deep q ∙ sym (l.expr_stmt _ _)
    stmt_deep (g.empty_stmt at) = sym (l.empty_stmt _)

    pub optional_deep : {xs : List Sym} {of : Option Expr} {n : ℕ} → g.IsOptional ordered xs of n → n ≡ d.optional_depth of
    optional_deep g.no_expr = refl
    optional_deep (g.some_expr q) = expr_deep q

    pub start_deep : {xs : List Sym} {of : ForStart} {n : ℕ} → g.IsForStart ordered xs of n → n ≡ d.start_depth of
    start_deep (g.var_start q) = var_deep q ∙ sym (l.var_start _)
    start_deep (g.expr_start semicolon q) = expr_deep q ∙ sym (l.expr_start _)
    start_deep (g.no_start semicolon) = sym l.nothing_start

    pub clause_deep : {around : g.Around} {defaulted : Bool} {xs : List Sym} {of : Clause} {n : ℕ} → g.IsClause ordered around defaulted xs of n → n ≡ d.clause_depth of
    clause_deep (g.case_clause s at colon p q) = ap_both max (expr_deep p) (block_items_deep q) ∙ sym (l.case_clause _ _ _)
    clause_deep (g.default_clause s at colon q) = block_items_deep q ∙ sym (l.default_clause _ _)

    pub clauses_deep : {around : g.Around} {defaulted : Bool} {xs : List Sym} {of : List Clause} {n : ℕ} → g.IsClauses ordered around defaulted xs of n → n ≡ d.clauses_depth of
    clauses_deep g.no_clauses = refl
    clauses_deep (g.more_clauses q r h) = ap_both max (clause_deep q) (clauses_deep r)

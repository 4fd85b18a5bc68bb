-- What the depth of an expression and of a statement is by the depths of its parts.
use Rattle.std.proofs.Common.{◌≡◌, ℕ, ◌+◌, max, map, Bool, List, Option, Some, None, refl, ◌∙◌, ap}
use Rattle.tb_tree.specs.declared.types.Key.{Key}
use Rattle.tb_tree.specs.declared.types.TypeExpr.{TypeExpr}
use Rattle.tb_tree.specs.declared.exprs.Identifier.{Identifier}
use Rattle.tb_tree.specs.declared.exprs.UnaryOperator.{UnaryOperator}
use Rattle.tb_tree.specs.declared.exprs.UpdateOperator.{UpdateOperator}
use Rattle.tb_tree.specs.declared.exprs.BinaryOperator.{BinaryOperator}
use Rattle.tb_tree.specs.declared.exprs.AssignOperator.{AssignOperator}
use Rattle.tb_tree.specs.declared.exprs.VarKind.{VarKind}
use Rattle.tb_tree.specs.declared.exprs.ArrowBody.{ArrowBody, out-ArrowBody, fold_out-ArrowBody}
use Rattle.tb_tree.specs.declared.exprs.BlockItem.{BlockItem, out-BlockItem, fold_out-BlockItem}
use Rattle.tb_tree.specs.declared.exprs.Clause.{Clause, out-Clause, fold_out-Clause}
use Rattle.tb_tree.specs.declared.exprs.Expr.{Expr, out-Expr, fold_out-Expr}
use Rattle.tb_tree.specs.declared.exprs.ForStart.{ForStart, out-ForStart, fold_out-ForStart}
use Rattle.tb_tree.specs.declared.exprs.Prop.{Prop, out-Prop, fold_out-Prop}
use Rattle.tb_tree.specs.declared.exprs.Stmt.{Stmt, out-Stmt, fold_out-Stmt}
use Rattle.tb_tree.specs.declared.exprs.Block.{Block, out-Block, fold_out-Block, roll-Block, fold-roll-Block}
use Rattle.tb_tree.specs.declared.exprs.Declarator.{Declarator, out-Declarator, fold_out-Declarator, roll-Declarator, fold-roll-Declarator}
use Rattle.tb_tree.specs.declared.exprs.Function.{Function, out-Function, fold_out-Function, roll-Function, fold-roll-Function}
use Rattle.tb_tree.specs.declared.exprs.Param.{Param, out-Param, fold_out-Param, roll-Param, fold-roll-Param}
use Rattle.tb_tree.specs.declared.exprs.TemplateSpan.{TemplateSpan, out-TemplateSpan, fold_out-TemplateSpan, roll-TemplateSpan, fold-roll-TemplateSpan}
use Rattle.tb_tree.specs.declared.exprs.Var.{Var, out-Var, fold_out-Var, roll-Var, fold-roll-Var}
use Rattle.tb_tree.specs.declared.exprs.ArrowBody.TheVariants as arrow_body
use Rattle.tb_tree.specs.declared.exprs.BlockItem.TheVariants as block_item
use Rattle.tb_tree.specs.declared.exprs.Clause.TheVariants as clause
use Rattle.tb_tree.specs.declared.exprs.Expr.TheVariants as expr
use Rattle.tb_tree.specs.declared.exprs.ForStart.TheVariants as start
use Rattle.tb_tree.specs.declared.exprs.Prop.TheVariants as prop
use Rattle.tb_tree.specs.declared.exprs.Stmt.TheVariants as stmt
use Rattle.tb_tree.specs.declared.exprs.ArrowBody.TheOpen.{ArrowBody-F, BlockItem-F, Clause-F, Expr-F, ForStart-F, Prop-F, Stmt-F, Block-F, Declarator-F, Function-F, Param-F, TemplateSpan-F, Var-F}
use Rattle.tb_tree.specs.declared.exprs.ArrowBody.TheFolds.{map-ArrowBody, map-BlockItem, map-Clause, map-Expr, map-ForStart, map-Prop, map-Stmt, map-Block, map-Declarator, map-Function, map-Param, map-TemplateSpan, map-Var}
use Rattle.tb_tree.specs.Depth.{greatest, if_any, type_depth, types_depth, annotation_depth, optional_depth, otherwise_depth, exprs_depth, spans_depth, props_depth, params_depth, block_items_depth, declarators_depth, clauses_depth, arrow_body_layer, arrow_body_depth, block_item_layer, block_item_depth, clause_layer, clause_depth, expr_layer, expr_depth, start_layer, start_depth, prop_layer, prop_depth, stmt_layer, stmt_depth, block_layer, block_depth, declarator_layer, declarator_depth, function_layer, function_depth, param_layer, param_depth, span_layer, span_depth, var_layer, var_depth}

-- ---- one layer of a tree

abbrev pub open_arrow_body : ArrowBody-F ArrowBody BlockItem Clause Expr ForStart Prop Stmt Block Declarator Function Param TemplateSpan Var → ℕ
open_arrow_body (ArrowBody-F.«ArrowBody::Block» of) = block_depth of
open_arrow_body (ArrowBody-F.«ArrowBody::Expr» of) = expr_depth of

abbrev pub open_block_item : BlockItem-F ArrowBody BlockItem Clause Expr ForStart Prop Stmt Block Declarator Function Param TemplateSpan Var → ℕ
open_block_item (BlockItem-F.«BlockItem::Var» of) = var_depth of
open_block_item (BlockItem-F.Function of) = function_depth of
open_block_item (BlockItem-F.Stmt of) = stmt_depth of

abbrev pub open_clause : Clause-F ArrowBody BlockItem Clause Expr ForStart Prop Stmt Block Declarator Function Param TemplateSpan Var → ℕ
open_clause (Clause-F.Case at value items) = max (expr_depth value) (block_items_depth items)
open_clause (Clause-F.Default at items) = block_items_depth items

abbrev pub open_expr : Expr-F ArrowBody BlockItem Clause Expr ForStart Prop Stmt Block Declarator Function Param TemplateSpan Var → ℕ
open_expr (Expr-F.Name at name) = 1
open_expr (Expr-F.This at) = 1
open_expr (Expr-F.Null at) = 1
open_expr (Expr-F.Undefined at) = 1
open_expr (Expr-F.Boolean at value) = 1
open_expr (Expr-F.Number at spelled) = 1
open_expr (Expr-F.String at spelled) = 1
open_expr (Expr-F.Template at head spans) = spans_depth spans + 1
open_expr (Expr-F.Parens at inner) = expr_depth inner + 1
open_expr (Expr-F.Array at elements) = exprs_depth elements + 1
open_expr (Expr-F.Object at props) = props_depth props + 1
open_expr (Expr-F.New at class arguments) = exprs_depth arguments + 1
open_expr (Expr-F.Member at base member) = expr_depth base + 1
open_expr (Expr-F.Index at base index) = max (expr_depth base) (expr_depth index) + 1
open_expr (Expr-F.Call at callee type_arguments arguments) = max (expr_depth callee) (max (types_depth type_arguments) (exprs_depth arguments)) + 1
open_expr (Expr-F.Unary at operator operand) = expr_depth operand + 1
open_expr (Expr-F.Update at operator before target) = expr_depth target + 1
open_expr (Expr-F.Binary at left operator right) = max (expr_depth left) (expr_depth right) + 1
open_expr (Expr-F.As at value shape) = max (expr_depth value) (type_depth shape) + 1
open_expr (Expr-F.Conditional at condition then otherwise) = max (expr_depth condition) (max (expr_depth then) (expr_depth otherwise)) + 1
open_expr (Expr-F.Assign at target operator value) = max (expr_depth target) (expr_depth value) + 1
open_expr (Expr-F.Arrow at params result of) = max (params_depth params) (max (annotation_depth result) (arrow_body_depth of)) + 1

abbrev pub open_start : ForStart-F ArrowBody BlockItem Clause Expr ForStart Prop Stmt Block Declarator Function Param TemplateSpan Var → ℕ
open_start (ForStart-F.«ForStart::Var» of) = var_depth of
open_start (ForStart-F.«ForStart::Expr» of) = expr_depth of
open_start ForStart-F.Nothing = 0

abbrev pub open_prop : Prop-F ArrowBody BlockItem Clause Expr ForStart Prop Stmt Block Declarator Function Param TemplateSpan Var → ℕ
open_prop (Prop-F.Valued at key value) = expr_depth value
open_prop (Prop-F.Short at name) = 0

abbrev pub open_stmt : Stmt-F ArrowBody BlockItem Clause Expr ForStart Prop Stmt Block Declarator Function Param TemplateSpan Var → ℕ
open_stmt (Stmt-F.«Stmt::Block» of) = block_depth of
open_stmt (Stmt-F.If at condition then otherwise) = max (expr_depth condition) (max (stmt_depth then) (otherwise_depth otherwise)) + 1
open_stmt (Stmt-F.While at condition of) = max (expr_depth condition) (stmt_depth of) + 1
open_stmt (Stmt-F.Do at of condition) = max (stmt_depth of) (expr_depth condition) + 1
open_stmt (Stmt-F.For at first condition step of) = max (start_depth first) (max (optional_depth condition) (max (optional_depth step) (stmt_depth of))) + 1
open_stmt (Stmt-F.ForOf at kind element subject of) = max (expr_depth subject) (stmt_depth of) + 1
open_stmt (Stmt-F.Return at value) = optional_depth value
open_stmt (Stmt-F.Break at) = 0
open_stmt (Stmt-F.Continue at) = 0
open_stmt (Stmt-F.Throw at value) = expr_depth value
open_stmt (Stmt-F.Switch at subject clauses) = max (expr_depth subject) (clauses_depth clauses) + 1
open_stmt (Stmt-F.«Stmt::Expr» at value) = expr_depth value
open_stmt (Stmt-F.Empty at) = 0

abbrev pub open_block : Block-F ArrowBody BlockItem Clause Expr ForStart Prop Stmt Block Declarator Function Param TemplateSpan Var → ℕ
open_block layer = block_items_depth layer.items + 1

abbrev pub open_declarator : Declarator-F ArrowBody BlockItem Clause Expr ForStart Prop Stmt Block Declarator Function Param TemplateSpan Var → ℕ
open_declarator layer = max (annotation_depth layer.annotation) (optional_depth layer.value)

abbrev pub open_function : Function-F ArrowBody BlockItem Clause Expr ForStart Prop Stmt Block Declarator Function Param TemplateSpan Var → ℕ
open_function layer = max (params_depth layer.params) (max (annotation_depth layer.result) (block_depth layer.body))

abbrev pub open_param : Param-F ArrowBody BlockItem Clause Expr ForStart Prop Stmt Block Declarator Function Param TemplateSpan Var → ℕ
open_param layer = max (annotation_depth layer.annotation) (optional_depth layer.value)

abbrev pub open_span : TemplateSpan-F ArrowBody BlockItem Clause Expr ForStart Prop Stmt Block Declarator Function Param TemplateSpan Var → ℕ
open_span layer = expr_depth layer.value

abbrev pub open_var : Var-F ArrowBody BlockItem Clause Expr ForStart Prop Stmt Block Declarator Function Param TemplateSpan Var → ℕ
open_var layer = declarators_depth layer.declarators

-- ---- one layer of a tree, opened

arrow_body_opened : (layer : ArrowBody-F ArrowBody BlockItem Clause Expr ForStart Prop Stmt Block Declarator Function Param TemplateSpan Var) → arrow_body_layer (map-ArrowBody ArrowBody BlockItem Clause Expr ForStart Prop Stmt Block Declarator Function Param TemplateSpan Var ℕ ℕ ℕ ℕ ℕ ℕ ℕ ℕ ℕ ℕ ℕ ℕ ℕ arrow_body_depth block_item_depth clause_depth expr_depth start_depth prop_depth stmt_depth block_depth declarator_depth function_depth param_depth span_depth var_depth layer) ≡ open_arrow_body layer
arrow_body_opened (ArrowBody-F.«ArrowBody::Block» of) = refl
arrow_body_opened (ArrowBody-F.«ArrowBody::Expr» of) = refl

pub arrow_body_out : (of : ArrowBody) → arrow_body_depth of ≡ open_arrow_body (out-ArrowBody of)
unfolding arrow_body_depth block_item_depth clause_depth expr_depth start_depth prop_depth stmt_depth block_depth declarator_depth function_depth param_depth span_depth var_depth
arrow_body_out of = fold_out-ArrowBody ℕ ℕ ℕ ℕ ℕ ℕ ℕ ℕ ℕ ℕ ℕ ℕ ℕ arrow_body_layer block_item_layer clause_layer expr_layer start_layer prop_layer stmt_layer block_layer declarator_layer function_layer param_layer span_layer var_layer of ∙ arrow_body_opened (out-ArrowBody of)

block_item_opened : (layer : BlockItem-F ArrowBody BlockItem Clause Expr ForStart Prop Stmt Block Declarator Function Param TemplateSpan Var) → block_item_layer (map-BlockItem ArrowBody BlockItem Clause Expr ForStart Prop Stmt Block Declarator Function Param TemplateSpan Var ℕ ℕ ℕ ℕ ℕ ℕ ℕ ℕ ℕ ℕ ℕ ℕ ℕ arrow_body_depth block_item_depth clause_depth expr_depth start_depth prop_depth stmt_depth block_depth declarator_depth function_depth param_depth span_depth var_depth layer) ≡ open_block_item layer
block_item_opened (BlockItem-F.«BlockItem::Var» of) = refl
block_item_opened (BlockItem-F.Function of) = refl
block_item_opened (BlockItem-F.Stmt of) = refl

pub block_item_out : (of : BlockItem) → block_item_depth of ≡ open_block_item (out-BlockItem of)
unfolding arrow_body_depth block_item_depth clause_depth expr_depth start_depth prop_depth stmt_depth block_depth declarator_depth function_depth param_depth span_depth var_depth
block_item_out of = fold_out-BlockItem ℕ ℕ ℕ ℕ ℕ ℕ ℕ ℕ ℕ ℕ ℕ ℕ ℕ arrow_body_layer block_item_layer clause_layer expr_layer start_layer prop_layer stmt_layer block_layer declarator_layer function_layer param_layer span_layer var_layer of ∙ block_item_opened (out-BlockItem of)

clause_opened : (layer : Clause-F ArrowBody BlockItem Clause Expr ForStart Prop Stmt Block Declarator Function Param TemplateSpan Var) → clause_layer (map-Clause ArrowBody BlockItem Clause Expr ForStart Prop Stmt Block Declarator Function Param TemplateSpan Var ℕ ℕ ℕ ℕ ℕ ℕ ℕ ℕ ℕ ℕ ℕ ℕ ℕ arrow_body_depth block_item_depth clause_depth expr_depth start_depth prop_depth stmt_depth block_depth declarator_depth function_depth param_depth span_depth var_depth layer) ≡ open_clause layer
clause_opened (Clause-F.Case at value items) = refl
clause_opened (Clause-F.Default at items) = refl

pub clause_out : (of : Clause) → clause_depth of ≡ open_clause (out-Clause of)
unfolding arrow_body_depth block_item_depth clause_depth expr_depth start_depth prop_depth stmt_depth block_depth declarator_depth function_depth param_depth span_depth var_depth
clause_out of = fold_out-Clause ℕ ℕ ℕ ℕ ℕ ℕ ℕ ℕ ℕ ℕ ℕ ℕ ℕ arrow_body_layer block_item_layer clause_layer expr_layer start_layer prop_layer stmt_layer block_layer declarator_layer function_layer param_layer span_layer var_layer of ∙ clause_opened (out-Clause of)

expr_opened : (layer : Expr-F ArrowBody BlockItem Clause Expr ForStart Prop Stmt Block Declarator Function Param TemplateSpan Var) → expr_layer (map-Expr ArrowBody BlockItem Clause Expr ForStart Prop Stmt Block Declarator Function Param TemplateSpan Var ℕ ℕ ℕ ℕ ℕ ℕ ℕ ℕ ℕ ℕ ℕ ℕ ℕ arrow_body_depth block_item_depth clause_depth expr_depth start_depth prop_depth stmt_depth block_depth declarator_depth function_depth param_depth span_depth var_depth layer) ≡ open_expr layer
expr_opened (Expr-F.Name at name) = refl
expr_opened (Expr-F.This at) = refl
expr_opened (Expr-F.Null at) = refl
expr_opened (Expr-F.Undefined at) = refl
expr_opened (Expr-F.Boolean at value) = refl
expr_opened (Expr-F.Number at spelled) = refl
expr_opened (Expr-F.String at spelled) = refl
expr_opened (Expr-F.Template at head spans) = refl
expr_opened (Expr-F.Parens at inner) = refl
expr_opened (Expr-F.Array at elements) = refl
expr_opened (Expr-F.Object at props) = refl
expr_opened (Expr-F.New at class arguments) = refl
expr_opened (Expr-F.Member at base member) = refl
expr_opened (Expr-F.Index at base index) = refl
expr_opened (Expr-F.Call at callee type_arguments arguments) = refl
expr_opened (Expr-F.Unary at operator operand) = refl
expr_opened (Expr-F.Update at operator before target) = refl
expr_opened (Expr-F.Binary at left operator right) = refl
expr_opened (Expr-F.As at value shape) = refl
expr_opened (Expr-F.Conditional at condition then otherwise) = refl
expr_opened (Expr-F.Assign at target operator value) = refl
expr_opened (Expr-F.Arrow at params result of) = refl

pub expr_out : (of : Expr) → expr_depth of ≡ open_expr (out-Expr of)
unfolding arrow_body_depth block_item_depth clause_depth expr_depth start_depth prop_depth stmt_depth block_depth declarator_depth function_depth param_depth span_depth var_depth
expr_out of = fold_out-Expr ℕ ℕ ℕ ℕ ℕ ℕ ℕ ℕ ℕ ℕ ℕ ℕ ℕ arrow_body_layer block_item_layer clause_layer expr_layer start_layer prop_layer stmt_layer block_layer declarator_layer function_layer param_layer span_layer var_layer of ∙ expr_opened (out-Expr of)

start_opened : (layer : ForStart-F ArrowBody BlockItem Clause Expr ForStart Prop Stmt Block Declarator Function Param TemplateSpan Var) → start_layer (map-ForStart ArrowBody BlockItem Clause Expr ForStart Prop Stmt Block Declarator Function Param TemplateSpan Var ℕ ℕ ℕ ℕ ℕ ℕ ℕ ℕ ℕ ℕ ℕ ℕ ℕ arrow_body_depth block_item_depth clause_depth expr_depth start_depth prop_depth stmt_depth block_depth declarator_depth function_depth param_depth span_depth var_depth layer) ≡ open_start layer
start_opened (ForStart-F.«ForStart::Var» of) = refl
start_opened (ForStart-F.«ForStart::Expr» of) = refl
start_opened ForStart-F.Nothing = refl

pub start_out : (of : ForStart) → start_depth of ≡ open_start (out-ForStart of)
unfolding arrow_body_depth block_item_depth clause_depth expr_depth start_depth prop_depth stmt_depth block_depth declarator_depth function_depth param_depth span_depth var_depth
start_out of = fold_out-ForStart ℕ ℕ ℕ ℕ ℕ ℕ ℕ ℕ ℕ ℕ ℕ ℕ ℕ arrow_body_layer block_item_layer clause_layer expr_layer start_layer prop_layer stmt_layer block_layer declarator_layer function_layer param_layer span_layer var_layer of ∙ start_opened (out-ForStart of)

prop_opened : (layer : Prop-F ArrowBody BlockItem Clause Expr ForStart Prop Stmt Block Declarator Function Param TemplateSpan Var) → prop_layer (map-Prop ArrowBody BlockItem Clause Expr ForStart Prop Stmt Block Declarator Function Param TemplateSpan Var ℕ ℕ ℕ ℕ ℕ ℕ ℕ ℕ ℕ ℕ ℕ ℕ ℕ arrow_body_depth block_item_depth clause_depth expr_depth start_depth prop_depth stmt_depth block_depth declarator_depth function_depth param_depth span_depth var_depth layer) ≡ open_prop layer
prop_opened (Prop-F.Valued at key value) = refl
prop_opened (Prop-F.Short at name) = refl

pub prop_out : (of : Prop) → prop_depth of ≡ open_prop (out-Prop of)
unfolding arrow_body_depth block_item_depth clause_depth expr_depth start_depth prop_depth stmt_depth block_depth declarator_depth function_depth param_depth span_depth var_depth
prop_out of = fold_out-Prop ℕ ℕ ℕ ℕ ℕ ℕ ℕ ℕ ℕ ℕ ℕ ℕ ℕ arrow_body_layer block_item_layer clause_layer expr_layer start_layer prop_layer stmt_layer block_layer declarator_layer function_layer param_layer span_layer var_layer of ∙ prop_opened (out-Prop of)

stmt_opened : (layer : Stmt-F ArrowBody BlockItem Clause Expr ForStart Prop Stmt Block Declarator Function Param TemplateSpan Var) → stmt_layer (map-Stmt ArrowBody BlockItem Clause Expr ForStart Prop Stmt Block Declarator Function Param TemplateSpan Var ℕ ℕ ℕ ℕ ℕ ℕ ℕ ℕ ℕ ℕ ℕ ℕ ℕ arrow_body_depth block_item_depth clause_depth expr_depth start_depth prop_depth stmt_depth block_depth declarator_depth function_depth param_depth span_depth var_depth layer) ≡ open_stmt layer
stmt_opened (Stmt-F.«Stmt::Block» of) = refl
stmt_opened (Stmt-F.If at condition then None) = refl
stmt_opened (Stmt-F.If at condition then (Some a)) = refl
stmt_opened (Stmt-F.While at condition of) = refl
stmt_opened (Stmt-F.Do at of condition) = refl
stmt_opened (Stmt-F.For at first None None of) = refl
stmt_opened (Stmt-F.For at first None (Some b) of) = refl
stmt_opened (Stmt-F.For at first (Some a) None of) = refl
stmt_opened (Stmt-F.For at first (Some a) (Some b) of) = refl
stmt_opened (Stmt-F.ForOf at kind element subject of) = refl
stmt_opened (Stmt-F.Return at None) = refl
stmt_opened (Stmt-F.Return at (Some a)) = refl
stmt_opened (Stmt-F.Break at) = refl
stmt_opened (Stmt-F.Continue at) = refl
stmt_opened (Stmt-F.Throw at value) = refl
stmt_opened (Stmt-F.Switch at subject clauses) = refl
stmt_opened (Stmt-F.«Stmt::Expr» at value) = refl
stmt_opened (Stmt-F.Empty at) = refl

pub stmt_out : (of : Stmt) → stmt_depth of ≡ open_stmt (out-Stmt of)
unfolding arrow_body_depth block_item_depth clause_depth expr_depth start_depth prop_depth stmt_depth block_depth declarator_depth function_depth param_depth span_depth var_depth
stmt_out of = fold_out-Stmt ℕ ℕ ℕ ℕ ℕ ℕ ℕ ℕ ℕ ℕ ℕ ℕ ℕ arrow_body_layer block_item_layer clause_layer expr_layer start_layer prop_layer stmt_layer block_layer declarator_layer function_layer param_layer span_layer var_layer of ∙ stmt_opened (out-Stmt of)

block_opened : (layer : Block-F ArrowBody BlockItem Clause Expr ForStart Prop Stmt Block Declarator Function Param TemplateSpan Var) → block_layer (map-Block ArrowBody BlockItem Clause Expr ForStart Prop Stmt Block Declarator Function Param TemplateSpan Var ℕ ℕ ℕ ℕ ℕ ℕ ℕ ℕ ℕ ℕ ℕ ℕ ℕ arrow_body_depth block_item_depth clause_depth expr_depth start_depth prop_depth stmt_depth block_depth declarator_depth function_depth param_depth span_depth var_depth layer) ≡ open_block layer
block_opened layer = refl

pub block_out : (of : Block) → block_depth of ≡ open_block (out-Block of)
unfolding arrow_body_depth block_item_depth clause_depth expr_depth start_depth prop_depth stmt_depth block_depth declarator_depth function_depth param_depth span_depth var_depth
block_out of = fold_out-Block ℕ ℕ ℕ ℕ ℕ ℕ ℕ ℕ ℕ ℕ ℕ ℕ ℕ arrow_body_layer block_item_layer clause_layer expr_layer start_layer prop_layer stmt_layer block_layer declarator_layer function_layer param_layer span_layer var_layer of ∙ block_opened (out-Block of)

declarator_valued : (at : ℕ) (name : List ℕ) (annotation : Option TypeExpr) (value : Option Expr) → declarator_layer (map-Declarator ArrowBody BlockItem Clause Expr ForStart Prop Stmt Block Declarator Function Param TemplateSpan Var ℕ ℕ ℕ ℕ ℕ ℕ ℕ ℕ ℕ ℕ ℕ ℕ ℕ arrow_body_depth block_item_depth clause_depth expr_depth start_depth prop_depth stmt_depth block_depth declarator_depth function_depth param_depth span_depth var_depth (record { at = at; name = name; annotation = annotation; value = value })) ≡ open_declarator (record { at = at; name = name; annotation = annotation; value = value })
declarator_valued at name annotation None = refl
declarator_valued at name annotation (Some a) = refl

declarator_opened : (layer : Declarator-F ArrowBody BlockItem Clause Expr ForStart Prop Stmt Block Declarator Function Param TemplateSpan Var) → declarator_layer (map-Declarator ArrowBody BlockItem Clause Expr ForStart Prop Stmt Block Declarator Function Param TemplateSpan Var ℕ ℕ ℕ ℕ ℕ ℕ ℕ ℕ ℕ ℕ ℕ ℕ ℕ arrow_body_depth block_item_depth clause_depth expr_depth start_depth prop_depth stmt_depth block_depth declarator_depth function_depth param_depth span_depth var_depth layer) ≡ open_declarator layer
declarator_opened layer = declarator_valued layer.at layer.name layer.annotation layer.value

pub declarator_out : (of : Declarator) → declarator_depth of ≡ open_declarator (out-Declarator of)
unfolding arrow_body_depth block_item_depth clause_depth expr_depth start_depth prop_depth stmt_depth block_depth declarator_depth function_depth param_depth span_depth var_depth
declarator_out of = fold_out-Declarator ℕ ℕ ℕ ℕ ℕ ℕ ℕ ℕ ℕ ℕ ℕ ℕ ℕ arrow_body_layer block_item_layer clause_layer expr_layer start_layer prop_layer stmt_layer block_layer declarator_layer function_layer param_layer span_layer var_layer of ∙ declarator_opened (out-Declarator of)

function_opened : (layer : Function-F ArrowBody BlockItem Clause Expr ForStart Prop Stmt Block Declarator Function Param TemplateSpan Var) → function_layer (map-Function ArrowBody BlockItem Clause Expr ForStart Prop Stmt Block Declarator Function Param TemplateSpan Var ℕ ℕ ℕ ℕ ℕ ℕ ℕ ℕ ℕ ℕ ℕ ℕ ℕ arrow_body_depth block_item_depth clause_depth expr_depth start_depth prop_depth stmt_depth block_depth declarator_depth function_depth param_depth span_depth var_depth layer) ≡ open_function layer
function_opened layer = refl

pub function_out : (of : Function) → function_depth of ≡ open_function (out-Function of)
unfolding arrow_body_depth block_item_depth clause_depth expr_depth start_depth prop_depth stmt_depth block_depth declarator_depth function_depth param_depth span_depth var_depth
function_out of = fold_out-Function ℕ ℕ ℕ ℕ ℕ ℕ ℕ ℕ ℕ ℕ ℕ ℕ ℕ arrow_body_layer block_item_layer clause_layer expr_layer start_layer prop_layer stmt_layer block_layer declarator_layer function_layer param_layer span_layer var_layer of ∙ function_opened (out-Function of)

param_valued : (at : ℕ) (name : List ℕ) (optional : Bool) (annotation : Option TypeExpr) (value : Option Expr) → param_layer (map-Param ArrowBody BlockItem Clause Expr ForStart Prop Stmt Block Declarator Function Param TemplateSpan Var ℕ ℕ ℕ ℕ ℕ ℕ ℕ ℕ ℕ ℕ ℕ ℕ ℕ arrow_body_depth block_item_depth clause_depth expr_depth start_depth prop_depth stmt_depth block_depth declarator_depth function_depth param_depth span_depth var_depth (record { at = at; name = name; optional = optional; annotation = annotation; value = value })) ≡ open_param (record { at = at; name = name; optional = optional; annotation = annotation; value = value })
param_valued at name optional annotation None = refl
param_valued at name optional annotation (Some a) = refl

param_opened : (layer : Param-F ArrowBody BlockItem Clause Expr ForStart Prop Stmt Block Declarator Function Param TemplateSpan Var) → param_layer (map-Param ArrowBody BlockItem Clause Expr ForStart Prop Stmt Block Declarator Function Param TemplateSpan Var ℕ ℕ ℕ ℕ ℕ ℕ ℕ ℕ ℕ ℕ ℕ ℕ ℕ arrow_body_depth block_item_depth clause_depth expr_depth start_depth prop_depth stmt_depth block_depth declarator_depth function_depth param_depth span_depth var_depth layer) ≡ open_param layer
param_opened layer = param_valued layer.at layer.name layer.optional layer.annotation layer.value

pub param_out : (of : Param) → param_depth of ≡ open_param (out-Param of)
unfolding arrow_body_depth block_item_depth clause_depth expr_depth start_depth prop_depth stmt_depth block_depth declarator_depth function_depth param_depth span_depth var_depth
param_out of = fold_out-Param ℕ ℕ ℕ ℕ ℕ ℕ ℕ ℕ ℕ ℕ ℕ ℕ ℕ arrow_body_layer block_item_layer clause_layer expr_layer start_layer prop_layer stmt_layer block_layer declarator_layer function_layer param_layer span_layer var_layer of ∙ param_opened (out-Param of)

span_opened : (layer : TemplateSpan-F ArrowBody BlockItem Clause Expr ForStart Prop Stmt Block Declarator Function Param TemplateSpan Var) → span_layer (map-TemplateSpan ArrowBody BlockItem Clause Expr ForStart Prop Stmt Block Declarator Function Param TemplateSpan Var ℕ ℕ ℕ ℕ ℕ ℕ ℕ ℕ ℕ ℕ ℕ ℕ ℕ arrow_body_depth block_item_depth clause_depth expr_depth start_depth prop_depth stmt_depth block_depth declarator_depth function_depth param_depth span_depth var_depth layer) ≡ open_span layer
span_opened layer = refl

pub span_out : (of : TemplateSpan) → span_depth of ≡ open_span (out-TemplateSpan of)
unfolding arrow_body_depth block_item_depth clause_depth expr_depth start_depth prop_depth stmt_depth block_depth declarator_depth function_depth param_depth span_depth var_depth
span_out of = fold_out-TemplateSpan ℕ ℕ ℕ ℕ ℕ ℕ ℕ ℕ ℕ ℕ ℕ ℕ ℕ arrow_body_layer block_item_layer clause_layer expr_layer start_layer prop_layer stmt_layer block_layer declarator_layer function_layer param_layer span_layer var_layer of ∙ span_opened (out-TemplateSpan of)

var_opened : (layer : Var-F ArrowBody BlockItem Clause Expr ForStart Prop Stmt Block Declarator Function Param TemplateSpan Var) → var_layer (map-Var ArrowBody BlockItem Clause Expr ForStart Prop Stmt Block Declarator Function Param TemplateSpan Var ℕ ℕ ℕ ℕ ℕ ℕ ℕ ℕ ℕ ℕ ℕ ℕ ℕ arrow_body_depth block_item_depth clause_depth expr_depth start_depth prop_depth stmt_depth block_depth declarator_depth function_depth param_depth span_depth var_depth layer) ≡ open_var layer
var_opened layer = refl

pub var_out : (of : Var) → var_depth of ≡ open_var (out-Var of)
unfolding arrow_body_depth block_item_depth clause_depth expr_depth start_depth prop_depth stmt_depth block_depth declarator_depth function_depth param_depth span_depth var_depth
var_out of = fold_out-Var ℕ ℕ ℕ ℕ ℕ ℕ ℕ ℕ ℕ ℕ ℕ ℕ ℕ arrow_body_layer block_item_layer clause_layer expr_layer start_layer prop_layer stmt_layer block_layer declarator_layer function_layer param_layer span_layer var_layer of ∙ var_opened (out-Var of)

-- ---- each form of a tree

pub block_arrow_body : (of : Block) → arrow_body_depth (arrow_body.Block of) ≡ block_depth of
block_arrow_body of = arrow_body_out _ ∙ ap open_arrow_body (arrow_body.outs-Block of)

pub expr_arrow_body : (of : Expr) → arrow_body_depth (arrow_body.Expr of) ≡ expr_depth of
expr_arrow_body of = arrow_body_out _ ∙ ap open_arrow_body (arrow_body.outs-Expr of)

pub var_block_item : (of : Var) → block_item_depth (block_item.Var of) ≡ var_depth of
var_block_item of = block_item_out _ ∙ ap open_block_item (block_item.outs-Var of)

pub function_block_item : (of : Function) → block_item_depth (block_item.Function of) ≡ function_depth of
function_block_item of = block_item_out _ ∙ ap open_block_item (block_item.outs-Function of)

pub stmt_block_item : (of : Stmt) → block_item_depth (block_item.Stmt of) ≡ stmt_depth of
stmt_block_item of = block_item_out _ ∙ ap open_block_item (block_item.outs-Stmt of)

pub case_clause : (at : ℕ) (value : Expr) (items : List BlockItem) → clause_depth (clause.Case at value items) ≡ max (expr_depth value) (block_items_depth items)
case_clause at value items = clause_out _ ∙ ap open_clause (clause.outs-Case at value items)

pub default_clause : (at : ℕ) (items : List BlockItem) → clause_depth (clause.Default at items) ≡ block_items_depth items
default_clause at items = clause_out _ ∙ ap open_clause (clause.outs-Default at items)

pub name_expr : (at : ℕ) (name : List ℕ) → expr_depth (expr.Name at name) ≡ 1
name_expr at name = expr_out _ ∙ ap open_expr (expr.outs-Name at name)

pub this_expr : (at : ℕ) → expr_depth (expr.This at) ≡ 1
this_expr at = expr_out _ ∙ ap open_expr (expr.outs-This at)

pub null_expr : (at : ℕ) → expr_depth (expr.Null at) ≡ 1
null_expr at = expr_out _ ∙ ap open_expr (expr.outs-Null at)

pub undefined_expr : (at : ℕ) → expr_depth (expr.Undefined at) ≡ 1
undefined_expr at = expr_out _ ∙ ap open_expr (expr.outs-Undefined at)

pub boolean_expr : (at : ℕ) (value : Bool) → expr_depth (expr.Boolean at value) ≡ 1
boolean_expr at value = expr_out _ ∙ ap open_expr (expr.outs-Boolean at value)

pub number_expr : (at : ℕ) (spelled : List ℕ) → expr_depth (expr.Number at spelled) ≡ 1
number_expr at spelled = expr_out _ ∙ ap open_expr (expr.outs-Number at spelled)

pub string_expr : (at : ℕ) (spelled : List ℕ) → expr_depth (expr.String at spelled) ≡ 1
string_expr at spelled = expr_out _ ∙ ap open_expr (expr.outs-String at spelled)

pub template_expr : (at : ℕ) (head : List ℕ) (spans : List TemplateSpan) → expr_depth (expr.Template at head spans) ≡ spans_depth spans + 1
template_expr at head spans = expr_out _ ∙ ap open_expr (expr.outs-Template at head spans)

pub parens_expr : (at : ℕ) (inner : Expr) → expr_depth (expr.Parens at inner) ≡ expr_depth inner + 1
parens_expr at inner = expr_out _ ∙ ap open_expr (expr.outs-Parens at inner)

pub array_expr : (at : ℕ) (elements : List Expr) → expr_depth (expr.Array at elements) ≡ exprs_depth elements + 1
array_expr at elements = expr_out _ ∙ ap open_expr (expr.outs-Array at elements)

pub object_expr : (at : ℕ) (props : List Prop) → expr_depth (expr.Object at props) ≡ props_depth props + 1
object_expr at props = expr_out _ ∙ ap open_expr (expr.outs-Object at props)

pub new_expr : (at : ℕ) (class : Identifier) (arguments : List Expr) → expr_depth (expr.New at class arguments) ≡ exprs_depth arguments + 1
new_expr at class arguments = expr_out _ ∙ ap open_expr (expr.outs-New at class arguments)

pub member_expr : (at : ℕ) (base : Expr) (member : List ℕ) → expr_depth (expr.Member at base member) ≡ expr_depth base + 1
member_expr at base member = expr_out _ ∙ ap open_expr (expr.outs-Member at base member)

pub index_expr : (at : ℕ) (base : Expr) (index : Expr) → expr_depth (expr.Index at base index) ≡ max (expr_depth base) (expr_depth index) + 1
index_expr at base index = expr_out _ ∙ ap open_expr (expr.outs-Index at base index)

pub call_expr : (at : ℕ) (callee : Expr) (type_arguments : List TypeExpr) (arguments : List Expr) → expr_depth (expr.Call at callee type_arguments arguments) ≡ max (expr_depth callee) (max (types_depth type_arguments) (exprs_depth arguments)) + 1
call_expr at callee type_arguments arguments = expr_out _ ∙ ap open_expr (expr.outs-Call at callee type_arguments arguments)

pub unary_expr : (at : ℕ) (operator : UnaryOperator) (operand : Expr) → expr_depth (expr.Unary at operator operand) ≡ expr_depth operand + 1
unary_expr at operator operand = expr_out _ ∙ ap open_expr (expr.outs-Unary at operator operand)

pub update_expr : (at : ℕ) (operator : UpdateOperator) (before : Bool) (target : Expr) → expr_depth (expr.Update at operator before target) ≡ expr_depth target + 1
update_expr at operator before target = expr_out _ ∙ ap open_expr (expr.outs-Update at operator before target)

pub binary_expr : (at : ℕ) (left : Expr) (operator : BinaryOperator) (right : Expr) → expr_depth (expr.Binary at left operator right) ≡ max (expr_depth left) (expr_depth right) + 1
binary_expr at left operator right = expr_out _ ∙ ap open_expr (expr.outs-Binary at left operator right)

pub as_expr : (at : ℕ) (value : Expr) (shape : TypeExpr) → expr_depth (expr.As at value shape) ≡ max (expr_depth value) (type_depth shape) + 1
as_expr at value shape = expr_out _ ∙ ap open_expr (expr.outs-As at value shape)

pub conditional_expr : (at : ℕ) (condition : Expr) (then : Expr) (otherwise : Expr) → expr_depth (expr.Conditional at condition then otherwise) ≡ max (expr_depth condition) (max (expr_depth then) (expr_depth otherwise)) + 1
conditional_expr at condition then otherwise = expr_out _ ∙ ap open_expr (expr.outs-Conditional at condition then otherwise)

pub assign_expr : (at : ℕ) (target : Expr) (operator : AssignOperator) (value : Expr) → expr_depth (expr.Assign at target operator value) ≡ max (expr_depth target) (expr_depth value) + 1
assign_expr at target operator value = expr_out _ ∙ ap open_expr (expr.outs-Assign at target operator value)

pub arrow_expr : (at : ℕ) (params : List Param) (result : Option TypeExpr) (of : ArrowBody) → expr_depth (expr.Arrow at params result of) ≡ max (params_depth params) (max (annotation_depth result) (arrow_body_depth of)) + 1
arrow_expr at params result of = expr_out _ ∙ ap open_expr (expr.outs-Arrow at params result of)

pub var_start : (of : Var) → start_depth (start.Var of) ≡ var_depth of
var_start of = start_out _ ∙ ap open_start (start.outs-Var of)

pub expr_start : (of : Expr) → start_depth (start.Expr of) ≡ expr_depth of
expr_start of = start_out _ ∙ ap open_start (start.outs-Expr of)

pub nothing_start : start_depth start.Nothing ≡ 0
nothing_start = start_out _ ∙ ap open_start start.outs-Nothing

pub valued_prop : (at : ℕ) (key : Key) (value : Expr) → prop_depth (prop.Valued at key value) ≡ expr_depth value
valued_prop at key value = prop_out _ ∙ ap open_prop (prop.outs-Valued at key value)

pub short_prop : (at : ℕ) (name : List ℕ) → prop_depth (prop.Short at name) ≡ 0
short_prop at name = prop_out _ ∙ ap open_prop (prop.outs-Short at name)

pub block_stmt : (of : Block) → stmt_depth (stmt.Block of) ≡ block_depth of
block_stmt of = stmt_out _ ∙ ap open_stmt (stmt.outs-Block of)

pub if_stmt : (at : ℕ) (condition : Expr) (then : Stmt) (otherwise : Option Stmt) → stmt_depth (stmt.If at condition then otherwise) ≡ max (expr_depth condition) (max (stmt_depth then) (otherwise_depth otherwise)) + 1
if_stmt at condition then otherwise = stmt_out _ ∙ ap open_stmt (stmt.outs-If at condition then otherwise)

pub while_stmt : (at : ℕ) (condition : Expr) (of : Stmt) → stmt_depth (stmt.While at condition of) ≡ max (expr_depth condition) (stmt_depth of) + 1
while_stmt at condition of = stmt_out _ ∙ ap open_stmt (stmt.outs-While at condition of)

pub do_stmt : (at : ℕ) (of : Stmt) (condition : Expr) → stmt_depth (stmt.Do at of condition) ≡ max (stmt_depth of) (expr_depth condition) + 1
do_stmt at of condition = stmt_out _ ∙ ap open_stmt (stmt.outs-Do at of condition)

pub for_stmt : (at : ℕ) (first : ForStart) (condition : Option Expr) (step : Option Expr) (of : Stmt) → stmt_depth (stmt.For at first condition step of) ≡ max (start_depth first) (max (optional_depth condition) (max (optional_depth step) (stmt_depth of))) + 1
for_stmt at first condition step of = stmt_out _ ∙ ap open_stmt (stmt.outs-For at first condition step of)

pub for_of_stmt : (at : ℕ) (kind : VarKind) (element : Identifier) (subject : Expr) (of : Stmt) → stmt_depth (stmt.ForOf at kind element subject of) ≡ max (expr_depth subject) (stmt_depth of) + 1
for_of_stmt at kind element subject of = stmt_out _ ∙ ap open_stmt (stmt.outs-ForOf at kind element subject of)

pub return_stmt : (at : ℕ) (value : Option Expr) → stmt_depth (stmt.Return at value) ≡ optional_depth value
return_stmt at value = stmt_out _ ∙ ap open_stmt (stmt.outs-Return at value)

pub break_stmt : (at : ℕ) → stmt_depth (stmt.Break at) ≡ 0
break_stmt at = stmt_out _ ∙ ap open_stmt (stmt.outs-Break at)

pub continue_stmt : (at : ℕ) → stmt_depth (stmt.Continue at) ≡ 0
continue_stmt at = stmt_out _ ∙ ap open_stmt (stmt.outs-Continue at)

pub throw_stmt : (at : ℕ) (value : Expr) → stmt_depth (stmt.Throw at value) ≡ expr_depth value
throw_stmt at value = stmt_out _ ∙ ap open_stmt (stmt.outs-Throw at value)

pub switch_stmt : (at : ℕ) (subject : Expr) (clauses : List Clause) → stmt_depth (stmt.Switch at subject clauses) ≡ max (expr_depth subject) (clauses_depth clauses) + 1
switch_stmt at subject clauses = stmt_out _ ∙ ap open_stmt (stmt.outs-Switch at subject clauses)

pub expr_stmt : (at : ℕ) (value : Expr) → stmt_depth (stmt.Expr at value) ≡ expr_depth value
expr_stmt at value = stmt_out _ ∙ ap open_stmt (stmt.outs-Expr at value)

pub empty_stmt : (at : ℕ) → stmt_depth (stmt.Empty at) ≡ 0
empty_stmt at = stmt_out _ ∙ ap open_stmt (stmt.outs-Empty at)

pub block_rolled : (layer : Block-F ArrowBody BlockItem Clause Expr ForStart Prop Stmt Block Declarator Function Param TemplateSpan Var) → block_depth (roll-Block layer) ≡ open_block layer
unfolding arrow_body_depth block_item_depth clause_depth expr_depth start_depth prop_depth stmt_depth block_depth declarator_depth function_depth param_depth span_depth var_depth
block_rolled layer = fold-roll-Block ℕ ℕ ℕ ℕ ℕ ℕ ℕ ℕ ℕ ℕ ℕ ℕ ℕ arrow_body_layer block_item_layer clause_layer expr_layer start_layer prop_layer stmt_layer block_layer declarator_layer function_layer param_layer span_layer var_layer layer ∙ block_opened layer

pub declarator_rolled : (layer : Declarator-F ArrowBody BlockItem Clause Expr ForStart Prop Stmt Block Declarator Function Param TemplateSpan Var) → declarator_depth (roll-Declarator layer) ≡ open_declarator layer
unfolding arrow_body_depth block_item_depth clause_depth expr_depth start_depth prop_depth stmt_depth block_depth declarator_depth function_depth param_depth span_depth var_depth
declarator_rolled layer = fold-roll-Declarator ℕ ℕ ℕ ℕ ℕ ℕ ℕ ℕ ℕ ℕ ℕ ℕ ℕ arrow_body_layer block_item_layer clause_layer expr_layer start_layer prop_layer stmt_layer block_layer declarator_layer function_layer param_layer span_layer var_layer layer ∙ declarator_opened layer

pub function_rolled : (layer : Function-F ArrowBody BlockItem Clause Expr ForStart Prop Stmt Block Declarator Function Param TemplateSpan Var) → function_depth (roll-Function layer) ≡ open_function layer
unfolding arrow_body_depth block_item_depth clause_depth expr_depth start_depth prop_depth stmt_depth block_depth declarator_depth function_depth param_depth span_depth var_depth
function_rolled layer = fold-roll-Function ℕ ℕ ℕ ℕ ℕ ℕ ℕ ℕ ℕ ℕ ℕ ℕ ℕ arrow_body_layer block_item_layer clause_layer expr_layer start_layer prop_layer stmt_layer block_layer declarator_layer function_layer param_layer span_layer var_layer layer ∙ function_opened layer

pub param_rolled : (layer : Param-F ArrowBody BlockItem Clause Expr ForStart Prop Stmt Block Declarator Function Param TemplateSpan Var) → param_depth (roll-Param layer) ≡ open_param layer
unfolding arrow_body_depth block_item_depth clause_depth expr_depth start_depth prop_depth stmt_depth block_depth declarator_depth function_depth param_depth span_depth var_depth
param_rolled layer = fold-roll-Param ℕ ℕ ℕ ℕ ℕ ℕ ℕ ℕ ℕ ℕ ℕ ℕ ℕ arrow_body_layer block_item_layer clause_layer expr_layer start_layer prop_layer stmt_layer block_layer declarator_layer function_layer param_layer span_layer var_layer layer ∙ param_opened layer

pub span_rolled : (layer : TemplateSpan-F ArrowBody BlockItem Clause Expr ForStart Prop Stmt Block Declarator Function Param TemplateSpan Var) → span_depth (roll-TemplateSpan layer) ≡ open_span layer
unfolding arrow_body_depth block_item_depth clause_depth expr_depth start_depth prop_depth stmt_depth block_depth declarator_depth function_depth param_depth span_depth var_depth
span_rolled layer = fold-roll-TemplateSpan ℕ ℕ ℕ ℕ ℕ ℕ ℕ ℕ ℕ ℕ ℕ ℕ ℕ arrow_body_layer block_item_layer clause_layer expr_layer start_layer prop_layer stmt_layer block_layer declarator_layer function_layer param_layer span_layer var_layer layer ∙ span_opened layer

pub var_rolled : (layer : Var-F ArrowBody BlockItem Clause Expr ForStart Prop Stmt Block Declarator Function Param TemplateSpan Var) → var_depth (roll-Var layer) ≡ open_var layer
unfolding arrow_body_depth block_item_depth clause_depth expr_depth start_depth prop_depth stmt_depth block_depth declarator_depth function_depth param_depth span_depth var_depth
var_rolled layer = fold-roll-Var ℕ ℕ ℕ ℕ ℕ ℕ ℕ ℕ ℕ ℕ ℕ ℕ ℕ arrow_body_layer block_item_layer clause_layer expr_layer start_layer prop_layer stmt_layer block_layer declarator_layer function_layer param_layer span_layer var_layer layer ∙ var_opened layer

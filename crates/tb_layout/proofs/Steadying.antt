-- Whether a tree is steady by its parts.
use Rattle.std.proofs.Common.{◌≡◌, ℕ, Bool, true, false, ◌&&◌, List, map, Option, Some, None, refl, ◌∙◌, ap}
use Rattle.tb_tree.specs.declared.types.Key.{Key}
use Rattle.tb_tree.specs.declared.types.TypeExpr.{TypeExpr}
use Rattle.tb_tree.specs.declared.exprs.Identifier.{Identifier}
use Rattle.tb_tree.specs.declared.exprs.UnaryOperator.{UnaryOperator}
use Rattle.tb_tree.specs.declared.exprs.UpdateOperator.{UpdateOperator}
use Rattle.tb_tree.specs.declared.exprs.BinaryOperator.{BinaryOperator}
use Rattle.tb_tree.specs.declared.exprs.AssignOperator.{AssignOperator}
use Rattle.tb_tree.specs.declared.exprs.VarKind.{VarKind}
use Rattle.tb_tree.specs.declared.exprs.ArrowBody.{ArrowBody, out-ArrowBody, fold_out-ArrowBody}
use Rattle.tb_tree.specs.declared.exprs.BlockItem.{BlockItem, out-BlockItem, fold_out-BlockItem}
use Rattle.tb_tree.specs.declared.exprs.Clause.{Clause, out-Clause, fold_out-Clause}
use Rattle.tb_tree.specs.declared.exprs.Expr.{Expr, out-Expr, fold_out-Expr}
use Rattle.tb_tree.specs.declared.exprs.ForStart.{ForStart, out-ForStart, fold_out-ForStart}
use Rattle.tb_tree.specs.declared.exprs.Prop.{Prop, out-Prop, fold_out-Prop}
use Rattle.tb_tree.specs.declared.exprs.Stmt.{Stmt, out-Stmt, fold_out-Stmt}
use Rattle.tb_tree.specs.declared.exprs.Block.{Block, out-Block, fold_out-Block, roll-Block, fold-roll-Block}
use Rattle.tb_tree.specs.declared.exprs.Declarator.{Declarator, out-Declarator, fold_out-Declarator, roll-Declarator, fold-roll-Declarator}
use Rattle.tb_tree.specs.declared.exprs.Function.{Function, out-Function, fold_out-Function, roll-Function, fold-roll-Function}
use Rattle.tb_tree.specs.declared.exprs.Param.{Param, out-Param, fold_out-Param, roll-Param, fold-roll-Param}
use Rattle.tb_tree.specs.declared.exprs.TemplateSpan.{TemplateSpan, out-TemplateSpan, fold_out-TemplateSpan, roll-TemplateSpan, fold-roll-TemplateSpan}
use Rattle.tb_tree.specs.declared.exprs.Var.{Var, out-Var, fold_out-Var, roll-Var, fold-roll-Var}
use Rattle.tb_tree.specs.declared.exprs.ArrowBody.TheVariants as arrow_body
use Rattle.tb_tree.specs.declared.exprs.BlockItem.TheVariants as block_item
use Rattle.tb_tree.specs.declared.exprs.Clause.TheVariants as clause
use Rattle.tb_tree.specs.declared.exprs.Expr.TheVariants as expr
use Rattle.tb_tree.specs.declared.exprs.ForStart.TheVariants as start
use Rattle.tb_tree.specs.declared.exprs.Prop.TheVariants as prop
use Rattle.tb_tree.specs.declared.exprs.Stmt.TheVariants as stmt
use Rattle.tb_tree.specs.declared.exprs.ArrowBody.TheOpen.{ArrowBody-F, BlockItem-F, Clause-F, Expr-F, ForStart-F, Prop-F, Stmt-F, Block-F, Declarator-F, Function-F, Param-F, TemplateSpan-F, Var-F}
use Rattle.tb_tree.specs.declared.exprs.ArrowBody.TheFolds.{map-ArrowBody, map-BlockItem, map-Clause, map-Expr, map-ForStart, map-Prop, map-Stmt, map-Block, map-Declarator, map-Function, map-Param, map-TemplateSpan, map-Var}
use Rattle.tb_layout.specs.Steady.{ParamForm, are_params_steady, are_steady, steady_optional, steady_arrow_body_layer, steady_arrow_body, steady_block_item_layer, steady_block_item, steady_clause_layer, steady_clause, steady_expr_layer, steady_expr, steady_start_layer, steady_start, steady_prop_layer, steady_prop, steady_stmt_layer, steady_stmt, steady_block_layer, steady_block, steady_declarator_layer, steady_declarator, steady_function_layer, steady_function, steady_param_layer, steady_param, steady_span_layer, steady_span, steady_var_layer, steady_var}

abbrev pub steady_otherwise : Option Stmt → Bool
steady_otherwise None = true
steady_otherwise (Some of) = steady_stmt of

-- whether a parameter has `=`
abbrev pub is_valued : Option Expr → Bool
is_valued None = false
is_valued (Some of) = true

-- ---- one layer of a tree

abbrev pub open_arrow_body : ArrowBody-F ArrowBody BlockItem Clause Expr ForStart Prop Stmt Block Declarator Function Param TemplateSpan Var → Bool
open_arrow_body (ArrowBody-F.«ArrowBody::Block» of) = (steady_block of)
open_arrow_body (ArrowBody-F.«ArrowBody::Expr» of) = (steady_expr of)

abbrev pub open_block_item : BlockItem-F ArrowBody BlockItem Clause Expr ForStart Prop Stmt Block Declarator Function Param TemplateSpan Var → Bool
open_block_item (BlockItem-F.«BlockItem::Var» of) = (steady_var of)
open_block_item (BlockItem-F.Function of) = (steady_function of)
open_block_item (BlockItem-F.Stmt of) = (steady_stmt of)

abbrev pub open_clause : Clause-F ArrowBody BlockItem Clause Expr ForStart Prop Stmt Block Declarator Function Param TemplateSpan Var → Bool
open_clause (Clause-F.Case at value items) = (steady_expr value) && are_steady (map steady_block_item items)
open_clause (Clause-F.Default at items) = are_steady (map steady_block_item items)

abbrev pub open_expr : Expr-F ArrowBody BlockItem Clause Expr ForStart Prop Stmt Block Declarator Function Param TemplateSpan Var → Bool
open_expr (Expr-F.Name at name) = true
open_expr (Expr-F.This at) = true
open_expr (Expr-F.Null at) = true
open_expr (Expr-F.Undefined at) = true
open_expr (Expr-F.Boolean at value) = true
open_expr (Expr-F.Number at spelled) = true
open_expr (Expr-F.String at spelled) = true
open_expr (Expr-F.Template at head spans) = are_steady (map steady_span spans)
open_expr (Expr-F.Parens at inner) = (steady_expr inner)
open_expr (Expr-F.Array at elements) = are_steady (map steady_expr elements)
open_expr (Expr-F.Object at props) = are_steady (map steady_prop props)
open_expr (Expr-F.New at class arguments) = are_steady (map steady_expr arguments)
open_expr (Expr-F.Member at base member) = (steady_expr base)
open_expr (Expr-F.Index at base index) = (steady_expr base) && (steady_expr index)
open_expr (Expr-F.Call at callee type_arguments arguments) = (steady_expr callee) && are_steady (map steady_expr arguments)
open_expr (Expr-F.Unary at operator operand) = (steady_expr operand)
open_expr (Expr-F.Update at operator before target) = (steady_expr target)
open_expr (Expr-F.Binary at left operator right) = (steady_expr left) && (steady_expr right)
open_expr (Expr-F.As at value shape) = (steady_expr value)
open_expr (Expr-F.Conditional at condition chosen otherwise) = (steady_expr condition) && ((steady_expr chosen) && (steady_expr otherwise))
open_expr (Expr-F.Assign at target operator value) = (steady_expr target) && (steady_expr value)
open_expr (Expr-F.Arrow at params result of) = are_params_steady false (map steady_param params) && (steady_arrow_body of)

abbrev pub open_start : ForStart-F ArrowBody BlockItem Clause Expr ForStart Prop Stmt Block Declarator Function Param TemplateSpan Var → Bool
open_start (ForStart-F.«ForStart::Var» of) = (steady_var of)
open_start (ForStart-F.«ForStart::Expr» of) = (steady_expr of)
open_start ForStart-F.Nothing = true

abbrev pub open_prop : Prop-F ArrowBody BlockItem Clause Expr ForStart Prop Stmt Block Declarator Function Param TemplateSpan Var → Bool
open_prop (Prop-F.Valued at key value) = (steady_expr value)
open_prop (Prop-F.Short at name) = true

abbrev pub open_stmt : Stmt-F ArrowBody BlockItem Clause Expr ForStart Prop Stmt Block Declarator Function Param TemplateSpan Var → Bool
open_stmt (Stmt-F.«Stmt::Block» of) = (steady_block of)
open_stmt (Stmt-F.If at condition chosen otherwise) = (steady_expr condition) && ((steady_stmt chosen) && (steady_otherwise otherwise))
open_stmt (Stmt-F.While at condition of) = (steady_expr condition) && (steady_stmt of)
open_stmt (Stmt-F.Do at of condition) = (steady_stmt of) && (steady_expr condition)
open_stmt (Stmt-F.For at first condition step of) = (steady_start first) && ((steady_optional condition) && ((steady_optional step) && (steady_stmt of)))
open_stmt (Stmt-F.ForOf at kind element subject of) = (steady_expr subject) && (steady_stmt of)
open_stmt (Stmt-F.Return at value) = (steady_optional value)
open_stmt (Stmt-F.Break at) = true
open_stmt (Stmt-F.Continue at) = true
open_stmt (Stmt-F.Throw at value) = (steady_expr value)
open_stmt (Stmt-F.Switch at subject clauses) = (steady_expr subject) && are_steady (map steady_clause clauses)
open_stmt (Stmt-F.«Stmt::Expr» at value) = (steady_expr value)
open_stmt (Stmt-F.Empty at) = true

abbrev pub open_block : Block-F ArrowBody BlockItem Clause Expr ForStart Prop Stmt Block Declarator Function Param TemplateSpan Var → Bool
open_block layer = are_steady (map steady_block_item layer.items)

abbrev pub open_declarator : Declarator-F ArrowBody BlockItem Clause Expr ForStart Prop Stmt Block Declarator Function Param TemplateSpan Var → Bool
open_declarator layer = (steady_optional layer.value)

abbrev pub open_function : Function-F ArrowBody BlockItem Clause Expr ForStart Prop Stmt Block Declarator Function Param TemplateSpan Var → Bool
open_function layer = are_params_steady false (map steady_param layer.params) && (steady_block layer.body)

abbrev pub open_param : Param-F ArrowBody BlockItem Clause Expr ForStart Prop Stmt Block Declarator Function Param TemplateSpan Var → ParamForm
open_param layer = record { optional = layer.optional; valued = is_valued layer.value; steady = (steady_optional layer.value) }

abbrev pub open_span : TemplateSpan-F ArrowBody BlockItem Clause Expr ForStart Prop Stmt Block Declarator Function Param TemplateSpan Var → Bool
open_span layer = (steady_expr layer.value)

abbrev pub open_var : Var-F ArrowBody BlockItem Clause Expr ForStart Prop Stmt Block Declarator Function Param TemplateSpan Var → Bool
open_var layer = are_steady (map steady_declarator layer.declarators)

-- ---- one layer of a tree, opened

arrow_body_opened : (layer : ArrowBody-F ArrowBody BlockItem Clause Expr ForStart Prop Stmt Block Declarator Function Param TemplateSpan Var) → steady_arrow_body_layer (map-ArrowBody ArrowBody BlockItem Clause Expr ForStart Prop Stmt Block Declarator Function Param TemplateSpan Var Bool Bool Bool Bool Bool Bool Bool Bool Bool Bool ParamForm Bool Bool steady_arrow_body steady_block_item steady_clause steady_expr steady_start steady_prop steady_stmt steady_block steady_declarator steady_function steady_param steady_span steady_var layer) ≡ open_arrow_body layer
arrow_body_opened (ArrowBody-F.«ArrowBody::Block» of) = refl
arrow_body_opened (ArrowBody-F.«ArrowBody::Expr» of) = refl

pub arrow_body_out : (of : ArrowBody) → steady_arrow_body of ≡ open_arrow_body (out-ArrowBody of)
unfolding steady_arrow_body steady_block_item steady_clause steady_expr steady_start steady_prop steady_stmt steady_block steady_declarator steady_function steady_param steady_span steady_var
arrow_body_out of = fold_out-ArrowBody Bool Bool Bool Bool Bool Bool Bool Bool Bool Bool ParamForm Bool Bool steady_arrow_body_layer steady_block_item_layer steady_clause_layer steady_expr_layer steady_start_layer steady_prop_layer steady_stmt_layer steady_block_layer steady_declarator_layer steady_function_layer steady_param_layer steady_span_layer steady_var_layer of ∙ arrow_body_opened (out-ArrowBody of)

block_item_opened : (layer : BlockItem-F ArrowBody BlockItem Clause Expr ForStart Prop Stmt Block Declarator Function Param TemplateSpan Var) → steady_block_item_layer (map-BlockItem ArrowBody BlockItem Clause Expr ForStart Prop Stmt Block Declarator Function Param TemplateSpan Var Bool Bool Bool Bool Bool Bool Bool Bool Bool Bool ParamForm Bool Bool steady_arrow_body steady_block_item steady_clause steady_expr steady_start steady_prop steady_stmt steady_block steady_declarator steady_function steady_param steady_span steady_var layer) ≡ open_block_item layer
block_item_opened (BlockItem-F.«BlockItem::Var» of) = refl
block_item_opened (BlockItem-F.Function of) = refl
block_item_opened (BlockItem-F.Stmt of) = refl

pub block_item_out : (of : BlockItem) → steady_block_item of ≡ open_block_item (out-BlockItem of)
unfolding steady_arrow_body steady_block_item steady_clause steady_expr steady_start steady_prop steady_stmt steady_block steady_declarator steady_function steady_param steady_span steady_var
block_item_out of = fold_out-BlockItem Bool Bool Bool Bool Bool Bool Bool Bool Bool Bool ParamForm Bool Bool steady_arrow_body_layer steady_block_item_layer steady_clause_layer steady_expr_layer steady_start_layer steady_prop_layer steady_stmt_layer steady_block_layer steady_declarator_layer steady_function_layer steady_param_layer steady_span_layer steady_var_layer of ∙ block_item_opened (out-BlockItem of)

clause_opened : (layer : Clause-F ArrowBody BlockItem Clause Expr ForStart Prop Stmt Block Declarator Function Param TemplateSpan Var) → steady_clause_layer (map-Clause ArrowBody BlockItem Clause Expr ForStart Prop Stmt Block Declarator Function Param TemplateSpan Var Bool Bool Bool Bool Bool Bool Bool Bool Bool Bool ParamForm Bool Bool steady_arrow_body steady_block_item steady_clause steady_expr steady_start steady_prop steady_stmt steady_block steady_declarator steady_function steady_param steady_span steady_var layer) ≡ open_clause layer
clause_opened (Clause-F.Case at value items) = refl
clause_opened (Clause-F.Default at items) = refl

pub clause_out : (of : Clause) → steady_clause of ≡ open_clause (out-Clause of)
unfolding steady_arrow_body steady_block_item steady_clause steady_expr steady_start steady_prop steady_stmt steady_block steady_declarator steady_function steady_param steady_span steady_var
clause_out of = fold_out-Clause Bool Bool Bool Bool Bool Bool Bool Bool Bool Bool ParamForm Bool Bool steady_arrow_body_layer steady_block_item_layer steady_clause_layer steady_expr_layer steady_start_layer steady_prop_layer steady_stmt_layer steady_block_layer steady_declarator_layer steady_function_layer steady_param_layer steady_span_layer steady_var_layer of ∙ clause_opened (out-Clause of)

expr_opened : (layer : Expr-F ArrowBody BlockItem Clause Expr ForStart Prop Stmt Block Declarator Function Param TemplateSpan Var) → steady_expr_layer (map-Expr ArrowBody BlockItem Clause Expr ForStart Prop Stmt Block Declarator Function Param TemplateSpan Var Bool Bool Bool Bool Bool Bool Bool Bool Bool Bool ParamForm Bool Bool steady_arrow_body steady_block_item steady_clause steady_expr steady_start steady_prop steady_stmt steady_block steady_declarator steady_function steady_param steady_span steady_var layer) ≡ open_expr layer
expr_opened (Expr-F.Name at name) = refl
expr_opened (Expr-F.This at) = refl
expr_opened (Expr-F.Null at) = refl
expr_opened (Expr-F.Undefined at) = refl
expr_opened (Expr-F.Boolean at value) = refl
expr_opened (Expr-F.Number at spelled) = refl
expr_opened (Expr-F.String at spelled) = refl
expr_opened (Expr-F.Template at head spans) = refl
expr_opened (Expr-F.Parens at inner) = refl
expr_opened (Expr-F.Array at elements) = refl
expr_opened (Expr-F.Object at props) = refl
expr_opened (Expr-F.New at class arguments) = refl
expr_opened (Expr-F.Member at base member) = refl
expr_opened (Expr-F.Index at base index) = refl
expr_opened (Expr-F.Call at callee type_arguments arguments) = refl
expr_opened (Expr-F.Unary at operator operand) = refl
expr_opened (Expr-F.Update at operator before target) = refl
expr_opened (Expr-F.Binary at left operator right) = refl
expr_opened (Expr-F.As at value shape) = refl
expr_opened (Expr-F.Conditional at condition chosen otherwise) = refl
expr_opened (Expr-F.Assign at target operator value) = refl
expr_opened (Expr-F.Arrow at params result of) = refl

pub expr_out : (of : Expr) → steady_expr of ≡ open_expr (out-Expr of)
unfolding steady_arrow_body steady_block_item steady_clause steady_expr steady_start steady_prop steady_stmt steady_block steady_declarator steady_function steady_param steady_span steady_var
expr_out of = fold_out-Expr Bool Bool Bool Bool Bool Bool Bool Bool Bool Bool ParamForm Bool Bool steady_arrow_body_layer steady_block_item_layer steady_clause_layer steady_expr_layer steady_start_layer steady_prop_layer steady_stmt_layer steady_block_layer steady_declarator_layer steady_function_layer steady_param_layer steady_span_layer steady_var_layer of ∙ expr_opened (out-Expr of)

start_opened : (layer : ForStart-F ArrowBody BlockItem Clause Expr ForStart Prop Stmt Block Declarator Function Param TemplateSpan Var) → steady_start_layer (map-ForStart ArrowBody BlockItem Clause Expr ForStart Prop Stmt Block Declarator Function Param TemplateSpan Var Bool Bool Bool Bool Bool Bool Bool Bool Bool Bool ParamForm Bool Bool steady_arrow_body steady_block_item steady_clause steady_expr steady_start steady_prop steady_stmt steady_block steady_declarator steady_function steady_param steady_span steady_var layer) ≡ open_start layer
start_opened (ForStart-F.«ForStart::Var» of) = refl
start_opened (ForStart-F.«ForStart::Expr» of) = refl
start_opened ForStart-F.Nothing = refl

pub start_out : (of : ForStart) → steady_start of ≡ open_start (out-ForStart of)
unfolding steady_arrow_body steady_block_item steady_clause steady_expr steady_start steady_prop steady_stmt steady_block steady_declarator steady_function steady_param steady_span steady_var
start_out of = fold_out-ForStart Bool Bool Bool Bool Bool Bool Bool Bool Bool Bool ParamForm Bool Bool steady_arrow_body_layer steady_block_item_layer steady_clause_layer steady_expr_layer steady_start_layer steady_prop_layer steady_stmt_layer steady_block_layer steady_declarator_layer steady_function_layer steady_param_layer steady_span_layer steady_var_layer of ∙ start_opened (out-ForStart of)

prop_opened : (layer : Prop-F ArrowBody BlockItem Clause Expr ForStart Prop Stmt Block Declarator Function Param TemplateSpan Var) → steady_prop_layer (map-Prop ArrowBody BlockItem Clause Expr ForStart Prop Stmt Block Declarator Function Param TemplateSpan Var Bool Bool Bool Bool Bool Bool Bool Bool Bool Bool ParamForm Bool Bool steady_arrow_body steady_block_item steady_clause steady_expr steady_start steady_prop steady_stmt steady_block steady_declarator steady_function steady_param steady_span steady_var layer) ≡ open_prop layer
prop_opened (Prop-F.Valued at key value) = refl
prop_opened (Prop-F.Short at name) = refl

pub prop_out : (of : Prop) → steady_prop of ≡ open_prop (out-Prop of)
unfolding steady_arrow_body steady_block_item steady_clause steady_expr steady_start steady_prop steady_stmt steady_block steady_declarator steady_function steady_param steady_span steady_var
prop_out of = fold_out-Prop Bool Bool Bool Bool Bool Bool Bool Bool Bool Bool ParamForm Bool Bool steady_arrow_body_layer steady_block_item_layer steady_clause_layer steady_expr_layer steady_start_layer steady_prop_layer steady_stmt_layer steady_block_layer steady_declarator_layer steady_function_layer steady_param_layer steady_span_layer steady_var_layer of ∙ prop_opened (out-Prop of)

stmt_opened : (layer : Stmt-F ArrowBody BlockItem Clause Expr ForStart Prop Stmt Block Declarator Function Param TemplateSpan Var) → steady_stmt_layer (map-Stmt ArrowBody BlockItem Clause Expr ForStart Prop Stmt Block Declarator Function Param TemplateSpan Var Bool Bool Bool Bool Bool Bool Bool Bool Bool Bool ParamForm Bool Bool steady_arrow_body steady_block_item steady_clause steady_expr steady_start steady_prop steady_stmt steady_block steady_declarator steady_function steady_param steady_span steady_var layer) ≡ open_stmt layer
stmt_opened (Stmt-F.«Stmt::Block» of) = refl
stmt_opened (Stmt-F.If at condition chosen None) = refl
stmt_opened (Stmt-F.If at condition chosen (Some otherwise_part)) = refl
stmt_opened (Stmt-F.While at condition of) = refl
stmt_opened (Stmt-F.Do at of condition) = refl
stmt_opened (Stmt-F.For at first None None of) = refl
stmt_opened (Stmt-F.For at first None (Some step_part) of) = refl
stmt_opened (Stmt-F.For at first (Some condition_part) None of) = refl
stmt_opened (Stmt-F.For at first (Some condition_part) (Some step_part) of) = refl
stmt_opened (Stmt-F.ForOf at kind element subject of) = refl
stmt_opened (Stmt-F.Return at None) = refl
stmt_opened (Stmt-F.Return at (Some value_part)) = refl
stmt_opened (Stmt-F.Break at) = refl
stmt_opened (Stmt-F.Continue at) = refl
stmt_opened (Stmt-F.Throw at value) = refl
stmt_opened (Stmt-F.Switch at subject clauses) = refl
stmt_opened (Stmt-F.«Stmt::Expr» at value) = refl
stmt_opened (Stmt-F.Empty at) = refl

pub stmt_out : (of : Stmt) → steady_stmt of ≡ open_stmt (out-Stmt of)
unfolding steady_arrow_body steady_block_item steady_clause steady_expr steady_start steady_prop steady_stmt steady_block steady_declarator steady_function steady_param steady_span steady_var
stmt_out of = fold_out-Stmt Bool Bool Bool Bool Bool Bool Bool Bool Bool Bool ParamForm Bool Bool steady_arrow_body_layer steady_block_item_layer steady_clause_layer steady_expr_layer steady_start_layer steady_prop_layer steady_stmt_layer steady_block_layer steady_declarator_layer steady_function_layer steady_param_layer steady_span_layer steady_var_layer of ∙ stmt_opened (out-Stmt of)

block_opened : (layer : Block-F ArrowBody BlockItem Clause Expr ForStart Prop Stmt Block Declarator Function Param TemplateSpan Var) → steady_block_layer (map-Block ArrowBody BlockItem Clause Expr ForStart Prop Stmt Block Declarator Function Param TemplateSpan Var Bool Bool Bool Bool Bool Bool Bool Bool Bool Bool ParamForm Bool Bool steady_arrow_body steady_block_item steady_clause steady_expr steady_start steady_prop steady_stmt steady_block steady_declarator steady_function steady_param steady_span steady_var layer) ≡ open_block layer
block_opened layer = refl

pub block_out : (of : Block) → steady_block of ≡ open_block (out-Block of)
unfolding steady_arrow_body steady_block_item steady_clause steady_expr steady_start steady_prop steady_stmt steady_block steady_declarator steady_function steady_param steady_span steady_var
block_out of = fold_out-Block Bool Bool Bool Bool Bool Bool Bool Bool Bool Bool ParamForm Bool Bool steady_arrow_body_layer steady_block_item_layer steady_clause_layer steady_expr_layer steady_start_layer steady_prop_layer steady_stmt_layer steady_block_layer steady_declarator_layer steady_function_layer steady_param_layer steady_span_layer steady_var_layer of ∙ block_opened (out-Block of)

declarator_valued : (at : ℕ) (name : List ℕ) (annotation : Option TypeExpr) (value : Option Expr) → steady_declarator_layer (map-Declarator ArrowBody BlockItem Clause Expr ForStart Prop Stmt Block Declarator Function Param TemplateSpan Var Bool Bool Bool Bool Bool Bool Bool Bool Bool Bool ParamForm Bool Bool steady_arrow_body steady_block_item steady_clause steady_expr steady_start steady_prop steady_stmt steady_block steady_declarator steady_function steady_param steady_span steady_var (record { at = at; name = name; annotation = annotation; value = value })) ≡ open_declarator (record { at = at; name = name; annotation = annotation; value = value })
declarator_valued at name annotation None = refl
declarator_valued at name annotation (Some value_part) = refl

declarator_opened : (layer : Declarator-F ArrowBody BlockItem Clause Expr ForStart Prop Stmt Block Declarator Function Param TemplateSpan Var) → steady_declarator_layer (map-Declarator ArrowBody BlockItem Clause Expr ForStart Prop Stmt Block Declarator Function Param TemplateSpan Var Bool Bool Bool Bool Bool Bool Bool Bool Bool Bool ParamForm Bool Bool steady_arrow_body steady_block_item steady_clause steady_expr steady_start steady_prop steady_stmt steady_block steady_declarator steady_function steady_param steady_span steady_var layer) ≡ open_declarator layer
declarator_opened layer = declarator_valued layer.at layer.name layer.annotation layer.value

pub declarator_out : (of : Declarator) → steady_declarator of ≡ open_declarator (out-Declarator of)
unfolding steady_arrow_body steady_block_item steady_clause steady_expr steady_start steady_prop steady_stmt steady_block steady_declarator steady_function steady_param steady_span steady_var
declarator_out of = fold_out-Declarator Bool Bool Bool Bool Bool Bool Bool Bool Bool Bool ParamForm Bool Bool steady_arrow_body_layer steady_block_item_layer steady_clause_layer steady_expr_layer steady_start_layer steady_prop_layer steady_stmt_layer steady_block_layer steady_declarator_layer steady_function_layer steady_param_layer steady_span_layer steady_var_layer of ∙ declarator_opened (out-Declarator of)

function_opened : (layer : Function-F ArrowBody BlockItem Clause Expr ForStart Prop Stmt Block Declarator Function Param TemplateSpan Var) → steady_function_layer (map-Function ArrowBody BlockItem Clause Expr ForStart Prop Stmt Block Declarator Function Param TemplateSpan Var Bool Bool Bool Bool Bool Bool Bool Bool Bool Bool ParamForm Bool Bool steady_arrow_body steady_block_item steady_clause steady_expr steady_start steady_prop steady_stmt steady_block steady_declarator steady_function steady_param steady_span steady_var layer) ≡ open_function layer
function_opened layer = refl

pub function_out : (of : Function) → steady_function of ≡ open_function (out-Function of)
unfolding steady_arrow_body steady_block_item steady_clause steady_expr steady_start steady_prop steady_stmt steady_block steady_declarator steady_function steady_param steady_span steady_var
function_out of = fold_out-Function Bool Bool Bool Bool Bool Bool Bool Bool Bool Bool ParamForm Bool Bool steady_arrow_body_layer steady_block_item_layer steady_clause_layer steady_expr_layer steady_start_layer steady_prop_layer steady_stmt_layer steady_block_layer steady_declarator_layer steady_function_layer steady_param_layer steady_span_layer steady_var_layer of ∙ function_opened (out-Function of)

param_valued : (at : ℕ) (name : List ℕ) (optional : Bool) (annotation : Option TypeExpr) (value : Option Expr) → steady_param_layer (map-Param ArrowBody BlockItem Clause Expr ForStart Prop Stmt Block Declarator Function Param TemplateSpan Var Bool Bool Bool Bool Bool Bool Bool Bool Bool Bool ParamForm Bool Bool steady_arrow_body steady_block_item steady_clause steady_expr steady_start steady_prop steady_stmt steady_block steady_declarator steady_function steady_param steady_span steady_var (record { at = at; name = name; optional = optional; annotation = annotation; value = value })) ≡ open_param (record { at = at; name = name; optional = optional; annotation = annotation; value = value })
param_valued at name optional annotation None = refl
param_valued at name optional annotation (Some value_part) = refl

param_opened : (layer : Param-F ArrowBody BlockItem Clause Expr ForStart Prop Stmt Block Declarator Function Param TemplateSpan Var) → steady_param_layer (map-Param ArrowBody BlockItem Clause Expr ForStart Prop Stmt Block Declarator Function Param TemplateSpan Var Bool Bool Bool Bool Bool Bool Bool Bool Bool Bool ParamForm Bool Bool steady_arrow_body steady_block_item steady_clause steady_expr steady_start steady_prop steady_stmt steady_block steady_declarator steady_function steady_param steady_span steady_var layer) ≡ open_param layer
param_opened layer = param_valued layer.at layer.name layer.optional layer.annotation layer.value

pub param_out : (of : Param) → steady_param of ≡ open_param (out-Param of)
unfolding steady_arrow_body steady_block_item steady_clause steady_expr steady_start steady_prop steady_stmt steady_block steady_declarator steady_function steady_param steady_span steady_var
param_out of = fold_out-Param Bool Bool Bool Bool Bool Bool Bool Bool Bool Bool ParamForm Bool Bool steady_arrow_body_layer steady_block_item_layer steady_clause_layer steady_expr_layer steady_start_layer steady_prop_layer steady_stmt_layer steady_block_layer steady_declarator_layer steady_function_layer steady_param_layer steady_span_layer steady_var_layer of ∙ param_opened (out-Param of)

span_opened : (layer : TemplateSpan-F ArrowBody BlockItem Clause Expr ForStart Prop Stmt Block Declarator Function Param TemplateSpan Var) → steady_span_layer (map-TemplateSpan ArrowBody BlockItem Clause Expr ForStart Prop Stmt Block Declarator Function Param TemplateSpan Var Bool Bool Bool Bool Bool Bool Bool Bool Bool Bool ParamForm Bool Bool steady_arrow_body steady_block_item steady_clause steady_expr steady_start steady_prop steady_stmt steady_block steady_declarator steady_function steady_param steady_span steady_var layer) ≡ open_span layer
span_opened layer = refl

pub span_out : (of : TemplateSpan) → steady_span of ≡ open_span (out-TemplateSpan of)
unfolding steady_arrow_body steady_block_item steady_clause steady_expr steady_start steady_prop steady_stmt steady_block steady_declarator steady_function steady_param steady_span steady_var
span_out of = fold_out-TemplateSpan Bool Bool Bool Bool Bool Bool Bool Bool Bool Bool ParamForm Bool Bool steady_arrow_body_layer steady_block_item_layer steady_clause_layer steady_expr_layer steady_start_layer steady_prop_layer steady_stmt_layer steady_block_layer steady_declarator_layer steady_function_layer steady_param_layer steady_span_layer steady_var_layer of ∙ span_opened (out-TemplateSpan of)

var_opened : (layer : Var-F ArrowBody BlockItem Clause Expr ForStart Prop Stmt Block Declarator Function Param TemplateSpan Var) → steady_var_layer (map-Var ArrowBody BlockItem Clause Expr ForStart Prop Stmt Block Declarator Function Param TemplateSpan Var Bool Bool Bool Bool Bool Bool Bool Bool Bool Bool ParamForm Bool Bool steady_arrow_body steady_block_item steady_clause steady_expr steady_start steady_prop steady_stmt steady_block steady_declarator steady_function steady_param steady_span steady_var layer) ≡ open_var layer
var_opened layer = refl

pub var_out : (of : Var) → steady_var of ≡ open_var (out-Var of)
unfolding steady_arrow_body steady_block_item steady_clause steady_expr steady_start steady_prop steady_stmt steady_block steady_declarator steady_function steady_param steady_span steady_var
var_out of = fold_out-Var Bool Bool Bool Bool Bool Bool Bool Bool Bool Bool ParamForm Bool Bool steady_arrow_body_layer steady_block_item_layer steady_clause_layer steady_expr_layer steady_start_layer steady_prop_layer steady_stmt_layer steady_block_layer steady_declarator_layer steady_function_layer steady_param_layer steady_span_layer steady_var_layer of ∙ var_opened (out-Var of)

-- ---- each form of a tree

pub block_arrow_body : (of : Block) → steady_arrow_body (arrow_body.Block of) ≡ (steady_block of)
block_arrow_body of = arrow_body_out _ ∙ ap open_arrow_body (arrow_body.outs-Block of)

pub expr_arrow_body : (of : Expr) → steady_arrow_body (arrow_body.Expr of) ≡ (steady_expr of)
expr_arrow_body of = arrow_body_out _ ∙ ap open_arrow_body (arrow_body.outs-Expr of)

pub var_block_item : (of : Var) → steady_block_item (block_item.Var of) ≡ (steady_var of)
var_block_item of = block_item_out _ ∙ ap open_block_item (block_item.outs-Var of)

pub function_block_item : (of : Function) → steady_block_item (block_item.Function of) ≡ (steady_function of)
function_block_item of = block_item_out _ ∙ ap open_block_item (block_item.outs-Function of)

pub stmt_block_item : (of : Stmt) → steady_block_item (block_item.Stmt of) ≡ (steady_stmt of)
stmt_block_item of = block_item_out _ ∙ ap open_block_item (block_item.outs-Stmt of)

pub case_clause : (at : ℕ) (value : Expr) (items : List BlockItem) → steady_clause (clause.Case at value items) ≡ (steady_expr value) && are_steady (map steady_block_item items)
case_clause at value items = clause_out _ ∙ ap open_clause (clause.outs-Case at value items)

pub default_clause : (at : ℕ) (items : List BlockItem) → steady_clause (clause.Default at items) ≡ are_steady (map steady_block_item items)
default_clause at items = clause_out _ ∙ ap open_clause (clause.outs-Default at items)

pub name_expr : (at : ℕ) (name : List ℕ) → steady_expr (expr.Name at name) ≡ true
name_expr at name = expr_out _ ∙ ap open_expr (expr.outs-Name at name)

pub this_expr : (at : ℕ) → steady_expr (expr.This at) ≡ true
this_expr at = expr_out _ ∙ ap open_expr (expr.outs-This at)

pub null_expr : (at : ℕ) → steady_expr (expr.Null at) ≡ true
null_expr at = expr_out _ ∙ ap open_expr (expr.outs-Null at)

pub undefined_expr : (at : ℕ) → steady_expr (expr.Undefined at) ≡ true
undefined_expr at = expr_out _ ∙ ap open_expr (expr.outs-Undefined at)

pub boolean_expr : (at : ℕ) (value : Bool) → steady_expr (expr.Boolean at value) ≡ true
boolean_expr at value = expr_out _ ∙ ap open_expr (expr.outs-Boolean at value)

pub number_expr : (at : ℕ) (spelled : List ℕ) → steady_expr (expr.Number at spelled) ≡ true
number_expr at spelled = expr_out _ ∙ ap open_expr (expr.outs-Number at spelled)

pub string_expr : (at : ℕ) (spelled : List ℕ) → steady_expr (expr.String at spelled) ≡ true
string_expr at spelled = expr_out _ ∙ ap open_expr (expr.outs-String at spelled)

pub template_expr : (at : ℕ) (head : List ℕ) (spans : List TemplateSpan) → steady_expr (expr.Template at head spans) ≡ are_steady (map steady_span spans)
template_expr at head spans = expr_out _ ∙ ap open_expr (expr.outs-Template at head spans)

pub parens_expr : (at : ℕ) (inner : Expr) → steady_expr (expr.Parens at inner) ≡ (steady_expr inner)
parens_expr at inner = expr_out _ ∙ ap open_expr (expr.outs-Parens at inner)

pub array_expr : (at : ℕ) (elements : List Expr) → steady_expr (expr.Array at elements) ≡ are_steady (map steady_expr elements)
array_expr at elements = expr_out _ ∙ ap open_expr (expr.outs-Array at elements)

pub object_expr : (at : ℕ) (props : List Prop) → steady_expr (expr.Object at props) ≡ are_steady (map steady_prop props)
object_expr at props = expr_out _ ∙ ap open_expr (expr.outs-Object at props)

pub new_expr : (at : ℕ) (class : Identifier) (arguments : List Expr) → steady_expr (expr.New at class arguments) ≡ are_steady (map steady_expr arguments)
new_expr at class arguments = expr_out _ ∙ ap open_expr (expr.outs-New at class arguments)

pub member_expr : (at : ℕ) (base : Expr) (member : List ℕ) → steady_expr (expr.Member at base member) ≡ (steady_expr base)
member_expr at base member = expr_out _ ∙ ap open_expr (expr.outs-Member at base member)

pub index_expr : (at : ℕ) (base : Expr) (index : Expr) → steady_expr (expr.Index at base index) ≡ (steady_expr base) && (steady_expr index)
index_expr at base index = expr_out _ ∙ ap open_expr (expr.outs-Index at base index)

pub call_expr : (at : ℕ) (callee : Expr) (type_arguments : List TypeExpr) (arguments : List Expr) → steady_expr (expr.Call at callee type_arguments arguments) ≡ (steady_expr callee) && are_steady (map steady_expr arguments)
call_expr at callee type_arguments arguments = expr_out _ ∙ ap open_expr (expr.outs-Call at callee type_arguments arguments)

pub unary_expr : (at : ℕ) (operator : UnaryOperator) (operand : Expr) → steady_expr (expr.Unary at operator operand) ≡ (steady_expr operand)
unary_expr at operator operand = expr_out _ ∙ ap open_expr (expr.outs-Unary at operator operand)

pub update_expr : (at : ℕ) (operator : UpdateOperator) (before : Bool) (target : Expr) → steady_expr (expr.Update at operator before target) ≡ (steady_expr target)
update_expr at operator before target = expr_out _ ∙ ap open_expr (expr.outs-Update at operator before target)

pub update_before_expr : (at : ℕ) (operator : UpdateOperator) (target : Expr) → steady_expr (expr.Update at operator true target) ≡ (steady_expr target)
update_before_expr at operator target = expr_out _ ∙ ap open_expr (expr.outs-Update at operator true target)

pub update_behind_expr : (at : ℕ) (operator : UpdateOperator) (target : Expr) → steady_expr (expr.Update at operator false target) ≡ (steady_expr target)
update_behind_expr at operator target = expr_out _ ∙ ap open_expr (expr.outs-Update at operator false target)

pub binary_expr : (at : ℕ) (left : Expr) (operator : BinaryOperator) (right : Expr) → steady_expr (expr.Binary at left operator right) ≡ (steady_expr left) && (steady_expr right)
binary_expr at left operator right = expr_out _ ∙ ap open_expr (expr.outs-Binary at left operator right)

pub as_expr : (at : ℕ) (value : Expr) (shape : TypeExpr) → steady_expr (expr.As at value shape) ≡ (steady_expr value)
as_expr at value shape = expr_out _ ∙ ap open_expr (expr.outs-As at value shape)

pub conditional_expr : (at : ℕ) (condition : Expr) (chosen : Expr) (otherwise : Expr) → steady_expr (expr.Conditional at condition chosen otherwise) ≡ (steady_expr condition) && ((steady_expr chosen) && (steady_expr otherwise))
conditional_expr at condition chosen otherwise = expr_out _ ∙ ap open_expr (expr.outs-Conditional at condition chosen otherwise)

pub assign_expr : (at : ℕ) (target : Expr) (operator : AssignOperator) (value : Expr) → steady_expr (expr.Assign at target operator value) ≡ (steady_expr target) && (steady_expr value)
assign_expr at target operator value = expr_out _ ∙ ap open_expr (expr.outs-Assign at target operator value)

pub arrow_expr : (at : ℕ) (params : List Param) (result : Option TypeExpr) (of : ArrowBody) → steady_expr (expr.Arrow at params result of) ≡ are_params_steady false (map steady_param params) && (steady_arrow_body of)
arrow_expr at params result of = expr_out _ ∙ ap open_expr (expr.outs-Arrow at params result of)

pub var_start : (of : Var) → steady_start (start.Var of) ≡ (steady_var of)
var_start of = start_out _ ∙ ap open_start (start.outs-Var of)

pub expr_start : (of : Expr) → steady_start (start.Expr of) ≡ (steady_expr of)
expr_start of = start_out _ ∙ ap open_start (start.outs-Expr of)

pub nothing_start : steady_start start.Nothing ≡ true
nothing_start = start_out _ ∙ ap open_start start.outs-Nothing

pub valued_prop : (at : ℕ) (key : Key) (value : Expr) → steady_prop (prop.Valued at key value) ≡ (steady_expr value)
valued_prop at key value = prop_out _ ∙ ap open_prop (prop.outs-Valued at key value)

pub short_prop : (at : ℕ) (name : List ℕ) → steady_prop (prop.Short at name) ≡ true
short_prop at name = prop_out _ ∙ ap open_prop (prop.outs-Short at name)

pub block_stmt : (of : Block) → steady_stmt (stmt.Block of) ≡ (steady_block of)
block_stmt of = stmt_out _ ∙ ap open_stmt (stmt.outs-Block of)

pub if_stmt : (at : ℕ) (condition : Expr) (chosen : Stmt) (otherwise : Option Stmt) → steady_stmt (stmt.If at condition chosen otherwise) ≡ (steady_expr condition) && ((steady_stmt chosen) && (steady_otherwise otherwise))
if_stmt at condition chosen otherwise = stmt_out _ ∙ ap open_stmt (stmt.outs-If at condition chosen otherwise)

pub if_stmt_none : (at : ℕ) (condition : Expr) (chosen : Stmt) → steady_stmt (stmt.If at condition chosen None) ≡ (steady_expr condition) && ((steady_stmt chosen) && true)
if_stmt_none at condition chosen = stmt_out _ ∙ ap open_stmt (stmt.outs-If at condition chosen None)

pub if_stmt_some : (at : ℕ) (condition : Expr) (chosen : Stmt) (otherwise_part : Stmt) → steady_stmt (stmt.If at condition chosen (Some otherwise_part)) ≡ (steady_expr condition) && ((steady_stmt chosen) && (steady_stmt otherwise_part))
if_stmt_some at condition chosen otherwise_part = stmt_out _ ∙ ap open_stmt (stmt.outs-If at condition chosen (Some otherwise_part))

pub while_stmt : (at : ℕ) (condition : Expr) (of : Stmt) → steady_stmt (stmt.While at condition of) ≡ (steady_expr condition) && (steady_stmt of)
while_stmt at condition of = stmt_out _ ∙ ap open_stmt (stmt.outs-While at condition of)

pub do_stmt : (at : ℕ) (of : Stmt) (condition : Expr) → steady_stmt (stmt.Do at of condition) ≡ (steady_stmt of) && (steady_expr condition)
do_stmt at of condition = stmt_out _ ∙ ap open_stmt (stmt.outs-Do at of condition)

pub for_stmt : (at : ℕ) (first : ForStart) (condition : Option Expr) (step : Option Expr) (of : Stmt) → steady_stmt (stmt.For at first condition step of) ≡ (steady_start first) && ((steady_optional condition) && ((steady_optional step) && (steady_stmt of)))
for_stmt at first condition step of = stmt_out _ ∙ ap open_stmt (stmt.outs-For at first condition step of)

pub for_stmt_none_none : (at : ℕ) (first : ForStart) (of : Stmt) → steady_stmt (stmt.For at first None None of) ≡ (steady_start first) && (true && (true && (steady_stmt of)))
for_stmt_none_none at first of = stmt_out _ ∙ ap open_stmt (stmt.outs-For at first None None of)

pub for_stmt_none_some : (at : ℕ) (first : ForStart) (step_part : Expr) (of : Stmt) → steady_stmt (stmt.For at first None (Some step_part) of) ≡ (steady_start first) && (true && ((steady_expr step_part) && (steady_stmt of)))
for_stmt_none_some at first step_part of = stmt_out _ ∙ ap open_stmt (stmt.outs-For at first None (Some step_part) of)

pub for_stmt_some_none : (at : ℕ) (first : ForStart) (condition_part : Expr) (of : Stmt) → steady_stmt (stmt.For at first (Some condition_part) None of) ≡ (steady_start first) && ((steady_expr condition_part) && (true && (steady_stmt of)))
for_stmt_some_none at first condition_part of = stmt_out _ ∙ ap open_stmt (stmt.outs-For at first (Some condition_part) None of)

pub for_stmt_some_some : (at : ℕ) (first : ForStart) (condition_part : Expr) (step_part : Expr) (of : Stmt) → steady_stmt (stmt.For at first (Some condition_part) (Some step_part) of) ≡ (steady_start first) && ((steady_expr condition_part) && ((steady_expr step_part) && (steady_stmt of)))
for_stmt_some_some at first condition_part step_part of = stmt_out _ ∙ ap open_stmt (stmt.outs-For at first (Some condition_part) (Some step_part) of)

pub for_of_stmt : (at : ℕ) (kind : VarKind) (element : Identifier) (subject : Expr) (of : Stmt) → steady_stmt (stmt.ForOf at kind element subject of) ≡ (steady_expr subject) && (steady_stmt of)
for_of_stmt at kind element subject of = stmt_out _ ∙ ap open_stmt (stmt.outs-ForOf at kind element subject of)

pub return_stmt : (at : ℕ) (value : Option Expr) → steady_stmt (stmt.Return at value) ≡ (steady_optional value)
return_stmt at value = stmt_out _ ∙ ap open_stmt (stmt.outs-Return at value)

pub return_stmt_none : (at : ℕ) → steady_stmt (stmt.Return at None) ≡ true
return_stmt_none at = stmt_out _ ∙ ap open_stmt (stmt.outs-Return at None)

pub return_stmt_some : (at : ℕ) (value_part : Expr) → steady_stmt (stmt.Return at (Some value_part)) ≡ (steady_expr value_part)
return_stmt_some at value_part = stmt_out _ ∙ ap open_stmt (stmt.outs-Return at (Some value_part))

pub break_stmt : (at : ℕ) → steady_stmt (stmt.Break at) ≡ true
break_stmt at = stmt_out _ ∙ ap open_stmt (stmt.outs-Break at)

pub continue_stmt : (at : ℕ) → steady_stmt (stmt.Continue at) ≡ true
continue_stmt at = stmt_out _ ∙ ap open_stmt (stmt.outs-Continue at)

pub throw_stmt : (at : ℕ) (value : Expr) → steady_stmt (stmt.Throw at value) ≡ (steady_expr value)
throw_stmt at value = stmt_out _ ∙ ap open_stmt (stmt.outs-Throw at value)

pub switch_stmt : (at : ℕ) (subject : Expr) (clauses : List Clause) → steady_stmt (stmt.Switch at subject clauses) ≡ (steady_expr subject) && are_steady (map steady_clause clauses)
switch_stmt at subject clauses = stmt_out _ ∙ ap open_stmt (stmt.outs-Switch at subject clauses)

pub expr_stmt : (at : ℕ) (value : Expr) → steady_stmt (stmt.Expr at value) ≡ (steady_expr value)
expr_stmt at value = stmt_out _ ∙ ap open_stmt (stmt.outs-Expr at value)

pub empty_stmt : (at : ℕ) → steady_stmt (stmt.Empty at) ≡ true
empty_stmt at = stmt_out _ ∙ ap open_stmt (stmt.outs-Empty at)

pub block_rolled : (layer : Block-F ArrowBody BlockItem Clause Expr ForStart Prop Stmt Block Declarator Function Param TemplateSpan Var) → steady_block (roll-Block layer) ≡ open_block layer
unfolding steady_arrow_body steady_block_item steady_clause steady_expr steady_start steady_prop steady_stmt steady_block steady_declarator steady_function steady_param steady_span steady_var
block_rolled layer = fold-roll-Block Bool Bool Bool Bool Bool Bool Bool Bool Bool Bool ParamForm Bool Bool steady_arrow_body_layer steady_block_item_layer steady_clause_layer steady_expr_layer steady_start_layer steady_prop_layer steady_stmt_layer steady_block_layer steady_declarator_layer steady_function_layer steady_param_layer steady_span_layer steady_var_layer layer ∙ block_opened layer

pub declarator_rolled : (layer : Declarator-F ArrowBody BlockItem Clause Expr ForStart Prop Stmt Block Declarator Function Param TemplateSpan Var) → steady_declarator (roll-Declarator layer) ≡ open_declarator layer
unfolding steady_arrow_body steady_block_item steady_clause steady_expr steady_start steady_prop steady_stmt steady_block steady_declarator steady_function steady_param steady_span steady_var
declarator_rolled layer = fold-roll-Declarator Bool Bool Bool Bool Bool Bool Bool Bool Bool Bool ParamForm Bool Bool steady_arrow_body_layer steady_block_item_layer steady_clause_layer steady_expr_layer steady_start_layer steady_prop_layer steady_stmt_layer steady_block_layer steady_declarator_layer steady_function_layer steady_param_layer steady_span_layer steady_var_layer layer ∙ declarator_opened layer

pub function_rolled : (layer : Function-F ArrowBody BlockItem Clause Expr ForStart Prop Stmt Block Declarator Function Param TemplateSpan Var) → steady_function (roll-Function layer) ≡ open_function layer
unfolding steady_arrow_body steady_block_item steady_clause steady_expr steady_start steady_prop steady_stmt steady_block steady_declarator steady_function steady_param steady_span steady_var
function_rolled layer = fold-roll-Function Bool Bool Bool Bool Bool Bool Bool Bool Bool Bool ParamForm Bool Bool steady_arrow_body_layer steady_block_item_layer steady_clause_layer steady_expr_layer steady_start_layer steady_prop_layer steady_stmt_layer steady_block_layer steady_declarator_layer steady_function_layer steady_param_layer steady_span_layer steady_var_layer layer ∙ function_opened layer

pub param_rolled : (layer : Param-F ArrowBody BlockItem Clause Expr ForStart Prop Stmt Block Declarator Function Param TemplateSpan Var) → steady_param (roll-Param layer) ≡ open_param layer
unfolding steady_arrow_body steady_block_item steady_clause steady_expr steady_start steady_prop steady_stmt steady_block steady_declarator steady_function steady_param steady_span steady_var
param_rolled layer = fold-roll-Param Bool Bool Bool Bool Bool Bool Bool Bool Bool Bool ParamForm Bool Bool steady_arrow_body_layer steady_block_item_layer steady_clause_layer steady_expr_layer steady_start_layer steady_prop_layer steady_stmt_layer steady_block_layer steady_declarator_layer steady_function_layer steady_param_layer steady_span_layer steady_var_layer layer ∙ param_opened layer

pub span_rolled : (layer : TemplateSpan-F ArrowBody BlockItem Clause Expr ForStart Prop Stmt Block Declarator Function Param TemplateSpan Var) → steady_span (roll-TemplateSpan layer) ≡ open_span layer
unfolding steady_arrow_body steady_block_item steady_clause steady_expr steady_start steady_prop steady_stmt steady_block steady_declarator steady_function steady_param steady_span steady_var
span_rolled layer = fold-roll-TemplateSpan Bool Bool Bool Bool Bool Bool Bool Bool Bool Bool ParamForm Bool Bool steady_arrow_body_layer steady_block_item_layer steady_clause_layer steady_expr_layer steady_start_layer steady_prop_layer steady_stmt_layer steady_block_layer steady_declarator_layer steady_function_layer steady_param_layer steady_span_layer steady_var_layer layer ∙ span_opened layer

pub var_rolled : (layer : Var-F ArrowBody BlockItem Clause Expr ForStart Prop Stmt Block Declarator Function Param TemplateSpan Var) → steady_var (roll-Var layer) ≡ open_var layer
unfolding steady_arrow_body steady_block_item steady_clause steady_expr steady_start steady_prop steady_stmt steady_block steady_declarator steady_function steady_param steady_span steady_var
var_rolled layer = fold-roll-Var Bool Bool Bool Bool Bool Bool Bool Bool Bool Bool ParamForm Bool Bool steady_arrow_body_layer steady_block_item_layer steady_clause_layer steady_expr_layer steady_start_layer steady_prop_layer steady_stmt_layer steady_block_layer steady_declarator_layer steady_function_layer steady_param_layer steady_span_layer steady_var_layer layer ∙ var_opened layer

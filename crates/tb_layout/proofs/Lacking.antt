-- What is found in a tree to lack an annotation, by what is found in its parts.
use Rattle.std.proofs.Common.{◌≡◌, ℕ, Bool, List, [], ◌∷◌, ◌++◌, map, flat_map, Option, Some, None, refl, ◌∙◌, ap}
use Rattle.tb_text.specs.declared.findings.Finding.{Finding}
use Rattle.tb_tree.specs.declared.types.Key.{Key}
use Rattle.tb_tree.specs.declared.types.TypeExpr.{TypeExpr}
use Rattle.tb_tree.specs.declared.exprs.Identifier.{Identifier}
use Rattle.tb_tree.specs.declared.exprs.UnaryOperator.{UnaryOperator}
use Rattle.tb_tree.specs.declared.exprs.UpdateOperator.{UpdateOperator}
use Rattle.tb_tree.specs.declared.exprs.BinaryOperator.{BinaryOperator}
use Rattle.tb_tree.specs.declared.exprs.AssignOperator.{AssignOperator}
use Rattle.tb_tree.specs.declared.exprs.VarKind.{VarKind}
use Rattle.tb_tree.specs.declared.exprs.ArrowBody.{ArrowBody, out-ArrowBody, fold_out-ArrowBody}
use Rattle.tb_tree.specs.declared.exprs.BlockItem.{BlockItem, out-BlockItem, fold_out-BlockItem}
use Rattle.tb_tree.specs.declared.exprs.Clause.{Clause, out-Clause, fold_out-Clause}
use Rattle.tb_tree.specs.declared.exprs.Expr.{Expr, out-Expr, fold_out-Expr}
use Rattle.tb_tree.specs.declared.exprs.ForStart.{ForStart, out-ForStart, fold_out-ForStart}
use Rattle.tb_tree.specs.declared.exprs.Prop.{Prop, out-Prop, fold_out-Prop}
use Rattle.tb_tree.specs.declared.exprs.Stmt.{Stmt, out-Stmt, fold_out-Stmt}
use Rattle.tb_tree.specs.declared.exprs.Block.{Block, out-Block, fold_out-Block, roll-Block, fold-roll-Block}
use Rattle.tb_tree.specs.declared.exprs.Declarator.{Declarator, out-Declarator, fold_out-Declarator, roll-Declarator, fold-roll-Declarator}
use Rattle.tb_tree.specs.declared.exprs.Function.{Function, out-Function, fold_out-Function, roll-Function, fold-roll-Function}
use Rattle.tb_tree.specs.declared.exprs.Param.{Param, out-Param, fold_out-Param, roll-Param, fold-roll-Param}
use Rattle.tb_tree.specs.declared.exprs.TemplateSpan.{TemplateSpan, out-TemplateSpan, fold_out-TemplateSpan, roll-TemplateSpan, fold-roll-TemplateSpan}
use Rattle.tb_tree.specs.declared.exprs.Var.{Var, out-Var, fold_out-Var, roll-Var, fold-roll-Var}
use Rattle.tb_tree.specs.declared.exprs.ArrowBody.TheVariants as arrow_body
use Rattle.tb_tree.specs.declared.exprs.BlockItem.TheVariants as block_item
use Rattle.tb_tree.specs.declared.exprs.Clause.TheVariants as clause
use Rattle.tb_tree.specs.declared.exprs.Expr.TheVariants as expr
use Rattle.tb_tree.specs.declared.exprs.ForStart.TheVariants as start
use Rattle.tb_tree.specs.declared.exprs.Prop.TheVariants as prop
use Rattle.tb_tree.specs.declared.exprs.Stmt.TheVariants as stmt
use Rattle.tb_tree.specs.declared.exprs.ArrowBody.TheOpen.{ArrowBody-F, BlockItem-F, Clause-F, Expr-F, ForStart-F, Prop-F, Stmt-F, Block-F, Declarator-F, Function-F, Param-F, TemplateSpan-F, Var-F}
use Rattle.tb_tree.specs.declared.exprs.ArrowBody.TheFolds.{map-ArrowBody, map-BlockItem, map-Clause, map-Expr, map-ForStart, map-Prop, map-Stmt, map-Block, map-Declarator, map-Function, map-Param, map-TemplateSpan, map-Var}
use Rattle.tb_layout.specs.Annotations.{Found, ParamFound, lacking_type, whole_param, arrow_param, all_found, value_findings, otherwise_findings, params_findings, arrow_body_findings_layer, arrow_body_findings, block_item_findings_layer, block_item_findings, clause_findings_layer, clause_findings, expr_findings_layer, expr_findings, start_findings_layer, start_findings, prop_findings_layer, prop_findings, stmt_findings_layer, stmt_findings, block_findings_layer, block_findings, declarator_findings_layer, declarator_findings, function_findings_layer, function_findings, param_findings_layer, param_findings, span_findings_layer, span_findings, var_findings_layer, var_findings}

pub gathered : {A : Type 0} (f : A → Found) (all : List A) → all_found (map f all) ≡ flat_map f all
gathered f [] = refl
gathered f (of ∷ rest) = ap (λ part. f of ++ part) (gathered f rest)

pub whole_gathered : (all : List Param) → flat_map whole_param (map param_findings all) ≡ params_findings all
whole_gathered [] = refl
whole_gathered (of ∷ rest) = ap (λ part. whole_param (param_findings of) ++ part) (whole_gathered rest)

-- parameters of an arrow
abbrev pub arrow_params_findings : List Param → List Finding
arrow_params_findings all = flat_map (λ of. arrow_param (param_findings of)) all

pub arrow_gathered : (all : List Param) → flat_map arrow_param (map param_findings all) ≡ arrow_params_findings all
arrow_gathered [] = refl
arrow_gathered (of ∷ rest) = ap (λ part. arrow_param (param_findings of) ++ part) (arrow_gathered rest)

-- ---- one layer of a tree

abbrev pub open_arrow_body : ArrowBody-F ArrowBody BlockItem Clause Expr ForStart Prop Stmt Block Declarator Function Param TemplateSpan Var → Found
open_arrow_body (ArrowBody-F.«ArrowBody::Block» of) = block_findings of
open_arrow_body (ArrowBody-F.«ArrowBody::Expr» of) = expr_findings of

abbrev pub open_block_item : BlockItem-F ArrowBody BlockItem Clause Expr ForStart Prop Stmt Block Declarator Function Param TemplateSpan Var → Found
open_block_item (BlockItem-F.«BlockItem::Var» of) = var_findings of
open_block_item (BlockItem-F.Function of) = function_findings of
open_block_item (BlockItem-F.Stmt of) = stmt_findings of

abbrev pub open_clause : Clause-F ArrowBody BlockItem Clause Expr ForStart Prop Stmt Block Declarator Function Param TemplateSpan Var → Found
open_clause (Clause-F.Case at value items) = expr_findings value ++ flat_map block_item_findings items
open_clause (Clause-F.Default at items) = flat_map block_item_findings items

abbrev pub open_expr : Expr-F ArrowBody BlockItem Clause Expr ForStart Prop Stmt Block Declarator Function Param TemplateSpan Var → Found
open_expr (Expr-F.Name at name) = []
open_expr (Expr-F.This at) = []
open_expr (Expr-F.Null at) = []
open_expr (Expr-F.Undefined at) = []
open_expr (Expr-F.Boolean at value) = []
open_expr (Expr-F.Number at spelled) = []
open_expr (Expr-F.String at spelled) = []
open_expr (Expr-F.Template at head spans) = flat_map span_findings spans
open_expr (Expr-F.Parens at inner) = expr_findings inner
open_expr (Expr-F.Array at elements) = flat_map expr_findings elements
open_expr (Expr-F.Object at props) = flat_map prop_findings props
open_expr (Expr-F.New at class arguments) = flat_map expr_findings arguments
open_expr (Expr-F.Member at base member) = expr_findings base
open_expr (Expr-F.Index at base index) = expr_findings base ++ expr_findings index
open_expr (Expr-F.Call at callee type_arguments arguments) = expr_findings callee ++ flat_map expr_findings arguments
open_expr (Expr-F.Unary at operator operand) = expr_findings operand
open_expr (Expr-F.Update at operator before target) = expr_findings target
open_expr (Expr-F.Binary at left operator right) = expr_findings left ++ expr_findings right
open_expr (Expr-F.As at value shape) = expr_findings value
open_expr (Expr-F.Conditional at condition chosen otherwise) = expr_findings condition ++ expr_findings chosen ++ expr_findings otherwise
open_expr (Expr-F.Assign at target operator value) = expr_findings target ++ expr_findings value
open_expr (Expr-F.Arrow at params result of) = arrow_params_findings params ++ arrow_body_findings of

abbrev pub open_start : ForStart-F ArrowBody BlockItem Clause Expr ForStart Prop Stmt Block Declarator Function Param TemplateSpan Var → Found
open_start (ForStart-F.«ForStart::Var» of) = var_findings of
open_start (ForStart-F.«ForStart::Expr» of) = expr_findings of
open_start ForStart-F.Nothing = []

abbrev pub open_prop : Prop-F ArrowBody BlockItem Clause Expr ForStart Prop Stmt Block Declarator Function Param TemplateSpan Var → Found
open_prop (Prop-F.Valued at key value) = expr_findings value
open_prop (Prop-F.Short at name) = []

abbrev pub open_stmt : Stmt-F ArrowBody BlockItem Clause Expr ForStart Prop Stmt Block Declarator Function Param TemplateSpan Var → Found
open_stmt (Stmt-F.«Stmt::Block» of) = block_findings of
open_stmt (Stmt-F.If at condition chosen otherwise) = expr_findings condition ++ stmt_findings chosen ++ otherwise_findings otherwise
open_stmt (Stmt-F.While at condition of) = expr_findings condition ++ stmt_findings of
open_stmt (Stmt-F.Do at of condition) = stmt_findings of ++ expr_findings condition
open_stmt (Stmt-F.For at first condition step of) = start_findings first ++ value_findings condition ++ value_findings step ++ stmt_findings of
open_stmt (Stmt-F.ForOf at kind element subject of) = expr_findings subject ++ stmt_findings of
open_stmt (Stmt-F.Return at value) = value_findings value
open_stmt (Stmt-F.Break at) = []
open_stmt (Stmt-F.Continue at) = []
open_stmt (Stmt-F.Throw at value) = expr_findings value
open_stmt (Stmt-F.Switch at subject clauses) = expr_findings subject ++ flat_map clause_findings clauses
open_stmt (Stmt-F.«Stmt::Expr» at value) = expr_findings value
open_stmt (Stmt-F.Empty at) = []

abbrev pub open_block : Block-F ArrowBody BlockItem Clause Expr ForStart Prop Stmt Block Declarator Function Param TemplateSpan Var → Found
open_block layer = flat_map block_item_findings layer.items

abbrev pub open_declarator : Declarator-F ArrowBody BlockItem Clause Expr ForStart Prop Stmt Block Declarator Function Param TemplateSpan Var → Found
open_declarator layer = value_findings layer.value

abbrev pub open_function : Function-F ArrowBody BlockItem Clause Expr ForStart Prop Stmt Block Declarator Function Param TemplateSpan Var → Found
open_function layer = lacking_type 9002 layer.at layer.name layer.result ++ params_findings layer.params ++ block_findings layer.body

abbrev pub open_param : Param-F ArrowBody BlockItem Clause Expr ForStart Prop Stmt Block Declarator Function Param TemplateSpan Var → ParamFound
open_param layer = record { own = lacking_type 9003 layer.at layer.name layer.annotation; inner = value_findings layer.value }

abbrev pub open_span : TemplateSpan-F ArrowBody BlockItem Clause Expr ForStart Prop Stmt Block Declarator Function Param TemplateSpan Var → Found
open_span layer = expr_findings layer.value

abbrev pub open_var : Var-F ArrowBody BlockItem Clause Expr ForStart Prop Stmt Block Declarator Function Param TemplateSpan Var → Found
open_var layer = flat_map declarator_findings layer.declarators

-- ---- one layer of a tree, opened

arrow_body_opened : (layer : ArrowBody-F ArrowBody BlockItem Clause Expr ForStart Prop Stmt Block Declarator Function Param TemplateSpan Var) → arrow_body_findings_layer (map-ArrowBody ArrowBody BlockItem Clause Expr ForStart Prop Stmt Block Declarator Function Param TemplateSpan Var Found Found Found Found Found Found Found Found Found Found ParamFound Found Found arrow_body_findings block_item_findings clause_findings expr_findings start_findings prop_findings stmt_findings block_findings declarator_findings function_findings param_findings span_findings var_findings layer) ≡ open_arrow_body layer
arrow_body_opened (ArrowBody-F.«ArrowBody::Block» of) = refl
arrow_body_opened (ArrowBody-F.«ArrowBody::Expr» of) = refl

pub arrow_body_out : (of : ArrowBody) → arrow_body_findings of ≡ open_arrow_body (out-ArrowBody of)
unfolding arrow_body_findings block_item_findings clause_findings expr_findings start_findings prop_findings stmt_findings block_findings declarator_findings function_findings param_findings span_findings var_findings
arrow_body_out of = fold_out-ArrowBody Found Found Found Found Found Found Found Found Found Found ParamFound Found Found arrow_body_findings_layer block_item_findings_layer clause_findings_layer expr_findings_layer start_findings_layer prop_findings_layer stmt_findings_layer block_findings_layer declarator_findings_layer function_findings_layer param_findings_layer span_findings_layer var_findings_layer of ∙ arrow_body_opened (out-ArrowBody of)

block_item_opened : (layer : BlockItem-F ArrowBody BlockItem Clause Expr ForStart Prop Stmt Block Declarator Function Param TemplateSpan Var) → block_item_findings_layer (map-BlockItem ArrowBody BlockItem Clause Expr ForStart Prop Stmt Block Declarator Function Param TemplateSpan Var Found Found Found Found Found Found Found Found Found Found ParamFound Found Found arrow_body_findings block_item_findings clause_findings expr_findings start_findings prop_findings stmt_findings block_findings declarator_findings function_findings param_findings span_findings var_findings layer) ≡ open_block_item layer
block_item_opened (BlockItem-F.«BlockItem::Var» of) = refl
block_item_opened (BlockItem-F.Function of) = refl
block_item_opened (BlockItem-F.Stmt of) = refl

pub block_item_out : (of : BlockItem) → block_item_findings of ≡ open_block_item (out-BlockItem of)
unfolding arrow_body_findings block_item_findings clause_findings expr_findings start_findings prop_findings stmt_findings block_findings declarator_findings function_findings param_findings span_findings var_findings
block_item_out of = fold_out-BlockItem Found Found Found Found Found Found Found Found Found Found ParamFound Found Found arrow_body_findings_layer block_item_findings_layer clause_findings_layer expr_findings_layer start_findings_layer prop_findings_layer stmt_findings_layer block_findings_layer declarator_findings_layer function_findings_layer param_findings_layer span_findings_layer var_findings_layer of ∙ block_item_opened (out-BlockItem of)

clause_opened : (layer : Clause-F ArrowBody BlockItem Clause Expr ForStart Prop Stmt Block Declarator Function Param TemplateSpan Var) → clause_findings_layer (map-Clause ArrowBody BlockItem Clause Expr ForStart Prop Stmt Block Declarator Function Param TemplateSpan Var Found Found Found Found Found Found Found Found Found Found ParamFound Found Found arrow_body_findings block_item_findings clause_findings expr_findings start_findings prop_findings stmt_findings block_findings declarator_findings function_findings param_findings span_findings var_findings layer) ≡ open_clause layer
clause_opened (Clause-F.Case at value items) = ap (λ part. expr_findings value ++ part) (gathered block_item_findings items)
clause_opened (Clause-F.Default at items) = gathered block_item_findings items

pub clause_out : (of : Clause) → clause_findings of ≡ open_clause (out-Clause of)
unfolding arrow_body_findings block_item_findings clause_findings expr_findings start_findings prop_findings stmt_findings block_findings declarator_findings function_findings param_findings span_findings var_findings
clause_out of = fold_out-Clause Found Found Found Found Found Found Found Found Found Found ParamFound Found Found arrow_body_findings_layer block_item_findings_layer clause_findings_layer expr_findings_layer start_findings_layer prop_findings_layer stmt_findings_layer block_findings_layer declarator_findings_layer function_findings_layer param_findings_layer span_findings_layer var_findings_layer of ∙ clause_opened (out-Clause of)

expr_opened : (layer : Expr-F ArrowBody BlockItem Clause Expr ForStart Prop Stmt Block Declarator Function Param TemplateSpan Var) → expr_findings_layer (map-Expr ArrowBody BlockItem Clause Expr ForStart Prop Stmt Block Declarator Function Param TemplateSpan Var Found Found Found Found Found Found Found Found Found Found ParamFound Found Found arrow_body_findings block_item_findings clause_findings expr_findings start_findings prop_findings stmt_findings block_findings declarator_findings function_findings param_findings span_findings var_findings layer) ≡ open_expr layer
expr_opened (Expr-F.Name at name) = refl
expr_opened (Expr-F.This at) = refl
expr_opened (Expr-F.Null at) = refl
expr_opened (Expr-F.Undefined at) = refl
expr_opened (Expr-F.Boolean at value) = refl
expr_opened (Expr-F.Number at spelled) = refl
expr_opened (Expr-F.String at spelled) = refl
expr_opened (Expr-F.Template at head spans) = gathered span_findings spans
expr_opened (Expr-F.Parens at inner) = refl
expr_opened (Expr-F.Array at elements) = gathered expr_findings elements
expr_opened (Expr-F.Object at props) = gathered prop_findings props
expr_opened (Expr-F.New at class arguments) = gathered expr_findings arguments
expr_opened (Expr-F.Member at base member) = refl
expr_opened (Expr-F.Index at base index) = refl
expr_opened (Expr-F.Call at callee type_arguments arguments) = ap (λ part. expr_findings callee ++ part) (gathered expr_findings arguments)
expr_opened (Expr-F.Unary at operator operand) = refl
expr_opened (Expr-F.Update at operator before target) = refl
expr_opened (Expr-F.Binary at left operator right) = refl
expr_opened (Expr-F.As at value shape) = refl
expr_opened (Expr-F.Conditional at condition chosen otherwise) = refl
expr_opened (Expr-F.Assign at target operator value) = refl
expr_opened (Expr-F.Arrow at params result of) = ap (λ part. part ++ arrow_body_findings of) (arrow_gathered params)

pub expr_out : (of : Expr) → expr_findings of ≡ open_expr (out-Expr of)
unfolding arrow_body_findings block_item_findings clause_findings expr_findings start_findings prop_findings stmt_findings block_findings declarator_findings function_findings param_findings span_findings var_findings
expr_out of = fold_out-Expr Found Found Found Found Found Found Found Found Found Found ParamFound Found Found arrow_body_findings_layer block_item_findings_layer clause_findings_layer expr_findings_layer start_findings_layer prop_findings_layer stmt_findings_layer block_findings_layer declarator_findings_layer function_findings_layer param_findings_layer span_findings_layer var_findings_layer of ∙ expr_opened (out-Expr of)

start_opened : (layer : ForStart-F ArrowBody BlockItem Clause Expr ForStart Prop Stmt Block Declarator Function Param TemplateSpan Var) → start_findings_layer (map-ForStart ArrowBody BlockItem Clause Expr ForStart Prop Stmt Block Declarator Function Param TemplateSpan Var Found Found Found Found Found Found Found Found Found Found ParamFound Found Found arrow_body_findings block_item_findings clause_findings expr_findings start_findings prop_findings stmt_findings block_findings declarator_findings function_findings param_findings span_findings var_findings layer) ≡ open_start layer
start_opened (ForStart-F.«ForStart::Var» of) = refl
start_opened (ForStart-F.«ForStart::Expr» of) = refl
start_opened ForStart-F.Nothing = refl

pub start_out : (of : ForStart) → start_findings of ≡ open_start (out-ForStart of)
unfolding arrow_body_findings block_item_findings clause_findings expr_findings start_findings prop_findings stmt_findings block_findings declarator_findings function_findings param_findings span_findings var_findings
start_out of = fold_out-ForStart Found Found Found Found Found Found Found Found Found Found ParamFound Found Found arrow_body_findings_layer block_item_findings_layer clause_findings_layer expr_findings_layer start_findings_layer prop_findings_layer stmt_findings_layer block_findings_layer declarator_findings_layer function_findings_layer param_findings_layer span_findings_layer var_findings_layer of ∙ start_opened (out-ForStart of)

prop_opened : (layer : Prop-F ArrowBody BlockItem Clause Expr ForStart Prop Stmt Block Declarator Function Param TemplateSpan Var) → prop_findings_layer (map-Prop ArrowBody BlockItem Clause Expr ForStart Prop Stmt Block Declarator Function Param TemplateSpan Var Found Found Found Found Found Found Found Found Found Found ParamFound Found Found arrow_body_findings block_item_findings clause_findings expr_findings start_findings prop_findings stmt_findings block_findings declarator_findings function_findings param_findings span_findings var_findings layer) ≡ open_prop layer
prop_opened (Prop-F.Valued at key value) = refl
prop_opened (Prop-F.Short at name) = refl

pub prop_out : (of : Prop) → prop_findings of ≡ open_prop (out-Prop of)
unfolding arrow_body_findings block_item_findings clause_findings expr_findings start_findings prop_findings stmt_findings block_findings declarator_findings function_findings param_findings span_findings var_findings
prop_out of = fold_out-Prop Found Found Found Found Found Found Found Found Found Found ParamFound Found Found arrow_body_findings_layer block_item_findings_layer clause_findings_layer expr_findings_layer start_findings_layer prop_findings_layer stmt_findings_layer block_findings_layer declarator_findings_layer function_findings_layer param_findings_layer span_findings_layer var_findings_layer of ∙ prop_opened (out-Prop of)

stmt_opened : (layer : Stmt-F ArrowBody BlockItem Clause Expr ForStart Prop Stmt Block Declarator Function Param TemplateSpan Var) → stmt_findings_layer (map-Stmt ArrowBody BlockItem Clause Expr ForStart Prop Stmt Block Declarator Function Param TemplateSpan Var Found Found Found Found Found Found Found Found Found Found ParamFound Found Found arrow_body_findings block_item_findings clause_findings expr_findings start_findings prop_findings stmt_findings block_findings declarator_findings function_findings param_findings span_findings var_findings layer) ≡ open_stmt layer
stmt_opened (Stmt-F.«Stmt::Block» of) = refl
stmt_opened (Stmt-F.If at condition chosen None) = refl
stmt_opened (Stmt-F.If at condition chosen (Some otherwise_part)) = refl
stmt_opened (Stmt-F.While at condition of) = refl
stmt_opened (Stmt-F.Do at of condition) = refl
stmt_opened (Stmt-F.For at first None None of) = refl
stmt_opened (Stmt-F.For at first None (Some step_part) of) = refl
stmt_opened (Stmt-F.For at first (Some condition_part) None of) = refl
stmt_opened (Stmt-F.For at first (Some condition_part) (Some step_part) of) = refl
stmt_opened (Stmt-F.ForOf at kind element subject of) = refl
stmt_opened (Stmt-F.Return at None) = refl
stmt_opened (Stmt-F.Return at (Some value_part)) = refl
stmt_opened (Stmt-F.Break at) = refl
stmt_opened (Stmt-F.Continue at) = refl
stmt_opened (Stmt-F.Throw at value) = refl
stmt_opened (Stmt-F.Switch at subject clauses) = ap (λ part. expr_findings subject ++ part) (gathered clause_findings clauses)
stmt_opened (Stmt-F.«Stmt::Expr» at value) = refl
stmt_opened (Stmt-F.Empty at) = refl

pub stmt_out : (of : Stmt) → stmt_findings of ≡ open_stmt (out-Stmt of)
unfolding arrow_body_findings block_item_findings clause_findings expr_findings start_findings prop_findings stmt_findings block_findings declarator_findings function_findings param_findings span_findings var_findings
stmt_out of = fold_out-Stmt Found Found Found Found Found Found Found Found Found Found ParamFound Found Found arrow_body_findings_layer block_item_findings_layer clause_findings_layer expr_findings_layer start_findings_layer prop_findings_layer stmt_findings_layer block_findings_layer declarator_findings_layer function_findings_layer param_findings_layer span_findings_layer var_findings_layer of ∙ stmt_opened (out-Stmt of)

block_opened : (layer : Block-F ArrowBody BlockItem Clause Expr ForStart Prop Stmt Block Declarator Function Param TemplateSpan Var) → block_findings_layer (map-Block ArrowBody BlockItem Clause Expr ForStart Prop Stmt Block Declarator Function Param TemplateSpan Var Found Found Found Found Found Found Found Found Found Found ParamFound Found Found arrow_body_findings block_item_findings clause_findings expr_findings start_findings prop_findings stmt_findings block_findings declarator_findings function_findings param_findings span_findings var_findings layer) ≡ open_block layer
block_opened layer = gathered block_item_findings layer.items

pub block_out : (of : Block) → block_findings of ≡ open_block (out-Block of)
unfolding arrow_body_findings block_item_findings clause_findings expr_findings start_findings prop_findings stmt_findings block_findings declarator_findings function_findings param_findings span_findings var_findings
block_out of = fold_out-Block Found Found Found Found Found Found Found Found Found Found ParamFound Found Found arrow_body_findings_layer block_item_findings_layer clause_findings_layer expr_findings_layer start_findings_layer prop_findings_layer stmt_findings_layer block_findings_layer declarator_findings_layer function_findings_layer param_findings_layer span_findings_layer var_findings_layer of ∙ block_opened (out-Block of)

declarator_valued : (at : ℕ) (name : List ℕ) (annotation : Option TypeExpr) (value : Option Expr) → declarator_findings_layer (map-Declarator ArrowBody BlockItem Clause Expr ForStart Prop Stmt Block Declarator Function Param TemplateSpan Var Found Found Found Found Found Found Found Found Found Found ParamFound Found Found arrow_body_findings block_item_findings clause_findings expr_findings start_findings prop_findings stmt_findings block_findings declarator_findings function_findings param_findings span_findings var_findings (record { at = at; name = name; annotation = annotation; value = value })) ≡ open_declarator (record { at = at; name = name; annotation = annotation; value = value })
declarator_valued at name annotation None = refl
declarator_valued at name annotation (Some value_part) = refl

declarator_opened : (layer : Declarator-F ArrowBody BlockItem Clause Expr ForStart Prop Stmt Block Declarator Function Param TemplateSpan Var) → declarator_findings_layer (map-Declarator ArrowBody BlockItem Clause Expr ForStart Prop Stmt Block Declarator Function Param TemplateSpan Var Found Found Found Found Found Found Found Found Found Found ParamFound Found Found arrow_body_findings block_item_findings clause_findings expr_findings start_findings prop_findings stmt_findings block_findings declarator_findings function_findings param_findings span_findings var_findings layer) ≡ open_declarator layer
declarator_opened layer = declarator_valued layer.at layer.name layer.annotation layer.value

pub declarator_out : (of : Declarator) → declarator_findings of ≡ open_declarator (out-Declarator of)
unfolding arrow_body_findings block_item_findings clause_findings expr_findings start_findings prop_findings stmt_findings block_findings declarator_findings function_findings param_findings span_findings var_findings
declarator_out of = fold_out-Declarator Found Found Found Found Found Found Found Found Found Found ParamFound Found Found arrow_body_findings_layer block_item_findings_layer clause_findings_layer expr_findings_layer start_findings_layer prop_findings_layer stmt_findings_layer block_findings_layer declarator_findings_layer function_findings_layer param_findings_layer span_findings_layer var_findings_layer of ∙ declarator_opened (out-Declarator of)

function_opened : (layer : Function-F ArrowBody BlockItem Clause Expr ForStart Prop Stmt Block Declarator Function Param TemplateSpan Var) → function_findings_layer (map-Function ArrowBody BlockItem Clause Expr ForStart Prop Stmt Block Declarator Function Param TemplateSpan Var Found Found Found Found Found Found Found Found Found Found ParamFound Found Found arrow_body_findings block_item_findings clause_findings expr_findings start_findings prop_findings stmt_findings block_findings declarator_findings function_findings param_findings span_findings var_findings layer) ≡ open_function layer
function_opened layer = ap (λ part. lacking_type 9002 layer.at layer.name layer.result ++ part ++ block_findings layer.body) (whole_gathered layer.params)

pub function_out : (of : Function) → function_findings of ≡ open_function (out-Function of)
unfolding arrow_body_findings block_item_findings clause_findings expr_findings start_findings prop_findings stmt_findings block_findings declarator_findings function_findings param_findings span_findings var_findings
function_out of = fold_out-Function Found Found Found Found Found Found Found Found Found Found ParamFound Found Found arrow_body_findings_layer block_item_findings_layer clause_findings_layer expr_findings_layer start_findings_layer prop_findings_layer stmt_findings_layer block_findings_layer declarator_findings_layer function_findings_layer param_findings_layer span_findings_layer var_findings_layer of ∙ function_opened (out-Function of)

param_valued : (at : ℕ) (name : List ℕ) (optional : Bool) (annotation : Option TypeExpr) (value : Option Expr) → param_findings_layer (map-Param ArrowBody BlockItem Clause Expr ForStart Prop Stmt Block Declarator Function Param TemplateSpan Var Found Found Found Found Found Found Found Found Found Found ParamFound Found Found arrow_body_findings block_item_findings clause_findings expr_findings start_findings prop_findings stmt_findings block_findings declarator_findings function_findings param_findings span_findings var_findings (record { at = at; name = name; optional = optional; annotation = annotation; value = value })) ≡ open_param (record { at = at; name = name; optional = optional; annotation = annotation; value = value })
param_valued at name optional annotation None = refl
param_valued at name optional annotation (Some value_part) = refl

param_opened : (layer : Param-F ArrowBody BlockItem Clause Expr ForStart Prop Stmt Block Declarator Function Param TemplateSpan Var) → param_findings_layer (map-Param ArrowBody BlockItem Clause Expr ForStart Prop Stmt Block Declarator Function Param TemplateSpan Var Found Found Found Found Found Found Found Found Found Found ParamFound Found Found arrow_body_findings block_item_findings clause_findings expr_findings start_findings prop_findings stmt_findings block_findings declarator_findings function_findings param_findings span_findings var_findings layer) ≡ open_param layer
param_opened layer = param_valued layer.at layer.name layer.optional layer.annotation layer.value

pub param_out : (of : Param) → param_findings of ≡ open_param (out-Param of)
unfolding arrow_body_findings block_item_findings clause_findings expr_findings start_findings prop_findings stmt_findings block_findings declarator_findings function_findings param_findings span_findings var_findings
param_out of = fold_out-Param Found Found Found Found Found Found Found Found Found Found ParamFound Found Found arrow_body_findings_layer block_item_findings_layer clause_findings_layer expr_findings_layer start_findings_layer prop_findings_layer stmt_findings_layer block_findings_layer declarator_findings_layer function_findings_layer param_findings_layer span_findings_layer var_findings_layer of ∙ param_opened (out-Param of)

span_opened : (layer : TemplateSpan-F ArrowBody BlockItem Clause Expr ForStart Prop Stmt Block Declarator Function Param TemplateSpan Var) → span_findings_layer (map-TemplateSpan ArrowBody BlockItem Clause Expr ForStart Prop Stmt Block Declarator Function Param TemplateSpan Var Found Found Found Found Found Found Found Found Found Found ParamFound Found Found arrow_body_findings block_item_findings clause_findings expr_findings start_findings prop_findings stmt_findings block_findings declarator_findings function_findings param_findings span_findings var_findings layer) ≡ open_span layer
span_opened layer = refl

pub span_out : (of : TemplateSpan) → span_findings of ≡ open_span (out-TemplateSpan of)
unfolding arrow_body_findings block_item_findings clause_findings expr_findings start_findings prop_findings stmt_findings block_findings declarator_findings function_findings param_findings span_findings var_findings
span_out of = fold_out-TemplateSpan Found Found Found Found Found Found Found Found Found Found ParamFound Found Found arrow_body_findings_layer block_item_findings_layer clause_findings_layer expr_findings_layer start_findings_layer prop_findings_layer stmt_findings_layer block_findings_layer declarator_findings_layer function_findings_layer param_findings_layer span_findings_layer var_findings_layer of ∙ span_opened (out-TemplateSpan of)

var_opened : (layer : Var-F ArrowBody BlockItem Clause Expr ForStart Prop Stmt Block Declarator Function Param TemplateSpan Var) → var_findings_layer (map-Var ArrowBody BlockItem Clause Expr ForStart Prop Stmt Block Declarator Function Param TemplateSpan Var Found Found Found Found Found Found Found Found Found Found ParamFound Found Found arrow_body_findings block_item_findings clause_findings expr_findings start_findings prop_findings stmt_findings block_findings declarator_findings function_findings param_findings span_findings var_findings layer) ≡ open_var layer
var_opened layer = gathered declarator_findings layer.declarators

pub var_out : (of : Var) → var_findings of ≡ open_var (out-Var of)
unfolding arrow_body_findings block_item_findings clause_findings expr_findings start_findings prop_findings stmt_findings block_findings declarator_findings function_findings param_findings span_findings var_findings
var_out of = fold_out-Var Found Found Found Found Found Found Found Found Found Found ParamFound Found Found arrow_body_findings_layer block_item_findings_layer clause_findings_layer expr_findings_layer start_findings_layer prop_findings_layer stmt_findings_layer block_findings_layer declarator_findings_layer function_findings_layer param_findings_layer span_findings_layer var_findings_layer of ∙ var_opened (out-Var of)

-- ---- each form of a tree

pub block_arrow_body : (of : Block) → arrow_body_findings (arrow_body.Block of) ≡ block_findings of
block_arrow_body of = arrow_body_out _ ∙ ap open_arrow_body (arrow_body.outs-Block of)

pub expr_arrow_body : (of : Expr) → arrow_body_findings (arrow_body.Expr of) ≡ expr_findings of
expr_arrow_body of = arrow_body_out _ ∙ ap open_arrow_body (arrow_body.outs-Expr of)

pub var_block_item : (of : Var) → block_item_findings (block_item.Var of) ≡ var_findings of
var_block_item of = block_item_out _ ∙ ap open_block_item (block_item.outs-Var of)

pub function_block_item : (of : Function) → block_item_findings (block_item.Function of) ≡ function_findings of
function_block_item of = block_item_out _ ∙ ap open_block_item (block_item.outs-Function of)

pub stmt_block_item : (of : Stmt) → block_item_findings (block_item.Stmt of) ≡ stmt_findings of
stmt_block_item of = block_item_out _ ∙ ap open_block_item (block_item.outs-Stmt of)

pub case_clause : (at : ℕ) (value : Expr) (items : List BlockItem) → clause_findings (clause.Case at value items) ≡ expr_findings value ++ flat_map block_item_findings items
case_clause at value items = clause_out _ ∙ ap open_clause (clause.outs-Case at value items)

pub default_clause : (at : ℕ) (items : List BlockItem) → clause_findings (clause.Default at items) ≡ flat_map block_item_findings items
default_clause at items = clause_out _ ∙ ap open_clause (clause.outs-Default at items)

pub name_expr : (at : ℕ) (name : List ℕ) → expr_findings (expr.Name at name) ≡ []
name_expr at name = expr_out _ ∙ ap open_expr (expr.outs-Name at name)

pub this_expr : (at : ℕ) → expr_findings (expr.This at) ≡ []
this_expr at = expr_out _ ∙ ap open_expr (expr.outs-This at)

pub null_expr : (at : ℕ) → expr_findings (expr.Null at) ≡ []
null_expr at = expr_out _ ∙ ap open_expr (expr.outs-Null at)

pub undefined_expr : (at : ℕ) → expr_findings (expr.Undefined at) ≡ []
undefined_expr at = expr_out _ ∙ ap open_expr (expr.outs-Undefined at)

pub boolean_expr : (at : ℕ) (value : Bool) → expr_findings (expr.Boolean at value) ≡ []
boolean_expr at value = expr_out _ ∙ ap open_expr (expr.outs-Boolean at value)

pub number_expr : (at : ℕ) (spelled : List ℕ) → expr_findings (expr.Number at spelled) ≡ []
number_expr at spelled = expr_out _ ∙ ap open_expr (expr.outs-Number at spelled)

pub string_expr : (at : ℕ) (spelled : List ℕ) → expr_findings (expr.String at spelled) ≡ []
string_expr at spelled = expr_out _ ∙ ap open_expr (expr.outs-String at spelled)

pub template_expr : (at : ℕ) (head : List ℕ) (spans : List TemplateSpan) → expr_findings (expr.Template at head spans) ≡ flat_map span_findings spans
template_expr at head spans = expr_out _ ∙ ap open_expr (expr.outs-Template at head spans)

pub parens_expr : (at : ℕ) (inner : Expr) → expr_findings (expr.Parens at inner) ≡ expr_findings inner
parens_expr at inner = expr_out _ ∙ ap open_expr (expr.outs-Parens at inner)

pub array_expr : (at : ℕ) (elements : List Expr) → expr_findings (expr.Array at elements) ≡ flat_map expr_findings elements
array_expr at elements = expr_out _ ∙ ap open_expr (expr.outs-Array at elements)

pub object_expr : (at : ℕ) (props : List Prop) → expr_findings (expr.Object at props) ≡ flat_map prop_findings props
object_expr at props = expr_out _ ∙ ap open_expr (expr.outs-Object at props)

pub new_expr : (at : ℕ) (class : Identifier) (arguments : List Expr) → expr_findings (expr.New at class arguments) ≡ flat_map expr_findings arguments
new_expr at class arguments = expr_out _ ∙ ap open_expr (expr.outs-New at class arguments)

pub member_expr : (at : ℕ) (base : Expr) (member : List ℕ) → expr_findings (expr.Member at base member) ≡ expr_findings base
member_expr at base member = expr_out _ ∙ ap open_expr (expr.outs-Member at base member)

pub index_expr : (at : ℕ) (base : Expr) (index : Expr) → expr_findings (expr.Index at base index) ≡ expr_findings base ++ expr_findings index
index_expr at base index = expr_out _ ∙ ap open_expr (expr.outs-Index at base index)

pub call_expr : (at : ℕ) (callee : Expr) (type_arguments : List TypeExpr) (arguments : List Expr) → expr_findings (expr.Call at callee type_arguments arguments) ≡ expr_findings callee ++ flat_map expr_findings arguments
call_expr at callee type_arguments arguments = expr_out _ ∙ ap open_expr (expr.outs-Call at callee type_arguments arguments)

pub unary_expr : (at : ℕ) (operator : UnaryOperator) (operand : Expr) → expr_findings (expr.Unary at operator operand) ≡ expr_findings operand
unary_expr at operator operand = expr_out _ ∙ ap open_expr (expr.outs-Unary at operator operand)

pub update_expr : (at : ℕ) (operator : UpdateOperator) (before : Bool) (target : Expr) → expr_findings (expr.Update at operator before target) ≡ expr_findings target
update_expr at operator before target = expr_out _ ∙ ap open_expr (expr.outs-Update at operator before target)

pub binary_expr : (at : ℕ) (left : Expr) (operator : BinaryOperator) (right : Expr) → expr_findings (expr.Binary at left operator right) ≡ expr_findings left ++ expr_findings right
binary_expr at left operator right = expr_out _ ∙ ap open_expr (expr.outs-Binary at left operator right)

pub as_expr : (at : ℕ) (value : Expr) (shape : TypeExpr) → expr_findings (expr.As at value shape) ≡ expr_findings value
as_expr at value shape = expr_out _ ∙ ap open_expr (expr.outs-As at value shape)

pub conditional_expr : (at : ℕ) (condition : Expr) (chosen : Expr) (otherwise : Expr) → expr_findings (expr.Conditional at condition chosen otherwise) ≡ expr_findings condition ++ expr_findings chosen ++ expr_findings otherwise
conditional_expr at condition chosen otherwise = expr_out _ ∙ ap open_expr (expr.outs-Conditional at condition chosen otherwise)

pub assign_expr : (at : ℕ) (target : Expr) (operator : AssignOperator) (value : Expr) → expr_findings (expr.Assign at target operator value) ≡ expr_findings target ++ expr_findings value
assign_expr at target operator value = expr_out _ ∙ ap open_expr (expr.outs-Assign at target operator value)

pub arrow_expr : (at : ℕ) (params : List Param) (result : Option TypeExpr) (of : ArrowBody) → expr_findings (expr.Arrow at params result of) ≡ arrow_params_findings params ++ arrow_body_findings of
arrow_expr at params result of = expr_out _ ∙ ap open_expr (expr.outs-Arrow at params result of)

pub var_start : (of : Var) → start_findings (start.Var of) ≡ var_findings of
var_start of = start_out _ ∙ ap open_start (start.outs-Var of)

pub expr_start : (of : Expr) → start_findings (start.Expr of) ≡ expr_findings of
expr_start of = start_out _ ∙ ap open_start (start.outs-Expr of)

pub nothing_start : start_findings start.Nothing ≡ []
nothing_start = start_out _ ∙ ap open_start start.outs-Nothing

pub valued_prop : (at : ℕ) (key : Key) (value : Expr) → prop_findings (prop.Valued at key value) ≡ expr_findings value
valued_prop at key value = prop_out _ ∙ ap open_prop (prop.outs-Valued at key value)

pub short_prop : (at : ℕ) (name : List ℕ) → prop_findings (prop.Short at name) ≡ []
short_prop at name = prop_out _ ∙ ap open_prop (prop.outs-Short at name)

pub block_stmt : (of : Block) → stmt_findings (stmt.Block of) ≡ block_findings of
block_stmt of = stmt_out _ ∙ ap open_stmt (stmt.outs-Block of)

pub if_stmt : (at : ℕ) (condition : Expr) (chosen : Stmt) (otherwise : Option Stmt) → stmt_findings (stmt.If at condition chosen otherwise) ≡ expr_findings condition ++ stmt_findings chosen ++ otherwise_findings otherwise
if_stmt at condition chosen otherwise = stmt_out _ ∙ ap open_stmt (stmt.outs-If at condition chosen otherwise)

pub while_stmt : (at : ℕ) (condition : Expr) (of : Stmt) → stmt_findings (stmt.While at condition of) ≡ expr_findings condition ++ stmt_findings of
while_stmt at condition of = stmt_out _ ∙ ap open_stmt (stmt.outs-While at condition of)

pub do_stmt : (at : ℕ) (of : Stmt) (condition : Expr) → stmt_findings (stmt.Do at of condition) ≡ stmt_findings of ++ expr_findings condition
do_stmt at of condition = stmt_out _ ∙ ap open_stmt (stmt.outs-Do at of condition)

pub for_stmt : (at : ℕ) (first : ForStart) (condition : Option Expr) (step : Option Expr) (of : Stmt) → stmt_findings (stmt.For at first condition step of) ≡ start_findings first ++ value_findings condition ++ value_findings step ++ stmt_findings of
for_stmt at first condition step of = stmt_out _ ∙ ap open_stmt (stmt.outs-For at first condition step of)

pub for_of_stmt : (at : ℕ) (kind : VarKind) (element : Identifier) (subject : Expr) (of : Stmt) → stmt_findings (stmt.ForOf at kind element subject of) ≡ expr_findings subject ++ stmt_findings of
for_of_stmt at kind element subject of = stmt_out _ ∙ ap open_stmt (stmt.outs-ForOf at kind element subject of)

pub return_stmt : (at : ℕ) (value : Option Expr) → stmt_findings (stmt.Return at value) ≡ value_findings value
return_stmt at value = stmt_out _ ∙ ap open_stmt (stmt.outs-Return at value)

pub break_stmt : (at : ℕ) → stmt_findings (stmt.Break at) ≡ []
break_stmt at = stmt_out _ ∙ ap open_stmt (stmt.outs-Break at)

pub continue_stmt : (at : ℕ) → stmt_findings (stmt.Continue at) ≡ []
continue_stmt at = stmt_out _ ∙ ap open_stmt (stmt.outs-Continue at)

pub throw_stmt : (at : ℕ) (value : Expr) → stmt_findings (stmt.Throw at value) ≡ expr_findings value
throw_stmt at value = stmt_out _ ∙ ap open_stmt (stmt.outs-Throw at value)

pub switch_stmt : (at : ℕ) (subject : Expr) (clauses : List Clause) → stmt_findings (stmt.Switch at subject clauses) ≡ expr_findings subject ++ flat_map clause_findings clauses
switch_stmt at subject clauses = stmt_out _ ∙ ap open_stmt (stmt.outs-Switch at subject clauses)

pub expr_stmt : (at : ℕ) (value : Expr) → stmt_findings (stmt.Expr at value) ≡ expr_findings value
expr_stmt at value = stmt_out _ ∙ ap open_stmt (stmt.outs-Expr at value)

pub empty_stmt : (at : ℕ) → stmt_findings (stmt.Empty at) ≡ []
empty_stmt at = stmt_out _ ∙ ap open_stmt (stmt.outs-Empty at)

pub block_rolled : (layer : Block-F ArrowBody BlockItem Clause Expr ForStart Prop Stmt Block Declarator Function Param TemplateSpan Var) → block_findings (roll-Block layer) ≡ open_block layer
unfolding arrow_body_findings block_item_findings clause_findings expr_findings start_findings prop_findings stmt_findings block_findings declarator_findings function_findings param_findings span_findings var_findings
block_rolled layer = fold-roll-Block Found Found Found Found Found Found Found Found Found Found ParamFound Found Found arrow_body_findings_layer block_item_findings_layer clause_findings_layer expr_findings_layer start_findings_layer prop_findings_layer stmt_findings_layer block_findings_layer declarator_findings_layer function_findings_layer param_findings_layer span_findings_layer var_findings_layer layer ∙ block_opened layer

pub declarator_rolled : (layer : Declarator-F ArrowBody BlockItem Clause Expr ForStart Prop Stmt Block Declarator Function Param TemplateSpan Var) → declarator_findings (roll-Declarator layer) ≡ open_declarator layer
unfolding arrow_body_findings block_item_findings clause_findings expr_findings start_findings prop_findings stmt_findings block_findings declarator_findings function_findings param_findings span_findings var_findings
declarator_rolled layer = fold-roll-Declarator Found Found Found Found Found Found Found Found Found Found ParamFound Found Found arrow_body_findings_layer block_item_findings_layer clause_findings_layer expr_findings_layer start_findings_layer prop_findings_layer stmt_findings_layer block_findings_layer declarator_findings_layer function_findings_layer param_findings_layer span_findings_layer var_findings_layer layer ∙ declarator_opened layer

pub function_rolled : (layer : Function-F ArrowBody BlockItem Clause Expr ForStart Prop Stmt Block Declarator Function Param TemplateSpan Var) → function_findings (roll-Function layer) ≡ open_function layer
unfolding arrow_body_findings block_item_findings clause_findings expr_findings start_findings prop_findings stmt_findings block_findings declarator_findings function_findings param_findings span_findings var_findings
function_rolled layer = fold-roll-Function Found Found Found Found Found Found Found Found Found Found ParamFound Found Found arrow_body_findings_layer block_item_findings_layer clause_findings_layer expr_findings_layer start_findings_layer prop_findings_layer stmt_findings_layer block_findings_layer declarator_findings_layer function_findings_layer param_findings_layer span_findings_layer var_findings_layer layer ∙ function_opened layer

pub param_rolled : (layer : Param-F ArrowBody BlockItem Clause Expr ForStart Prop Stmt Block Declarator Function Param TemplateSpan Var) → param_findings (roll-Param layer) ≡ open_param layer
unfolding arrow_body_findings block_item_findings clause_findings expr_findings start_findings prop_findings stmt_findings block_findings declarator_findings function_findings param_findings span_findings var_findings
param_rolled layer = fold-roll-Param Found Found Found Found Found Found Found Found Found Found ParamFound Found Found arrow_body_findings_layer block_item_findings_layer clause_findings_layer expr_findings_layer start_findings_layer prop_findings_layer stmt_findings_layer block_findings_layer declarator_findings_layer function_findings_layer param_findings_layer span_findings_layer var_findings_layer layer ∙ param_opened layer

pub span_rolled : (layer : TemplateSpan-F ArrowBody BlockItem Clause Expr ForStart Prop Stmt Block Declarator Function Param TemplateSpan Var) → span_findings (roll-TemplateSpan layer) ≡ open_span layer
unfolding arrow_body_findings block_item_findings clause_findings expr_findings start_findings prop_findings stmt_findings block_findings declarator_findings function_findings param_findings span_findings var_findings
span_rolled layer = fold-roll-TemplateSpan Found Found Found Found Found Found Found Found Found Found ParamFound Found Found arrow_body_findings_layer block_item_findings_layer clause_findings_layer expr_findings_layer start_findings_layer prop_findings_layer stmt_findings_layer block_findings_layer declarator_findings_layer function_findings_layer param_findings_layer span_findings_layer var_findings_layer layer ∙ span_opened layer

pub var_rolled : (layer : Var-F ArrowBody BlockItem Clause Expr ForStart Prop Stmt Block Declarator Function Param TemplateSpan Var) → var_findings (roll-Var layer) ≡ open_var layer
unfolding arrow_body_findings block_item_findings clause_findings expr_findings start_findings prop_findings stmt_findings block_findings declarator_findings function_findings param_findings span_findings var_findings
var_rolled layer = fold-roll-Var Found Found Found Found Found Found Found Found Found Found ParamFound Found Found arrow_body_findings_layer block_item_findings_layer clause_findings_layer expr_findings_layer start_findings_layer prop_findings_layer stmt_findings_layer block_findings_layer declarator_findings_layer function_findings_layer param_findings_layer span_findings_layer var_findings_layer layer ∙ var_opened layer

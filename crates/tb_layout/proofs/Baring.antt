-- What a tree without its offsets is by its parts.
use Rattle.std.proofs.Common.{◌≡◌, ℕ, Bool, true, false, List, map, Option, Some, None, refl, ◌∙◌, ap}
use Rattle.tb_tree.specs.declared.types.Key.{Key}
use Rattle.tb_tree.specs.declared.types.TypeExpr.{TypeExpr}
use Rattle.tb_tree.specs.declared.exprs.Identifier.{Identifier}
use Rattle.tb_tree.specs.declared.exprs.UnaryOperator.{UnaryOperator}
use Rattle.tb_tree.specs.declared.exprs.UpdateOperator.{UpdateOperator}
use Rattle.tb_tree.specs.declared.exprs.BinaryOperator.{BinaryOperator}
use Rattle.tb_tree.specs.declared.exprs.AssignOperator.{AssignOperator}
use Rattle.tb_tree.specs.declared.exprs.VarKind.{VarKind}
use Rattle.tb_tree.specs.declared.exprs.ArrowBody.{ArrowBody, out-ArrowBody, fold_out-ArrowBody}
use Rattle.tb_tree.specs.declared.exprs.BlockItem.{BlockItem, out-BlockItem, fold_out-BlockItem}
use Rattle.tb_tree.specs.declared.exprs.Clause.{Clause, out-Clause, fold_out-Clause}
use Rattle.tb_tree.specs.declared.exprs.Expr.{Expr, out-Expr, fold_out-Expr}
use Rattle.tb_tree.specs.declared.exprs.ForStart.{ForStart, out-ForStart, fold_out-ForStart}
use Rattle.tb_tree.specs.declared.exprs.Prop.{Prop, out-Prop, fold_out-Prop}
use Rattle.tb_tree.specs.declared.exprs.Stmt.{Stmt, out-Stmt, fold_out-Stmt}
use Rattle.tb_tree.specs.declared.exprs.Block.{Block, out-Block, fold_out-Block, roll-Block, fold-roll-Block}
use Rattle.tb_tree.specs.declared.exprs.Declarator.{Declarator, out-Declarator, fold_out-Declarator, roll-Declarator, fold-roll-Declarator}
use Rattle.tb_tree.specs.declared.exprs.Function.{Function, out-Function, fold_out-Function, roll-Function, fold-roll-Function}
use Rattle.tb_tree.specs.declared.exprs.Param.{Param, out-Param, fold_out-Param, roll-Param, fold-roll-Param}
use Rattle.tb_tree.specs.declared.exprs.TemplateSpan.{TemplateSpan, out-TemplateSpan, fold_out-TemplateSpan, roll-TemplateSpan, fold-roll-TemplateSpan}
use Rattle.tb_tree.specs.declared.exprs.Var.{Var, out-Var, fold_out-Var, roll-Var, fold-roll-Var}
use Rattle.tb_tree.specs.declared.exprs.ArrowBody.TheVariants as arrow_body
use Rattle.tb_tree.specs.declared.exprs.BlockItem.TheVariants as block_item
use Rattle.tb_tree.specs.declared.exprs.Clause.TheVariants as clause
use Rattle.tb_tree.specs.declared.exprs.Expr.TheVariants as expr
use Rattle.tb_tree.specs.declared.exprs.ForStart.TheVariants as start
use Rattle.tb_tree.specs.declared.exprs.Prop.TheVariants as prop
use Rattle.tb_tree.specs.declared.exprs.Stmt.TheVariants as stmt
use Rattle.tb_tree.specs.declared.exprs.ArrowBody.TheOpen.{ArrowBody-F, BlockItem-F, Clause-F, Expr-F, ForStart-F, Prop-F, Stmt-F, Block-F, Declarator-F, Function-F, Param-F, TemplateSpan-F, Var-F}
use Rattle.tb_tree.specs.declared.exprs.ArrowBody.TheFolds.{map-ArrowBody, map-BlockItem, map-Clause, map-Expr, map-ForStart, map-Prop, map-Stmt, map-Block, map-Declarator, map-Function, map-Param, map-TemplateSpan, map-Var}
use Rattle.tb_tree.specs.Bare.{bare_type, bare_annotation, bare_identifier, bare_value, bare_arrow_body_layer, bare_arrow_body, bare_block_item_layer, bare_block_item, bare_clause_layer, bare_clause, bare_expr_layer, bare_expr, bare_start_layer, bare_start, bare_prop_layer, bare_prop, bare_stmt_layer, bare_stmt, bare_block_layer, bare_block, bare_declarator_layer, bare_declarator, bare_function_layer, bare_function, bare_param_layer, bare_param, bare_span_layer, bare_span, bare_var_layer, bare_var}

abbrev pub bare_otherwise : Option Stmt → Option Stmt
bare_otherwise None = None
bare_otherwise (Some of) = Some (bare_stmt of)

-- ---- one layer of a tree

abbrev pub open_arrow_body : ArrowBody-F ArrowBody BlockItem Clause Expr ForStart Prop Stmt Block Declarator Function Param TemplateSpan Var → ArrowBody
open_arrow_body (ArrowBody-F.«ArrowBody::Block» of) = arrow_body.Block (bare_block of)
open_arrow_body (ArrowBody-F.«ArrowBody::Expr» of) = arrow_body.Expr (bare_expr of)

abbrev pub open_block_item : BlockItem-F ArrowBody BlockItem Clause Expr ForStart Prop Stmt Block Declarator Function Param TemplateSpan Var → BlockItem
open_block_item (BlockItem-F.«BlockItem::Var» of) = block_item.Var (bare_var of)
open_block_item (BlockItem-F.Function of) = block_item.Function (bare_function of)
open_block_item (BlockItem-F.Stmt of) = block_item.Stmt (bare_stmt of)

abbrev pub open_clause : Clause-F ArrowBody BlockItem Clause Expr ForStart Prop Stmt Block Declarator Function Param TemplateSpan Var → Clause
open_clause (Clause-F.Case at value items) = clause.Case 0 (bare_expr value) (map bare_block_item items)
open_clause (Clause-F.Default at items) = clause.Default 0 (map bare_block_item items)

abbrev pub open_expr : Expr-F ArrowBody BlockItem Clause Expr ForStart Prop Stmt Block Declarator Function Param TemplateSpan Var → Expr
open_expr (Expr-F.Name at name) = expr.Name 0 name
open_expr (Expr-F.This at) = expr.This 0
open_expr (Expr-F.Null at) = expr.Null 0
open_expr (Expr-F.Undefined at) = expr.Undefined 0
open_expr (Expr-F.Boolean at value) = expr.Boolean 0 value
open_expr (Expr-F.Number at spelled) = expr.Number 0 spelled
open_expr (Expr-F.String at spelled) = expr.String 0 spelled
open_expr (Expr-F.Template at head spans) = expr.Template 0 head (map bare_span spans)
open_expr (Expr-F.Parens at inner) = expr.Parens 0 (bare_expr inner)
open_expr (Expr-F.Array at elements) = expr.Array 0 (map bare_expr elements)
open_expr (Expr-F.Object at props) = expr.Object 0 (map bare_prop props)
open_expr (Expr-F.New at class arguments) = expr.New 0 (bare_identifier class) (map bare_expr arguments)
open_expr (Expr-F.Member at base member) = expr.Member 0 (bare_expr base) member
open_expr (Expr-F.Index at base index) = expr.Index 0 (bare_expr base) (bare_expr index)
open_expr (Expr-F.Call at callee type_arguments arguments) = expr.Call 0 (bare_expr callee) (map bare_type type_arguments) (map bare_expr arguments)
open_expr (Expr-F.Unary at operator operand) = expr.Unary 0 operator (bare_expr operand)
open_expr (Expr-F.Update at operator before target) = expr.Update 0 operator before (bare_expr target)
open_expr (Expr-F.Binary at left operator right) = expr.Binary 0 (bare_expr left) operator (bare_expr right)
open_expr (Expr-F.As at value shape) = expr.As 0 (bare_expr value) (bare_type shape)
open_expr (Expr-F.Conditional at condition chosen otherwise) = expr.Conditional 0 (bare_expr condition) (bare_expr chosen) (bare_expr otherwise)
open_expr (Expr-F.Assign at target operator value) = expr.Assign 0 (bare_expr target) operator (bare_expr value)
open_expr (Expr-F.Arrow at params result of) = expr.Arrow 0 (map bare_param params) (bare_annotation result) (bare_arrow_body of)

abbrev pub open_start : ForStart-F ArrowBody BlockItem Clause Expr ForStart Prop Stmt Block Declarator Function Param TemplateSpan Var → ForStart
open_start (ForStart-F.«ForStart::Var» of) = start.Var (bare_var of)
open_start (ForStart-F.«ForStart::Expr» of) = start.Expr (bare_expr of)
open_start ForStart-F.Nothing = start.Nothing

abbrev pub open_prop : Prop-F ArrowBody BlockItem Clause Expr ForStart Prop Stmt Block Declarator Function Param TemplateSpan Var → Prop
open_prop (Prop-F.Valued at key value) = prop.Valued 0 key (bare_expr value)
open_prop (Prop-F.Short at name) = prop.Short 0 name

abbrev pub open_stmt : Stmt-F ArrowBody BlockItem Clause Expr ForStart Prop Stmt Block Declarator Function Param TemplateSpan Var → Stmt
open_stmt (Stmt-F.«Stmt::Block» of) = stmt.Block (bare_block of)
open_stmt (Stmt-F.If at condition chosen otherwise) = stmt.If 0 (bare_expr condition) (bare_stmt chosen) (bare_otherwise otherwise)
open_stmt (Stmt-F.While at condition of) = stmt.While 0 (bare_expr condition) (bare_stmt of)
open_stmt (Stmt-F.Do at of condition) = stmt.Do 0 (bare_stmt of) (bare_expr condition)
open_stmt (Stmt-F.For at first condition step of) = stmt.For 0 (bare_start first) (bare_value condition) (bare_value step) (bare_stmt of)
open_stmt (Stmt-F.ForOf at kind element subject of) = stmt.ForOf 0 kind (bare_identifier element) (bare_expr subject) (bare_stmt of)
open_stmt (Stmt-F.Return at value) = stmt.Return 0 (bare_value value)
open_stmt (Stmt-F.Break at) = stmt.Break 0
open_stmt (Stmt-F.Continue at) = stmt.Continue 0
open_stmt (Stmt-F.Throw at value) = stmt.Throw 0 (bare_expr value)
open_stmt (Stmt-F.Switch at subject clauses) = stmt.Switch 0 (bare_expr subject) (map bare_clause clauses)
open_stmt (Stmt-F.«Stmt::Expr» at value) = stmt.Expr 0 (bare_expr value)
open_stmt (Stmt-F.Empty at) = stmt.Empty 0

abbrev pub open_block : Block-F ArrowBody BlockItem Clause Expr ForStart Prop Stmt Block Declarator Function Param TemplateSpan Var → Block
open_block layer = roll-Block (record { at = 0; items = (map bare_block_item layer.items) })

abbrev pub open_declarator : Declarator-F ArrowBody BlockItem Clause Expr ForStart Prop Stmt Block Declarator Function Param TemplateSpan Var → Declarator
open_declarator layer = roll-Declarator (record { at = 0; name = layer.name; annotation = (bare_annotation layer.annotation); value = (bare_value layer.value) })

abbrev pub open_function : Function-F ArrowBody BlockItem Clause Expr ForStart Prop Stmt Block Declarator Function Param TemplateSpan Var → Function
open_function layer = roll-Function (record { at = 0; name = layer.name; variables = (map bare_identifier layer.variables); params = (map bare_param layer.params); result = (bare_annotation layer.result); body = (bare_block layer.body) })

abbrev pub open_param : Param-F ArrowBody BlockItem Clause Expr ForStart Prop Stmt Block Declarator Function Param TemplateSpan Var → Param
open_param layer = roll-Param (record { at = 0; name = layer.name; optional = layer.optional; annotation = (bare_annotation layer.annotation); value = (bare_value layer.value) })

abbrev pub open_span : TemplateSpan-F ArrowBody BlockItem Clause Expr ForStart Prop Stmt Block Declarator Function Param TemplateSpan Var → TemplateSpan
open_span layer = roll-TemplateSpan (record { value = (bare_expr layer.value); text = layer.text })

abbrev pub open_var : Var-F ArrowBody BlockItem Clause Expr ForStart Prop Stmt Block Declarator Function Param TemplateSpan Var → Var
open_var layer = roll-Var (record { kind = layer.kind; declarators = (map bare_declarator layer.declarators) })

-- ---- one layer of a tree, opened

arrow_body_opened : (layer : ArrowBody-F ArrowBody BlockItem Clause Expr ForStart Prop Stmt Block Declarator Function Param TemplateSpan Var) → bare_arrow_body_layer (map-ArrowBody ArrowBody BlockItem Clause Expr ForStart Prop Stmt Block Declarator Function Param TemplateSpan Var ArrowBody BlockItem Clause Expr ForStart Prop Stmt Block Declarator Function Param TemplateSpan Var bare_arrow_body bare_block_item bare_clause bare_expr bare_start bare_prop bare_stmt bare_block bare_declarator bare_function bare_param bare_span bare_var layer) ≡ open_arrow_body layer
arrow_body_opened (ArrowBody-F.«ArrowBody::Block» of) = refl
arrow_body_opened (ArrowBody-F.«ArrowBody::Expr» of) = refl

pub arrow_body_out : (of : ArrowBody) → bare_arrow_body of ≡ open_arrow_body (out-ArrowBody of)
unfolding bare_arrow_body bare_block_item bare_clause bare_expr bare_start bare_prop bare_stmt bare_block bare_declarator bare_function bare_param bare_span bare_var
arrow_body_out of = fold_out-ArrowBody ArrowBody BlockItem Clause Expr ForStart Prop Stmt Block Declarator Function Param TemplateSpan Var bare_arrow_body_layer bare_block_item_layer bare_clause_layer bare_expr_layer bare_start_layer bare_prop_layer bare_stmt_layer bare_block_layer bare_declarator_layer bare_function_layer bare_param_layer bare_span_layer bare_var_layer of ∙ arrow_body_opened (out-ArrowBody of)

block_item_opened : (layer : BlockItem-F ArrowBody BlockItem Clause Expr ForStart Prop Stmt Block Declarator Function Param TemplateSpan Var) → bare_block_item_layer (map-BlockItem ArrowBody BlockItem Clause Expr ForStart Prop Stmt Block Declarator Function Param TemplateSpan Var ArrowBody BlockItem Clause Expr ForStart Prop Stmt Block Declarator Function Param TemplateSpan Var bare_arrow_body bare_block_item bare_clause bare_expr bare_start bare_prop bare_stmt bare_block bare_declarator bare_function bare_param bare_span bare_var layer) ≡ open_block_item layer
block_item_opened (BlockItem-F.«BlockItem::Var» of) = refl
block_item_opened (BlockItem-F.Function of) = refl
block_item_opened (BlockItem-F.Stmt of) = refl

pub block_item_out : (of : BlockItem) → bare_block_item of ≡ open_block_item (out-BlockItem of)
unfolding bare_arrow_body bare_block_item bare_clause bare_expr bare_start bare_prop bare_stmt bare_block bare_declarator bare_function bare_param bare_span bare_var
block_item_out of = fold_out-BlockItem ArrowBody BlockItem Clause Expr ForStart Prop Stmt Block Declarator Function Param TemplateSpan Var bare_arrow_body_layer bare_block_item_layer bare_clause_layer bare_expr_layer bare_start_layer bare_prop_layer bare_stmt_layer bare_block_layer bare_declarator_layer bare_function_layer bare_param_layer bare_span_layer bare_var_layer of ∙ block_item_opened (out-BlockItem of)

clause_opened : (layer : Clause-F ArrowBody BlockItem Clause Expr ForStart Prop Stmt Block Declarator Function Param TemplateSpan Var) → bare_clause_layer (map-Clause ArrowBody BlockItem Clause Expr ForStart Prop Stmt Block Declarator Function Param TemplateSpan Var ArrowBody BlockItem Clause Expr ForStart Prop Stmt Block Declarator Function Param TemplateSpan Var bare_arrow_body bare_block_item bare_clause bare_expr bare_start bare_prop bare_stmt bare_block bare_declarator bare_function bare_param bare_span bare_var layer) ≡ open_clause layer
clause_opened (Clause-F.Case at value items) = refl
clause_opened (Clause-F.Default at items) = refl

pub clause_out : (of : Clause) → bare_clause of ≡ open_clause (out-Clause of)
unfolding bare_arrow_body bare_block_item bare_clause bare_expr bare_start bare_prop bare_stmt bare_block bare_declarator bare_function bare_param bare_span bare_var
clause_out of = fold_out-Clause ArrowBody BlockItem Clause Expr ForStart Prop Stmt Block Declarator Function Param TemplateSpan Var bare_arrow_body_layer bare_block_item_layer bare_clause_layer bare_expr_layer bare_start_layer bare_prop_layer bare_stmt_layer bare_block_layer bare_declarator_layer bare_function_layer bare_param_layer bare_span_layer bare_var_layer of ∙ clause_opened (out-Clause of)

expr_opened : (layer : Expr-F ArrowBody BlockItem Clause Expr ForStart Prop Stmt Block Declarator Function Param TemplateSpan Var) → bare_expr_layer (map-Expr ArrowBody BlockItem Clause Expr ForStart Prop Stmt Block Declarator Function Param TemplateSpan Var ArrowBody BlockItem Clause Expr ForStart Prop Stmt Block Declarator Function Param TemplateSpan Var bare_arrow_body bare_block_item bare_clause bare_expr bare_start bare_prop bare_stmt bare_block bare_declarator bare_function bare_param bare_span bare_var layer) ≡ open_expr layer
expr_opened (Expr-F.Name at name) = refl
expr_opened (Expr-F.This at) = refl
expr_opened (Expr-F.Null at) = refl
expr_opened (Expr-F.Undefined at) = refl
expr_opened (Expr-F.Boolean at value) = refl
expr_opened (Expr-F.Number at spelled) = refl
expr_opened (Expr-F.String at spelled) = refl
expr_opened (Expr-F.Template at head spans) = refl
expr_opened (Expr-F.Parens at inner) = refl
expr_opened (Expr-F.Array at elements) = refl
expr_opened (Expr-F.Object at props) = refl
expr_opened (Expr-F.New at class arguments) = refl
expr_opened (Expr-F.Member at base member) = refl
expr_opened (Expr-F.Index at base index) = refl
expr_opened (Expr-F.Call at callee type_arguments arguments) = refl
expr_opened (Expr-F.Unary at operator operand) = refl
expr_opened (Expr-F.Update at operator before target) = refl
expr_opened (Expr-F.Binary at left operator right) = refl
expr_opened (Expr-F.As at value shape) = refl
expr_opened (Expr-F.Conditional at condition chosen otherwise) = refl
expr_opened (Expr-F.Assign at target operator value) = refl
expr_opened (Expr-F.Arrow at params result of) = refl

pub expr_out : (of : Expr) → bare_expr of ≡ open_expr (out-Expr of)
unfolding bare_arrow_body bare_block_item bare_clause bare_expr bare_start bare_prop bare_stmt bare_block bare_declarator bare_function bare_param bare_span bare_var
expr_out of = fold_out-Expr ArrowBody BlockItem Clause Expr ForStart Prop Stmt Block Declarator Function Param TemplateSpan Var bare_arrow_body_layer bare_block_item_layer bare_clause_layer bare_expr_layer bare_start_layer bare_prop_layer bare_stmt_layer bare_block_layer bare_declarator_layer bare_function_layer bare_param_layer bare_span_layer bare_var_layer of ∙ expr_opened (out-Expr of)

start_opened : (layer : ForStart-F ArrowBody BlockItem Clause Expr ForStart Prop Stmt Block Declarator Function Param TemplateSpan Var) → bare_start_layer (map-ForStart ArrowBody BlockItem Clause Expr ForStart Prop Stmt Block Declarator Function Param TemplateSpan Var ArrowBody BlockItem Clause Expr ForStart Prop Stmt Block Declarator Function Param TemplateSpan Var bare_arrow_body bare_block_item bare_clause bare_expr bare_start bare_prop bare_stmt bare_block bare_declarator bare_function bare_param bare_span bare_var layer) ≡ open_start layer
start_opened (ForStart-F.«ForStart::Var» of) = refl
start_opened (ForStart-F.«ForStart::Expr» of) = refl
start_opened ForStart-F.Nothing = refl

pub start_out : (of : ForStart) → bare_start of ≡ open_start (out-ForStart of)
unfolding bare_arrow_body bare_block_item bare_clause bare_expr bare_start bare_prop bare_stmt bare_block bare_declarator bare_function bare_param bare_span bare_var
start_out of = fold_out-ForStart ArrowBody BlockItem Clause Expr ForStart Prop Stmt Block Declarator Function Param TemplateSpan Var bare_arrow_body_layer bare_block_item_layer bare_clause_layer bare_expr_layer bare_start_layer bare_prop_layer bare_stmt_layer bare_block_layer bare_declarator_layer bare_function_layer bare_param_layer bare_span_layer bare_var_layer of ∙ start_opened (out-ForStart of)

prop_opened : (layer : Prop-F ArrowBody BlockItem Clause Expr ForStart Prop Stmt Block Declarator Function Param TemplateSpan Var) → bare_prop_layer (map-Prop ArrowBody BlockItem Clause Expr ForStart Prop Stmt Block Declarator Function Param TemplateSpan Var ArrowBody BlockItem Clause Expr ForStart Prop Stmt Block Declarator Function Param TemplateSpan Var bare_arrow_body bare_block_item bare_clause bare_expr bare_start bare_prop bare_stmt bare_block bare_declarator bare_function bare_param bare_span bare_var layer) ≡ open_prop layer
prop_opened (Prop-F.Valued at key value) = refl
prop_opened (Prop-F.Short at name) = refl

pub prop_out : (of : Prop) → bare_prop of ≡ open_prop (out-Prop of)
unfolding bare_arrow_body bare_block_item bare_clause bare_expr bare_start bare_prop bare_stmt bare_block bare_declarator bare_function bare_param bare_span bare_var
prop_out of = fold_out-Prop ArrowBody BlockItem Clause Expr ForStart Prop Stmt Block Declarator Function Param TemplateSpan Var bare_arrow_body_layer bare_block_item_layer bare_clause_layer bare_expr_layer bare_start_layer bare_prop_layer bare_stmt_layer bare_block_layer bare_declarator_layer bare_function_layer bare_param_layer bare_span_layer bare_var_layer of ∙ prop_opened (out-Prop of)

stmt_opened : (layer : Stmt-F ArrowBody BlockItem Clause Expr ForStart Prop Stmt Block Declarator Function Param TemplateSpan Var) → bare_stmt_layer (map-Stmt ArrowBody BlockItem Clause Expr ForStart Prop Stmt Block Declarator Function Param TemplateSpan Var ArrowBody BlockItem Clause Expr ForStart Prop Stmt Block Declarator Function Param TemplateSpan Var bare_arrow_body bare_block_item bare_clause bare_expr bare_start bare_prop bare_stmt bare_block bare_declarator bare_function bare_param bare_span bare_var layer) ≡ open_stmt layer
stmt_opened (Stmt-F.«Stmt::Block» of) = refl
stmt_opened (Stmt-F.If at condition chosen None) = refl
stmt_opened (Stmt-F.If at condition chosen (Some otherwise_part)) = refl
stmt_opened (Stmt-F.While at condition of) = refl
stmt_opened (Stmt-F.Do at of condition) = refl
stmt_opened (Stmt-F.For at first None None of) = refl
stmt_opened (Stmt-F.For at first None (Some step_part) of) = refl
stmt_opened (Stmt-F.For at first (Some condition_part) None of) = refl
stmt_opened (Stmt-F.For at first (Some condition_part) (Some step_part) of) = refl
stmt_opened (Stmt-F.ForOf at kind element subject of) = refl
stmt_opened (Stmt-F.Return at None) = refl
stmt_opened (Stmt-F.Return at (Some value_part)) = refl
stmt_opened (Stmt-F.Break at) = refl
stmt_opened (Stmt-F.Continue at) = refl
stmt_opened (Stmt-F.Throw at value) = refl
stmt_opened (Stmt-F.Switch at subject clauses) = refl
stmt_opened (Stmt-F.«Stmt::Expr» at value) = refl
stmt_opened (Stmt-F.Empty at) = refl

pub stmt_out : (of : Stmt) → bare_stmt of ≡ open_stmt (out-Stmt of)
unfolding bare_arrow_body bare_block_item bare_clause bare_expr bare_start bare_prop bare_stmt bare_block bare_declarator bare_function bare_param bare_span bare_var
stmt_out of = fold_out-Stmt ArrowBody BlockItem Clause Expr ForStart Prop Stmt Block Declarator Function Param TemplateSpan Var bare_arrow_body_layer bare_block_item_layer bare_clause_layer bare_expr_layer bare_start_layer bare_prop_layer bare_stmt_layer bare_block_layer bare_declarator_layer bare_function_layer bare_param_layer bare_span_layer bare_var_layer of ∙ stmt_opened (out-Stmt of)

block_opened : (layer : Block-F ArrowBody BlockItem Clause Expr ForStart Prop Stmt Block Declarator Function Param TemplateSpan Var) → bare_block_layer (map-Block ArrowBody BlockItem Clause Expr ForStart Prop Stmt Block Declarator Function Param TemplateSpan Var ArrowBody BlockItem Clause Expr ForStart Prop Stmt Block Declarator Function Param TemplateSpan Var bare_arrow_body bare_block_item bare_clause bare_expr bare_start bare_prop bare_stmt bare_block bare_declarator bare_function bare_param bare_span bare_var layer) ≡ open_block layer
block_opened layer = refl

pub block_out : (of : Block) → bare_block of ≡ open_block (out-Block of)
unfolding bare_arrow_body bare_block_item bare_clause bare_expr bare_start bare_prop bare_stmt bare_block bare_declarator bare_function bare_param bare_span bare_var
block_out of = fold_out-Block ArrowBody BlockItem Clause Expr ForStart Prop Stmt Block Declarator Function Param TemplateSpan Var bare_arrow_body_layer bare_block_item_layer bare_clause_layer bare_expr_layer bare_start_layer bare_prop_layer bare_stmt_layer bare_block_layer bare_declarator_layer bare_function_layer bare_param_layer bare_span_layer bare_var_layer of ∙ block_opened (out-Block of)

declarator_valued : (at : ℕ) (name : List ℕ) (annotation : Option TypeExpr) (value : Option Expr) → bare_declarator_layer (map-Declarator ArrowBody BlockItem Clause Expr ForStart Prop Stmt Block Declarator Function Param TemplateSpan Var ArrowBody BlockItem Clause Expr ForStart Prop Stmt Block Declarator Function Param TemplateSpan Var bare_arrow_body bare_block_item bare_clause bare_expr bare_start bare_prop bare_stmt bare_block bare_declarator bare_function bare_param bare_span bare_var (record { at = at; name = name; annotation = annotation; value = value })) ≡ open_declarator (record { at = at; name = name; annotation = annotation; value = value })
declarator_valued at name annotation None = refl
declarator_valued at name annotation (Some value_part) = refl

declarator_opened : (layer : Declarator-F ArrowBody BlockItem Clause Expr ForStart Prop Stmt Block Declarator Function Param TemplateSpan Var) → bare_declarator_layer (map-Declarator ArrowBody BlockItem Clause Expr ForStart Prop Stmt Block Declarator Function Param TemplateSpan Var ArrowBody BlockItem Clause Expr ForStart Prop Stmt Block Declarator Function Param TemplateSpan Var bare_arrow_body bare_block_item bare_clause bare_expr bare_start bare_prop bare_stmt bare_block bare_declarator bare_function bare_param bare_span bare_var layer) ≡ open_declarator layer
declarator_opened layer = declarator_valued layer.at layer.name layer.annotation layer.value

pub declarator_out : (of : Declarator) → bare_declarator of ≡ open_declarator (out-Declarator of)
unfolding bare_arrow_body bare_block_item bare_clause bare_expr bare_start bare_prop bare_stmt bare_block bare_declarator bare_function bare_param bare_span bare_var
declarator_out of = fold_out-Declarator ArrowBody BlockItem Clause Expr ForStart Prop Stmt Block Declarator Function Param TemplateSpan Var bare_arrow_body_layer bare_block_item_layer bare_clause_layer bare_expr_layer bare_start_layer bare_prop_layer bare_stmt_layer bare_block_layer bare_declarator_layer bare_function_layer bare_param_layer bare_span_layer bare_var_layer of ∙ declarator_opened (out-Declarator of)

function_opened : (layer : Function-F ArrowBody BlockItem Clause Expr ForStart Prop Stmt Block Declarator Function Param TemplateSpan Var) → bare_function_layer (map-Function ArrowBody BlockItem Clause Expr ForStart Prop Stmt Block Declarator Function Param TemplateSpan Var ArrowBody BlockItem Clause Expr ForStart Prop Stmt Block Declarator Function Param TemplateSpan Var bare_arrow_body bare_block_item bare_clause bare_expr bare_start bare_prop bare_stmt bare_block bare_declarator bare_function bare_param bare_span bare_var layer) ≡ open_function layer
function_opened layer = refl

pub function_out : (of : Function) → bare_function of ≡ open_function (out-Function of)
unfolding bare_arrow_body bare_block_item bare_clause bare_expr bare_start bare_prop bare_stmt bare_block bare_declarator bare_function bare_param bare_span bare_var
function_out of = fold_out-Function ArrowBody BlockItem Clause Expr ForStart Prop Stmt Block Declarator Function Param TemplateSpan Var bare_arrow_body_layer bare_block_item_layer bare_clause_layer bare_expr_layer bare_start_layer bare_prop_layer bare_stmt_layer bare_block_layer bare_declarator_layer bare_function_layer bare_param_layer bare_span_layer bare_var_layer of ∙ function_opened (out-Function of)

param_valued : (at : ℕ) (name : List ℕ) (optional : Bool) (annotation : Option TypeExpr) (value : Option Expr) → bare_param_layer (map-Param ArrowBody BlockItem Clause Expr ForStart Prop Stmt Block Declarator Function Param TemplateSpan Var ArrowBody BlockItem Clause Expr ForStart Prop Stmt Block Declarator Function Param TemplateSpan Var bare_arrow_body bare_block_item bare_clause bare_expr bare_start bare_prop bare_stmt bare_block bare_declarator bare_function bare_param bare_span bare_var (record { at = at; name = name; optional = optional; annotation = annotation; value = value })) ≡ open_param (record { at = at; name = name; optional = optional; annotation = annotation; value = value })
param_valued at name optional annotation None = refl
param_valued at name optional annotation (Some value_part) = refl

param_opened : (layer : Param-F ArrowBody BlockItem Clause Expr ForStart Prop Stmt Block Declarator Function Param TemplateSpan Var) → bare_param_layer (map-Param ArrowBody BlockItem Clause Expr ForStart Prop Stmt Block Declarator Function Param TemplateSpan Var ArrowBody BlockItem Clause Expr ForStart Prop Stmt Block Declarator Function Param TemplateSpan Var bare_arrow_body bare_block_item bare_clause bare_expr bare_start bare_prop bare_stmt bare_block bare_declarator bare_function bare_param bare_span bare_var layer) ≡ open_param layer
param_opened layer = param_valued layer.at layer.name layer.optional layer.annotation layer.value

pub param_out : (of : Param) → bare_param of ≡ open_param (out-Param of)
unfolding bare_arrow_body bare_block_item bare_clause bare_expr bare_start bare_prop bare_stmt bare_block bare_declarator bare_function bare_param bare_span bare_var
param_out of = fold_out-Param ArrowBody BlockItem Clause Expr ForStart Prop Stmt Block Declarator Function Param TemplateSpan Var bare_arrow_body_layer bare_block_item_layer bare_clause_layer bare_expr_layer bare_start_layer bare_prop_layer bare_stmt_layer bare_block_layer bare_declarator_layer bare_function_layer bare_param_layer bare_span_layer bare_var_layer of ∙ param_opened (out-Param of)

span_opened : (layer : TemplateSpan-F ArrowBody BlockItem Clause Expr ForStart Prop Stmt Block Declarator Function Param TemplateSpan Var) → bare_span_layer (map-TemplateSpan ArrowBody BlockItem Clause Expr ForStart Prop Stmt Block Declarator Function Param TemplateSpan Var ArrowBody BlockItem Clause Expr ForStart Prop Stmt Block Declarator Function Param TemplateSpan Var bare_arrow_body bare_block_item bare_clause bare_expr bare_start bare_prop bare_stmt bare_block bare_declarator bare_function bare_param bare_span bare_var layer) ≡ open_span layer
span_opened layer = refl

pub span_out : (of : TemplateSpan) → bare_span of ≡ open_span (out-TemplateSpan of)
unfolding bare_arrow_body bare_block_item bare_clause bare_expr bare_start bare_prop bare_stmt bare_block bare_declarator bare_function bare_param bare_span bare_var
span_out of = fold_out-TemplateSpan ArrowBody BlockItem Clause Expr ForStart Prop Stmt Block Declarator Function Param TemplateSpan Var bare_arrow_body_layer bare_block_item_layer bare_clause_layer bare_expr_layer bare_start_layer bare_prop_layer bare_stmt_layer bare_block_layer bare_declarator_layer bare_function_layer bare_param_layer bare_span_layer bare_var_layer of ∙ span_opened (out-TemplateSpan of)

var_opened : (layer : Var-F ArrowBody BlockItem Clause Expr ForStart Prop Stmt Block Declarator Function Param TemplateSpan Var) → bare_var_layer (map-Var ArrowBody BlockItem Clause Expr ForStart Prop Stmt Block Declarator Function Param TemplateSpan Var ArrowBody BlockItem Clause Expr ForStart Prop Stmt Block Declarator Function Param TemplateSpan Var bare_arrow_body bare_block_item bare_clause bare_expr bare_start bare_prop bare_stmt bare_block bare_declarator bare_function bare_param bare_span bare_var layer) ≡ open_var layer
var_opened layer = refl

pub var_out : (of : Var) → bare_var of ≡ open_var (out-Var of)
unfolding bare_arrow_body bare_block_item bare_clause bare_expr bare_start bare_prop bare_stmt bare_block bare_declarator bare_function bare_param bare_span bare_var
var_out of = fold_out-Var ArrowBody BlockItem Clause Expr ForStart Prop Stmt Block Declarator Function Param TemplateSpan Var bare_arrow_body_layer bare_block_item_layer bare_clause_layer bare_expr_layer bare_start_layer bare_prop_layer bare_stmt_layer bare_block_layer bare_declarator_layer bare_function_layer bare_param_layer bare_span_layer bare_var_layer of ∙ var_opened (out-Var of)

-- ---- each form of a tree

pub block_arrow_body : (of : Block) → bare_arrow_body (arrow_body.Block of) ≡ arrow_body.Block (bare_block of)
block_arrow_body of = arrow_body_out _ ∙ ap open_arrow_body (arrow_body.outs-Block of)

pub expr_arrow_body : (of : Expr) → bare_arrow_body (arrow_body.Expr of) ≡ arrow_body.Expr (bare_expr of)
expr_arrow_body of = arrow_body_out _ ∙ ap open_arrow_body (arrow_body.outs-Expr of)

pub var_block_item : (of : Var) → bare_block_item (block_item.Var of) ≡ block_item.Var (bare_var of)
var_block_item of = block_item_out _ ∙ ap open_block_item (block_item.outs-Var of)

pub function_block_item : (of : Function) → bare_block_item (block_item.Function of) ≡ block_item.Function (bare_function of)
function_block_item of = block_item_out _ ∙ ap open_block_item (block_item.outs-Function of)

pub stmt_block_item : (of : Stmt) → bare_block_item (block_item.Stmt of) ≡ block_item.Stmt (bare_stmt of)
stmt_block_item of = block_item_out _ ∙ ap open_block_item (block_item.outs-Stmt of)

pub case_clause : (at : ℕ) (value : Expr) (items : List BlockItem) → bare_clause (clause.Case at value items) ≡ clause.Case 0 (bare_expr value) (map bare_block_item items)
case_clause at value items = clause_out _ ∙ ap open_clause (clause.outs-Case at value items)

pub default_clause : (at : ℕ) (items : List BlockItem) → bare_clause (clause.Default at items) ≡ clause.Default 0 (map bare_block_item items)
default_clause at items = clause_out _ ∙ ap open_clause (clause.outs-Default at items)

pub name_expr : (at : ℕ) (name : List ℕ) → bare_expr (expr.Name at name) ≡ expr.Name 0 name
name_expr at name = expr_out _ ∙ ap open_expr (expr.outs-Name at name)

pub this_expr : (at : ℕ) → bare_expr (expr.This at) ≡ expr.This 0
this_expr at = expr_out _ ∙ ap open_expr (expr.outs-This at)

pub null_expr : (at : ℕ) → bare_expr (expr.Null at) ≡ expr.Null 0
null_expr at = expr_out _ ∙ ap open_expr (expr.outs-Null at)

pub undefined_expr : (at : ℕ) → bare_expr (expr.Undefined at) ≡ expr.Undefined 0
undefined_expr at = expr_out _ ∙ ap open_expr (expr.outs-Undefined at)

pub boolean_expr : (at : ℕ) (value : Bool) → bare_expr (expr.Boolean at value) ≡ expr.Boolean 0 value
boolean_expr at value = expr_out _ ∙ ap open_expr (expr.outs-Boolean at value)

pub number_expr : (at : ℕ) (spelled : List ℕ) → bare_expr (expr.Number at spelled) ≡ expr.Number 0 spelled
number_expr at spelled = expr_out _ ∙ ap open_expr (expr.outs-Number at spelled)

pub string_expr : (at : ℕ) (spelled : List ℕ) → bare_expr (expr.String at spelled) ≡ expr.String 0 spelled
string_expr at spelled = expr_out _ ∙ ap open_expr (expr.outs-String at spelled)

pub template_expr : (at : ℕ) (head : List ℕ) (spans : List TemplateSpan) → bare_expr (expr.Template at head spans) ≡ expr.Template 0 head (map bare_span spans)
template_expr at head spans = expr_out _ ∙ ap open_expr (expr.outs-Template at head spans)

pub parens_expr : (at : ℕ) (inner : Expr) → bare_expr (expr.Parens at inner) ≡ expr.Parens 0 (bare_expr inner)
parens_expr at inner = expr_out _ ∙ ap open_expr (expr.outs-Parens at inner)

pub array_expr : (at : ℕ) (elements : List Expr) → bare_expr (expr.Array at elements) ≡ expr.Array 0 (map bare_expr elements)
array_expr at elements = expr_out _ ∙ ap open_expr (expr.outs-Array at elements)

pub object_expr : (at : ℕ) (props : List Prop) → bare_expr (expr.Object at props) ≡ expr.Object 0 (map bare_prop props)
object_expr at props = expr_out _ ∙ ap open_expr (expr.outs-Object at props)

pub new_expr : (at : ℕ) (class : Identifier) (arguments : List Expr) → bare_expr (expr.New at class arguments) ≡ expr.New 0 (bare_identifier class) (map bare_expr arguments)
new_expr at class arguments = expr_out _ ∙ ap open_expr (expr.outs-New at class arguments)

pub member_expr : (at : ℕ) (base : Expr) (member : List ℕ) → bare_expr (expr.Member at base member) ≡ expr.Member 0 (bare_expr base) member
member_expr at base member = expr_out _ ∙ ap open_expr (expr.outs-Member at base member)

pub index_expr : (at : ℕ) (base : Expr) (index : Expr) → bare_expr (expr.Index at base index) ≡ expr.Index 0 (bare_expr base) (bare_expr index)
index_expr at base index = expr_out _ ∙ ap open_expr (expr.outs-Index at base index)

pub call_expr : (at : ℕ) (callee : Expr) (type_arguments : List TypeExpr) (arguments : List Expr) → bare_expr (expr.Call at callee type_arguments arguments) ≡ expr.Call 0 (bare_expr callee) (map bare_type type_arguments) (map bare_expr arguments)
call_expr at callee type_arguments arguments = expr_out _ ∙ ap open_expr (expr.outs-Call at callee type_arguments arguments)

pub unary_expr : (at : ℕ) (operator : UnaryOperator) (operand : Expr) → bare_expr (expr.Unary at operator operand) ≡ expr.Unary 0 operator (bare_expr operand)
unary_expr at operator operand = expr_out _ ∙ ap open_expr (expr.outs-Unary at operator operand)

pub update_expr : (at : ℕ) (operator : UpdateOperator) (before : Bool) (target : Expr) → bare_expr (expr.Update at operator before target) ≡ expr.Update 0 operator before (bare_expr target)
update_expr at operator before target = expr_out _ ∙ ap open_expr (expr.outs-Update at operator before target)

pub update_before_expr : (at : ℕ) (operator : UpdateOperator) (target : Expr) → bare_expr (expr.Update at operator true target) ≡ expr.Update 0 operator true (bare_expr target)
update_before_expr at operator target = expr_out _ ∙ ap open_expr (expr.outs-Update at operator true target)

pub update_behind_expr : (at : ℕ) (operator : UpdateOperator) (target : Expr) → bare_expr (expr.Update at operator false target) ≡ expr.Update 0 operator false (bare_expr target)
update_behind_expr at operator target = expr_out _ ∙ ap open_expr (expr.outs-Update at operator false target)

pub binary_expr : (at : ℕ) (left : Expr) (operator : BinaryOperator) (right : Expr) → bare_expr (expr.Binary at left operator right) ≡ expr.Binary 0 (bare_expr left) operator (bare_expr right)
binary_expr at left operator right = expr_out _ ∙ ap open_expr (expr.outs-Binary at left operator right)

pub as_expr : (at : ℕ) (value : Expr) (shape : TypeExpr) → bare_expr (expr.As at value shape) ≡ expr.As 0 (bare_expr value) (bare_type shape)
as_expr at value shape = expr_out _ ∙ ap open_expr (expr.outs-As at value shape)

pub conditional_expr : (at : ℕ) (condition : Expr) (chosen : Expr) (otherwise : Expr) → bare_expr (expr.Conditional at condition chosen otherwise) ≡ expr.Conditional 0 (bare_expr condition) (bare_expr chosen) (bare_expr otherwise)
conditional_expr at condition chosen otherwise = expr_out _ ∙ ap open_expr (expr.outs-Conditional at condition chosen otherwise)

pub assign_expr : (at : ℕ) (target : Expr) (operator : AssignOperator) (value : Expr) → bare_expr (expr.Assign at target operator value) ≡ expr.Assign 0 (bare_expr target) operator (bare_expr value)
assign_expr at target operator value = expr_out _ ∙ ap open_expr (expr.outs-Assign at target operator value)

pub arrow_expr : (at : ℕ) (params : List Param) (result : Option TypeExpr) (of : ArrowBody) → bare_expr (expr.Arrow at params result of) ≡ expr.Arrow 0 (map bare_param params) (bare_annotation result) (bare_arrow_body of)
arrow_expr at params result of = expr_out _ ∙ ap open_expr (expr.outs-Arrow at params result of)

pub var_start : (of : Var) → bare_start (start.Var of) ≡ start.Var (bare_var of)
var_start of = start_out _ ∙ ap open_start (start.outs-Var of)

pub expr_start : (of : Expr) → bare_start (start.Expr of) ≡ start.Expr (bare_expr of)
expr_start of = start_out _ ∙ ap open_start (start.outs-Expr of)

pub nothing_start : bare_start start.Nothing ≡ start.Nothing
nothing_start = start_out _ ∙ ap open_start start.outs-Nothing

pub valued_prop : (at : ℕ) (key : Key) (value : Expr) → bare_prop (prop.Valued at key value) ≡ prop.Valued 0 key (bare_expr value)
valued_prop at key value = prop_out _ ∙ ap open_prop (prop.outs-Valued at key value)

pub short_prop : (at : ℕ) (name : List ℕ) → bare_prop (prop.Short at name) ≡ prop.Short 0 name
short_prop at name = prop_out _ ∙ ap open_prop (prop.outs-Short at name)

pub block_stmt : (of : Block) → bare_stmt (stmt.Block of) ≡ stmt.Block (bare_block of)
block_stmt of = stmt_out _ ∙ ap open_stmt (stmt.outs-Block of)

pub if_stmt : (at : ℕ) (condition : Expr) (chosen : Stmt) (otherwise : Option Stmt) → bare_stmt (stmt.If at condition chosen otherwise) ≡ stmt.If 0 (bare_expr condition) (bare_stmt chosen) (bare_otherwise otherwise)
if_stmt at condition chosen otherwise = stmt_out _ ∙ ap open_stmt (stmt.outs-If at condition chosen otherwise)

pub if_stmt_none : (at : ℕ) (condition : Expr) (chosen : Stmt) → bare_stmt (stmt.If at condition chosen None) ≡ stmt.If 0 (bare_expr condition) (bare_stmt chosen) None
if_stmt_none at condition chosen = stmt_out _ ∙ ap open_stmt (stmt.outs-If at condition chosen None)

pub if_stmt_some : (at : ℕ) (condition : Expr) (chosen : Stmt) (otherwise_part : Stmt) → bare_stmt (stmt.If at condition chosen (Some otherwise_part)) ≡ stmt.If 0 (bare_expr condition) (bare_stmt chosen) (Some (bare_stmt otherwise_part))
if_stmt_some at condition chosen otherwise_part = stmt_out _ ∙ ap open_stmt (stmt.outs-If at condition chosen (Some otherwise_part))

pub while_stmt : (at : ℕ) (condition : Expr) (of : Stmt) → bare_stmt (stmt.While at condition of) ≡ stmt.While 0 (bare_expr condition) (bare_stmt of)
while_stmt at condition of = stmt_out _ ∙ ap open_stmt (stmt.outs-While at condition of)

pub do_stmt : (at : ℕ) (of : Stmt) (condition : Expr) → bare_stmt (stmt.Do at of condition) ≡ stmt.Do 0 (bare_stmt of) (bare_expr condition)
do_stmt at of condition = stmt_out _ ∙ ap open_stmt (stmt.outs-Do at of condition)

pub for_stmt : (at : ℕ) (first : ForStart) (condition : Option Expr) (step : Option Expr) (of : Stmt) → bare_stmt (stmt.For at first condition step of) ≡ stmt.For 0 (bare_start first) (bare_value condition) (bare_value step) (bare_stmt of)
for_stmt at first condition step of = stmt_out _ ∙ ap open_stmt (stmt.outs-For at first condition step of)

pub for_stmt_none_none : (at : ℕ) (first : ForStart) (of : Stmt) → bare_stmt (stmt.For at first None None of) ≡ stmt.For 0 (bare_start first) None None (bare_stmt of)
for_stmt_none_none at first of = stmt_out _ ∙ ap open_stmt (stmt.outs-For at first None None of)

pub for_stmt_none_some : (at : ℕ) (first : ForStart) (step_part : Expr) (of : Stmt) → bare_stmt (stmt.For at first None (Some step_part) of) ≡ stmt.For 0 (bare_start first) None (Some (bare_expr step_part)) (bare_stmt of)
for_stmt_none_some at first step_part of = stmt_out _ ∙ ap open_stmt (stmt.outs-For at first None (Some step_part) of)

pub for_stmt_some_none : (at : ℕ) (first : ForStart) (condition_part : Expr) (of : Stmt) → bare_stmt (stmt.For at first (Some condition_part) None of) ≡ stmt.For 0 (bare_start first) (Some (bare_expr condition_part)) None (bare_stmt of)
for_stmt_some_none at first condition_part of = stmt_out _ ∙ ap open_stmt (stmt.outs-For at first (Some condition_part) None of)

pub for_stmt_some_some : (at : ℕ) (first : ForStart) (condition_part : Expr) (step_part : Expr) (of : Stmt) → bare_stmt (stmt.For at first (Some condition_part) (Some step_part) of) ≡ stmt.For 0 (bare_start first) (Some (bare_expr condition_part)) (Some (bare_expr step_part)) (bare_stmt of)
for_stmt_some_some at first condition_part step_part of = stmt_out _ ∙ ap open_stmt (stmt.outs-For at first (Some condition_part) (Some step_part) of)

pub for_of_stmt : (at : ℕ) (kind : VarKind) (element : Identifier) (subject : Expr) (of : Stmt) → bare_stmt (stmt.ForOf at kind element subject of) ≡ stmt.ForOf 0 kind (bare_identifier element) (bare_expr subject) (bare_stmt of)
for_of_stmt at kind element subject of = stmt_out _ ∙ ap open_stmt (stmt.outs-ForOf at kind element subject of)

pub return_stmt : (at : ℕ) (value : Option Expr) → bare_stmt (stmt.Return at value) ≡ stmt.Return 0 (bare_value value)
return_stmt at value = stmt_out _ ∙ ap open_stmt (stmt.outs-Return at value)

pub return_stmt_none : (at : ℕ) → bare_stmt (stmt.Return at None) ≡ stmt.Return 0 None
return_stmt_none at = stmt_out _ ∙ ap open_stmt (stmt.outs-Return at None)

pub return_stmt_some : (at : ℕ) (value_part : Expr) → bare_stmt (stmt.Return at (Some value_part)) ≡ stmt.Return 0 (Some (bare_expr value_part))
return_stmt_some at value_part = stmt_out _ ∙ ap open_stmt (stmt.outs-Return at (Some value_part))

pub break_stmt : (at : ℕ) → bare_stmt (stmt.Break at) ≡ stmt.Break 0
break_stmt at = stmt_out _ ∙ ap open_stmt (stmt.outs-Break at)

pub continue_stmt : (at : ℕ) → bare_stmt (stmt.Continue at) ≡ stmt.Continue 0
continue_stmt at = stmt_out _ ∙ ap open_stmt (stmt.outs-Continue at)

pub throw_stmt : (at : ℕ) (value : Expr) → bare_stmt (stmt.Throw at value) ≡ stmt.Throw 0 (bare_expr value)
throw_stmt at value = stmt_out _ ∙ ap open_stmt (stmt.outs-Throw at value)

pub switch_stmt : (at : ℕ) (subject : Expr) (clauses : List Clause) → bare_stmt (stmt.Switch at subject clauses) ≡ stmt.Switch 0 (bare_expr subject) (map bare_clause clauses)
switch_stmt at subject clauses = stmt_out _ ∙ ap open_stmt (stmt.outs-Switch at subject clauses)

pub expr_stmt : (at : ℕ) (value : Expr) → bare_stmt (stmt.Expr at value) ≡ stmt.Expr 0 (bare_expr value)
expr_stmt at value = stmt_out _ ∙ ap open_stmt (stmt.outs-Expr at value)

pub empty_stmt : (at : ℕ) → bare_stmt (stmt.Empty at) ≡ stmt.Empty 0
empty_stmt at = stmt_out _ ∙ ap open_stmt (stmt.outs-Empty at)

pub block_rolled : (layer : Block-F ArrowBody BlockItem Clause Expr ForStart Prop Stmt Block Declarator Function Param TemplateSpan Var) → bare_block (roll-Block layer) ≡ open_block layer
unfolding bare_arrow_body bare_block_item bare_clause bare_expr bare_start bare_prop bare_stmt bare_block bare_declarator bare_function bare_param bare_span bare_var
block_rolled layer = fold-roll-Block ArrowBody BlockItem Clause Expr ForStart Prop Stmt Block Declarator Function Param TemplateSpan Var bare_arrow_body_layer bare_block_item_layer bare_clause_layer bare_expr_layer bare_start_layer bare_prop_layer bare_stmt_layer bare_block_layer bare_declarator_layer bare_function_layer bare_param_layer bare_span_layer bare_var_layer layer ∙ block_opened layer

pub declarator_rolled : (layer : Declarator-F ArrowBody BlockItem Clause Expr ForStart Prop Stmt Block Declarator Function Param TemplateSpan Var) → bare_declarator (roll-Declarator layer) ≡ open_declarator layer
unfolding bare_arrow_body bare_block_item bare_clause bare_expr bare_start bare_prop bare_stmt bare_block bare_declarator bare_function bare_param bare_span bare_var
declarator_rolled layer = fold-roll-Declarator ArrowBody BlockItem Clause Expr ForStart Prop Stmt Block Declarator Function Param TemplateSpan Var bare_arrow_body_layer bare_block_item_layer bare_clause_layer bare_expr_layer bare_start_layer bare_prop_layer bare_stmt_layer bare_block_layer bare_declarator_layer bare_function_layer bare_param_layer bare_span_layer bare_var_layer layer ∙ declarator_opened layer

pub function_rolled : (layer : Function-F ArrowBody BlockItem Clause Expr ForStart Prop Stmt Block Declarator Function Param TemplateSpan Var) → bare_function (roll-Function layer) ≡ open_function layer
unfolding bare_arrow_body bare_block_item bare_clause bare_expr bare_start bare_prop bare_stmt bare_block bare_declarator bare_function bare_param bare_span bare_var
function_rolled layer = fold-roll-Function ArrowBody BlockItem Clause Expr ForStart Prop Stmt Block Declarator Function Param TemplateSpan Var bare_arrow_body_layer bare_block_item_layer bare_clause_layer bare_expr_layer bare_start_layer bare_prop_layer bare_stmt_layer bare_block_layer bare_declarator_layer bare_function_layer bare_param_layer bare_span_layer bare_var_layer layer ∙ function_opened layer

pub param_rolled : (layer : Param-F ArrowBody BlockItem Clause Expr ForStart Prop Stmt Block Declarator Function Param TemplateSpan Var) → bare_param (roll-Param layer) ≡ open_param layer
unfolding bare_arrow_body bare_block_item bare_clause bare_expr bare_start bare_prop bare_stmt bare_block bare_declarator bare_function bare_param bare_span bare_var
param_rolled layer = fold-roll-Param ArrowBody BlockItem Clause Expr ForStart Prop Stmt Block Declarator Function Param TemplateSpan Var bare_arrow_body_layer bare_block_item_layer bare_clause_layer bare_expr_layer bare_start_layer bare_prop_layer bare_stmt_layer bare_block_layer bare_declarator_layer bare_function_layer bare_param_layer bare_span_layer bare_var_layer layer ∙ param_opened layer

pub span_rolled : (layer : TemplateSpan-F ArrowBody BlockItem Clause Expr ForStart Prop Stmt Block Declarator Function Param TemplateSpan Var) → bare_span (roll-TemplateSpan layer) ≡ open_span layer
unfolding bare_arrow_body bare_block_item bare_clause bare_expr bare_start bare_prop bare_stmt bare_block bare_declarator bare_function bare_param bare_span bare_var
span_rolled layer = fold-roll-TemplateSpan ArrowBody BlockItem Clause Expr ForStart Prop Stmt Block Declarator Function Param TemplateSpan Var bare_arrow_body_layer bare_block_item_layer bare_clause_layer bare_expr_layer bare_start_layer bare_prop_layer bare_stmt_layer bare_block_layer bare_declarator_layer bare_function_layer bare_param_layer bare_span_layer bare_var_layer layer ∙ span_opened layer

pub var_rolled : (layer : Var-F ArrowBody BlockItem Clause Expr ForStart Prop Stmt Block Declarator Function Param TemplateSpan Var) → bare_var (roll-Var layer) ≡ open_var layer
unfolding bare_arrow_body bare_block_item bare_clause bare_expr bare_start bare_prop bare_stmt bare_block bare_declarator bare_function bare_param bare_span bare_var
var_rolled layer = fold-roll-Var ArrowBody BlockItem Clause Expr ForStart Prop Stmt Block Declarator Function Param TemplateSpan Var bare_arrow_body_layer bare_block_item_layer bare_clause_layer bare_expr_layer bare_start_layer bare_prop_layer bare_stmt_layer bare_block_layer bare_declarator_layer bare_function_layer bare_param_layer bare_span_layer bare_var_layer layer ∙ var_opened layer

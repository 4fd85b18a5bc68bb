-- The depth of an item: the greatest number, on a way downward, of expression nodes, type nodes, blocks, `if`, `while`, `do`, `for` and
-- `switch`. Each function below says it of one layer of a tree, in which the depth of each part stands in the part's place.
use Rattle.std.specs.Prelude.{ℕ, ◌+◌, ◌-◌, ◌^◌, max, min, List, [], ◌∷◌, map, Option, Some, None}
use Rattle.tb_tree.specs.declared.types.TypeExpr.{TypeExpr, fold-TypeExpr}
use Rattle.tb_tree.specs.declared.types.TypeExpr.TheOpen.{TypeExpr-F, TypeMember-F, TypeParam-F}
use Rattle.tb_tree.specs.declared.types.TypeMember.{TypeMember, fold-TypeMember}
use Rattle.tb_tree.specs.declared.types.TypeParam.{TypeParam, fold-TypeParam}
use Rattle.tb_tree.specs.declared.exprs.ArrowBody.TheOpen.{ArrowBody-F, BlockItem-F, Clause-F, Expr-F, ForStart-F, Prop-F, Stmt-F, Block-F, Declarator-F, Function-F, Param-F, TemplateSpan-F, Var-F}
use Rattle.tb_tree.specs.declared.exprs.ArrowBody.{ArrowBody, fold-ArrowBody}
use Rattle.tb_tree.specs.declared.exprs.BlockItem.{BlockItem, fold-BlockItem}
use Rattle.tb_tree.specs.declared.exprs.Clause.{Clause, fold-Clause}
use Rattle.tb_tree.specs.declared.exprs.Expr.{Expr, fold-Expr}
use Rattle.tb_tree.specs.declared.exprs.ForStart.{ForStart, fold-ForStart}
use Rattle.tb_tree.specs.declared.exprs.Prop.{Prop, fold-Prop}
use Rattle.tb_tree.specs.declared.exprs.Stmt.{Stmt, fold-Stmt}
use Rattle.tb_tree.specs.declared.exprs.Block.{Block, fold-Block}
use Rattle.tb_tree.specs.declared.exprs.Declarator.{Declarator, fold-Declarator}
use Rattle.tb_tree.specs.declared.exprs.Function.{Function, fold-Function}
use Rattle.tb_tree.specs.declared.exprs.Param.{Param, fold-Param}
use Rattle.tb_tree.specs.declared.exprs.TemplateSpan.{TemplateSpan, fold-TemplateSpan}
use Rattle.tb_tree.specs.declared.exprs.Var.{Var, fold-Var}
use Rattle.tb_tree.specs.declared.items.Base.{Base}
use Rattle.tb_tree.specs.declared.items.ClassMember.{ClassMember}
use Rattle.tb_tree.specs.declared.items.ClassMember.TheVariants as class_member
use Rattle.tb_tree.specs.declared.items.ClassDeclaration.{ClassDeclaration}
use Rattle.tb_tree.specs.declared.items.Interface.{Interface}
use Rattle.tb_tree.specs.declared.items.Declaration.{Declaration}
use Rattle.tb_tree.specs.declared.items.Declaration.TheVariants as declaration
use Rattle.tb_tree.specs.declared.items.Item.{Item}
use Rattle.tb_tree.specs.declared.items.Item.TheVariants as item

-- the greatest of some depths
abbrev pub greatest : List ℕ → ℕ
greatest [] = 0
greatest (d ∷ ds) = max d (greatest ds)

-- the depth of a part that may be missing
abbrev pub if_any : Option ℕ → ℕ
if_any None = 0
if_any (Some d) = d

-- ---- types

-- each type is a node
abbrev pub type_layer : TypeExpr-F ℕ ℕ ℕ → ℕ
type_layer (TypeExpr-F.Keyword at keyword) = 1
type_layer (TypeExpr-F.Boolean at value) = 1
type_layer (TypeExpr-F.String at spelled) = 1
type_layer (TypeExpr-F.Integer at minus digits) = 1
type_layer (TypeExpr-F.Written at name arguments) = greatest arguments + 1
type_layer (TypeExpr-F.Array at read_only element) = element + 1
type_layer (TypeExpr-F.Function at params result) = max (greatest params) result + 1
type_layer (TypeExpr-F.Object at members) = greatest members + 1
type_layer (TypeExpr-F.Union at parts) = greatest parts + 1
type_layer (TypeExpr-F.Named path name arguments) = greatest arguments + 1
type_layer (TypeExpr-F.Class path name) = 1
type_layer (TypeExpr-F.Param owner name) = 1
type_layer (TypeExpr-F.Generic path name) = 1

-- parameters and members are none
abbrev pub member_layer : TypeMember-F ℕ ℕ ℕ → ℕ
member_layer (TypeMember-F.Property at read_only key optional shape) = shape
member_layer (TypeMember-F.Method at key optional params result) = max (greatest params) result

abbrev pub type_param_layer : TypeParam-F ℕ ℕ ℕ → ℕ
type_param_layer layer = layer.shape

unfoldable pub type_depth : TypeExpr → ℕ
type_depth = fold-TypeExpr ℕ ℕ ℕ type_layer member_layer type_param_layer

unfoldable pub member_depth : TypeMember → ℕ
member_depth = fold-TypeMember ℕ ℕ ℕ type_layer member_layer type_param_layer

unfoldable pub type_param_depth : TypeParam → ℕ
type_param_depth = fold-TypeParam ℕ ℕ ℕ type_layer member_layer type_param_layer

abbrev pub types_depth : List TypeExpr → ℕ
types_depth all = greatest (map type_depth all)

abbrev pub members_depth : List TypeMember → ℕ
members_depth all = greatest (map member_depth all)

abbrev pub type_params_depth : List TypeParam → ℕ
type_params_depth all = greatest (map type_param_depth all)

-- the depth of a type that may be missing
abbrev pub annotation_depth : Option TypeExpr → ℕ
annotation_depth None = 0
annotation_depth (Some of) = type_depth of

-- ---- expressions and statements

-- what follows `=>`
abbrev pub arrow_body_layer : ArrowBody-F ℕ ℕ ℕ ℕ ℕ ℕ ℕ ℕ ℕ ℕ ℕ ℕ ℕ → ℕ
arrow_body_layer (ArrowBody-F.«ArrowBody::Block» of) = of
arrow_body_layer (ArrowBody-F.«ArrowBody::Expr» of) = of

abbrev pub block_item_layer : BlockItem-F ℕ ℕ ℕ ℕ ℕ ℕ ℕ ℕ ℕ ℕ ℕ ℕ ℕ → ℕ
block_item_layer (BlockItem-F.«BlockItem::Var» of) = of
block_item_layer (BlockItem-F.Function of) = of
block_item_layer (BlockItem-F.Stmt of) = of

abbrev pub clause_layer : Clause-F ℕ ℕ ℕ ℕ ℕ ℕ ℕ ℕ ℕ ℕ ℕ ℕ ℕ → ℕ
clause_layer (Clause-F.Case at value items) = max value (greatest items)
clause_layer (Clause-F.Default at items) = greatest items

-- each expression is a node
abbrev pub expr_layer : Expr-F ℕ ℕ ℕ ℕ ℕ ℕ ℕ ℕ ℕ ℕ ℕ ℕ ℕ → ℕ
expr_layer (Expr-F.Name at name) = 1
expr_layer (Expr-F.This at) = 1
expr_layer (Expr-F.Null at) = 1
expr_layer (Expr-F.Undefined at) = 1
expr_layer (Expr-F.Boolean at value) = 1
expr_layer (Expr-F.Number at spelled) = 1
expr_layer (Expr-F.String at spelled) = 1
expr_layer (Expr-F.Template at head spans) = greatest spans + 1
expr_layer (Expr-F.Parens at inner) = inner + 1
expr_layer (Expr-F.Array at elements) = greatest elements + 1
expr_layer (Expr-F.Object at props) = greatest props + 1
expr_layer (Expr-F.New at class arguments) = greatest arguments + 1
expr_layer (Expr-F.Member at base member) = base + 1
expr_layer (Expr-F.Index at base index) = max base index + 1
expr_layer (Expr-F.Call at callee type_arguments arguments) = max callee (max (types_depth type_arguments) (greatest arguments)) + 1
expr_layer (Expr-F.Unary at operator operand) = operand + 1
expr_layer (Expr-F.Update at operator before target) = target + 1
expr_layer (Expr-F.Binary at left operator right) = max left right + 1
expr_layer (Expr-F.As at value shape) = max value (type_depth shape) + 1
expr_layer (Expr-F.Conditional at condition then otherwise) = max condition (max then otherwise) + 1
expr_layer (Expr-F.Assign at target operator value) = max target value + 1
expr_layer (Expr-F.Arrow at params result of) = max (greatest params) (max (annotation_depth result) of) + 1

abbrev pub start_layer : ForStart-F ℕ ℕ ℕ ℕ ℕ ℕ ℕ ℕ ℕ ℕ ℕ ℕ ℕ → ℕ
start_layer (ForStart-F.«ForStart::Var» of) = of
start_layer (ForStart-F.«ForStart::Expr» of) = of
start_layer ForStart-F.Nothing = 0

abbrev pub prop_layer : Prop-F ℕ ℕ ℕ ℕ ℕ ℕ ℕ ℕ ℕ ℕ ℕ ℕ ℕ → ℕ
prop_layer (Prop-F.Valued at key value) = value
prop_layer (Prop-F.Short at name) = 0

-- of the statements, `if`, `while`, `do`, `for` and `switch` are nodes; a block is one by itself
abbrev pub stmt_layer : Stmt-F ℕ ℕ ℕ ℕ ℕ ℕ ℕ ℕ ℕ ℕ ℕ ℕ ℕ → ℕ
stmt_layer (Stmt-F.«Stmt::Block» of) = of
stmt_layer (Stmt-F.If at condition then otherwise) = max condition (max then (if_any otherwise)) + 1
stmt_layer (Stmt-F.While at condition of) = max condition of + 1
stmt_layer (Stmt-F.Do at of condition) = max of condition + 1
stmt_layer (Stmt-F.For at first condition step of) = max first (max (if_any condition) (max (if_any step) of)) + 1
stmt_layer (Stmt-F.ForOf at kind element subject of) = max subject of + 1
stmt_layer (Stmt-F.Return at value) = if_any value
stmt_layer (Stmt-F.Break at) = 0
stmt_layer (Stmt-F.Continue at) = 0
stmt_layer (Stmt-F.Throw at value) = value
stmt_layer (Stmt-F.Switch at subject clauses) = max subject (greatest clauses) + 1
stmt_layer (Stmt-F.«Stmt::Expr» at value) = value
stmt_layer (Stmt-F.Empty at) = 0

-- each block is a node
abbrev pub block_layer : Block-F ℕ ℕ ℕ ℕ ℕ ℕ ℕ ℕ ℕ ℕ ℕ ℕ ℕ → ℕ
block_layer layer = greatest layer.items + 1

abbrev pub declarator_layer : Declarator-F ℕ ℕ ℕ ℕ ℕ ℕ ℕ ℕ ℕ ℕ ℕ ℕ ℕ → ℕ
declarator_layer layer = max (annotation_depth layer.annotation) (if_any layer.value)

abbrev pub function_layer : Function-F ℕ ℕ ℕ ℕ ℕ ℕ ℕ ℕ ℕ ℕ ℕ ℕ ℕ → ℕ
function_layer layer = max (greatest layer.params) (max (annotation_depth layer.result) layer.body)

abbrev pub param_layer : Param-F ℕ ℕ ℕ ℕ ℕ ℕ ℕ ℕ ℕ ℕ ℕ ℕ ℕ → ℕ
param_layer layer = max (annotation_depth layer.annotation) (if_any layer.value)

abbrev pub span_layer : TemplateSpan-F ℕ ℕ ℕ ℕ ℕ ℕ ℕ ℕ ℕ ℕ ℕ ℕ ℕ → ℕ
span_layer layer = layer.value

abbrev pub var_layer : Var-F ℕ ℕ ℕ ℕ ℕ ℕ ℕ ℕ ℕ ℕ ℕ ℕ ℕ → ℕ
var_layer layer = greatest layer.declarators

unfoldable pub arrow_body_depth : ArrowBody → ℕ
arrow_body_depth = fold-ArrowBody ℕ ℕ ℕ ℕ ℕ ℕ ℕ ℕ ℕ ℕ ℕ ℕ ℕ arrow_body_layer block_item_layer clause_layer expr_layer start_layer prop_layer stmt_layer block_layer declarator_layer function_layer param_layer span_layer var_layer

unfoldable pub block_item_depth : BlockItem → ℕ
block_item_depth = fold-BlockItem ℕ ℕ ℕ ℕ ℕ ℕ ℕ ℕ ℕ ℕ ℕ ℕ ℕ arrow_body_layer block_item_layer clause_layer expr_layer start_layer prop_layer stmt_layer block_layer declarator_layer function_layer param_layer span_layer var_layer

unfoldable pub clause_depth : Clause → ℕ
clause_depth = fold-Clause ℕ ℕ ℕ ℕ ℕ ℕ ℕ ℕ ℕ ℕ ℕ ℕ ℕ arrow_body_layer block_item_layer clause_layer expr_layer start_layer prop_layer stmt_layer block_layer declarator_layer function_layer param_layer span_layer var_layer

unfoldable pub expr_depth : Expr → ℕ
expr_depth = fold-Expr ℕ ℕ ℕ ℕ ℕ ℕ ℕ ℕ ℕ ℕ ℕ ℕ ℕ arrow_body_layer block_item_layer clause_layer expr_layer start_layer prop_layer stmt_layer block_layer declarator_layer function_layer param_layer span_layer var_layer

unfoldable pub start_depth : ForStart → ℕ
start_depth = fold-ForStart ℕ ℕ ℕ ℕ ℕ ℕ ℕ ℕ ℕ ℕ ℕ ℕ ℕ arrow_body_layer block_item_layer clause_layer expr_layer start_layer prop_layer stmt_layer block_layer declarator_layer function_layer param_layer span_layer var_layer

unfoldable pub prop_depth : Prop → ℕ
prop_depth = fold-Prop ℕ ℕ ℕ ℕ ℕ ℕ ℕ ℕ ℕ ℕ ℕ ℕ ℕ arrow_body_layer block_item_layer clause_layer expr_layer start_layer prop_layer stmt_layer block_layer declarator_layer function_layer param_layer span_layer var_layer

unfoldable pub stmt_depth : Stmt → ℕ
stmt_depth = fold-Stmt ℕ ℕ ℕ ℕ ℕ ℕ ℕ ℕ ℕ ℕ ℕ ℕ ℕ arrow_body_layer block_item_layer clause_layer expr_layer start_layer prop_layer stmt_layer block_layer declarator_layer function_layer param_layer span_layer var_layer

unfoldable pub block_depth : Block → ℕ
block_depth = fold-Block ℕ ℕ ℕ ℕ ℕ ℕ ℕ ℕ ℕ ℕ ℕ ℕ ℕ arrow_body_layer block_item_layer clause_layer expr_layer start_layer prop_layer stmt_layer block_layer declarator_layer function_layer param_layer span_layer var_layer

unfoldable pub declarator_depth : Declarator → ℕ
declarator_depth = fold-Declarator ℕ ℕ ℕ ℕ ℕ ℕ ℕ ℕ ℕ ℕ ℕ ℕ ℕ arrow_body_layer block_item_layer clause_layer expr_layer start_layer prop_layer stmt_layer block_layer declarator_layer function_layer param_layer span_layer var_layer

unfoldable pub function_depth : Function → ℕ
function_depth = fold-Function ℕ ℕ ℕ ℕ ℕ ℕ ℕ ℕ ℕ ℕ ℕ ℕ ℕ arrow_body_layer block_item_layer clause_layer expr_layer start_layer prop_layer stmt_layer block_layer declarator_layer function_layer param_layer span_layer var_layer

unfoldable pub param_depth : Param → ℕ
param_depth = fold-Param ℕ ℕ ℕ ℕ ℕ ℕ ℕ ℕ ℕ ℕ ℕ ℕ ℕ arrow_body_layer block_item_layer clause_layer expr_layer start_layer prop_layer stmt_layer block_layer declarator_layer function_layer param_layer span_layer var_layer

unfoldable pub span_depth : TemplateSpan → ℕ
span_depth = fold-TemplateSpan ℕ ℕ ℕ ℕ ℕ ℕ ℕ ℕ ℕ ℕ ℕ ℕ ℕ arrow_body_layer block_item_layer clause_layer expr_layer start_layer prop_layer stmt_layer block_layer declarator_layer function_layer param_layer span_layer var_layer

unfoldable pub var_depth : Var → ℕ
var_depth = fold-Var ℕ ℕ ℕ ℕ ℕ ℕ ℕ ℕ ℕ ℕ ℕ ℕ ℕ arrow_body_layer block_item_layer clause_layer expr_layer start_layer prop_layer stmt_layer block_layer declarator_layer function_layer param_layer span_layer var_layer

abbrev pub exprs_depth : List Expr → ℕ
exprs_depth all = greatest (map expr_depth all)

abbrev pub spans_depth : List TemplateSpan → ℕ
spans_depth all = greatest (map span_depth all)

abbrev pub props_depth : List Prop → ℕ
props_depth all = greatest (map prop_depth all)

abbrev pub params_depth : List Param → ℕ
params_depth all = greatest (map param_depth all)

abbrev pub block_items_depth : List BlockItem → ℕ
block_items_depth all = greatest (map block_item_depth all)

abbrev pub declarators_depth : List Declarator → ℕ
declarators_depth all = greatest (map declarator_depth all)

abbrev pub clauses_depth : List Clause → ℕ
clauses_depth all = greatest (map clause_depth all)

-- the depth of an expression that may be missing, and of a statement
abbrev pub optional_depth : Option Expr → ℕ
optional_depth None = 0
optional_depth (Some of) = expr_depth of

abbrev pub otherwise_depth : Option Stmt → ℕ
otherwise_depth None = 0
otherwise_depth (Some of) = stmt_depth of

-- ---- items

abbrev pub base_depth : Base → ℕ
base_depth of = types_depth of.arguments

abbrev pub bases_depth : List Base → ℕ
bases_depth all = greatest (map base_depth all)

abbrev pub class_member_depth : ClassMember → ℕ
class_member_depth (class_member.Field at is_static read_only name optional annotation value) = max (annotation_depth annotation) (optional_depth value)
class_member_depth (class_member.Constructor at params of) = max (params_depth params) (block_depth of)
class_member_depth (class_member.Method at is_static name params result of) = max (params_depth params) (max (annotation_depth result) (block_depth of))

abbrev pub class_members_depth : List ClassMember → ℕ
class_members_depth all = greatest (map class_member_depth all)

abbrev pub class_depth : ClassDeclaration → ℕ
class_depth of = max (bases_depth of.implements) (class_members_depth of.members)

-- the body of an interface is no node
abbrev pub interface_depth : Interface → ℕ
interface_depth of = max (bases_depth of.extends) (members_depth of.members)

abbrev pub declaration_depth : Declaration → ℕ
declaration_depth (declaration.Var of) = var_depth of
declaration_depth (declaration.Function of) = function_depth of
declaration_depth (declaration.Class of) = class_depth of
declaration_depth (declaration.Interface of) = interface_depth of
declaration_depth (declaration.Alias of) = type_depth of.shape

abbrev pub depth_of : Item → ℕ
depth_of (item.Import of) = 0
depth_of (item.ExportList of) = 0
depth_of (item.Declaration exported of) = declaration_depth of
depth_of (item.Stmt of) = stmt_depth of

-- what a depth is as a `u32`, which stays at its last value
abbrev pub capped : ℕ → ℕ
capped d = min d (2 ^ 32 - 1)

-- Trees without their offsets: two trees are equal but for offsets where these are equal. Each function below says it of one layer of a
-- tree, whose parts have lost theirs.
use Rattle.std.specs.Prelude.{ℕ, map, Option, Some, None}
use Rattle.tb_tree.specs.declared.types.TypeExpr.{TypeExpr, fold-TypeExpr}
use Rattle.tb_tree.specs.declared.types.TypeExpr.TheVariants as t
use Rattle.tb_tree.specs.declared.types.TypeExpr.TheOpen.{TypeExpr-F, TypeMember-F, TypeParam-F}
use Rattle.tb_tree.specs.declared.types.TypeMember.{TypeMember, fold-TypeMember}
use Rattle.tb_tree.specs.declared.types.TypeMember.TheVariants as p
use Rattle.tb_tree.specs.declared.types.TypeParam.{TypeParam, fold-TypeParam, roll-TypeParam}
use Rattle.tb_tree.specs.declared.exprs.Identifier.{Identifier}
use Rattle.tb_tree.specs.declared.exprs.ArrowBody.TheOpen.{ArrowBody-F, BlockItem-F, Clause-F, Expr-F, ForStart-F, Prop-F, Stmt-F, Block-F, Declarator-F, Function-F, Param-F, TemplateSpan-F, Var-F}
use Rattle.tb_tree.specs.declared.exprs.ArrowBody.{ArrowBody, fold-ArrowBody}
use Rattle.tb_tree.specs.declared.exprs.ArrowBody.TheVariants as arrow_body
use Rattle.tb_tree.specs.declared.exprs.BlockItem.{BlockItem, fold-BlockItem}
use Rattle.tb_tree.specs.declared.exprs.BlockItem.TheVariants as block_item
use Rattle.tb_tree.specs.declared.exprs.Clause.{Clause, fold-Clause}
use Rattle.tb_tree.specs.declared.exprs.Clause.TheVariants as clause
use Rattle.tb_tree.specs.declared.exprs.Expr.{Expr, fold-Expr}
use Rattle.tb_tree.specs.declared.exprs.Expr.TheVariants as expr
use Rattle.tb_tree.specs.declared.exprs.ForStart.{ForStart, fold-ForStart}
use Rattle.tb_tree.specs.declared.exprs.ForStart.TheVariants as start
use Rattle.tb_tree.specs.declared.exprs.Prop.{Prop, fold-Prop}
use Rattle.tb_tree.specs.declared.exprs.Prop.TheVariants as prop
use Rattle.tb_tree.specs.declared.exprs.Stmt.{Stmt, fold-Stmt}
use Rattle.tb_tree.specs.declared.exprs.Stmt.TheVariants as stmt
use Rattle.tb_tree.specs.declared.exprs.Block.{Block, fold-Block, roll-Block}
use Rattle.tb_tree.specs.declared.exprs.Declarator.{Declarator, fold-Declarator, roll-Declarator}
use Rattle.tb_tree.specs.declared.exprs.Function.{Function, fold-Function, roll-Function}
use Rattle.tb_tree.specs.declared.exprs.Param.{Param, fold-Param, roll-Param}
use Rattle.tb_tree.specs.declared.exprs.TemplateSpan.{TemplateSpan, fold-TemplateSpan, roll-TemplateSpan}
use Rattle.tb_tree.specs.declared.exprs.Var.{Var, fold-Var, roll-Var}
use Rattle.tb_tree.specs.declared.items.Specifier.{Specifier}
use Rattle.tb_tree.specs.declared.items.Spec.{Spec}
use Rattle.tb_tree.specs.declared.items.Base.{Base}
use Rattle.tb_tree.specs.declared.items.ExportList.{ExportList}
use Rattle.tb_tree.specs.declared.items.DeclaredClass.{DeclaredClass}
use Rattle.tb_tree.specs.declared.items.ClassDeclaration.{ClassDeclaration}
use Rattle.tb_tree.specs.declared.items.Interface.{Interface}
use Rattle.tb_tree.specs.declared.items.Alias.{Alias}
use Rattle.tb_tree.specs.declared.items.File.{File}
use Rattle.tb_tree.specs.declared.items.Surface.{Surface}
use Rattle.tb_tree.specs.declared.items.Import.{Import}
use Rattle.tb_tree.specs.declared.items.Import.TheVariants as import_form
use Rattle.tb_tree.specs.declared.items.ClassMember.{ClassMember}
use Rattle.tb_tree.specs.declared.items.ClassMember.TheVariants as class_member
use Rattle.tb_tree.specs.declared.items.Declaration.{Declaration}
use Rattle.tb_tree.specs.declared.items.Declaration.TheVariants as declaration
use Rattle.tb_tree.specs.declared.items.Item.{Item}
use Rattle.tb_tree.specs.declared.items.Item.TheVariants as item
use Rattle.tb_tree.specs.declared.items.DeclaredMember.{DeclaredMember}
use Rattle.tb_tree.specs.declared.items.DeclaredMember.TheVariants as declared_member
use Rattle.tb_tree.specs.declared.items.Declared.{Declared}
use Rattle.tb_tree.specs.declared.items.Declared.TheVariants as declared
use Rattle.tb_tree.specs.declared.items.SurfaceItem.{SurfaceItem}
use Rattle.tb_tree.specs.declared.items.SurfaceItem.TheVariants as surface_item

-- ---- types

abbrev pub bare_type_layer : TypeExpr-F TypeExpr TypeMember TypeParam → TypeExpr
bare_type_layer (TypeExpr-F.Keyword at keyword) = t.Keyword 0 keyword
bare_type_layer (TypeExpr-F.Boolean at value) = t.Boolean 0 value
bare_type_layer (TypeExpr-F.String at spelled) = t.String 0 spelled
bare_type_layer (TypeExpr-F.Integer at minus digits) = t.Integer 0 minus digits
bare_type_layer (TypeExpr-F.Written at name arguments) = t.Written 0 name arguments
bare_type_layer (TypeExpr-F.Array at read_only element) = t.Array 0 read_only element
bare_type_layer (TypeExpr-F.Function at params result) = t.Function 0 params result
bare_type_layer (TypeExpr-F.Object at members) = t.Object 0 members
bare_type_layer (TypeExpr-F.Union at parts) = t.Union 0 parts
bare_type_layer (TypeExpr-F.Named path name arguments) = t.Named path name arguments
bare_type_layer (TypeExpr-F.Class path name) = t.Class path name
bare_type_layer (TypeExpr-F.Param owner name) = t.Param owner name
bare_type_layer (TypeExpr-F.Generic path name) = t.Generic path name

abbrev pub bare_member_layer : TypeMember-F TypeExpr TypeMember TypeParam → TypeMember
bare_member_layer (TypeMember-F.Property at read_only key optional shape) = p.Property 0 read_only key optional shape
bare_member_layer (TypeMember-F.Method at key optional params result) = p.Method 0 key optional params result

abbrev pub bare_type_param_layer : TypeParam-F TypeExpr TypeMember TypeParam → TypeParam
bare_type_param_layer layer = roll-TypeParam (record { at = 0; name = layer.name; optional = layer.optional; shape = layer.shape })

unfoldable pub bare_type : TypeExpr → TypeExpr
bare_type = fold-TypeExpr TypeExpr TypeMember TypeParam bare_type_layer bare_member_layer bare_type_param_layer

unfoldable pub bare_member : TypeMember → TypeMember
bare_member = fold-TypeMember TypeExpr TypeMember TypeParam bare_type_layer bare_member_layer bare_type_param_layer

unfoldable pub bare_type_param : TypeParam → TypeParam
bare_type_param = fold-TypeParam TypeExpr TypeMember TypeParam bare_type_layer bare_member_layer bare_type_param_layer

abbrev pub bare_annotation : Option TypeExpr → Option TypeExpr
bare_annotation None = None
bare_annotation (Some of) = Some (bare_type of)

-- ---- expressions and statements

abbrev pub bare_identifier : Identifier → Identifier
bare_identifier of = record { at = 0; name = of.name }

abbrev pub bare_arrow_body_layer : ArrowBody-F ArrowBody BlockItem Clause Expr ForStart Prop Stmt Block Declarator Function Param TemplateSpan Var → ArrowBody
bare_arrow_body_layer (ArrowBody-F.«ArrowBody::Block» of) = arrow_body.Block of
bare_arrow_body_layer (ArrowBody-F.«ArrowBody::Expr» of) = arrow_body.Expr of

abbrev pub bare_block_item_layer : BlockItem-F ArrowBody BlockItem Clause Expr ForStart Prop Stmt Block Declarator Function Param TemplateSpan Var → BlockItem
bare_block_item_layer (BlockItem-F.«BlockItem::Var» of) = block_item.Var of
bare_block_item_layer (BlockItem-F.Function of) = block_item.Function of
bare_block_item_layer (BlockItem-F.Stmt of) = block_item.Stmt of

abbrev pub bare_clause_layer : Clause-F ArrowBody BlockItem Clause Expr ForStart Prop Stmt Block Declarator Function Param TemplateSpan Var → Clause
bare_clause_layer (Clause-F.Case at value items) = clause.Case 0 value items
bare_clause_layer (Clause-F.Default at items) = clause.Default 0 items

abbrev pub bare_expr_layer : Expr-F ArrowBody BlockItem Clause Expr ForStart Prop Stmt Block Declarator Function Param TemplateSpan Var → Expr
bare_expr_layer (Expr-F.Name at name) = expr.Name 0 name
bare_expr_layer (Expr-F.This at) = expr.This 0
bare_expr_layer (Expr-F.Null at) = expr.Null 0
bare_expr_layer (Expr-F.Undefined at) = expr.Undefined 0
bare_expr_layer (Expr-F.Boolean at value) = expr.Boolean 0 value
bare_expr_layer (Expr-F.Number at spelled) = expr.Number 0 spelled
bare_expr_layer (Expr-F.String at spelled) = expr.String 0 spelled
bare_expr_layer (Expr-F.Template at head spans) = expr.Template 0 head spans
bare_expr_layer (Expr-F.Parens at inner) = expr.Parens 0 inner
bare_expr_layer (Expr-F.Array at elements) = expr.Array 0 elements
bare_expr_layer (Expr-F.Object at props) = expr.Object 0 props
bare_expr_layer (Expr-F.New at class arguments) = expr.New 0 (bare_identifier class) arguments
bare_expr_layer (Expr-F.Member at base member) = expr.Member 0 base member
bare_expr_layer (Expr-F.Index at base index) = expr.Index 0 base index
bare_expr_layer (Expr-F.Call at callee type_arguments arguments) = expr.Call 0 callee (map bare_type type_arguments) arguments
bare_expr_layer (Expr-F.Unary at operator operand) = expr.Unary 0 operator operand
bare_expr_layer (Expr-F.Update at operator before target) = expr.Update 0 operator before target
bare_expr_layer (Expr-F.Binary at left operator right) = expr.Binary 0 left operator right
bare_expr_layer (Expr-F.As at value shape) = expr.As 0 value (bare_type shape)
bare_expr_layer (Expr-F.Conditional at condition then otherwise) = expr.Conditional 0 condition then otherwise
bare_expr_layer (Expr-F.Assign at target operator value) = expr.Assign 0 target operator value
bare_expr_layer (Expr-F.Arrow at params result of) = expr.Arrow 0 params (bare_annotation result) of

abbrev pub bare_start_layer : ForStart-F ArrowBody BlockItem Clause Expr ForStart Prop Stmt Block Declarator Function Param TemplateSpan Var → ForStart
bare_start_layer (ForStart-F.«ForStart::Var» of) = start.Var of
bare_start_layer (ForStart-F.«ForStart::Expr» of) = start.Expr of
bare_start_layer ForStart-F.Nothing = start.Nothing

abbrev pub bare_prop_layer : Prop-F ArrowBody BlockItem Clause Expr ForStart Prop Stmt Block Declarator Function Param TemplateSpan Var → Prop
bare_prop_layer (Prop-F.Valued at key value) = prop.Valued 0 key value
bare_prop_layer (Prop-F.Short at name) = prop.Short 0 name

abbrev pub bare_stmt_layer : Stmt-F ArrowBody BlockItem Clause Expr ForStart Prop Stmt Block Declarator Function Param TemplateSpan Var → Stmt
bare_stmt_layer (Stmt-F.«Stmt::Block» of) = stmt.Block of
bare_stmt_layer (Stmt-F.If at condition then otherwise) = stmt.If 0 condition then otherwise
bare_stmt_layer (Stmt-F.While at condition of) = stmt.While 0 condition of
bare_stmt_layer (Stmt-F.Do at of condition) = stmt.Do 0 of condition
bare_stmt_layer (Stmt-F.For at first condition step of) = stmt.For 0 first condition step of
bare_stmt_layer (Stmt-F.ForOf at kind element subject of) = stmt.ForOf 0 kind (bare_identifier element) subject of
bare_stmt_layer (Stmt-F.Return at value) = stmt.Return 0 value
bare_stmt_layer (Stmt-F.Break at) = stmt.Break 0
bare_stmt_layer (Stmt-F.Continue at) = stmt.Continue 0
bare_stmt_layer (Stmt-F.Throw at value) = stmt.Throw 0 value
bare_stmt_layer (Stmt-F.Switch at subject clauses) = stmt.Switch 0 subject clauses
bare_stmt_layer (Stmt-F.«Stmt::Expr» at value) = stmt.Expr 0 value
bare_stmt_layer (Stmt-F.Empty at) = stmt.Empty 0

abbrev pub bare_block_layer : Block-F ArrowBody BlockItem Clause Expr ForStart Prop Stmt Block Declarator Function Param TemplateSpan Var → Block
bare_block_layer layer = roll-Block (record { at = 0; items = layer.items })

abbrev pub bare_declarator_layer : Declarator-F ArrowBody BlockItem Clause Expr ForStart Prop Stmt Block Declarator Function Param TemplateSpan Var → Declarator
bare_declarator_layer layer = roll-Declarator (record { at = 0; name = layer.name; annotation = bare_annotation layer.annotation; value = layer.value })

abbrev pub bare_function_layer : Function-F ArrowBody BlockItem Clause Expr ForStart Prop Stmt Block Declarator Function Param TemplateSpan Var → Function
bare_function_layer layer = roll-Function (record { at = 0; name = layer.name; variables = map bare_identifier layer.variables; params = layer.params; result = bare_annotation layer.result; body = layer.body })

abbrev pub bare_param_layer : Param-F ArrowBody BlockItem Clause Expr ForStart Prop Stmt Block Declarator Function Param TemplateSpan Var → Param
bare_param_layer layer = roll-Param (record { at = 0; name = layer.name; optional = layer.optional; annotation = bare_annotation layer.annotation; value = layer.value })

abbrev pub bare_span_layer : TemplateSpan-F ArrowBody BlockItem Clause Expr ForStart Prop Stmt Block Declarator Function Param TemplateSpan Var → TemplateSpan
bare_span_layer layer = roll-TemplateSpan (record { value = layer.value; text = layer.text })

abbrev pub bare_var_layer : Var-F ArrowBody BlockItem Clause Expr ForStart Prop Stmt Block Declarator Function Param TemplateSpan Var → Var
bare_var_layer layer = roll-Var (record { kind = layer.kind; declarators = layer.declarators })

unfoldable pub bare_arrow_body : ArrowBody → ArrowBody
bare_arrow_body = fold-ArrowBody ArrowBody BlockItem Clause Expr ForStart Prop Stmt Block Declarator Function Param TemplateSpan Var bare_arrow_body_layer bare_block_item_layer bare_clause_layer bare_expr_layer bare_start_layer bare_prop_layer bare_stmt_layer bare_block_layer bare_declarator_layer bare_function_layer bare_param_layer bare_span_layer bare_var_layer

unfoldable pub bare_block_item : BlockItem → BlockItem
bare_block_item = fold-BlockItem ArrowBody BlockItem Clause Expr ForStart Prop Stmt Block Declarator Function Param TemplateSpan Var bare_arrow_body_layer bare_block_item_layer bare_clause_layer bare_expr_layer bare_start_layer bare_prop_layer bare_stmt_layer bare_block_layer bare_declarator_layer bare_function_layer bare_param_layer bare_span_layer bare_var_layer

unfoldable pub bare_clause : Clause → Clause
bare_clause = fold-Clause ArrowBody BlockItem Clause Expr ForStart Prop Stmt Block Declarator Function Param TemplateSpan Var bare_arrow_body_layer bare_block_item_layer bare_clause_layer bare_expr_layer bare_start_layer bare_prop_layer bare_stmt_layer bare_block_layer bare_declarator_layer bare_function_layer bare_param_layer bare_span_layer bare_var_layer

unfoldable pub bare_expr : Expr → Expr
bare_expr = fold-Expr ArrowBody BlockItem Clause Expr ForStart Prop Stmt Block Declarator Function Param TemplateSpan Var bare_arrow_body_layer bare_block_item_layer bare_clause_layer bare_expr_layer bare_start_layer bare_prop_layer bare_stmt_layer bare_block_layer bare_declarator_layer bare_function_layer bare_param_layer bare_span_layer bare_var_layer

unfoldable pub bare_start : ForStart → ForStart
bare_start = fold-ForStart ArrowBody BlockItem Clause Expr ForStart Prop Stmt Block Declarator Function Param TemplateSpan Var bare_arrow_body_layer bare_block_item_layer bare_clause_layer bare_expr_layer bare_start_layer bare_prop_layer bare_stmt_layer bare_block_layer bare_declarator_layer bare_function_layer bare_param_layer bare_span_layer bare_var_layer

unfoldable pub bare_prop : Prop → Prop
bare_prop = fold-Prop ArrowBody BlockItem Clause Expr ForStart Prop Stmt Block Declarator Function Param TemplateSpan Var bare_arrow_body_layer bare_block_item_layer bare_clause_layer bare_expr_layer bare_start_layer bare_prop_layer bare_stmt_layer bare_block_layer bare_declarator_layer bare_function_layer bare_param_layer bare_span_layer bare_var_layer

unfoldable pub bare_stmt : Stmt → Stmt
bare_stmt = fold-Stmt ArrowBody BlockItem Clause Expr ForStart Prop Stmt Block Declarator Function Param TemplateSpan Var bare_arrow_body_layer bare_block_item_layer bare_clause_layer bare_expr_layer bare_start_layer bare_prop_layer bare_stmt_layer bare_block_layer bare_declarator_layer bare_function_layer bare_param_layer bare_span_layer bare_var_layer

unfoldable pub bare_block : Block → Block
bare_block = fold-Block ArrowBody BlockItem Clause Expr ForStart Prop Stmt Block Declarator Function Param TemplateSpan Var bare_arrow_body_layer bare_block_item_layer bare_clause_layer bare_expr_layer bare_start_layer bare_prop_layer bare_stmt_layer bare_block_layer bare_declarator_layer bare_function_layer bare_param_layer bare_span_layer bare_var_layer

unfoldable pub bare_declarator : Declarator → Declarator
bare_declarator = fold-Declarator ArrowBody BlockItem Clause Expr ForStart Prop Stmt Block Declarator Function Param TemplateSpan Var bare_arrow_body_layer bare_block_item_layer bare_clause_layer bare_expr_layer bare_start_layer bare_prop_layer bare_stmt_layer bare_block_layer bare_declarator_layer bare_function_layer bare_param_layer bare_span_layer bare_var_layer

unfoldable pub bare_function : Function → Function
bare_function = fold-Function ArrowBody BlockItem Clause Expr ForStart Prop Stmt Block Declarator Function Param TemplateSpan Var bare_arrow_body_layer bare_block_item_layer bare_clause_layer bare_expr_layer bare_start_layer bare_prop_layer bare_stmt_layer bare_block_layer bare_declarator_layer bare_function_layer bare_param_layer bare_span_layer bare_var_layer

unfoldable pub bare_param : Param → Param
bare_param = fold-Param ArrowBody BlockItem Clause Expr ForStart Prop Stmt Block Declarator Function Param TemplateSpan Var bare_arrow_body_layer bare_block_item_layer bare_clause_layer bare_expr_layer bare_start_layer bare_prop_layer bare_stmt_layer bare_block_layer bare_declarator_layer bare_function_layer bare_param_layer bare_span_layer bare_var_layer

unfoldable pub bare_span : TemplateSpan → TemplateSpan
bare_span = fold-TemplateSpan ArrowBody BlockItem Clause Expr ForStart Prop Stmt Block Declarator Function Param TemplateSpan Var bare_arrow_body_layer bare_block_item_layer bare_clause_layer bare_expr_layer bare_start_layer bare_prop_layer bare_stmt_layer bare_block_layer bare_declarator_layer bare_function_layer bare_param_layer bare_span_layer bare_var_layer

unfoldable pub bare_var : Var → Var
bare_var = fold-Var ArrowBody BlockItem Clause Expr ForStart Prop Stmt Block Declarator Function Param TemplateSpan Var bare_arrow_body_layer bare_block_item_layer bare_clause_layer bare_expr_layer bare_start_layer bare_prop_layer bare_stmt_layer bare_block_layer bare_declarator_layer bare_function_layer bare_param_layer bare_span_layer bare_var_layer

abbrev pub bare_value : Option Expr → Option Expr
bare_value None = None
bare_value (Some of) = Some (bare_expr of)

-- ---- items

abbrev pub bare_specifier : Specifier → Specifier
bare_specifier of = record { at = 0; spelled = of.spelled }

abbrev pub bare_origin : Option Specifier → Option Specifier
bare_origin None = None
bare_origin (Some of) = Some (bare_specifier of)

abbrev pub bare_renamed : Option Identifier → Option Identifier
bare_renamed None = None
bare_renamed (Some of) = Some (bare_identifier of)

abbrev pub bare_spec : Spec → Spec
bare_spec of = record { at = 0; type_only = of.type_only; name = bare_identifier of.name; renamed = bare_renamed of.renamed }

abbrev pub bare_import : Import → Import
bare_import (import_form.List at type_only specs from) = import_form.List 0 type_only (map bare_spec specs) (bare_specifier from)
bare_import (import_form.Bare at from) = import_form.Bare 0 (bare_specifier from)

abbrev pub bare_export_list : ExportList → ExportList
bare_export_list of = record { at = 0; type_only = of.type_only; specs = map bare_spec of.specs; from = bare_origin of.from }

abbrev pub bare_base : Base → Base
bare_base of = record { at = 0; name = of.name; arguments = map bare_type of.arguments }

abbrev pub bare_interface : Interface → Interface
bare_interface of = record { at = 0; name = of.name; variables = map bare_identifier of.variables; extends = map bare_base of.extends; members = map bare_member of.members }

abbrev pub bare_alias : Alias → Alias
bare_alias of = record { at = 0; name = of.name; variables = map bare_identifier of.variables; shape = bare_type of.shape }

abbrev pub bare_class_member : ClassMember → ClassMember
bare_class_member (class_member.Field at is_static read_only name optional annotation value) = class_member.Field 0 is_static read_only name optional (bare_annotation annotation) (bare_value value)
bare_class_member (class_member.Constructor at params of) = class_member.Constructor 0 (map bare_param params) (bare_block of)
bare_class_member (class_member.Method at is_static name params result of) = class_member.Method 0 is_static name (map bare_param params) (bare_annotation result) (bare_block of)

abbrev pub bare_class : ClassDeclaration → ClassDeclaration
bare_class of = record { at = 0; name = of.name; implements = map bare_base of.implements; members = map bare_class_member of.members }

abbrev pub bare_declaration : Declaration → Declaration
bare_declaration (declaration.Var of) = declaration.Var (bare_var of)
bare_declaration (declaration.Function of) = declaration.Function (bare_function of)
bare_declaration (declaration.Class of) = declaration.Class (bare_class of)
bare_declaration (declaration.Interface of) = declaration.Interface (bare_interface of)
bare_declaration (declaration.Alias of) = declaration.Alias (bare_alias of)

abbrev pub bare_item : Item → Item
bare_item (item.Import of) = item.Import (bare_import of)
bare_item (item.ExportList of) = item.ExportList (bare_export_list of)
bare_item (item.Declaration exported of) = item.Declaration exported (bare_declaration of)
bare_item (item.Stmt of) = item.Stmt (bare_stmt of)

abbrev pub bare_file : File → File
bare_file of = record { items = map bare_item of.items }

-- ---- surfaces

abbrev pub bare_declared_member : DeclaredMember → DeclaredMember
bare_declared_member (declared_member.Field at is_static read_only name optional shape) = declared_member.Field 0 is_static read_only name optional (bare_type shape)
bare_declared_member (declared_member.Constructor at params) = declared_member.Constructor 0 (map bare_type_param params)
bare_declared_member (declared_member.Method at is_static name params result) = declared_member.Method 0 is_static name (map bare_type_param params) (bare_type result)

abbrev pub bare_declared_class : DeclaredClass → DeclaredClass
bare_declared_class of = record { at = 0; name = of.name; implements = map bare_base of.implements; members = map bare_declared_member of.members }

abbrev pub bare_declared : Declared → Declared
bare_declared (declared.Variable at kind name shape) = declared.Variable 0 kind name (bare_type shape)
bare_declared (declared.Function at name variables params result) = declared.Function 0 name (map bare_identifier variables) (map bare_type_param params) (bare_type result)
bare_declared (declared.Class of) = declared.Class (bare_declared_class of)
bare_declared (declared.Interface of) = declared.Interface (bare_interface of)
bare_declared (declared.Alias of) = declared.Alias (bare_alias of)

abbrev pub bare_surface_item : SurfaceItem → SurfaceItem
bare_surface_item (surface_item.Import of) = surface_item.Import (bare_import of)
bare_surface_item (surface_item.ExportList of) = surface_item.ExportList (bare_export_list of)
bare_surface_item (surface_item.Declaration exported of) = surface_item.Declaration exported (bare_declared of)

abbrev pub bare_surface : Surface → Surface
bare_surface of = record { items = map bare_surface_item of.items }

-- Erasing: a tree without what is only a type. Dropped are interfaces, aliases, all annotations, `?`, `readonly`, `implements`,
-- `as Type`, type variables and arguments, imports and export lists with `type`, and Specs with `type`. Each function for expressions
-- and statements says it of one layer of a tree, whose parts have lost theirs.
use Rattle.std.specs.Prelude.{flat_map, filter, Bool, true, false, not, ◌||◌, if◌then◌else◌, List, [], ◌∷◌, ◌++◌, map, Option, Some, None}
use Rattle.std.specs.List.{list_any}
use Rattle.tb_tree.specs.declared.exprs.ArrowBody.TheOpen.{ArrowBody-F, BlockItem-F, Clause-F, Expr-F, ForStart-F, Prop-F, Stmt-F, Block-F, Declarator-F, Function-F, Param-F, TemplateSpan-F, Var-F}
use Rattle.tb_tree.specs.declared.exprs.ArrowBody.{ArrowBody, fold-ArrowBody}
use Rattle.tb_tree.specs.declared.exprs.ArrowBody.TheVariants as arrow_body
use Rattle.tb_tree.specs.declared.exprs.BlockItem.{BlockItem, fold-BlockItem}
use Rattle.tb_tree.specs.declared.exprs.BlockItem.TheVariants as block_item
use Rattle.tb_tree.specs.declared.exprs.Clause.{Clause, fold-Clause}
use Rattle.tb_tree.specs.declared.exprs.Clause.TheVariants as clause
use Rattle.tb_tree.specs.declared.exprs.Expr.{Expr, fold-Expr}
use Rattle.tb_tree.specs.declared.exprs.Expr.TheVariants as expr
use Rattle.tb_tree.specs.declared.exprs.ForStart.{ForStart, fold-ForStart}
use Rattle.tb_tree.specs.declared.exprs.ForStart.TheVariants as start
use Rattle.tb_tree.specs.declared.exprs.Prop.{Prop, fold-Prop}
use Rattle.tb_tree.specs.declared.exprs.Prop.TheVariants as prop
use Rattle.tb_tree.specs.declared.exprs.Stmt.{Stmt, fold-Stmt}
use Rattle.tb_tree.specs.declared.exprs.Stmt.TheVariants as stmt
use Rattle.tb_tree.specs.declared.exprs.Block.{Block, fold-Block, roll-Block}
use Rattle.tb_tree.specs.declared.exprs.Declarator.{Declarator, fold-Declarator, roll-Declarator}
use Rattle.tb_tree.specs.declared.exprs.Function.{Function, fold-Function, roll-Function}
use Rattle.tb_tree.specs.declared.exprs.Param.{Param, fold-Param, roll-Param}
use Rattle.tb_tree.specs.declared.exprs.TemplateSpan.{TemplateSpan, fold-TemplateSpan, roll-TemplateSpan}
use Rattle.tb_tree.specs.declared.exprs.Var.{Var, fold-Var, roll-Var}
use Rattle.tb_tree.specs.declared.items.Spec.{Spec}
use Rattle.tb_tree.specs.declared.items.Specifier.{Specifier}
use Rattle.tb_tree.specs.declared.items.Import.{Import}
use Rattle.tb_tree.specs.declared.items.Import.TheVariants as import_form
use Rattle.tb_tree.specs.declared.items.ExportList.{ExportList}
use Rattle.tb_tree.specs.declared.items.ClassMember.{ClassMember}
use Rattle.tb_tree.specs.declared.items.ClassMember.TheVariants as class_member
use Rattle.tb_tree.specs.declared.items.ClassDeclaration.{ClassDeclaration}
use Rattle.tb_tree.specs.declared.items.Declaration.{Declaration}
use Rattle.tb_tree.specs.declared.items.Declaration.TheVariants as declaration
use Rattle.tb_tree.specs.declared.items.Item.{Item}
use Rattle.tb_tree.specs.declared.items.Item.TheVariants as item
use Rattle.tb_tree.specs.declared.items.File.{File}

-- ---- expressions and statements

abbrev pub erased_arrow_body_layer : ArrowBody-F ArrowBody BlockItem Clause Expr ForStart Prop Stmt Block Declarator Function Param TemplateSpan Var → ArrowBody
erased_arrow_body_layer (ArrowBody-F.«ArrowBody::Block» of) = arrow_body.Block of
erased_arrow_body_layer (ArrowBody-F.«ArrowBody::Expr» of) = arrow_body.Expr of

abbrev pub erased_block_item_layer : BlockItem-F ArrowBody BlockItem Clause Expr ForStart Prop Stmt Block Declarator Function Param TemplateSpan Var → BlockItem
erased_block_item_layer (BlockItem-F.«BlockItem::Var» of) = block_item.Var of
erased_block_item_layer (BlockItem-F.Function of) = block_item.Function of
erased_block_item_layer (BlockItem-F.Stmt of) = block_item.Stmt of

abbrev pub erased_clause_layer : Clause-F ArrowBody BlockItem Clause Expr ForStart Prop Stmt Block Declarator Function Param TemplateSpan Var → Clause
erased_clause_layer (Clause-F.Case at value items) = clause.Case at value items
erased_clause_layer (Clause-F.Default at items) = clause.Default at items

abbrev pub erased_expr_layer : Expr-F ArrowBody BlockItem Clause Expr ForStart Prop Stmt Block Declarator Function Param TemplateSpan Var → Expr
erased_expr_layer (Expr-F.Name at name) = expr.Name at name
erased_expr_layer (Expr-F.This at) = expr.This at
erased_expr_layer (Expr-F.Null at) = expr.Null at
erased_expr_layer (Expr-F.Undefined at) = expr.Undefined at
erased_expr_layer (Expr-F.Boolean at value) = expr.Boolean at value
erased_expr_layer (Expr-F.Number at spelled) = expr.Number at spelled
erased_expr_layer (Expr-F.String at spelled) = expr.String at spelled
erased_expr_layer (Expr-F.Template at head spans) = expr.Template at head spans
erased_expr_layer (Expr-F.Parens at inner) = expr.Parens at inner
erased_expr_layer (Expr-F.Array at elements) = expr.Array at elements
erased_expr_layer (Expr-F.Object at props) = expr.Object at props
erased_expr_layer (Expr-F.New at class arguments) = expr.New at class arguments
erased_expr_layer (Expr-F.Member at base member) = expr.Member at base member
erased_expr_layer (Expr-F.Index at base index) = expr.Index at base index
erased_expr_layer (Expr-F.Call at callee type_arguments arguments) = expr.Call at callee [] arguments
erased_expr_layer (Expr-F.Unary at operator operand) = expr.Unary at operator operand
erased_expr_layer (Expr-F.Update at operator before target) = expr.Update at operator before target
erased_expr_layer (Expr-F.Binary at left operator right) = expr.Binary at left operator right
-- `as Type` goes, and the value stays
erased_expr_layer (Expr-F.As at value shape) = value
erased_expr_layer (Expr-F.Conditional at condition chosen otherwise) = expr.Conditional at condition chosen otherwise
erased_expr_layer (Expr-F.Assign at target operator value) = expr.Assign at target operator value
erased_expr_layer (Expr-F.Arrow at params result of) = expr.Arrow at params None of

abbrev pub erased_start_layer : ForStart-F ArrowBody BlockItem Clause Expr ForStart Prop Stmt Block Declarator Function Param TemplateSpan Var → ForStart
erased_start_layer (ForStart-F.«ForStart::Var» of) = start.Var of
erased_start_layer (ForStart-F.«ForStart::Expr» of) = start.Expr of
erased_start_layer ForStart-F.Nothing = start.Nothing

abbrev pub erased_prop_layer : Prop-F ArrowBody BlockItem Clause Expr ForStart Prop Stmt Block Declarator Function Param TemplateSpan Var → Prop
erased_prop_layer (Prop-F.Valued at key value) = prop.Valued at key value
erased_prop_layer (Prop-F.Short at name) = prop.Short at name

abbrev pub erased_stmt_layer : Stmt-F ArrowBody BlockItem Clause Expr ForStart Prop Stmt Block Declarator Function Param TemplateSpan Var → Stmt
erased_stmt_layer (Stmt-F.«Stmt::Block» of) = stmt.Block of
erased_stmt_layer (Stmt-F.If at condition chosen otherwise) = stmt.If at condition chosen otherwise
erased_stmt_layer (Stmt-F.While at condition of) = stmt.While at condition of
erased_stmt_layer (Stmt-F.Do at of condition) = stmt.Do at of condition
erased_stmt_layer (Stmt-F.For at first condition step of) = stmt.For at first condition step of
erased_stmt_layer (Stmt-F.ForOf at kind element subject of) = stmt.ForOf at kind element subject of
erased_stmt_layer (Stmt-F.Return at value) = stmt.Return at value
erased_stmt_layer (Stmt-F.Break at) = stmt.Break at
erased_stmt_layer (Stmt-F.Continue at) = stmt.Continue at
erased_stmt_layer (Stmt-F.Throw at value) = stmt.Throw at value
erased_stmt_layer (Stmt-F.Switch at subject clauses) = stmt.Switch at subject clauses
erased_stmt_layer (Stmt-F.«Stmt::Expr» at value) = stmt.Expr at value
erased_stmt_layer (Stmt-F.Empty at) = stmt.Empty at

abbrev pub erased_block_layer : Block-F ArrowBody BlockItem Clause Expr ForStart Prop Stmt Block Declarator Function Param TemplateSpan Var → Block
erased_block_layer layer = roll-Block (record { at = layer.at; items = layer.items })

abbrev pub erased_declarator_layer : Declarator-F ArrowBody BlockItem Clause Expr ForStart Prop Stmt Block Declarator Function Param TemplateSpan Var → Declarator
erased_declarator_layer layer = roll-Declarator (record { at = layer.at; name = layer.name; annotation = None; value = layer.value })

abbrev pub erased_function_layer : Function-F ArrowBody BlockItem Clause Expr ForStart Prop Stmt Block Declarator Function Param TemplateSpan Var → Function
erased_function_layer layer = roll-Function (record { at = layer.at; name = layer.name; variables = []; params = layer.params; result = None; body = layer.body })

abbrev pub erased_param_layer : Param-F ArrowBody BlockItem Clause Expr ForStart Prop Stmt Block Declarator Function Param TemplateSpan Var → Param
erased_param_layer layer = roll-Param (record { at = layer.at; name = layer.name; optional = false; annotation = None; value = layer.value })

abbrev pub erased_span_layer : TemplateSpan-F ArrowBody BlockItem Clause Expr ForStart Prop Stmt Block Declarator Function Param TemplateSpan Var → TemplateSpan
erased_span_layer layer = roll-TemplateSpan (record { value = layer.value; text = layer.text })

abbrev pub erased_var_layer : Var-F ArrowBody BlockItem Clause Expr ForStart Prop Stmt Block Declarator Function Param TemplateSpan Var → Var
erased_var_layer layer = roll-Var (record { kind = layer.kind; declarators = layer.declarators })

unfoldable pub erased_arrow_body : ArrowBody → ArrowBody
erased_arrow_body = fold-ArrowBody ArrowBody BlockItem Clause Expr ForStart Prop Stmt Block Declarator Function Param TemplateSpan Var erased_arrow_body_layer erased_block_item_layer erased_clause_layer erased_expr_layer erased_start_layer erased_prop_layer erased_stmt_layer erased_block_layer erased_declarator_layer erased_function_layer erased_param_layer erased_span_layer erased_var_layer

unfoldable pub erased_block_item : BlockItem → BlockItem
erased_block_item = fold-BlockItem ArrowBody BlockItem Clause Expr ForStart Prop Stmt Block Declarator Function Param TemplateSpan Var erased_arrow_body_layer erased_block_item_layer erased_clause_layer erased_expr_layer erased_start_layer erased_prop_layer erased_stmt_layer erased_block_layer erased_declarator_layer erased_function_layer erased_param_layer erased_span_layer erased_var_layer

unfoldable pub erased_clause : Clause → Clause
erased_clause = fold-Clause ArrowBody BlockItem Clause Expr ForStart Prop Stmt Block Declarator Function Param TemplateSpan Var erased_arrow_body_layer erased_block_item_layer erased_clause_layer erased_expr_layer erased_start_layer erased_prop_layer erased_stmt_layer erased_block_layer erased_declarator_layer erased_function_layer erased_param_layer erased_span_layer erased_var_layer

unfoldable pub erased_expr : Expr → Expr
erased_expr = fold-Expr ArrowBody BlockItem Clause Expr ForStart Prop Stmt Block Declarator Function Param TemplateSpan Var erased_arrow_body_layer erased_block_item_layer erased_clause_layer erased_expr_layer erased_start_layer erased_prop_layer erased_stmt_layer erased_block_layer erased_declarator_layer erased_function_layer erased_param_layer erased_span_layer erased_var_layer

unfoldable pub erased_start : ForStart → ForStart
erased_start = fold-ForStart ArrowBody BlockItem Clause Expr ForStart Prop Stmt Block Declarator Function Param TemplateSpan Var erased_arrow_body_layer erased_block_item_layer erased_clause_layer erased_expr_layer erased_start_layer erased_prop_layer erased_stmt_layer erased_block_layer erased_declarator_layer erased_function_layer erased_param_layer erased_span_layer erased_var_layer

unfoldable pub erased_prop : Prop → Prop
erased_prop = fold-Prop ArrowBody BlockItem Clause Expr ForStart Prop Stmt Block Declarator Function Param TemplateSpan Var erased_arrow_body_layer erased_block_item_layer erased_clause_layer erased_expr_layer erased_start_layer erased_prop_layer erased_stmt_layer erased_block_layer erased_declarator_layer erased_function_layer erased_param_layer erased_span_layer erased_var_layer

unfoldable pub erased_stmt : Stmt → Stmt
erased_stmt = fold-Stmt ArrowBody BlockItem Clause Expr ForStart Prop Stmt Block Declarator Function Param TemplateSpan Var erased_arrow_body_layer erased_block_item_layer erased_clause_layer erased_expr_layer erased_start_layer erased_prop_layer erased_stmt_layer erased_block_layer erased_declarator_layer erased_function_layer erased_param_layer erased_span_layer erased_var_layer

unfoldable pub erased_block : Block → Block
erased_block = fold-Block ArrowBody BlockItem Clause Expr ForStart Prop Stmt Block Declarator Function Param TemplateSpan Var erased_arrow_body_layer erased_block_item_layer erased_clause_layer erased_expr_layer erased_start_layer erased_prop_layer erased_stmt_layer erased_block_layer erased_declarator_layer erased_function_layer erased_param_layer erased_span_layer erased_var_layer

unfoldable pub erased_declarator : Declarator → Declarator
erased_declarator = fold-Declarator ArrowBody BlockItem Clause Expr ForStart Prop Stmt Block Declarator Function Param TemplateSpan Var erased_arrow_body_layer erased_block_item_layer erased_clause_layer erased_expr_layer erased_start_layer erased_prop_layer erased_stmt_layer erased_block_layer erased_declarator_layer erased_function_layer erased_param_layer erased_span_layer erased_var_layer

unfoldable pub erased_function : Function → Function
erased_function = fold-Function ArrowBody BlockItem Clause Expr ForStart Prop Stmt Block Declarator Function Param TemplateSpan Var erased_arrow_body_layer erased_block_item_layer erased_clause_layer erased_expr_layer erased_start_layer erased_prop_layer erased_stmt_layer erased_block_layer erased_declarator_layer erased_function_layer erased_param_layer erased_span_layer erased_var_layer

unfoldable pub erased_param : Param → Param
erased_param = fold-Param ArrowBody BlockItem Clause Expr ForStart Prop Stmt Block Declarator Function Param TemplateSpan Var erased_arrow_body_layer erased_block_item_layer erased_clause_layer erased_expr_layer erased_start_layer erased_prop_layer erased_stmt_layer erased_block_layer erased_declarator_layer erased_function_layer erased_param_layer erased_span_layer erased_var_layer

unfoldable pub erased_span : TemplateSpan → TemplateSpan
erased_span = fold-TemplateSpan ArrowBody BlockItem Clause Expr ForStart Prop Stmt Block Declarator Function Param TemplateSpan Var erased_arrow_body_layer erased_block_item_layer erased_clause_layer erased_expr_layer erased_start_layer erased_prop_layer erased_stmt_layer erased_block_layer erased_declarator_layer erased_function_layer erased_param_layer erased_span_layer erased_var_layer

unfoldable pub erased_var : Var → Var
erased_var = fold-Var ArrowBody BlockItem Clause Expr ForStart Prop Stmt Block Declarator Function Param TemplateSpan Var erased_arrow_body_layer erased_block_item_layer erased_clause_layer erased_expr_layer erased_start_layer erased_prop_layer erased_stmt_layer erased_block_layer erased_declarator_layer erased_function_layer erased_param_layer erased_span_layer erased_var_layer

abbrev pub erased_optional : Option Expr → Option Expr
erased_optional None = None
erased_optional (Some of) = Some (erased_expr of)

-- ---- items

-- a Spec that is more than a type
abbrev pub is_value_spec : Spec → Bool
is_value_spec of = not of.type_only

abbrev pub erased_specs : List Spec → List Spec
erased_specs specs = filter is_value_spec specs

-- an import with `type` goes; one that loses all Specs stays as `import {} from "m";`
abbrev pub erased_import : Import → List Item
erased_import (import_form.List at true specs from) = []
erased_import (import_form.List at false specs from) = item.Import (import_form.List at false (erased_specs specs) from) ∷ []
erased_import (import_form.Bare at from) = item.Import (import_form.Bare at from) ∷ []

-- an export list with `type` goes, and so does one that loses all of at least one Spec, unless it has `from`
abbrev pub stays_listed : List Spec → List Spec → Option Specifier → Bool
stays_listed [] left from = true
stays_listed (of ∷ rest) (kept ∷ others) from = true
stays_listed (of ∷ rest) [] (Some origin) = true
stays_listed (of ∷ rest) [] None = false

abbrev pub erased_export_list : ExportList → List Item
erased_export_list of =
    if of.type_only || not (stays_listed of.specs (erased_specs of.specs) of.from) then []
    else (item.ExportList (record { at = of.at; type_only = false; specs = erased_specs of.specs; from = of.from }) ∷ [])

abbrev pub erased_member : ClassMember → ClassMember
erased_member (class_member.Field at is_static read_only name optional annotation value) = class_member.Field at is_static false name false None (erased_optional value)
erased_member (class_member.Constructor at params of) = class_member.Constructor at (map erased_param params) (erased_block of)
erased_member (class_member.Method at is_static name params result of) = class_member.Method at is_static name (map erased_param params) None (erased_block of)

abbrev pub erased_class : ClassDeclaration → ClassDeclaration
erased_class of = record { at = of.at; name = of.name; implements = []; members = map erased_member of.members }

abbrev pub erased_declaration : Bool → Declaration → List Item
erased_declaration exported (declaration.Var of) = item.Declaration exported (declaration.Var (erased_var of)) ∷ []
erased_declaration exported (declaration.Function of) = item.Declaration exported (declaration.Function (erased_function of)) ∷ []
erased_declaration exported (declaration.Class of) = item.Declaration exported (declaration.Class (erased_class of)) ∷ []
erased_declaration exported (declaration.Interface of) = []
erased_declaration exported (declaration.Alias of) = []

abbrev pub erased_item : Item → List Item
erased_item (item.Import of) = erased_import of
erased_item (item.ExportList of) = erased_export_list of
erased_item (item.Declaration exported of) = erased_declaration exported of
erased_item (item.Stmt of) = item.Stmt (erased_stmt of) ∷ []

-- an import or an export
abbrev pub is_module_item : Item → Bool
is_module_item (item.Import of) = true
is_module_item (item.ExportList of) = true
is_module_item (item.Declaration exported of) = exported
is_module_item (item.Stmt of) = false

-- where none is left, `export {};` is added at the end, so that the file stays a module
abbrev pub empty_export : Item
empty_export = item.ExportList (record { at = 0; type_only = false; specs = []; from = None })

abbrev pub as_module : List Item → List Item
as_module items = if list_any is_module_item items then items else items ++ empty_export ∷ []

abbrev pub erase : File → File
erase file = record { items = as_module (flat_map erased_item file.items) }

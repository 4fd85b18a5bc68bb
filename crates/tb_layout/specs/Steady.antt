-- Which trees have no list of parameters with a `?` after a `=`: what is left of such a list without its types is one of the language
-- again, in which behind a parameter with `=` each has one. Each function for expressions and statements says it of one layer of a tree.
use Rattle.std.specs.Prelude.{Bool, true, false, not, ◌&&◌, ◌||◌, List, [], ◌∷◌, map, Option, Some, None}
use Rattle.std.specs.List.{list_all}
use Rattle.tb_tree.specs.declared.exprs.ArrowBody.TheOpen.{ArrowBody-F, BlockItem-F, Clause-F, Expr-F, ForStart-F, Prop-F, Stmt-F, Block-F, Declarator-F, Function-F, Param-F, TemplateSpan-F, Var-F}
use Rattle.tb_tree.specs.declared.exprs.ArrowBody.{ArrowBody, fold-ArrowBody}
use Rattle.tb_tree.specs.declared.exprs.BlockItem.{BlockItem, fold-BlockItem}
use Rattle.tb_tree.specs.declared.exprs.Clause.{Clause, fold-Clause}
use Rattle.tb_tree.specs.declared.exprs.Expr.{Expr, fold-Expr}
use Rattle.tb_tree.specs.declared.exprs.ForStart.{ForStart, fold-ForStart}
use Rattle.tb_tree.specs.declared.exprs.Prop.{Prop, fold-Prop}
use Rattle.tb_tree.specs.declared.exprs.Stmt.{Stmt, fold-Stmt}
use Rattle.tb_tree.specs.declared.exprs.Block.{Block, fold-Block}
use Rattle.tb_tree.specs.declared.exprs.Declarator.{Declarator, fold-Declarator}
use Rattle.tb_tree.specs.declared.exprs.Function.{Function, fold-Function}
use Rattle.tb_tree.specs.declared.exprs.Param.{Param, fold-Param}
use Rattle.tb_tree.specs.declared.exprs.TemplateSpan.{TemplateSpan, fold-TemplateSpan}
use Rattle.tb_tree.specs.declared.exprs.Var.{Var, fold-Var}
use Rattle.tb_tree.specs.declared.items.ClassMember.{ClassMember}
use Rattle.tb_tree.specs.declared.items.ClassMember.TheVariants as class_member
use Rattle.tb_tree.specs.declared.items.ClassDeclaration.{ClassDeclaration}
use Rattle.tb_tree.specs.declared.items.Declaration.{Declaration}
use Rattle.tb_tree.specs.declared.items.Declaration.TheVariants as declaration
use Rattle.tb_tree.specs.declared.items.Item.{Item}
use Rattle.tb_tree.specs.declared.items.Item.TheVariants as item
use Rattle.tb_tree.specs.declared.items.File.{File}

-- what is asked of a parameter: whether it has `?`, whether it has `=`, and whether its value is steady
pub record ParamForm : Type 0 where
  pub optional : Bool
  pub valued : Bool
  pub steady : Bool

-- the flag says whether an earlier parameter has `=`
abbrev pub are_params_steady : Bool → List ParamForm → Bool
are_params_steady valued [] = true
are_params_steady valued (of ∷ rest) = not (valued && of.optional) && (of.steady && are_params_steady (valued || of.valued) rest)

abbrev pub are_steady : List Bool → Bool
are_steady parts = list_all (λ (x : Bool). x) parts

abbrev pub is_steady_part : Option Bool → Bool
is_steady_part None = true
is_steady_part (Some part) = part

abbrev pub has_part : Option Bool → Bool
has_part None = false
has_part (Some part) = true

abbrev pub steady_arrow_body_layer : ArrowBody-F Bool Bool Bool Bool Bool Bool Bool Bool Bool Bool ParamForm Bool Bool → Bool
steady_arrow_body_layer (ArrowBody-F.«ArrowBody::Block» of) = of
steady_arrow_body_layer (ArrowBody-F.«ArrowBody::Expr» of) = of

abbrev pub steady_block_item_layer : BlockItem-F Bool Bool Bool Bool Bool Bool Bool Bool Bool Bool ParamForm Bool Bool → Bool
steady_block_item_layer (BlockItem-F.«BlockItem::Var» of) = of
steady_block_item_layer (BlockItem-F.Function of) = of
steady_block_item_layer (BlockItem-F.Stmt of) = of

abbrev pub steady_clause_layer : Clause-F Bool Bool Bool Bool Bool Bool Bool Bool Bool Bool ParamForm Bool Bool → Bool
steady_clause_layer (Clause-F.Case at value items) = value && are_steady items
steady_clause_layer (Clause-F.Default at items) = are_steady items

abbrev pub steady_expr_layer : Expr-F Bool Bool Bool Bool Bool Bool Bool Bool Bool Bool ParamForm Bool Bool → Bool
steady_expr_layer (Expr-F.Name at name) = true
steady_expr_layer (Expr-F.This at) = true
steady_expr_layer (Expr-F.Null at) = true
steady_expr_layer (Expr-F.Undefined at) = true
steady_expr_layer (Expr-F.Boolean at value) = true
steady_expr_layer (Expr-F.Number at spelled) = true
steady_expr_layer (Expr-F.String at spelled) = true
steady_expr_layer (Expr-F.Template at head spans) = are_steady spans
steady_expr_layer (Expr-F.Parens at inner) = inner
steady_expr_layer (Expr-F.Array at elements) = are_steady elements
steady_expr_layer (Expr-F.Object at props) = are_steady props
steady_expr_layer (Expr-F.New at class arguments) = are_steady arguments
steady_expr_layer (Expr-F.Member at base member) = base
steady_expr_layer (Expr-F.Index at base index) = base && index
steady_expr_layer (Expr-F.Call at callee type_arguments arguments) = callee && are_steady arguments
steady_expr_layer (Expr-F.Unary at operator operand) = operand
steady_expr_layer (Expr-F.Update at operator before target) = target
steady_expr_layer (Expr-F.Binary at left operator right) = left && right
steady_expr_layer (Expr-F.As at value shape) = value
steady_expr_layer (Expr-F.Conditional at condition chosen otherwise) = condition && (chosen && otherwise)
steady_expr_layer (Expr-F.Assign at target operator value) = target && value
steady_expr_layer (Expr-F.Arrow at params result of) = are_params_steady false params && of

abbrev pub steady_start_layer : ForStart-F Bool Bool Bool Bool Bool Bool Bool Bool Bool Bool ParamForm Bool Bool → Bool
steady_start_layer (ForStart-F.«ForStart::Var» of) = of
steady_start_layer (ForStart-F.«ForStart::Expr» of) = of
steady_start_layer ForStart-F.Nothing = true

abbrev pub steady_prop_layer : Prop-F Bool Bool Bool Bool Bool Bool Bool Bool Bool Bool ParamForm Bool Bool → Bool
steady_prop_layer (Prop-F.Valued at key value) = value
steady_prop_layer (Prop-F.Short at name) = true

abbrev pub steady_stmt_layer : Stmt-F Bool Bool Bool Bool Bool Bool Bool Bool Bool Bool ParamForm Bool Bool → Bool
steady_stmt_layer (Stmt-F.«Stmt::Block» of) = of
steady_stmt_layer (Stmt-F.If at condition chosen otherwise) = condition && (chosen && is_steady_part otherwise)
steady_stmt_layer (Stmt-F.While at condition of) = condition && of
steady_stmt_layer (Stmt-F.Do at of condition) = of && condition
steady_stmt_layer (Stmt-F.For at first condition step of) = first && (is_steady_part condition && (is_steady_part step && of))
steady_stmt_layer (Stmt-F.ForOf at kind element subject of) = subject && of
steady_stmt_layer (Stmt-F.Return at value) = is_steady_part value
steady_stmt_layer (Stmt-F.Break at) = true
steady_stmt_layer (Stmt-F.Continue at) = true
steady_stmt_layer (Stmt-F.Throw at value) = value
steady_stmt_layer (Stmt-F.Switch at subject clauses) = subject && are_steady clauses
steady_stmt_layer (Stmt-F.«Stmt::Expr» at value) = value
steady_stmt_layer (Stmt-F.Empty at) = true

abbrev pub steady_block_layer : Block-F Bool Bool Bool Bool Bool Bool Bool Bool Bool Bool ParamForm Bool Bool → Bool
steady_block_layer layer = are_steady layer.items

abbrev pub steady_declarator_layer : Declarator-F Bool Bool Bool Bool Bool Bool Bool Bool Bool Bool ParamForm Bool Bool → Bool
steady_declarator_layer layer = is_steady_part layer.value

abbrev pub steady_function_layer : Function-F Bool Bool Bool Bool Bool Bool Bool Bool Bool Bool ParamForm Bool Bool → Bool
steady_function_layer layer = are_params_steady false layer.params && layer.body

abbrev pub steady_param_layer : Param-F Bool Bool Bool Bool Bool Bool Bool Bool Bool Bool ParamForm Bool Bool → ParamForm
steady_param_layer layer = record { optional = layer.optional; valued = has_part layer.value; steady = is_steady_part layer.value }

abbrev pub steady_span_layer : TemplateSpan-F Bool Bool Bool Bool Bool Bool Bool Bool Bool Bool ParamForm Bool Bool → Bool
steady_span_layer layer = layer.value

abbrev pub steady_var_layer : Var-F Bool Bool Bool Bool Bool Bool Bool Bool Bool Bool ParamForm Bool Bool → Bool
steady_var_layer layer = are_steady layer.declarators

unfoldable pub steady_arrow_body : ArrowBody → Bool
steady_arrow_body = fold-ArrowBody Bool Bool Bool Bool Bool Bool Bool Bool Bool Bool ParamForm Bool Bool steady_arrow_body_layer steady_block_item_layer steady_clause_layer steady_expr_layer steady_start_layer steady_prop_layer steady_stmt_layer steady_block_layer steady_declarator_layer steady_function_layer steady_param_layer steady_span_layer steady_var_layer

unfoldable pub steady_block_item : BlockItem → Bool
steady_block_item = fold-BlockItem Bool Bool Bool Bool Bool Bool Bool Bool Bool Bool ParamForm Bool Bool steady_arrow_body_layer steady_block_item_layer steady_clause_layer steady_expr_layer steady_start_layer steady_prop_layer steady_stmt_layer steady_block_layer steady_declarator_layer steady_function_layer steady_param_layer steady_span_layer steady_var_layer

unfoldable pub steady_clause : Clause → Bool
steady_clause = fold-Clause Bool Bool Bool Bool Bool Bool Bool Bool Bool Bool ParamForm Bool Bool steady_arrow_body_layer steady_block_item_layer steady_clause_layer steady_expr_layer steady_start_layer steady_prop_layer steady_stmt_layer steady_block_layer steady_declarator_layer steady_function_layer steady_param_layer steady_span_layer steady_var_layer

unfoldable pub steady_expr : Expr → Bool
steady_expr = fold-Expr Bool Bool Bool Bool Bool Bool Bool Bool Bool Bool ParamForm Bool Bool steady_arrow_body_layer steady_block_item_layer steady_clause_layer steady_expr_layer steady_start_layer steady_prop_layer steady_stmt_layer steady_block_layer steady_declarator_layer steady_function_layer steady_param_layer steady_span_layer steady_var_layer

unfoldable pub steady_start : ForStart → Bool
steady_start = fold-ForStart Bool Bool Bool Bool Bool Bool Bool Bool Bool Bool ParamForm Bool Bool steady_arrow_body_layer steady_block_item_layer steady_clause_layer steady_expr_layer steady_start_layer steady_prop_layer steady_stmt_layer steady_block_layer steady_declarator_layer steady_function_layer steady_param_layer steady_span_layer steady_var_layer

unfoldable pub steady_prop : Prop → Bool
steady_prop = fold-Prop Bool Bool Bool Bool Bool Bool Bool Bool Bool Bool ParamForm Bool Bool steady_arrow_body_layer steady_block_item_layer steady_clause_layer steady_expr_layer steady_start_layer steady_prop_layer steady_stmt_layer steady_block_layer steady_declarator_layer steady_function_layer steady_param_layer steady_span_layer steady_var_layer

unfoldable pub steady_stmt : Stmt → Bool
steady_stmt = fold-Stmt Bool Bool Bool Bool Bool Bool Bool Bool Bool Bool ParamForm Bool Bool steady_arrow_body_layer steady_block_item_layer steady_clause_layer steady_expr_layer steady_start_layer steady_prop_layer steady_stmt_layer steady_block_layer steady_declarator_layer steady_function_layer steady_param_layer steady_span_layer steady_var_layer

unfoldable pub steady_block : Block → Bool
steady_block = fold-Block Bool Bool Bool Bool Bool Bool Bool Bool Bool Bool ParamForm Bool Bool steady_arrow_body_layer steady_block_item_layer steady_clause_layer steady_expr_layer steady_start_layer steady_prop_layer steady_stmt_layer steady_block_layer steady_declarator_layer steady_function_layer steady_param_layer steady_span_layer steady_var_layer

unfoldable pub steady_declarator : Declarator → Bool
steady_declarator = fold-Declarator Bool Bool Bool Bool Bool Bool Bool Bool Bool Bool ParamForm Bool Bool steady_arrow_body_layer steady_block_item_layer steady_clause_layer steady_expr_layer steady_start_layer steady_prop_layer steady_stmt_layer steady_block_layer steady_declarator_layer steady_function_layer steady_param_layer steady_span_layer steady_var_layer

unfoldable pub steady_function : Function → Bool
steady_function = fold-Function Bool Bool Bool Bool Bool Bool Bool Bool Bool Bool ParamForm Bool Bool steady_arrow_body_layer steady_block_item_layer steady_clause_layer steady_expr_layer steady_start_layer steady_prop_layer steady_stmt_layer steady_block_layer steady_declarator_layer steady_function_layer steady_param_layer steady_span_layer steady_var_layer

unfoldable pub steady_param : Param → ParamForm
steady_param = fold-Param Bool Bool Bool Bool Bool Bool Bool Bool Bool Bool ParamForm Bool Bool steady_arrow_body_layer steady_block_item_layer steady_clause_layer steady_expr_layer steady_start_layer steady_prop_layer steady_stmt_layer steady_block_layer steady_declarator_layer steady_function_layer steady_param_layer steady_span_layer steady_var_layer

unfoldable pub steady_span : TemplateSpan → Bool
steady_span = fold-TemplateSpan Bool Bool Bool Bool Bool Bool Bool Bool Bool Bool ParamForm Bool Bool steady_arrow_body_layer steady_block_item_layer steady_clause_layer steady_expr_layer steady_start_layer steady_prop_layer steady_stmt_layer steady_block_layer steady_declarator_layer steady_function_layer steady_param_layer steady_span_layer steady_var_layer

unfoldable pub steady_var : Var → Bool
steady_var = fold-Var Bool Bool Bool Bool Bool Bool Bool Bool Bool Bool ParamForm Bool Bool steady_arrow_body_layer steady_block_item_layer steady_clause_layer steady_expr_layer steady_start_layer steady_prop_layer steady_stmt_layer steady_block_layer steady_declarator_layer steady_function_layer steady_param_layer steady_span_layer steady_var_layer

abbrev pub steady_optional : Option Expr → Bool
steady_optional None = true
steady_optional (Some of) = steady_expr of

-- ---- items

abbrev pub is_steady_member : ClassMember → Bool
is_steady_member (class_member.Field at is_static read_only name optional annotation value) = steady_optional value
is_steady_member (class_member.Constructor at params of) = are_params_steady false (map steady_param params) && steady_block of
is_steady_member (class_member.Method at is_static name params result of) = are_params_steady false (map steady_param params) && steady_block of

abbrev pub is_steady_declaration : Declaration → Bool
is_steady_declaration (declaration.Var of) = steady_var of
is_steady_declaration (declaration.Function of) = steady_function of
is_steady_declaration (declaration.Class of) = list_all is_steady_member of.members
is_steady_declaration (declaration.Interface of) = true
is_steady_declaration (declaration.Alias of) = true

abbrev pub is_steady_item : Item → Bool
is_steady_item (item.Import of) = true
is_steady_item (item.ExportList of) = true
is_steady_item (item.Declaration exported of) = is_steady_declaration of
is_steady_item (item.Stmt of) = steady_stmt of

abbrev pub is_steady_file : File → Bool
is_steady_file of = list_all is_steady_item of.items

-- Plain files: exported constants whose value is a literal, without an annotation or with that of the literal's base type; exported aliases
-- of base types; exported interfaces of properties with base types. No name of a file and no member of an interface occurs twice. This
-- project's own.
use Rattle.std.specs.Prelude.{◌≡◌, Bool, true, false, not, ◌&&◌, ◌||◌, List, [], ◌∷◌, map, flat_map, Option, Some, None, ℕ}
use Rattle.std.specs.List.{list_all, list_any}
use Rattle.std.specs.Str.{bytes_eq}
use Rattle.tb_tree.specs.declared.types.TypeKeyword.{TypeKeyword}
use Rattle.tb_tree.specs.declared.types.TypeKeyword.TheVariants as keyword
use Rattle.tb_tree.specs.declared.types.Key.{Key}
use Rattle.tb_tree.specs.declared.types.Key.TheVariants as key
use Rattle.tb_tree.specs.declared.types.TypeExpr.{TypeExpr, out-TypeExpr}
use Rattle.tb_tree.specs.declared.types.TypeExpr.TheOpen.{TypeExpr-F, TypeMember-F}
use Rattle.tb_tree.specs.declared.types.TypeMember.{TypeMember, out-TypeMember}
use Rattle.tb_tree.specs.declared.types.TypeParam.{TypeParam}
use Rattle.tb_tree.specs.declared.exprs.Identifier.{Identifier}
use Rattle.tb_tree.specs.declared.exprs.ArrowBody.TheOpen.{Expr-F, Declarator-F, Var-F}
use Rattle.tb_tree.specs.declared.exprs.ArrowBody.{ArrowBody}
use Rattle.tb_tree.specs.declared.exprs.BlockItem.{BlockItem}
use Rattle.tb_tree.specs.declared.exprs.Clause.{Clause}
use Rattle.tb_tree.specs.declared.exprs.Expr.{Expr, out-Expr}
use Rattle.tb_tree.specs.declared.exprs.ForStart.{ForStart}
use Rattle.tb_tree.specs.declared.exprs.Prop.{Prop}
use Rattle.tb_tree.specs.declared.exprs.Stmt.{Stmt}
use Rattle.tb_tree.specs.declared.exprs.Block.{Block}
use Rattle.tb_tree.specs.declared.exprs.Declarator.{Declarator, out-Declarator}
use Rattle.tb_tree.specs.declared.exprs.Function.{Function}
use Rattle.tb_tree.specs.declared.exprs.Param.{Param}
use Rattle.tb_tree.specs.declared.exprs.TemplateSpan.{TemplateSpan}
use Rattle.tb_tree.specs.declared.exprs.Var.{Var, out-Var}
use Rattle.tb_tree.specs.declared.exprs.VarKind.{VarKind}
use Rattle.tb_tree.specs.declared.exprs.VarKind.TheVariants as var_kind
use Rattle.tb_tree.specs.declared.items.Base.{Base}
use Rattle.tb_tree.specs.declared.items.Interface.{Interface}
use Rattle.tb_tree.specs.declared.items.Alias.{Alias}
use Rattle.tb_tree.specs.declared.items.Declaration.{Declaration}
use Rattle.tb_tree.specs.declared.items.Declaration.TheVariants as declaration
use Rattle.tb_tree.specs.declared.items.Item.{Item}
use Rattle.tb_tree.specs.declared.items.Item.TheVariants as item
use Rattle.tb_tree.specs.declared.items.File.{File}
use Rattle.tb_plain.specs.Written.{IsWrittenPlainly}

-- no text occurs twice
abbrev pub all_differ : List (List ℕ) → Bool
all_differ [] = true
all_differ (x ∷ xs) = not (list_any (λ y. bytes_eq x y) xs) && all_differ xs

-- ---- base types and literals

abbrev pub is_base : TypeKeyword → Bool
is_base keyword.Number = true
is_base keyword.String = true
is_base keyword.Boolean = true
is_base _ = false

abbrev pub is_base_at : TypeExpr-F TypeExpr TypeMember TypeParam → Bool
is_base_at (TypeExpr-F.Keyword at keyword) = is_base keyword
is_base_at _ = false

abbrev pub is_base_type : TypeExpr → Bool
is_base_type of = is_base_at (out-TypeExpr of)

abbrev pub is_number_at : Expr-F ArrowBody BlockItem Clause Expr ForStart Prop Stmt Block Declarator Function Param TemplateSpan Var → Bool
is_number_at (Expr-F.Number at spelled) = true
is_number_at _ = false

abbrev pub is_number : Expr → Bool
is_number of = is_number_at (out-Expr of)

abbrev pub is_string_at : Expr-F ArrowBody BlockItem Clause Expr ForStart Prop Stmt Block Declarator Function Param TemplateSpan Var → Bool
is_string_at (Expr-F.String at spelled) = true
is_string_at _ = false

abbrev pub is_string : Expr → Bool
is_string of = is_string_at (out-Expr of)

-- `true` or `false`
abbrev pub is_truth_at : Expr-F ArrowBody BlockItem Clause Expr ForStart Prop Stmt Block Declarator Function Param TemplateSpan Var → Bool
is_truth_at (Expr-F.Boolean at value) = true
is_truth_at _ = false

abbrev pub is_truth : Expr → Bool
is_truth of = is_truth_at (out-Expr of)

abbrev pub is_literal : Expr → Bool
is_literal of = is_number of || is_string of || is_truth of

-- a literal of the base type of this word
abbrev pub is_literal_of : TypeKeyword → Expr → Bool
is_literal_of keyword.Number of = is_number of
is_literal_of keyword.String of = is_string of
is_literal_of keyword.Boolean of = is_truth of
is_literal_of _ of = false

-- ---- constants

abbrev pub has_type_at : TypeExpr-F TypeExpr TypeMember TypeParam → Expr → Bool
has_type_at (TypeExpr-F.Keyword at keyword) value = is_literal_of keyword value
has_type_at _ value = false

abbrev pub has_type : TypeExpr → Expr → Bool
has_type shape value = has_type_at (out-TypeExpr shape) value

-- a literal, of the annotation's type where there is one
abbrev pub is_plain_value : Option TypeExpr → Expr → Bool
is_plain_value None value = is_literal value
is_plain_value (Some shape) value = has_type shape value

abbrev pub is_initialized : Option TypeExpr → Option Expr → Bool
is_initialized annotation None = false
is_initialized annotation (Some value) = is_plain_value annotation value

abbrev pub is_constant_at : Declarator-F ArrowBody BlockItem Clause Expr ForStart Prop Stmt Block Declarator Function Param TemplateSpan Var → Bool
is_constant_at of = is_initialized of.annotation of.value

abbrev pub is_constant : Declarator → Bool
is_constant of = is_constant_at (out-Declarator of)

-- there is one declarator
abbrev pub is_one_constant : List Declarator → Bool
is_one_constant (of ∷ []) = is_constant of
is_one_constant _ = false

abbrev pub are_constant : VarKind → List Declarator → Bool
are_constant var_kind.Const declarators = is_one_constant declarators
are_constant var_kind.Let declarators = false

abbrev pub is_plain_var_at : Var-F ArrowBody BlockItem Clause Expr ForStart Prop Stmt Block Declarator Function Param TemplateSpan Var → Bool
is_plain_var_at of = are_constant of.kind of.declarators

abbrev pub is_plain_var : Var → Bool
is_plain_var of = is_plain_var_at (out-Var of)

-- ---- interfaces and aliases

abbrev pub is_property : Key → TypeExpr → Bool
is_property (key.Word name) shape = is_base_type shape
is_property (key.String spelled) shape = false

-- neither `readonly` nor with `?`
abbrev pub is_plain_member_at : TypeMember-F TypeExpr TypeMember TypeParam → Bool
is_plain_member_at (TypeMember-F.Property at false of false shape) = is_property of shape
is_plain_member_at _ = false

abbrev pub is_plain_member : TypeMember → Bool
is_plain_member of = is_plain_member_at (out-TypeMember of)

abbrev pub key_text : Key → List ℕ
key_text (key.Word name) = name
key_text (key.String spelled) = spelled

abbrev pub member_key_at : TypeMember-F TypeExpr TypeMember TypeParam → List ℕ
member_key_at (TypeMember-F.Property at read_only of optional shape) = key_text of
member_key_at (TypeMember-F.Method at of optional params result) = key_text of

abbrev pub member_key : TypeMember → List ℕ
member_key of = member_key_at (out-TypeMember of)

-- without type variables and bases
abbrev pub is_body : List Identifier → List Base → List TypeMember → Bool
is_body [] [] members = list_all is_plain_member members && all_differ (map member_key members)
is_body _ _ members = false

abbrev pub is_plain_interface : Interface → Bool
is_plain_interface of = is_body of.variables of.extends of.members

abbrev pub is_named : List Identifier → TypeExpr → Bool
is_named [] shape = is_base_type shape
is_named (variable ∷ rest) shape = false

abbrev pub is_plain_alias : Alias → Bool
is_plain_alias of = is_named of.variables of.shape

-- ---- files

abbrev pub is_plain_declaration : Declaration → Bool
is_plain_declaration (declaration.Var of) = is_plain_var of
is_plain_declaration (declaration.Interface of) = is_plain_interface of
is_plain_declaration (declaration.Alias of) = is_plain_alias of
is_plain_declaration (declaration.Function of) = false
is_plain_declaration (declaration.Class of) = false

abbrev pub is_plain_item : Item → Bool
is_plain_item (item.Declaration true of) = is_plain_declaration of
is_plain_item (item.Declaration false of) = false
is_plain_item (item.Import of) = false
is_plain_item (item.ExportList of) = false
is_plain_item (item.Stmt of) = false

abbrev pub declarator_name_at : Declarator-F ArrowBody BlockItem Clause Expr ForStart Prop Stmt Block Declarator Function Param TemplateSpan Var → List ℕ
declarator_name_at of = of.name

abbrev pub declarator_name : Declarator → List ℕ
declarator_name of = declarator_name_at (out-Declarator of)

abbrev pub var_names_at : Var-F ArrowBody BlockItem Clause Expr ForStart Prop Stmt Block Declarator Function Param TemplateSpan Var → List (List ℕ)
var_names_at of = map declarator_name of.declarators

abbrev pub var_names : Var → List (List ℕ)
var_names of = var_names_at (out-Var of)

-- the names that a plain item declares
abbrev pub declared_names : Declaration → List (List ℕ)
declared_names (declaration.Var of) = var_names of
declared_names (declaration.Interface of) = of.name ∷ []
declared_names (declaration.Alias of) = of.name ∷ []
declared_names (declaration.Function of) = []
declared_names (declaration.Class of) = []

abbrev pub item_names : Item → List (List ℕ)
item_names (item.Declaration exported of) = declared_names of
item_names (item.Import of) = []
item_names (item.ExportList of) = []
item_names (item.Stmt of) = []

abbrev pub has_plain_items : File → Bool
has_plain_items file = list_all is_plain_item file.items && all_differ (flat_map item_names file.items)

-- a text that reads as this file is plain: its tree is, and it is written so
pub record IsPlain (text : List ℕ) (file : File) : Type 0 where
  pub items : has_plain_items file ≡ true
  pub written : IsWrittenPlainly text

-- The top-level declarations of a file as others may see them, one by one, and the names in their types: what stands in annotations, and
-- after `extends` and `implements`. Bodies and initializers are not seen. This project's own.
use Rattle.std.specs.Prelude.{ℕ, Bool, true, false, not, List, [], ◌∷◌, ◌++◌, map, flat_map, filter, Option, Some, None}
use Rattle.std.specs.List.{list_any}
use Rattle.std.specs.Str.{bytes_eq}
use Rattle.tb_tree.specs.declared.types.TypeExpr.{TypeExpr, fold-TypeExpr}
use Rattle.tb_tree.specs.declared.types.TypeExpr.TheOpen.{TypeExpr-F, TypeMember-F, TypeParam-F}
use Rattle.tb_tree.specs.declared.types.TypeMember.{TypeMember, fold-TypeMember}
use Rattle.tb_tree.specs.declared.types.TypeParam.{TypeParam, fold-TypeParam}
use Rattle.tb_tree.specs.declared.exprs.Identifier.{Identifier}
use Rattle.tb_tree.specs.declared.exprs.VarKind.{VarKind}
use Rattle.tb_tree.specs.declared.exprs.Declarator.{Declarator, out-Declarator}
use Rattle.tb_tree.specs.declared.exprs.Function.{Function, out-Function}
use Rattle.tb_tree.specs.declared.exprs.Param.{Param, out-Param}
use Rattle.tb_tree.specs.declared.exprs.Var.{out-Var}
use Rattle.tb_tree.specs.declared.items.Spec.{Spec}
use Rattle.tb_tree.specs.declared.items.Specifier.{Specifier}
use Rattle.tb_tree.specs.declared.items.Base.{Base}
use Rattle.tb_tree.specs.declared.items.ClassMember.{ClassMember}
use Rattle.tb_tree.specs.declared.items.ClassMember.TheVariants as class_member
use Rattle.tb_tree.specs.declared.items.ClassDeclaration.{ClassDeclaration}
use Rattle.tb_tree.specs.declared.items.Interface.{Interface}
use Rattle.tb_tree.specs.declared.items.Alias.{Alias}
use Rattle.tb_tree.specs.declared.items.Declaration.{Declaration}
use Rattle.tb_tree.specs.declared.items.Declaration.TheVariants as declaration
use Rattle.tb_tree.specs.declared.items.Item.{Item}
use Rattle.tb_tree.specs.declared.items.Item.TheVariants as item
use Rattle.tb_tree.specs.declared.items.File.{File}

-- a declaration of one name
pub data Part : Type 0 where
  VariablePart : VarKind → Declarator → Part
  FunctionPart : Function → Part
  ClassPart : ClassDeclaration → Part
  InterfacePart : Interface → Part
  AliasPart : Alias → Part

-- each declarator is one by itself
abbrev pub parts_of : Declaration → List Part
parts_of (declaration.Var of) = let opened = out-Var of in map (VariablePart opened.kind) opened.declarators
parts_of (declaration.Function of) = FunctionPart of ∷ []
parts_of (declaration.Class of) = ClassPart of ∷ []
parts_of (declaration.Interface of) = InterfacePart of ∷ []
parts_of (declaration.Alias of) = AliasPart of ∷ []

abbrev pub variable_name : Declarator → List ℕ
variable_name of = let opened = out-Declarator of in opened.name

abbrev pub function_name : Function → List ℕ
function_name of = let opened = out-Function of in opened.name

abbrev pub part_name : Part → List ℕ
part_name (VariablePart kind of) = variable_name of
part_name (FunctionPart of) = function_name of
part_name (ClassPart of) = of.name
part_name (InterfacePart of) = of.name
part_name (AliasPart of) = of.name

-- what a type may name
abbrev pub is_type_part : Part → Bool
is_type_part (VariablePart kind of) = false
is_type_part (FunctionPart of) = false
is_type_part (ClassPart of) = true
is_type_part (InterfacePart of) = true
is_type_part (AliasPart of) = true

-- ---- the names in types

abbrev pub all_names : List (List (List ℕ)) → List (List ℕ)
all_names lists = flat_map (λ names. names) lists

abbrev pub type_names_layer : TypeExpr-F (List (List ℕ)) (List (List ℕ)) (List (List ℕ)) → List (List ℕ)
type_names_layer (TypeExpr-F.Keyword at keyword) = []
type_names_layer (TypeExpr-F.Boolean at value) = []
type_names_layer (TypeExpr-F.String at spelled) = []
type_names_layer (TypeExpr-F.Integer at minus digits) = []
type_names_layer (TypeExpr-F.Written at name arguments) = name ∷ all_names arguments
type_names_layer (TypeExpr-F.Array at read_only element) = element
type_names_layer (TypeExpr-F.Function at params result) = all_names params ++ result
type_names_layer (TypeExpr-F.Object at members) = all_names members
type_names_layer (TypeExpr-F.Union at parts) = all_names parts
type_names_layer (TypeExpr-F.Named path name arguments) = all_names arguments
type_names_layer (TypeExpr-F.Class path name) = []
type_names_layer (TypeExpr-F.Param owner name) = []
type_names_layer (TypeExpr-F.Generic path name) = []

abbrev pub member_names_layer : TypeMember-F (List (List ℕ)) (List (List ℕ)) (List (List ℕ)) → List (List ℕ)
member_names_layer (TypeMember-F.Property at read_only key optional shape) = shape
member_names_layer (TypeMember-F.Method at key optional params result) = all_names params ++ result

abbrev pub param_names_layer : TypeParam-F (List (List ℕ)) (List (List ℕ)) (List (List ℕ)) → List (List ℕ)
param_names_layer layer = layer.shape

unfoldable pub type_names : TypeExpr → List (List ℕ)
type_names = fold-TypeExpr (List (List ℕ)) (List (List ℕ)) (List (List ℕ)) type_names_layer member_names_layer param_names_layer

unfoldable pub member_names : TypeMember → List (List ℕ)
member_names = fold-TypeMember (List (List ℕ)) (List (List ℕ)) (List (List ℕ)) type_names_layer member_names_layer param_names_layer

unfoldable pub type_param_names : TypeParam → List (List ℕ)
type_param_names = fold-TypeParam (List (List ℕ)) (List (List ℕ)) (List (List ℕ)) type_names_layer member_names_layer param_names_layer

abbrev pub annotation_names : Option TypeExpr → List (List ℕ)
annotation_names None = []
annotation_names (Some of) = type_names of

abbrev pub param_names : Param → List (List ℕ)
param_names of = let opened = out-Param of in annotation_names opened.annotation

abbrev pub base_names : Base → List (List ℕ)
base_names of = of.name ∷ flat_map type_names of.arguments

abbrev pub class_member_names : ClassMember → List (List ℕ)
class_member_names (class_member.Field at is_static read_only name optional annotation value) = annotation_names annotation
class_member_names (class_member.Constructor at params of) = flat_map param_names params
class_member_names (class_member.Method at is_static name params result of) = flat_map param_names params ++ annotation_names result

-- ---- the names that occur in a declaration

abbrev pub is_one_of : List (List ℕ) → List ℕ → Bool
is_one_of names name = list_any (bytes_eq name) names

abbrev pub identifier_name : Identifier → List ℕ
identifier_name of = of.name

-- a name that a type variable of the declaration binds does not count
abbrev pub unbound : List Identifier → List (List ℕ) → List (List ℕ)
unbound variables names = filter (λ name. not (is_one_of (map identifier_name variables) name)) names

abbrev pub variable_names : Declarator → List (List ℕ)
variable_names of = let opened = out-Declarator of in annotation_names opened.annotation

abbrev pub function_names : Function → List (List ℕ)
function_names of = let opened = out-Function of in unbound opened.variables (flat_map param_names opened.params ++ annotation_names opened.result)

abbrev pub class_names : ClassDeclaration → List (List ℕ)
class_names of = flat_map base_names of.implements ++ flat_map class_member_names of.members

abbrev pub interface_names : Interface → List (List ℕ)
interface_names of = unbound of.variables (flat_map base_names of.extends ++ flat_map member_names of.members)

abbrev pub alias_names : Alias → List (List ℕ)
alias_names of = unbound of.variables (type_names of.shape)

abbrev pub part_names : Part → List (List ℕ)
part_names (VariablePart kind of) = variable_names of
part_names (FunctionPart of) = function_names of
part_names (ClassPart of) = class_names of
part_names (InterfacePart of) = interface_names of
part_names (AliasPart of) = alias_names of

-- ---- the names in export lists

-- the name that a Spec has in this file: in an import the last word, in an export list without `from` the first
abbrev pub last_name : Identifier → Option Identifier → List ℕ
last_name name None = name.name
last_name name (Some renamed) = renamed.name

abbrev pub imported_name : Spec → List ℕ
imported_name of = last_name of.name of.renamed

abbrev pub exported_name : Spec → List ℕ
exported_name of = identifier_name of.name

-- the names that an export list without `from` names
abbrev pub names_listed : List Spec → Option Specifier → List (List ℕ)
names_listed specs None = map exported_name specs
names_listed specs (Some from) = []

abbrev pub item_listed : Item → List (List ℕ)
item_listed (item.Import of) = []
item_listed (item.ExportList of) = names_listed of.specs of.from
item_listed (item.Declaration exported of) = []
item_listed (item.Stmt of) = []

abbrev pub listed_names : File → List (List ℕ)
listed_names file = flat_map item_listed file.items

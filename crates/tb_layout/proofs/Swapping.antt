-- Quoting and losing offsets: either may come first. Types, and surfaces.
use Rattle.std.proofs.Common.{◌≡◌, ℕ, Bool, List, [], ◌∷◌, map, Option, Some, None, refl, sym, ap, ◌∙◌}
use Rattle.tb_tree.specs.declared.types.Key.{Key}
use Rattle.tb_tree.specs.declared.types.TypeKeyword.{TypeKeyword}
use Rattle.tb_tree.specs.declared.types.TypeExpr.{TypeExpr}
use Rattle.tb_tree.specs.declared.types.TypeExpr.TheVariants as t
use Rattle.tb_tree.specs.declared.types.TypeExpr.TheOpen.{TypeParam-F}
use Rattle.tb_tree.specs.declared.types.TypeMember.{TypeMember}
use Rattle.tb_tree.specs.declared.types.TypeMember.TheVariants as p
use Rattle.tb_tree.specs.declared.types.TypeParam.{TypeParam, roll-TypeParam}
use Rattle.tb_tree.specs.declared.items.Specifier.{Specifier}
use Rattle.tb_tree.specs.declared.items.Import.{Import}
use Rattle.tb_tree.specs.declared.items.Import.TheVariants as import_form
use Rattle.tb_tree.specs.declared.items.ExportList.{ExportList}
use Rattle.tb_tree.specs.declared.items.Base.{Base}
use Rattle.tb_tree.specs.declared.items.Interface.{Interface}
use Rattle.tb_tree.specs.declared.items.Alias.{Alias}
use Rattle.tb_tree.specs.declared.items.DeclaredMember.{DeclaredMember}
use Rattle.tb_tree.specs.declared.items.DeclaredMember.TheVariants as declared_member
use Rattle.tb_tree.specs.declared.items.DeclaredClass.{DeclaredClass}
use Rattle.tb_tree.specs.declared.items.Declared.{Declared}
use Rattle.tb_tree.specs.declared.items.Declared.TheVariants as declared
use Rattle.tb_tree.specs.declared.items.SurfaceItem.{SurfaceItem}
use Rattle.tb_tree.specs.declared.items.SurfaceItem.TheVariants as surface_item
use Rattle.tb_tree.specs.declared.items.Surface.{Surface}
use Rattle.tb_tree.specs.Bare.{bare_type, bare_member, bare_type_param, bare_identifier, bare_origin, bare_spec, bare_import, bare_export_list, bare_base, bare_interface, bare_alias, bare_declared_member, bare_declared_class, bare_declared, bare_surface_item, bare_surface}
use Rattle.tb_layout.specs.Quoted.{quoted, quoted_key, quoted_type, quoted_member, quoted_type_param, quoted_origin, quoted_import, quoted_export_list, quoted_base, quoted_interface, quoted_alias, quoted_declared_member, quoted_class, quoted_declared, quoted_surface_item, quoted_surface}
use Rattle.tb_layout.proofs.BaringTypes as b
use Rattle.tb_layout.proofs.Inducing.{Each, none, more, TypeCases, type_induction, member_induction, param_induction}
use Rattle.tb_layout.proofs.Quoting as q

-- ---- lists

each_swapped : {A : Type 0} (f g : A → A) {xs : List A} → Each A (λ x. f (g x) ≡ g (f x)) xs → map f (map g xs) ≡ map g (map f xs)
each_swapped f g none = refl
each_swapped f g (more same rest) = λ i. same i ∷ each_swapped f g rest i

all_swapped : {A : Type 0} (f g : A → A) → ((x : A) → f (g x) ≡ g (f x)) → (xs : List A) → map f (map g xs) ≡ map g (map f xs)
all_swapped f g same [] = refl
all_swapped f g same (x ∷ xs) = λ i. same x i ∷ all_swapped f g same xs i

-- ---- types

abbrev pub IsSwapped : TypeExpr → Type 0
IsSwapped of = bare_type (quoted_type of) ≡ quoted_type (bare_type of)

abbrev pub IsSwappedMember : TypeMember → Type 0
IsSwappedMember of = bare_member (quoted_member of) ≡ quoted_member (bare_member of)

abbrev pub IsSwappedParam : TypeParam → Type 0
IsSwappedParam of = bare_type_param (quoted_type_param of) ≡ quoted_type_param (bare_type_param of)

keyword_type_swapped : (at : ℕ) (keyword : TypeKeyword) → IsSwapped (t.Keyword at keyword)
keyword_type_swapped at keyword =
    ap bare_type (q.keyword_type at keyword)
    ∙ b.keyword_type at keyword
    ∙ sym (q.keyword_type 0 keyword)
    ∙ sym (ap quoted_type (b.keyword_type at keyword))

boolean_type_swapped : (at : ℕ) (value : Bool) → IsSwapped (t.Boolean at value)
boolean_type_swapped at value =
    ap bare_type (q.boolean_type at value)
    ∙ b.boolean_type at value
    ∙ sym (q.boolean_type 0 value)
    ∙ sym (ap quoted_type (b.boolean_type at value))

string_type_swapped : (at : ℕ) (spelled : List ℕ) → IsSwapped (t.String at spelled)
string_type_swapped at spelled =
    ap bare_type (q.string_type at spelled)
    ∙ b.string_type at (quoted spelled)
    ∙ sym (q.string_type 0 spelled)
    ∙ sym (ap quoted_type (b.string_type at spelled))

integer_type_swapped : (at : ℕ) (minus : Bool) (digits : List ℕ) → IsSwapped (t.Integer at minus digits)
integer_type_swapped at minus digits =
    ap bare_type (q.integer_type at minus digits)
    ∙ b.integer_type at minus digits
    ∙ sym (q.integer_type 0 minus digits)
    ∙ sym (ap quoted_type (b.integer_type at minus digits))

written_type_swapped : (at : ℕ) (name : List ℕ) (arguments : List TypeExpr) → Each TypeExpr IsSwapped arguments → IsSwapped (t.Written at name arguments)
written_type_swapped at name arguments all_arguments =
    ap bare_type (q.written_type at name arguments)
    ∙ b.written_type at name (map quoted_type arguments)
    ∙ ap (λ part. t.Written 0 name part) (each_swapped bare_type quoted_type all_arguments)
    ∙ sym (q.written_type 0 name (map bare_type arguments))
    ∙ sym (ap quoted_type (b.written_type at name arguments))

array_type_swapped : (at : ℕ) (read_only : Bool) (element : TypeExpr) → IsSwapped element → IsSwapped (t.Array at read_only element)
array_type_swapped at read_only element same_element =
    ap bare_type (q.array_type at read_only element)
    ∙ b.array_type at read_only (quoted_type element)
    ∙ ap (λ part. t.Array 0 read_only part) same_element
    ∙ sym (q.array_type 0 read_only (bare_type element))
    ∙ sym (ap quoted_type (b.array_type at read_only element))

function_type_swapped : (at : ℕ) (params : List TypeParam) (result : TypeExpr) → Each TypeParam IsSwappedParam params → IsSwapped result → IsSwapped (t.Function at params result)
function_type_swapped at params result all_params same_result =
    ap bare_type (q.function_type at params result)
    ∙ b.function_type at (map quoted_type_param params) (quoted_type result)
    ∙ ap (λ part. t.Function 0 part (bare_type (quoted_type result))) (each_swapped bare_type_param quoted_type_param all_params)
    ∙ ap (λ part. t.Function 0 (map quoted_type_param (map bare_type_param params)) part) same_result
    ∙ sym (q.function_type 0 (map bare_type_param params) (bare_type result))
    ∙ sym (ap quoted_type (b.function_type at params result))

object_type_swapped : (at : ℕ) (members : List TypeMember) → Each TypeMember IsSwappedMember members → IsSwapped (t.Object at members)
object_type_swapped at members all_members =
    ap bare_type (q.object_type at members)
    ∙ b.object_type at (map quoted_member members)
    ∙ ap (λ part. t.Object 0 part) (each_swapped bare_member quoted_member all_members)
    ∙ sym (q.object_type 0 (map bare_member members))
    ∙ sym (ap quoted_type (b.object_type at members))

union_type_swapped : (at : ℕ) (parts : List TypeExpr) → Each TypeExpr IsSwapped parts → IsSwapped (t.Union at parts)
union_type_swapped at parts all_parts =
    ap bare_type (q.union_type at parts)
    ∙ b.union_type at (map quoted_type parts)
    ∙ ap (λ part. t.Union 0 part) (each_swapped bare_type quoted_type all_parts)
    ∙ sym (q.union_type 0 (map bare_type parts))
    ∙ sym (ap quoted_type (b.union_type at parts))

named_type_swapped : (path : List ℕ) (name : List ℕ) (arguments : List TypeExpr) → Each TypeExpr IsSwapped arguments → IsSwapped (t.Named path name arguments)
named_type_swapped path name arguments all_arguments =
    ap bare_type (q.named_type path name arguments)
    ∙ b.named_type path name (map quoted_type arguments)
    ∙ ap (λ part. t.Named path name part) (each_swapped bare_type quoted_type all_arguments)
    ∙ sym (q.named_type path name (map bare_type arguments))
    ∙ sym (ap quoted_type (b.named_type path name arguments))

class_type_swapped : (path : List ℕ) (name : List ℕ) → IsSwapped (t.Class path name)
class_type_swapped path name =
    ap bare_type (q.class_type path name)
    ∙ b.class_type path name
    ∙ sym (q.class_type path name)
    ∙ sym (ap quoted_type (b.class_type path name))

param_type_swapped : (owner : List ℕ) (name : List ℕ) → IsSwapped (t.Param owner name)
param_type_swapped owner name =
    ap bare_type (q.param_type owner name)
    ∙ b.param_type owner name
    ∙ sym (q.param_type owner name)
    ∙ sym (ap quoted_type (b.param_type owner name))

generic_type_swapped : (path : List ℕ) (name : List ℕ) → IsSwapped (t.Generic path name)
generic_type_swapped path name =
    ap bare_type (q.generic_type path name)
    ∙ b.generic_type path name
    ∙ sym (q.generic_type path name)
    ∙ sym (ap quoted_type (b.generic_type path name))

property_member_swapped : (at : ℕ) (read_only : Bool) (key : Key) (optional : Bool) (shape : TypeExpr) → IsSwapped shape → IsSwappedMember (p.Property at read_only key optional shape)
property_member_swapped at read_only key optional shape same_shape =
    ap bare_member (q.property_member at read_only key optional shape)
    ∙ b.property_member at read_only (quoted_key key) optional (quoted_type shape)
    ∙ ap (λ part. p.Property 0 read_only (quoted_key key) optional part) same_shape
    ∙ sym (q.property_member 0 read_only key optional (bare_type shape))
    ∙ sym (ap quoted_member (b.property_member at read_only key optional shape))

method_member_swapped : (at : ℕ) (key : Key) (optional : Bool) (params : List TypeParam) (result : TypeExpr) → Each TypeParam IsSwappedParam params → IsSwapped result → IsSwappedMember (p.Method at key optional params result)
method_member_swapped at key optional params result all_params same_result =
    ap bare_member (q.method_member at key optional params result)
    ∙ b.method_member at (quoted_key key) optional (map quoted_type_param params) (quoted_type result)
    ∙ ap (λ part. p.Method 0 (quoted_key key) optional part (bare_type (quoted_type result))) (each_swapped bare_type_param quoted_type_param all_params)
    ∙ ap (λ part. p.Method 0 (quoted_key key) optional (map quoted_type_param (map bare_type_param params)) part) same_result
    ∙ sym (q.method_member 0 key optional (map bare_type_param params) (bare_type result))
    ∙ sym (ap quoted_member (b.method_member at key optional params result))

abbrev param_layer : ℕ → List ℕ → Bool → TypeExpr → TypeParam-F TypeExpr TypeMember TypeParam
param_layer at name optional shape = record { at = at; name = name; optional = optional; shape = shape }

rolled_swapped : (at : ℕ) (name : List ℕ) (optional : Bool) (shape : TypeExpr) → IsSwapped shape → IsSwappedParam (roll-TypeParam (param_layer at name optional shape))
rolled_swapped at name optional shape same =
    ap bare_type_param (q.type_param_rolled (param_layer at name optional shape))
    ∙ b.type_param_rolled (param_layer at name optional (quoted_type shape))
    ∙ ap (λ part. roll-TypeParam (param_layer 0 name optional part)) same
    ∙ sym (q.type_param_rolled (param_layer 0 name optional (bare_type shape)))
    ∙ sym (ap quoted_type_param (b.type_param_rolled (param_layer at name optional shape)))

swapped_cases : TypeCases IsSwapped IsSwappedMember IsSwappedParam
swapped_cases = record {
  keyword_case = keyword_type_swapped;
  boolean_case = boolean_type_swapped;
  string_case = string_type_swapped;
  integer_case = integer_type_swapped;
  written_case = written_type_swapped;
  array_case = array_type_swapped;
  function_case = function_type_swapped;
  object_case = object_type_swapped;
  union_case = union_type_swapped;
  named_case = named_type_swapped;
  class_case = class_type_swapped;
  param_case = param_type_swapped;
  generic_case = generic_type_swapped;
  property_case = property_member_swapped;
  method_case = method_member_swapped;
  rolled_case = rolled_swapped;
}

pub type_swapped : (of : TypeExpr) → bare_type (quoted_type of) ≡ quoted_type (bare_type of)
type_swapped = type_induction IsSwapped IsSwappedMember IsSwappedParam swapped_cases

pub member_swapped : (of : TypeMember) → bare_member (quoted_member of) ≡ quoted_member (bare_member of)
member_swapped = member_induction IsSwapped IsSwappedMember IsSwappedParam swapped_cases

pub type_param_swapped : (of : TypeParam) → bare_type_param (quoted_type_param of) ≡ quoted_type_param (bare_type_param of)
type_param_swapped = param_induction IsSwapped IsSwappedMember IsSwappedParam swapped_cases

pub type_params_swapped : (all : List TypeParam) → map bare_type_param (map quoted_type_param all) ≡ map quoted_type_param (map bare_type_param all)
type_params_swapped = all_swapped bare_type_param quoted_type_param type_param_swapped

-- ---- surfaces

pub origin_swapped : (of : Option Specifier) → bare_origin (quoted_origin of) ≡ quoted_origin (bare_origin of)
origin_swapped None = refl
origin_swapped (Some of) = refl

pub import_swapped : (of : Import) → bare_import (quoted_import of) ≡ quoted_import (bare_import of)
import_swapped (import_form.List at type_only specs from) = refl
import_swapped (import_form.Bare at from) = refl

pub export_list_swapped : (of : ExportList) → bare_export_list (quoted_export_list of) ≡ quoted_export_list (bare_export_list of)
export_list_swapped of = λ i. record { at = 0; type_only = of.type_only; specs = map bare_spec of.specs; from = origin_swapped of.from i }

pub base_swapped : (of : Base) → bare_base (quoted_base of) ≡ quoted_base (bare_base of)
base_swapped of = λ i. record { at = 0; name = of.name; arguments = all_swapped bare_type quoted_type type_swapped of.arguments i }

pub bases_swapped : (all : List Base) → map bare_base (map quoted_base all) ≡ map quoted_base (map bare_base all)
bases_swapped = all_swapped bare_base quoted_base base_swapped

pub interface_swapped : (of : Interface) → bare_interface (quoted_interface of) ≡ quoted_interface (bare_interface of)
interface_swapped of = λ i. record {
  at = 0;
  name = of.name;
  variables = map bare_identifier of.variables;
  extends = bases_swapped of.extends i;
  members = all_swapped bare_member quoted_member member_swapped of.members i;
}

pub alias_swapped : (of : Alias) → bare_alias (quoted_alias of) ≡ quoted_alias (bare_alias of)
alias_swapped of = λ i. record { at = 0; name = of.name; variables = map bare_identifier of.variables; shape = type_swapped of.shape i }

pub declared_member_swapped : (of : DeclaredMember) → bare_declared_member (quoted_declared_member of) ≡ quoted_declared_member (bare_declared_member of)
declared_member_swapped (declared_member.Field at is_static read_only name optional shape) =
    ap (λ part. declared_member.Field 0 is_static read_only name optional part) (type_swapped shape)
declared_member_swapped (declared_member.Constructor at params) = ap (λ part. declared_member.Constructor 0 part) (type_params_swapped params)
declared_member_swapped (declared_member.Method at is_static name params result) =
    λ i. declared_member.Method 0 is_static name (type_params_swapped params i) (type_swapped result i)

pub class_swapped : (of : DeclaredClass) → bare_declared_class (quoted_class of) ≡ quoted_class (bare_declared_class of)
class_swapped of = λ i. record {
  at = 0;
  name = of.name;
  implements = bases_swapped of.implements i;
  members = all_swapped bare_declared_member quoted_declared_member declared_member_swapped of.members i;
}

pub declared_swapped : (of : Declared) → bare_declared (quoted_declared of) ≡ quoted_declared (bare_declared of)
declared_swapped (declared.Variable at kind name shape) = ap (λ part. declared.Variable 0 kind name part) (type_swapped shape)
declared_swapped (declared.Function at name variables params result) =
    λ i. declared.Function 0 name (map bare_identifier variables) (type_params_swapped params i) (type_swapped result i)
declared_swapped (declared.Class of) = ap (λ part. declared.Class part) (class_swapped of)
declared_swapped (declared.Interface of) = ap (λ part. declared.Interface part) (interface_swapped of)
declared_swapped (declared.Alias of) = ap (λ part. declared.Alias part) (alias_swapped of)

pub surface_item_swapped : (of : SurfaceItem) → bare_surface_item (quoted_surface_item of) ≡ quoted_surface_item (bare_surface_item of)
surface_item_swapped (surface_item.Import of) = ap (λ part. surface_item.Import part) (import_swapped of)
surface_item_swapped (surface_item.ExportList of) = ap (λ part. surface_item.ExportList part) (export_list_swapped of)
surface_item_swapped (surface_item.Declaration exported of) = ap (λ part. surface_item.Declaration exported part) (declared_swapped of)

pub surface_swapped : (of : Surface) → bare_surface (quoted_surface of) ≡ quoted_surface (bare_surface of)
surface_swapped of = λ i. record { items = all_swapped bare_surface_item quoted_surface_item surface_item_swapped of.items i }

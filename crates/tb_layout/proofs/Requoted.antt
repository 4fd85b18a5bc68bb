-- What is quoted stays as it is when it is quoted anew: types, and surfaces; and the surface of a file is quoted.
use Rattle.std.proofs.Common.{◌≡◌, ℕ, Bool, true, false, if◌then◌else◌, List, [], ◌∷◌, ◌++◌, map, flat_map, filter, Option, Some, None, refl, sym, ap, ◌∙◌}
use Rattle.std.proofs.lemmas.List.{map-append}
use Rattle.tb_tree.specs.declared.types.Key.{Key}
use Rattle.tb_tree.specs.declared.types.Key.TheVariants as k
use Rattle.tb_tree.specs.declared.types.TypeKeyword.TheVariants as b
use Rattle.tb_tree.specs.declared.types.TypeExpr.{TypeExpr}
use Rattle.tb_tree.specs.declared.types.TypeExpr.TheVariants as t
use Rattle.tb_tree.specs.declared.types.TypeExpr.TheOpen.{TypeParam-F}
use Rattle.tb_tree.specs.declared.types.TypeMember.{TypeMember}
use Rattle.tb_tree.specs.declared.types.TypeMember.TheVariants as p
use Rattle.tb_tree.specs.declared.types.TypeParam.{TypeParam, roll-TypeParam}
use Rattle.tb_tree.specs.declared.exprs.VarKind.{VarKind}
use Rattle.tb_tree.specs.declared.exprs.Expr.{Expr}
use Rattle.tb_tree.specs.declared.exprs.Declarator.{Declarator, out-Declarator}
use Rattle.tb_tree.specs.declared.exprs.Function.{Function, out-Function}
use Rattle.tb_tree.specs.declared.exprs.Param.{Param, out-Param}
use Rattle.tb_tree.specs.declared.items.Spec.{Spec}
use Rattle.tb_tree.specs.declared.items.Specifier.{Specifier}
use Rattle.tb_tree.specs.declared.items.Import.{Import}
use Rattle.tb_tree.specs.declared.items.Import.TheVariants as import_form
use Rattle.tb_tree.specs.declared.items.ExportList.{ExportList}
use Rattle.tb_tree.specs.declared.items.Base.{Base}
use Rattle.tb_tree.specs.declared.items.Interface.{Interface}
use Rattle.tb_tree.specs.declared.items.Alias.{Alias}
use Rattle.tb_tree.specs.declared.items.ClassMember.{ClassMember}
use Rattle.tb_tree.specs.declared.items.ClassMember.TheVariants as class_member
use Rattle.tb_tree.specs.declared.items.ClassDeclaration.{ClassDeclaration}
use Rattle.tb_tree.specs.declared.items.DeclaredMember.{DeclaredMember}
use Rattle.tb_tree.specs.declared.items.DeclaredMember.TheVariants as declared_member
use Rattle.tb_tree.specs.declared.items.DeclaredClass.{DeclaredClass}
use Rattle.tb_tree.specs.declared.items.Declared.{Declared}
use Rattle.tb_tree.specs.declared.items.Declared.TheVariants as declared
use Rattle.tb_tree.specs.declared.items.Item.{Item}
use Rattle.tb_tree.specs.declared.items.Item.TheVariants as item
use Rattle.tb_tree.specs.declared.items.SurfaceItem.{SurfaceItem}
use Rattle.tb_tree.specs.declared.items.SurfaceItem.TheVariants as surface_item
use Rattle.tb_tree.specs.declared.items.File.{File}
use Rattle.tb_tree.specs.declared.items.Surface.{Surface}
use Rattle.tb_tree.specs.Surfaces.{kept}
use Rattle.tb_layout.specs.Quoted.{quoted, quoted_key, quoted_type, quoted_member, quoted_type_param, quoted_specifier, quoted_origin, quoted_import, quoted_export_list, quoted_base, quoted_interface, quoted_alias, quoted_declared_member, quoted_class, quoted_declared, quoted_surface_item, quoted_surface}
use Rattle.tb_layout.specs.Parts.{Part, VariablePart, FunctionPart, ClassPart, InterfacePart, AliasPart, parts_of}
use Rattle.tb_layout.specs.Kept.{Known, keeps_part, keeps_spec, known_names}
use Rattle.tb_layout.specs.Surface.{Literal, Text, Number, Truth, literal_in, is_integer, literal_type, annotated_type, initial_type, declared_type, declared_param, is_const, declared_variable, declared_function, declared_member_of, declared_class, declared_part, import_with, surface_import, surface_part, surface_item_of, surface_with, surface}
use Rattle.tb_layout.proofs.Inducing.{Each, none, more, TypeCases, type_induction, member_induction, param_induction}
use Rattle.tb_layout.proofs.Quoting as q
use Rattle.tb_layout.proofs.Values.{quoted_twice}

-- ---- lists

each_twice : {A : Type 0} (f : A → A) {xs : List A} → Each A (λ x. f (f x) ≡ f x) xs → map f (map f xs) ≡ map f xs
each_twice f none = refl
each_twice f (more same rest) = λ i. same i ∷ each_twice f rest i

all_twice : {A : Type 0} (f : A → A) → ((x : A) → f (f x) ≡ f x) → (xs : List A) → map f (map f xs) ≡ map f xs
all_twice f same [] = refl
all_twice f same (x ∷ xs) = λ i. same x i ∷ all_twice f same xs i

all_same : {A B : Type 0} (f : B → B) (g : A → B) → ((x : A) → f (g x) ≡ g x) → (xs : List A) → map f (map g xs) ≡ map g xs
all_same f g same [] = refl
all_same f g same (x ∷ xs) = λ i. same x i ∷ all_same f g same xs i

flat_same : {A B : Type 0} (f : B → B) (g : A → List B) → ((x : A) → map f (g x) ≡ g x) → (xs : List A) → map f (flat_map g xs) ≡ flat_map g xs
flat_same f g same [] = refl
flat_same f g same (x ∷ xs) = map-append f (g x) (flat_map g xs) ∙ (λ i. same x i ++ flat_same f g same xs i)

-- ---- types

pub key_twice : (of : Key) → quoted_key (quoted_key of) ≡ quoted_key of
key_twice (k.Word spelled) = refl
key_twice (k.String spelled) = λ i. k.String (quoted_twice spelled i)

abbrev pub IsSame : TypeExpr → Type 0
IsSame of = quoted_type (quoted_type of) ≡ quoted_type of

abbrev pub IsSameMember : TypeMember → Type 0
IsSameMember of = quoted_member (quoted_member of) ≡ quoted_member of

abbrev pub IsSameParam : TypeParam → Type 0
IsSameParam of = quoted_type_param (quoted_type_param of) ≡ quoted_type_param of

string_same : (at : ℕ) (spelled : List ℕ) → IsSame (t.String at spelled)
string_same at spelled =
    ap quoted_type (q.string_type at spelled) ∙ q.string_type at (quoted spelled) ∙ ap (λ text. t.String at text) (quoted_twice spelled) ∙ sym (q.string_type at spelled)

written_same : (at : ℕ) (name : List ℕ) (arguments : List TypeExpr) → Each TypeExpr IsSame arguments → IsSame (t.Written at name arguments)
written_same at name arguments all =
    ap quoted_type (q.written_type at name arguments) ∙ q.written_type at name (map quoted_type arguments)
    ∙ ap (λ part. t.Written at name part) (each_twice quoted_type all) ∙ sym (q.written_type at name arguments)

array_same : (at : ℕ) (read_only : Bool) (element : TypeExpr) → IsSame element → IsSame (t.Array at read_only element)
array_same at read_only element same =
    ap quoted_type (q.array_type at read_only element) ∙ q.array_type at read_only (quoted_type element)
    ∙ ap (λ part. t.Array at read_only part) same ∙ sym (q.array_type at read_only element)

function_same : (at : ℕ) (params : List TypeParam) (result : TypeExpr) → Each TypeParam IsSameParam params → IsSame result → IsSame (t.Function at params result)
function_same at params result all same =
    ap quoted_type (q.function_type at params result) ∙ q.function_type at (map quoted_type_param params) (quoted_type result)
    ∙ ap (λ part. t.Function at part (quoted_type (quoted_type result))) (each_twice quoted_type_param all)
    ∙ ap (λ part. t.Function at (map quoted_type_param params) part) same ∙ sym (q.function_type at params result)

object_same : (at : ℕ) (members : List TypeMember) → Each TypeMember IsSameMember members → IsSame (t.Object at members)
object_same at members all =
    ap quoted_type (q.object_type at members) ∙ q.object_type at (map quoted_member members)
    ∙ ap (λ part. t.Object at part) (each_twice quoted_member all) ∙ sym (q.object_type at members)

union_same : (at : ℕ) (parts : List TypeExpr) → Each TypeExpr IsSame parts → IsSame (t.Union at parts)
union_same at parts all =
    ap quoted_type (q.union_type at parts) ∙ q.union_type at (map quoted_type parts)
    ∙ ap (λ part. t.Union at part) (each_twice quoted_type all) ∙ sym (q.union_type at parts)

named_same : (path : List ℕ) (name : List ℕ) (arguments : List TypeExpr) → Each TypeExpr IsSame arguments → IsSame (t.Named path name arguments)
named_same path name arguments all =
    ap quoted_type (q.named_type path name arguments) ∙ q.named_type path name (map quoted_type arguments)
    ∙ ap (λ part. t.Named path name part) (each_twice quoted_type all) ∙ sym (q.named_type path name arguments)

property_same : (at : ℕ) (read_only : Bool) (key : Key) (optional : Bool) (shape : TypeExpr) → IsSame shape → IsSameMember (p.Property at read_only key optional shape)
property_same at read_only key optional shape same =
    ap quoted_member (q.property_member at read_only key optional shape) ∙ q.property_member at read_only (quoted_key key) optional (quoted_type shape)
    ∙ ap (λ part. p.Property at read_only part optional (quoted_type (quoted_type shape))) (key_twice key)
    ∙ ap (λ part. p.Property at read_only (quoted_key key) optional part) same ∙ sym (q.property_member at read_only key optional shape)

method_same : (at : ℕ) (key : Key) (optional : Bool) (params : List TypeParam) (result : TypeExpr) → Each TypeParam IsSameParam params → IsSame result
    → IsSameMember (p.Method at key optional params result)
method_same at key optional params result all same =
    ap quoted_member (q.method_member at key optional params result) ∙ q.method_member at (quoted_key key) optional (map quoted_type_param params) (quoted_type result)
    ∙ ap (λ part. p.Method at part optional (map quoted_type_param (map quoted_type_param params)) (quoted_type (quoted_type result))) (key_twice key)
    ∙ ap (λ part. p.Method at (quoted_key key) optional part (quoted_type (quoted_type result))) (each_twice quoted_type_param all)
    ∙ ap (λ part. p.Method at (quoted_key key) optional (map quoted_type_param params) part) same ∙ sym (q.method_member at key optional params result)

abbrev param_layer : ℕ → List ℕ → Bool → TypeExpr → TypeParam-F TypeExpr TypeMember TypeParam
param_layer at name optional shape = record { at = at; name = name; optional = optional; shape = shape }

param_same : (at : ℕ) (name : List ℕ) (optional : Bool) (shape : TypeExpr) → IsSame shape → IsSameParam (roll-TypeParam (param_layer at name optional shape))
param_same at name optional shape same =
    ap quoted_type_param (q.type_param_rolled (param_layer at name optional shape)) ∙ q.type_param_rolled (param_layer at name optional (quoted_type shape))
    ∙ ap (λ part. roll-TypeParam (param_layer at name optional part)) same ∙ sym (q.type_param_rolled (param_layer at name optional shape))

same_cases : TypeCases IsSame IsSameMember IsSameParam
same_cases = record {
  keyword_case = λ at keyword. ap quoted_type (q.keyword_type at keyword);
  boolean_case = λ at value. ap quoted_type (q.boolean_type at value);
  string_case = string_same;
  integer_case = λ at minus digits. ap quoted_type (q.integer_type at minus digits);
  written_case = written_same;
  array_case = array_same;
  function_case = function_same;
  object_case = object_same;
  union_case = union_same;
  named_case = named_same;
  class_case = λ path name. ap quoted_type (q.class_type path name);
  param_case = λ owner name. ap quoted_type (q.param_type owner name);
  generic_case = λ path name. ap quoted_type (q.generic_type path name);
  property_case = property_same;
  method_case = method_same;
  rolled_case = param_same;
}

pub type_twice : (of : TypeExpr) → quoted_type (quoted_type of) ≡ quoted_type of
type_twice = type_induction IsSame IsSameMember IsSameParam same_cases

pub member_twice : (of : TypeMember) → quoted_member (quoted_member of) ≡ quoted_member of
member_twice = member_induction IsSame IsSameMember IsSameParam same_cases

pub type_param_twice : (of : TypeParam) → quoted_type_param (quoted_type_param of) ≡ quoted_type_param of
type_param_twice = param_induction IsSame IsSameMember IsSameParam same_cases

pub types_twice : (all : List TypeExpr) → map quoted_type (map quoted_type all) ≡ map quoted_type all
types_twice = all_twice quoted_type type_twice

pub members_twice : (all : List TypeMember) → map quoted_member (map quoted_member all) ≡ map quoted_member all
members_twice = all_twice quoted_member member_twice

pub type_params_twice : (all : List TypeParam) → map quoted_type_param (map quoted_type_param all) ≡ map quoted_type_param all
type_params_twice = all_twice quoted_type_param type_param_twice

-- ---- surfaces

pub specifier_twice : (of : Specifier) → quoted_specifier (quoted_specifier of) ≡ quoted_specifier of
specifier_twice of = λ i. record { at = of.at; spelled = quoted_twice of.spelled i }

pub origin_twice : (of : Option Specifier) → quoted_origin (quoted_origin of) ≡ quoted_origin of
origin_twice None = refl
origin_twice (Some of) = ap (λ part. Some part) (specifier_twice of)

pub import_twice : (of : Import) → quoted_import (quoted_import of) ≡ quoted_import of
import_twice (import_form.List at type_only specs from) = ap (λ part. import_form.List at type_only specs part) (specifier_twice from)
import_twice (import_form.Bare at from) = ap (λ part. import_form.Bare at part) (specifier_twice from)

pub export_list_twice : (of : ExportList) → quoted_export_list (quoted_export_list of) ≡ quoted_export_list of
export_list_twice of = λ i. record { at = of.at; type_only = of.type_only; specs = of.specs; from = origin_twice of.from i }

pub base_twice : (of : Base) → quoted_base (quoted_base of) ≡ quoted_base of
base_twice of = λ i. record { at = of.at; name = of.name; arguments = types_twice of.arguments i }

pub bases_twice : (all : List Base) → map quoted_base (map quoted_base all) ≡ map quoted_base all
bases_twice = all_twice quoted_base base_twice

pub interface_twice : (of : Interface) → quoted_interface (quoted_interface of) ≡ quoted_interface of
interface_twice of = λ i. record { at = of.at; name = of.name; variables = of.variables; extends = bases_twice of.extends i; members = members_twice of.members i }

pub alias_twice : (of : Alias) → quoted_alias (quoted_alias of) ≡ quoted_alias of
alias_twice of = λ i. record { at = of.at; name = of.name; variables = of.variables; shape = type_twice of.shape i }

pub declared_member_twice : (of : DeclaredMember) → quoted_declared_member (quoted_declared_member of) ≡ quoted_declared_member of
declared_member_twice (declared_member.Field at is_static read_only name optional shape) =
    ap (λ part. declared_member.Field at is_static read_only name optional part) (type_twice shape)
declared_member_twice (declared_member.Constructor at params) = ap (λ part. declared_member.Constructor at part) (type_params_twice params)
declared_member_twice (declared_member.Method at is_static name params result) =
    λ i. declared_member.Method at is_static name (type_params_twice params i) (type_twice result i)

pub class_twice : (of : DeclaredClass) → quoted_class (quoted_class of) ≡ quoted_class of
class_twice of =
    λ i. record { at = of.at; name = of.name; implements = bases_twice of.implements i; members = all_twice quoted_declared_member declared_member_twice of.members i }

pub declared_twice : (of : Declared) → quoted_declared (quoted_declared of) ≡ quoted_declared of
declared_twice (declared.Variable at kind name shape) = ap (λ part. declared.Variable at kind name part) (type_twice shape)
declared_twice (declared.Function at name variables params result) = λ i. declared.Function at name variables (type_params_twice params i) (type_twice result i)
declared_twice (declared.Class of) = ap (λ part. declared.Class part) (class_twice of)
declared_twice (declared.Interface of) = ap (λ part. declared.Interface part) (interface_twice of)
declared_twice (declared.Alias of) = ap (λ part. declared.Alias part) (alias_twice of)

pub surface_item_twice : (of : SurfaceItem) → quoted_surface_item (quoted_surface_item of) ≡ quoted_surface_item of
surface_item_twice (surface_item.Import of) = ap (λ part. surface_item.Import part) (import_twice of)
surface_item_twice (surface_item.ExportList of) = ap (λ part. surface_item.ExportList part) (export_list_twice of)
surface_item_twice (surface_item.Declaration exported of) = ap (λ part. surface_item.Declaration exported part) (declared_twice of)

pub surface_twice : (of : Surface) → quoted_surface (quoted_surface of) ≡ quoted_surface of
surface_twice of = λ i. record { items = all_twice quoted_surface_item surface_item_twice of.items i }

-- ---- the surface of a file is quoted

annotated_same : (at : ℕ) (of : Option TypeExpr) → quoted_type (annotated_type at of) ≡ annotated_type at of
annotated_same at None = q.keyword_type at b.Any
annotated_same at (Some of) = type_twice of

number_same : (at : ℕ) (minus : Bool) (spelled : List ℕ) (small : Bool)
    → quoted_type (if small then t.Integer at minus spelled else t.Keyword at b.Number) ≡ (if small then t.Integer at minus spelled else t.Keyword at b.Number)
number_same at minus spelled true = q.integer_type at minus spelled
number_same at minus spelled false = q.keyword_type at b.Number

literal_same : (fixed : Bool) (of : Literal) → quoted_type (literal_type fixed of) ≡ literal_type fixed of
literal_same true (Text at spelled) = q.string_type at (quoted spelled) ∙ ap (λ text. t.String at text) (quoted_twice spelled)
literal_same true (Number at minus spelled) = number_same at minus spelled (is_integer minus spelled)
literal_same true (Truth at value) = q.boolean_type at value
literal_same false (Text at spelled) = q.keyword_type at b.String
literal_same false (Number at minus spelled) = q.keyword_type at b.Number
literal_same false (Truth at value) = q.keyword_type at b.Boolean

initial_same : (at : ℕ) (fixed : Bool) (of : Option Literal) → quoted_type (initial_type at fixed of) ≡ initial_type at fixed of
initial_same at fixed None = q.keyword_type at b.Any
initial_same at fixed (Some of) = literal_same fixed of

declared_type_same : (at : ℕ) (fixed : Bool) (annotation : Option TypeExpr) (value : Option Expr)
    → quoted_type (declared_type at fixed annotation value) ≡ declared_type at fixed annotation value
declared_type_same at fixed (Some of) value = type_twice of
declared_type_same at fixed None value = initial_same at fixed (literal_in value)

rolled_same : (at : ℕ) (name : List ℕ) (optional : Bool) (shape : TypeExpr) → quoted_type shape ≡ shape
    → quoted_type_param (roll-TypeParam (param_layer at name optional shape)) ≡ roll-TypeParam (param_layer at name optional shape)
rolled_same at name optional shape same =
    q.type_param_rolled (param_layer at name optional shape) ∙ ap (λ part. roll-TypeParam (param_layer at name optional part)) same

declared_param_same : (of : Param) → quoted_type_param (declared_param of) ≡ declared_param of
declared_param_same of =
    let opened = out-Param of in
    rolled_same opened.at opened.name _ (annotated_type opened.at opened.annotation) (annotated_same opened.at opened.annotation)

declared_params_same : (all : List Param) → map quoted_type_param (map declared_param all) ≡ map declared_param all
declared_params_same = all_same quoted_type_param declared_param declared_param_same

declared_member_same : (of : ClassMember) → quoted_declared_member (declared_member_of of) ≡ declared_member_of of
declared_member_same (class_member.Field at is_static read_only name optional annotation value) =
    ap (λ part. declared_member.Field at is_static read_only name optional part) (declared_type_same at read_only annotation value)
declared_member_same (class_member.Constructor at params of) = ap (λ part. declared_member.Constructor at part) (declared_params_same params)
declared_member_same (class_member.Method at is_static name params result of) =
    λ i. declared_member.Method at is_static name (declared_params_same params i) (annotated_same at result i)

declared_class_same : (of : ClassDeclaration) → quoted_class (declared_class of) ≡ declared_class of
declared_class_same of =
    λ i. record { at = of.at; name = of.name; implements = bases_twice of.implements i; members = all_same quoted_declared_member declared_member_of declared_member_same of.members i }

declared_variable_same : (kind : VarKind) (of : Declarator) → quoted_declared (declared_variable kind of) ≡ declared_variable kind of
declared_variable_same kind of =
    let opened = out-Declarator of in
    ap (λ part. declared.Variable opened.at kind opened.name part) (declared_type_same opened.at (is_const kind) opened.annotation opened.value)

declared_function_same : (of : Function) → quoted_declared (declared_function of) ≡ declared_function of
declared_function_same of =
    let opened = out-Function of in
    λ i. declared.Function opened.at opened.name opened.variables (declared_params_same opened.params i) (annotated_same opened.at opened.result i)

declared_part_same : (of : Part) → quoted_declared (declared_part of) ≡ declared_part of
declared_part_same (VariablePart kind of) = declared_variable_same kind of
declared_part_same (FunctionPart of) = declared_function_same of
declared_part_same (ClassPart of) = ap (λ part. declared.Class part) (declared_class_same of)
declared_part_same (InterfacePart of) = ap (λ part. declared.Interface part) (interface_twice of)
declared_part_same (AliasPart of) = ap (λ part. declared.Alias part) (alias_twice of)

import_same : (at : ℕ) (type_only : Bool) (specs : List Spec) (from : Specifier)
    → map quoted_surface_item (import_with at type_only specs from) ≡ import_with at type_only specs from
import_same at type_only [] from = refl
import_same at type_only (of ∷ rest) from =
    ap (λ part. surface_item.Import (import_form.List at type_only (of ∷ rest) part) ∷ []) (specifier_twice from)

surface_import_same : (known : Known) (of : Import) → map quoted_surface_item (surface_import known of) ≡ surface_import known of
surface_import_same known (import_form.List at type_only specs from) = import_same at type_only (filter (keeps_spec known) specs) from
surface_import_same known (import_form.Bare at from) = refl

kept_part_same : (exported : Bool) (of : Part) (keep : Bool)
    → map quoted_surface_item (if keep then (surface_item.Declaration exported (declared_part of) ∷ []) else [])
    ≡ (if keep then (surface_item.Declaration exported (declared_part of) ∷ []) else [])
kept_part_same exported of true = ap (λ part. surface_item.Declaration exported part ∷ []) (declared_part_same of)
kept_part_same exported of false = refl

surface_part_same : (known : Known) (exported : Bool) (of : Part) → map quoted_surface_item (surface_part known exported of) ≡ surface_part known exported of
surface_part_same known exported of = kept_part_same exported of (keeps_part known exported of)

surface_item_same : (known : Known) (of : Item) → map quoted_surface_item (surface_item_of known of) ≡ surface_item_of known of
surface_item_same known (item.Import of) = surface_import_same known of
surface_item_same known (item.ExportList of) = all_twice quoted_surface_item surface_item_twice (kept of)
surface_item_same known (item.Declaration exported of) = flat_same quoted_surface_item (surface_part known exported) (surface_part_same known exported) (parts_of of)
surface_item_same known (item.Stmt of) = refl

pub surface_with_quoted : (known : Known) (file : File) → quoted_surface (surface_with known file) ≡ surface_with known file
surface_with_quoted known file = λ i. record { items = flat_same quoted_surface_item (surface_item_of known) (surface_item_same known) file.items i }

pub surface_quoted : (file : File) → quoted_surface (surface file) ≡ surface file
surface_quoted file = surface_with_quoted (known_names file) file

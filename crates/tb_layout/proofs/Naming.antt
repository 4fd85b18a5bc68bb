-- The names in a type by those in its parts.
use Rattle.std.proofs.Common.{◌≡◌, ℕ, Bool, List, [], ◌∷◌, ◌++◌, map, flat_map, refl, ◌∙◌, ap}
use Rattle.tb_tree.specs.declared.types.Key.{Key}
use Rattle.tb_tree.specs.declared.types.TypeKeyword.{TypeKeyword}
use Rattle.tb_tree.specs.declared.types.TypeExpr.{TypeExpr, out-TypeExpr, fold_out-TypeExpr}
use Rattle.tb_tree.specs.declared.types.TypeExpr.TheVariants as t
use Rattle.tb_tree.specs.declared.types.TypeExpr.TheOpen.{TypeExpr-F, TypeMember-F, TypeParam-F}
use Rattle.tb_tree.specs.declared.types.TypeExpr.TheFolds.{map-TypeExpr, map-TypeMember}
use Rattle.tb_tree.specs.declared.types.TypeMember.{TypeMember, out-TypeMember, fold_out-TypeMember}
use Rattle.tb_tree.specs.declared.types.TypeMember.TheVariants as p
use Rattle.tb_tree.specs.declared.types.TypeParam.{TypeParam, out-TypeParam, fold_out-TypeParam, roll-TypeParam, fold-roll-TypeParam}
use Rattle.tb_layout.specs.Parts.{all_names, type_names_layer, member_names_layer, param_names_layer, type_names, member_names, type_param_names}

pub gathered : {A : Type 0} (f : A → List (List ℕ)) (all : List A) → all_names (map f all) ≡ flat_map f all
gathered f [] = refl
gathered f (of ∷ rest) = ap (λ part. f of ++ part) (gathered f rest)

-- ---- one layer of a tree

abbrev pub open_type : TypeExpr-F TypeExpr TypeMember TypeParam → List (List ℕ)
open_type (TypeExpr-F.Keyword at keyword) = []
open_type (TypeExpr-F.Boolean at value) = []
open_type (TypeExpr-F.String at spelled) = []
open_type (TypeExpr-F.Integer at minus digits) = []
open_type (TypeExpr-F.Written at name arguments) = name ∷ flat_map type_names arguments
open_type (TypeExpr-F.Array at read_only element) = type_names element
open_type (TypeExpr-F.Function at params result) = flat_map type_param_names params ++ type_names result
open_type (TypeExpr-F.Object at members) = flat_map member_names members
open_type (TypeExpr-F.Union at parts) = flat_map type_names parts
open_type (TypeExpr-F.Named path name arguments) = flat_map type_names arguments
open_type (TypeExpr-F.Class path name) = []
open_type (TypeExpr-F.Param owner name) = []
open_type (TypeExpr-F.Generic path name) = []

abbrev pub open_member : TypeMember-F TypeExpr TypeMember TypeParam → List (List ℕ)
open_member (TypeMember-F.Property at read_only key optional shape) = type_names shape
open_member (TypeMember-F.Method at key optional params result) = flat_map type_param_names params ++ type_names result

abbrev pub open_type_param : TypeParam-F TypeExpr TypeMember TypeParam → List (List ℕ)
open_type_param layer = type_names layer.shape

type_opened : (layer : TypeExpr-F TypeExpr TypeMember TypeParam) → type_names_layer (map-TypeExpr TypeExpr TypeMember TypeParam (List (List ℕ)) (List (List ℕ)) (List (List ℕ)) type_names member_names type_param_names layer) ≡ open_type layer
type_opened (TypeExpr-F.Keyword at keyword) = refl
type_opened (TypeExpr-F.Boolean at value) = refl
type_opened (TypeExpr-F.String at spelled) = refl
type_opened (TypeExpr-F.Integer at minus digits) = refl
type_opened (TypeExpr-F.Written at name arguments) = ap (λ part. name ∷ part) (gathered type_names arguments)
type_opened (TypeExpr-F.Array at read_only element) = refl
type_opened (TypeExpr-F.Function at params result) = ap (λ part. part ++ type_names result) (gathered type_param_names params)
type_opened (TypeExpr-F.Object at members) = gathered member_names members
type_opened (TypeExpr-F.Union at parts) = gathered type_names parts
type_opened (TypeExpr-F.Named path name arguments) = gathered type_names arguments
type_opened (TypeExpr-F.Class path name) = refl
type_opened (TypeExpr-F.Param owner name) = refl
type_opened (TypeExpr-F.Generic path name) = refl

pub type_out : (of : TypeExpr) → type_names of ≡ open_type (out-TypeExpr of)
unfolding type_names member_names type_param_names
type_out of = fold_out-TypeExpr (List (List ℕ)) (List (List ℕ)) (List (List ℕ)) type_names_layer member_names_layer param_names_layer of ∙ type_opened (out-TypeExpr of)

member_opened : (layer : TypeMember-F TypeExpr TypeMember TypeParam) → member_names_layer (map-TypeMember TypeExpr TypeMember TypeParam (List (List ℕ)) (List (List ℕ)) (List (List ℕ)) type_names member_names type_param_names layer) ≡ open_member layer
member_opened (TypeMember-F.Property at read_only key optional shape) = refl
member_opened (TypeMember-F.Method at key optional params result) = ap (λ part. part ++ type_names result) (gathered type_param_names params)

pub member_out : (of : TypeMember) → member_names of ≡ open_member (out-TypeMember of)
unfolding type_names member_names type_param_names
member_out of = fold_out-TypeMember (List (List ℕ)) (List (List ℕ)) (List (List ℕ)) type_names_layer member_names_layer param_names_layer of ∙ member_opened (out-TypeMember of)

pub type_param_out : (of : TypeParam) → type_param_names of ≡ open_type_param (out-TypeParam of)
unfolding type_names member_names type_param_names
type_param_out of = fold_out-TypeParam (List (List ℕ)) (List (List ℕ)) (List (List ℕ)) type_names_layer member_names_layer param_names_layer of

-- ---- each form of a tree

pub keyword_type : (at : ℕ) (keyword : TypeKeyword) → type_names (t.Keyword at keyword) ≡ []
keyword_type at keyword = type_out _ ∙ ap open_type (t.outs-Keyword at keyword)

pub boolean_type : (at : ℕ) (value : Bool) → type_names (t.Boolean at value) ≡ []
boolean_type at value = type_out _ ∙ ap open_type (t.outs-Boolean at value)

pub string_type : (at : ℕ) (spelled : List ℕ) → type_names (t.String at spelled) ≡ []
string_type at spelled = type_out _ ∙ ap open_type (t.outs-String at spelled)

pub integer_type : (at : ℕ) (minus : Bool) (digits : List ℕ) → type_names (t.Integer at minus digits) ≡ []
integer_type at minus digits = type_out _ ∙ ap open_type (t.outs-Integer at minus digits)

pub written_type : (at : ℕ) (name : List ℕ) (arguments : List TypeExpr) → type_names (t.Written at name arguments) ≡ name ∷ flat_map type_names arguments
written_type at name arguments = type_out _ ∙ ap open_type (t.outs-Written at name arguments)

pub array_type : (at : ℕ) (read_only : Bool) (element : TypeExpr) → type_names (t.Array at read_only element) ≡ type_names element
array_type at read_only element = type_out _ ∙ ap open_type (t.outs-Array at read_only element)

pub function_type : (at : ℕ) (params : List TypeParam) (result : TypeExpr) → type_names (t.Function at params result) ≡ flat_map type_param_names params ++ type_names result
function_type at params result = type_out _ ∙ ap open_type (t.outs-Function at params result)

pub object_type : (at : ℕ) (members : List TypeMember) → type_names (t.Object at members) ≡ flat_map member_names members
object_type at members = type_out _ ∙ ap open_type (t.outs-Object at members)

pub union_type : (at : ℕ) (parts : List TypeExpr) → type_names (t.Union at parts) ≡ flat_map type_names parts
union_type at parts = type_out _ ∙ ap open_type (t.outs-Union at parts)

pub named_type : (path : List ℕ) (name : List ℕ) (arguments : List TypeExpr) → type_names (t.Named path name arguments) ≡ flat_map type_names arguments
named_type path name arguments = type_out _ ∙ ap open_type (t.outs-Named path name arguments)

pub class_type : (path : List ℕ) (name : List ℕ) → type_names (t.Class path name) ≡ []
class_type path name = type_out _ ∙ ap open_type (t.outs-Class path name)

pub param_type : (owner : List ℕ) (name : List ℕ) → type_names (t.Param owner name) ≡ []
param_type owner name = type_out _ ∙ ap open_type (t.outs-Param owner name)

pub generic_type : (path : List ℕ) (name : List ℕ) → type_names (t.Generic path name) ≡ []
generic_type path name = type_out _ ∙ ap open_type (t.outs-Generic path name)

pub property_member : (at : ℕ) (read_only : Bool) (key : Key) (optional : Bool) (shape : TypeExpr) → member_names (p.Property at read_only key optional shape) ≡ type_names shape
property_member at read_only key optional shape = member_out _ ∙ ap open_member (p.outs-Property at read_only key optional shape)

pub method_member : (at : ℕ) (key : Key) (optional : Bool) (params : List TypeParam) (result : TypeExpr) → member_names (p.Method at key optional params result) ≡ flat_map type_param_names params ++ type_names result
method_member at key optional params result = member_out _ ∙ ap open_member (p.outs-Method at key optional params result)

pub type_param_rolled : (layer : TypeParam-F TypeExpr TypeMember TypeParam) → type_param_names (roll-TypeParam layer) ≡ open_type_param layer
unfolding type_names member_names type_param_names
type_param_rolled layer = fold-roll-TypeParam (List (List ℕ)) (List (List ℕ)) (List (List ℕ)) type_names_layer member_names_layer param_names_layer layer

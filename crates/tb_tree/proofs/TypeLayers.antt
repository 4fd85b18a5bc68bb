-- What the depth of a tree is by the depths of its parts.
use Rattle.std.proofs.Common.{◌≡◌, ℕ, ◌+◌, max, map, refl, ◌∙◌, ap, List, Bool}
use Rattle.tb_tree.specs.declared.types.TypeExpr.{TypeExpr, out-TypeExpr, fold_out-TypeExpr}
use Rattle.tb_tree.specs.declared.types.TypeExpr.TheVariants as t
use Rattle.tb_tree.specs.declared.types.TypeKeyword.{TypeKeyword}
use Rattle.tb_tree.specs.declared.types.TypeExpr.TheOpen.{TypeExpr-F, TypeMember-F, TypeParam-F}
use Rattle.tb_tree.specs.declared.types.TypeExpr.TheFolds.{map-TypeExpr, map-TypeMember}
use Rattle.tb_tree.specs.declared.types.TypeMember.{TypeMember, out-TypeMember, fold_out-TypeMember}
use Rattle.tb_tree.specs.declared.types.TypeMember.TheVariants as p
use Rattle.tb_tree.specs.declared.types.Key.{Key}
use Rattle.tb_tree.specs.declared.types.TypeParam.{TypeParam, out-TypeParam, fold_out-TypeParam, roll-TypeParam, fold-roll-TypeParam}
use Rattle.tb_tree.specs.Depth.{greatest, if_any, type_layer, member_layer, type_param_layer, type_depth, types_depth, member_depth, members_depth, type_param_depth, type_params_depth}

abbrev pub open_type : TypeExpr-F TypeExpr TypeMember TypeParam → ℕ
open_type (TypeExpr-F.Written at name arguments) = types_depth arguments + 1
open_type (TypeExpr-F.Array at read_only element) = type_depth element + 1
open_type (TypeExpr-F.Function at params result) = max (type_params_depth params) (type_depth result) + 1
open_type (TypeExpr-F.Object at members) = members_depth members + 1
open_type (TypeExpr-F.Union at parts) = types_depth parts + 1
open_type (TypeExpr-F.Named path name arguments) = types_depth arguments + 1
open_type _ = 1

abbrev pub open_member : TypeMember-F TypeExpr TypeMember TypeParam → ℕ
open_member (TypeMember-F.Property at read_only key optional shape) = type_depth shape
open_member (TypeMember-F.Method at key optional params result) = max (type_params_depth params) (type_depth result)

abbrev pub open_type_param : TypeParam-F TypeExpr TypeMember TypeParam → ℕ
open_type_param layer = type_depth layer.shape

type_opened : (layer : TypeExpr-F TypeExpr TypeMember TypeParam)
    → type_layer (map-TypeExpr TypeExpr TypeMember TypeParam ℕ ℕ ℕ type_depth member_depth type_param_depth layer) ≡ open_type layer
type_opened (TypeExpr-F.Keyword at keyword) = refl
type_opened (TypeExpr-F.Boolean at value) = refl
type_opened (TypeExpr-F.String at spelled) = refl
type_opened (TypeExpr-F.Integer at minus digits) = refl
type_opened (TypeExpr-F.Written at name arguments) = refl
type_opened (TypeExpr-F.Array at read_only element) = refl
type_opened (TypeExpr-F.Function at params result) = refl
type_opened (TypeExpr-F.Object at members) = refl
type_opened (TypeExpr-F.Union at parts) = refl
type_opened (TypeExpr-F.Named path name arguments) = refl
type_opened (TypeExpr-F.Class path name) = refl
type_opened (TypeExpr-F.Param owner name) = refl
type_opened (TypeExpr-F.Generic path name) = refl

pub type_out : (of : TypeExpr) → type_depth of ≡ open_type (out-TypeExpr of)
unfolding type_depth member_depth type_param_depth
type_out of = fold_out-TypeExpr ℕ ℕ ℕ type_layer member_layer type_param_layer of ∙ type_opened (out-TypeExpr of)

member_opened : (layer : TypeMember-F TypeExpr TypeMember TypeParam)
    → member_layer (map-TypeMember TypeExpr TypeMember TypeParam ℕ ℕ ℕ type_depth member_depth type_param_depth layer) ≡ open_member layer
member_opened (TypeMember-F.Property at read_only key optional shape) = refl
member_opened (TypeMember-F.Method at key optional params result) = refl

pub member_out : (of : TypeMember) → member_depth of ≡ open_member (out-TypeMember of)
unfolding type_depth member_depth type_param_depth
member_out of = fold_out-TypeMember ℕ ℕ ℕ type_layer member_layer type_param_layer of ∙ member_opened (out-TypeMember of)

pub type_param_out : (of : TypeParam) → type_param_depth of ≡ open_type_param (out-TypeParam of)
unfolding type_depth member_depth type_param_depth
type_param_out of = fold_out-TypeParam ℕ ℕ ℕ type_layer member_layer type_param_layer of

-- ---- each form of a tree

pub keyword_type : (at : ℕ) (keyword : TypeKeyword) → type_depth (t.Keyword at keyword) ≡ 1
keyword_type at keyword = type_out _ ∙ ap open_type (t.outs-Keyword at keyword)

pub boolean_type : (at : ℕ) (value : Bool) → type_depth (t.Boolean at value) ≡ 1
boolean_type at value = type_out _ ∙ ap open_type (t.outs-Boolean at value)

pub string_type : (at : ℕ) (spelled : List ℕ) → type_depth (t.String at spelled) ≡ 1
string_type at spelled = type_out _ ∙ ap open_type (t.outs-String at spelled)

pub integer_type : (at : ℕ) (minus : Bool) (digits : List ℕ) → type_depth (t.Integer at minus digits) ≡ 1
integer_type at minus digits = type_out _ ∙ ap open_type (t.outs-Integer at minus digits)

pub written_type : (at : ℕ) (name : List ℕ) (arguments : List TypeExpr) → type_depth (t.Written at name arguments) ≡ types_depth arguments + 1
written_type at name arguments = type_out _ ∙ ap open_type (t.outs-Written at name arguments)

pub array_type : (at : ℕ) (read_only : Bool) (element : TypeExpr) → type_depth (t.Array at read_only element) ≡ type_depth element + 1
array_type at read_only element = type_out _ ∙ ap open_type (t.outs-Array at read_only element)

pub function_type : (at : ℕ) (params : List TypeParam) (result : TypeExpr) → type_depth (t.Function at params result) ≡ max (type_params_depth params) (type_depth result) + 1
function_type at params result = type_out _ ∙ ap open_type (t.outs-Function at params result)

pub object_type : (at : ℕ) (members : List TypeMember) → type_depth (t.Object at members) ≡ members_depth members + 1
object_type at members = type_out _ ∙ ap open_type (t.outs-Object at members)

pub union_type : (at : ℕ) (parts : List TypeExpr) → type_depth (t.Union at parts) ≡ types_depth parts + 1
union_type at parts = type_out _ ∙ ap open_type (t.outs-Union at parts)

pub named_type : (path : List ℕ) (name : List ℕ) (arguments : List TypeExpr) → type_depth (t.Named path name arguments) ≡ types_depth arguments + 1
named_type path name arguments = type_out _ ∙ ap open_type (t.outs-Named path name arguments)

pub property_member : (at : ℕ) (read_only : Bool) (key : Key) (optional : Bool) (shape : TypeExpr) → member_depth (p.Property at read_only key optional shape) ≡ type_depth shape
property_member at read_only key optional shape = member_out _ ∙ ap open_member (p.outs-Property at read_only key optional shape)

pub method_member : (at : ℕ) (key : Key) (optional : Bool) (params : List TypeParam) (result : TypeExpr) → member_depth (p.Method at key optional params result) ≡ max (type_params_depth params) (type_depth result)
method_member at key optional params result = member_out _ ∙ ap open_member (p.outs-Method at key optional params result)

pub type_param_rolled : (layer : TypeParam-F TypeExpr TypeMember TypeParam) → type_param_depth (roll-TypeParam layer) ≡ open_type_param layer
unfolding type_depth member_depth type_param_depth
type_param_rolled layer = fold-roll-TypeParam ℕ ℕ ℕ type_layer member_layer type_param_layer layer

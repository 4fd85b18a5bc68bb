-- What a type without its offsets is by its parts.
use Rattle.std.proofs.Common.{◌≡◌, ℕ, Bool, List, map, refl, ◌∙◌, ap}
use Rattle.tb_tree.specs.declared.types.Key.{Key}
use Rattle.tb_tree.specs.declared.types.TypeKeyword.{TypeKeyword}
use Rattle.tb_tree.specs.declared.types.TypeExpr.{TypeExpr, out-TypeExpr, fold_out-TypeExpr}
use Rattle.tb_tree.specs.declared.types.TypeExpr.TheVariants as t
use Rattle.tb_tree.specs.declared.types.TypeExpr.TheOpen.{TypeExpr-F, TypeMember-F, TypeParam-F}
use Rattle.tb_tree.specs.declared.types.TypeExpr.TheFolds.{map-TypeExpr, map-TypeMember}
use Rattle.tb_tree.specs.declared.types.TypeMember.{TypeMember, out-TypeMember, fold_out-TypeMember}
use Rattle.tb_tree.specs.declared.types.TypeMember.TheVariants as p
use Rattle.tb_tree.specs.declared.types.TypeParam.{TypeParam, out-TypeParam, fold_out-TypeParam, roll-TypeParam, fold-roll-TypeParam}
use Rattle.tb_tree.specs.Bare.{bare_type_layer, bare_member_layer, bare_type_param_layer, bare_type, bare_member, bare_type_param}

-- ---- one layer of a tree

abbrev pub open_type : TypeExpr-F TypeExpr TypeMember TypeParam → TypeExpr
open_type (TypeExpr-F.Keyword at keyword) = t.Keyword 0 keyword
open_type (TypeExpr-F.Boolean at value) = t.Boolean 0 value
open_type (TypeExpr-F.String at spelled) = t.String 0 spelled
open_type (TypeExpr-F.Integer at minus digits) = t.Integer 0 minus digits
open_type (TypeExpr-F.Written at name arguments) = t.Written 0 name (map bare_type arguments)
open_type (TypeExpr-F.Array at read_only element) = t.Array 0 read_only (bare_type element)
open_type (TypeExpr-F.Function at params result) = t.Function 0 (map bare_type_param params) (bare_type result)
open_type (TypeExpr-F.Object at members) = t.Object 0 (map bare_member members)
open_type (TypeExpr-F.Union at parts) = t.Union 0 (map bare_type parts)
open_type (TypeExpr-F.Named path name arguments) = t.Named path name (map bare_type arguments)
open_type (TypeExpr-F.Class path name) = t.Class path name
open_type (TypeExpr-F.Param owner name) = t.Param owner name
open_type (TypeExpr-F.Generic path name) = t.Generic path name

abbrev pub open_member : TypeMember-F TypeExpr TypeMember TypeParam → TypeMember
open_member (TypeMember-F.Property at read_only key optional shape) = p.Property 0 read_only key optional (bare_type shape)
open_member (TypeMember-F.Method at key optional params result) = p.Method 0 key optional (map bare_type_param params) (bare_type result)

abbrev pub open_type_param : TypeParam-F TypeExpr TypeMember TypeParam → TypeParam
open_type_param layer = roll-TypeParam (record { at = 0; name = layer.name; optional = layer.optional; shape = bare_type layer.shape })

type_opened : (layer : TypeExpr-F TypeExpr TypeMember TypeParam) → bare_type_layer (map-TypeExpr TypeExpr TypeMember TypeParam TypeExpr TypeMember TypeParam bare_type bare_member bare_type_param layer) ≡ open_type layer
type_opened (TypeExpr-F.Keyword at keyword) = refl
type_opened (TypeExpr-F.Boolean at value) = refl
type_opened (TypeExpr-F.String at spelled) = refl
type_opened (TypeExpr-F.Integer at minus digits) = refl
type_opened (TypeExpr-F.Written at name arguments) = refl
type_opened (TypeExpr-F.Array at read_only element) = refl
type_opened (TypeExpr-F.Function at params result) = refl
type_opened (TypeExpr-F.Object at members) = refl
type_opened (TypeExpr-F.Union at parts) = refl
type_opened (TypeExpr-F.Named path name arguments) = refl
type_opened (TypeExpr-F.Class path name) = refl
type_opened (TypeExpr-F.Param owner name) = refl
type_opened (TypeExpr-F.Generic path name) = refl

pub type_out : (of : TypeExpr) → bare_type of ≡ open_type (out-TypeExpr of)
unfolding bare_type bare_member bare_type_param
type_out of = fold_out-TypeExpr TypeExpr TypeMember TypeParam bare_type_layer bare_member_layer bare_type_param_layer of ∙ type_opened (out-TypeExpr of)

member_opened : (layer : TypeMember-F TypeExpr TypeMember TypeParam) → bare_member_layer (map-TypeMember TypeExpr TypeMember TypeParam TypeExpr TypeMember TypeParam bare_type bare_member bare_type_param layer) ≡ open_member layer
member_opened (TypeMember-F.Property at read_only key optional shape) = refl
member_opened (TypeMember-F.Method at key optional params result) = refl

pub member_out : (of : TypeMember) → bare_member of ≡ open_member (out-TypeMember of)
unfolding bare_type bare_member bare_type_param
member_out of = fold_out-TypeMember TypeExpr TypeMember TypeParam bare_type_layer bare_member_layer bare_type_param_layer of ∙ member_opened (out-TypeMember of)

pub type_param_out : (of : TypeParam) → bare_type_param of ≡ open_type_param (out-TypeParam of)
unfolding bare_type bare_member bare_type_param
type_param_out of = fold_out-TypeParam TypeExpr TypeMember TypeParam bare_type_layer bare_member_layer bare_type_param_layer of

-- ---- each form of a tree

pub keyword_type : (at : ℕ) (keyword : TypeKeyword) → bare_type (t.Keyword at keyword) ≡ t.Keyword 0 keyword
keyword_type at keyword = type_out _ ∙ ap open_type (t.outs-Keyword at keyword)

pub boolean_type : (at : ℕ) (value : Bool) → bare_type (t.Boolean at value) ≡ t.Boolean 0 value
boolean_type at value = type_out _ ∙ ap open_type (t.outs-Boolean at value)

pub string_type : (at : ℕ) (spelled : List ℕ) → bare_type (t.String at spelled) ≡ t.String 0 spelled
string_type at spelled = type_out _ ∙ ap open_type (t.outs-String at spelled)

pub integer_type : (at : ℕ) (minus : Bool) (digits : List ℕ) → bare_type (t.Integer at minus digits) ≡ t.Integer 0 minus digits
integer_type at minus digits = type_out _ ∙ ap open_type (t.outs-Integer at minus digits)

pub written_type : (at : ℕ) (name : List ℕ) (arguments : List TypeExpr) → bare_type (t.Written at name arguments) ≡ t.Written 0 name (map bare_type arguments)
written_type at name arguments = type_out _ ∙ ap open_type (t.outs-Written at name arguments)

pub array_type : (at : ℕ) (read_only : Bool) (element : TypeExpr) → bare_type (t.Array at read_only element) ≡ t.Array 0 read_only (bare_type element)
array_type at read_only element = type_out _ ∙ ap open_type (t.outs-Array at read_only element)

pub function_type : (at : ℕ) (params : List TypeParam) (result : TypeExpr) → bare_type (t.Function at params result) ≡ t.Function 0 (map bare_type_param params) (bare_type result)
function_type at params result = type_out _ ∙ ap open_type (t.outs-Function at params result)

pub object_type : (at : ℕ) (members : List TypeMember) → bare_type (t.Object at members) ≡ t.Object 0 (map bare_member members)
object_type at members = type_out _ ∙ ap open_type (t.outs-Object at members)

pub union_type : (at : ℕ) (parts : List TypeExpr) → bare_type (t.Union at parts) ≡ t.Union 0 (map bare_type parts)
union_type at parts = type_out _ ∙ ap open_type (t.outs-Union at parts)

pub named_type : (path : List ℕ) (name : List ℕ) (arguments : List TypeExpr) → bare_type (t.Named path name arguments) ≡ t.Named path name (map bare_type arguments)
named_type path name arguments = type_out _ ∙ ap open_type (t.outs-Named path name arguments)

pub class_type : (path : List ℕ) (name : List ℕ) → bare_type (t.Class path name) ≡ t.Class path name
class_type path name = type_out _ ∙ ap open_type (t.outs-Class path name)

pub param_type : (owner : List ℕ) (name : List ℕ) → bare_type (t.Param owner name) ≡ t.Param owner name
param_type owner name = type_out _ ∙ ap open_type (t.outs-Param owner name)

pub generic_type : (path : List ℕ) (name : List ℕ) → bare_type (t.Generic path name) ≡ t.Generic path name
generic_type path name = type_out _ ∙ ap open_type (t.outs-Generic path name)

pub property_member : (at : ℕ) (read_only : Bool) (key : Key) (optional : Bool) (shape : TypeExpr) → bare_member (p.Property at read_only key optional shape) ≡ p.Property 0 read_only key optional (bare_type shape)
property_member at read_only key optional shape = member_out _ ∙ ap open_member (p.outs-Property at read_only key optional shape)

pub method_member : (at : ℕ) (key : Key) (optional : Bool) (params : List TypeParam) (result : TypeExpr) → bare_member (p.Method at key optional params result) ≡ p.Method 0 key optional (map bare_type_param params) (bare_type result)
method_member at key optional params result = member_out _ ∙ ap open_member (p.outs-Method at key optional params result)

pub type_param_rolled : (layer : TypeParam-F TypeExpr TypeMember TypeParam) → bare_type_param (roll-TypeParam layer) ≡ open_type_param layer
unfolding bare_type bare_member bare_type_param
type_param_rolled layer = fold-roll-TypeParam TypeExpr TypeMember TypeParam bare_type_layer bare_member_layer bare_type_param_layer layer

-- What a type is in which each string has its one spelling, by its parts.
use Rattle.std.proofs.Common.{◌≡◌, ℕ, Bool, List, map, refl, ◌∙◌, ap}
use Rattle.tb_tree.specs.declared.types.Key.{Key}
use Rattle.tb_tree.specs.declared.types.TypeKeyword.{TypeKeyword}
use Rattle.tb_tree.specs.declared.types.TypeExpr.{TypeExpr, out-TypeExpr, fold_out-TypeExpr}
use Rattle.tb_tree.specs.declared.types.TypeExpr.TheVariants as t
use Rattle.tb_tree.specs.declared.types.TypeExpr.TheOpen.{TypeExpr-F, TypeMember-F, TypeParam-F}
use Rattle.tb_tree.specs.declared.types.TypeExpr.TheFolds.{map-TypeExpr, map-TypeMember}
use Rattle.tb_tree.specs.declared.types.TypeMember.{TypeMember, out-TypeMember, fold_out-TypeMember}
use Rattle.tb_tree.specs.declared.types.TypeMember.TheVariants as p
use Rattle.tb_tree.specs.declared.types.TypeParam.{TypeParam, out-TypeParam, fold_out-TypeParam, roll-TypeParam, fold-roll-TypeParam}
use Rattle.tb_layout.specs.Quoted.{quoted, quoted_key, quoted_type_layer, quoted_member_layer, quoted_type_param_layer, quoted_type, quoted_member, quoted_type_param}

-- ---- one layer of a tree

abbrev pub open_type : TypeExpr-F TypeExpr TypeMember TypeParam → TypeExpr
open_type (TypeExpr-F.Keyword at keyword) = t.Keyword at keyword
open_type (TypeExpr-F.Boolean at value) = t.Boolean at value
open_type (TypeExpr-F.String at spelled) = t.String at (quoted spelled)
open_type (TypeExpr-F.Integer at minus digits) = t.Integer at minus digits
open_type (TypeExpr-F.Written at name arguments) = t.Written at name (map quoted_type arguments)
open_type (TypeExpr-F.Array at read_only element) = t.Array at read_only (quoted_type element)
open_type (TypeExpr-F.Function at params result) = t.Function at (map quoted_type_param params) (quoted_type result)
open_type (TypeExpr-F.Object at members) = t.Object at (map quoted_member members)
open_type (TypeExpr-F.Union at parts) = t.Union at (map quoted_type parts)
open_type (TypeExpr-F.Named path name arguments) = t.Named path name (map quoted_type arguments)
open_type (TypeExpr-F.Class path name) = t.Class path name
open_type (TypeExpr-F.Param owner name) = t.Param owner name
open_type (TypeExpr-F.Generic path name) = t.Generic path name

abbrev pub open_member : TypeMember-F TypeExpr TypeMember TypeParam → TypeMember
open_member (TypeMember-F.Property at read_only key optional shape) = p.Property at read_only (quoted_key key) optional (quoted_type shape)
open_member (TypeMember-F.Method at key optional params result) = p.Method at (quoted_key key) optional (map quoted_type_param params) (quoted_type result)

abbrev pub open_type_param : TypeParam-F TypeExpr TypeMember TypeParam → TypeParam
open_type_param layer = roll-TypeParam (record { at = layer.at; name = layer.name; optional = layer.optional; shape = quoted_type layer.shape })

type_opened : (layer : TypeExpr-F TypeExpr TypeMember TypeParam) → quoted_type_layer (map-TypeExpr TypeExpr TypeMember TypeParam TypeExpr TypeMember TypeParam quoted_type quoted_member quoted_type_param layer) ≡ open_type layer
type_opened (TypeExpr-F.Keyword at keyword) = refl
type_opened (TypeExpr-F.Boolean at value) = refl
type_opened (TypeExpr-F.String at spelled) = refl
type_opened (TypeExpr-F.Integer at minus digits) = refl
type_opened (TypeExpr-F.Written at name arguments) = refl
type_opened (TypeExpr-F.Array at read_only element) = refl
type_opened (TypeExpr-F.Function at params result) = refl
type_opened (TypeExpr-F.Object at members) = refl
type_opened (TypeExpr-F.Union at parts) = refl
type_opened (TypeExpr-F.Named path name arguments) = refl
type_opened (TypeExpr-F.Class path name) = refl
type_opened (TypeExpr-F.Param owner name) = refl
type_opened (TypeExpr-F.Generic path name) = refl

pub type_out : (of : TypeExpr) → quoted_type of ≡ open_type (out-TypeExpr of)
unfolding quoted_type quoted_member quoted_type_param
type_out of = fold_out-TypeExpr TypeExpr TypeMember TypeParam quoted_type_layer quoted_member_layer quoted_type_param_layer of ∙ type_opened (out-TypeExpr of)

member_opened : (layer : TypeMember-F TypeExpr TypeMember TypeParam) → quoted_member_layer (map-TypeMember TypeExpr TypeMember TypeParam TypeExpr TypeMember TypeParam quoted_type quoted_member quoted_type_param layer) ≡ open_member layer
member_opened (TypeMember-F.Property at read_only key optional shape) = refl
member_opened (TypeMember-F.Method at key optional params result) = refl

pub member_out : (of : TypeMember) → quoted_member of ≡ open_member (out-TypeMember of)
unfolding quoted_type quoted_member quoted_type_param
member_out of = fold_out-TypeMember TypeExpr TypeMember TypeParam quoted_type_layer quoted_member_layer quoted_type_param_layer of ∙ member_opened (out-TypeMember of)

pub type_param_out : (of : TypeParam) → quoted_type_param of ≡ open_type_param (out-TypeParam of)
unfolding quoted_type quoted_member quoted_type_param
type_param_out of = fold_out-TypeParam TypeExpr TypeMember TypeParam quoted_type_layer quoted_member_layer quoted_type_param_layer of

-- ---- each form of a tree

pub keyword_type : (at : ℕ) (keyword : TypeKeyword) → quoted_type (t.Keyword at keyword) ≡ t.Keyword at keyword
keyword_type at keyword = type_out _ ∙ ap open_type (t.outs-Keyword at keyword)

pub boolean_type : (at : ℕ) (value : Bool) → quoted_type (t.Boolean at value) ≡ t.Boolean at value
boolean_type at value = type_out _ ∙ ap open_type (t.outs-Boolean at value)

pub string_type : (at : ℕ) (spelled : List ℕ) → quoted_type (t.String at spelled) ≡ t.String at (quoted spelled)
string_type at spelled = type_out _ ∙ ap open_type (t.outs-String at spelled)

pub integer_type : (at : ℕ) (minus : Bool) (digits : List ℕ) → quoted_type (t.Integer at minus digits) ≡ t.Integer at minus digits
integer_type at minus digits = type_out _ ∙ ap open_type (t.outs-Integer at minus digits)

pub written_type : (at : ℕ) (name : List ℕ) (arguments : List TypeExpr) → quoted_type (t.Written at name arguments) ≡ t.Written at name (map quoted_type arguments)
written_type at name arguments = type_out _ ∙ ap open_type (t.outs-Written at name arguments)

pub array_type : (at : ℕ) (read_only : Bool) (element : TypeExpr) → quoted_type (t.Array at read_only element) ≡ t.Array at read_only (quoted_type element)
array_type at read_only element = type_out _ ∙ ap open_type (t.outs-Array at read_only element)

pub function_type : (at : ℕ) (params : List TypeParam) (result : TypeExpr) → quoted_type (t.Function at params result) ≡ t.Function at (map quoted_type_param params) (quoted_type result)
function_type at params result = type_out _ ∙ ap open_type (t.outs-Function at params result)

pub object_type : (at : ℕ) (members : List TypeMember) → quoted_type (t.Object at members) ≡ t.Object at (map quoted_member members)
object_type at members = type_out _ ∙ ap open_type (t.outs-Object at members)

pub union_type : (at : ℕ) (parts : List TypeExpr) → quoted_type (t.Union at parts) ≡ t.Union at (map quoted_type parts)
union_type at parts = type_out _ ∙ ap open_type (t.outs-Union at parts)

pub named_type : (path : List ℕ) (name : List ℕ) (arguments : List TypeExpr) → quoted_type (t.Named path name arguments) ≡ t.Named path name (map quoted_type arguments)
named_type path name arguments = type_out _ ∙ ap open_type (t.outs-Named path name arguments)

pub class_type : (path : List ℕ) (name : List ℕ) → quoted_type (t.Class path name) ≡ t.Class path name
class_type path name = type_out _ ∙ ap open_type (t.outs-Class path name)

pub param_type : (owner : List ℕ) (name : List ℕ) → quoted_type (t.Param owner name) ≡ t.Param owner name
param_type owner name = type_out _ ∙ ap open_type (t.outs-Param owner name)

pub generic_type : (path : List ℕ) (name : List ℕ) → quoted_type (t.Generic path name) ≡ t.Generic path name
generic_type path name = type_out _ ∙ ap open_type (t.outs-Generic path name)

pub property_member : (at : ℕ) (read_only : Bool) (key : Key) (optional : Bool) (shape : TypeExpr) → quoted_member (p.Property at read_only key optional shape) ≡ p.Property at read_only (quoted_key key) optional (quoted_type shape)
property_member at read_only key optional shape = member_out _ ∙ ap open_member (p.outs-Property at read_only key optional shape)

pub method_member : (at : ℕ) (key : Key) (optional : Bool) (params : List TypeParam) (result : TypeExpr) → quoted_member (p.Method at key optional params result) ≡ p.Method at (quoted_key key) optional (map quoted_type_param params) (quoted_type result)
method_member at key optional params result = member_out _ ∙ ap open_member (p.outs-Method at key optional params result)

pub type_param_rolled : (layer : TypeParam-F TypeExpr TypeMember TypeParam) → quoted_type_param (roll-TypeParam layer) ≡ open_type_param layer
unfolding quoted_type quoted_member quoted_type_param
type_param_rolled layer = fold-roll-TypeParam TypeExpr TypeMember TypeParam quoted_type_layer quoted_member_layer quoted_type_param_layer layer

-- What the layout of a type is by the layouts of its parts.
use Rattle.std.proofs.Common.{◌≡◌, ℕ, Bool, List, [], ◌∷◌, ◌++◌, map, refl, ◌∙◌, ap}
use Rattle.tb_tree.specs.declared.marks.Mark.TheVariants as m
use Rattle.tb_tree.specs.declared.words.Class.TheVariants as c
use Rattle.tb_tree.specs.declared.types.Key.{Key}
use Rattle.tb_tree.specs.declared.types.TypeKeyword.{TypeKeyword}
use Rattle.tb_tree.specs.declared.types.TypeExpr.{TypeExpr, out-TypeExpr, fold_out-TypeExpr}
use Rattle.tb_tree.specs.declared.types.TypeExpr.TheVariants as t
use Rattle.tb_tree.specs.declared.types.TypeExpr.TheOpen.{TypeExpr-F, TypeMember-F, TypeParam-F}
use Rattle.tb_tree.specs.declared.types.TypeExpr.TheFolds.{map-TypeExpr, map-TypeMember}
use Rattle.tb_tree.specs.declared.types.TypeMember.{TypeMember, out-TypeMember, fold_out-TypeMember}
use Rattle.tb_tree.specs.declared.types.TypeMember.TheVariants as p
use Rattle.tb_tree.specs.declared.types.TypeParam.{TypeParam, out-TypeParam, fold_out-TypeParam, roll-TypeParam, fold-roll-TypeParam}
use Rattle.tb_layout.specs.Pieces.{Piece, Lex, mark, word, space, listed}
use Rattle.tb_layout.specs.Js.{truth_pieces, in_parens}
use Rattle.tb_layout.specs.Shown.{Shown, Arrow, Joined, tight, array_form, string_pieces, shown_key, keyword_text, minus_pieces, optional_pieces, read_only_pieces, colon_pieces, angled_pieces, element_pieces, barred, shown_all, body_pieces, typeof_pieces, shown_type_layer, shown_member_layer, shown_type_param_layer, shown_type, shown_member, shown_type_param, type_pieces}

pub shown_each : (all : List TypeExpr) → shown_all (map shown_type all) ≡ map type_pieces all
shown_each [] = refl
shown_each (of ∷ rest) = ap (λ part. type_pieces of ∷ part) (shown_each rest)

-- ---- one layer of a tree

abbrev pub open_type : TypeExpr-F TypeExpr TypeMember TypeParam → Shown
open_type (TypeExpr-F.Keyword at keyword) = tight (word (keyword_text keyword))
open_type (TypeExpr-F.Boolean at value) = tight (truth_pieces value)
open_type (TypeExpr-F.String at spelled) = tight (string_pieces spelled)
open_type (TypeExpr-F.Integer at minus digits) = tight (minus_pieces minus ++ Lex c.Number digits ∷ [])
open_type (TypeExpr-F.Written at name arguments) = tight (word name ++ angled_pieces (map type_pieces arguments))
open_type (TypeExpr-F.Array at read_only element) = record { form = array_form read_only; pieces = read_only_pieces read_only ++ element_pieces (shown_type element) ++ mark m.OpenBracket ++ mark m.CloseBracket }
open_type (TypeExpr-F.Function at params result) = record { form = Arrow; pieces = in_parens (listed (map shown_type_param params)) ++ space ++ mark m.Arrow ++ space ++ type_pieces result }
open_type (TypeExpr-F.Object at members) = tight (body_pieces (map shown_member members))
open_type (TypeExpr-F.Union at parts) = record { form = Joined; pieces = barred (map shown_type parts) }
open_type (TypeExpr-F.Named path name arguments) = tight (word name ++ angled_pieces (map type_pieces arguments))
open_type (TypeExpr-F.Class path name) = tight (typeof_pieces name)
open_type (TypeExpr-F.Param owner name) = tight (word name)
open_type (TypeExpr-F.Generic path name) = tight (typeof_pieces name)

abbrev pub open_member : TypeMember-F TypeExpr TypeMember TypeParam → List Piece
open_member (TypeMember-F.Property at read_only key optional shape) = read_only_pieces read_only ++ shown_key key ++ optional_pieces optional ++ colon_pieces (type_pieces shape)
open_member (TypeMember-F.Method at key optional params result) = shown_key key ++ optional_pieces optional ++ in_parens (listed (map shown_type_param params)) ++ colon_pieces (type_pieces result)

abbrev pub open_type_param : TypeParam-F TypeExpr TypeMember TypeParam → List Piece
open_type_param layer = word layer.name ++ optional_pieces layer.optional ++ colon_pieces (type_pieces layer.shape)

type_opened : (layer : TypeExpr-F TypeExpr TypeMember TypeParam) → shown_type_layer (map-TypeExpr TypeExpr TypeMember TypeParam Shown (List Piece) (List Piece) shown_type shown_member shown_type_param layer) ≡ open_type layer
type_opened (TypeExpr-F.Keyword at keyword) = refl
type_opened (TypeExpr-F.Boolean at value) = refl
type_opened (TypeExpr-F.String at spelled) = refl
type_opened (TypeExpr-F.Integer at minus digits) = refl
type_opened (TypeExpr-F.Written at name arguments) = ap (λ part. tight (word name ++ angled_pieces part)) (shown_each arguments)
type_opened (TypeExpr-F.Array at read_only element) = refl
type_opened (TypeExpr-F.Function at params result) = refl
type_opened (TypeExpr-F.Object at members) = refl
type_opened (TypeExpr-F.Union at parts) = refl
type_opened (TypeExpr-F.Named path name arguments) = ap (λ part. tight (word name ++ angled_pieces part)) (shown_each arguments)
type_opened (TypeExpr-F.Class path name) = refl
type_opened (TypeExpr-F.Param owner name) = refl
type_opened (TypeExpr-F.Generic path name) = refl

pub type_out : (of : TypeExpr) → shown_type of ≡ open_type (out-TypeExpr of)
unfolding shown_type shown_member shown_type_param
type_out of = fold_out-TypeExpr Shown (List Piece) (List Piece) shown_type_layer shown_member_layer shown_type_param_layer of ∙ type_opened (out-TypeExpr of)

member_opened : (layer : TypeMember-F TypeExpr TypeMember TypeParam) → shown_member_layer (map-TypeMember TypeExpr TypeMember TypeParam Shown (List Piece) (List Piece) shown_type shown_member shown_type_param layer) ≡ open_member layer
member_opened (TypeMember-F.Property at read_only key optional shape) = refl
member_opened (TypeMember-F.Method at key optional params result) = refl

pub member_out : (of : TypeMember) → shown_member of ≡ open_member (out-TypeMember of)
unfolding shown_type shown_member shown_type_param
member_out of = fold_out-TypeMember Shown (List Piece) (List Piece) shown_type_layer shown_member_layer shown_type_param_layer of ∙ member_opened (out-TypeMember of)

pub type_param_out : (of : TypeParam) → shown_type_param of ≡ open_type_param (out-TypeParam of)
unfolding shown_type shown_member shown_type_param
type_param_out of = fold_out-TypeParam Shown (List Piece) (List Piece) shown_type_layer shown_member_layer shown_type_param_layer of

-- ---- each form of a tree

pub keyword_type : (at : ℕ) (keyword : TypeKeyword) → shown_type (t.Keyword at keyword) ≡ tight (word (keyword_text keyword))
keyword_type at keyword = type_out _ ∙ ap open_type (t.outs-Keyword at keyword)

pub boolean_type : (at : ℕ) (value : Bool) → shown_type (t.Boolean at value) ≡ tight (truth_pieces value)
boolean_type at value = type_out _ ∙ ap open_type (t.outs-Boolean at value)

pub string_type : (at : ℕ) (spelled : List ℕ) → shown_type (t.String at spelled) ≡ tight (string_pieces spelled)
string_type at spelled = type_out _ ∙ ap open_type (t.outs-String at spelled)

pub integer_type : (at : ℕ) (minus : Bool) (digits : List ℕ) → shown_type (t.Integer at minus digits) ≡ tight (minus_pieces minus ++ Lex c.Number digits ∷ [])
integer_type at minus digits = type_out _ ∙ ap open_type (t.outs-Integer at minus digits)

pub written_type : (at : ℕ) (name : List ℕ) (arguments : List TypeExpr) → shown_type (t.Written at name arguments) ≡ tight (word name ++ angled_pieces (map type_pieces arguments))
written_type at name arguments = type_out _ ∙ ap open_type (t.outs-Written at name arguments)

pub array_type : (at : ℕ) (read_only : Bool) (element : TypeExpr) → shown_type (t.Array at read_only element) ≡ record { form = array_form read_only; pieces = read_only_pieces read_only ++ element_pieces (shown_type element) ++ mark m.OpenBracket ++ mark m.CloseBracket }
array_type at read_only element = type_out _ ∙ ap open_type (t.outs-Array at read_only element)

pub function_type : (at : ℕ) (params : List TypeParam) (result : TypeExpr) → shown_type (t.Function at params result) ≡ record { form = Arrow; pieces = in_parens (listed (map shown_type_param params)) ++ space ++ mark m.Arrow ++ space ++ type_pieces result }
function_type at params result = type_out _ ∙ ap open_type (t.outs-Function at params result)

pub object_type : (at : ℕ) (members : List TypeMember) → shown_type (t.Object at members) ≡ tight (body_pieces (map shown_member members))
object_type at members = type_out _ ∙ ap open_type (t.outs-Object at members)

pub union_type : (at : ℕ) (parts : List TypeExpr) → shown_type (t.Union at parts) ≡ record { form = Joined; pieces = barred (map shown_type parts) }
union_type at parts = type_out _ ∙ ap open_type (t.outs-Union at parts)

pub named_type : (path : List ℕ) (name : List ℕ) (arguments : List TypeExpr) → shown_type (t.Named path name arguments) ≡ tight (word name ++ angled_pieces (map type_pieces arguments))
named_type path name arguments = type_out _ ∙ ap open_type (t.outs-Named path name arguments)

pub class_type : (path : List ℕ) (name : List ℕ) → shown_type (t.Class path name) ≡ tight (typeof_pieces name)
class_type path name = type_out _ ∙ ap open_type (t.outs-Class path name)

pub param_type : (owner : List ℕ) (name : List ℕ) → shown_type (t.Param owner name) ≡ tight (word name)
param_type owner name = type_out _ ∙ ap open_type (t.outs-Param owner name)

pub generic_type : (path : List ℕ) (name : List ℕ) → shown_type (t.Generic path name) ≡ tight (typeof_pieces name)
generic_type path name = type_out _ ∙ ap open_type (t.outs-Generic path name)

pub property_member : (at : ℕ) (read_only : Bool) (key : Key) (optional : Bool) (shape : TypeExpr) → shown_member (p.Property at read_only key optional shape) ≡ read_only_pieces read_only ++ shown_key key ++ optional_pieces optional ++ colon_pieces (type_pieces shape)
property_member at read_only key optional shape = member_out _ ∙ ap open_member (p.outs-Property at read_only key optional shape)

pub method_member : (at : ℕ) (key : Key) (optional : Bool) (params : List TypeParam) (result : TypeExpr) → shown_member (p.Method at key optional params result) ≡ shown_key key ++ optional_pieces optional ++ in_parens (listed (map shown_type_param params)) ++ colon_pieces (type_pieces result)
method_member at key optional params result = member_out _ ∙ ap open_member (p.outs-Method at key optional params result)

pub type_param_rolled : (layer : TypeParam-F TypeExpr TypeMember TypeParam) → shown_type_param (roll-TypeParam layer) ≡ open_type_param layer
unfolding shown_type shown_member shown_type_param
type_param_rolled layer = fold-roll-TypeParam Shown (List Piece) (List Piece) shown_type_layer shown_member_layer shown_type_param_layer layer

-- ---- the pieces of a type, and what has parentheses round it

pub keyword_pieces_of : (at : ℕ) (keyword : TypeKeyword) → type_pieces (t.Keyword at keyword) ≡ word (keyword_text keyword)
keyword_pieces_of at keyword = ap (λ (of : Shown). of.pieces) (keyword_type at keyword)

pub boolean_pieces_of : (at : ℕ) (value : Bool) → type_pieces (t.Boolean at value) ≡ truth_pieces value
boolean_pieces_of at value = ap (λ (of : Shown). of.pieces) (boolean_type at value)

pub string_pieces_of : (at : ℕ) (spelled : List ℕ) → type_pieces (t.String at spelled) ≡ string_pieces spelled
string_pieces_of at spelled = ap (λ (of : Shown). of.pieces) (string_type at spelled)

pub integer_pieces_of : (at : ℕ) (minus : Bool) (digits : List ℕ) → type_pieces (t.Integer at minus digits) ≡ minus_pieces minus ++ Lex c.Number digits ∷ []
integer_pieces_of at minus digits = ap (λ (of : Shown). of.pieces) (integer_type at minus digits)

pub written_pieces_of : (at : ℕ) (name : List ℕ) (arguments : List TypeExpr) → type_pieces (t.Written at name arguments) ≡ word name ++ angled_pieces (map type_pieces arguments)
written_pieces_of at name arguments = ap (λ (of : Shown). of.pieces) (written_type at name arguments)

pub array_pieces_of : (at : ℕ) (read_only : Bool) (element : TypeExpr) → type_pieces (t.Array at read_only element) ≡ read_only_pieces read_only ++ element_pieces (shown_type element) ++ mark m.OpenBracket ++ mark m.CloseBracket
array_pieces_of at read_only element = ap (λ (of : Shown). of.pieces) (array_type at read_only element)

pub function_pieces_of : (at : ℕ) (params : List TypeParam) (result : TypeExpr) → type_pieces (t.Function at params result) ≡ in_parens (listed (map shown_type_param params)) ++ space ++ mark m.Arrow ++ space ++ type_pieces result
function_pieces_of at params result = ap (λ (of : Shown). of.pieces) (function_type at params result)

pub object_pieces_of : (at : ℕ) (members : List TypeMember) → type_pieces (t.Object at members) ≡ body_pieces (map shown_member members)
object_pieces_of at members = ap (λ (of : Shown). of.pieces) (object_type at members)

pub union_pieces_of : (at : ℕ) (parts : List TypeExpr) → type_pieces (t.Union at parts) ≡ barred (map shown_type parts)
union_pieces_of at parts = ap (λ (of : Shown). of.pieces) (union_type at parts)

pub named_pieces_of : (path : List ℕ) (name : List ℕ) (arguments : List TypeExpr) → type_pieces (t.Named path name arguments) ≡ word name ++ angled_pieces (map type_pieces arguments)
named_pieces_of path name arguments = ap (λ (of : Shown). of.pieces) (named_type path name arguments)

pub class_pieces_of : (path : List ℕ) (name : List ℕ) → type_pieces (t.Class path name) ≡ typeof_pieces name
class_pieces_of path name = ap (λ (of : Shown). of.pieces) (class_type path name)

pub param_pieces_of : (owner : List ℕ) (name : List ℕ) → type_pieces (t.Param owner name) ≡ word name
param_pieces_of owner name = ap (λ (of : Shown). of.pieces) (param_type owner name)

pub generic_pieces_of : (path : List ℕ) (name : List ℕ) → type_pieces (t.Generic path name) ≡ typeof_pieces name
generic_pieces_of path name = ap (λ (of : Shown). of.pieces) (generic_type path name)

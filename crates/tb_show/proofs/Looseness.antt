-- Which forms of types have parentheses round them.
use Rattle.std.proofs.Common.{◌≡◌, ℕ, Bool, true, false, List, codes, ◌++◌, refl, ◌∙◌, ap, sym, append_assoc}
use Rattle.tb_tree.specs.declared.marks.Mark.TheVariants as m
use Rattle.tb_tree.specs.declared.types.TypeExpr.{TypeExpr, out-TypeExpr}
use Rattle.tb_tree.specs.declared.types.TypeExpr.TheVariants as t
use Rattle.tb_tree.specs.declared.types.TypeExpr.TheOpen.{TypeExpr-F, TypeMember-F, TypeParam-F}
use Rattle.tb_tree.specs.declared.types.TypeMember.{TypeMember}
use Rattle.tb_tree.specs.declared.types.TypeParam.{TypeParam}
use Rattle.tb_layout.specs.Pieces.{Piece, mark, text_of}
use Rattle.tb_layout.specs.Js.{in_parens}
use Rattle.tb_layout.specs.Shown as shown
use Rattle.tb_layout.specs.Shown.{Shown, type_pieces, parens_if, array_form}
use Rattle.tb_layout.proofs.Showing as s
use Rattle.tb_show.specs.Loose.{is_loose_element, is_loose_part, element_pieces, part_pieces}
use Rattle.tb_show.proofs.Joins.{text_join}

abbrev pub open_element : TypeExpr-F TypeExpr TypeMember TypeParam → Bool
open_element (TypeExpr-F.Array at read_only element) = read_only
open_element (TypeExpr-F.Function at params result) = true
open_element (TypeExpr-F.Union at parts) = true
open_element _ = false

abbrev pub open_part : TypeExpr-F TypeExpr TypeMember TypeParam → Bool
open_part (TypeExpr-F.Function at params result) = true
open_part _ = false

array_loose : (read_only : Bool) → shown.is_loose_element (array_form read_only) ≡ read_only
array_loose true = refl
array_loose false = refl

array_tight : (read_only : Bool) → shown.is_loose_part (array_form read_only) ≡ false
array_tight true = refl
array_tight false = refl

abbrev loose_element : Shown → Bool
loose_element of = shown.is_loose_element of.form

abbrev loose_part : Shown → Bool
loose_part of = shown.is_loose_part of.form

element_opened : (layer : TypeExpr-F TypeExpr TypeMember TypeParam) → loose_element (s.open_type layer) ≡ open_element layer
element_opened (TypeExpr-F.Keyword at keyword) = refl
element_opened (TypeExpr-F.Boolean at value) = refl
element_opened (TypeExpr-F.String at spelled) = refl
element_opened (TypeExpr-F.Integer at minus digits) = refl
element_opened (TypeExpr-F.Written at name arguments) = refl
element_opened (TypeExpr-F.Array at read_only element) = array_loose read_only
element_opened (TypeExpr-F.Function at params result) = refl
element_opened (TypeExpr-F.Object at members) = refl
element_opened (TypeExpr-F.Union at parts) = refl
element_opened (TypeExpr-F.Named path name arguments) = refl
element_opened (TypeExpr-F.Class path name) = refl
element_opened (TypeExpr-F.Param owner name) = refl
element_opened (TypeExpr-F.Generic path name) = refl

part_opened : (layer : TypeExpr-F TypeExpr TypeMember TypeParam) → loose_part (s.open_type layer) ≡ open_part layer
part_opened (TypeExpr-F.Keyword at keyword) = refl
part_opened (TypeExpr-F.Boolean at value) = refl
part_opened (TypeExpr-F.String at spelled) = refl
part_opened (TypeExpr-F.Integer at minus digits) = refl
part_opened (TypeExpr-F.Written at name arguments) = refl
part_opened (TypeExpr-F.Array at read_only element) = array_tight read_only
part_opened (TypeExpr-F.Function at params result) = refl
part_opened (TypeExpr-F.Object at members) = refl
part_opened (TypeExpr-F.Union at parts) = refl
part_opened (TypeExpr-F.Named path name arguments) = refl
part_opened (TypeExpr-F.Class path name) = refl
part_opened (TypeExpr-F.Param owner name) = refl
part_opened (TypeExpr-F.Generic path name) = refl

pub element_out : (of : TypeExpr) → is_loose_element of ≡ open_element (out-TypeExpr of)
element_out of = ap loose_element (s.type_out of) ∙ element_opened (out-TypeExpr of)

pub part_out : (of : TypeExpr) → is_loose_part of ≡ open_part (out-TypeExpr of)
part_out of = ap loose_part (s.type_out of) ∙ part_opened (out-TypeExpr of)

pub array_element : (at : ℕ) (read_only : Bool) (element : TypeExpr) → is_loose_element (t.Array at read_only element) ≡ read_only
array_element at read_only element = element_out _ ∙ ap open_element (t.outs-Array at read_only element)

pub function_element : (at : ℕ) (params : List TypeParam) (result : TypeExpr) → is_loose_element (t.Function at params result) ≡ true
function_element at params result = element_out _ ∙ ap open_element (t.outs-Function at params result)

pub union_element : (at : ℕ) (parts : List TypeExpr) → is_loose_element (t.Union at parts) ≡ true
union_element at parts = element_out _ ∙ ap open_element (t.outs-Union at parts)

pub function_part : (at : ℕ) (params : List TypeParam) (result : TypeExpr) → is_loose_part (t.Function at params result) ≡ true
function_part at params result = part_out _ ∙ ap open_part (t.outs-Function at params result)

-- ---- what is written for an element and for a part

parens_text : (inner : List Piece) → text_of (in_parens inner) ≡ codes "(" ++ (text_of inner ++ codes ")")
parens_text inner = text_join (mark m.OpenParen ++ inner) (mark m.CloseParen)

pub element_loose : (of : TypeExpr) → true ≡ is_loose_element of → text_of (element_pieces of) ≡ codes "(" ++ (text_of (type_pieces of) ++ codes ")")
element_loose of is = ap (λ b. text_of (parens_if b (type_pieces of))) (sym is) ∙ parens_text (type_pieces of)

pub element_tight : (of : TypeExpr) → false ≡ is_loose_element of → text_of (element_pieces of) ≡ text_of (type_pieces of)
element_tight of is = ap (λ b. text_of (parens_if b (type_pieces of))) (sym is)

pub part_loose : (of : TypeExpr) → true ≡ is_loose_part of → text_of (part_pieces of) ≡ codes "(" ++ (text_of (type_pieces of) ++ codes ")")
part_loose of is = ap (λ b. text_of (parens_if b (type_pieces of))) (sym is) ∙ parens_text (type_pieces of)

pub part_tight : (of : TypeExpr) → false ≡ is_loose_part of → text_of (part_pieces of) ≡ text_of (type_pieces of)
part_tight of is = ap (λ b. text_of (parens_if b (type_pieces of))) (sym is)

-- Which types have parentheses round them, and the pieces of those that may.
use Rattle.std.specs.Prelude.{Bool, List}
use Rattle.tb_tree.specs.declared.types.TypeExpr.{TypeExpr}
use Rattle.tb_layout.specs.Pieces.{Piece}
use Rattle.tb_layout.specs.Shown as shown

-- as the element of an array, and as a part of a union
abbrev pub is_loose_element : TypeExpr → Bool
is_loose_element of = let seen = shown.shown_type of in shown.is_loose_element seen.form

abbrev pub is_loose_part : TypeExpr → Bool
is_loose_part of = let seen = shown.shown_type of in shown.is_loose_part seen.form

abbrev pub element_pieces : TypeExpr → List Piece
element_pieces of = shown.element_pieces (shown.shown_type of)

abbrev pub part_pieces : TypeExpr → List Piece
part_pieces of = shown.part_pieces (shown.shown_type of)

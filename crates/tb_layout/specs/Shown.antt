-- The layout of types, as in TypeScript's declaration files: the pieces of the text of a type. Parentheses stand round a union, a
-- function and a read-only array that is the element of an array, and round a function that is a part of a union; the tree has none of
-- its own. This project's own.
use Rattle.std.specs.Prelude.{Bool, true, false, List, [], ◌∷◌, ◌++◌, codes, flat_map, ℕ}
use Rattle.tb_tree.specs.declared.marks.Mark.TheVariants as m
use Rattle.tb_tree.specs.declared.words.Class.TheVariants as c
use Rattle.tb_tree.specs.declared.types.Key.{Key}
use Rattle.tb_tree.specs.declared.types.Key.TheVariants as k
use Rattle.tb_tree.specs.declared.types.TypeKeyword.{TypeKeyword}
use Rattle.tb_tree.specs.declared.types.TypeKeyword.TheVariants as b
use Rattle.tb_tree.specs.declared.types.TypeExpr.{TypeExpr, fold-TypeExpr}
use Rattle.tb_tree.specs.declared.types.TypeExpr.TheOpen.{TypeExpr-F, TypeMember-F, TypeParam-F}
use Rattle.tb_tree.specs.declared.types.TypeMember.{TypeMember, fold-TypeMember}
use Rattle.tb_tree.specs.declared.types.TypeParam.{TypeParam, fold-TypeParam}
use Rattle.tb_layout.specs.Pieces.{Piece, Lex, mark, word, space, listed, text_of}
use Rattle.tb_layout.specs.Quoted.{quoted}
use Rattle.tb_layout.specs.Js.{truth_pieces, in_parens}

-- what decides whether a type has parentheses round it
pub data Form : Type 0 where
  Tight : Form
  ReadOnly : Form
  Arrow : Form
  Joined : Form

pub record Shown : Type 0 where
  pub form : Form
  pub pieces : List Piece

-- ---- parts

abbrev pub string_pieces : List ℕ → List Piece
string_pieces spelled = Lex c.String (quoted spelled) ∷ []

abbrev pub shown_key : Key → List Piece
shown_key (k.Word spelled) = word spelled
shown_key (k.String spelled) = string_pieces spelled

abbrev pub keyword_text : TypeKeyword → List ℕ
keyword_text b.Any = codes "any"
keyword_text b.Unknown = codes "unknown"
keyword_text b.Never = codes "never"
keyword_text b.Number = codes "number"
keyword_text b.String = codes "string"
keyword_text b.Boolean = codes "boolean"
keyword_text b.Void = codes "void"
keyword_text b.Null = codes "null"
keyword_text b.Undefined = codes "undefined"

abbrev pub minus_pieces : Bool → List Piece
minus_pieces true = mark m.Minus
minus_pieces false = []

abbrev pub optional_pieces : Bool → List Piece
optional_pieces true = mark m.Question
optional_pieces false = []

abbrev pub read_only_pieces : Bool → List Piece
read_only_pieces true = word (codes "readonly") ++ space
read_only_pieces false = []

-- `: ` and a type
abbrev pub colon_pieces : List Piece → List Piece
colon_pieces of = mark m.Colon ++ space ++ of

-- type arguments or type variables, where there are some: `<A, B>`
abbrev pub angled_pieces : List (List Piece) → List Piece
angled_pieces [] = []
angled_pieces (of ∷ rest) = mark m.Less ++ listed (of ∷ rest) ++ mark m.Greater

-- what has parentheses round it as the element of an array, and as a part of a union
abbrev pub is_loose_element : Form → Bool
is_loose_element Tight = false
is_loose_element ReadOnly = true
is_loose_element Arrow = true
is_loose_element Joined = true

abbrev pub is_loose_part : Form → Bool
is_loose_part Tight = false
is_loose_part ReadOnly = false
is_loose_part Arrow = true
is_loose_part Joined = false

abbrev pub parens_if : Bool → List Piece → List Piece
parens_if true of = in_parens of
parens_if false of = of

abbrev pub element_pieces : Shown → List Piece
element_pieces of = parens_if (is_loose_element of.form) of.pieces

abbrev pub part_pieces : Shown → List Piece
part_pieces of = parens_if (is_loose_part of.form) of.pieces

-- parts with ` | ` between them
abbrev pub barred : List Shown → List Piece
barred [] = []
barred (of ∷ []) = part_pieces of
barred (of ∷ next ∷ rest) = part_pieces of ++ space ++ mark m.Bar ++ space ++ barred (next ∷ rest)

abbrev pub shown_all : List Shown → List (List Piece)
shown_all [] = []
shown_all (of ∷ rest) = of.pieces ∷ shown_all rest

-- members on one line, each behind a space and with `;` behind it
abbrev pub inline_pieces : List Piece → List Piece
inline_pieces of = space ++ of ++ mark m.Semicolon

abbrev pub body_pieces : List (List Piece) → List Piece
body_pieces [] = mark m.OpenBrace ++ mark m.CloseBrace
body_pieces (of ∷ rest) = mark m.OpenBrace ++ flat_map inline_pieces (of ∷ rest) ++ space ++ mark m.CloseBrace

abbrev pub array_form : Bool → Form
array_form true = ReadOnly
array_form false = Tight

-- what a class or a function with type variables is called as a value
abbrev pub typeof_pieces : List ℕ → List Piece
typeof_pieces name = word (codes "typeof") ++ space ++ word name

abbrev pub tight : List Piece → Shown
tight of = record { form = Tight; pieces = of }

-- ---- layers

abbrev pub shown_type_layer : TypeExpr-F Shown (List Piece) (List Piece) → Shown
shown_type_layer (TypeExpr-F.Keyword at keyword) = tight (word (keyword_text keyword))
shown_type_layer (TypeExpr-F.Boolean at value) = tight (truth_pieces value)
shown_type_layer (TypeExpr-F.String at spelled) = tight (string_pieces spelled)
shown_type_layer (TypeExpr-F.Integer at minus digits) = tight (minus_pieces minus ++ Lex c.Number digits ∷ [])
shown_type_layer (TypeExpr-F.Written at name arguments) = tight (word name ++ angled_pieces (shown_all arguments))
shown_type_layer (TypeExpr-F.Array at read_only element) =
    record { form = array_form read_only; pieces = read_only_pieces read_only ++ element_pieces element ++ mark m.OpenBracket ++ mark m.CloseBracket }
shown_type_layer (TypeExpr-F.Function at params result) =
    record { form = Arrow; pieces = in_parens (listed params) ++ space ++ mark m.Arrow ++ space ++ result.pieces }
shown_type_layer (TypeExpr-F.Object at members) = tight (body_pieces members)
shown_type_layer (TypeExpr-F.Union at parts) = record { form = Joined; pieces = barred parts }
shown_type_layer (TypeExpr-F.Named path name arguments) = tight (word name ++ angled_pieces (shown_all arguments))
shown_type_layer (TypeExpr-F.Class path name) = tight (typeof_pieces name)
shown_type_layer (TypeExpr-F.Param owner name) = tight (word name)
shown_type_layer (TypeExpr-F.Generic path name) = tight (typeof_pieces name)

-- a member, without the `;` behind it
abbrev pub shown_member_layer : TypeMember-F Shown (List Piece) (List Piece) → List Piece
shown_member_layer (TypeMember-F.Property at read_only key optional shape) =
    read_only_pieces read_only ++ shown_key key ++ optional_pieces optional ++ colon_pieces shape.pieces
shown_member_layer (TypeMember-F.Method at key optional params result) =
    shown_key key ++ optional_pieces optional ++ in_parens (listed params) ++ colon_pieces result.pieces

abbrev pub shown_type_param_layer : TypeParam-F Shown (List Piece) (List Piece) → List Piece
shown_type_param_layer layer = word layer.name ++ optional_pieces layer.optional ++ colon_pieces layer.shape.pieces

unfoldable pub shown_type : TypeExpr → Shown
shown_type = fold-TypeExpr Shown (List Piece) (List Piece) shown_type_layer shown_member_layer shown_type_param_layer

unfoldable pub shown_member : TypeMember → List Piece
shown_member = fold-TypeMember Shown (List Piece) (List Piece) shown_type_layer shown_member_layer shown_type_param_layer

unfoldable pub shown_type_param : TypeParam → List Piece
shown_type_param = fold-TypeParam Shown (List Piece) (List Piece) shown_type_layer shown_member_layer shown_type_param_layer

abbrev pub type_pieces : TypeExpr → List Piece
type_pieces of = let shown = shown_type of in shown.pieces

abbrev pub type_text : TypeExpr → List ℕ
type_text of = text_of (type_pieces of)

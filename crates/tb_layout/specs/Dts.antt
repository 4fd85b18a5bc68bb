-- The layout of declaration files: each item of a surface stands on lines of its own, the members of interfaces and classes on further
-- ones, four spaces deep. This project's own.
use Rattle.std.specs.Prelude.{Bool, true, false, not, ◌||◌, List, [], ◌∷◌, ◌++◌, map, flat_map, codes, ℕ, Option, Some, None}
use Rattle.std.specs.List.{list_any, list_all}
use Rattle.tb_tree.specs.declared.marks.Mark.TheVariants as m
use Rattle.tb_tree.specs.declared.exprs.Identifier.{Identifier}
use Rattle.tb_tree.specs.declared.types.TypeParam.{TypeParam}
use Rattle.tb_tree.specs.declared.items.Specifier.{Specifier}
use Rattle.tb_tree.specs.declared.items.Spec.{Spec}
use Rattle.tb_tree.specs.declared.items.Import.{Import}
use Rattle.tb_tree.specs.declared.items.Import.TheVariants as import_form
use Rattle.tb_tree.specs.declared.items.ExportList.{ExportList}
use Rattle.tb_tree.specs.declared.items.Base.{Base}
use Rattle.tb_tree.specs.declared.items.Interface.{Interface}
use Rattle.tb_tree.specs.declared.items.Alias.{Alias}
use Rattle.tb_tree.specs.declared.items.DeclaredMember.{DeclaredMember}
use Rattle.tb_tree.specs.declared.items.DeclaredMember.TheVariants as declared_member
use Rattle.tb_tree.specs.declared.items.DeclaredClass.{DeclaredClass}
use Rattle.tb_tree.specs.declared.items.Declared.{Declared}
use Rattle.tb_tree.specs.declared.items.Declared.TheVariants as declared
use Rattle.tb_tree.specs.declared.items.SurfaceItem.{SurfaceItem}
use Rattle.tb_tree.specs.declared.items.SurfaceItem.TheVariants as surface_item
use Rattle.tb_tree.specs.declared.items.Surface.{Surface}
use Rattle.tb_layout.specs.Pieces.{Piece, mark, word, space, new_line, listed, text_of}
use Rattle.tb_layout.specs.Js.{in_parens, kind_pieces, static_pieces, exported_pieces, object_pieces, spec_pieces, name_of}
use Rattle.tb_layout.specs.Shown.{string_pieces, optional_pieces, read_only_pieces, colon_pieces, angled_pieces, type_pieces, shown_member, shown_type_param}

-- ---- imports and export lists

-- `type ` or nothing
abbrev pub typed_pieces : Bool → List Piece
typed_pieces true = word (codes "type") ++ space
typed_pieces false = []

-- a Spec keeps its `type`
abbrev pub typed_spec_pieces : Spec → List Piece
typed_spec_pieces of = typed_pieces of.type_only ++ spec_pieces of

abbrev pub typed_specs_pieces : List Spec → List Piece
typed_specs_pieces specs = object_pieces (map typed_spec_pieces specs)

abbrev pub specifier_pieces : Specifier → List Piece
specifier_pieces of = string_pieces of.spelled

abbrev pub from_pieces : Option Specifier → List Piece
from_pieces None = []
from_pieces (Some of) = space ++ word (codes "from") ++ space ++ specifier_pieces of

abbrev pub import_pieces : Import → List Piece
import_pieces (import_form.List at type_only specs from) =
    word (codes "import") ++ space ++ typed_pieces type_only ++ typed_specs_pieces specs ++ from_pieces (Some from) ++ mark m.Semicolon
import_pieces (import_form.Bare at from) = word (codes "import") ++ space ++ specifier_pieces from ++ mark m.Semicolon

abbrev pub export_list_pieces : ExportList → List Piece
export_list_pieces of = word (codes "export") ++ space ++ typed_pieces of.type_only ++ typed_specs_pieces of.specs ++ from_pieces of.from ++ mark m.Semicolon

-- ---- declarations

-- type variables stand directly behind the name
abbrev pub variables_pieces : List Identifier → List Piece
variables_pieces variables = angled_pieces (map name_of variables)

abbrev pub params_pieces : List TypeParam → List Piece
params_pieces params = in_parens (listed (map shown_type_param params))

abbrev pub base_pieces : Base → List Piece
base_pieces of = word of.name ++ angled_pieces (map type_pieces of.arguments)

-- ` extends A, B`, or the same with `implements`, or nothing
abbrev pub bases_pieces : List ℕ → List Base → List Piece
bases_pieces keyword [] = []
bases_pieces keyword (of ∷ rest) = space ++ word keyword ++ space ++ listed (map base_pieces (of ∷ rest))

-- a member on a line of its own
abbrev pub member_line : List Piece → List Piece
member_line of = new_line 1 ++ of ++ mark m.Semicolon

-- braces round lines; the closing one stands on a line of its own, also where there are none
abbrev pub lines_pieces : List (List Piece) → List Piece
lines_pieces members = space ++ mark m.OpenBrace ++ flat_map member_line members ++ new_line 0 ++ mark m.CloseBrace

abbrev pub interface_pieces : Interface → List Piece
interface_pieces of =
    word (codes "interface") ++ space ++ word of.name ++ variables_pieces of.variables ++ bases_pieces (codes "extends") of.extends
    ++ lines_pieces (map shown_member of.members)

abbrev pub alias_pieces : Alias → List Piece
alias_pieces of =
    word (codes "type") ++ space ++ word of.name ++ variables_pieces of.variables ++ space ++ mark m.Assign ++ space ++ type_pieces of.shape ++ mark m.Semicolon

abbrev pub declared_member_pieces : DeclaredMember → List Piece
declared_member_pieces (declared_member.Field at is_static read_only name optional shape) =
    static_pieces is_static ++ read_only_pieces read_only ++ word name ++ optional_pieces optional ++ colon_pieces (type_pieces shape)
declared_member_pieces (declared_member.Constructor at params) = word (codes "constructor") ++ params_pieces params
declared_member_pieces (declared_member.Method at is_static name params result) =
    static_pieces is_static ++ word name ++ params_pieces params ++ colon_pieces (type_pieces result)

abbrev pub class_pieces : DeclaredClass → List Piece
class_pieces of =
    word (codes "class") ++ space ++ word of.name ++ bases_pieces (codes "implements") of.implements ++ lines_pieces (map declared_member_pieces of.members)

abbrev pub declare_pieces : List Piece
declare_pieces = word (codes "declare") ++ space

-- interfaces and aliases need no `declare`
abbrev pub declared_pieces : Declared → List Piece
declared_pieces (declared.Variable at kind name shape) =
    declare_pieces ++ kind_pieces kind ++ space ++ word name ++ colon_pieces (type_pieces shape) ++ mark m.Semicolon
declared_pieces (declared.Function at name variables params result) =
    declare_pieces ++ word (codes "function") ++ space ++ word name ++ variables_pieces variables ++ params_pieces params ++ colon_pieces (type_pieces result) ++ mark m.Semicolon
declared_pieces (declared.Class of) = declare_pieces ++ class_pieces of
declared_pieces (declared.Interface of) = interface_pieces of
declared_pieces (declared.Alias of) = alias_pieces of

-- ---- surfaces

abbrev pub surface_item_pieces : SurfaceItem → List Piece
surface_item_pieces (surface_item.Import of) = import_pieces of
surface_item_pieces (surface_item.ExportList of) = export_list_pieces of
surface_item_pieces (surface_item.Declaration exported of) = exported_pieces exported ++ declared_pieces of

-- an item that is an export: an export list, and a declaration with `export`
abbrev pub is_export : SurfaceItem → Bool
is_export (surface_item.Import of) = false
is_export (surface_item.ExportList of) = true
is_export (surface_item.Declaration exported of) = exported

abbrev pub is_import : SurfaceItem → Bool
is_import (surface_item.Import of) = true
is_import (surface_item.ExportList of) = false
is_import (surface_item.Declaration exported of) = false

abbrev pub is_import_or_export : SurfaceItem → Bool
is_import_or_export of = is_import of || is_export of

-- where no item is an export, or where some item that is no import has no `export`: a declaration file that says nothing of its exports
-- exports all that it declares
abbrev pub needs_export : List SurfaceItem → Bool
needs_export items = not (list_any is_export items) || not (list_all is_import_or_export items)

abbrev pub last_line : Bool → List Piece
last_line true = word (codes "export") ++ space ++ mark m.OpenBrace ++ mark m.CloseBrace ++ mark m.Semicolon ++ new_line 0
last_line false = []

-- each item ends its line
abbrev pub item_lines : SurfaceItem → List Piece
item_lines of = surface_item_pieces of ++ new_line 0

abbrev pub dts_pieces : Surface → List Piece
dts_pieces of = flat_map item_lines of.items ++ last_line (needs_export of.items)

abbrev pub dts_text : Surface → List ℕ
dts_text of = text_of (dts_pieces of)

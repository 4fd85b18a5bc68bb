-- The layout of a type, of a member and of an item is that of the same with its strings in one spelling.
use Rattle.std.proofs.Common.{◌≡◌, ℕ, List, [], ◌∷◌, ◌++◌, map, codes, Option, Some, None, refl, sym, ap, ◌∙◌}
use Rattle.tb_tree.specs.declared.marks.Mark.TheVariants as m
use Rattle.tb_tree.specs.declared.words.Class.TheVariants as c
use Rattle.tb_tree.specs.declared.types.Key.{Key}
use Rattle.tb_tree.specs.declared.types.Key.TheVariants as k
use Rattle.tb_tree.specs.declared.types.TypeExpr.{TypeExpr}
use Rattle.tb_tree.specs.declared.types.TypeMember.{TypeMember}
use Rattle.tb_tree.specs.declared.types.TypeParam.{TypeParam}
use Rattle.tb_tree.specs.declared.items.Specifier.{Specifier}
use Rattle.tb_tree.specs.declared.items.Import.{Import}
use Rattle.tb_tree.specs.declared.items.Import.TheVariants as import_form
use Rattle.tb_tree.specs.declared.items.ExportList.{ExportList}
use Rattle.tb_tree.specs.declared.items.Base.{Base}
use Rattle.tb_tree.specs.declared.items.Interface.{Interface}
use Rattle.tb_tree.specs.declared.items.Alias.{Alias}
use Rattle.tb_tree.specs.declared.items.DeclaredMember.{DeclaredMember}
use Rattle.tb_tree.specs.declared.items.DeclaredMember.TheVariants as declared_member
use Rattle.tb_tree.specs.declared.items.DeclaredClass.{DeclaredClass}
use Rattle.tb_tree.specs.declared.items.Declared.{Declared}
use Rattle.tb_tree.specs.declared.items.Declared.TheVariants as declared
use Rattle.tb_tree.specs.declared.items.SurfaceItem.{SurfaceItem}
use Rattle.tb_tree.specs.declared.items.SurfaceItem.TheVariants as surface_item
use Rattle.tb_tree.proofs.Ends.{ap_both}
use Rattle.tb_layout.specs.Pieces.{Piece, Lex, mark, word, space, listed}
use Rattle.tb_layout.specs.Js.{in_parens, static_pieces, kind_pieces, exported_pieces}
use Rattle.tb_layout.specs.Quoted.{quoted, quoted_key, quoted_type, quoted_member, quoted_type_param, quoted_specifier, quoted_origin, quoted_import, quoted_export_list, quoted_base, quoted_interface, quoted_alias, quoted_declared_member, quoted_class, quoted_declared, quoted_surface_item}
use Rattle.tb_layout.specs.Shown.{Form, Shown, Arrow, Joined, tight, array_form, string_pieces, shown_key, optional_pieces, read_only_pieces, colon_pieces, angled_pieces, element_pieces, barred, body_pieces, shown_type, shown_member, shown_type_param, type_pieces}
use Rattle.tb_layout.specs.Dts.{typed_pieces, typed_specs_pieces, specifier_pieces, from_pieces, import_pieces, export_list_pieces, variables_pieces, params_pieces, base_pieces, bases_pieces, lines_pieces, interface_pieces, alias_pieces, declared_member_pieces, class_pieces, declare_pieces, declared_pieces, surface_item_pieces}
use Rattle.tb_layout.proofs.Inducing.{Each, none, more, TypeCases, type_induction, member_induction, param_induction}
use Rattle.tb_layout.proofs.Quoting as q
use Rattle.tb_layout.proofs.Showing as s
use Rattle.tb_layout.proofs.Values.{quoted_twice}
use Rattle.tb_emit_law.proofs.Back.{ap_three}

-- ---- types

each_same : {A B C : Type 0} (h : B → C) (f : A → B) (g : A → A) {xs : List A} → Each A (λ x. f (g x) ≡ f x) xs → map (λ x. h (f x)) (map g xs) ≡ map (λ x. h (f x)) xs
each_same h f g none = refl
each_same h f g (more same rest) = ap_both (λ v vs. v ∷ vs) (ap h same) (each_same h f g rest)

all_same : {A B : Type 0} (f : A → B) (g : A → A) → ((x : A) → f (g x) ≡ f x) → (xs : List A) → map f (map g xs) ≡ map f xs
all_same f g same [] = refl
all_same f g same (x ∷ xs) = ap_both (λ v vs. v ∷ vs) (same x) (all_same f g same xs)

abbrev pieces_in : Shown → List Piece
pieces_in of = of.pieces

abbrev whole : {A : Type 0} → A → A
whole of = of

abbrev IsShownType : TypeExpr → Type 0
IsShownType of = shown_type (quoted_type of) ≡ shown_type of

abbrev IsShownMember : TypeMember → Type 0
IsShownMember of = shown_member (quoted_member of) ≡ shown_member of

abbrev IsShownParam : TypeParam → Type 0
IsShownParam of = shown_type_param (quoted_type_param of) ≡ shown_type_param of

string_same : (spelled : List ℕ) → string_pieces (quoted spelled) ≡ string_pieces spelled
string_same spelled = ap (λ v. Lex c.String v ∷ []) (quoted_twice spelled)

key_same : (key : Key) → shown_key (quoted_key key) ≡ shown_key key
key_same (k.Word spelled) = refl
key_same (k.String spelled) = string_same spelled

abbrev as_shown : Form → List Piece → Shown
as_shown form pieces = record { form = form; pieces = pieces }

cases : TypeCases IsShownType IsShownMember IsShownParam
cases = record {
  keyword_case = λ at keyword. ap shown_type (q.keyword_type at keyword);
  boolean_case = λ at value. ap shown_type (q.boolean_type at value);
  string_case = λ at spelled. ap shown_type (q.string_type at spelled) ∙ (s.string_type at (quoted spelled) ∙ (ap tight (string_same spelled) ∙ sym (s.string_type at spelled)));
  integer_case = λ at minus digits. ap shown_type (q.integer_type at minus digits);
  written_case = λ at name arguments each.
      ap shown_type (q.written_type at name arguments)
      ∙ (s.written_type at name (map quoted_type arguments)
      ∙ (ap (λ v. tight (word name ++ angled_pieces v)) (each_same pieces_in shown_type quoted_type each) ∙ sym (s.written_type at name arguments)));
  array_case = λ at read_only element same.
      ap shown_type (q.array_type at read_only element)
      ∙ (s.array_type at read_only (quoted_type element)
      ∙ (ap (λ v. as_shown (array_form read_only) (read_only_pieces read_only ++ element_pieces v ++ mark m.OpenBracket ++ mark m.CloseBracket)) same ∙ sym (s.array_type at read_only element)));
  function_case = λ at params result each same.
      ap shown_type (q.function_type at params result)
      ∙ (s.function_type at (map quoted_type_param params) (quoted_type result)
      ∙ (ap_both (λ v u. as_shown Arrow (in_parens (listed v) ++ space ++ mark m.Arrow ++ space ++ pieces_in u)) (each_same whole shown_type_param quoted_type_param each) same ∙ sym (s.function_type at params result)));
  object_case = λ at members each.
      ap shown_type (q.object_type at members)
      ∙ (s.object_type at (map quoted_member members) ∙ (ap (λ v. tight (body_pieces v)) (each_same whole shown_member quoted_member each) ∙ sym (s.object_type at members)));
  union_case = λ at parts each.
      ap shown_type (q.union_type at parts)
      ∙ (s.union_type at (map quoted_type parts) ∙ (ap (λ v. as_shown Joined (barred v)) (each_same whole shown_type quoted_type each) ∙ sym (s.union_type at parts)));
  named_case = λ path name arguments each.
      ap shown_type (q.named_type path name arguments)
      ∙ (s.named_type path name (map quoted_type arguments)
      ∙ (ap (λ v. tight (word name ++ angled_pieces v)) (each_same pieces_in shown_type quoted_type each) ∙ sym (s.named_type path name arguments)));
  class_case = λ path name. ap shown_type (q.class_type path name);
  param_case = λ owner name. ap shown_type (q.param_type owner name);
  generic_case = λ path name. ap shown_type (q.generic_type path name);
  property_case = λ at read_only key optional shape same.
      ap shown_member (q.property_member at read_only key optional shape)
      ∙ (s.property_member at read_only (quoted_key key) optional (quoted_type shape)
      ∙ (ap_both (λ v u. read_only_pieces read_only ++ v ++ optional_pieces optional ++ colon_pieces (pieces_in u)) (key_same key) same ∙ sym (s.property_member at read_only key optional shape)));
  method_case = λ at key optional params result each same.
      ap shown_member (q.method_member at key optional params result)
      ∙ (s.method_member at (quoted_key key) optional (map quoted_type_param params) (quoted_type result)
      ∙ (ap_three (λ v u n. v ++ optional_pieces optional ++ in_parens (listed u) ++ colon_pieces (pieces_in n)) (key_same key) (each_same whole shown_type_param quoted_type_param each) same
      ∙ sym (s.method_member at key optional params result)));
  rolled_case = λ at name optional shape same.
      ap shown_type_param (q.type_param_rolled (record { at = at; name = name; optional = optional; shape = shape }))
      ∙ (s.type_param_rolled (record { at = at; name = name; optional = optional; shape = quoted_type shape })
      ∙ (ap (λ v. word name ++ optional_pieces optional ++ colon_pieces (pieces_in v)) same ∙ sym (s.type_param_rolled (record { at = at; name = name; optional = optional; shape = shape }))));
}

pub shown_same : (of : TypeExpr) → shown_type (quoted_type of) ≡ shown_type of
shown_same = type_induction IsShownType IsShownMember IsShownParam cases

pub pieces_same : (of : TypeExpr) → type_pieces (quoted_type of) ≡ type_pieces of
pieces_same of = ap pieces_in (shown_same of)

member_same : (of : TypeMember) → shown_member (quoted_member of) ≡ shown_member of
member_same = member_induction IsShownType IsShownMember IsShownParam cases

pub param_same : (of : TypeParam) → shown_type_param (quoted_type_param of) ≡ shown_type_param of
param_same = param_induction IsShownType IsShownMember IsShownParam cases

-- ---- items

specifier_same : (of : Specifier) → specifier_pieces (quoted_specifier of) ≡ specifier_pieces of
specifier_same of = string_same of.spelled

from_same : (of : Option Specifier) → from_pieces (quoted_origin of) ≡ from_pieces of
from_same None = refl
from_same (Some of) = ap (λ v. space ++ word (codes "from") ++ space ++ v) (specifier_same of)

import_same : (of : Import) → import_pieces (quoted_import of) ≡ import_pieces of
import_same (import_form.List at type_only specs from) =
    ap (λ v. word (codes "import") ++ space ++ typed_pieces type_only ++ typed_specs_pieces specs ++ v ++ mark m.Semicolon) (from_same (Some from))
import_same (import_form.Bare at from) = ap (λ v. word (codes "import") ++ space ++ v ++ mark m.Semicolon) (specifier_same from)

export_list_same : (of : ExportList) → export_list_pieces (quoted_export_list of) ≡ export_list_pieces of
export_list_same of = ap (λ v. word (codes "export") ++ space ++ typed_pieces of.type_only ++ typed_specs_pieces of.specs ++ v ++ mark m.Semicolon) (from_same of.from)

base_same : (of : Base) → base_pieces (quoted_base of) ≡ base_pieces of
base_same of = ap (λ v. word of.name ++ angled_pieces v) (all_same type_pieces quoted_type pieces_same of.arguments)

bases_same : (keyword : List ℕ) (all : List Base) → bases_pieces keyword (map quoted_base all) ≡ bases_pieces keyword all
bases_same keyword [] = refl
bases_same keyword (of ∷ rest) = ap (λ v. space ++ word keyword ++ space ++ listed v) (all_same base_pieces quoted_base base_same (of ∷ rest))

interface_same : (of : Interface) → interface_pieces (quoted_interface of) ≡ interface_pieces of
interface_same of =
    ap_both (λ v u. word (codes "interface") ++ space ++ word of.name ++ variables_pieces of.variables ++ v ++ lines_pieces u) (bases_same (codes "extends") of.extends)
    (all_same shown_member quoted_member member_same of.members)

alias_same : (of : Alias) → alias_pieces (quoted_alias of) ≡ alias_pieces of
alias_same of =
    ap (λ v. word (codes "type") ++ space ++ word of.name ++ variables_pieces of.variables ++ space ++ mark m.Assign ++ space ++ v ++ mark m.Semicolon) (pieces_same of.shape)

params_same : (all : List TypeParam) → params_pieces (map quoted_type_param all) ≡ params_pieces all
params_same all = ap (λ v. in_parens (listed v)) (all_same shown_type_param quoted_type_param param_same all)

declared_member_same : (of : DeclaredMember) → declared_member_pieces (quoted_declared_member of) ≡ declared_member_pieces of
declared_member_same (declared_member.Field at is_static read_only name optional shape) =
    ap (λ v. static_pieces is_static ++ read_only_pieces read_only ++ word name ++ optional_pieces optional ++ colon_pieces v) (pieces_same shape)
declared_member_same (declared_member.Constructor at params) = ap (λ v. word (codes "constructor") ++ v) (params_same params)
declared_member_same (declared_member.Method at is_static name params result) = ap_both (λ v u. static_pieces is_static ++ word name ++ v ++ colon_pieces u) (params_same params) (pieces_same result)

class_same : (of : DeclaredClass) → class_pieces (quoted_class of) ≡ class_pieces of
class_same of =
    ap_both (λ v u. word (codes "class") ++ space ++ word of.name ++ v ++ lines_pieces u) (bases_same (codes "implements") of.implements)
    (all_same declared_member_pieces quoted_declared_member declared_member_same of.members)

pub declared_same : (of : Declared) → declared_pieces (quoted_declared of) ≡ declared_pieces of
declared_same (declared.Variable at kind name shape) = ap (λ v. declare_pieces ++ kind_pieces kind ++ space ++ word name ++ colon_pieces v ++ mark m.Semicolon) (pieces_same shape)
declared_same (declared.Function at name variables params result) =
    ap_both (λ v u. declare_pieces ++ word (codes "function") ++ space ++ word name ++ variables_pieces variables ++ v ++ colon_pieces u ++ mark m.Semicolon) (params_same params) (pieces_same result)
declared_same (declared.Class of) = ap (λ v. declare_pieces ++ v) (class_same of)
declared_same (declared.Interface of) = interface_same of
declared_same (declared.Alias of) = alias_same of

pub item_same : (of : SurfaceItem) → surface_item_pieces (quoted_surface_item of) ≡ surface_item_pieces of
item_same (surface_item.Import of) = import_same of
item_same (surface_item.ExportList of) = export_list_same of
item_same (surface_item.Declaration exported of) = ap (λ v. exported_pieces exported ++ v) (declared_same of)

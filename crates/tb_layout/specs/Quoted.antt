-- Strings by their values: each value has one spelling, in double quotes, which is what declarations and messages print. A type or a
-- key is quoted where each of its strings has that spelling. This project's own.
use Rattle.std.specs.Prelude.{ℕ, suc, zero, ◌+◌, ◌-◌, ◌*◌, ◌/◌, ◌==◌, ◌||◌, nat_lt, if◌then◌else◌, List, [], ◌∷◌, ◌++◌, map, flat_map, Option, Some, None}
use Rattle.std.specs.Char.{digit_value, digit_char}
use Rattle.std.specs.Str.{chars, all_scalars, encode_utf8_all}
use Rattle.tb_tree.specs.declared.types.Key.{Key}
use Rattle.tb_tree.specs.declared.types.Key.TheVariants as k
use Rattle.tb_tree.specs.declared.types.TypeExpr.{TypeExpr, fold-TypeExpr}
use Rattle.tb_tree.specs.declared.types.TypeExpr.TheVariants as t
use Rattle.tb_tree.specs.declared.types.TypeExpr.TheOpen.{TypeExpr-F, TypeMember-F, TypeParam-F}
use Rattle.tb_tree.specs.declared.types.TypeMember.{TypeMember, fold-TypeMember}
use Rattle.tb_tree.specs.declared.types.TypeMember.TheVariants as p
use Rattle.tb_tree.specs.declared.types.TypeParam.{TypeParam, fold-TypeParam, roll-TypeParam}
use Rattle.tb_tree.specs.declared.items.Specifier.{Specifier}
use Rattle.tb_tree.specs.declared.items.Import.{Import}
use Rattle.tb_tree.specs.declared.items.Import.TheVariants as import_form
use Rattle.tb_tree.specs.declared.items.ExportList.{ExportList}
use Rattle.tb_tree.specs.declared.items.Base.{Base}
use Rattle.tb_tree.specs.declared.items.Interface.{Interface}
use Rattle.tb_tree.specs.declared.items.Alias.{Alias}
use Rattle.tb_tree.specs.declared.items.DeclaredMember.{DeclaredMember}
use Rattle.tb_tree.specs.declared.items.DeclaredMember.TheVariants as declared_member
use Rattle.tb_tree.specs.declared.items.DeclaredClass.{DeclaredClass}
use Rattle.tb_tree.specs.declared.items.Declared.{Declared}
use Rattle.tb_tree.specs.declared.items.Declared.TheVariants as declared
use Rattle.tb_tree.specs.declared.items.SurfaceItem.{SurfaceItem}
use Rattle.tb_tree.specs.declared.items.SurfaceItem.TheVariants as surface_item
use Rattle.tb_tree.specs.declared.items.Surface.{Surface}

-- ---- the value of a string

-- where a character of a string stands: by itself; behind a backslash; behind `\u`; in the digits of `\xHH` or `\uHHHH`, where so many
-- more follow it and those before it spell a number; in the digits between `\u{` and `}`
pub data Standing : Type 0 where
  Alone : Standing
  Escaped : Standing
  Unit : Standing
  InDigits : ℕ → ℕ → Standing
  InBraces : ℕ → Standing

-- a character that is written as a backslash and this letter
abbrev pub escaped_value : ℕ → ℕ
escaped_value c =
    if c == 110 then 10
    else (if c == 116 then 9
    else (if c == 114 then 13
    else (if c == 98 then 8
    else (if c == 102 then 12
    else (if c == 118 then 11
    else (if c == 48 then 0
    else c))))))

-- one digit more of base 16; above the last character the number stays as it is
abbrev pub with_digit : ℕ → ℕ → ℕ
with_digit n c = if nat_lt n 1114112 then n * 16 + digit_value c else n

-- the character with a number; U+FFFD where there is none, which is in no string that a token has
abbrev pub character : ℕ → ℕ
character n = if all_scalars (n ∷ []) then n else 65533

-- where the next character stands
abbrev pub stands_next : Standing → ℕ → Standing
stands_next Alone c = if c == 92 then Escaped else Alone
stands_next Escaped c = if c == 120 then InDigits 1 0 else (if c == 117 then Unit else Alone)
stands_next Unit c = if c == 123 then InBraces 0 else InDigits 2 (digit_value c)
stands_next (InDigits zero n) c = Alone
stands_next (InDigits (suc more) n) c = InDigits more (with_digit n c)
stands_next (InBraces n) c = if c == 125 then Alone else InBraces (with_digit n c)

-- the character of the value that is complete with this one; the closing quote is none
abbrev pub completes : ℕ → Standing → ℕ → List ℕ
completes quote Alone c = if (c == 92) || (c == quote) then [] else (c ∷ [])
completes quote Escaped c = if (c == 120) || (c == 117) then [] else (escaped_value c ∷ [])
completes quote Unit c = []
completes quote (InDigits zero n) c = character (with_digit n c) ∷ []
completes quote (InDigits (suc more) n) c = []
completes quote (InBraces n) c = if c == 125 then (character n ∷ []) else []

unfoldable pub value_from : ℕ → Standing → List ℕ → List ℕ
value_from quote standing [] = []
value_from quote standing (c ∷ cs) = completes quote standing c ++ value_from quote (stands_next standing c) cs

-- the characters of the value of a string, whose first character is its quote
abbrev pub value_of : List ℕ → List ℕ
value_of [] = []
value_of (quote ∷ cs) = value_from quote Alone cs

abbrev pub string_value : List ℕ → List ℕ
string_value spelled = value_of (chars spelled)

-- ---- the one spelling

-- `\xHH`
abbrev pub hex_escape : ℕ → List ℕ
hex_escape c = 92 ∷ 120 ∷ digit_char (c / 16) ∷ digit_char (c - c / 16 * 16) ∷ []

-- `\"`, `\\`, `\n`, `\r`, `\t`; `\xHH` for other characters below U+0020 and U+007F; any other character as it is
abbrev pub quoted_character : ℕ → List ℕ
quoted_character c =
    if (c == 34) || (c == 92) then (92 ∷ c ∷ [])
    else (if c == 10 then (92 ∷ 110 ∷ [])
    else (if c == 13 then (92 ∷ 114 ∷ [])
    else (if c == 9 then (92 ∷ 116 ∷ [])
    else (if nat_lt c 32 || (c == 127) then hex_escape c
    else (c ∷ [])))))

abbrev pub quoted_value : List ℕ → List ℕ
quoted_value value = 34 ∷ flat_map quoted_character value ++ 34 ∷ []

-- the spelling of the value that a string has
abbrev pub quoted : List ℕ → List ℕ
quoted spelled = encode_utf8_all (quoted_value (string_value spelled))

-- ---- types

abbrev pub quoted_key : Key → Key
quoted_key (k.Word spelled) = k.Word spelled
quoted_key (k.String spelled) = k.String (quoted spelled)

abbrev pub quoted_type_layer : TypeExpr-F TypeExpr TypeMember TypeParam → TypeExpr
quoted_type_layer (TypeExpr-F.Keyword at keyword) = t.Keyword at keyword
quoted_type_layer (TypeExpr-F.Boolean at value) = t.Boolean at value
quoted_type_layer (TypeExpr-F.String at spelled) = t.String at (quoted spelled)
quoted_type_layer (TypeExpr-F.Integer at minus digits) = t.Integer at minus digits
quoted_type_layer (TypeExpr-F.Written at name arguments) = t.Written at name arguments
quoted_type_layer (TypeExpr-F.Array at read_only element) = t.Array at read_only element
quoted_type_layer (TypeExpr-F.Function at params result) = t.Function at params result
quoted_type_layer (TypeExpr-F.Object at members) = t.Object at members
quoted_type_layer (TypeExpr-F.Union at parts) = t.Union at parts
quoted_type_layer (TypeExpr-F.Named path name arguments) = t.Named path name arguments
quoted_type_layer (TypeExpr-F.Class path name) = t.Class path name
quoted_type_layer (TypeExpr-F.Param owner name) = t.Param owner name
quoted_type_layer (TypeExpr-F.Generic path name) = t.Generic path name

abbrev pub quoted_member_layer : TypeMember-F TypeExpr TypeMember TypeParam → TypeMember
quoted_member_layer (TypeMember-F.Property at read_only key optional shape) = p.Property at read_only (quoted_key key) optional shape
quoted_member_layer (TypeMember-F.Method at key optional params result) = p.Method at (quoted_key key) optional params result

abbrev pub quoted_type_param_layer : TypeParam-F TypeExpr TypeMember TypeParam → TypeParam
quoted_type_param_layer layer = roll-TypeParam (record { at = layer.at; name = layer.name; optional = layer.optional; shape = layer.shape })

unfoldable pub quoted_type : TypeExpr → TypeExpr
quoted_type = fold-TypeExpr TypeExpr TypeMember TypeParam quoted_type_layer quoted_member_layer quoted_type_param_layer

unfoldable pub quoted_member : TypeMember → TypeMember
quoted_member = fold-TypeMember TypeExpr TypeMember TypeParam quoted_type_layer quoted_member_layer quoted_type_param_layer

unfoldable pub quoted_type_param : TypeParam → TypeParam
quoted_type_param = fold-TypeParam TypeExpr TypeMember TypeParam quoted_type_layer quoted_member_layer quoted_type_param_layer

-- ---- surfaces

abbrev pub quoted_specifier : Specifier → Specifier
quoted_specifier of = record { at = of.at; spelled = quoted of.spelled }

abbrev pub quoted_origin : Option Specifier → Option Specifier
quoted_origin None = None
quoted_origin (Some of) = Some (quoted_specifier of)

abbrev pub quoted_import : Import → Import
quoted_import (import_form.List at type_only specs from) = import_form.List at type_only specs (quoted_specifier from)
quoted_import (import_form.Bare at from) = import_form.Bare at (quoted_specifier from)

abbrev pub quoted_export_list : ExportList → ExportList
quoted_export_list of = record { at = of.at; type_only = of.type_only; specs = of.specs; from = quoted_origin of.from }

abbrev pub quoted_base : Base → Base
quoted_base of = record { at = of.at; name = of.name; arguments = map quoted_type of.arguments }

abbrev pub quoted_interface : Interface → Interface
quoted_interface of = record { at = of.at; name = of.name; variables = of.variables; extends = map quoted_base of.extends; members = map quoted_member of.members }

abbrev pub quoted_alias : Alias → Alias
quoted_alias of = record { at = of.at; name = of.name; variables = of.variables; shape = quoted_type of.shape }

abbrev pub quoted_declared_member : DeclaredMember → DeclaredMember
quoted_declared_member (declared_member.Field at is_static read_only name optional shape) = declared_member.Field at is_static read_only name optional (quoted_type shape)
quoted_declared_member (declared_member.Constructor at params) = declared_member.Constructor at (map quoted_type_param params)
quoted_declared_member (declared_member.Method at is_static name params result) = declared_member.Method at is_static name (map quoted_type_param params) (quoted_type result)

abbrev pub quoted_class : DeclaredClass → DeclaredClass
quoted_class of = record { at = of.at; name = of.name; implements = map quoted_base of.implements; members = map quoted_declared_member of.members }

abbrev pub quoted_declared : Declared → Declared
quoted_declared (declared.Variable at kind name shape) = declared.Variable at kind name (quoted_type shape)
quoted_declared (declared.Function at name variables params result) = declared.Function at name variables (map quoted_type_param params) (quoted_type result)
quoted_declared (declared.Class of) = declared.Class (quoted_class of)
quoted_declared (declared.Interface of) = declared.Interface (quoted_interface of)
quoted_declared (declared.Alias of) = declared.Alias (quoted_alias of)

abbrev pub quoted_surface_item : SurfaceItem → SurfaceItem
quoted_surface_item (surface_item.Import of) = surface_item.Import (quoted_import of)
quoted_surface_item (surface_item.ExportList of) = surface_item.ExportList (quoted_export_list of)
quoted_surface_item (surface_item.Declaration exported of) = surface_item.Declaration exported (quoted_declared of)

abbrev pub quoted_surface : Surface → Surface
quoted_surface of = record { items = map quoted_surface_item of.items }

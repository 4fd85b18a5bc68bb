-- What is written for each form of a declaration file, part by part.
use Rattle.std.proofs.Common.{◌≡◌, ℕ, ◌≤◌, Bool, List, [], ◌∷◌, ◌++◌, map, flat_map, length, codes, Option, Some, None, refl, ◌∙◌, ap, append_assoc, arith}
use Rattle.std.proofs.lemmas.List.{append-nil}
use Rattle.tb_tree.specs.declared.marks.Mark.TheVariants as m
use Rattle.tb_tree.specs.declared.exprs.Identifier.{Identifier}
use Rattle.tb_tree.specs.declared.exprs.VarKind.{VarKind}
use Rattle.tb_tree.specs.declared.types.TypeExpr.{TypeExpr}
use Rattle.tb_tree.specs.declared.types.TypeParam.{TypeParam}
use Rattle.tb_tree.specs.declared.items.Specifier.{Specifier}
use Rattle.tb_tree.specs.declared.items.Spec.{Spec}
use Rattle.tb_tree.specs.declared.items.Import.{Import}
use Rattle.tb_tree.specs.declared.items.Import.TheVariants as import_form
use Rattle.tb_tree.specs.declared.items.ExportList.{ExportList}
use Rattle.tb_tree.specs.declared.items.Base.{Base}
use Rattle.tb_tree.specs.declared.items.Interface.{Interface}
use Rattle.tb_tree.specs.declared.items.Alias.{Alias}
use Rattle.tb_tree.specs.declared.items.DeclaredMember.TheVariants as declared_member
use Rattle.tb_tree.specs.declared.items.DeclaredClass.{DeclaredClass}
use Rattle.tb_tree.specs.declared.items.Declared.{Declared}
use Rattle.tb_tree.specs.declared.items.Declared.TheVariants as declared
use Rattle.tb_tree.specs.declared.items.SurfaceItem.{SurfaceItem}
use Rattle.tb_tree.specs.declared.items.SurfaceItem.TheVariants as surface_item
use Rattle.tb_tree.specs.declared.items.Surface.{Surface}
use Rattle.tb_layout.specs.Pieces.{Piece, mark, word, space, new_line, listed, text_of}
use Rattle.tb_layout.specs.Quoted.{quoted}
use Rattle.tb_layout.specs.Js.{in_parens, kind_pieces, static_pieces, exported_pieces, renamed_pieces, name_of}
use Rattle.tb_layout.specs.Shown.{string_pieces, optional_pieces, read_only_pieces, colon_pieces, angled_pieces, type_pieces, shown_member, shown_type_param}
use Rattle.tb_layout.specs.Dts.{typed_pieces, typed_spec_pieces, typed_specs_pieces, specifier_pieces, from_pieces, import_pieces, export_list_pieces, variables_pieces, params_pieces, base_pieces, bases_pieces, member_line, interface_pieces, alias_pieces, declared_member_pieces, class_pieces, declare_pieces, declared_pieces, item_lines, needs_export, last_line, dts_text}
use Rattle.tb_show.proofs.Joins.{text_join}

-- ---- imports and export lists

pub import_list_text : (at : ℕ) (type_only : Bool) (specs : List Spec) (from : Specifier) → text_of (import_pieces (import_form.List at type_only specs from)) ≡ codes "import " ++ (text_of (typed_pieces type_only) ++ (text_of (typed_specs_pieces specs) ++ (text_of (from_pieces (Some from)) ++ codes ";")))
import_list_text at type_only specs from = text_join (((((word (codes "import") ++ space) ++ typed_pieces type_only) ++ typed_specs_pieces specs) ++ from_pieces (Some from))) (mark m.Semicolon) ∙ ap (λ t. text_of (((((word (codes "import") ++ space) ++ typed_pieces type_only) ++ typed_specs_pieces specs) ++ from_pieces (Some from))) ++ t) (refl) ∙ ap (λ t. t ++ (codes ";")) (text_join ((((word (codes "import") ++ space) ++ typed_pieces type_only) ++ typed_specs_pieces specs)) (from_pieces (Some from))) ∙ append_assoc (text_of ((((word (codes "import") ++ space) ++ typed_pieces type_only) ++ typed_specs_pieces specs))) (text_of (from_pieces (Some from))) (codes ";") ∙ ap (λ t. text_of ((((word (codes "import") ++ space) ++ typed_pieces type_only) ++ typed_specs_pieces specs)) ++ t) (refl) ∙ ap (λ t. t ++ (text_of (from_pieces (Some from)) ++ codes ";")) (text_join (((word (codes "import") ++ space) ++ typed_pieces type_only)) (typed_specs_pieces specs)) ∙ append_assoc (text_of (((word (codes "import") ++ space) ++ typed_pieces type_only))) (text_of (typed_specs_pieces specs)) (text_of (from_pieces (Some from)) ++ codes ";") ∙ ap (λ t. text_of (((word (codes "import") ++ space) ++ typed_pieces type_only)) ++ t) (refl) ∙ ap (λ t. t ++ (text_of (typed_specs_pieces specs) ++ (text_of (from_pieces (Some from)) ++ codes ";"))) (text_join ((word (codes "import") ++ space)) (typed_pieces type_only)) ∙ append_assoc (text_of ((word (codes "import") ++ space))) (text_of (typed_pieces type_only)) (text_of (typed_specs_pieces specs) ++ (text_of (from_pieces (Some from)) ++ codes ";")) ∙ ap (λ t. text_of ((word (codes "import") ++ space)) ++ t) (refl) ∙ ap (λ t. t ++ (text_of (typed_pieces type_only) ++ (text_of (typed_specs_pieces specs) ++ (text_of (from_pieces (Some from)) ++ codes ";")))) (text_join (word (codes "import")) space) ∙ append_assoc (text_of (word (codes "import"))) (text_of space) (text_of (typed_pieces type_only) ++ (text_of (typed_specs_pieces specs) ++ (text_of (from_pieces (Some from)) ++ codes ";"))) ∙ ap (λ t. text_of (word (codes "import")) ++ t) (refl) ∙ refl

pub import_bare_text : (at : ℕ) (from : Specifier) → text_of (import_pieces (import_form.Bare at from)) ≡ codes "import " ++ (quoted from.spelled ++ codes ";")
import_bare_text at from = text_join (((word (codes "import") ++ space) ++ string_pieces from.spelled)) (mark m.Semicolon) ∙ ap (λ t. text_of (((word (codes "import") ++ space) ++ string_pieces from.spelled)) ++ t) (refl) ∙ ap (λ t. t ++ (codes ";")) (text_join ((word (codes "import") ++ space)) (string_pieces from.spelled)) ∙ append_assoc (text_of ((word (codes "import") ++ space))) (text_of (string_pieces from.spelled)) (codes ";") ∙ ap (λ t. text_of ((word (codes "import") ++ space)) ++ t) (ap (λ t. t ++ (codes ";")) (append-nil (quoted from.spelled))) ∙ ap (λ t. t ++ (quoted from.spelled ++ codes ";")) (text_join (word (codes "import")) space) ∙ append_assoc (text_of (word (codes "import"))) (text_of space) (quoted from.spelled ++ codes ";") ∙ ap (λ t. text_of (word (codes "import")) ++ t) (refl) ∙ refl

pub export_list_text : (of : ExportList) → text_of (export_list_pieces of) ≡ codes "export " ++ (text_of (typed_pieces of.type_only) ++ (text_of (typed_specs_pieces of.specs) ++ (text_of (from_pieces of.from) ++ codes ";")))
export_list_text of = text_join (((((word (codes "export") ++ space) ++ typed_pieces of.type_only) ++ typed_specs_pieces of.specs) ++ from_pieces of.from)) (mark m.Semicolon) ∙ ap (λ t. text_of (((((word (codes "export") ++ space) ++ typed_pieces of.type_only) ++ typed_specs_pieces of.specs) ++ from_pieces of.from)) ++ t) (refl) ∙ ap (λ t. t ++ (codes ";")) (text_join ((((word (codes "export") ++ space) ++ typed_pieces of.type_only) ++ typed_specs_pieces of.specs)) (from_pieces of.from)) ∙ append_assoc (text_of ((((word (codes "export") ++ space) ++ typed_pieces of.type_only) ++ typed_specs_pieces of.specs))) (text_of (from_pieces of.from)) (codes ";") ∙ ap (λ t. text_of ((((word (codes "export") ++ space) ++ typed_pieces of.type_only) ++ typed_specs_pieces of.specs)) ++ t) (refl) ∙ ap (λ t. t ++ (text_of (from_pieces of.from) ++ codes ";")) (text_join (((word (codes "export") ++ space) ++ typed_pieces of.type_only)) (typed_specs_pieces of.specs)) ∙ append_assoc (text_of (((word (codes "export") ++ space) ++ typed_pieces of.type_only))) (text_of (typed_specs_pieces of.specs)) (text_of (from_pieces of.from) ++ codes ";") ∙ ap (λ t. text_of (((word (codes "export") ++ space) ++ typed_pieces of.type_only)) ++ t) (refl) ∙ ap (λ t. t ++ (text_of (typed_specs_pieces of.specs) ++ (text_of (from_pieces of.from) ++ codes ";"))) (text_join ((word (codes "export") ++ space)) (typed_pieces of.type_only)) ∙ append_assoc (text_of ((word (codes "export") ++ space))) (text_of (typed_pieces of.type_only)) (text_of (typed_specs_pieces of.specs) ++ (text_of (from_pieces of.from) ++ codes ";")) ∙ ap (λ t. text_of ((word (codes "export") ++ space)) ++ t) (refl) ∙ ap (λ t. t ++ (text_of (typed_pieces of.type_only) ++ (text_of (typed_specs_pieces of.specs) ++ (text_of (from_pieces of.from) ++ codes ";")))) (text_join (word (codes "export")) space) ∙ append_assoc (text_of (word (codes "export"))) (text_of space) (text_of (typed_pieces of.type_only) ++ (text_of (typed_specs_pieces of.specs) ++ (text_of (from_pieces of.from) ++ codes ";"))) ∙ ap (λ t. text_of (word (codes "export")) ++ t) (refl) ∙ refl

pub origin_text : (of : Specifier) → text_of (from_pieces (Some of)) ≡ codes " from " ++ quoted of.spelled
origin_text of = text_join (((space ++ word (codes "from")) ++ space)) (string_pieces of.spelled) ∙ ap (λ t. text_of (((space ++ word (codes "from")) ++ space)) ++ t) (append-nil (quoted of.spelled)) ∙ ap (λ t. t ++ (quoted of.spelled)) (text_join ((space ++ word (codes "from"))) space) ∙ append_assoc (text_of ((space ++ word (codes "from")))) (text_of space) (quoted of.spelled) ∙ ap (λ t. text_of ((space ++ word (codes "from"))) ++ t) (refl) ∙ ap (λ t. t ++ (codes " " ++ quoted of.spelled)) (text_join space (word (codes "from"))) ∙ append_assoc (text_of space) (text_of (word (codes "from"))) (codes " " ++ quoted of.spelled) ∙ ap (λ t. text_of space ++ t) (refl) ∙ refl

pub spec_text : (of : Spec) → text_of (typed_spec_pieces of) ≡ text_of (typed_pieces of.type_only) ++ (of.name.name ++ text_of (renamed_pieces of.renamed))
spec_text of = text_join (typed_pieces of.type_only) ((word of.name.name ++ renamed_pieces of.renamed)) ∙ ap (λ t. text_of (typed_pieces of.type_only) ++ t) (text_join (word of.name.name) (renamed_pieces of.renamed) ∙ ap (λ t. text_of (word of.name.name) ++ t) (refl) ∙ ap (λ t. t ++ (text_of (renamed_pieces of.renamed))) (append-nil of.name.name)) ∙ refl

pub renamed_some : (of : Identifier) → text_of (renamed_pieces (Some of)) ≡ codes " as " ++ of.name
renamed_some of = text_join (((space ++ word (codes "as")) ++ space)) (word of.name) ∙ ap (λ t. text_of (((space ++ word (codes "as")) ++ space)) ++ t) (append-nil of.name) ∙ ap (λ t. t ++ of.name) (text_join ((space ++ word (codes "as"))) space) ∙ append_assoc (text_of ((space ++ word (codes "as")))) (text_of space) of.name ∙ ap (λ t. text_of ((space ++ word (codes "as"))) ++ t) (refl) ∙ ap (λ t. t ++ (codes " " ++ of.name)) (text_join space (word (codes "as"))) ∙ append_assoc (text_of space) (text_of (word (codes "as"))) (codes " " ++ of.name) ∙ ap (λ t. text_of space ++ t) (refl) ∙ refl

pub name_text : (of : Identifier) → text_of (name_of of) ≡ of.name
name_text of = append-nil of.name

pub specs_none : (specs : List Spec) → length specs ≤ 0 → text_of (typed_specs_pieces specs) ≡ codes "{}"
specs_none [] few = refl
specs_none (x ∷ xs) few = absurd (omega (arith, few))

pub specs_some : (specs : List Spec) → 1 ≤ length specs → text_of (typed_specs_pieces specs) ≡ codes "{ " ++ (text_of (listed (map typed_spec_pieces specs)) ++ codes " }")
specs_some [] few = absurd (omega (arith, few))
specs_some (x ∷ xs) few =
    let inner = listed (map typed_spec_pieces (x ∷ xs)) in
    text_join (mark m.OpenBrace ++ space ++ inner ++ space) (mark m.CloseBrace)
    ∙ ap (λ t. t ++ codes "}") (text_join (mark m.OpenBrace ++ space ++ inner) space)
    ∙ ap (λ t. codes "{ " ++ t) (append_assoc (text_of inner) (codes " ") (codes "}"))

-- ---- headings

pub colon_text : (shape : TypeExpr) → text_of (colon_pieces (type_pieces shape)) ≡ codes ": " ++ text_of (type_pieces shape)
colon_text shape = text_join ((mark m.Colon ++ space)) (type_pieces shape) ∙ ap (λ t. text_of ((mark m.Colon ++ space)) ++ t) (refl) ∙ ap (λ t. t ++ (text_of (type_pieces shape))) (text_join (mark m.Colon) space) ∙ append_assoc (text_of (mark m.Colon)) (text_of space) (text_of (type_pieces shape)) ∙ ap (λ t. text_of (mark m.Colon) ++ t) (refl) ∙ refl

pub params_text : (params : List TypeParam) → text_of (params_pieces params) ≡ codes "(" ++ (text_of (listed (map shown_type_param params)) ++ codes ")")
params_text params = text_join ((mark m.OpenParen ++ listed (map shown_type_param params))) (mark m.CloseParen) ∙ ap (λ t. text_of ((mark m.OpenParen ++ listed (map shown_type_param params))) ++ t) (refl) ∙ ap (λ t. t ++ (codes ")")) (text_join (mark m.OpenParen) (listed (map shown_type_param params))) ∙ append_assoc (text_of (mark m.OpenParen)) (text_of (listed (map shown_type_param params))) (codes ")") ∙ ap (λ t. text_of (mark m.OpenParen) ++ t) (refl) ∙ refl

pub base_text : (of : Base) → text_of (base_pieces of) ≡ of.name ++ text_of (angled_pieces (map type_pieces of.arguments))
base_text of = text_join (word of.name) (angled_pieces (map type_pieces of.arguments)) ∙ ap (λ t. text_of (word of.name) ++ t) (refl) ∙ ap (λ t. t ++ (text_of (angled_pieces (map type_pieces of.arguments)))) (append-nil of.name)

pub bases_none : (keyword : List ℕ) (all : List Base) → length all ≤ 0 → text_of (bases_pieces keyword all) ≡ []
bases_none keyword [] few = refl
bases_none keyword (x ∷ xs) few = absurd (omega (arith, few))

pub extended_some : (all : List Base) → 1 ≤ length all → text_of (bases_pieces (codes "extends") all) ≡ codes " extends " ++ text_of (listed (map base_pieces all))
extended_some [] few = absurd (omega (arith, few))
extended_some (x ∷ xs) few = text_join (((space ++ word (codes "extends")) ++ space)) (listed (map base_pieces (x ∷ xs))) ∙ ap (λ t. text_of (((space ++ word (codes "extends")) ++ space)) ++ t) (refl) ∙ ap (λ t. t ++ (text_of (listed (map base_pieces (x ∷ xs))))) (text_join ((space ++ word (codes "extends"))) space) ∙ append_assoc (text_of ((space ++ word (codes "extends")))) (text_of space) (text_of (listed (map base_pieces (x ∷ xs)))) ∙ ap (λ t. text_of ((space ++ word (codes "extends"))) ++ t) (refl) ∙ ap (λ t. t ++ (codes " " ++ text_of (listed (map base_pieces (x ∷ xs))))) (text_join space (word (codes "extends"))) ∙ append_assoc (text_of space) (text_of (word (codes "extends"))) (codes " " ++ text_of (listed (map base_pieces (x ∷ xs)))) ∙ ap (λ t. text_of space ++ t) (refl) ∙ refl

pub implemented_some : (all : List Base) → 1 ≤ length all → text_of (bases_pieces (codes "implements") all) ≡ codes " implements " ++ text_of (listed (map base_pieces all))
implemented_some [] few = absurd (omega (arith, few))
implemented_some (x ∷ xs) few = text_join (((space ++ word (codes "implements")) ++ space)) (listed (map base_pieces (x ∷ xs))) ∙ ap (λ t. text_of (((space ++ word (codes "implements")) ++ space)) ++ t) (refl) ∙ ap (λ t. t ++ (text_of (listed (map base_pieces (x ∷ xs))))) (text_join ((space ++ word (codes "implements"))) space) ∙ append_assoc (text_of ((space ++ word (codes "implements")))) (text_of space) (text_of (listed (map base_pieces (x ∷ xs)))) ∙ ap (λ t. text_of ((space ++ word (codes "implements"))) ++ t) (refl) ∙ ap (λ t. t ++ (codes " " ++ text_of (listed (map base_pieces (x ∷ xs))))) (text_join space (word (codes "implements"))) ∙ append_assoc (text_of space) (text_of (word (codes "implements"))) (codes " " ++ text_of (listed (map base_pieces (x ∷ xs)))) ∙ ap (λ t. text_of space ++ t) (refl) ∙ refl

-- ---- bodies

pub lines_step : {A : Type 0} (f : A → List Piece) (x : A) (xs : List A)
    → text_of (flat_map member_line (map f (x ∷ xs))) ≡ codes "\n    " ++ (text_of (f x) ++ (codes ";" ++ text_of (flat_map member_line (map f xs))))
lines_step f x xs =
    text_join (member_line (f x)) (flat_map member_line (map f xs))
    ∙ ap (λ t. t ++ text_of (flat_map member_line (map f xs))) (text_join (new_line 1 ++ f x) (mark m.Semicolon))
    ∙ append_assoc (codes "\n    " ++ text_of (f x)) (codes ";") (text_of (flat_map member_line (map f xs)))

pub field_text : (at : ℕ) (is_static : Bool) (read_only : Bool) (name : List ℕ) (optional : Bool) (shape : TypeExpr) → text_of (declared_member_pieces (declared_member.Field at is_static read_only name optional shape)) ≡ text_of (static_pieces is_static) ++ (text_of (read_only_pieces read_only) ++ (name ++ (text_of (optional_pieces optional) ++ text_of (colon_pieces (type_pieces shape)))))
field_text at is_static read_only name optional shape = text_join ((((static_pieces is_static ++ read_only_pieces read_only) ++ word name) ++ optional_pieces optional)) (colon_pieces (type_pieces shape)) ∙ ap (λ t. text_of ((((static_pieces is_static ++ read_only_pieces read_only) ++ word name) ++ optional_pieces optional)) ++ t) (refl) ∙ ap (λ t. t ++ (text_of (colon_pieces (type_pieces shape)))) (text_join (((static_pieces is_static ++ read_only_pieces read_only) ++ word name)) (optional_pieces optional)) ∙ append_assoc (text_of (((static_pieces is_static ++ read_only_pieces read_only) ++ word name))) (text_of (optional_pieces optional)) (text_of (colon_pieces (type_pieces shape))) ∙ ap (λ t. text_of (((static_pieces is_static ++ read_only_pieces read_only) ++ word name)) ++ t) (refl) ∙ ap (λ t. t ++ (text_of (optional_pieces optional) ++ text_of (colon_pieces (type_pieces shape)))) (text_join ((static_pieces is_static ++ read_only_pieces read_only)) (word name)) ∙ append_assoc (text_of ((static_pieces is_static ++ read_only_pieces read_only))) (text_of (word name)) (text_of (optional_pieces optional) ++ text_of (colon_pieces (type_pieces shape))) ∙ ap (λ t. text_of ((static_pieces is_static ++ read_only_pieces read_only)) ++ t) (ap (λ t. t ++ (text_of (optional_pieces optional) ++ text_of (colon_pieces (type_pieces shape)))) (append-nil name)) ∙ ap (λ t. t ++ (name ++ (text_of (optional_pieces optional) ++ text_of (colon_pieces (type_pieces shape))))) (text_join (static_pieces is_static) (read_only_pieces read_only)) ∙ append_assoc (text_of (static_pieces is_static)) (text_of (read_only_pieces read_only)) (name ++ (text_of (optional_pieces optional) ++ text_of (colon_pieces (type_pieces shape)))) ∙ ap (λ t. text_of (static_pieces is_static) ++ t) (refl) ∙ refl

pub constructor_text : (at : ℕ) (params : List TypeParam) → text_of (declared_member_pieces (declared_member.Constructor at params)) ≡ codes "constructor" ++ text_of (params_pieces params)
constructor_text at params = text_join (word (codes "constructor")) (params_pieces params) ∙ ap (λ t. text_of (word (codes "constructor")) ++ t) (refl) ∙ refl

pub method_text : (at : ℕ) (is_static : Bool) (name : List ℕ) (params : List TypeParam) (result : TypeExpr) → text_of (declared_member_pieces (declared_member.Method at is_static name params result)) ≡ text_of (static_pieces is_static) ++ (name ++ (text_of (params_pieces params) ++ text_of (colon_pieces (type_pieces result))))
method_text at is_static name params result = text_join (((static_pieces is_static ++ word name) ++ params_pieces params)) (colon_pieces (type_pieces result)) ∙ ap (λ t. text_of (((static_pieces is_static ++ word name) ++ params_pieces params)) ++ t) (refl) ∙ ap (λ t. t ++ (text_of (colon_pieces (type_pieces result)))) (text_join ((static_pieces is_static ++ word name)) (params_pieces params)) ∙ append_assoc (text_of ((static_pieces is_static ++ word name))) (text_of (params_pieces params)) (text_of (colon_pieces (type_pieces result))) ∙ ap (λ t. text_of ((static_pieces is_static ++ word name)) ++ t) (refl) ∙ ap (λ t. t ++ (text_of (params_pieces params) ++ text_of (colon_pieces (type_pieces result)))) (text_join (static_pieces is_static) (word name)) ∙ append_assoc (text_of (static_pieces is_static)) (text_of (word name)) (text_of (params_pieces params) ++ text_of (colon_pieces (type_pieces result))) ∙ ap (λ t. text_of (static_pieces is_static) ++ t) (ap (λ t. t ++ (text_of (params_pieces params) ++ text_of (colon_pieces (type_pieces result)))) (append-nil name)) ∙ refl

pub interface_text : (of : Interface) → text_of (interface_pieces of) ≡ codes "interface " ++ (of.name ++ (text_of (variables_pieces of.variables) ++ (text_of (bases_pieces (codes "extends") of.extends) ++ (codes " {" ++ (text_of (flat_map member_line (map shown_member of.members)) ++ codes "\n}")))))
interface_text of = text_join (((((word (codes "interface") ++ space) ++ word of.name) ++ variables_pieces of.variables) ++ bases_pieces (codes "extends") of.extends)) (((((space ++ mark m.OpenBrace) ++ flat_map member_line (map shown_member of.members)) ++ new_line 0) ++ mark m.CloseBrace)) ∙ ap (λ t. text_of (((((word (codes "interface") ++ space) ++ word of.name) ++ variables_pieces of.variables) ++ bases_pieces (codes "extends") of.extends)) ++ t) (text_join ((((space ++ mark m.OpenBrace) ++ flat_map member_line (map shown_member of.members)) ++ new_line 0)) (mark m.CloseBrace) ∙ ap (λ t. text_of ((((space ++ mark m.OpenBrace) ++ flat_map member_line (map shown_member of.members)) ++ new_line 0)) ++ t) (refl) ∙ ap (λ t. t ++ (codes "}")) (text_join (((space ++ mark m.OpenBrace) ++ flat_map member_line (map shown_member of.members))) (new_line 0)) ∙ append_assoc (text_of (((space ++ mark m.OpenBrace) ++ flat_map member_line (map shown_member of.members)))) (text_of (new_line 0)) (codes "}") ∙ ap (λ t. text_of (((space ++ mark m.OpenBrace) ++ flat_map member_line (map shown_member of.members))) ++ t) (refl) ∙ ap (λ t. t ++ (codes "\n}")) (text_join ((space ++ mark m.OpenBrace)) (flat_map member_line (map shown_member of.members))) ∙ append_assoc (text_of ((space ++ mark m.OpenBrace))) (text_of (flat_map member_line (map shown_member of.members))) (codes "\n}") ∙ ap (λ t. text_of ((space ++ mark m.OpenBrace)) ++ t) (refl) ∙ ap (λ t. t ++ (text_of (flat_map member_line (map shown_member of.members)) ++ codes "\n}")) (text_join space (mark m.OpenBrace)) ∙ append_assoc (text_of space) (text_of (mark m.OpenBrace)) (text_of (flat_map member_line (map shown_member of.members)) ++ codes "\n}") ∙ ap (λ t. text_of space ++ t) (refl) ∙ refl) ∙ ap (λ t. t ++ (codes " {" ++ (text_of (flat_map member_line (map shown_member of.members)) ++ codes "\n}"))) (text_join ((((word (codes "interface") ++ space) ++ word of.name) ++ variables_pieces of.variables)) (bases_pieces (codes "extends") of.extends)) ∙ append_assoc (text_of ((((word (codes "interface") ++ space) ++ word of.name) ++ variables_pieces of.variables))) (text_of (bases_pieces (codes "extends") of.extends)) (codes " {" ++ (text_of (flat_map member_line (map shown_member of.members)) ++ codes "\n}")) ∙ ap (λ t. text_of ((((word (codes "interface") ++ space) ++ word of.name) ++ variables_pieces of.variables)) ++ t) (refl) ∙ ap (λ t. t ++ (text_of (bases_pieces (codes "extends") of.extends) ++ (codes " {" ++ (text_of (flat_map member_line (map shown_member of.members)) ++ codes "\n}")))) (text_join (((word (codes "interface") ++ space) ++ word of.name)) (variables_pieces of.variables)) ∙ append_assoc (text_of (((word (codes "interface") ++ space) ++ word of.name))) (text_of (variables_pieces of.variables)) (text_of (bases_pieces (codes "extends") of.extends) ++ (codes " {" ++ (text_of (flat_map member_line (map shown_member of.members)) ++ codes "\n}"))) ∙ ap (λ t. text_of (((word (codes "interface") ++ space) ++ word of.name)) ++ t) (refl) ∙ ap (λ t. t ++ (text_of (variables_pieces of.variables) ++ (text_of (bases_pieces (codes "extends") of.extends) ++ (codes " {" ++ (text_of (flat_map member_line (map shown_member of.members)) ++ codes "\n}"))))) (text_join ((word (codes "interface") ++ space)) (word of.name)) ∙ append_assoc (text_of ((word (codes "interface") ++ space))) (text_of (word of.name)) (text_of (variables_pieces of.variables) ++ (text_of (bases_pieces (codes "extends") of.extends) ++ (codes " {" ++ (text_of (flat_map member_line (map shown_member of.members)) ++ codes "\n}")))) ∙ ap (λ t. text_of ((word (codes "interface") ++ space)) ++ t) (ap (λ t. t ++ (text_of (variables_pieces of.variables) ++ (text_of (bases_pieces (codes "extends") of.extends) ++ (codes " {" ++ (text_of (flat_map member_line (map shown_member of.members)) ++ codes "\n}"))))) (append-nil of.name)) ∙ ap (λ t. t ++ (of.name ++ (text_of (variables_pieces of.variables) ++ (text_of (bases_pieces (codes "extends") of.extends) ++ (codes " {" ++ (text_of (flat_map member_line (map shown_member of.members)) ++ codes "\n}")))))) (text_join (word (codes "interface")) space) ∙ append_assoc (text_of (word (codes "interface"))) (text_of space) (of.name ++ (text_of (variables_pieces of.variables) ++ (text_of (bases_pieces (codes "extends") of.extends) ++ (codes " {" ++ (text_of (flat_map member_line (map shown_member of.members)) ++ codes "\n}"))))) ∙ ap (λ t. text_of (word (codes "interface")) ++ t) (refl) ∙ refl

pub class_text : (of : DeclaredClass) → text_of (declare_pieces ++ class_pieces of) ≡ codes "declare class " ++ (of.name ++ (text_of (bases_pieces (codes "implements") of.implements) ++ (codes " {" ++ (text_of (flat_map member_line (map declared_member_pieces of.members)) ++ codes "\n}"))))
class_text of = text_join ((word (codes "declare") ++ space)) (((((word (codes "class") ++ space) ++ word of.name) ++ bases_pieces (codes "implements") of.implements) ++ ((((space ++ mark m.OpenBrace) ++ flat_map member_line (map declared_member_pieces of.members)) ++ new_line 0) ++ mark m.CloseBrace))) ∙ ap (λ t. text_of ((word (codes "declare") ++ space)) ++ t) (text_join ((((word (codes "class") ++ space) ++ word of.name) ++ bases_pieces (codes "implements") of.implements)) (((((space ++ mark m.OpenBrace) ++ flat_map member_line (map declared_member_pieces of.members)) ++ new_line 0) ++ mark m.CloseBrace)) ∙ ap (λ t. text_of ((((word (codes "class") ++ space) ++ word of.name) ++ bases_pieces (codes "implements") of.implements)) ++ t) (text_join ((((space ++ mark m.OpenBrace) ++ flat_map member_line (map declared_member_pieces of.members)) ++ new_line 0)) (mark m.CloseBrace) ∙ ap (λ t. text_of ((((space ++ mark m.OpenBrace) ++ flat_map member_line (map declared_member_pieces of.members)) ++ new_line 0)) ++ t) (refl) ∙ ap (λ t. t ++ (codes "}")) (text_join (((space ++ mark m.OpenBrace) ++ flat_map member_line (map declared_member_pieces of.members))) (new_line 0)) ∙ append_assoc (text_of (((space ++ mark m.OpenBrace) ++ flat_map member_line (map declared_member_pieces of.members)))) (text_of (new_line 0)) (codes "}") ∙ ap (λ t. text_of (((space ++ mark m.OpenBrace) ++ flat_map member_line (map declared_member_pieces of.members))) ++ t) (refl) ∙ ap (λ t. t ++ (codes "\n}")) (text_join ((space ++ mark m.OpenBrace)) (flat_map member_line (map declared_member_pieces of.members))) ∙ append_assoc (text_of ((space ++ mark m.OpenBrace))) (text_of (flat_map member_line (map declared_member_pieces of.members))) (codes "\n}") ∙ ap (λ t. text_of ((space ++ mark m.OpenBrace)) ++ t) (refl) ∙ ap (λ t. t ++ (text_of (flat_map member_line (map declared_member_pieces of.members)) ++ codes "\n}")) (text_join space (mark m.OpenBrace)) ∙ append_assoc (text_of space) (text_of (mark m.OpenBrace)) (text_of (flat_map member_line (map declared_member_pieces of.members)) ++ codes "\n}") ∙ ap (λ t. text_of space ++ t) (refl) ∙ refl) ∙ ap (λ t. t ++ (codes " {" ++ (text_of (flat_map member_line (map declared_member_pieces of.members)) ++ codes "\n}"))) (text_join (((word (codes "class") ++ space) ++ word of.name)) (bases_pieces (codes "implements") of.implements)) ∙ append_assoc (text_of (((word (codes "class") ++ space) ++ word of.name))) (text_of (bases_pieces (codes "implements") of.implements)) (codes " {" ++ (text_of (flat_map member_line (map declared_member_pieces of.members)) ++ codes "\n}")) ∙ ap (λ t. text_of (((word (codes "class") ++ space) ++ word of.name)) ++ t) (refl) ∙ ap (λ t. t ++ (text_of (bases_pieces (codes "implements") of.implements) ++ (codes " {" ++ (text_of (flat_map member_line (map declared_member_pieces of.members)) ++ codes "\n}")))) (text_join ((word (codes "class") ++ space)) (word of.name)) ∙ append_assoc (text_of ((word (codes "class") ++ space))) (text_of (word of.name)) (text_of (bases_pieces (codes "implements") of.implements) ++ (codes " {" ++ (text_of (flat_map member_line (map declared_member_pieces of.members)) ++ codes "\n}"))) ∙ ap (λ t. text_of ((word (codes "class") ++ space)) ++ t) (ap (λ t. t ++ (text_of (bases_pieces (codes "implements") of.implements) ++ (codes " {" ++ (text_of (flat_map member_line (map declared_member_pieces of.members)) ++ codes "\n}")))) (append-nil of.name)) ∙ ap (λ t. t ++ (of.name ++ (text_of (bases_pieces (codes "implements") of.implements) ++ (codes " {" ++ (text_of (flat_map member_line (map declared_member_pieces of.members)) ++ codes "\n}"))))) (text_join (word (codes "class")) space) ∙ append_assoc (text_of (word (codes "class"))) (text_of space) (of.name ++ (text_of (bases_pieces (codes "implements") of.implements) ++ (codes " {" ++ (text_of (flat_map member_line (map declared_member_pieces of.members)) ++ codes "\n}")))) ∙ ap (λ t. text_of (word (codes "class")) ++ t) (refl) ∙ refl) ∙ ap (λ t. t ++ (codes "class " ++ (of.name ++ (text_of (bases_pieces (codes "implements") of.implements) ++ (codes " {" ++ (text_of (flat_map member_line (map declared_member_pieces of.members)) ++ codes "\n}")))))) (text_join (word (codes "declare")) space) ∙ append_assoc (text_of (word (codes "declare"))) (text_of space) (codes "class " ++ (of.name ++ (text_of (bases_pieces (codes "implements") of.implements) ++ (codes " {" ++ (text_of (flat_map member_line (map declared_member_pieces of.members)) ++ codes "\n}"))))) ∙ ap (λ t. text_of (word (codes "declare")) ++ t) (refl) ∙ refl

-- ---- declarations

pub variable_text : (at : ℕ) (kind : VarKind) (name : List ℕ) (shape : TypeExpr) → text_of (declared_pieces (declared.Variable at kind name shape)) ≡ codes "declare " ++ (text_of (kind_pieces kind) ++ (codes " " ++ (name ++ (text_of (colon_pieces (type_pieces shape)) ++ codes ";"))))
variable_text at kind name shape = text_join ((((((word (codes "declare") ++ space) ++ kind_pieces kind) ++ space) ++ word name) ++ colon_pieces (type_pieces shape))) (mark m.Semicolon) ∙ ap (λ t. text_of ((((((word (codes "declare") ++ space) ++ kind_pieces kind) ++ space) ++ word name) ++ colon_pieces (type_pieces shape))) ++ t) (refl) ∙ ap (λ t. t ++ (codes ";")) (text_join (((((word (codes "declare") ++ space) ++ kind_pieces kind) ++ space) ++ word name)) (colon_pieces (type_pieces shape))) ∙ append_assoc (text_of (((((word (codes "declare") ++ space) ++ kind_pieces kind) ++ space) ++ word name))) (text_of (colon_pieces (type_pieces shape))) (codes ";") ∙ ap (λ t. text_of (((((word (codes "declare") ++ space) ++ kind_pieces kind) ++ space) ++ word name)) ++ t) (refl) ∙ ap (λ t. t ++ (text_of (colon_pieces (type_pieces shape)) ++ codes ";")) (text_join ((((word (codes "declare") ++ space) ++ kind_pieces kind) ++ space)) (word name)) ∙ append_assoc (text_of ((((word (codes "declare") ++ space) ++ kind_pieces kind) ++ space))) (text_of (word name)) (text_of (colon_pieces (type_pieces shape)) ++ codes ";") ∙ ap (λ t. text_of ((((word (codes "declare") ++ space) ++ kind_pieces kind) ++ space)) ++ t) (ap (λ t. t ++ (text_of (colon_pieces (type_pieces shape)) ++ codes ";")) (append-nil name)) ∙ ap (λ t. t ++ (name ++ (text_of (colon_pieces (type_pieces shape)) ++ codes ";"))) (text_join (((word (codes "declare") ++ space) ++ kind_pieces kind)) space) ∙ append_assoc (text_of (((word (codes "declare") ++ space) ++ kind_pieces kind))) (text_of space) (name ++ (text_of (colon_pieces (type_pieces shape)) ++ codes ";")) ∙ ap (λ t. text_of (((word (codes "declare") ++ space) ++ kind_pieces kind)) ++ t) (refl) ∙ ap (λ t. t ++ (codes " " ++ (name ++ (text_of (colon_pieces (type_pieces shape)) ++ codes ";")))) (text_join ((word (codes "declare") ++ space)) (kind_pieces kind)) ∙ append_assoc (text_of ((word (codes "declare") ++ space))) (text_of (kind_pieces kind)) (codes " " ++ (name ++ (text_of (colon_pieces (type_pieces shape)) ++ codes ";"))) ∙ ap (λ t. text_of ((word (codes "declare") ++ space)) ++ t) (refl) ∙ ap (λ t. t ++ (text_of (kind_pieces kind) ++ (codes " " ++ (name ++ (text_of (colon_pieces (type_pieces shape)) ++ codes ";"))))) (text_join (word (codes "declare")) space) ∙ append_assoc (text_of (word (codes "declare"))) (text_of space) (text_of (kind_pieces kind) ++ (codes " " ++ (name ++ (text_of (colon_pieces (type_pieces shape)) ++ codes ";")))) ∙ ap (λ t. text_of (word (codes "declare")) ++ t) (refl) ∙ refl

pub function_text : (at : ℕ) (name : List ℕ) (variables : List Identifier) (params : List TypeParam) (result : TypeExpr) → text_of (declared_pieces (declared.Function at name variables params result)) ≡ codes "declare function " ++ (name ++ (text_of (variables_pieces variables) ++ (text_of (params_pieces params) ++ (text_of (colon_pieces (type_pieces result)) ++ codes ";"))))
function_text at name variables params result = text_join ((((((((word (codes "declare") ++ space) ++ word (codes "function")) ++ space) ++ word name) ++ variables_pieces variables) ++ params_pieces params) ++ colon_pieces (type_pieces result))) (mark m.Semicolon) ∙ ap (λ t. text_of ((((((((word (codes "declare") ++ space) ++ word (codes "function")) ++ space) ++ word name) ++ variables_pieces variables) ++ params_pieces params) ++ colon_pieces (type_pieces result))) ++ t) (refl) ∙ ap (λ t. t ++ (codes ";")) (text_join (((((((word (codes "declare") ++ space) ++ word (codes "function")) ++ space) ++ word name) ++ variables_pieces variables) ++ params_pieces params)) (colon_pieces (type_pieces result))) ∙ append_assoc (text_of (((((((word (codes "declare") ++ space) ++ word (codes "function")) ++ space) ++ word name) ++ variables_pieces variables) ++ params_pieces params))) (text_of (colon_pieces (type_pieces result))) (codes ";") ∙ ap (λ t. text_of (((((((word (codes "declare") ++ space) ++ word (codes "function")) ++ space) ++ word name) ++ variables_pieces variables) ++ params_pieces params)) ++ t) (refl) ∙ ap (λ t. t ++ (text_of (colon_pieces (type_pieces result)) ++ codes ";")) (text_join ((((((word (codes "declare") ++ space) ++ word (codes "function")) ++ space) ++ word name) ++ variables_pieces variables)) (params_pieces params)) ∙ append_assoc (text_of ((((((word (codes "declare") ++ space) ++ word (codes "function")) ++ space) ++ word name) ++ variables_pieces variables))) (text_of (params_pieces params)) (text_of (colon_pieces (type_pieces result)) ++ codes ";") ∙ ap (λ t. text_of ((((((word (codes "declare") ++ space) ++ word (codes "function")) ++ space) ++ word name) ++ variables_pieces variables)) ++ t) (refl) ∙ ap (λ t. t ++ (text_of (params_pieces params) ++ (text_of (colon_pieces (type_pieces result)) ++ codes ";"))) (text_join (((((word (codes "declare") ++ space) ++ word (codes "function")) ++ space) ++ word name)) (variables_pieces variables)) ∙ append_assoc (text_of (((((word (codes "declare") ++ space) ++ word (codes "function")) ++ space) ++ word name))) (text_of (variables_pieces variables)) (text_of (params_pieces params) ++ (text_of (colon_pieces (type_pieces result)) ++ codes ";")) ∙ ap (λ t. text_of (((((word (codes "declare") ++ space) ++ word (codes "function")) ++ space) ++ word name)) ++ t) (refl) ∙ ap (λ t. t ++ (text_of (variables_pieces variables) ++ (text_of (params_pieces params) ++ (text_of (colon_pieces (type_pieces result)) ++ codes ";")))) (text_join ((((word (codes "declare") ++ space) ++ word (codes "function")) ++ space)) (word name)) ∙ append_assoc (text_of ((((word (codes "declare") ++ space) ++ word (codes "function")) ++ space))) (text_of (word name)) (text_of (variables_pieces variables) ++ (text_of (params_pieces params) ++ (text_of (colon_pieces (type_pieces result)) ++ codes ";"))) ∙ ap (λ t. text_of ((((word (codes "declare") ++ space) ++ word (codes "function")) ++ space)) ++ t) (ap (λ t. t ++ (text_of (variables_pieces variables) ++ (text_of (params_pieces params) ++ (text_of (colon_pieces (type_pieces result)) ++ codes ";")))) (append-nil name)) ∙ ap (λ t. t ++ (name ++ (text_of (variables_pieces variables) ++ (text_of (params_pieces params) ++ (text_of (colon_pieces (type_pieces result)) ++ codes ";"))))) (text_join (((word (codes "declare") ++ space) ++ word (codes "function"))) space) ∙ append_assoc (text_of (((word (codes "declare") ++ space) ++ word (codes "function")))) (text_of space) (name ++ (text_of (variables_pieces variables) ++ (text_of (params_pieces params) ++ (text_of (colon_pieces (type_pieces result)) ++ codes ";")))) ∙ ap (λ t. text_of (((word (codes "declare") ++ space) ++ word (codes "function"))) ++ t) (refl) ∙ ap (λ t. t ++ (codes " " ++ (name ++ (text_of (variables_pieces variables) ++ (text_of (params_pieces params) ++ (text_of (colon_pieces (type_pieces result)) ++ codes ";")))))) (text_join ((word (codes "declare") ++ space)) (word (codes "function"))) ∙ append_assoc (text_of ((word (codes "declare") ++ space))) (text_of (word (codes "function"))) (codes " " ++ (name ++ (text_of (variables_pieces variables) ++ (text_of (params_pieces params) ++ (text_of (colon_pieces (type_pieces result)) ++ codes ";"))))) ∙ ap (λ t. text_of ((word (codes "declare") ++ space)) ++ t) (refl) ∙ ap (λ t. t ++ (codes "function " ++ (name ++ (text_of (variables_pieces variables) ++ (text_of (params_pieces params) ++ (text_of (colon_pieces (type_pieces result)) ++ codes ";")))))) (text_join (word (codes "declare")) space) ∙ append_assoc (text_of (word (codes "declare"))) (text_of space) (codes "function " ++ (name ++ (text_of (variables_pieces variables) ++ (text_of (params_pieces params) ++ (text_of (colon_pieces (type_pieces result)) ++ codes ";"))))) ∙ ap (λ t. text_of (word (codes "declare")) ++ t) (refl) ∙ refl

pub alias_text : (of : Alias) → text_of (alias_pieces of) ≡ codes "type " ++ (of.name ++ (text_of (variables_pieces of.variables) ++ (codes " = " ++ (text_of (type_pieces of.shape) ++ codes ";"))))
alias_text of = text_join ((((((((word (codes "type") ++ space) ++ word of.name) ++ variables_pieces of.variables) ++ space) ++ mark m.Assign) ++ space) ++ type_pieces of.shape)) (mark m.Semicolon) ∙ ap (λ t. text_of ((((((((word (codes "type") ++ space) ++ word of.name) ++ variables_pieces of.variables) ++ space) ++ mark m.Assign) ++ space) ++ type_pieces of.shape)) ++ t) (refl) ∙ ap (λ t. t ++ (codes ";")) (text_join (((((((word (codes "type") ++ space) ++ word of.name) ++ variables_pieces of.variables) ++ space) ++ mark m.Assign) ++ space)) (type_pieces of.shape)) ∙ append_assoc (text_of (((((((word (codes "type") ++ space) ++ word of.name) ++ variables_pieces of.variables) ++ space) ++ mark m.Assign) ++ space))) (text_of (type_pieces of.shape)) (codes ";") ∙ ap (λ t. text_of (((((((word (codes "type") ++ space) ++ word of.name) ++ variables_pieces of.variables) ++ space) ++ mark m.Assign) ++ space)) ++ t) (refl) ∙ ap (λ t. t ++ (text_of (type_pieces of.shape) ++ codes ";")) (text_join ((((((word (codes "type") ++ space) ++ word of.name) ++ variables_pieces of.variables) ++ space) ++ mark m.Assign)) space) ∙ append_assoc (text_of ((((((word (codes "type") ++ space) ++ word of.name) ++ variables_pieces of.variables) ++ space) ++ mark m.Assign))) (text_of space) (text_of (type_pieces of.shape) ++ codes ";") ∙ ap (λ t. text_of ((((((word (codes "type") ++ space) ++ word of.name) ++ variables_pieces of.variables) ++ space) ++ mark m.Assign)) ++ t) (refl) ∙ ap (λ t. t ++ (codes " " ++ (text_of (type_pieces of.shape) ++ codes ";"))) (text_join (((((word (codes "type") ++ space) ++ word of.name) ++ variables_pieces of.variables) ++ space)) (mark m.Assign)) ∙ append_assoc (text_of (((((word (codes "type") ++ space) ++ word of.name) ++ variables_pieces of.variables) ++ space))) (text_of (mark m.Assign)) (codes " " ++ (text_of (type_pieces of.shape) ++ codes ";")) ∙ ap (λ t. text_of (((((word (codes "type") ++ space) ++ word of.name) ++ variables_pieces of.variables) ++ space)) ++ t) (refl) ∙ ap (λ t. t ++ (codes "= " ++ (text_of (type_pieces of.shape) ++ codes ";"))) (text_join ((((word (codes "type") ++ space) ++ word of.name) ++ variables_pieces of.variables)) space) ∙ append_assoc (text_of ((((word (codes "type") ++ space) ++ word of.name) ++ variables_pieces of.variables))) (text_of space) (codes "= " ++ (text_of (type_pieces of.shape) ++ codes ";")) ∙ ap (λ t. text_of ((((word (codes "type") ++ space) ++ word of.name) ++ variables_pieces of.variables)) ++ t) (refl) ∙ ap (λ t. t ++ (codes " = " ++ (text_of (type_pieces of.shape) ++ codes ";"))) (text_join (((word (codes "type") ++ space) ++ word of.name)) (variables_pieces of.variables)) ∙ append_assoc (text_of (((word (codes "type") ++ space) ++ word of.name))) (text_of (variables_pieces of.variables)) (codes " = " ++ (text_of (type_pieces of.shape) ++ codes ";")) ∙ ap (λ t. text_of (((word (codes "type") ++ space) ++ word of.name)) ++ t) (refl) ∙ ap (λ t. t ++ (text_of (variables_pieces of.variables) ++ (codes " = " ++ (text_of (type_pieces of.shape) ++ codes ";")))) (text_join ((word (codes "type") ++ space)) (word of.name)) ∙ append_assoc (text_of ((word (codes "type") ++ space))) (text_of (word of.name)) (text_of (variables_pieces of.variables) ++ (codes " = " ++ (text_of (type_pieces of.shape) ++ codes ";"))) ∙ ap (λ t. text_of ((word (codes "type") ++ space)) ++ t) (ap (λ t. t ++ (text_of (variables_pieces of.variables) ++ (codes " = " ++ (text_of (type_pieces of.shape) ++ codes ";")))) (append-nil of.name)) ∙ ap (λ t. t ++ (of.name ++ (text_of (variables_pieces of.variables) ++ (codes " = " ++ (text_of (type_pieces of.shape) ++ codes ";"))))) (text_join (word (codes "type")) space) ∙ append_assoc (text_of (word (codes "type"))) (text_of space) (of.name ++ (text_of (variables_pieces of.variables) ++ (codes " = " ++ (text_of (type_pieces of.shape) ++ codes ";")))) ∙ ap (λ t. text_of (word (codes "type")) ++ t) (refl) ∙ refl

-- ---- surfaces

pub import_item_text : (of : Import) → text_of (item_lines (surface_item.Import of)) ≡ text_of (import_pieces of) ++ codes "\n"
import_item_text of = text_join (import_pieces of) (new_line 0) ∙ ap (λ t. text_of (import_pieces of) ++ t) (refl) ∙ refl

pub export_item_text : (of : ExportList) → text_of (item_lines (surface_item.ExportList of)) ≡ text_of (export_list_pieces of) ++ codes "\n"
export_item_text of = text_join (export_list_pieces of) (new_line 0) ∙ ap (λ t. text_of (export_list_pieces of) ++ t) (refl) ∙ refl

pub declaration_item_text : (exported : Bool) (of : Declared) → text_of (item_lines (surface_item.Declaration exported of)) ≡ text_of (exported_pieces exported) ++ (text_of (declared_pieces of) ++ codes "\n")
declaration_item_text exported of = text_join ((exported_pieces exported ++ declared_pieces of)) (new_line 0) ∙ ap (λ t. text_of ((exported_pieces exported ++ declared_pieces of)) ++ t) (refl) ∙ ap (λ t. t ++ (codes "\n")) (text_join (exported_pieces exported) (declared_pieces of)) ∙ append_assoc (text_of (exported_pieces exported)) (text_of (declared_pieces of)) (codes "\n") ∙ ap (λ t. text_of (exported_pieces exported) ++ t) (refl) ∙ refl

pub items_step : (x : SurfaceItem) (xs : List SurfaceItem) → text_of (flat_map item_lines (x ∷ xs)) ≡ text_of (item_lines x) ++ text_of (flat_map item_lines xs)
items_step x xs = text_join (item_lines x) (flat_map item_lines xs)

pub surface_text : (of : Surface) → dts_text of ≡ text_of (flat_map item_lines of.items) ++ text_of (last_line (needs_export of.items))
surface_text of = text_join (flat_map item_lines of.items) (last_line (needs_export of.items))

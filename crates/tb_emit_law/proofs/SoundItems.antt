-- The layouts of items that were read scan as what was laid out, once their types are erased.
use Rattle.std.proofs.Common.{ℕ, Bool, true, false, if◌then◌else◌, List, [], ◌∷◌, ◌++◌, map, flat_map, subst, refl}
use Rattle.std.specs.Prelude.{◌||◌, not, codes, filter, Option, Some, None}
use Rattle.std.specs.List.{AllByRecursion, list_any}
use Rattle.std.proofs.lemmas.List.{append-nil}
use Rattle.tb_tree.specs.declared.marks.Mark.TheVariants as m
use Rattle.tb_tree.specs.declared.words.Word.{Word}
use Rattle.tb_tree.specs.declared.items.Spec.{Spec}
use Rattle.tb_tree.specs.declared.items.Specifier.{Specifier}
use Rattle.tb_tree.specs.declared.items.Import.{Import}
use Rattle.tb_tree.specs.declared.items.ExportList.{ExportList}
use Rattle.tb_tree.specs.declared.items.ClassMember.{ClassMember}
use Rattle.tb_tree.specs.declared.items.Declaration.{Declaration}
use Rattle.tb_tree.specs.declared.items.Item.{Item}
use Rattle.tb_tree.specs.declared.items.Item.TheVariants as item
use Rattle.tb_tree.specs.Sym.{Sym, Mark}
use Rattle.tb_tree.specs.Shapes.{word, IsListed, none_listed, last_listed, more_listed}
use Rattle.tb_tree.specs.Items as g
use Rattle.tb_tree.specs.Items.{DerivesItem}
use Rattle.tb_tree.specs.Reading.{ReadsAs, no_items, more_items}
use Rattle.tb_layout.specs.Pieces.{Piece, text_of, mark, space, new_line}
use Rattle.tb_layout.specs.Pieces as pieces
use Rattle.tb_layout.specs.Erase.{is_value_spec, erased_specs, stays_listed, erased_item, is_module_item, empty_export, as_module}
use Rattle.tb_layout.specs.Js.{spec_pieces, specs_pieces, from_pieces, static_pieces, exported_pieces, item_pieces}
use Rattle.tb_layout.proofs.Written as wr
use Rattle.tb_layout.proofs.Written.{js_member, js_param}
use Rattle.tb_emit_law.proofs.Sound.{Sound, anything, off_words, off_numbers, sound_any, sound_both, sound_none, from_words, space_sound, word_sound, letters_sound, string_sound, alone_sound}
use Rattle.tb_emit_law.proofs.Parts.{AllLaid, laid_list_sound, parens_sound, object_sound, Fits, fits_by, sound_by, fits_both, fits_any, letters_fits}
use Rattle.tb_emit_law.proofs.SoundExprs.{Formed, front, back, sides, behind_braces, valued_sound, params_sound, block_of, var_fits, function_fits, stmt_fits}

-- ---- imports and export lists

abbrev SpecSound : Spec → Type 0
SpecSound of = Sound off_numbers (spec_pieces of)

name_alone : (t : List ℕ) → Sound off_words (pieces.word t) → Sound off_numbers (pieces.word t ++ [])
name_alone t f = sound_by (append-nil _) (from_words f)

name_renamed : (t u : List ℕ) → Sound off_words (pieces.word t) → Sound off_words (pieces.word u) → Sound off_numbers (pieces.word t ++ (space ++ pieces.word (codes "as") ++ space ++ pieces.word u))
name_renamed t u f h = from_words (sound_both f (sound_any (sound_both (sound_any space_sound (letters_sound (codes "as") refl refl)) space_sound (λ ys l. refl)) h) (λ ys l. refl))

spec_sound : {local : Word → Word → Bool} {type_only : Bool} {xs : List Sym} {of : Spec} → g.IsSpec local type_only xs of → Formed xs → SpecSound of
spec_sound (g.plain_spec spelled at l) f = name_alone spelled (word_sound spelled f.0.1 f.0.2)
spec_sound (g.renamed_spec spelled at as_spelled as_at other_spelled other_at l) f =
    name_renamed spelled other_spelled (word_sound spelled f.0.1 f.0.2) (word_sound other_spelled f.1.1.0.1 f.1.1.0.2)
spec_sound (g.type_spec type_spelled type_at spelled at t a l) f = name_alone spelled (word_sound spelled f.1.0.1 f.1.0.2)
spec_sound (g.renamed_type_spec type_spelled type_at spelled at as_spelled as_at other_spelled other_at t a l) f =
    name_renamed spelled other_spelled (word_sound spelled f.1.0.1 f.1.0.2) (word_sound other_spelled f.1.1.1.0.1 f.1.1.1.0.2)

listed_specs : {local : Word → Word → Bool} {type_only : Bool} {xs : List Sym} {of : List Spec} → IsListed (g.IsSpec local type_only) xs of → Formed xs → AllByRecursion SpecSound of
listed_specs none_listed f = tt
listed_specs (last_listed q) f = (spec_sound q f, tt)
listed_specs (more_listed comma {xs = xs} {ys = ys} q r) f = let parts = sides xs (Mark m.Comma comma) ys f in (spec_sound q parts.0, listed_specs r parts.1)

kept_by : {X : Type 0} (P : X → Type 0) (x : X) (rest : List X) (b : Bool) → P x → AllByRecursion P rest → AllByRecursion P (if b then x ∷ rest else rest)
kept_by P x rest true h l = (h, l)
kept_by P x rest false h l = l

some_kept : {X : Type 0} (P : X → Type 0) (test : X → Bool) (xs : List X) → AllByRecursion P xs → AllByRecursion P (filter test xs)
some_kept P test [] h = tt
some_kept P test (x ∷ xs) h = kept_by P x (filter test xs) (test x) h.0 (some_kept P test xs h.1)

each_spec : (specs : List Spec) → AllByRecursion SpecSound specs → AllByRecursion (Sound off_numbers) (map spec_pieces specs)
each_spec [] h = tt
each_spec (of ∷ specs) h = (h.0, each_spec specs h.1)

specs_sound : {local : Word → Word → Bool} {type_only : Bool} {xs : List Sym} {of : List Spec} → g.IsSpecs local type_only xs of → Formed xs → Sound anything (specs_pieces (erased_specs of))
specs_sound (g.specs o p {xs = xs} {of = of} q) f =
    object_sound (map spec_pieces (erased_specs of)) (each_spec (erased_specs of) (some_kept SpecSound is_value_spec of (listed_specs q (front xs (Mark m.CloseBrace p ∷ []) f.1))))

from_sound : {xs : List Sym} {of : Specifier} → g.IsFrom xs of → Formed xs → Sound anything (from_pieces (Some of))
from_sound (g.from from_spelled from_at spelled at) f =
    sound_any (sound_both (sound_any space_sound (letters_sound (codes "from") refl refl)) space_sound (λ ys l. refl)) (string_sound spelled f.1.0.0 f.1.0.1)

-- what is left of an item
abbrev pub Left : Item → Type 0
Left of = Fits anything (item_pieces of)

-- a word, Specs and what follows them
list_fits : (t : List ℕ) → Fits off_words (pieces.word t) → (specs : List Spec) → Sound anything (specs_pieces specs) → (from : Option Specifier) → Sound anything (from_pieces from)
    → Fits anything (pieces.word t ++ space ++ specs_pieces specs ++ from_pieces from ++ mark m.Semicolon)
list_fits t f specs h from i = fits_any (fits_any (fits_any (fits_both f space_sound (λ ys l. refl)) h) i) (alone_sound m.Semicolon refl)

import_fits : {xs : List Sym} {of : Import} → g.IsImport xs of → Formed xs → AllByRecursion Left (erased_item (item.Import of))
import_fits (g.import_list {type_only = true} spelled at semicolon t s q) f = tt
import_fits (g.import_list {type_only = false} spelled at semicolon {xs = xs} {ys = ys} {zs = zs} {of = of} {origin = origin} t s q) f =
    let inner = front (xs ++ ys ++ zs) (Mark m.Semicolon semicolon ∷ []) f.1 in
    let named = back xs ys (front (xs ++ ys) zs inner) in
    (list_fits (codes "import") (letters_fits (codes "import") refl refl) (erased_specs of) (specs_sound s named) (Some origin) (from_sound q (back (xs ++ ys) zs inner)), tt)
import_fits (g.import_bare spelled at from_spelled from_at semicolon) f =
    (fits_any (fits_any (fits_both (letters_fits (codes "import") refl refl) space_sound (λ ys l. refl)) (string_sound from_spelled f.1.0.0 f.1.0.1)) (alone_sound m.Semicolon refl), tt)

unless : (b : Bool) (of : Item) → Left of → AllByRecursion Left (if b then [] else (of ∷ []))
unless true of h = tt
unless false of h = (h, tt)

export_list_fits : {xs : List Sym} {of : ExportList} → g.IsExportList xs of → Formed xs → AllByRecursion Left (erased_item (item.ExportList of))
export_list_fits (g.export_list {type_only = type_only} spelled at semicolon {xs = xs} {ys = ys} {of = of} t s) f =
    let named = back xs ys (front (xs ++ ys) (Mark m.Semicolon semicolon ∷ []) f.1) in
    unless (type_only || not (stays_listed of (erased_specs of) None)) (item.ExportList (record { at = at; type_only = false; specs = erased_specs of; from = None }))
    (list_fits (codes "export") (letters_fits (codes "export") refl refl) (erased_specs of) (specs_sound s named) None sound_none)
export_list_fits (g.export_from {type_only = type_only} spelled at semicolon {xs = xs} {ys = ys} {zs = zs} {of = of} {origin = origin} t s q) f =
    let inner = front (xs ++ ys ++ zs) (Mark m.Semicolon semicolon ∷ []) f.1 in
    let named = back xs ys (front (xs ++ ys) zs inner) in
    unless (type_only || not (stays_listed of (erased_specs of) (Some origin))) (item.ExportList (record { at = at; type_only = false; specs = erased_specs of; from = Some origin }))
    (list_fits (codes "export") (letters_fits (codes "export") refl refl) (erased_specs of) (specs_sound s named) (Some origin) (from_sound q (back (xs ++ ys) zs inner)))

-- ---- classes

static_sound : (b : Bool) → Sound anything (static_pieces b)
static_sound true = sound_both (letters_sound (codes "static") refl refl) space_sound (λ ys l. refl)
static_sound false = sound_none

member_sound : {built : Bool} {xs : List Sym} {of : ClassMember} {d : ℕ} → g.IsClassMember true built xs of d → Formed xs → (n : ℕ) → Sound anything (js_member of n)
member_sound (g.field {is_static = is_static} {read_only = read_only} {optional = optional} kind spelled at semicolon {xs = xs} {ys = ys} {zs = zs} {vs = vs} {us = us} {shape = shape} {given = given} s r h q a v) f n =
    let whole = front (xs ++ ys ++ word kind spelled at ∷ zs ++ vs ++ us) (Mark m.Semicolon semicolon ∷ []) f in
    let typed = front (xs ++ ys ++ word kind spelled at ∷ zs ++ vs) us whole in
    let name = (back (xs ++ ys) (word kind spelled at ∷ zs) (front (xs ++ ys ++ word kind spelled at ∷ zs) vs typed)).0 in
    sound_by (wr.field_member at is_static read_only spelled optional shape given n)
    (sound_both (valued_sound v (back (xs ++ ys ++ word kind spelled at ∷ zs ++ vs) us whole) (sound_any (static_sound is_static) (word_sound spelled name.1 name.2)) n) (alone_sound m.Semicolon refl) (λ ys l. refl))
member_sound (g.constructor spelled at o p {xs = xs} {ys = ys} {params = params} {of = of} q b) f n =
    let parts = sides xs (Mark m.CloseParen p) ys f.1.1 in
    sound_by (wr.constructor_member at params of n)
    (sound_any (sound_any (sound_both (letters_sound (codes "constructor") refl refl) (parens_sound (laid_list_sound n (map js_param params) (params_sound q parts.0))) (λ ys l. refl)) space_sound) (block_of b parts.1 n).0)
member_sound (g.class_method {is_static = is_static} kind spelled at o p {xs = xs} {ys = ys} {zs = zs} {vs = vs} {params = params} {shape = shape} {of = of} s h q a b) f n =
    let whole = front (xs ++ word kind spelled at ∷ Mark m.OpenParen o ∷ ys ++ Mark m.CloseParen p ∷ zs) vs f in
    let headed = back xs (word kind spelled at ∷ Mark m.OpenParen o ∷ ys) (front (xs ++ word kind spelled at ∷ Mark m.OpenParen o ∷ ys) (Mark m.CloseParen p ∷ zs) whole) in
    let body = back (xs ++ word kind spelled at ∷ Mark m.OpenParen o ∷ ys ++ Mark m.CloseParen p ∷ zs) vs f in
    sound_by (wr.method_member at is_static spelled params shape of n)
    (sound_any (sound_any (sound_both (sound_any (static_sound is_static) (word_sound spelled headed.0.1 headed.0.2)) (parens_sound (laid_list_sound n (map js_param params) (params_sound q headed.1.1))) (λ ys l. refl)) space_sound)
    (block_of b body n).0)

members_sound : {built : Bool} {xs : List Sym} {of : List ClassMember} {d : ℕ} → g.IsClassMembers true built xs of d → Formed xs → AllLaid anything (map js_member of)
members_sound g.no_class_members f = tt
members_sound (g.more_class_members {xs = xs} {ys = ys} q r h) f = (λ n. member_sound q (front xs ys f) n, members_sound r (back xs ys f))

-- ---- items

exported_fits : (exported : Bool) {p : List Piece} → Fits anything p → Fits anything (exported_pieces exported ++ p)
exported_fits true f = fits_any (fits_both (letters_fits (codes "export") refl refl) space_sound (λ ys l. refl)) f.0
exported_fits false f = f

declaration_fits : (exported : Bool) {xs : List Sym} {of : Declaration} {d : ℕ} → g.IsDeclaration true xs of d → Formed xs → AllByRecursion Left (erased_item (item.Declaration exported of))
declaration_fits exported (g.var_declaration q) f = (exported_fits exported (var_fits q f 0), tt)
declaration_fits exported (g.function_declaration q) f = (exported_fits exported (function_fits q f 0), tt)
declaration_fits exported (g.class_declaration (g.class class_spelled class_at spelled at o p {xs = xs} {ys = ys} {bases = bases} {of = of} h b q)) f =
    let inner = sides xs (Mark m.OpenBrace o) ys (front (xs ++ Mark m.OpenBrace o ∷ ys) (Mark m.CloseBrace p ∷ []) f.1.1) in (
      exported_fits exported
          (fits_by (wr.class_out (record { at = at; name = spelled; implements = bases; members = of }))
          (behind_braces 0 (map js_member of)
          (fits_both (fits_any (fits_both (letters_fits (codes "class") refl refl) space_sound (λ ys l. refl)) (word_sound spelled f.1.0.1 f.1.0.2)) space_sound (λ ys l. refl))
          (members_sound q inner.1))),
      tt,
    )
declaration_fits exported (g.interface_declaration q) f = tt
declaration_fits exported (g.alias_declaration q) f = tt

pub item_fits : {xs : List Sym} {of : Item} {d : ℕ} → g.IsItem true xs of d → Formed xs → AllByRecursion Left (erased_item of)
item_fits (g.import_item q) f = import_fits q f
item_fits (g.export_list_item q) f = export_list_fits q f
item_fits (g.declaration_item {exported = exported} {xs = xs} {ys = ys} w q) f = declaration_fits exported q (back xs ys f)
item_fits (g.stmt_item q) f = (stmt_fits q f 0, tt)

all_left : (xs ys : List Item) → AllByRecursion Left xs → AllByRecursion Left ys → AllByRecursion Left (xs ++ ys)
all_left [] ys p q = q
all_left (x ∷ xs) ys p q = (p.0, all_left xs ys p.1 q)

pub items_fit : {xs : List Sym} {of : List Item} → ReadsAs DerivesItem xs of → Formed xs → AllByRecursion Left (flat_map erased_item of)
items_fit no_items f = tt
items_fit (more_items {ys = ys} {of = of} {rest = rest} q r) f =
    let all = subst Formed q.whole f in
    all_left (erased_item of) (flat_map erased_item rest) (item_fits q.derives.1 (front q.front ys all)) (items_fit r (back q.front ys all))

-- `export {};` at the end
empty_fits : Left empty_export
empty_fits = list_fits (codes "export") (letters_fits (codes "export") refl refl) [] (object_sound [] tt) None sound_none

pub module_fits : (items : List Item) → AllByRecursion Left items → AllByRecursion Left (as_module items)
module_fits items h = by_cases (list_any is_module_item items) where
  by_cases : (b : Bool) → AllByRecursion Left (if b then items else items ++ empty_export ∷ [])
  by_cases true = h
  by_cases false = all_left items (empty_export ∷ []) h (empty_fits, tt)

-- What is written for each item, part by part.
use Rattle.std.proofs.Common.{◌≡◌, ℕ, ◌≤◌, Bool, true, false, not, ◌&&◌, ◌||◌, if◌then◌else◌, List, [], ◌∷◌, ◌++◌, map, flat_map, length, drop, codes, Option, Some, None, refl, ◌∙◌, ap, sym, subst, append_assoc, arith}
use Rattle.std.specs.List.{list_any}
use Rattle.std.proofs.lemmas.Grind.{flat_map-append}
use Rattle.std.proofs.lemmas.List.{append-nil, drop_all}
use Rattle.tb_tree.specs.declared.marks.Mark.TheVariants as m
use Rattle.tb_tree.specs.declared.words.Class.TheVariants as c
use Rattle.tb_tree.specs.declared.exprs.Identifier.{Identifier}
use Rattle.tb_tree.specs.declared.exprs.Stmt.{Stmt}
use Rattle.tb_tree.specs.declared.exprs.Var.{Var}
use Rattle.tb_tree.specs.declared.exprs.Function.{Function}
use Rattle.tb_tree.specs.declared.items.Spec.{Spec}
use Rattle.tb_tree.specs.declared.items.Specifier.{Specifier}
use Rattle.tb_tree.specs.declared.items.Import.{Import}
use Rattle.tb_tree.specs.declared.items.Import.TheVariants as import_form
use Rattle.tb_tree.specs.declared.items.ExportList.{ExportList}
use Rattle.tb_tree.specs.declared.items.ClassDeclaration.{ClassDeclaration}
use Rattle.tb_tree.specs.declared.items.Declaration.{Declaration}
use Rattle.tb_tree.specs.declared.items.Declaration.TheVariants as declaration
use Rattle.tb_tree.specs.declared.items.Item.{Item}
use Rattle.tb_tree.specs.declared.items.Item.TheVariants as item
use Rattle.tb_tree.specs.declared.items.File.{File}
use Rattle.tb_layout.specs.Erase.{erase, as_module, is_module_item, is_value_spec, erased_item, erased_import, erased_export_list, erased_specs, erased_declaration, erased_class, erased_stmt, erased_var, erased_function, stays_listed, empty_export}
use Rattle.tb_layout.specs.Pieces.{Piece, Lex, mark, word, space, new_line, listed, piece_text, text_of}
use Rattle.tb_layout.specs.Js.{lines, item_pieces, import_pieces, export_list_pieces, specs_pieces, spec_pieces, object_pieces, from_pieces, origin_pieces, renamed_pieces, class_pieces, exported_pieces, declaration_pieces, js_text, file_pieces}
use Rattle.tb_layout.proofs.Written as w
use Rattle.tb_layout.proofs.Written.{js_var, js_function, js_lines, js_member}
use Rattle.tb_emit_js.proofs.Joins.{text_join}
use Rattle.tb_emit_js.specs.Items.{item_line, erased_stmt_item, list_stays, has_origin, gap_text, end_text, tail_text, module_end}

-- ---- texts of one item

-- an item that is alone, and the end of its line
one_line : (of : Item) → flat_map item_line (of ∷ []) ≡ text_of (item_pieces of) ++ codes "\n"
one_line of = append-nil (item_line of) ∙ text_join (item_pieces of) (new_line 0)

-- the same where its pieces are followed by one more
ended : (xs : List Piece) (t : List ℕ) → text_of xs ≡ t → text_of (xs ++ mark m.Semicolon) ++ codes "\n" ≡ t ++ codes ";\n"
ended xs t is =
    ap (λ x. x ++ codes "\n") (text_join xs (mark m.Semicolon) ∙ ap (λ x. x ++ codes ";") is) ∙ append_assoc t (codes ";") (codes "\n")

pub stmt_line : (of : Stmt) → flat_map item_line (erased_stmt_item of) ≡ text_of (js_lines of 0) ++ codes "\n"
stmt_line of = one_line (item.Stmt (erased_stmt of))

pub import_gone : (at : ℕ) (specs : List Spec) (from : Specifier) → flat_map item_line (erased_import (import_form.List at true specs from)) ≡ []
import_gone at specs from = refl

pub from_some : (of : Specifier) → text_of (from_pieces (Some of)) ≡ codes " from " ++ of.spelled
from_some of = ap (λ t. codes " from " ++ t) (append-nil of.spelled)

import_text : (specs : List Spec) (from : Specifier)
    → text_of (word (codes "import") ++ space ++ specs_pieces specs ++ from_pieces (Some from)) ≡ codes "import " ++ (text_of (specs_pieces specs) ++ (codes " from " ++ from.spelled))
import_text specs from =
    text_join (word (codes "import") ++ space ++ specs_pieces specs) (from_pieces (Some from))
    ∙ ap (λ t. (codes "import " ++ text_of (specs_pieces specs)) ++ t) (from_some from)
    ∙ append_assoc (codes "import ") (text_of (specs_pieces specs)) (codes " from " ++ from.spelled)

pub import_line : (at : ℕ) (specs : List Spec) (from : Specifier) → flat_map item_line (erased_import (import_form.List at false specs from))
    ≡ codes "import " ++ (text_of (specs_pieces (erased_specs specs)) ++ (codes " from " ++ (from.spelled ++ codes ";\n")))
import_line at specs from =
    let kept = erased_specs specs in
    one_line (item.Import (import_form.List at false kept from))
    ∙ ended (word (codes "import") ++ space ++ specs_pieces kept ++ from_pieces (Some from)) (codes "import " ++ (text_of (specs_pieces kept) ++ (codes " from " ++ from.spelled))) (import_text kept from)
    ∙ ap (λ t. codes "import " ++ t) (append_assoc (text_of (specs_pieces kept)) (codes " from " ++ from.spelled) (codes ";\n")
    ∙ ap (λ t. text_of (specs_pieces kept) ++ t) (append_assoc (codes " from ") from.spelled (codes ";\n")))

pub bare_line : (at : ℕ) (from : Specifier) → flat_map item_line (erased_import (import_form.Bare at from)) ≡ codes "import " ++ (from.spelled ++ codes ";\n")
bare_line at from =
    one_line (item.Import (import_form.Bare at from))
    ∙ ended (word (codes "import") ++ space ++ origin_pieces from) (codes "import " ++ from.spelled) (ap (λ t. codes "import " ++ t) (append-nil from.spelled))
    ∙ append_assoc (codes "import ") from.spelled (codes ";\n")

-- ---- export lists

abbrev erased_if : (of : ExportList) (typed stays : Bool) → List Item
erased_if of typed stays =
    if typed || not stays then [] else (item.ExportList (record { at = of.at; type_only = false; specs = erased_specs of.specs; from = of.from }) ∷ [])

left_if : (of : ExportList) (typed stays : Bool) → list_any is_module_item (erased_if of typed stays) ≡ (not typed && stays)
left_if of true stays = refl
left_if of false true = refl
left_if of false false = refl

gone_if : (of : ExportList) (typed stays : Bool) → (not typed && stays) ≡ false → erased_if of typed stays ≡ []
gone_if of true stays is = refl
gone_if of false true is = absurd cc
gone_if of false false is = refl

kept_if : (of : ExportList) (typed stays : Bool) → (not typed && stays) ≡ true → erased_if of typed stays ≡ item.ExportList (record { at = of.at; type_only = false; specs = erased_specs of.specs; from = of.from }) ∷ []
kept_if of true stays is = absurd cc
kept_if of false true is = refl
kept_if of false false is = absurd cc

pub list_gone : (of : ExportList) → list_stays of ≡ false → flat_map item_line (erased_export_list of) ≡ []
list_gone of is = ap (λ items. flat_map item_line items) (gone_if of of.type_only (stays_listed of.specs (erased_specs of.specs) of.from) is)

list_pieces_text : (specs : List Spec) (from : Option Specifier)
    → text_of (word (codes "export") ++ space ++ specs_pieces specs ++ from_pieces from) ≡ codes "export " ++ (text_of (specs_pieces specs) ++ text_of (from_pieces from))
list_pieces_text specs from =
    text_join (word (codes "export") ++ space ++ specs_pieces specs) (from_pieces from)
    ∙ append_assoc (codes "export ") (text_of (specs_pieces specs)) (text_of (from_pieces from))

pub list_line : (of : ExportList) → list_stays of ≡ true
    → flat_map item_line (erased_export_list of) ≡ codes "export " ++ (text_of (specs_pieces (erased_specs of.specs)) ++ (text_of (from_pieces of.from) ++ codes ";\n"))
list_line of is =
    let kept = erased_specs of.specs in
    ap (λ items. flat_map item_line items) (kept_if of of.type_only (stays_listed of.specs kept of.from) is)
    ∙ one_line (item.ExportList (record { at = of.at; type_only = false; specs = kept; from = of.from }))
    ∙ ended (word (codes "export") ++ space ++ specs_pieces kept ++ from_pieces of.from) (codes "export " ++ (text_of (specs_pieces kept) ++ text_of (from_pieces of.from))) (list_pieces_text kept of.from)
    ∙ ap (λ t. codes "export " ++ t) (append_assoc (text_of (specs_pieces kept)) (text_of (from_pieces of.from)) (codes ";\n"))

-- when a list stays
pub stays_typed : (of : ExportList) → of.type_only ≡ true → list_stays of ≡ false
stays_typed of is = ap (λ b. not b && stays_listed of.specs (erased_specs of.specs) of.from) is

untyped : (of : ExportList) → of.type_only ≡ false → list_stays of ≡ stays_listed of.specs (erased_specs of.specs) of.from
untyped of is = ap (λ b. not b && stays_listed of.specs (erased_specs of.specs) of.from) is

empty_by : (specs left : List Spec) (from : Option Specifier) → length specs ≤ 0 → stays_listed specs left from ≡ true
empty_by [] left from few = refl
empty_by (x ∷ xs) left from few = absurd (omega (arith, few))

pub stays_empty : (of : ExportList) → of.type_only ≡ false → length of.specs ≤ 0 → list_stays of ≡ true
stays_empty of is few = untyped of is ∙ empty_by of.specs (erased_specs of.specs) of.from few

-- a name with `type` goes, and others stay
spec_left : (x : Spec) (xs : List Spec) → x.type_only ≡ false → erased_specs (x ∷ xs) ≡ x ∷ erased_specs xs
spec_left x xs is = ap (λ b. if not b then x ∷ erased_specs xs else erased_specs xs) is

spec_gone : (x : Spec) (xs : List Spec) → x.type_only ≡ true → erased_specs (x ∷ xs) ≡ erased_specs xs
spec_gone x xs is = ap (λ b. if not b then x ∷ erased_specs xs else erased_specs xs) is

-- some name is left where one is a value, and else none
some_step : (x : Spec) (xs : List Spec) (typed any : Bool) → x.type_only ≡ typed → (not typed || any) ≡ true
    → (any ≡ true → 1 ≤ length (erased_specs xs)) → 1 ≤ length (erased_specs (x ∷ xs))
some_step x xs true any is some rest = subst (λ l. 1 ≤ length l) (sym (spec_gone x xs is)) (rest some)
some_step x xs false any is some rest = subst (λ l. 1 ≤ length l) (sym (spec_left x xs is)) (omega arith)

left_some : (specs : List Spec) → list_any is_value_spec specs ≡ true → 1 ≤ length (erased_specs specs)
left_some [] is = absurd cc
left_some (x ∷ xs) is = some_step x xs x.type_only (list_any is_value_spec xs) refl is (left_some xs)

none_step : (x : Spec) (xs : List Spec) (typed any : Bool) → x.type_only ≡ typed → (not typed || any) ≡ false
    → (any ≡ false → erased_specs xs ≡ []) → erased_specs (x ∷ xs) ≡ []
none_step x xs true any is none rest = spec_gone x xs is ∙ rest none
none_step x xs false any is none rest = absurd cc

left_none : (specs : List Spec) → list_any is_value_spec specs ≡ false → erased_specs specs ≡ []
left_none [] is = refl
left_none (x ∷ xs) is = none_step x xs x.type_only (list_any is_value_spec xs) refl is (left_none xs)

some_by : (specs left : List Spec) (from : Option Specifier) → 1 ≤ length left → stays_listed specs left from ≡ true
some_by [] left from some = refl
some_by (x ∷ xs) [] from some = absurd (omega (arith, some))
some_by (x ∷ xs) (y ∷ ys) from some = refl

none_by : (specs left : List Spec) (from : Option Specifier) → 1 ≤ length specs → left ≡ [] → stays_listed specs left from ≡ has_origin from
none_by [] left from some none = absurd (omega (arith, some))
none_by (x ∷ xs) [] None some none = refl
none_by (x ∷ xs) [] (Some of) some none = refl
none_by (x ∷ xs) (y ∷ ys) from some none = absurd cc

pub stays_valued : (of : ExportList) → of.type_only ≡ false → list_any is_value_spec of.specs ≡ true → list_stays of ≡ true
stays_valued of is some = untyped of is ∙ some_by of.specs (erased_specs of.specs) of.from (left_some of.specs some)

pub stays_from : (of : ExportList) → of.type_only ≡ false → 1 ≤ length of.specs → list_any is_value_spec of.specs ≡ false → list_stays of ≡ has_origin of.from
stays_from of is some none = untyped of is ∙ none_by of.specs (erased_specs of.specs) of.from some (left_none of.specs none)

-- ---- what is left of an item in a module

pub import_left : (at : ℕ) (typed : Bool) (specs : List Spec) (from : Specifier)
    → list_any is_module_item (erased_import (import_form.List at typed specs from)) ≡ not typed
import_left at true specs from = refl
import_left at false specs from = refl

pub list_left : (of : ExportList) → list_any is_module_item (erased_item (item.ExportList of)) ≡ list_stays of
list_left of = left_if of of.type_only (stays_listed of.specs (erased_specs of.specs) of.from)

pub var_left : (exported : Bool) (of : Var) → list_any is_module_item (erased_declaration exported (declaration.Var of)) ≡ exported
var_left true of = refl
var_left false of = refl

pub function_left : (exported : Bool) (of : Function) → list_any is_module_item (erased_declaration exported (declaration.Function of)) ≡ exported
function_left true of = refl
function_left false of = refl

pub class_left : (exported : Bool) (of : ClassDeclaration) → list_any is_module_item (erased_declaration exported (declaration.Class of)) ≡ exported
class_left true of = refl
class_left false of = refl

-- ---- declarations

exported_line : (exported : Bool) (of : Declaration) (laid : List Piece) → declaration_pieces of ≡ laid
    → flat_map item_line (item.Declaration exported of ∷ []) ≡ text_of (exported_pieces exported) ++ (text_of laid ++ codes "\n")
exported_line exported of laid is =
    one_line (item.Declaration exported of)
    ∙ ap (λ t. t ++ codes "\n") (text_join (exported_pieces exported) (declaration_pieces of) ∙ ap (λ p. text_of (exported_pieces exported) ++ text_of p) is)
    ∙ append_assoc (text_of (exported_pieces exported)) (text_of laid) (codes "\n")

pub var_line : (exported : Bool) (of : Var)
    → flat_map item_line (erased_declaration exported (declaration.Var of)) ≡ text_of (exported_pieces exported) ++ (text_of (js_var of 0) ++ codes "\n")
var_line exported of = exported_line exported (declaration.Var (erased_var of)) (js_var of 0) refl

pub function_line : (exported : Bool) (of : Function)
    → flat_map item_line (erased_declaration exported (declaration.Function of)) ≡ text_of (exported_pieces exported) ++ (text_of (js_function of 0) ++ codes "\n")
function_line exported of = exported_line exported (declaration.Function (erased_function of)) (js_function of 0) refl

pub class_line : (exported : Bool) (of : ClassDeclaration)
    → flat_map item_line (erased_declaration exported (declaration.Class of)) ≡ text_of (exported_pieces exported) ++ (text_of (class_pieces (erased_class of)) ++ codes "\n")
class_line exported of = exported_line exported (declaration.Class (erased_class of)) (class_pieces (erased_class of)) refl

pub class_text : (of : ClassDeclaration)
    → text_of (class_pieces (erased_class of)) ≡ codes "class " ++ (of.name ++ (codes " {" ++ (text_of (lines 0 (map js_member of.members)) ++ codes "\n}")))
class_text of =
    let members = lines 0 (map js_member of.members) in
    let headed = word (codes "class") ++ space ++ word of.name ++ space ++ mark m.OpenBrace in
    ap text_of (w.class_out of)
    ∙ text_join (headed ++ members ++ new_line 0) (mark m.CloseBrace)
    ∙ ap (λ t. t ++ codes "}") (text_join (headed ++ members) (new_line 0) ∙ ap (λ t. t ++ codes "\n") (text_join headed members))
    ∙ append_assoc (text_of headed ++ text_of members) (codes "\n") (codes "}")
    ∙ append_assoc (text_of headed) (text_of members) (codes "\n}")
    ∙ ap (λ t. codes "class " ++ t) (append_assoc of.name (codes " {") (text_of members ++ codes "\n}"))

-- ---- names in braces

pub spec_step : (x : Spec) (xs : List Spec) (some : Bool) → x.type_only ≡ false
    → tail_text some (erased_specs (x ∷ xs)) ≡ gap_text some ++ (text_of (spec_pieces x) ++ tail_text true (erased_specs xs))
spec_step x xs some is = ap (λ l. tail_text some l) (spec_left x xs is)

pub spec_skip : (x : Spec) (xs : List Spec) (some : Bool) → x.type_only ≡ true → tail_text some (erased_specs (x ∷ xs)) ≡ tail_text some (erased_specs xs)
spec_skip x xs some is = ap (λ l. tail_text some l) (spec_gone x xs is)

listed_tail : (x : Spec) (xs : List Spec) → text_of (listed (map spec_pieces (x ∷ xs))) ++ codes " }" ≡ text_of (spec_pieces x) ++ tail_text true xs
listed_tail x [] = refl
listed_tail x (y ∷ ys) =
    let rest = listed (map spec_pieces (y ∷ ys)) in
    ap (λ t. t ++ codes " }") (text_join (spec_pieces x ++ mark m.Comma ++ space) rest
    ∙ ap (λ t. t ++ text_of rest) (text_join (spec_pieces x ++ mark m.Comma) space
    ∙ ap (λ t. t ++ codes " ") (text_join (spec_pieces x) (mark m.Comma)) ∙ append_assoc (text_of (spec_pieces x)) (codes ",") (codes " ")))
    ∙ append_assoc (text_of (spec_pieces x) ++ codes ", ") (text_of rest) (codes " }")
    ∙ ap (λ t. (text_of (spec_pieces x) ++ codes ", ") ++ t) (listed_tail y ys)
    ∙ append_assoc (text_of (spec_pieces x)) (codes ", ") (text_of (spec_pieces y) ++ tail_text true ys)

pub specs_text : (xs : List Spec) → text_of (specs_pieces xs) ≡ codes "{" ++ tail_text false xs
specs_text [] = refl
specs_text (x ∷ xs) =
    let inner = listed (map spec_pieces (x ∷ xs)) in
    text_join (mark m.OpenBrace ++ space ++ inner ++ space) (mark m.CloseBrace)
    ∙ ap (λ t. t ++ codes "}") (text_join (mark m.OpenBrace ++ space ++ inner) space)
    ∙ ap (λ t. codes "{ " ++ t) (append_assoc (text_of inner) (codes " ") (codes "}") ∙ listed_tail x xs)

pub renamed_some : (of : Identifier) → text_of (renamed_pieces (Some of)) ≡ codes " as " ++ of.name
renamed_some of = ap (λ t. codes " as " ++ t) (append-nil of.name)

pub spec_text : (of : Spec) → text_of (spec_pieces of) ≡ of.name.name ++ text_of (renamed_pieces of.renamed)
spec_text of = refl

-- ---- files

flat_twice : {A : Type 0} (f : A → List Piece) (xs : List A) → text_of (flat_map f xs) ≡ flat_map (λ x. text_of (f x)) xs
flat_twice f [] = refl
flat_twice f (x ∷ xs) = text_join (f x) (flat_map f xs) ∙ ap (λ t. text_of (f x) ++ t) (flat_twice f xs)

file_text : (of : File) → js_text of ≡ flat_map item_line of.items
file_text of = flat_twice (λ (x : Item). item_pieces x ++ new_line 0) of.items

module_by : (items : List Item) (b : Bool) → list_any is_module_item items ≡ b → as_module items ≡ (if b then items else items ++ empty_export ∷ [])
module_by items b is = ap (λ b. if b then items else items ++ empty_export ∷ []) is

whole_module : (file : File) → list_any is_module_item (flat_map erased_item file.items) ≡ true → js_text (erase file) ≡ flat_map item_line (flat_map erased_item file.items)
whole_module file is = file_text (erase file) ∙ ap (λ items. flat_map item_line items) (module_by (flat_map erased_item file.items) true is)

whole_script : (file : File) → list_any is_module_item (flat_map erased_item file.items) ≡ false
    → js_text (erase file) ≡ flat_map item_line (flat_map erased_item file.items) ++ codes "export {};\n"
whole_script file is =
    let items = flat_map erased_item file.items in
    file_text (erase file) ∙ ap (λ all. flat_map item_line all) (module_by items false is) ∙ flat_map-append item_line items (empty_export ∷ [])

module_text : (items : List Item) (b : Bool) → b ≡ list_any is_module_item (flat_map erased_item items)
    → flat_map item_line (flat_map erased_item items) ++ module_end b ≡ js_text (erase (record { items = items }))
module_text items true is = append-nil (flat_map item_line (flat_map erased_item items)) ∙ sym (whole_module (record { items = items }) (sym is))
module_text items false is = sym (whole_script (record { items = items }) (sym is))

or_false : (b : Bool) → b ≡ (b || false)
or_false true = refl
or_false false = refl

-- what stands written once each item is
pub whole_text : (file : File) (items : List Item) (o all : List ℕ) (is_module : Bool) (k : ℕ) → items ≡ file.items → length items ≤ k
    → o ++ flat_map item_line (flat_map erased_item (drop k items)) ≡ flat_map item_line (flat_map erased_item items)
    → (is_module || list_any is_module_item (flat_map erased_item (drop k items))) ≡ list_any is_module_item (flat_map erased_item items)
    → all ≡ o ++ module_end is_module → all ≡ js_text (erase file)
whole_text file items o all is_module k same past written seen final =
    let none = drop_all k items past in
    final
    ∙ ap (λ t. t ++ module_end is_module) (sym (append-nil o) ∙ ap (λ xs. o ++ flat_map item_line (flat_map erased_item xs)) (sym none) ∙ written)
    ∙ module_text items is_module (or_false is_module ∙ ap (λ xs. is_module || list_any is_module_item (flat_map erased_item xs)) (sym none) ∙ seen)
    ∙ ap (λ xs. js_text (erase (record { items = xs }))) same

-- what stands written once each name is
pub specs_whole : (o0 o1 o2 o3 : List ℕ) (all : List Spec) (some : Bool) (k : ℕ) → length all ≤ k → o1 ≡ o0 ++ codes "{"
    → o2 ++ tail_text some (erased_specs (drop k all)) ≡ o1 ++ tail_text false (erased_specs all) → o3 ≡ o2 ++ end_text some
    → o3 ≡ o0 ++ text_of (specs_pieces (erased_specs all))
specs_whole o0 o1 o2 o3 all some k past first is final =
    let none = drop_all k all past in
    final ∙ ap (λ xs. o2 ++ tail_text some (erased_specs xs)) (sym none) ∙ is
    ∙ ap (λ t. t ++ tail_text false (erased_specs all)) first ∙ append_assoc o0 (codes "{") (tail_text false (erased_specs all))
    ∙ ap (λ t. o0 ++ t) (sym (specs_text (erased_specs all)))

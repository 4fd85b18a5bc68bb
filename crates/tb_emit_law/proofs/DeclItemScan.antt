-- The layouts of what is kept of the items of a declaration file that were read scan as what was laid out.
use Rattle.std.proofs.Common.{◌≡◌, ℕ, Bool, true, false, ◌||◌, List, [], ◌∷◌, ◌++◌, map, codes, Some, refl}
use Rattle.std.specs.Prelude.{IsUtf8}
use Rattle.std.specs.List.{AllByRecursion, list_all}
use Rattle.std.proofs.lemmas.List.{append-nil}
use Rattle.tb_tree.specs.declared.marks.Mark.TheVariants as m
use Rattle.tb_tree.specs.declared.words.Word.{Word}
use Rattle.tb_tree.specs.declared.words.Word.TheVariants as w
use Rattle.tb_tree.specs.declared.types.TypeExpr.{TypeExpr}
use Rattle.tb_tree.specs.declared.types.TypeParam.{TypeParam}
use Rattle.tb_tree.specs.declared.exprs.VarKind.{VarKind}
use Rattle.tb_tree.specs.declared.items.Specifier.{Specifier}
use Rattle.tb_tree.specs.declared.items.Spec.{Spec}
use Rattle.tb_tree.specs.declared.items.Import.{Import}
use Rattle.tb_tree.specs.declared.items.Import.TheVariants as import_form
use Rattle.tb_tree.specs.declared.items.ExportList.{ExportList}
use Rattle.tb_tree.specs.declared.items.Base.{Base}
use Rattle.tb_tree.specs.declared.items.Interface.{Interface}
use Rattle.tb_tree.specs.declared.items.Alias.{Alias}
use Rattle.tb_tree.specs.declared.items.DeclaredMember.{DeclaredMember}
use Rattle.tb_tree.specs.declared.items.Declared.{Declared}
use Rattle.tb_tree.specs.declared.items.SurfaceItem.{SurfaceItem}
use Rattle.tb_tree.specs.declared.items.SurfaceItem.TheVariants as surface_item
use Rattle.tb_tree.specs.Sym.{Sym, Mark}
use Rattle.tb_tree.specs.Shapes.{word, IsListed, none_listed, last_listed, more_listed, IsJoined, last_joined, more_joined}
use Rattle.tb_tree.specs.Types as types
use Rattle.tb_tree.specs.Types.{IsShape}
use Rattle.tb_tree.specs.Items as grammar
use Rattle.tb_tree.specs.Items.{IsSpec, IsSpecs, IsFrom, IsImport, IsExportList, IsBase, IsBases, IsInterface, IsAlias}
use Rattle.tb_tree.specs.Surfaces as surfaces
use Rattle.tb_tree.specs.Surfaces.{IsSignature, IsDeclaredMember, IsDeclaredMembers, IsDeclared, IsDeclItem, is_origin, is_spec, kept_list}
use Rattle.tb_layout.specs.Pieces.{Piece, mark, space}
use Rattle.tb_layout.specs.Pieces as pieces
use Rattle.tb_layout.specs.Js.{static_pieces, kind_pieces, exported_pieces}
use Rattle.tb_layout.specs.Shown.{optional_pieces, read_only_pieces, colon_pieces, type_pieces, shown_member, shown_type_param}
use Rattle.tb_layout.specs.Dts.{typed_pieces, typed_spec_pieces, typed_specs_pieces, from_pieces, params_pieces, base_pieces, bases_pieces, lines_pieces, interface_pieces, alias_pieces, declared_member_pieces, declare_pieces, declared_pieces, surface_item_pieces}
use Rattle.tb_emit_law.proofs.Alone.{IsWordText}
use Rattle.tb_emit_law.proofs.Sound.{Sound, anything, off_words, off_numbers, is_letters, is_low, sound_any, sound_both, sound_none, from_any, from_words, space_sound, word_sound, letters_sound, alone_sound, before_sound}
use Rattle.tb_emit_law.proofs.Parts.{parens_sound, object_sound, Fits, fits_by, sound_by, fits_both, fits_any, fits_words, letters_fits, kind_fits}
use Rattle.tb_emit_law.proofs.SoundExprs.{Formed, front, back, sides}
use Rattle.tb_emit_law.proofs.DeclScan.{quoted_sound, listed_sound, read_only_sound, colon_sound, typed_sound, lines_scan, TypeScans, type_scan, params_scan, members_scan}

-- ---- imports and export lists

pub typed_head : (typed : Bool) → Sound anything (typed_pieces typed)
typed_head true = sound_both (letters_sound (codes "type") refl refl) space_sound (λ ys l. refl)
typed_head false = sound_none

name_alone : (t : List ℕ) → Sound off_words (pieces.word t) → Sound off_numbers (pieces.word t ++ [])
name_alone t f = sound_by (append-nil (pieces.word t)) (from_words f)

name_renamed : (t u : List ℕ) → Sound off_words (pieces.word t) → Sound off_words (pieces.word u) → Sound off_numbers (pieces.word t ++ (space ++ pieces.word (codes "as") ++ space ++ pieces.word u))
name_renamed t u f h = from_words (sound_both f (sound_any (sound_both (sound_any space_sound (letters_sound (codes "as") refl refl)) space_sound (λ ys l. refl)) h) (λ ys l. refl))

spec_scans : {local : Word → Word → Bool} {typed : Bool} {xs : List Sym} {of : Spec} → IsSpec local typed xs of → Formed xs → Sound off_numbers (typed_spec_pieces of)
spec_scans (grammar.plain_spec spelled at h) f = name_alone spelled (word_sound spelled f.0.1 f.0.2)
spec_scans (grammar.renamed_spec spelled at as_spelled as_at other_spelled other_at h) f =
    name_renamed spelled other_spelled (word_sound spelled f.0.1 f.0.2) (word_sound other_spelled f.1.1.0.1 f.1.1.0.2)
spec_scans (grammar.type_spec type_spelled type_at spelled at t n h) f = sound_any (typed_head true) (name_alone spelled (word_sound spelled f.1.0.1 f.1.0.2))
spec_scans (grammar.renamed_type_spec type_spelled type_at spelled at as_spelled as_at other_spelled other_at t n h) f =
    sound_any (typed_head true) (name_renamed spelled other_spelled (word_sound spelled f.1.0.1 f.1.0.2) (word_sound other_spelled f.1.1.1.0.1 f.1.1.1.0.2))

pub listed_scan : {local : Word → Word → Bool} {typed : Bool} {xs : List Sym} {of : List Spec} → IsListed (IsSpec local typed) xs of → Formed xs → AllByRecursion (Sound off_numbers) (map typed_spec_pieces of)
listed_scan none_listed f = tt
listed_scan (last_listed q) f = (spec_scans q f, tt)
listed_scan (more_listed comma {xs = xs} {ys = ys} q r) f = let parts = sides xs (Mark m.Comma comma) ys f in (spec_scans q parts.0, listed_scan r parts.1)

specs_scan : {local : Word → Word → Bool} {typed : Bool} {xs : List Sym} {of : List Spec} → IsSpecs local typed xs of → Formed xs → Sound anything (typed_specs_pieces of)
specs_scan (grammar.specs o p {xs = xs} {of = of} q) f = object_sound (map typed_spec_pieces of) (listed_scan q (front xs (Mark m.CloseBrace p ∷ []) f.1))

from_scan : {xs : List Sym} {of : Specifier} → IsFrom xs of → Formed xs → Sound anything (from_pieces (Some of))
from_scan (grammar.from from_spelled from_at spelled at) f = sound_any (sound_both (sound_any space_sound (letters_sound (codes "from") refl refl)) space_sound (λ ys l. refl)) (quoted_sound spelled f.1.0.1)

-- what an item's layout is before any text, and at the beginning of one
abbrev pub ItemFits : SurfaceItem → Type 0
ItemFits of = Fits anything (surface_item_pieces of)

spaced_word : (t : List ℕ) → is_letters t ≡ true → list_all is_low t ≡ true → Fits anything (pieces.word t ++ space)
spaced_word t h l = fits_both (letters_fits t h l) space_sound (λ ys l. refl)

pub import_list_fits : (at : ℕ) (typed : Bool) (specs : List Spec) (from_at : ℕ) (spelled : List ℕ) → AllByRecursion (Sound off_numbers) (map typed_spec_pieces specs) → IsUtf8 spelled
    → ItemFits (surface_item.Import (import_form.List at typed specs (record { at = from_at; spelled = spelled })))
import_list_fits at typed specs from_at spelled h u =
    fits_any (fits_any (fits_any (fits_any (spaced_word (codes "import") refl refl) (typed_head typed)) (object_sound (map typed_spec_pieces specs) h))
    (sound_any (sound_both (sound_any space_sound (letters_sound (codes "from") refl refl)) space_sound (λ ys l. refl)) (quoted_sound spelled u))) (alone_sound m.Semicolon refl)

pub import_fits : {xs : List Sym} {of : Import} → IsImport xs of → Formed xs → ItemFits (surface_item.Import of)
import_fits (grammar.import_list {type_only = typed} spelled at i {xs = xs} {ys = ys} {zs = zs} t s q) f =
    let whole = front (word w.Import spelled at ∷ xs ++ ys ++ zs) (Mark m.Semicolon i ∷ []) f in
    let named = back (word w.Import spelled at ∷ xs) ys (front (word w.Import spelled at ∷ xs ++ ys) zs whole) in
    fits_any (fits_any (fits_any (fits_any (spaced_word (codes "import") refl refl) (typed_head typed)) (specs_scan s named)) (from_scan q (back (word w.Import spelled at ∷ xs ++ ys) zs whole))) (alone_sound m.Semicolon refl)
import_fits (grammar.import_bare spelled at from_spelled from_at i) f = fits_any (fits_any (spaced_word (codes "import") refl refl) (quoted_sound from_spelled f.1.0.1)) (alone_sound m.Semicolon refl)

pub export_list_fits : {xs : List Sym} {of : ExportList} → IsExportList xs of → Formed xs → ItemFits (surface_item.ExportList of)
export_list_fits (grammar.export_list {type_only = typed} spelled at i {xs = xs} {ys = ys} t s) f =
    let named = back (word w.Export spelled at ∷ xs) ys (front (word w.Export spelled at ∷ xs ++ ys) (Mark m.Semicolon i ∷ []) f) in
    fits_any (fits_any (fits_any (fits_any (spaced_word (codes "export") refl refl) (typed_head typed)) (specs_scan s named)) sound_none) (alone_sound m.Semicolon refl)
export_list_fits (grammar.export_from {type_only = typed} spelled at i {xs = xs} {ys = ys} {zs = zs} t s q) f =
    let whole = front (word w.Export spelled at ∷ xs ++ ys ++ zs) (Mark m.Semicolon i ∷ []) f in
    let named = back (word w.Export spelled at ∷ xs) ys (front (word w.Export spelled at ∷ xs ++ ys) zs whole) in
    fits_any (fits_any (fits_any (fits_any (spaced_word (codes "export") refl refl) (typed_head typed)) (specs_scan s named)) (from_scan q (back (word w.Export spelled at ∷ xs ++ ys) zs whole))) (alone_sound m.Semicolon refl)

-- ---- parts of declarations

pub shape_scan : {xs : List Sym} {of : TypeExpr} {d : ℕ} → IsShape xs of d → Formed xs → TypeScans of
shape_scan (types.shape colon q h) f = type_scan q f.1

pub signature_scan : {xs : List Sym} {params : List TypeParam} {d : ℕ} → IsSignature xs params d → Formed xs → AllByRecursion (Sound off_numbers) (map shown_type_param params)
signature_scan (surfaces.signature o p {xs = xs} q h) f = params_scan q (front xs (Mark m.CloseParen p ∷ []) f.1)

pub params_sound : (params : List TypeParam) → AllByRecursion (Sound off_numbers) (map shown_type_param params) → Sound anything (params_pieces params)
params_sound params h = parens_sound (listed_sound (map shown_type_param params) h)

base_scans : {xs : List Sym} {of : Base} → IsBase xs of → Formed xs → Sound off_numbers (base_pieces of)
base_scans (grammar.base spelled at h) f = name_alone spelled (word_sound spelled f.0.1 f.0.2)

joined_scan : {xs : List Sym} {of : List Base} → IsJoined IsBase xs of → Formed xs → AllByRecursion (Sound off_numbers) (map base_pieces of)
joined_scan (last_joined q) f = (base_scans q f, tt)
joined_scan (more_joined comma {xs = xs} {ys = ys} q r) f = let parts = sides xs (Mark m.Comma comma) ys f in (base_scans q parts.0, joined_scan r parts.1)

-- a name with bases behind it
bases_by : (keyword : List ℕ) → Sound off_words (pieces.word keyword) → {p : List Piece} → Fits off_words p → (of : List Base) → AllByRecursion (Sound off_numbers) (map base_pieces of) → Fits off_numbers (p ++ bases_pieces keyword of)
bases_by keyword k {p = p} f [] h = fits_by (append-nil p) (fits_words f)
bases_by keyword k f (of ∷ rest) h =
    fits_both f (sound_any (sound_both (sound_any space_sound k) space_sound (λ ys l. refl)) (listed_sound (map base_pieces (of ∷ rest)) h)) (λ ys l. refl)

bases_scan : {kind : Word} {xs : List Sym} {of : List Base} → IsBases kind xs of → Formed xs → AllByRecursion (Sound off_numbers) (map base_pieces of)
bases_scan grammar.no_bases f = tt
bases_scan (grammar.some_bases spelled at q) f = joined_scan q f.1

pub implements_fits : {xs : List Sym} {of : List Base} {p : List Piece} → Fits off_words p → IsBases w.Implements xs of → Formed xs → Fits off_numbers (p ++ bases_pieces (codes "implements") of)
implements_fits {of = of} f q h = bases_by (codes "implements") (letters_sound (codes "implements") refl refl) f of (bases_scan q h)

named_fits : (t spelled : List ℕ) → is_letters t ≡ true → list_all is_low t ≡ true → IsWordText spelled → IsUtf8 spelled → Fits off_words (pieces.word t ++ space ++ pieces.word spelled)
named_fits t spelled h l text utf8 = fits_any (spaced_word t h l) (word_sound spelled text utf8)

pub interface_fits : {xs : List Sym} {of : Interface} {d : ℕ} → IsInterface xs of d → Formed xs → Fits anything (interface_pieces of)
interface_fits (grammar.interface {kind = kind} interface_spelled interface_at spelled at o p {xs = xs} {ys = ys} {bases = bases} {of = of} h b q l) f =
    let parts = sides (word w.Interface interface_spelled interface_at ∷ word kind spelled at ∷ xs) (Mark m.OpenBrace o) ys
    (front (word w.Interface interface_spelled interface_at ∷ word kind spelled at ∷ xs ++ Mark m.OpenBrace o ∷ ys) (Mark m.CloseBrace p ∷ []) f) in
    let named = fits_both (named_fits (codes "interface") spelled refl refl f.1.0.1 f.1.0.2) (sound_none {C = off_words}) (λ ys l. l) in
    fits_both (bases_by (codes "extends") (letters_sound (codes "extends") refl refl) named bases (bases_scan b parts.0.1.1)) (lines_scan (map shown_member of) (members_scan q parts.1)) (λ ys l. refl)

alias_by : (spelled : List ℕ) {p : List Piece} → IsWordText spelled → IsUtf8 spelled → Sound off_numbers p
    → Fits anything (pieces.word (codes "type") ++ space ++ pieces.word spelled ++ [] ++ space ++ mark m.Assign ++ space ++ p ++ mark m.Semicolon)
alias_by spelled text utf8 g =
    fits_both (fits_any (fits_both (fits_any (fits_both (fits_both (named_fits (codes "type") spelled refl refl text utf8) (sound_none {C = off_words}) (λ ys l. l)) space_sound (λ ys l. refl)) (before_sound m.Assign refl)) space_sound (λ ys l. refl)) g)
    (alone_sound m.Semicolon refl) (λ ys l. refl)

pub alias_fits : {xs : List Sym} {of : Alias} {d : ℕ} → IsAlias xs of d → Formed xs → Fits anything (alias_pieces of)
alias_fits (grammar.alias type_spelled type_at spelled at assign i {xs = xs} h q l) f = alias_by spelled f.1.0.1 f.1.0.2 (type_scan q (front xs (Mark m.Semicolon i ∷ []) f.1.1.1))

pub static_sound : (b : Bool) → Sound anything (static_pieces b)
static_sound true = sound_both (letters_sound (codes "static") refl refl) space_sound (λ ys l. refl)
static_sound false = sound_none

pub field_sound : (is_static read_only : Bool) (name : List ℕ) (optional : Bool) (shape : TypeExpr) → IsWordText name → IsUtf8 name → TypeScans shape
    → Sound off_numbers (static_pieces is_static ++ read_only_pieces read_only ++ pieces.word name ++ optional_pieces optional ++ colon_pieces (type_pieces shape))
field_sound is_static read_only name optional shape text utf8 g = typed_sound optional (sound_any (sound_any (static_sound is_static) (read_only_sound read_only)) (word_sound name text utf8)) g

pub constructor_sound : (params : List TypeParam) → AllByRecursion (Sound off_numbers) (map shown_type_param params) → Sound off_numbers (pieces.word (codes "constructor") ++ params_pieces params)
constructor_sound params h = from_any (sound_both (letters_sound (codes "constructor") refl refl) (params_sound params h) (λ ys l. refl))

pub method_sound : (is_static : Bool) (name : List ℕ) (params : List TypeParam) (result : TypeExpr) → IsWordText name → IsUtf8 name → AllByRecursion (Sound off_numbers) (map shown_type_param params) → TypeScans result
    → Sound off_numbers (static_pieces is_static ++ pieces.word name ++ params_pieces params ++ colon_pieces (type_pieces result))
method_sound is_static name params result text utf8 h g =
    sound_any (sound_both (sound_any (static_sound is_static) (word_sound name text utf8)) (params_sound params h) (λ ys l. refl)) (colon_sound g)

member_scans : {built : Bool} {xs : List Sym} {of : DeclaredMember} {d : ℕ} → IsDeclaredMember built xs of d → Formed xs → Sound off_numbers (declared_member_pieces of)
member_scans (surfaces.declared_field {is_static = is_static} {read_only = read_only} {optional = optional} kind spelled at i {xs = xs} {ys = ys} {zs = zs} {vs = vs} {of = of} s r h q t) f =
    let whole = front (xs ++ ys ++ word kind spelled at ∷ zs ++ vs) (Mark m.Semicolon i ∷ []) f in
    let name = (back (xs ++ ys) (word kind spelled at ∷ zs) (front (xs ++ ys ++ word kind spelled at ∷ zs) vs whole)).0 in
    field_sound is_static read_only spelled optional of name.1 name.2 (shape_scan t (back (xs ++ ys ++ word kind spelled at ∷ zs) vs whole))
member_scans (surfaces.declared_constructor spelled at i {xs = xs} {params = params} q) f = constructor_sound params (signature_scan q (front xs (Mark m.Semicolon i ∷ []) f.1))
member_scans (surfaces.declared_method {is_static = is_static} kind spelled at i {xs = xs} {ys = ys} {zs = zs} {params = params} {of = of} s h q t) f =
    let whole = front (xs ++ word kind spelled at ∷ ys ++ zs) (Mark m.Semicolon i ∷ []) f in
    let head = back xs (word kind spelled at ∷ ys) (front (xs ++ word kind spelled at ∷ ys) zs whole) in
    method_sound is_static spelled params of head.0.1 head.0.2 (signature_scan q head.1) (shape_scan t (back (xs ++ word kind spelled at ∷ ys) zs whole))

declared_members_scan : {built : Bool} {xs : List Sym} {of : List DeclaredMember} {d : ℕ} → IsDeclaredMembers built xs of d → Formed xs → AllByRecursion (Sound off_numbers) (map declared_member_pieces of)
declared_members_scan surfaces.no_declared_members f = tt
declared_members_scan (surfaces.more_declared_members {xs = xs} {ys = ys} q r h) f = (member_scans q (front xs ys f), declared_members_scan r (back xs ys f))

-- ---- declarations

declared_word : Fits anything declare_pieces
declared_word = spaced_word (codes "declare") refl refl

pub variable_fits : (kind : VarKind) (name : List ℕ) (shape : TypeExpr) → IsWordText name → IsUtf8 name → TypeScans shape
    → Fits anything (declare_pieces ++ kind_pieces kind ++ space ++ pieces.word name ++ colon_pieces (type_pieces shape) ++ mark m.Semicolon)
variable_fits kind name shape text utf8 g =
    fits_both (fits_both (fits_any (fits_both (fits_any declared_word (kind_fits kind).0) space_sound (λ ys l. refl)) (word_sound name text utf8)) (colon_sound g) (λ ys l. refl)) (alone_sound m.Semicolon refl) (λ ys l. refl)

pub function_fits : (name : List ℕ) (params : List TypeParam) (result : TypeExpr) → IsWordText name → IsUtf8 name → AllByRecursion (Sound off_numbers) (map shown_type_param params) → TypeScans result
    → Fits anything (declare_pieces ++ pieces.word (codes "function") ++ space ++ pieces.word name ++ [] ++ params_pieces params ++ colon_pieces (type_pieces result) ++ mark m.Semicolon)
function_fits name params result text utf8 h g =
    fits_both (fits_any (fits_both (fits_both (fits_any (fits_both (fits_any declared_word (letters_sound (codes "function") refl refl)) space_sound (λ ys l. refl)) (word_sound name text utf8)) (sound_none {C = off_words}) (λ ys l. l))
    (params_sound params h) (λ ys l. refl)) (colon_sound g)) (alone_sound m.Semicolon refl) (λ ys l. refl)

pub class_fits : (name : List ℕ) (bases : List Base) (members : List DeclaredMember) {xs : List Sym} → IsWordText name → IsUtf8 name → IsBases w.Implements xs bases → Formed xs
    → AllByRecursion (Sound off_numbers) (map declared_member_pieces members)
    → Fits anything (declare_pieces ++ (pieces.word (codes "class") ++ space ++ pieces.word name ++ bases_pieces (codes "implements") bases ++ lines_pieces (map declared_member_pieces members)))
class_fits name bases members text utf8 b f h =
    fits_any declared_word (fits_both (implements_fits (named_fits (codes "class") name refl refl text utf8) b f) (lines_scan (map declared_member_pieces members) h) (λ ys l. refl)).0

declared_fits : {xs : List Sym} {of : Declared} {d : ℕ} → IsDeclared xs of d → Formed xs → Fits anything (declared_pieces of)
declared_fits (surfaces.declared_variable {kind = kind} kind_spelled kind_at spelled at i {xs = xs} {of = of} e h q) f =
    variable_fits kind spelled of f.1.0.1 f.1.0.2 (shape_scan q (front xs (Mark m.Semicolon i ∷ []) f.1.1))
declared_fits (surfaces.declared_function function_spelled function_at spelled at i {xs = xs} {ys = ys} {params = params} {of = of} h q r) f =
    let whole = front (xs ++ ys) (Mark m.Semicolon i ∷ []) f.1.1 in
    function_fits spelled params of f.1.0.1 f.1.0.2 (signature_scan q (front xs ys whole)) (shape_scan r (back xs ys whole))
declared_fits (surfaces.declared_class {kind = kind} class_spelled class_at spelled at o p {xs = xs} {ys = ys} {bases = bases} {of = of} h b q) f =
    let parts = sides (word w.Class class_spelled class_at ∷ word kind spelled at ∷ xs) (Mark m.OpenBrace o) ys
    (front (word w.Class class_spelled class_at ∷ word kind spelled at ∷ xs ++ Mark m.OpenBrace o ∷ ys) (Mark m.CloseBrace p ∷ []) f) in
    class_fits spelled bases of f.1.0.1 f.1.0.2 b parts.0.1.1 (declared_members_scan q parts.1)
declared_fits (surfaces.declared_interface q) f = interface_fits q f
declared_fits (surfaces.declared_alias q) f = alias_fits q f

-- ---- items

pub exported_fits : (exported : Bool) {p : List Piece} → Fits anything p → Fits anything (exported_pieces exported ++ p)
exported_fits true f = fits_any (spaced_word (codes "export") refl refl) f.0
exported_fits false f = f

pub kept_fits : (of : ExportList) (b : Bool) → ItemFits (surface_item.ExportList of) → AllByRecursion ItemFits (kept_list of b)
kept_fits of true f = (f, tt)
kept_fits of false f = tt

pub item_fits : {xs : List Sym} {of : List SurfaceItem} {d : ℕ} → IsDeclItem xs of d → Formed xs → AllByRecursion ItemFits of
item_fits (surfaces.declared_import q) f = (import_fits q f, tt)
item_fits (surfaces.declared_list {of = of} q) f = kept_fits of (is_spec of.specs || is_origin of.from) (export_list_fits q f)
item_fits (surfaces.declared_item {exported = exported} {xs = xs} {ys = ys} {zs = zs} e a q) f = (exported_fits exported (declared_fits q (back (xs ++ ys) zs f)), tt)

-- Items of declaration files that are read back, by their parts: one step for each form.
use Rattle.std.proofs.Common.{◌≡◌, ℕ, max, Bool, true, false, ◌||◌, ◌&&◌, List, [], ◌∷◌, ◌++◌, map, flat_map, codes, Option, Some, None, refl, sym, ap, ◌∙◌, arith, append_assoc}
use Rattle.tb_tree.specs.declared.marks.Mark.TheVariants as m
use Rattle.tb_tree.specs.declared.words.Class.TheVariants as c
use Rattle.tb_tree.specs.declared.words.Word.{Word}
use Rattle.tb_tree.specs.declared.words.Word.TheVariants as w
use Rattle.tb_tree.specs.declared.types.TypeExpr.{TypeExpr}
use Rattle.tb_tree.specs.declared.types.TypeParam.{TypeParam}
use Rattle.tb_tree.specs.declared.types.TypeMember.{TypeMember}
use Rattle.tb_tree.specs.declared.exprs.VarKind.{VarKind}
use Rattle.tb_tree.specs.declared.exprs.VarKind.TheVariants as v
use Rattle.tb_tree.specs.declared.items.Specifier.{Specifier}
use Rattle.tb_tree.specs.declared.items.Spec.{Spec}
use Rattle.tb_tree.specs.declared.items.Import.{Import}
use Rattle.tb_tree.specs.declared.items.Import.TheVariants as import_form
use Rattle.tb_tree.specs.declared.items.ExportList.{ExportList}
use Rattle.tb_tree.specs.declared.items.Base.{Base}
use Rattle.tb_tree.specs.declared.items.Interface.{Interface}
use Rattle.tb_tree.specs.declared.items.Alias.{Alias}
use Rattle.tb_tree.specs.declared.items.DeclaredMember.{DeclaredMember}
use Rattle.tb_tree.specs.declared.items.DeclaredMember.TheVariants as declared_member
use Rattle.tb_tree.specs.declared.items.Declared.{Declared}
use Rattle.tb_tree.specs.declared.items.Declared.TheVariants as declared
use Rattle.tb_tree.specs.declared.items.SurfaceItem.{SurfaceItem}
use Rattle.tb_tree.specs.declared.items.SurfaceItem.TheVariants as surface_item
use Rattle.tb_tree.specs.Sym.{Sym, Mark, Lex}
use Rattle.tb_tree.specs.Words.{is_name, is_type_name, word_of, early_word, middle_word, late_word, other_word, last_word, type_word, named_word}
use Rattle.tb_tree.specs.Shapes.{max_depth, IsWorded, unworded, worded, IsListed, none_listed, last_listed, more_listed, IsJoined, last_joined, more_joined}
use Rattle.tb_tree.specs.Types.{IsType, IsTypeParams, IsTypeMembers, IsShape, shape}
use Rattle.tb_tree.specs.Exprs.{kind_of}
use Rattle.tb_tree.specs.Items as grammar
use Rattle.tb_tree.specs.Items.{IsSpec, IsSpecs, IsFrom, IsImport, IsExportList, IsBase, IsBases, IsInterface, IsAlias, is_member_name, identifier}
use Rattle.tb_tree.specs.Surfaces as surfaces
use Rattle.tb_tree.specs.Surfaces.{IsSignature, IsDeclaredMember, IsDeclaredMembers, IsDeclared, IsDeclItem, is_origin, is_spec, kept, kept_list}
use Rattle.tb_tree.specs.Bare.{bare_spec, bare_specifier, bare_origin, bare_import, bare_export_list, bare_base, bare_interface, bare_alias, bare_declared_member, bare_declared, bare_surface_item, bare_member, bare_type_param}
use Rattle.tb_tree.proofs.Ends.{ap_both}
use Rattle.tb_layout.specs.Pieces.{Piece, mark, word, space}
use Rattle.tb_layout.specs.Pieces as pieces
use Rattle.tb_layout.specs.Js.{in_parens, object_pieces, static_pieces, kind_pieces, exported_pieces}
use Rattle.tb_layout.specs.Quoted.{quoted, quoted_specifier, quoted_origin, quoted_import, quoted_export_list, quoted_base, quoted_interface, quoted_alias, quoted_declared_member, quoted_declared, quoted_surface_item, quoted_member, quoted_type_param}
use Rattle.tb_layout.specs.Shown.{string_pieces, optional_pieces, read_only_pieces, colon_pieces}
use Rattle.tb_layout.specs.Dts.{typed_pieces, typed_spec_pieces, lines_pieces, declare_pieces, last_line}
use Rattle.tb_layout.proofs.Values.{quoted_twice}
use Rattle.tb_emit_law.proofs.Symbols.{bare_sym, symbols_in}
use Rattle.tb_emit_law.proofs.Back.{Back, back_by, wrapped}
use Rattle.tb_emit_law.proofs.Splits.{split, split_none, split_mark, split_lex, last_mark, last_lex}
use Rattle.tb_emit_law.proofs.Flat.{one, ◌⊕◌, alike}
use Rattle.tb_emit_law.proofs.DeclPlain.{plain_type, plain_param, plain_member, each_plain}
use Rattle.tb_emit_law.proofs.DeclSteps.{Under, split_optional, split_read_only, closed_pieces, lines_told}

-- ---- items with their strings in one spelling, and then without offsets

abbrev pub plain_specifier : Specifier → Specifier
plain_specifier of = bare_specifier (quoted_specifier of)

abbrev pub plain_import : Import → Import
plain_import of = bare_import (quoted_import of)

abbrev pub plain_export_list : ExportList → ExportList
plain_export_list of = bare_export_list (quoted_export_list of)

abbrev pub plain_base : Base → Base
plain_base of = bare_base (quoted_base of)

abbrev pub plain_interface : Interface → Interface
plain_interface of = bare_interface (quoted_interface of)

abbrev pub plain_alias : Alias → Alias
plain_alias of = bare_alias (quoted_alias of)

abbrev pub plain_declared_member : DeclaredMember → DeclaredMember
plain_declared_member of = bare_declared_member (quoted_declared_member of)

abbrev pub plain_declared : Declared → Declared
plain_declared of = bare_declared (quoted_declared of)

abbrev pub plain_item : SurfaceItem → SurfaceItem
plain_item of = bare_surface_item (quoted_surface_item of)

-- lists that are equal once both are done, done one after the other
pub twice_same : {A : Type 0} (f g : A → A) (xs ys : List A) → map (λ x. f (g x)) xs ≡ map (λ x. f (g x)) ys → map f (map g xs) ≡ map f (map g ys)
twice_same f g xs ys e = each_plain f g xs ∙ (e ∙ sym (each_plain f g ys))

-- ---- parts that may be left out

type_told : symbols_in (typed_pieces true) ≡ Lex (c.Word w.Type) (codes "type") 0 ∷ []
unfolding early_word middle_word late_word other_word last_word type_word named_word
type_told = refl

split_typed : (P : List Sym → Type 0) (typed : Bool) (zs : List Sym) → map bare_sym zs ≡ symbols_in (typed_pieces typed) → ((xs : List Sym) → IsWorded w.Type xs typed → P xs) → P zs
split_typed P true zs e f = last_lex P zs (e ∙ type_told) λ at. f (Lex (c.Word w.Type) (codes "type") at ∷ []) (worded (codes "type") at)
split_typed P false zs e f = split_none P zs e (f [] unworded)

static_told : symbols_in (static_pieces true) ≡ Lex (c.Word w.Static) (codes "static") 0 ∷ []
unfolding early_word middle_word late_word other_word last_word type_word named_word
static_told = refl

split_static : (P : List Sym → Type 0) (is_static : Bool) (zs : List Sym) → map bare_sym zs ≡ symbols_in (static_pieces is_static) → ((xs : List Sym) → IsWorded w.Static xs is_static → P xs) → P zs
split_static P true zs e f = last_lex P zs (e ∙ static_told) λ at. f (Lex (c.Word w.Static) (codes "static") at ∷ []) (worded (codes "static") at)
split_static P false zs e f = split_none P zs e (f [] unworded)

exported_told : symbols_in (exported_pieces true) ≡ Lex (c.Word w.Export) (codes "export") 0 ∷ []
unfolding early_word middle_word late_word other_word last_word type_word named_word
exported_told = refl

split_exported : (P : List Sym → Type 0) (exported : Bool) (zs : List Sym) → map bare_sym zs ≡ symbols_in (exported_pieces exported) → ((xs : List Sym) → IsWorded w.Export xs exported → P xs) → P zs
split_exported P true zs e f = last_lex P zs (e ∙ exported_told) λ at. f (Lex (c.Word w.Export) (codes "export") at ∷ []) (worded (codes "export") at)
split_exported P false zs e f = split_none P zs e (f [] unworded)

abbrev pub ambient_pieces : Bool → List Piece
ambient_pieces true = declare_pieces
ambient_pieces false = []

ambient_told : symbols_in (ambient_pieces true) ≡ Lex (c.Word w.Declare) (codes "declare") 0 ∷ []
unfolding early_word middle_word late_word other_word last_word type_word named_word
ambient_told = refl

split_ambient : (P : List Sym → Type 0) (ambient : Bool) (zs : List Sym) → map bare_sym zs ≡ symbols_in (ambient_pieces ambient) → ((xs : List Sym) → IsWorded w.Declare xs ambient → P xs) → P zs
split_ambient P true zs e f = last_lex P zs (e ∙ ambient_told) λ at. f (Lex (c.Word w.Declare) (codes "declare") at ∷ []) (worded (codes "declare") at)
split_ambient P false zs e f = split_none P zs e (f [] unworded)

-- ---- imports and export lists, which have no depth

abbrev pub ReadsSpec : (Word → Word → Bool) → Bool → List Sym → Spec → ℕ → Type 0
ReadsSpec local typed xs of n = IsSpec local typed xs of

abbrev pub ReadsListed : (Word → Word → Bool) → Bool → List Sym → List Spec → ℕ → Type 0
ReadsListed local typed xs of n = IsListed (IsSpec local typed) xs of

abbrev pub ReadsSpecs : (Word → Word → Bool) → Bool → List Sym → List Spec → ℕ → Type 0
ReadsSpecs local typed xs of n = IsSpecs local typed xs of

abbrev pub ReadsFrom : List Sym → Specifier → ℕ → Type 0
ReadsFrom xs of n = IsFrom xs of

abbrev pub ReadsImport : List Sym → Import → ℕ → Type 0
ReadsImport xs of n = IsImport xs of

abbrev pub ReadsExportList : List Sym → ExportList → ℕ → Type 0
ReadsExportList xs of n = IsExportList xs of

abbrev pub a_spec : ℕ → Bool → List ℕ → ℕ → Option (List ℕ × ℕ) → Spec
a_spec at typed name name_at None = record { at = at; type_only = typed; name = identifier name name_at; renamed = None }
a_spec at typed name name_at (Some other) = record { at = at; type_only = typed; name = identifier name name_at; renamed = Some (identifier other.0 other.1) }

pub plain_spec_step : (local : Word → Word → Bool) (typed : Bool) (at : ℕ) (spelled : List ℕ) → local (word_of spelled) (word_of spelled) ≡ true
    → Back (ReadsSpec local typed) bare_spec (typed_spec_pieces (a_spec at false spelled at None)) (a_spec at false spelled at None) 0
plain_spec_step local typed at spelled h = back_by λ P into zs told.
    last_lex P zs told λ here.
    into _ (record { tree = a_spec here false spelled here None; own = 0; reads = grammar.plain_spec {kind = word_of spelled} spelled here h; below = omega arith; same = refl })

renamed_spec_told : (at other_at : ℕ) (spelled other : List ℕ)
    → symbols_in (typed_spec_pieces (a_spec at false spelled at (Some (other, other_at)))) ≡ Lex (c.Word (word_of spelled)) spelled 0 ∷ Lex (c.Word w.As) (codes "as") 0 ∷ Lex (c.Word (word_of other)) other 0 ∷ []
unfolding early_word middle_word late_word other_word last_word type_word named_word
renamed_spec_told at other_at spelled other = refl

pub renamed_spec_step : (local : Word → Word → Bool) (typed : Bool) (at other_at : ℕ) (spelled other : List ℕ) → local (word_of spelled) (word_of other) ≡ true
    → Back (ReadsSpec local typed) bare_spec (typed_spec_pieces (a_spec at false spelled at (Some (other, other_at)))) (a_spec at false spelled at (Some (other, other_at))) 0
renamed_spec_step local typed at other_at spelled other h = back_by λ P into zs told.
    split_lex P zs (told ∙ renamed_spec_told at other_at spelled other) λ a more more_told.
    split_lex (λ vs. P (Lex (c.Word (word_of spelled)) spelled a ∷ vs)) more more_told λ b last last_told.
    last_lex (λ vs. P (Lex (c.Word (word_of spelled)) spelled a ∷ Lex (c.Word w.As) (codes "as") b ∷ vs)) last last_told λ j.
    into _ (record {
      tree = a_spec a false spelled a (Some (other, j));
      own = 0;
      reads = grammar.renamed_spec {kind = word_of spelled} {other = word_of other} spelled a (codes "as") b other j h;
      below = omega arith;
      same = refl;
    })

type_spec_told : (at name_at : ℕ) (spelled : List ℕ)
    → symbols_in (typed_spec_pieces (a_spec at true spelled name_at None)) ≡ Lex (c.Word w.Type) (codes "type") 0 ∷ Lex (c.Word (word_of spelled)) spelled 0 ∷ []
unfolding early_word middle_word late_word other_word last_word type_word named_word
type_spec_told at name_at spelled = refl

pub type_spec_step : (local : Word → Word → Bool) (at name_at : ℕ) (spelled : List ℕ) → grammar.is_as (word_of spelled) ≡ false → local (word_of spelled) (word_of spelled) ≡ true
    → Back (ReadsSpec local false) bare_spec (typed_spec_pieces (a_spec at true spelled name_at None)) (a_spec at true spelled name_at None) 0
type_spec_step local at name_at spelled n h = back_by λ P into zs told.
    split_lex P zs (told ∙ type_spec_told at name_at spelled) λ a more more_told.
    last_lex (λ vs. P (Lex (c.Word w.Type) (codes "type") a ∷ vs)) more more_told λ b.
    into _ (record {
      tree = a_spec a true spelled b None;
      own = 0;
      reads = grammar.type_spec {kind = word_of spelled} (codes "type") a spelled b refl n h;
      below = omega arith;
      same = refl;
    })

renamed_type_spec_told : (at name_at other_at : ℕ) (spelled other : List ℕ)
    → symbols_in (typed_spec_pieces (a_spec at true spelled name_at (Some (other, other_at))))
    ≡ Lex (c.Word w.Type) (codes "type") 0 ∷ Lex (c.Word (word_of spelled)) spelled 0 ∷ Lex (c.Word w.As) (codes "as") 0 ∷ Lex (c.Word (word_of other)) other 0 ∷ []
unfolding early_word middle_word late_word other_word last_word type_word named_word
renamed_type_spec_told at name_at other_at spelled other = refl

pub renamed_type_spec_step : (local : Word → Word → Bool) (at name_at other_at : ℕ) (spelled other : List ℕ) → grammar.is_as (word_of spelled) ≡ false → local (word_of spelled) (word_of other) ≡ true
    → Back (ReadsSpec local false) bare_spec (typed_spec_pieces (a_spec at true spelled name_at (Some (other, other_at)))) (a_spec at true spelled name_at (Some (other, other_at))) 0
renamed_type_spec_step local at name_at other_at spelled other n h = back_by λ P into zs told.
    split_lex P zs (told ∙ renamed_type_spec_told at name_at other_at spelled other) λ a more more_told.
    split_lex (λ vs. P (Lex (c.Word w.Type) (codes "type") a ∷ vs)) more more_told λ b rest rest_told.
    split_lex (λ vs. P (Lex (c.Word w.Type) (codes "type") a ∷ Lex (c.Word (word_of spelled)) spelled b ∷ vs)) rest rest_told λ i last last_told.
    last_lex (λ vs. P (Lex (c.Word w.Type) (codes "type") a ∷ Lex (c.Word (word_of spelled)) spelled b ∷ Lex (c.Word w.As) (codes "as") i ∷ vs)) last last_told λ j.
    into _ (record {
      tree = a_spec a true spelled b (Some (other, j));
      own = 0;
      reads = grammar.renamed_type_spec {kind = word_of spelled} {other = word_of other} (codes "type") a spelled b (codes "as") i other j refl n h;
      below = omega arith;
      same = refl;
    })

pub no_specs_step : (local : Word → Word → Bool) (typed : Bool) → Back (ReadsListed local typed) (map bare_spec) [] [] 0
no_specs_step local typed = back_by λ P into zs told. split_none P zs told (into _ (record { tree = []; own = 0; reads = none_listed; below = omega arith; same = refl }))

pub last_spec_step : {p : List Piece} {of : Spec} (local : Word → Word → Bool) (typed : Bool) → Back (ReadsSpec local typed) bare_spec p of 0 → Back (ReadsListed local typed) (map bare_spec) p (of ∷ []) 0
last_spec_step local typed x = wrapped (λ of. of ∷ []) (λ of. refl) (λ xs of n r. last_listed r) x

comma_told : (p q : List Piece) → symbols_in (p ++ mark m.Comma ++ space ++ q) ≡ symbols_in p ++ Mark m.Comma 0 ∷ symbols_in q
comma_told p q = alike (one p ⊕ one (mark m.Comma) ⊕ one space ⊕ one q) (one (symbols_in p) ⊕ one (Mark m.Comma 0 ∷ symbols_in q)) refl

pub more_specs_step : {p q : List Piece} {of : Spec} {rest : List Spec} (local : Word → Word → Bool) (typed : Bool)
    → Back (ReadsSpec local typed) bare_spec p of 0 → Back (ReadsListed local typed) (map bare_spec) q rest 0
    → Back (ReadsListed local typed) (map bare_spec) (p ++ mark m.Comma ++ space ++ q) (of ∷ rest) 0
more_specs_step {p = p} {q = q} local typed x y = back_by λ P into zs told.
    split P {es = symbols_in p} {fs = Mark m.Comma 0 ∷ symbols_in q} zs (told ∙ comma_told p q) λ xs back x_told back_told.
    split_mark (λ vs. P (xs ++ vs)) back back_told λ here ys y_told.
    let xr = x.back xs x_told in
    let yr = y.back ys y_told in
    into _ (record { tree = xr.tree ∷ yr.tree; own = 0; reads = more_listed here xr.reads yr.reads; below = omega arith; same = ap_both (λ v vs. v ∷ vs) xr.same yr.same })

specs_told : (all : List (List Piece)) → symbols_in (object_pieces all) ≡ Mark m.OpenBrace 0 ∷ symbols_in (pieces.listed all) ++ Mark m.CloseBrace 0 ∷ []
specs_told [] = refl
specs_told (of ∷ rest) =
    alike (one (mark m.OpenBrace) ⊕ one space ⊕ one (pieces.listed (of ∷ rest)) ⊕ one space ⊕ one (mark m.CloseBrace))
    (one (Mark m.OpenBrace 0 ∷ symbols_in (pieces.listed (of ∷ rest))) ⊕ one (Mark m.CloseBrace 0 ∷ [])) refl

pub specs_step : {of : List Spec} (local : Word → Word → Bool) (typed : Bool) (all : List (List Piece)) → Back (ReadsListed local typed) (map bare_spec) (pieces.listed all) of 0
    → Back (ReadsSpecs local typed) (map bare_spec) (object_pieces all) of 0
specs_step local typed all x = back_by λ P into zs told.
    split P {es = Mark m.OpenBrace 0 ∷ symbols_in (pieces.listed all)} {fs = Mark m.CloseBrace 0 ∷ []} zs (told ∙ specs_told all) λ front back front_told back_told.
    split_mark (λ vs. P (vs ++ back)) front front_told λ a xs x_told.
    last_mark (λ vs. P (Mark m.OpenBrace a ∷ xs ++ vs)) back back_told λ b.
    let xr = x.back xs x_told in
    into _ (record { tree = xr.tree; own = 0; reads = grammar.specs a b xr.reads; below = omega arith; same = xr.same })

from_told : (spelled : List ℕ) → symbols_in (space ++ word (codes "from") ++ space ++ string_pieces spelled) ≡ Lex (c.Word w.From) (codes "from") 0 ∷ Lex c.String (quoted spelled) 0 ∷ []
unfolding early_word middle_word late_word other_word last_word type_word named_word
from_told spelled = refl

specifier_twice : (a b : ℕ) (spelled : List ℕ) → plain_specifier (record { at = a; spelled = quoted spelled }) ≡ plain_specifier (record { at = b; spelled = spelled })
specifier_twice a b spelled = ap {B = Specifier} (λ v. record { at = 0; spelled = v }) (quoted_twice spelled)

pub from_step : (at : ℕ) (spelled : List ℕ) → Back ReadsFrom plain_specifier (space ++ word (codes "from") ++ space ++ string_pieces spelled) (record { at = at; spelled = spelled }) 0
from_step at spelled = back_by λ P into zs told.
    split_lex P zs (told ∙ from_told spelled) λ a more more_told.
    last_lex (λ vs. P (Lex (c.Word w.From) (codes "from") a ∷ vs)) more more_told λ b.
    into _ (record {
      tree = record { at = b; spelled = quoted spelled };
      own = 0;
      reads = grammar.from (codes "from") a (quoted spelled) b;
      below = omega arith;
      same = specifier_twice b at spelled;
    })

import_list_told : (r p q : List Piece)
    → symbols_in (word (codes "import") ++ space ++ r ++ p ++ q ++ mark m.Semicolon) ≡ Lex (c.Word w.Import) (codes "import") 0 ∷ symbols_in r ++ symbols_in p ++ symbols_in q ++ Mark m.Semicolon 0 ∷ []
unfolding early_word middle_word late_word other_word last_word type_word named_word
import_list_told r p q =
    alike (one (word (codes "import")) ⊕ one space ⊕ one r ⊕ one p ⊕ one q ⊕ one (mark m.Semicolon))
    (one (Lex (c.Word w.Import) (codes "import") 0 ∷ symbols_in r) ⊕ one (symbols_in p) ⊕ one (symbols_in q) ⊕ one (Mark m.Semicolon 0 ∷ [])) refl

pub import_list_step : {p q : List Piece} {of : List Spec} {origin : Specifier} (at : ℕ) (typed : Bool)
    → Back (ReadsSpecs grammar.last_is_local typed) (map bare_spec) p of 0 → Back ReadsFrom plain_specifier q origin 0
    → Back ReadsImport plain_import (word (codes "import") ++ space ++ typed_pieces typed ++ p ++ q ++ mark m.Semicolon) (import_form.List at typed of origin) 0
import_list_step {p = p} {q = q} at typed x y = back_by λ P into zs told.
    split P {es = Lex (c.Word w.Import) (codes "import") 0 ∷ symbols_in (typed_pieces typed) ++ symbols_in p ++ symbols_in q} {fs = Mark m.Semicolon 0 ∷ []} zs (told ∙ import_list_told (typed_pieces typed) p q) λ front last front_told last_told.
    split (λ vs. P (vs ++ last)) {es = Lex (c.Word w.Import) (codes "import") 0 ∷ symbols_in (typed_pieces typed) ++ symbols_in p} {fs = symbols_in q} front front_told λ named ys named_told y_told.
    split (λ vs. P (vs ++ ys ++ last)) {es = Lex (c.Word w.Import) (codes "import") 0 ∷ symbols_in (typed_pieces typed)} {fs = symbols_in p} named named_told λ head xs head_told x_told.
    split_lex (λ vs. P (vs ++ xs ++ ys ++ last)) head head_told λ a type_syms type_syms_told.
    split_typed (λ vs. P (Lex (c.Word w.Import) (codes "import") a ∷ vs ++ xs ++ ys ++ last)) typed type_syms type_syms_told λ us is_type.
    last_mark (λ vs. P (Lex (c.Word w.Import) (codes "import") a ∷ us ++ xs ++ ys ++ vs)) last last_told λ b.
    let xr = x.back xs x_told in
    let yr = y.back ys y_told in
    into _ (record {
      tree = import_form.List a typed xr.tree yr.tree;
      own = 0;
      reads = grammar.import_list (codes "import") a b is_type xr.reads yr.reads;
      below = omega arith;
      same = ap_both (λ v u. import_form.List 0 typed v u) xr.same yr.same;
    })

import_bare_told : (spelled : List ℕ) → symbols_in (word (codes "import") ++ space ++ string_pieces spelled ++ mark m.Semicolon) ≡ Lex (c.Word w.Import) (codes "import") 0 ∷ Lex c.String (quoted spelled) 0 ∷ Mark m.Semicolon 0 ∷ []
unfolding early_word middle_word late_word other_word last_word type_word named_word
import_bare_told spelled = refl

pub import_bare_step : (at from_at : ℕ) (spelled : List ℕ)
    → Back ReadsImport plain_import (word (codes "import") ++ space ++ string_pieces spelled ++ mark m.Semicolon) (import_form.Bare at (record { at = from_at; spelled = spelled })) 0
import_bare_step at from_at spelled = back_by λ P into zs told.
    split_lex P zs (told ∙ import_bare_told spelled) λ a more more_told.
    split_lex (λ vs. P (Lex (c.Word w.Import) (codes "import") a ∷ vs)) more more_told λ b last last_told.
    last_mark (λ vs. P (Lex (c.Word w.Import) (codes "import") a ∷ Lex c.String (quoted spelled) b ∷ vs)) last last_told λ j.
    into _ (record {
      tree = import_form.Bare a (record { at = b; spelled = quoted spelled });
      own = 0;
      reads = grammar.import_bare (codes "import") a (quoted spelled) b j;
      below = omega arith;
      same = ap (λ v. import_form.Bare 0 v) (specifier_twice b from_at spelled);
    })

export_list_told : (r p : List Piece)
    → symbols_in (word (codes "export") ++ space ++ r ++ p ++ [] ++ mark m.Semicolon) ≡ Lex (c.Word w.Export) (codes "export") 0 ∷ symbols_in r ++ symbols_in p ++ Mark m.Semicolon 0 ∷ []
unfolding early_word middle_word late_word other_word last_word type_word named_word
export_list_told r p =
    alike (one (word (codes "export")) ⊕ one space ⊕ one r ⊕ one p ⊕ one [] ⊕ one (mark m.Semicolon))
    (one (Lex (c.Word w.Export) (codes "export") 0 ∷ symbols_in r) ⊕ one (symbols_in p) ⊕ one (Mark m.Semicolon 0 ∷ [])) refl

pub export_list_step : {p : List Piece} {of : List Spec} (at : ℕ) (typed : Bool) → Back (ReadsSpecs grammar.first_is_local typed) (map bare_spec) p of 0
    → Back ReadsExportList plain_export_list (word (codes "export") ++ space ++ typed_pieces typed ++ p ++ [] ++ mark m.Semicolon) (record { at = at; type_only = typed; specs = of; from = None }) 0
export_list_step {p = p} at typed x = back_by λ P into zs told.
    split P {es = Lex (c.Word w.Export) (codes "export") 0 ∷ symbols_in (typed_pieces typed) ++ symbols_in p} {fs = Mark m.Semicolon 0 ∷ []} zs (told ∙ export_list_told (typed_pieces typed) p) λ front last front_told last_told.
    split (λ vs. P (vs ++ last)) {es = Lex (c.Word w.Export) (codes "export") 0 ∷ symbols_in (typed_pieces typed)} {fs = symbols_in p} front front_told λ head xs head_told x_told.
    split_lex (λ vs. P (vs ++ xs ++ last)) head head_told λ a type_syms type_syms_told.
    split_typed (λ vs. P (Lex (c.Word w.Export) (codes "export") a ∷ vs ++ xs ++ last)) typed type_syms type_syms_told λ us is_type.
    last_mark (λ vs. P (Lex (c.Word w.Export) (codes "export") a ∷ us ++ xs ++ vs)) last last_told λ b.
    let xr = x.back xs x_told in
    into _ (record {
      tree = record { at = a; type_only = typed; specs = xr.tree; from = None };
      own = 0;
      reads = grammar.export_list (codes "export") a b is_type xr.reads;
      below = omega arith;
      same = ap {B = ExportList} (λ v. record { at = 0; type_only = typed; specs = v; from = None }) xr.same;
    })

export_from_told : (r p q : List Piece)
    → symbols_in (word (codes "export") ++ space ++ r ++ p ++ q ++ mark m.Semicolon) ≡ Lex (c.Word w.Export) (codes "export") 0 ∷ symbols_in r ++ symbols_in p ++ symbols_in q ++ Mark m.Semicolon 0 ∷ []
unfolding early_word middle_word late_word other_word last_word type_word named_word
export_from_told r p q =
    alike (one (word (codes "export")) ⊕ one space ⊕ one r ⊕ one p ⊕ one q ⊕ one (mark m.Semicolon))
    (one (Lex (c.Word w.Export) (codes "export") 0 ∷ symbols_in r) ⊕ one (symbols_in p) ⊕ one (symbols_in q) ⊕ one (Mark m.Semicolon 0 ∷ [])) refl

pub export_from_step : {p q : List Piece} {of : List Spec} {origin : Specifier} (at : ℕ) (typed : Bool)
    → Back (ReadsSpecs grammar.none_is_local typed) (map bare_spec) p of 0 → Back ReadsFrom plain_specifier q origin 0
    → Back ReadsExportList plain_export_list (word (codes "export") ++ space ++ typed_pieces typed ++ p ++ q ++ mark m.Semicolon) (record { at = at; type_only = typed; specs = of; from = Some origin }) 0
export_from_step {p = p} {q = q} at typed x y = back_by λ P into zs told.
    split P {es = Lex (c.Word w.Export) (codes "export") 0 ∷ symbols_in (typed_pieces typed) ++ symbols_in p ++ symbols_in q} {fs = Mark m.Semicolon 0 ∷ []} zs (told ∙ export_from_told (typed_pieces typed) p q) λ front last front_told last_told.
    split (λ vs. P (vs ++ last)) {es = Lex (c.Word w.Export) (codes "export") 0 ∷ symbols_in (typed_pieces typed) ++ symbols_in p} {fs = symbols_in q} front front_told λ named ys named_told y_told.
    split (λ vs. P (vs ++ ys ++ last)) {es = Lex (c.Word w.Export) (codes "export") 0 ∷ symbols_in (typed_pieces typed)} {fs = symbols_in p} named named_told λ head xs head_told x_told.
    split_lex (λ vs. P (vs ++ xs ++ ys ++ last)) head head_told λ a type_syms type_syms_told.
    split_typed (λ vs. P (Lex (c.Word w.Export) (codes "export") a ∷ vs ++ xs ++ ys ++ last)) typed type_syms type_syms_told λ us is_type.
    last_mark (λ vs. P (Lex (c.Word w.Export) (codes "export") a ∷ us ++ xs ++ ys ++ vs)) last last_told λ b.
    let xr = x.back xs x_told in
    let yr = y.back ys y_told in
    into _ (record {
      tree = record { at = a; type_only = typed; specs = xr.tree; from = Some yr.tree };
      own = 0;
      reads = grammar.export_from (codes "export") a b is_type xr.reads yr.reads;
      below = omega arith;
      same = ap_both {C = ExportList} (λ v u. record { at = 0; type_only = typed; specs = v; from = Some u }) xr.same yr.same;
    })

-- ---- parts of declarations

pub shape_step : {p : List Piece} {of : TypeExpr} {d : ℕ} → Back (Under IsType max_depth) plain_type p of d → Back IsShape plain_type (colon_pieces p) of d
shape_step {p = p} x = back_by λ P into zs told.
    split_mark P zs (told ∙ colon_told p) λ a xs x_told.
    let r = x.back xs x_told in
    let u = r.reads in
    into _ (record { tree = r.tree; own = r.own; reads = shape a u.derives u.within; below = r.below; same = r.same })
  where
    colon_told : (p : List Piece) → symbols_in (colon_pieces p) ≡ Mark m.Colon 0 ∷ symbols_in p
    colon_told p = alike (one (mark m.Colon) ⊕ one space ⊕ one p) (one (Mark m.Colon 0 ∷ symbols_in p)) refl

pub signature_step : {p : List Piece} {params : List TypeParam} {d : ℕ} → Back (Under IsTypeParams max_depth) (map plain_param) p params d → Back IsSignature (map plain_param) (in_parens p) params d
signature_step {p = p} x = back_by λ P into zs told.
    split P {es = Mark m.OpenParen 0 ∷ symbols_in p} {fs = Mark m.CloseParen 0 ∷ []} zs (told ∙ parens_told p) λ front back front_told back_told.
    split_mark (λ vs. P (vs ++ back)) front front_told λ a xs x_told.
    last_mark (λ vs. P (Mark m.OpenParen a ∷ xs ++ vs)) back back_told λ b.
    let r = x.back xs x_told in
    let u = r.reads in
    into _ (record { tree = r.tree; own = r.own; reads = surfaces.signature a b u.derives u.within; below = r.below; same = r.same })
  where
    parens_told : (p : List Piece) → symbols_in (in_parens p) ≡ Mark m.OpenParen 0 ∷ symbols_in p ++ Mark m.CloseParen 0 ∷ []
    parens_told p = alike (one (mark m.OpenParen) ⊕ one p ⊕ one (mark m.CloseParen)) (one (Mark m.OpenParen 0 ∷ symbols_in p) ⊕ one (Mark m.CloseParen 0 ∷ [])) refl

-- ---- bases

abbrev pub ReadsBase : List Sym → Base → ℕ → Type 0
ReadsBase xs of n = IsBase xs of

abbrev pub ReadsJoined : List Sym → List Base → ℕ → Type 0
ReadsJoined xs of n = IsJoined IsBase xs of

abbrev pub ReadsBases : Word → List Sym → List Base → ℕ → Type 0
ReadsBases kind xs of n = IsBases kind xs of

pub base_step : (at : ℕ) (name : List ℕ) → is_name (word_of name) ≡ true → Back ReadsBase plain_base (word name ++ []) (record { at = at; name = name; arguments = [] }) 0
base_step at name h = back_by λ P into zs told.
    last_lex P zs told λ here.
    into _ (record { tree = record { at = here; name = name; arguments = [] }; own = 0; reads = grammar.base {kind = word_of name} name here h; below = omega arith; same = refl })

pub last_base_step : {p : List Piece} {of : Base} → Back ReadsBase plain_base p of 0 → Back ReadsJoined (map plain_base) p (of ∷ []) 0
last_base_step x = wrapped (λ of. of ∷ []) (λ of. refl) (λ xs of n r. last_joined r) x

pub more_bases_step : {p q : List Piece} {of : Base} {rest : List Base} → Back ReadsBase plain_base p of 0 → Back ReadsJoined (map plain_base) q rest 0
    → Back ReadsJoined (map plain_base) (p ++ mark m.Comma ++ space ++ q) (of ∷ rest) 0
more_bases_step {p = p} {q = q} x y = back_by λ P into zs told.
    split P {es = symbols_in p} {fs = Mark m.Comma 0 ∷ symbols_in q} zs (told ∙ comma_told p q) λ xs back x_told back_told.
    split_mark (λ vs. P (xs ++ vs)) back back_told λ here ys y_told.
    let xr = x.back xs x_told in
    let yr = y.back ys y_told in
    into _ (record { tree = xr.tree ∷ yr.tree; own = 0; reads = more_joined here xr.reads yr.reads; below = omega arith; same = ap_both (λ v vs. v ∷ vs) xr.same yr.same })

pub no_bases_step : (kind : Word) → Back (ReadsBases kind) (map plain_base) [] [] 0
no_bases_step kind = back_by λ P into zs told. split_none P zs told (into _ (record { tree = []; own = 0; reads = grammar.no_bases; below = omega arith; same = refl }))

pub some_bases_step : {p : List Piece} {of : List Base} (keyword : List ℕ) → Back ReadsJoined (map plain_base) p of 0
    → Back (ReadsBases (word_of keyword)) (map plain_base) (space ++ word keyword ++ space ++ p) of 0
some_bases_step {p = p} keyword x = back_by λ P into zs told.
    split_lex P zs (told ∙ bases_told keyword p) λ a xs x_told.
    let xr = x.back xs x_told in
    into _ (record { tree = xr.tree; own = 0; reads = grammar.some_bases keyword a xr.reads; below = omega arith; same = xr.same })
  where
    bases_told : (keyword : List ℕ) (p : List Piece) → symbols_in (space ++ word keyword ++ space ++ p) ≡ Lex (c.Word (word_of keyword)) keyword 0 ∷ symbols_in p
    bases_told keyword p = alike (one space ⊕ one (word keyword) ⊕ one space ⊕ one p) (one (Lex (c.Word (word_of keyword)) keyword 0 ∷ symbols_in p)) refl

-- ---- interfaces and aliases

interface_told : (name : List ℕ) (p : List Piece) (all : List (List Piece))
    → symbols_in (word (codes "interface") ++ space ++ word name ++ [] ++ p ++ lines_pieces all)
    ≡ Lex (c.Word w.Interface) (codes "interface") 0 ∷ Lex (c.Word (word_of name)) name 0 ∷ symbols_in p ++ Mark m.OpenBrace 0 ∷ symbols_in (flat_map closed_pieces all) ++ Mark m.CloseBrace 0 ∷ []
unfolding early_word middle_word late_word other_word last_word type_word named_word
interface_told name p all =
    let head = Lex (c.Word w.Interface) (codes "interface") 0 ∷ Lex (c.Word (word_of name)) name 0 ∷ symbols_in p in
    let inside = Mark m.OpenBrace 0 ∷ symbols_in (flat_map closed_pieces all) in
    alike (one (word (codes "interface")) ⊕ one space ⊕ one (word name) ⊕ one [] ⊕ one p ⊕ one (lines_pieces all))
    (one (Lex (c.Word w.Interface) (codes "interface") 0 ∷ Lex (c.Word (word_of name)) name 0 ∷ symbols_in p) ⊕ one (symbols_in (lines_pieces all))) refl
    ∙ (ap (λ v. head ++ v) (lines_told all) ∙ sym (append_assoc head inside (Mark m.CloseBrace 0 ∷ [])))

pub interface_step : {p : List Piece} {bases : List Base} {members : List TypeMember} {d : ℕ} (at : ℕ) (name : List ℕ) (all : List (List Piece)) → is_type_name (word_of name) ≡ true
    → Back (ReadsBases w.Extends) (map plain_base) p bases 0 → Back (Under IsTypeMembers max_depth) (map plain_member) (flat_map closed_pieces all) members d
    → Back IsInterface plain_interface (word (codes "interface") ++ space ++ word name ++ [] ++ p ++ lines_pieces all)
    (record { at = at; name = name; variables = []; extends = bases; members = members }) d
interface_step {p = p} {bases = bases} {members = members} at name all h x y = back_by λ P into zs told.
    split P {es = Lex (c.Word w.Interface) (codes "interface") 0 ∷ Lex (c.Word (word_of name)) name 0 ∷ symbols_in p ++ Mark m.OpenBrace 0 ∷ symbols_in (flat_map closed_pieces all)} {fs = Mark m.CloseBrace 0 ∷ []} zs
    (told ∙ interface_told name p all) λ front last front_told last_told.
    split (λ vs. P (vs ++ last)) {es = Lex (c.Word w.Interface) (codes "interface") 0 ∷ Lex (c.Word (word_of name)) name 0 ∷ symbols_in p} {fs = Mark m.OpenBrace 0 ∷ symbols_in (flat_map closed_pieces all)} front front_told
    λ head inside head_told inside_told.
    split_lex (λ vs. P (vs ++ inside ++ last)) head head_told λ a named named_told.
    split_lex (λ vs. P (Lex (c.Word w.Interface) (codes "interface") a ∷ vs ++ inside ++ last)) named named_told λ b xs x_told.
    split_mark (λ vs. P (Lex (c.Word w.Interface) (codes "interface") a ∷ Lex (c.Word (word_of name)) name b ∷ xs ++ vs ++ last)) inside inside_told λ i ys y_told.
    last_mark (λ vs. P (Lex (c.Word w.Interface) (codes "interface") a ∷ Lex (c.Word (word_of name)) name b ∷ xs ++ Mark m.OpenBrace i ∷ ys ++ vs)) last last_told λ j.
    let xr = x.back xs x_told in
    let yr = y.back ys y_told in
    let yu = yr.reads in
    into _ (record {
      tree = record { at = b; name = name; variables = []; extends = xr.tree; members = yr.tree };
      own = yr.own;
      reads = grammar.interface {kind = word_of name} (codes "interface") a name b i j h xr.reads yu.derives yu.within;
      below = yr.below;
      same = ap_both {C = Interface} (λ v u. record { at = 0; name = name; variables = []; extends = v; members = u })
          (twice_same bare_base quoted_base xr.tree bases xr.same) (twice_same bare_member quoted_member yr.tree members yr.same);
    })

alias_told : (name : List ℕ) (p : List Piece)
    → symbols_in (word (codes "type") ++ space ++ word name ++ [] ++ space ++ mark m.Assign ++ space ++ p ++ mark m.Semicolon)
    ≡ Lex (c.Word w.Type) (codes "type") 0 ∷ Lex (c.Word (word_of name)) name 0 ∷ Mark m.Assign 0 ∷ symbols_in p ++ Mark m.Semicolon 0 ∷ []
unfolding early_word middle_word late_word other_word last_word type_word named_word
alias_told name p =
    alike (one (word (codes "type")) ⊕ one space ⊕ one (word name) ⊕ one [] ⊕ one space ⊕ one (mark m.Assign) ⊕ one space ⊕ one p ⊕ one (mark m.Semicolon))
    (one (Lex (c.Word w.Type) (codes "type") 0 ∷ Lex (c.Word (word_of name)) name 0 ∷ Mark m.Assign 0 ∷ symbols_in p) ⊕ one (Mark m.Semicolon 0 ∷ [])) refl

pub alias_step : {p : List Piece} {of : TypeExpr} {d : ℕ} (at : ℕ) (name : List ℕ) → is_type_name (word_of name) ≡ true → Back (Under IsType max_depth) plain_type p of d
    → Back IsAlias plain_alias (word (codes "type") ++ space ++ word name ++ [] ++ space ++ mark m.Assign ++ space ++ p ++ mark m.Semicolon) (record { at = at; name = name; variables = []; shape = of }) d
alias_step {p = p} at name h x = back_by λ P into zs told.
    split P {es = Lex (c.Word w.Type) (codes "type") 0 ∷ Lex (c.Word (word_of name)) name 0 ∷ Mark m.Assign 0 ∷ symbols_in p} {fs = Mark m.Semicolon 0 ∷ []} zs (told ∙ alias_told name p) λ front last front_told last_told.
    split_lex (λ vs. P (vs ++ last)) front front_told λ a named named_told.
    split_lex (λ vs. P (Lex (c.Word w.Type) (codes "type") a ∷ vs ++ last)) named named_told λ b assigned assigned_told.
    split_mark (λ vs. P (Lex (c.Word w.Type) (codes "type") a ∷ Lex (c.Word (word_of name)) name b ∷ vs ++ last)) assigned assigned_told λ i xs x_told.
    last_mark (λ vs. P (Lex (c.Word w.Type) (codes "type") a ∷ Lex (c.Word (word_of name)) name b ∷ Mark m.Assign i ∷ xs ++ vs)) last last_told λ j.
    let r = x.back xs x_told in
    let u = r.reads in
    into _ (record {
      tree = record { at = b; name = name; variables = []; shape = r.tree };
      own = r.own;
      reads = grammar.alias {kind = word_of name} (codes "type") a name b i j h u.derives u.within;
      below = r.below;
      same = ap {B = Alias} (λ v. record { at = 0; name = name; variables = []; shape = v }) r.same;
    })

-- ---- members of classes, each with its `;`

field_told : (i j r q : List Piece) (name : List ℕ)
    → symbols_in (i ++ j ++ word name ++ r ++ q ++ mark m.Semicolon) ≡ symbols_in i ++ symbols_in j ++ Lex (c.Word (word_of name)) name 0 ∷ symbols_in r ++ symbols_in q ++ Mark m.Semicolon 0 ∷ []
field_told i j r q name =
    alike (one i ⊕ one j ⊕ one (word name) ⊕ one r ⊕ one q ⊕ one (mark m.Semicolon))
    (one (symbols_in i) ⊕ one (symbols_in j) ⊕ one (Lex (c.Word (word_of name)) name 0 ∷ symbols_in r) ⊕ one (symbols_in q) ⊕ one (Mark m.Semicolon 0 ∷ [])) refl

pub field_step : {q : List Piece} {of : TypeExpr} {d : ℕ} (at : ℕ) (is_static read_only : Bool) (name : List ℕ) (optional : Bool) → is_member_name (word_of name) ≡ true
    → Back IsShape plain_type q of d
    → Back (IsDeclaredMember false) plain_declared_member (static_pieces is_static ++ read_only_pieces read_only ++ word name ++ optional_pieces optional ++ q ++ mark m.Semicolon)
    (declared_member.Field at is_static read_only name optional of) d
field_step {q = q} at is_static read_only name optional h x = back_by λ P into zs told.
    split P {es = symbols_in (static_pieces is_static) ++ symbols_in (read_only_pieces read_only) ++ Lex (c.Word (word_of name)) name 0 ∷ symbols_in (optional_pieces optional) ++ symbols_in q} {fs = Mark m.Semicolon 0 ∷ []} zs
    (told ∙ field_told (static_pieces is_static) (read_only_pieces read_only) (optional_pieces optional) q name) λ front last front_told last_told.
    split (λ vs. P (vs ++ last)) {es = symbols_in (static_pieces is_static) ++ symbols_in (read_only_pieces read_only) ++ Lex (c.Word (word_of name)) name 0 ∷ symbols_in (optional_pieces optional)} {fs = symbols_in q} front front_told
    λ head us head_told x_told.
    split (λ vs. P (vs ++ us ++ last)) {es = symbols_in (static_pieces is_static) ++ symbols_in (read_only_pieces read_only)} {fs = Lex (c.Word (word_of name)) name 0 ∷ symbols_in (optional_pieces optional)} head head_told
    λ modifiers named modifiers_told named_told.
    split (λ vs. P (vs ++ named ++ us ++ last)) {es = symbols_in (static_pieces is_static)} {fs = symbols_in (read_only_pieces read_only)} modifiers modifiers_told λ static_syms read_only_syms static_told read_only_told.
    split_static (λ vs. P (vs ++ read_only_syms ++ named ++ us ++ last)) is_static static_syms static_told λ xs statics.
    split_read_only (λ vs. P (xs ++ vs ++ named ++ us ++ last)) read_only read_only_syms read_only_told λ ys readonly.
    split_lex (λ vs. P (xs ++ ys ++ vs ++ us ++ last)) named named_told λ a question_syms question_told.
    split_optional (λ vs. P (xs ++ ys ++ Lex (c.Word (word_of name)) name a ∷ vs ++ us ++ last)) optional question_syms question_told λ vs question.
    last_mark (λ ws. P (xs ++ ys ++ Lex (c.Word (word_of name)) name a ∷ vs ++ us ++ ws)) last last_told λ b.
    let r = x.back us x_told in
    into _ (record {
      tree = declared_member.Field a is_static read_only name optional r.tree;
      own = r.own;
      reads = surfaces.declared_field (word_of name) name a b statics readonly h question r.reads;
      below = r.below;
      same = ap (λ v. declared_member.Field 0 is_static read_only name optional v) r.same;
    })

constructor_told : (q : List Piece) → symbols_in (word (codes "constructor") ++ q ++ mark m.Semicolon) ≡ Lex (c.Word w.Constructor) (codes "constructor") 0 ∷ symbols_in q ++ Mark m.Semicolon 0 ∷ []
unfolding early_word middle_word late_word other_word last_word type_word named_word
constructor_told q = alike (one (word (codes "constructor")) ⊕ one q ⊕ one (mark m.Semicolon)) (one (Lex (c.Word w.Constructor) (codes "constructor") 0 ∷ symbols_in q) ⊕ one (Mark m.Semicolon 0 ∷ [])) refl

pub constructor_step : {q : List Piece} {params : List TypeParam} {d : ℕ} (at : ℕ) → Back IsSignature (map plain_param) q params d
    → Back (IsDeclaredMember true) plain_declared_member (word (codes "constructor") ++ q ++ mark m.Semicolon) (declared_member.Constructor at params) d
constructor_step {q = q} {params = params} at x = back_by λ P into zs told.
    split P {es = Lex (c.Word w.Constructor) (codes "constructor") 0 ∷ symbols_in q} {fs = Mark m.Semicolon 0 ∷ []} zs (told ∙ constructor_told q) λ front last front_told last_told.
    split_lex (λ vs. P (vs ++ last)) front front_told λ a xs x_told.
    last_mark (λ vs. P (Lex (c.Word w.Constructor) (codes "constructor") a ∷ xs ++ vs)) last last_told λ b.
    let r = x.back xs x_told in
    into _ (record {
      tree = declared_member.Constructor a r.tree;
      own = r.own;
      reads = surfaces.declared_constructor (codes "constructor") a b r.reads;
      below = r.below;
      same = ap (λ v. declared_member.Constructor 0 v) (twice_same bare_type_param quoted_type_param r.tree params r.same);
    })

method_told : (i p q : List Piece) (name : List ℕ)
    → symbols_in (i ++ word name ++ p ++ q ++ mark m.Semicolon) ≡ symbols_in i ++ Lex (c.Word (word_of name)) name 0 ∷ symbols_in p ++ symbols_in q ++ Mark m.Semicolon 0 ∷ []
method_told i p q name =
    alike (one i ⊕ one (word name) ⊕ one p ⊕ one q ⊕ one (mark m.Semicolon))
    (one (symbols_in i) ⊕ one (Lex (c.Word (word_of name)) name 0 ∷ symbols_in p) ⊕ one (symbols_in q) ⊕ one (Mark m.Semicolon 0 ∷ [])) refl

pub method_step : {p q : List Piece} {params : List TypeParam} {of : TypeExpr} {d e : ℕ} (at : ℕ) (is_static : Bool) (name : List ℕ) → is_member_name (word_of name) ≡ true
    → Back IsSignature (map plain_param) p params d → Back IsShape plain_type q of e
    → Back (IsDeclaredMember false) plain_declared_member (static_pieces is_static ++ word name ++ p ++ q ++ mark m.Semicolon) (declared_member.Method at is_static name params of) (max d e)
method_step {p = p} {q = q} {params = params} at is_static name h x y = back_by λ P into zs told.
    split P {es = symbols_in (static_pieces is_static) ++ Lex (c.Word (word_of name)) name 0 ∷ symbols_in p ++ symbols_in q} {fs = Mark m.Semicolon 0 ∷ []} zs
    (told ∙ method_told (static_pieces is_static) p q name) λ front last front_told last_told.
    split (λ vs. P (vs ++ last)) {es = symbols_in (static_pieces is_static) ++ Lex (c.Word (word_of name)) name 0 ∷ symbols_in p} {fs = symbols_in q} front front_told λ head us head_told y_told.
    split (λ vs. P (vs ++ us ++ last)) {es = symbols_in (static_pieces is_static)} {fs = Lex (c.Word (word_of name)) name 0 ∷ symbols_in p} head head_told λ static_syms named static_told named_told.
    split_static (λ vs. P (vs ++ named ++ us ++ last)) is_static static_syms static_told λ xs statics.
    split_lex (λ vs. P (xs ++ vs ++ us ++ last)) named named_told λ a ys x_told.
    last_mark (λ vs. P (xs ++ Lex (c.Word (word_of name)) name a ∷ ys ++ us ++ vs)) last last_told λ b.
    let xr = x.back ys x_told in
    let yr = y.back us y_told in
    into _ (record {
      tree = declared_member.Method a is_static name xr.tree yr.tree;
      own = max xr.own yr.own;
      reads = surfaces.declared_method (word_of name) name a b statics h xr.reads yr.reads;
      below = omega (arith, xr.below, yr.below);
      same = ap_both (λ v u. declared_member.Method 0 is_static name v u) (twice_same bare_type_param quoted_type_param xr.tree params xr.same) yr.same;
    })

pub no_declared_step : Back (IsDeclaredMembers false) (map plain_declared_member) [] [] 0
no_declared_step = back_by λ P into zs told. split_none P zs told (into _ (record { tree = []; own = 0; reads = surfaces.no_declared_members; below = omega arith; same = refl }))

declared_told : (p q : List Piece) → symbols_in (p ++ q) ≡ symbols_in p ++ symbols_in q
declared_told p q = alike (one p ⊕ one q) (one (symbols_in p) ⊕ one (symbols_in q)) refl

pub more_declared_step : {here later : Bool} {p q : List Piece} {of : DeclaredMember} {rest : List DeclaredMember} {d e : ℕ} → (here && later) ≡ false
    → Back (IsDeclaredMember here) plain_declared_member p of d → Back (IsDeclaredMembers later) (map plain_declared_member) q rest e
    → Back (IsDeclaredMembers (here || later)) (map plain_declared_member) (p ++ q) (of ∷ rest) (max d e)
more_declared_step {p = p} {q = q} h x y = back_by λ P into zs told.
    split P {es = symbols_in p} {fs = symbols_in q} zs (told ∙ declared_told p q) λ xs ys x_told y_told.
    let xr = x.back xs x_told in
    let yr = y.back ys y_told in
    into _ (record {
      tree = xr.tree ∷ yr.tree;
      own = max xr.own yr.own;
      reads = surfaces.more_declared_members xr.reads yr.reads h;
      below = omega (arith, xr.below, yr.below);
      same = ap_both (λ v vs. v ∷ vs) xr.same yr.same;
    })

-- ---- declarations

kind_text : VarKind → List ℕ
kind_text v.Const = codes "const"
kind_text v.Let = codes "let"

kind_is : (kind : VarKind) → kind_pieces kind ≡ word (kind_text kind)
unfolding kind_text
kind_is v.Const = refl
kind_is v.Let = refl

kind_named : (kind : VarKind) → kind_of (word_of (kind_text kind)) ≡ Some kind
unfolding kind_text early_word middle_word late_word other_word last_word type_word named_word
kind_named v.Const = refl
kind_named v.Let = refl

variable_told : (kind name : List ℕ) (q : List Piece)
    → symbols_in (word kind ++ space ++ word name ++ q ++ mark m.Semicolon) ≡ Lex (c.Word (word_of kind)) kind 0 ∷ Lex (c.Word (word_of name)) name 0 ∷ symbols_in q ++ Mark m.Semicolon 0 ∷ []
variable_told kind name q =
    alike (one (word kind) ⊕ one space ⊕ one (word name) ⊕ one q ⊕ one (mark m.Semicolon))
    (one (Lex (c.Word (word_of kind)) kind 0 ∷ Lex (c.Word (word_of name)) name 0 ∷ symbols_in q) ⊕ one (Mark m.Semicolon 0 ∷ [])) refl

pub variable_step : {q : List Piece} {of : TypeExpr} {d : ℕ} (at : ℕ) (kind : VarKind) (name : List ℕ) → is_name (word_of name) ≡ true → Back IsShape plain_type q of d
    → Back IsDeclared plain_declared (kind_pieces kind ++ space ++ word name ++ q ++ mark m.Semicolon) (declared.Variable at kind name of) d
variable_step {q = q} at kind name h x = back_by λ P into zs told.
    split P {es = Lex (c.Word (word_of (kind_text kind))) (kind_text kind) 0 ∷ Lex (c.Word (word_of name)) name 0 ∷ symbols_in q} {fs = Mark m.Semicolon 0 ∷ []} zs
    (told ∙ (ap (λ v. symbols_in (v ++ space ++ word name ++ q ++ mark m.Semicolon)) (kind_is kind) ∙ variable_told (kind_text kind) name q)) λ front last front_told last_told.
    split_lex (λ vs. P (vs ++ last)) front front_told λ a named named_told.
    split_lex (λ vs. P (Lex (c.Word (word_of (kind_text kind))) (kind_text kind) a ∷ vs ++ last)) named named_told λ b xs x_told.
    last_mark (λ vs. P (Lex (c.Word (word_of (kind_text kind))) (kind_text kind) a ∷ Lex (c.Word (word_of name)) name b ∷ xs ++ vs)) last last_told λ j.
    let r = x.back xs x_told in
    into _ (record {
      tree = declared.Variable b kind name r.tree;
      own = r.own;
      reads = surfaces.declared_variable {word_kind = word_of (kind_text kind)} {name_kind = word_of name} (kind_text kind) a name b j (kind_named kind) h r.reads;
      below = r.below;
      same = ap (λ v. declared.Variable 0 kind name v) r.same;
    })

function_told : (name : List ℕ) (p q : List Piece)
    → symbols_in (word (codes "function") ++ space ++ word name ++ [] ++ p ++ q ++ mark m.Semicolon)
    ≡ Lex (c.Word w.Function) (codes "function") 0 ∷ Lex (c.Word (word_of name)) name 0 ∷ symbols_in p ++ symbols_in q ++ Mark m.Semicolon 0 ∷ []
unfolding early_word middle_word late_word other_word last_word type_word named_word
function_told name p q =
    alike (one (word (codes "function")) ⊕ one space ⊕ one (word name) ⊕ one [] ⊕ one p ⊕ one q ⊕ one (mark m.Semicolon))
    (one (Lex (c.Word w.Function) (codes "function") 0 ∷ Lex (c.Word (word_of name)) name 0 ∷ symbols_in p) ⊕ one (symbols_in q) ⊕ one (Mark m.Semicolon 0 ∷ [])) refl

pub function_step : {p q : List Piece} {params : List TypeParam} {of : TypeExpr} {d e : ℕ} (at : ℕ) (name : List ℕ) → is_name (word_of name) ≡ true
    → Back IsSignature (map plain_param) p params d → Back IsShape plain_type q of e
    → Back IsDeclared plain_declared (word (codes "function") ++ space ++ word name ++ [] ++ p ++ q ++ mark m.Semicolon) (declared.Function at name [] params of) (max d e)
function_step {p = p} {q = q} {params = params} at name h x y = back_by λ P into zs told.
    split P {es = Lex (c.Word w.Function) (codes "function") 0 ∷ Lex (c.Word (word_of name)) name 0 ∷ symbols_in p ++ symbols_in q} {fs = Mark m.Semicolon 0 ∷ []} zs (told ∙ function_told name p q) λ front last front_told last_told.
    split (λ vs. P (vs ++ last)) {es = Lex (c.Word w.Function) (codes "function") 0 ∷ Lex (c.Word (word_of name)) name 0 ∷ symbols_in p} {fs = symbols_in q} front front_told λ head ys head_told y_told.
    split_lex (λ vs. P (vs ++ ys ++ last)) head head_told λ a named named_told.
    split_lex (λ vs. P (Lex (c.Word w.Function) (codes "function") a ∷ vs ++ ys ++ last)) named named_told λ b xs x_told.
    last_mark (λ vs. P (Lex (c.Word w.Function) (codes "function") a ∷ Lex (c.Word (word_of name)) name b ∷ xs ++ ys ++ vs)) last last_told λ j.
    let xr = x.back xs x_told in
    let yr = y.back ys y_told in
    into _ (record {
      tree = declared.Function b name [] xr.tree yr.tree;
      own = max xr.own yr.own;
      reads = surfaces.declared_function {kind = word_of name} (codes "function") a name b j h xr.reads yr.reads;
      below = omega (arith, xr.below, yr.below);
      same = ap_both (λ v u. declared.Function 0 name [] v u) (twice_same bare_type_param quoted_type_param xr.tree params xr.same) yr.same;
    })

class_told : (name : List ℕ) (p : List Piece) (all : List (List Piece))
    → symbols_in (word (codes "class") ++ space ++ word name ++ p ++ lines_pieces all)
    ≡ Lex (c.Word w.Class) (codes "class") 0 ∷ Lex (c.Word (word_of name)) name 0 ∷ symbols_in p ++ Mark m.OpenBrace 0 ∷ symbols_in (flat_map closed_pieces all) ++ Mark m.CloseBrace 0 ∷ []
unfolding early_word middle_word late_word other_word last_word type_word named_word
class_told name p all =
    let head = Lex (c.Word w.Class) (codes "class") 0 ∷ Lex (c.Word (word_of name)) name 0 ∷ symbols_in p in
    let inside = Mark m.OpenBrace 0 ∷ symbols_in (flat_map closed_pieces all) in
    alike (one (word (codes "class")) ⊕ one space ⊕ one (word name) ⊕ one p ⊕ one (lines_pieces all))
    (one (Lex (c.Word w.Class) (codes "class") 0 ∷ Lex (c.Word (word_of name)) name 0 ∷ symbols_in p) ⊕ one (symbols_in (lines_pieces all))) refl
    ∙ (ap (λ v. head ++ v) (lines_told all) ∙ sym (append_assoc head inside (Mark m.CloseBrace 0 ∷ [])))

pub class_step : {constructed : Bool} {p : List Piece} {bases : List Base} {members : List DeclaredMember} {d : ℕ} (at : ℕ) (name : List ℕ) (all : List (List Piece)) → is_type_name (word_of name) ≡ true
    → Back (ReadsBases w.Implements) (map plain_base) p bases 0 → Back (IsDeclaredMembers constructed) (map plain_declared_member) (flat_map closed_pieces all) members d
    → Back IsDeclared plain_declared (word (codes "class") ++ space ++ word name ++ p ++ lines_pieces all) (declared.Class (record { at = at; name = name; implements = bases; members = members })) d
class_step {p = p} {bases = bases} {members = members} at name all h x y = back_by λ P into zs told.
    split P {es = Lex (c.Word w.Class) (codes "class") 0 ∷ Lex (c.Word (word_of name)) name 0 ∷ symbols_in p ++ Mark m.OpenBrace 0 ∷ symbols_in (flat_map closed_pieces all)} {fs = Mark m.CloseBrace 0 ∷ []} zs
    (told ∙ class_told name p all) λ front last front_told last_told.
    split (λ vs. P (vs ++ last)) {es = Lex (c.Word w.Class) (codes "class") 0 ∷ Lex (c.Word (word_of name)) name 0 ∷ symbols_in p} {fs = Mark m.OpenBrace 0 ∷ symbols_in (flat_map closed_pieces all)} front front_told
    λ head inside head_told inside_told.
    split_lex (λ vs. P (vs ++ inside ++ last)) head head_told λ a named named_told.
    split_lex (λ vs. P (Lex (c.Word w.Class) (codes "class") a ∷ vs ++ inside ++ last)) named named_told λ b xs x_told.
    split_mark (λ vs. P (Lex (c.Word w.Class) (codes "class") a ∷ Lex (c.Word (word_of name)) name b ∷ xs ++ vs ++ last)) inside inside_told λ i ys y_told.
    last_mark (λ vs. P (Lex (c.Word w.Class) (codes "class") a ∷ Lex (c.Word (word_of name)) name b ∷ xs ++ Mark m.OpenBrace i ∷ ys ++ vs)) last last_told λ j.
    let xr = x.back xs x_told in
    let yr = y.back ys y_told in
    into _ (record {
      tree = declared.Class (record { at = b; name = name; implements = xr.tree; members = yr.tree });
      own = yr.own;
      reads = surfaces.declared_class {kind = word_of name} (codes "class") a name b i j h xr.reads yr.reads;
      below = yr.below;
      same = ap_both (λ v u. declared.Class (record { at = 0; name = name; implements = v; members = u }))
          (twice_same bare_base quoted_base xr.tree bases xr.same) (twice_same bare_declared_member quoted_declared_member yr.tree members yr.same);
    })

-- ---- items

pub import_item_step : {p : List Piece} {of : Import} → Back ReadsImport plain_import p of 0 → Back IsDeclItem (map plain_item) p (surface_item.Import of ∷ []) 0
import_item_step x = record {
  back = λ zs e.
      let r = x.back zs e in
      record { tree = surface_item.Import r.tree ∷ []; own = 0; reads = surfaces.declared_import r.reads; below = omega arith; same = ap (λ v. surface_item.Import v ∷ []) r.same };
}

specs_stay : (of left : List Spec) → map bare_spec of ≡ map bare_spec left → is_spec of ≡ is_spec left
specs_stay [] [] e = refl
specs_stay (x ∷ xs) (y ∷ ys) e = refl
specs_stay [] (y ∷ ys) e = absurd (cc e)
specs_stay (x ∷ xs) [] e = absurd (cc e)

origin_stays : (of left : Option Specifier) → bare_origin (quoted_origin of) ≡ bare_origin (quoted_origin left) → is_origin of ≡ is_origin left
origin_stays None None e = refl
origin_stays (Some x) (Some y) e = refl
origin_stays None (Some y) e = absurd (cc e)
origin_stays (Some x) None e = absurd (cc e)

-- an export list with a Spec or with `from` is kept
pub export_item_step : {p : List Piece} {of : ExportList} → (is_spec of.specs || is_origin of.from) ≡ true → Back ReadsExportList plain_export_list p of 0
    → Back IsDeclItem (map plain_item) p (surface_item.ExportList of ∷ []) 0
export_item_step {of = of} h x = record {
  back = λ zs e.
      let r = x.back zs e in
      let back = r.tree in
      let specs = specs_stay back.specs of.specs (ap (λ (v : ExportList). v.specs) r.same) in
      let origin = origin_stays back.from of.from (ap (λ (v : ExportList). v.from) r.same) in
      let remains : (is_spec back.specs || is_origin back.from) ≡ true = ap_both (λ v u. v || u) specs origin ∙ h in
      record {
        tree = kept back;
        own = 0;
        reads = surfaces.declared_list r.reads;
        below = omega arith;
        same = ap (λ v. map plain_item (kept_list back v)) remains ∙ ap (λ v. surface_item.ExportList v ∷ []) r.same;
      };
}

empty_list_told : (n : ℕ) → symbols_in (last_line true) ≡ Lex (c.Word w.Export) (codes "export") 0 ∷ Mark m.OpenBrace 0 ∷ Mark m.CloseBrace 0 ∷ Mark m.Semicolon 0 ∷ []
unfolding early_word middle_word late_word other_word last_word type_word named_word
empty_list_told n = refl

-- `export {};` is read, and nothing is kept of it
pub empty_list_step : Back IsDeclItem (map plain_item) (last_line true) [] 0
empty_list_step = back_by λ P into zs told.
    split_lex P zs (told ∙ empty_list_told 0) λ a more more_told.
    split_mark (λ vs. P (Lex (c.Word w.Export) (codes "export") a ∷ vs)) more more_told λ b rest rest_told.
    split_mark (λ vs. P (Lex (c.Word w.Export) (codes "export") a ∷ Mark m.OpenBrace b ∷ vs)) rest rest_told λ i last last_told.
    last_mark (λ vs. P (Lex (c.Word w.Export) (codes "export") a ∷ Mark m.OpenBrace b ∷ Mark m.CloseBrace i ∷ vs)) last last_told λ j.
    into _ (record {
      tree = [];
      own = 0;
      reads = surfaces.declared_list (grammar.export_list (codes "export") a j unworded (grammar.specs b i none_listed));
      below = omega arith;
      same = refl;
    })

item_told : (i j q : List Piece) → symbols_in (i ++ (j ++ q)) ≡ symbols_in i ++ symbols_in j ++ symbols_in q
item_told i j q = alike (one i ⊕ (one j ⊕ one q)) (one (symbols_in i) ⊕ one (symbols_in j) ⊕ one (symbols_in q)) refl

pub declared_item_step : {q : List Piece} {of : Declared} {d : ℕ} (exported ambient : Bool) → Back IsDeclared plain_declared q of d
    → Back IsDeclItem (map plain_item) (exported_pieces exported ++ (ambient_pieces ambient ++ q)) (surface_item.Declaration exported of ∷ []) d
declared_item_step {q = q} exported ambient x = back_by λ P into zs told.
    split P {es = symbols_in (exported_pieces exported) ++ symbols_in (ambient_pieces ambient)} {fs = symbols_in q} zs (told ∙ item_told (exported_pieces exported) (ambient_pieces ambient) q) λ front us front_told x_told.
    split (λ vs. P (vs ++ us)) {es = symbols_in (exported_pieces exported)} {fs = symbols_in (ambient_pieces ambient)} front front_told λ export_syms ambient_syms export_told ambient_told.
    split_exported (λ vs. P (vs ++ ambient_syms ++ us)) exported export_syms export_told λ xs exports.
    split_ambient (λ vs. P (xs ++ vs ++ us)) ambient ambient_syms ambient_told λ ys declares.
    let r = x.back us x_told in
    into _ (record {
      tree = surface_item.Declaration exported r.tree ∷ [];
      own = r.own;
      reads = surfaces.declared_item exports declares r.reads;
      below = r.below;
      same = ap (λ v. surface_item.Declaration exported v ∷ []) r.same;
    })

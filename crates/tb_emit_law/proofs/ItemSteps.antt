-- Imports, export lists, classes and declarations that are read back, by their parts: one step for each form.
use Rattle.std.proofs.Common.{◌≡◌, ℕ, suc, max, Bool, true, false, ◌||◌, ◌&&◌, List, [], ◌∷◌, ◌++◌, map, codes, Option, Some, None, refl, ap, ◌∙◌, arith}
use Rattle.tb_tree.specs.declared.marks.Mark.TheVariants as m
use Rattle.tb_tree.specs.declared.words.Class.TheVariants as c
use Rattle.tb_tree.specs.declared.words.Word.{Word}
use Rattle.tb_tree.specs.declared.words.Word.TheVariants as w
use Rattle.tb_tree.specs.declared.exprs.Block.{Block}
use Rattle.tb_tree.specs.declared.exprs.Expr.{Expr}
use Rattle.tb_tree.specs.declared.exprs.Function.{Function}
use Rattle.tb_tree.specs.declared.exprs.Param.{Param}
use Rattle.tb_tree.specs.declared.exprs.Stmt.{Stmt}
use Rattle.tb_tree.specs.declared.exprs.Var.{Var}
use Rattle.tb_tree.specs.declared.items.Specifier.{Specifier}
use Rattle.tb_tree.specs.declared.items.Spec.{Spec}
use Rattle.tb_tree.specs.declared.items.Import.{Import}
use Rattle.tb_tree.specs.declared.items.Import.TheVariants as import_form
use Rattle.tb_tree.specs.declared.items.ExportList.{ExportList}
use Rattle.tb_tree.specs.declared.items.ClassMember.{ClassMember}
use Rattle.tb_tree.specs.declared.items.ClassMember.TheVariants as class_member
use Rattle.tb_tree.specs.declared.items.ClassDeclaration.{ClassDeclaration}
use Rattle.tb_tree.specs.declared.items.Declaration.{Declaration}
use Rattle.tb_tree.specs.declared.items.Declaration.TheVariants as declaration
use Rattle.tb_tree.specs.declared.items.Item.TheVariants as item
use Rattle.tb_tree.specs.Sym.{Sym, Mark, Lex}
use Rattle.tb_tree.specs.Words.{is_type_name, word_of, early_word, middle_word, late_word, other_word, last_word, type_word, named_word}
use Rattle.tb_tree.specs.Shapes.{unmarked, unworded, worded, IsListed, none_listed, last_listed, more_listed}
use Rattle.tb_tree.specs.Bare.{bare_block, bare_class, bare_class_member, bare_declaration, bare_export_list, bare_function, bare_import, bare_item, bare_param, bare_spec, bare_specifier, bare_stmt, bare_value, bare_var}
use Rattle.tb_tree.specs.Exprs as g
use Rattle.tb_tree.specs.Items as grammar
use Rattle.tb_tree.proofs.Ends.{ap_both}
use Rattle.tb_layout.specs.Pieces.{Piece, mark, word, space, new_line}
use Rattle.tb_layout.specs.Pieces as pieces
use Rattle.tb_layout.specs.Js.{in_parens, object_pieces, static_pieces, exported_pieces}
use Rattle.tb_emit_law.proofs.Symbols.{symbols_in}
use Rattle.tb_emit_law.proofs.Back.{Back, back_by, told_by, wrapped}
use Rattle.tb_emit_law.proofs.Splits.{split, split_none, split_mark, split_lex, last_mark, last_lex}
use Rattle.tb_emit_law.proofs.Flat.{one, ◌⊕◌, alike}
use Rattle.tb_emit_law.proofs.ListSteps.{object_told}

-- ---- imports and export lists, which have no depth

abbrev pub ReadsSpec : (Word → Word → Bool) → List Sym → Spec → ℕ → Type 0
ReadsSpec local xs of n = grammar.IsSpec local false xs of

abbrev pub ReadsListed : (Word → Word → Bool) → List Sym → List Spec → ℕ → Type 0
ReadsListed local xs of n = IsListed (grammar.IsSpec local false) xs of

abbrev pub ReadsSpecs : (Word → Word → Bool) → List Sym → List Spec → ℕ → Type 0
ReadsSpecs local xs of n = grammar.IsSpecs local false xs of

abbrev pub ReadsFrom : List Sym → Specifier → ℕ → Type 0
ReadsFrom xs of n = grammar.IsFrom xs of

abbrev pub ReadsImport : List Sym → Import → ℕ → Type 0
ReadsImport xs of n = grammar.IsImport xs of

abbrev pub ReadsExportList : List Sym → ExportList → ℕ → Type 0
ReadsExportList xs of n = grammar.IsExportList xs of

plain_spec_step_told : (spelled : List ℕ) → symbols_in (word spelled ++ []) ≡ Lex (c.Word (word_of spelled)) spelled 0 ∷ []
plain_spec_step_told spelled = alike (one (word spelled) ⊕ one []) (one (Lex (c.Word (word_of spelled)) spelled 0 ∷ [])) refl

pub plain_spec_step : (local : Word → Word → Bool) (at : ℕ) (spelled : List ℕ)
    → local (word_of spelled) (word_of spelled) ≡ true
    → Back (ReadsSpec local) bare_spec (word spelled ++ []) (record { at = at; type_only = false; name = grammar.identifier spelled at; renamed = None }) (0)
plain_spec_step local at spelled h = back_by λ P into zs told.
    last_lex P zs (told ∙ plain_spec_step_told spelled) λ here.
    into _ (record {
      tree = record { at = here; type_only = false; name = grammar.identifier spelled here; renamed = None };
      own = 0;
      reads = grammar.plain_spec {kind = word_of spelled} spelled here h;
      below = omega arith;
      same = refl;
    })

renamed_spec_step_told : (spelled other : List ℕ) → symbols_in (word spelled ++ (space ++ word (codes "as") ++ space ++ word other)) ≡ Lex (c.Word (word_of spelled)) spelled 0 ∷ Lex (c.Word w.As) (codes "as") 0 ∷ Lex (c.Word (word_of other)) other 0 ∷ []
unfolding early_word middle_word late_word other_word last_word type_word named_word
renamed_spec_step_told spelled other =
    alike (one (word spelled) ⊕ (one space ⊕ one (word (codes "as")) ⊕ one space ⊕ one (word other))) (one (Lex (c.Word (word_of spelled)) spelled 0 ∷ Lex (c.Word w.As) (codes "as") 0 ∷ Lex (c.Word (word_of other)) other 0 ∷ [])) refl

pub renamed_spec_step : (local : Word → Word → Bool) (at other_at : ℕ) (spelled other : List ℕ)
    → local (word_of spelled) (word_of other) ≡ true
    → Back (ReadsSpec local) bare_spec (word spelled ++ (space ++ word (codes "as") ++ space ++ word other)) (record { at = at; type_only = false; name = grammar.identifier spelled at; renamed = Some (grammar.identifier other other_at) }) (0)
renamed_spec_step local at other_at spelled other h = back_by λ P into zs told.
    split_lex P zs (told ∙ renamed_spec_step_told spelled other) λ a more more_told.
    split_lex (λ vs. P (Lex (c.Word (word_of spelled)) spelled a ∷ vs)) more more_told λ b more2 more2_told.
    last_lex (λ vs. P (Lex (c.Word (word_of spelled)) spelled a ∷ Lex (c.Word w.As) (codes "as") b ∷ vs)) more2 more2_told λ j.
    into _ (record {
      tree = record { at = a; type_only = false; name = grammar.identifier spelled a; renamed = Some (grammar.identifier other j) };
      own = 0;
      reads = grammar.renamed_spec {kind = word_of spelled} {other = word_of other} spelled a (codes "as") b other j h;
      below = omega arith;
      same = refl;
    })

pub no_specs_step : (local : Word → Word → Bool) → Back (ReadsListed local) (map bare_spec) [] [] 0
no_specs_step local = back_by λ P into zs told. split_none P zs told (into _ (record { tree = []; own = 0; reads = none_listed; below = omega arith; same = refl }))

pub last_spec_step : {p : List Piece} {of : Spec} {d : ℕ} (local : Word → Word → Bool) → Back (ReadsSpec local) bare_spec p of d → Back (ReadsListed local) (map bare_spec) p (of ∷ []) d
last_spec_step local x = wrapped (λ of. of ∷ []) (λ of. refl) (λ xs of n r. last_listed r) x

more_specs_step_told : (p q : List Piece) → symbols_in (p ++ mark m.Comma ++ space ++ q) ≡ symbols_in p ++ Mark m.Comma 0 ∷ symbols_in q
more_specs_step_told p q = alike (one p ⊕ one (mark m.Comma) ⊕ one space ⊕ one q) (one (symbols_in p) ⊕ one (Mark m.Comma 0 ∷ symbols_in q)) refl

pub more_specs_step : {p q : List Piece} {of : Spec} {rest : List Spec} {d e : ℕ} (local : Word → Word → Bool)
    → Back (ReadsSpec local) bare_spec p of d → Back (ReadsListed local) (map bare_spec) q rest e
    → Back (ReadsListed local) (map bare_spec) (p ++ mark m.Comma ++ space ++ q) (of ∷ rest) (max d e)
more_specs_step {p = p} {q = q} local x y = back_by λ P into zs told.
    split P {es = symbols_in p} {fs = Mark m.Comma 0 ∷ symbols_in q} zs (told ∙ more_specs_step_told p q) λ xs back x_told back_told.
    split_mark (λ vs. P (xs ++ vs)) back back_told λ here ys y_told.
    let xr = x.back xs x_told in
    let yr = y.back ys y_told in
    into _ (record {
      tree = xr.tree ∷ yr.tree;
      own = max xr.own yr.own;
      reads = more_listed here xr.reads yr.reads;
      below = omega (arith, xr.below, yr.below);
      same = ap_both (λ v vs. v ∷ vs) xr.same yr.same;
    })

braced_step_told : (p : List Piece) → symbols_in (mark m.OpenBrace ++ space ++ p ++ space ++ mark m.CloseBrace) ≡ Mark m.OpenBrace 0 ∷ symbols_in p ++ Mark m.CloseBrace 0 ∷ []
braced_step_told p =
    alike (one (mark m.OpenBrace) ⊕ one space ⊕ one p ⊕ one space ⊕ one (mark m.CloseBrace)) (one (Mark m.OpenBrace 0 ∷ symbols_in p) ⊕ one (Mark m.CloseBrace 0 ∷ [])) refl

pub braced_step : {p : List Piece} {of : List Spec} {d : ℕ} (local : Word → Word → Bool)
    → Back (ReadsListed local) (map bare_spec) p of d
    → Back (ReadsSpecs local) (map bare_spec) (mark m.OpenBrace ++ space ++ p ++ space ++ mark m.CloseBrace) (of) (d)
braced_step {p = p} local x = back_by λ P into zs told.
    split P {es = Mark m.OpenBrace 0 ∷ symbols_in p} {fs = Mark m.CloseBrace 0 ∷ []} zs (told ∙ braced_step_told p) λ front back front_told back_told.
    split_mark (λ vs. P (vs ++ back)) front front_told λ a xs x_told.
    last_mark (λ vs. P (Mark m.OpenBrace a ∷ xs ++ vs)) back back_told λ b.
    let xr = x.back xs x_told in
    into _ (record { tree = xr.tree; own = xr.own; reads = grammar.specs a b xr.reads; below = omega (arith, xr.below); same = xr.same })

pub specs_step : {of : List Spec} {d : ℕ} (local : Word → Word → Bool) (all : List (List Piece)) → Back (ReadsListed local) (map bare_spec) (pieces.listed all) of d → Back (ReadsSpecs local) (map bare_spec) (object_pieces all) of d
specs_step local all x = told_by (object_told all) (braced_step local x)

from_step_told : (spelled : List ℕ) → symbols_in (space ++ word (codes "from") ++ space ++ (pieces.Lex c.String spelled ∷ [])) ≡ Lex (c.Word w.From) (codes "from") 0 ∷ Lex c.String spelled 0 ∷ []
unfolding early_word middle_word late_word other_word last_word type_word named_word
from_step_told spelled =
    alike (one space ⊕ one (word (codes "from")) ⊕ one space ⊕ one (pieces.Lex c.String spelled ∷ [])) (one (Lex (c.Word w.From) (codes "from") 0 ∷ Lex c.String spelled 0 ∷ [])) refl

pub from_step : (at : ℕ) (spelled : List ℕ) → Back (ReadsFrom) bare_specifier (space ++ word (codes "from") ++ space ++ (pieces.Lex c.String spelled ∷ [])) (record { at = at; spelled = spelled }) (0)
from_step at spelled = back_by λ P into zs told.
    split_lex P zs (told ∙ from_step_told spelled) λ a more more_told.
    last_lex (λ vs. P (Lex (c.Word w.From) (codes "from") a ∷ vs)) more more_told λ b.
    into _ (record {
      tree = record { at = b; spelled = spelled };
      own = 0;
      reads = grammar.from (codes "from") a spelled b;
      below = omega arith;
      same = refl;
    })

import_list_step_told : (p q : List Piece) → symbols_in (word (codes "import") ++ space ++ p ++ q ++ mark m.Semicolon) ≡ Lex (c.Word w.Import) (codes "import") 0 ∷ [] ++ symbols_in p ++ symbols_in q ++ Mark m.Semicolon 0 ∷ []
unfolding early_word middle_word late_word other_word last_word type_word named_word
import_list_step_told p q =
    alike (one (word (codes "import")) ⊕ one space ⊕ one p ⊕ one q ⊕ one (mark m.Semicolon)) (one (Lex (c.Word w.Import) (codes "import") 0 ∷ []) ⊕ one (symbols_in p) ⊕ one (symbols_in q) ⊕ one (Mark m.Semicolon 0 ∷ [])) refl

pub import_list_step : {p q : List Piece} {of : List Spec} {origin : Specifier} {d e : ℕ} (at : ℕ)
    → Back (ReadsSpecs grammar.last_is_local) (map bare_spec) p of d → Back (ReadsFrom) bare_specifier q origin e
    → Back (ReadsImport) bare_import (word (codes "import") ++ space ++ p ++ q ++ mark m.Semicolon) (import_form.List at false of origin) (0)
import_list_step {p = p} {q = q} at x y = back_by λ P into zs told.
    split P {es = Lex (c.Word w.Import) (codes "import") 0 ∷ [] ++ symbols_in p ++ symbols_in q} {fs = Mark m.Semicolon 0 ∷ []} zs (told ∙ import_list_step_told p q) λ front back front_told back_told.
    split (λ vs. P (vs ++ back)) {es = Lex (c.Word w.Import) (codes "import") 0 ∷ [] ++ symbols_in p} {fs = symbols_in q} front front_told λ front2 ys front2_told y_told.
    split (λ vs. P (vs ++ ys ++ back)) {es = Lex (c.Word w.Import) (codes "import") 0 ∷ []} {fs = symbols_in p} front2 front2_told λ front3 xs front3_told x_told.
    last_lex (λ vs. P (vs ++ xs ++ ys ++ back)) front3 front3_told λ a.
    last_mark (λ vs. P (Lex (c.Word w.Import) (codes "import") a ∷ [] ++ xs ++ ys ++ vs)) back back_told λ b.
    let xr = x.back xs x_told in
    let yr = y.back ys y_told in
    into _ (record {
      tree = import_form.List a false xr.tree yr.tree;
      own = 0;
      reads = grammar.import_list (codes "import") a b unworded xr.reads yr.reads;
      below = omega (arith, xr.below, yr.below);
      same = ap_both (λ v u. import_form.List 0 false v u) xr.same yr.same;
    })

import_bare_step_told : (spelled : List ℕ) → symbols_in (word (codes "import") ++ space ++ (pieces.Lex c.String spelled ∷ []) ++ mark m.Semicolon) ≡ Lex (c.Word w.Import) (codes "import") 0 ∷ Lex c.String spelled 0 ∷ Mark m.Semicolon 0 ∷ []
unfolding early_word middle_word late_word other_word last_word type_word named_word
import_bare_step_told spelled =
    alike (one (word (codes "import")) ⊕ one space ⊕ one (pieces.Lex c.String spelled ∷ []) ⊕ one (mark m.Semicolon)) (one (Lex (c.Word w.Import) (codes "import") 0 ∷ Lex c.String spelled 0 ∷ Mark m.Semicolon 0 ∷ [])) refl

pub import_bare_step : (at from_at : ℕ) (spelled : List ℕ) → Back (ReadsImport) bare_import (word (codes "import") ++ space ++ (pieces.Lex c.String spelled ∷ []) ++ mark m.Semicolon) (import_form.Bare at (record { at = from_at; spelled = spelled })) (0)
import_bare_step at from_at spelled = back_by λ P into zs told.
    split_lex P zs (told ∙ import_bare_step_told spelled) λ a more more_told.
    split_lex (λ vs. P (Lex (c.Word w.Import) (codes "import") a ∷ vs)) more more_told λ b more2 more2_told.
    last_mark (λ vs. P (Lex (c.Word w.Import) (codes "import") a ∷ Lex c.String spelled b ∷ vs)) more2 more2_told λ j.
    into _ (record {
      tree = import_form.Bare a (record { at = b; spelled = spelled });
      own = 0;
      reads = grammar.import_bare (codes "import") a spelled b j;
      below = omega arith;
      same = refl;
    })

export_list_step_told : (p : List Piece) → symbols_in (word (codes "export") ++ space ++ p ++ [] ++ mark m.Semicolon) ≡ Lex (c.Word w.Export) (codes "export") 0 ∷ [] ++ symbols_in p ++ Mark m.Semicolon 0 ∷ []
unfolding early_word middle_word late_word other_word last_word type_word named_word
export_list_step_told p =
    alike (one (word (codes "export")) ⊕ one space ⊕ one p ⊕ one [] ⊕ one (mark m.Semicolon)) (one (Lex (c.Word w.Export) (codes "export") 0 ∷ []) ⊕ one (symbols_in p) ⊕ one (Mark m.Semicolon 0 ∷ [])) refl

pub export_list_step : {p : List Piece} {of : List Spec} {d : ℕ} (at : ℕ)
    → Back (ReadsSpecs grammar.first_is_local) (map bare_spec) p of d
    → Back (ReadsExportList) bare_export_list (word (codes "export") ++ space ++ p ++ [] ++ mark m.Semicolon) (record { at = at; type_only = false; specs = of; from = None }) (0)
export_list_step {p = p} at x = back_by λ P into zs told.
    split P {es = Lex (c.Word w.Export) (codes "export") 0 ∷ [] ++ symbols_in p} {fs = Mark m.Semicolon 0 ∷ []} zs (told ∙ export_list_step_told p) λ front back front_told back_told.
    split (λ vs. P (vs ++ back)) {es = Lex (c.Word w.Export) (codes "export") 0 ∷ []} {fs = symbols_in p} front front_told λ front2 xs front2_told x_told.
    last_lex (λ vs. P (vs ++ xs ++ back)) front2 front2_told λ a.
    last_mark (λ vs. P (Lex (c.Word w.Export) (codes "export") a ∷ [] ++ xs ++ vs)) back back_told λ b.
    let xr = x.back xs x_told in
    into _ (record {
      tree = record { at = a; type_only = false; specs = xr.tree; from = None };
      own = 0;
      reads = grammar.export_list (codes "export") a b unworded xr.reads;
      below = omega (arith, xr.below);
      same = ap {B = ExportList} (λ v. record { at = 0; type_only = false; specs = v; from = None }) xr.same;
    })

export_from_step_told : (p q : List Piece) → symbols_in (word (codes "export") ++ space ++ p ++ q ++ mark m.Semicolon) ≡ Lex (c.Word w.Export) (codes "export") 0 ∷ [] ++ symbols_in p ++ symbols_in q ++ Mark m.Semicolon 0 ∷ []
unfolding early_word middle_word late_word other_word last_word type_word named_word
export_from_step_told p q =
    alike (one (word (codes "export")) ⊕ one space ⊕ one p ⊕ one q ⊕ one (mark m.Semicolon)) (one (Lex (c.Word w.Export) (codes "export") 0 ∷ []) ⊕ one (symbols_in p) ⊕ one (symbols_in q) ⊕ one (Mark m.Semicolon 0 ∷ [])) refl

pub export_from_step : {p q : List Piece} {of : List Spec} {origin : Specifier} {d e : ℕ} (at : ℕ)
    → Back (ReadsSpecs grammar.none_is_local) (map bare_spec) p of d → Back (ReadsFrom) bare_specifier q origin e
    → Back (ReadsExportList) bare_export_list (word (codes "export") ++ space ++ p ++ q ++ mark m.Semicolon) (record { at = at; type_only = false; specs = of; from = Some origin }) (0)
export_from_step {p = p} {q = q} at x y = back_by λ P into zs told.
    split P {es = Lex (c.Word w.Export) (codes "export") 0 ∷ [] ++ symbols_in p ++ symbols_in q} {fs = Mark m.Semicolon 0 ∷ []} zs (told ∙ export_from_step_told p q) λ front back front_told back_told.
    split (λ vs. P (vs ++ back)) {es = Lex (c.Word w.Export) (codes "export") 0 ∷ [] ++ symbols_in p} {fs = symbols_in q} front front_told λ front2 ys front2_told y_told.
    split (λ vs. P (vs ++ ys ++ back)) {es = Lex (c.Word w.Export) (codes "export") 0 ∷ []} {fs = symbols_in p} front2 front2_told λ front3 xs front3_told x_told.
    last_lex (λ vs. P (vs ++ xs ++ ys ++ back)) front3 front3_told λ a.
    last_mark (λ vs. P (Lex (c.Word w.Export) (codes "export") a ∷ [] ++ xs ++ ys ++ vs)) back back_told λ b.
    let xr = x.back xs x_told in
    let yr = y.back ys y_told in
    into _ (record {
      tree = record { at = a; type_only = false; specs = xr.tree; from = Some yr.tree };
      own = 0;
      reads = grammar.export_from (codes "export") a b unworded xr.reads yr.reads;
      below = omega (arith, xr.below, yr.below);
      same = ap_both {C = ExportList} (λ v u. record { at = 0; type_only = false; specs = v; from = Some u }) xr.same yr.same;
    })

-- ---- classes

static_field_step_told : (p : List Piece) (spelled : List ℕ) → symbols_in (static_pieces true ++ word spelled ++ p ++ mark m.Semicolon) ≡ Lex (c.Word w.Static) (codes "static") 0 ∷ Lex (c.Word (word_of spelled)) spelled 0 ∷ [] ++ symbols_in p ++ Mark m.Semicolon 0 ∷ []
unfolding early_word middle_word late_word other_word last_word type_word named_word
static_field_step_told p spelled =
    alike (one (static_pieces true) ⊕ one (word spelled) ⊕ one p ⊕ one (mark m.Semicolon)) (one (Lex (c.Word w.Static) (codes "static") 0 ∷ Lex (c.Word (word_of spelled)) spelled 0 ∷ []) ⊕ one (symbols_in p) ⊕ one (Mark m.Semicolon 0 ∷ [])) refl

pub static_field_step : {o : Bool} {p : List Piece} {value : Option Expr} {d : ℕ} (at : ℕ) (spelled : List ℕ)
    → grammar.is_member_name (word_of spelled) ≡ true → Back (g.IsValue o) bare_value p value d
    → Back (grammar.IsClassMember o false) bare_class_member (static_pieces true ++ word spelled ++ p ++ mark m.Semicolon) (class_member.Field at true false spelled false None value) (d)
static_field_step {p = p} at spelled h x = back_by λ P into zs told.
    split P {es = Lex (c.Word w.Static) (codes "static") 0 ∷ Lex (c.Word (word_of spelled)) spelled 0 ∷ [] ++ symbols_in p} {fs = Mark m.Semicolon 0 ∷ []} zs (told ∙ static_field_step_told p spelled) λ front back front_told back_told.
    split (λ vs. P (vs ++ back)) {es = Lex (c.Word w.Static) (codes "static") 0 ∷ Lex (c.Word (word_of spelled)) spelled 0 ∷ []} {fs = symbols_in p} front front_told λ front2 xs front2_told x_told.
    split_lex (λ vs. P (vs ++ xs ++ back)) front2 front2_told λ a more more_told.
    last_lex (λ vs. P (Lex (c.Word w.Static) (codes "static") a ∷ vs ++ xs ++ back)) more more_told λ b.
    last_mark (λ vs. P (Lex (c.Word w.Static) (codes "static") a ∷ Lex (c.Word (word_of spelled)) spelled b ∷ [] ++ xs ++ vs)) back back_told λ j.
    let xr = x.back xs x_told in
    into _ (record {
      tree = class_member.Field b true false spelled false None xr.tree;
      own = max 0 xr.own;
      reads = grammar.field (word_of spelled) spelled b j (worded (codes "static") a) unworded h unmarked g.no_annotation xr.reads;
      below = omega (arith, xr.below);
      same = ap (λ v. class_member.Field 0 true false spelled false None v) xr.same;
    })

own_field_step_told : (p : List Piece) (spelled : List ℕ) → symbols_in (static_pieces false ++ word spelled ++ p ++ mark m.Semicolon) ≡ Lex (c.Word (word_of spelled)) spelled 0 ∷ [] ++ symbols_in p ++ Mark m.Semicolon 0 ∷ []
own_field_step_told p spelled =
    alike (one (static_pieces false) ⊕ one (word spelled) ⊕ one p ⊕ one (mark m.Semicolon)) (one (Lex (c.Word (word_of spelled)) spelled 0 ∷ []) ⊕ one (symbols_in p) ⊕ one (Mark m.Semicolon 0 ∷ [])) refl

pub own_field_step : {o : Bool} {p : List Piece} {value : Option Expr} {d : ℕ} (at : ℕ) (spelled : List ℕ)
    → grammar.is_member_name (word_of spelled) ≡ true → Back (g.IsValue o) bare_value p value d
    → Back (grammar.IsClassMember o false) bare_class_member (static_pieces false ++ word spelled ++ p ++ mark m.Semicolon) (class_member.Field at false false spelled false None value) (d)
own_field_step {p = p} at spelled h x = back_by λ P into zs told.
    split P {es = Lex (c.Word (word_of spelled)) spelled 0 ∷ [] ++ symbols_in p} {fs = Mark m.Semicolon 0 ∷ []} zs (told ∙ own_field_step_told p spelled) λ front back front_told back_told.
    split (λ vs. P (vs ++ back)) {es = Lex (c.Word (word_of spelled)) spelled 0 ∷ []} {fs = symbols_in p} front front_told λ front2 xs front2_told x_told.
    last_lex (λ vs. P (vs ++ xs ++ back)) front2 front2_told λ b.
    last_mark (λ vs. P (Lex (c.Word (word_of spelled)) spelled b ∷ [] ++ xs ++ vs)) back back_told λ j.
    let xr = x.back xs x_told in
    into _ (record {
      tree = class_member.Field b false false spelled false None xr.tree;
      own = max 0 xr.own;
      reads = grammar.field (word_of spelled) spelled b j unworded unworded h unmarked g.no_annotation xr.reads;
      below = omega (arith, xr.below);
      same = ap (λ v. class_member.Field 0 false false spelled false None v) xr.same;
    })

pub field_step : {o : Bool} {p : List Piece} {value : Option Expr} {d : ℕ} (at : ℕ) (is_static : Bool) (spelled : List ℕ) → grammar.is_member_name (word_of spelled) ≡ true → Back (g.IsValue o) bare_value p value d
    → Back (grammar.IsClassMember o false) bare_class_member (static_pieces is_static ++ word spelled ++ p ++ mark m.Semicolon) (class_member.Field at is_static false spelled false None value) d
field_step at true spelled h x = static_field_step at spelled h x
field_step at false spelled h x = own_field_step at spelled h x

constructor_step_told : (p q : List Piece) → symbols_in (word (codes "constructor") ++ in_parens p ++ space ++ q) ≡ Lex (c.Word w.Constructor) (codes "constructor") 0 ∷ Mark m.OpenParen 0 ∷ symbols_in p ++ Mark m.CloseParen 0 ∷ symbols_in q
unfolding early_word middle_word late_word other_word last_word type_word named_word
constructor_step_told p q =
    alike (one (word (codes "constructor")) ⊕ (one (mark m.OpenParen) ⊕ one p ⊕ one (mark m.CloseParen)) ⊕ one space ⊕ one q) (one (Lex (c.Word w.Constructor) (codes "constructor") 0 ∷ Mark m.OpenParen 0 ∷ symbols_in p) ⊕ one (Mark m.CloseParen 0 ∷ symbols_in q)) refl

pub constructor_step : {o : Bool} {p q : List Piece} {params : List Param} {of : Block} {d e : ℕ} (at : ℕ)
    → Back (g.IsParams o false) (map bare_param) p params d → Back (g.IsBlock o g.a_body) bare_block q of e
    → Back (grammar.IsClassMember o true) bare_class_member (word (codes "constructor") ++ in_parens p ++ space ++ q) (class_member.Constructor at params of) (max d e)
constructor_step {p = p} {q = q} at x y = back_by λ P into zs told.
    split P {es = Lex (c.Word w.Constructor) (codes "constructor") 0 ∷ Mark m.OpenParen 0 ∷ symbols_in p} {fs = Mark m.CloseParen 0 ∷ symbols_in q} zs (told ∙ constructor_step_told p q) λ front back front_told back_told.
    split_lex (λ vs. P (vs ++ back)) front front_told λ a more more_told.
    split_mark (λ vs. P (Lex (c.Word w.Constructor) (codes "constructor") a ∷ vs ++ back)) more more_told λ b xs x_told.
    split_mark (λ vs. P (Lex (c.Word w.Constructor) (codes "constructor") a ∷ Mark m.OpenParen b ∷ xs ++ vs)) back back_told λ j ys y_told.
    let xr = x.back xs x_told in
    let yr = y.back ys y_told in
    into _ (record {
      tree = class_member.Constructor a xr.tree yr.tree;
      own = max xr.own yr.own;
      reads = grammar.constructor (codes "constructor") a b j xr.reads yr.reads;
      below = omega (arith, xr.below, yr.below);
      same = ap_both (λ v u. class_member.Constructor 0 v u) xr.same yr.same;
    })

static_method_step_told : (p q : List Piece) (spelled : List ℕ) → symbols_in (static_pieces true ++ word spelled ++ in_parens p ++ space ++ q) ≡ Lex (c.Word w.Static) (codes "static") 0 ∷ Lex (c.Word (word_of spelled)) spelled 0 ∷ Mark m.OpenParen 0 ∷ symbols_in p ++ Mark m.CloseParen 0 ∷ [] ++ symbols_in q
unfolding early_word middle_word late_word other_word last_word type_word named_word
static_method_step_told p q spelled =
    alike (one (static_pieces true) ⊕ one (word spelled) ⊕ (one (mark m.OpenParen) ⊕ one p ⊕ one (mark m.CloseParen)) ⊕ one space ⊕ one q) (one (Lex (c.Word w.Static) (codes "static") 0 ∷ Lex (c.Word (word_of spelled)) spelled 0 ∷ Mark m.OpenParen 0 ∷ symbols_in p) ⊕ one (Mark m.CloseParen 0 ∷ []) ⊕ one (symbols_in q)) refl

pub static_method_step : {o : Bool} {p q : List Piece} {params : List Param} {of : Block} {d e : ℕ} (at : ℕ) (spelled : List ℕ)
    → grammar.is_member_name (word_of spelled) ≡ true → Back (g.IsParams o false) (map bare_param) p params d → Back (g.IsBlock o g.a_body) bare_block q of e
    → Back (grammar.IsClassMember o false) bare_class_member (static_pieces true ++ word spelled ++ in_parens p ++ space ++ q) (class_member.Method at true spelled params None of) (max d e)
static_method_step {p = p} {q = q} at spelled h x y = back_by λ P into zs told.
    split P {es = Lex (c.Word w.Static) (codes "static") 0 ∷ Lex (c.Word (word_of spelled)) spelled 0 ∷ Mark m.OpenParen 0 ∷ symbols_in p ++ Mark m.CloseParen 0 ∷ []} {fs = symbols_in q} zs (told ∙ static_method_step_told p q spelled) λ front ys front_told y_told.
    split (λ vs. P (vs ++ ys)) {es = Lex (c.Word w.Static) (codes "static") 0 ∷ Lex (c.Word (word_of spelled)) spelled 0 ∷ Mark m.OpenParen 0 ∷ symbols_in p} {fs = Mark m.CloseParen 0 ∷ []} front front_told λ front2 back2 front2_told back2_told.
    split_lex (λ vs. P (vs ++ back2 ++ ys)) front2 front2_told λ a more more_told.
    split_lex (λ vs. P (Lex (c.Word w.Static) (codes "static") a ∷ vs ++ back2 ++ ys)) more more_told λ b more2 more2_told.
    split_mark (λ vs. P (Lex (c.Word w.Static) (codes "static") a ∷ Lex (c.Word (word_of spelled)) spelled b ∷ vs ++ back2 ++ ys)) more2 more2_told λ j xs x_told.
    last_mark (λ vs. P (Lex (c.Word w.Static) (codes "static") a ∷ Lex (c.Word (word_of spelled)) spelled b ∷ Mark m.OpenParen j ∷ xs ++ vs ++ ys)) back2 back2_told λ l.
    let xr = x.back xs x_told in
    let yr = y.back ys y_told in
    into _ (record {
      tree = class_member.Method b true spelled xr.tree None yr.tree;
      own = max xr.own (max 0 yr.own);
      reads = grammar.class_method (word_of spelled) spelled b j l (worded (codes "static") a) h xr.reads g.no_annotation yr.reads;
      below = omega (arith, xr.below, yr.below);
      same = ap_both (λ v u. class_member.Method 0 true spelled v None u) xr.same yr.same;
    })

own_method_step_told : (p q : List Piece) (spelled : List ℕ) → symbols_in (static_pieces false ++ word spelled ++ in_parens p ++ space ++ q) ≡ Lex (c.Word (word_of spelled)) spelled 0 ∷ Mark m.OpenParen 0 ∷ symbols_in p ++ Mark m.CloseParen 0 ∷ [] ++ symbols_in q
own_method_step_told p q spelled =
    alike (one (static_pieces false) ⊕ one (word spelled) ⊕ (one (mark m.OpenParen) ⊕ one p ⊕ one (mark m.CloseParen)) ⊕ one space ⊕ one q) (one (Lex (c.Word (word_of spelled)) spelled 0 ∷ Mark m.OpenParen 0 ∷ symbols_in p) ⊕ one (Mark m.CloseParen 0 ∷ []) ⊕ one (symbols_in q)) refl

pub own_method_step : {o : Bool} {p q : List Piece} {params : List Param} {of : Block} {d e : ℕ} (at : ℕ) (spelled : List ℕ)
    → grammar.is_member_name (word_of spelled) ≡ true → Back (g.IsParams o false) (map bare_param) p params d → Back (g.IsBlock o g.a_body) bare_block q of e
    → Back (grammar.IsClassMember o false) bare_class_member (static_pieces false ++ word spelled ++ in_parens p ++ space ++ q) (class_member.Method at false spelled params None of) (max d e)
own_method_step {p = p} {q = q} at spelled h x y = back_by λ P into zs told.
    split P {es = Lex (c.Word (word_of spelled)) spelled 0 ∷ Mark m.OpenParen 0 ∷ symbols_in p ++ Mark m.CloseParen 0 ∷ []} {fs = symbols_in q} zs (told ∙ own_method_step_told p q spelled) λ front ys front_told y_told.
    split (λ vs. P (vs ++ ys)) {es = Lex (c.Word (word_of spelled)) spelled 0 ∷ Mark m.OpenParen 0 ∷ symbols_in p} {fs = Mark m.CloseParen 0 ∷ []} front front_told λ front2 back2 front2_told back2_told.
    split_lex (λ vs. P (vs ++ back2 ++ ys)) front2 front2_told λ b more more_told.
    split_mark (λ vs. P (Lex (c.Word (word_of spelled)) spelled b ∷ vs ++ back2 ++ ys)) more more_told λ j xs x_told.
    last_mark (λ vs. P (Lex (c.Word (word_of spelled)) spelled b ∷ Mark m.OpenParen j ∷ xs ++ vs ++ ys)) back2 back2_told λ l.
    let xr = x.back xs x_told in
    let yr = y.back ys y_told in
    into _ (record {
      tree = class_member.Method b false spelled xr.tree None yr.tree;
      own = max xr.own (max 0 yr.own);
      reads = grammar.class_method (word_of spelled) spelled b j l unworded h xr.reads g.no_annotation yr.reads;
      below = omega (arith, xr.below, yr.below);
      same = ap_both (λ v u. class_member.Method 0 false spelled v None u) xr.same yr.same;
    })

pub method_step : {o : Bool} {p q : List Piece} {params : List Param} {of : Block} {d e : ℕ} (at : ℕ) (is_static : Bool) (spelled : List ℕ) → grammar.is_member_name (word_of spelled) ≡ true
    → Back (g.IsParams o false) (map bare_param) p params d → Back (g.IsBlock o g.a_body) bare_block q of e
    → Back (grammar.IsClassMember o false) bare_class_member (static_pieces is_static ++ word spelled ++ in_parens p ++ space ++ q) (class_member.Method at is_static spelled params None of) (max d e)
method_step at true spelled h x y = static_method_step at spelled h x y
method_step at false spelled h x y = own_method_step at spelled h x y

pub no_members_step : {o : Bool} → Back (grammar.IsClassMembers o false) (map bare_class_member) [] [] 0
no_members_step = back_by λ P into zs told. split_none P zs told (into _ (record { tree = []; own = 0; reads = grammar.no_class_members; below = omega arith; same = refl }))

more_members_step_told : (p q : List Piece) (n : ℕ) → symbols_in ((new_line (suc n) ++ p) ++ q) ≡ symbols_in p ++ symbols_in q
more_members_step_told p q n = alike (one (new_line (suc n)) ⊕ one p ⊕ one q) (one (symbols_in p) ⊕ one (symbols_in q)) refl

pub more_members_step : {o : Bool} {p q : List Piece} {of : ClassMember} {rest : List ClassMember} {d e : ℕ} {first later : Bool} (n : ℕ)
    → (first && later) ≡ false → Back (grammar.IsClassMember o first) bare_class_member p of d → Back (grammar.IsClassMembers o later) (map bare_class_member) q rest e
    → Back (grammar.IsClassMembers o (first || later)) (map bare_class_member) ((new_line (suc n) ++ p) ++ q) (of ∷ rest) (max d e)
more_members_step {p = p} {q = q} {first = first} {later = later} n h x y = back_by λ P into zs told.
    split P {es = symbols_in p} {fs = symbols_in q} zs (told ∙ more_members_step_told p q n) λ xs ys x_told y_told.
    let xr = x.back xs x_told in
    let yr = y.back ys y_told in
    into _ (record {
      tree = xr.tree ∷ yr.tree;
      own = max xr.own yr.own;
      reads = grammar.more_class_members xr.reads yr.reads h;
      below = omega (arith, xr.below, yr.below);
      same = ap_both (λ v vs. v ∷ vs) xr.same yr.same;
    })

class_step_told : (p : List Piece) (spelled : List ℕ) → symbols_in (word (codes "class") ++ space ++ word spelled ++ space ++ mark m.OpenBrace ++ p ++ new_line 0 ++ mark m.CloseBrace) ≡ Lex (c.Word w.Class) (codes "class") 0 ∷ Lex (c.Word (word_of spelled)) spelled 0 ∷ [] ++ Mark m.OpenBrace 0 ∷ symbols_in p ++ Mark m.CloseBrace 0 ∷ []
unfolding early_word middle_word late_word other_word last_word type_word named_word
class_step_told p spelled =
    alike (one (word (codes "class")) ⊕ one space ⊕ one (word spelled) ⊕ one space ⊕ one (mark m.OpenBrace) ⊕ one p ⊕ one (new_line 0) ⊕ one (mark m.CloseBrace)) (one (Lex (c.Word w.Class) (codes "class") 0 ∷ Lex (c.Word (word_of spelled)) spelled 0 ∷ []) ⊕ one (Mark m.OpenBrace 0 ∷ symbols_in p) ⊕ one (Mark m.CloseBrace 0 ∷ [])) refl

pub class_step : {o : Bool} {p : List Piece} {of : List ClassMember} {d : ℕ} {constructed : Bool} (at : ℕ) (spelled : List ℕ)
    → is_type_name (word_of spelled) ≡ true → Back (grammar.IsClassMembers o constructed) (map bare_class_member) p of d
    → Back (grammar.IsClass o) bare_class (word (codes "class") ++ space ++ word spelled ++ space ++ mark m.OpenBrace ++ p ++ new_line 0 ++ mark m.CloseBrace) (record { at = at; name = spelled; implements = []; members = of }) (d)
class_step {p = p} {constructed = constructed} at spelled h x = back_by λ P into zs told.
    split P {es = Lex (c.Word w.Class) (codes "class") 0 ∷ Lex (c.Word (word_of spelled)) spelled 0 ∷ [] ++ Mark m.OpenBrace 0 ∷ symbols_in p} {fs = Mark m.CloseBrace 0 ∷ []} zs (told ∙ class_step_told p spelled) λ front back front_told back_told.
    split (λ vs. P (vs ++ back)) {es = Lex (c.Word w.Class) (codes "class") 0 ∷ Lex (c.Word (word_of spelled)) spelled 0 ∷ []} {fs = Mark m.OpenBrace 0 ∷ symbols_in p} front front_told λ front2 back2 front2_told back2_told.
    split_lex (λ vs. P (vs ++ back2 ++ back)) front2 front2_told λ a more more_told.
    last_lex (λ vs. P (Lex (c.Word w.Class) (codes "class") a ∷ vs ++ back2 ++ back)) more more_told λ b.
    split_mark (λ vs. P (Lex (c.Word w.Class) (codes "class") a ∷ Lex (c.Word (word_of spelled)) spelled b ∷ [] ++ vs ++ back)) back2 back2_told λ j xs x_told.
    last_mark (λ vs. P (Lex (c.Word w.Class) (codes "class") a ∷ Lex (c.Word (word_of spelled)) spelled b ∷ [] ++ Mark m.OpenBrace j ∷ xs ++ vs)) back back_told λ l.
    let xr = x.back xs x_told in
    into _ (record {
      tree = record { at = b; name = spelled; implements = []; members = xr.tree };
      own = xr.own;
      reads = grammar.class (codes "class") a spelled b j l h grammar.no_bases xr.reads;
      below = omega (arith, xr.below);
      same = ap {B = ClassDeclaration} (λ v. record { at = 0; name = spelled; implements = []; members = v }) xr.same;
    })

-- ---- declarations and items

pub var_declaration_step : {o : Bool} {p : List Piece} {of : Var} {d : ℕ} → Back (g.IsVar o) bare_var p of d → Back (grammar.IsDeclaration o) bare_declaration p (declaration.Var of) d
var_declaration_step x = wrapped declaration.Var (λ of. refl) (λ xs of n r. grammar.var_declaration r) x

pub function_declaration_step : {o : Bool} {p : List Piece} {of : Function} {d : ℕ} → Back (g.IsFunction o) bare_function p of d → Back (grammar.IsDeclaration o) bare_declaration p (declaration.Function of) d
function_declaration_step x = wrapped declaration.Function (λ of. refl) (λ xs of n r. grammar.function_declaration r) x

pub class_declaration_step : {o : Bool} {p : List Piece} {of : ClassDeclaration} {d : ℕ} → Back (grammar.IsClass o) bare_class p of d → Back (grammar.IsDeclaration o) bare_declaration p (declaration.Class of) d
class_declaration_step x = wrapped declaration.Class (λ of. refl) (λ xs of n r. grammar.class_declaration r) x

exported_step_told : (p : List Piece) → symbols_in (exported_pieces true ++ p) ≡ Lex (c.Word w.Export) (codes "export") 0 ∷ [] ++ symbols_in p
unfolding early_word middle_word late_word other_word last_word type_word named_word
exported_step_told p = alike (one (exported_pieces true) ⊕ one p) (one (Lex (c.Word w.Export) (codes "export") 0 ∷ []) ⊕ one (symbols_in p)) refl

pub exported_step : {o : Bool} {p : List Piece} {of : Declaration} {d : ℕ}
    → Back (grammar.IsDeclaration o) bare_declaration p of d
    → Back (grammar.IsItem o) bare_item (exported_pieces true ++ p) (item.Declaration true of) (d)
exported_step {p = p} x = back_by λ P into zs told.
    split P {es = Lex (c.Word w.Export) (codes "export") 0 ∷ []} {fs = symbols_in p} zs (told ∙ exported_step_told p) λ front xs front_told x_told.
    last_lex (λ vs. P (vs ++ xs)) front front_told λ a.
    let xr = x.back xs x_told in
    into _ (record {
      tree = item.Declaration true xr.tree;
      own = xr.own;
      reads = grammar.declaration_item (worded (codes "export") a) xr.reads;
      below = omega (arith, xr.below);
      same = ap (λ v. item.Declaration true v) xr.same;
    })

pub declaration_step : {o : Bool} {p : List Piece} {of : Declaration} {d : ℕ} (exported : Bool) → Back (grammar.IsDeclaration o) bare_declaration p of d → Back (grammar.IsItem o) bare_item (exported_pieces exported ++ p) (item.Declaration exported of) d
declaration_step true x = exported_step x
declaration_step false x = told_by refl (wrapped (λ of. item.Declaration false of) (λ of. refl) (λ xs of n r. grammar.declaration_item unworded r) x)

pub import_item_step : {o : Bool} {p : List Piece} {of : Import} → Back ReadsImport bare_import p of 0 → Back (grammar.IsItem o) bare_item p (item.Import of) 0
import_item_step x = record { back = λ zs told. let r = x.back zs told in record { tree = item.Import r.tree; own = 0; reads = grammar.import_item r.reads; below = omega arith; same = ap item.Import r.same } }

pub export_item_step : {o : Bool} {p : List Piece} {of : ExportList} → Back ReadsExportList bare_export_list p of 0 → Back (grammar.IsItem o) bare_item p (item.ExportList of) 0
export_item_step x = record { back = λ zs told. let r = x.back zs told in record { tree = item.ExportList r.tree; own = 0; reads = grammar.export_list_item r.reads; below = omega arith; same = ap item.ExportList r.same } }

pub stmt_item_step : {o : Bool} {p : List Piece} {of : Stmt} {d : ℕ} → Back (g.IsStmt o g.no_body false) bare_stmt p of d → Back (grammar.IsItem o) bare_item p (item.Stmt of) d
stmt_item_step x = wrapped item.Stmt (λ of. refl) (λ xs of n r. grammar.stmt_item r) x

-- The symbols that are laid out of a file read as the erased file, item by item.
use Rattle.std.proofs.Common.{◌≡◌, ℕ, suc, ◌≤◌, Bool, true, false, not, if◌then◌else◌, cond, List, [], ◌∷◌, ◌++◌, map, flat_map, Some, None, refl, sym, ap, subst, ◌∙◌, arith, append_assoc}
use Rattle.std.specs.List.{AllByRecursion, list_all, list_any}
use Rattle.std.proofs.lemmas.List.{append-nil}
use Rattle.tb_tree.specs.declared.marks.Mark.TheVariants as m
use Rattle.tb_tree.specs.declared.words.Word.{Word}
use Rattle.tb_tree.specs.declared.words.Word.TheVariants as w
use Rattle.tb_tree.specs.declared.items.Specifier.{Specifier}
use Rattle.tb_tree.specs.declared.items.Spec.{Spec}
use Rattle.tb_tree.specs.declared.items.Import.{Import}
use Rattle.tb_tree.specs.declared.items.ExportList.{ExportList}
use Rattle.tb_tree.specs.declared.items.ClassMember.{ClassMember}
use Rattle.tb_tree.specs.declared.items.ClassDeclaration.{ClassDeclaration}
use Rattle.tb_tree.specs.declared.items.Declaration.{Declaration}
use Rattle.tb_tree.specs.declared.items.Item.{Item}
use Rattle.tb_tree.specs.declared.items.File.{File}
use Rattle.tb_tree.specs.Sym.{Sym, Mark}
use Rattle.tb_tree.specs.Words.{is_type_name}
use Rattle.tb_tree.specs.Shapes.{max_depth, word, IsListed, none_listed, last_listed, more_listed}
use Rattle.tb_tree.specs.Reading.{ReadsAs, no_items, more_items}
use Rattle.tb_tree.specs.Bare.{bare_class, bare_class_member, bare_item, bare_spec, bare_specifier}
use Rattle.tb_tree.specs.Items as grammar
use Rattle.tb_tree.specs.Items.{DerivesItem}
use Rattle.tb_tree.proofs.Ends.{ap_both}
use Rattle.tb_layout.specs.Pieces.{Piece, listed, new_line}
use Rattle.tb_layout.specs.Erase.{is_value_spec, erased_specs, stays_listed, erased_import, erased_export_list, erased_member, erased_class, erased_declaration, erased_item, is_module_item, empty_export, erase}
use Rattle.tb_layout.specs.Js.{spec_pieces, specs_pieces, from_pieces, class_pieces, item_pieces, file_pieces, lines}
use Rattle.tb_layout.specs.Steady.{is_steady_member, is_steady_declaration, is_steady_item, is_steady_file}
use Rattle.tb_layout.proofs.Written as written
use Rattle.tb_layout.proofs.Written.{js_member}
use Rattle.tb_emit_law.proofs.Symbols.{bare_sym, symbols_in}
use Rattle.tb_emit_law.specs.Law.{AreItems, are_none, are_more}
use Rattle.tb_emit_law.proofs.Back.{Back, Where, IsClassed, deeper, seen, fore, aft, part_left, part_right}
use Rattle.tb_emit_law.proofs.Splits.{split, split_none}
use Rattle.tb_emit_law.proofs.Flat.{one, ◌⊕◌, alike}
use Rattle.tb_emit_law.proofs.ListSteps.{behind, around}
use Rattle.tb_emit_law.proofs.ItemSteps as step
use Rattle.tb_emit_law.proofs.ItemSteps.{ReadsSpec, ReadsListed, ReadsSpecs, ReadsFrom}
use Rattle.tb_emit_law.proofs.ReadsTrees.{value_back, params_back, block_back, var_back, function_back, stmt_back}

-- ---- imports and export lists

spec_back : {local : Word → Word → Bool} {xs : List Sym} {of : Spec} → grammar.IsSpec local false xs of → AllByRecursion IsClassed xs → is_value_spec of ≡ true
    → Back (ReadsSpec local) bare_spec (spec_pieces of) of 0
spec_back {local = local} (grammar.plain_spec {kind = kind} spelled at h) all e = step.plain_spec_step local at spelled (sym (ap (λ k. local k k) all.0) ∙ h)
spec_back {local = local} (grammar.renamed_spec {kind = kind} {other = other} spelled at as_spelled as_at other_spelled other_at h) all e =
    step.renamed_spec_step local at other_at spelled other_spelled (sym (ap_both local all.0 all.1.1.0) ∙ h)
spec_back (grammar.type_spec type_spelled type_at spelled at t k h) all e = absurd (cc e)
spec_back (grammar.renamed_type_spec type_spelled type_at spelled at as_spelled as_at other_spelled other_at t k h) all e = absurd (cc e)

kept_spec : (local : Word → Word → Bool) (of : Spec) (rest : List Spec) → Back (ReadsSpec local) bare_spec (spec_pieces of) of 0 → Back (ReadsListed local) (map bare_spec) (listed (map spec_pieces rest)) rest 0
    → Back (ReadsListed local) (map bare_spec) (listed (map spec_pieces (of ∷ rest))) (of ∷ rest) 0
kept_spec local of [] x y = step.last_spec_step local x
kept_spec local of (next ∷ rest) x y = step.more_specs_step local x y

spec_by : (local : Word → Word → Bool) (of : Spec) (rest : List Spec) (b : Bool) → (b ≡ true → Back (ReadsSpec local) bare_spec (spec_pieces of) of 0) → Back (ReadsListed local) (map bare_spec) (listed (map spec_pieces rest)) rest 0
    → Back (ReadsListed local) (map bare_spec) (listed (map spec_pieces (cond b (of ∷ rest) rest))) (cond b (of ∷ rest) rest) 0
spec_by local of rest true f x = kept_spec local of rest (f refl) x
spec_by local of rest false f x = x

-- a Spec with `type` goes, and with it its comma
listed_back : {local : Word → Word → Bool} {xs : List Sym} {of : List Spec} → IsListed (grammar.IsSpec local false) xs of → AllByRecursion IsClassed xs
    → Back (ReadsListed local) (map bare_spec) (listed (map spec_pieces (erased_specs of))) (erased_specs of) 0
listed_back {local = local} none_listed all = step.no_specs_step local
listed_back {local = local} (last_listed {of = of} q) all = spec_by local of [] (is_value_spec of) (λ e. spec_back q all e) (step.no_specs_step local)
listed_back {local = local} (more_listed comma {xs = xs} {ys = ys} {of = of} {rest = rest} q r) all =
    spec_by local of (erased_specs rest) (is_value_spec of) (λ e. spec_back q (fore xs (Mark m.Comma comma ∷ ys) all) e) (listed_back r (aft xs (Mark m.Comma comma ∷ ys) all).1)

specs_back : {local : Word → Word → Bool} {xs : List Sym} {of : List Spec} → grammar.IsSpecs local false xs of → AllByRecursion IsClassed xs
    → Back (ReadsSpecs local) (map bare_spec) (specs_pieces (erased_specs of)) (erased_specs of) 0
specs_back {local = local} (grammar.specs a b {xs = xs} {of = of} q) all = step.specs_step local (map spec_pieces (erased_specs of)) (listed_back q (fore xs (Mark m.CloseBrace b ∷ []) all.1))

from_back : {xs : List Sym} {of : Specifier} → grammar.IsFrom xs of → Back ReadsFrom bare_specifier (from_pieces (Some of)) of 0
from_back (grammar.from from_spelled from_at spelled at) = step.from_step at spelled

-- an item that is left of one reads back
abbrev pub IsBack : Bool → ℕ → Item → Type 0
IsBack o d left = Back (grammar.IsItem o) bare_item (item_pieces left) left d

import_back : (o : Bool) {xs : List Sym} {of : Import} → grammar.IsImport xs of → AllByRecursion IsClassed xs → AllByRecursion (IsBack o 0) (erased_import of)
import_back o (grammar.import_list {type_only = true} spelled at i q r s) all = tt
import_back o (grammar.import_list {type_only = false} spelled at i {xs = xs} {ys = ys} {zs = zs} q r s) all =
    (step.import_item_step (step.import_list_step at (specs_back r (aft (word w.Import spelled at ∷ xs) ys (fore (word w.Import spelled at ∷ xs ++ ys) zs (fore (word w.Import spelled at ∷ xs ++ ys ++ zs) (Mark m.Semicolon i ∷ []) all)))) (from_back s)), tt)
import_back o (grammar.import_bare spelled at from_spelled from_at i) all = (step.import_item_step (step.import_bare_step at from_at from_spelled), tt)

kept : {o : Bool} {d : ℕ} (b : Bool) (left : Item) → IsBack o d left → AllByRecursion (IsBack o d) (if b then [] else (left ∷ []))
kept true left x = tt
kept false left x = (x, tt)

export_back : (o : Bool) {xs : List Sym} {of : ExportList} → grammar.IsExportList xs of → AllByRecursion IsClassed xs → AllByRecursion (IsBack o 0) (erased_export_list of)
export_back o (grammar.export_list {type_only = true} spelled at i q r) all = tt
export_back o (grammar.export_list {type_only = false} spelled at i {xs = xs} {ys = ys} {of = of} q r) all =
    kept (not (stays_listed of (erased_specs of) None)) _
    (step.export_item_step (step.export_list_step at (specs_back r (aft (word w.Export spelled at ∷ xs) ys (fore (word w.Export spelled at ∷ xs ++ ys) (Mark m.Semicolon i ∷ []) all)))))
export_back o (grammar.export_from {type_only = true} spelled at i q r s) all = tt
export_back o (grammar.export_from {type_only = false} spelled at i {xs = xs} {ys = ys} {zs = zs} {of = of} {origin = origin} q r s) all =
    kept (not (stays_listed of (erased_specs of) (Some origin))) _
    (step.export_item_step (step.export_from_step at (specs_back r (aft (word w.Export spelled at ∷ xs) ys (fore (word w.Export spelled at ∷ xs ++ ys) zs (fore (word w.Export spelled at ∷ xs ++ ys ++ zs) (Mark m.Semicolon i ∷ []) all)))) (from_back s)))

empty_back : {o : Bool} → IsBack o 0 empty_export
empty_back = step.export_item_step (step.export_list_step 0 (step.specs_step grammar.first_is_local [] (step.no_specs_step grammar.first_is_local)))

-- ---- classes, declarations and items

module _ (o : Bool) where
  member_back : {first : Bool} {xs : List Sym} {of : ClassMember} {d : ℕ} → grammar.IsClassMember true first xs of d → AllByRecursion IsClassed xs → Where o (is_steady_member of) → (n : ℕ)
      → Back (grammar.IsClassMember o first) bare_class_member (js_member of n) (erased_member of) d
  member_back (grammar.field {is_static = is_static} {read_only = read_only} {optional = optional} kind spelled at i {xs = xs} {ys = ys} {zs = zs} {vs = vs} {us = us} {shape = shape} {given = given} {d = d} {e = e} q r h s a v) all t n =
      seen (written.field_member at is_static read_only spelled optional shape given n) refl
      (deeper (behind d e) (step.field_step at is_static spelled
      (sym (ap grammar.is_member_name (aft (xs ++ ys) (word kind spelled at ∷ zs) (fore (xs ++ ys ++ word kind spelled at ∷ zs) vs (fore (xs ++ ys ++ word kind spelled at ∷ zs ++ vs) us (fore (xs ++ ys ++ word kind spelled at ∷ zs ++ vs ++ us) (Mark m.Semicolon i ∷ []) all)))).0) ∙ h)
      (value_back o v (aft (xs ++ ys ++ word kind spelled at ∷ zs ++ vs) us (fore (xs ++ ys ++ word kind spelled at ∷ zs ++ vs ++ us) (Mark m.Semicolon i ∷ []) all)) t n)))
  member_back (grammar.constructor spelled at i j {xs = xs} {ys = ys} {params = params} {of = of} q r) all t n =
      seen (written.constructor_member at params of n) refl
      (step.constructor_step at
      (params_back o q (fore (word w.Constructor spelled at ∷ Mark m.OpenParen i ∷ xs) (Mark m.CloseParen j ∷ ys) all).1.1 false (λ p. p) (part_left _ _ refl t) n)
      (block_back o r (aft (word w.Constructor spelled at ∷ Mark m.OpenParen i ∷ xs) (Mark m.CloseParen j ∷ ys) all).1 (part_right _ _ refl t) n))
  member_back (grammar.class_method {is_static = is_static} kind spelled at i j {xs = xs} {ys = ys} {zs = zs} {vs = vs} {params = params} {shape = shape} {of = of} {d = d} {e = e} {f = f} q h p a b) all t n =
      seen (written.method_member at is_static spelled params shape of n) refl
      (deeper (around d e f) (step.method_step at is_static spelled
      (sym (ap grammar.is_member_name (aft xs (word kind spelled at ∷ Mark m.OpenParen i ∷ ys) (fore (xs ++ word kind spelled at ∷ Mark m.OpenParen i ∷ ys) (Mark m.CloseParen j ∷ zs) (fore (xs ++ word kind spelled at ∷ Mark m.OpenParen i ∷ ys ++ Mark m.CloseParen j ∷ zs) vs all))).0) ∙ h)
      (params_back o p (aft xs (word kind spelled at ∷ Mark m.OpenParen i ∷ ys) (fore (xs ++ word kind spelled at ∷ Mark m.OpenParen i ∷ ys) (Mark m.CloseParen j ∷ zs) (fore (xs ++ word kind spelled at ∷ Mark m.OpenParen i ∷ ys ++ Mark m.CloseParen j ∷ zs) vs all))).1.1 false (λ k. k) (part_left _ _ refl t) n)
      (block_back o b (aft (xs ++ word kind spelled at ∷ Mark m.OpenParen i ∷ ys ++ Mark m.CloseParen j ∷ zs) vs all) (part_right _ _ refl t) n)))

  members_back : {first : Bool} {xs : List Sym} {of : List ClassMember} {d : ℕ} → grammar.IsClassMembers true first xs of d → AllByRecursion IsClassed xs → Where o (list_all is_steady_member of) → (n : ℕ)
      → Back (grammar.IsClassMembers o first) (map bare_class_member) (lines n (map js_member of)) (map erased_member of) d
  members_back grammar.no_class_members all t n = step.no_members_step
  members_back (grammar.more_class_members {xs = xs} {ys = ys} {of = of} {rest = rest} q r h) all t n =
      step.more_members_step n h (member_back q (fore xs ys all) (part_left (is_steady_member of) (list_all is_steady_member rest) refl t) (suc n)) (members_back r (aft xs ys all) (part_right (is_steady_member of) (list_all is_steady_member rest) refl t) n)

  class_back : {xs : List Sym} {of : ClassDeclaration} {d : ℕ} → grammar.IsClass true xs of d → AllByRecursion IsClassed xs → Where o (list_all is_steady_member of.members)
      → Back (grammar.IsClass o) bare_class (class_pieces (erased_class of)) (erased_class of) d
  class_back (grammar.class {kind = kind} class_spelled class_at spelled at i j {xs = xs} {ys = ys} {bases = bases} {of = of} h b q) all t =
      seen (written.class_out (record { at = at; name = spelled; implements = bases; members = of })) refl
      (step.class_step at spelled (sym (ap is_type_name all.1.0) ∙ h)
      (members_back q (aft (word w.Class class_spelled class_at ∷ word kind spelled at ∷ xs) (Mark m.OpenBrace i ∷ ys) (fore (word w.Class class_spelled class_at ∷ word kind spelled at ∷ xs ++ Mark m.OpenBrace i ∷ ys) (Mark m.CloseBrace j ∷ []) all)).1 t 0))

  declaration_back : {xs : List Sym} {of : Declaration} {d : ℕ} → grammar.IsDeclaration true xs of d → AllByRecursion IsClassed xs → Where o (is_steady_declaration of) → (exported : Bool)
      → AllByRecursion (IsBack o d) (erased_declaration exported of)
  declaration_back (grammar.var_declaration q) all t exported = (step.declaration_step exported (step.var_declaration_step (var_back o q all t 0)), tt)
  declaration_back (grammar.function_declaration q) all t exported = (step.declaration_step exported (step.function_declaration_step (function_back o q all t 0)), tt)
  declaration_back (grammar.class_declaration q) all t exported = (step.declaration_step exported (step.class_declaration_step (class_back q all t)), tt)
  declaration_back (grammar.interface_declaration q) all t exported = tt
  declaration_back (grammar.alias_declaration q) all t exported = tt

  item_back : {xs : List Sym} {of : Item} {d : ℕ} → grammar.IsItem true xs of d → AllByRecursion IsClassed xs → Where o (is_steady_item of) → AllByRecursion (IsBack o d) (erased_item of)
  item_back (grammar.import_item q) all t = import_back o q all
  item_back (grammar.export_list_item q) all t = export_back o q all
  item_back (grammar.declaration_item {exported = exported} {xs = xs} {ys = ys} q r) all t = declaration_back r (aft xs ys all) t exported
  item_back (grammar.stmt_item q) all t = (step.stmt_item_step (stmt_back o q all t 0), tt)

-- ---- files

-- the symbols are an item that is no deeper than one may be
abbrev pub JsItem : Bool → List Sym → Item → Type 0
JsItem o xs of = (d : ℕ) × grammar.IsItem o xs of d × (d ≤ max_depth)

-- the symbols are items, which are these but for offsets
abbrev pub ReadsAll : Bool → List Sym → List Item → Type 0
ReadsAll o seen lefts = (items : List Item) × AreItems (JsItem o) seen items × (map bare_item items ≡ map bare_item lefts)

abbrev line : Item → List Piece
line of = item_pieces of ++ new_line 0

-- the symbols that are laid out of items, one on each line, are these items
record LinesBack (o : Bool) (lefts : List Item) : Type 0 where
  pub back : (symbols : List Sym) → map bare_sym symbols ≡ symbols_in (flat_map line lefts) → ReadsAll o symbols lefts

no_lines : {o : Bool} → LinesBack o []
no_lines {o = o} = record { back = λ zs told. split_none (λ vs. ReadsAll o vs []) zs told ([], are_none, refl) }

line_told : (p q : List Piece) → symbols_in ((p ++ new_line 0) ++ q) ≡ symbols_in p ++ symbols_in q
line_told p q = alike (one p ⊕ one (new_line 0) ⊕ one q) (one (symbols_in p) ⊕ one (symbols_in q)) refl

more_lines : {o : Bool} {d : ℕ} (of : Item) (rest : List Item) → d ≤ max_depth → IsBack o d of → LinesBack o rest → LinesBack o (of ∷ rest)
more_lines {o = o} of rest h x y = record {
  back = λ zs told.
      split (λ vs. ReadsAll o vs (of ∷ rest)) {es = symbols_in (item_pieces of)} {fs = symbols_in (flat_map line rest)} zs (told ∙ line_told (item_pieces of) (flat_map line rest)) λ xs ys x_told y_told.
      let r = x.back xs x_told in
      let s = y.back ys y_told in
      (r.tree ∷ s.0, are_more (r.own, r.reads, omega (arith, r.below, h)) s.1, ap_both (λ v vs. v ∷ vs) r.same s.2);
}

lefts_more : {o : Bool} {d : ℕ} (lefts rest : List Item) → d ≤ max_depth → AllByRecursion (IsBack o d) lefts → LinesBack o rest → LinesBack o (lefts ++ rest)
lefts_more [] rest h all y = y
lefts_more (of ∷ lefts) rest h all y = more_lines of (lefts ++ rest) h all.0 (lefts_more lefts rest h all.1 y)

-- the items of a source, and then further ones
items_lines : {o : Bool} {source : List Sym} {items : List Item} → ReadsAs DerivesItem source items → AllByRecursion IsClassed source → Where o (list_all is_steady_item items) → (more : List Item) → LinesBack o more
    → LinesBack o (flat_map erased_item items ++ more)
items_lines no_items all t more y = y
items_lines {o = o} (more_items {xs = xs} {ys = ys} {of = of} {rest = rest} f r) all t more y =
    let whole : AllByRecursion IsClassed (f.front ++ ys) = subst (λ v. AllByRecursion IsClassed v) f.whole all in
    subst (λ v. LinesBack o v) (sym (append_assoc (erased_item of) (flat_map erased_item rest) more))
    (lefts_more (erased_item of) (flat_map erased_item rest ++ more) f.derives.2 (item_back o f.derives.1 (fore f.front ys whole) (part_left (is_steady_item of) (list_all is_steady_item rest) refl t))
    (items_lines r (aft f.front ys whole) (part_right (is_steady_item of) (list_all is_steady_item rest) refl t) more y))

module_lines : {o : Bool} (b : Bool) (items : List Item) → ((more : List Item) → LinesBack o more → LinesBack o (items ++ more)) → LinesBack o (if b then items else items ++ empty_export ∷ [])
module_lines {o = o} true items f = subst (λ v. LinesBack o v) (append-nil items) (f [] no_lines)
module_lines false items f = f (empty_export ∷ []) (more_lines empty_export [] (omega arith) empty_back no_lines)

-- The symbols that are laid out of a file that was read, wherever they stand, are the items of the erased file but for offsets; of the
-- language itself where no list of parameters has a `?` after a `=`.
pub derives_back : (o : Bool) (file : File) (source : List Sym) → AllByRecursion IsClassed source → ReadsAs DerivesItem source file.items → Where o (is_steady_file file)
    → (seen : List Sym) → map bare_sym seen ≡ symbols_in (file_pieces (erase file))
    → (items : List Item) × AreItems (λ xs of. (d : ℕ) × grammar.IsItem o xs of d × (d ≤ max_depth)) seen items × (map bare_item items ≡ map bare_item (erase file).items)
derives_back o file source all reads t seen told =
    let lines : LinesBack o (erase file).items = module_lines (list_any is_module_item (flat_map erased_item file.items)) (flat_map erased_item file.items) (λ more y. items_lines reads all t more y) in
    lines.back seen told

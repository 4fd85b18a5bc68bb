-- Reading the text of a surface answers this surface but for offsets, where each of its items reads back and scans.
use Rattle.std.proofs.Common.{◌≡◌, ℕ, List, [], ◌∷◌, ◌++◌, map, flat_map, Result, Ok, Err, refl, sym, ap, subst, ◌∙◌}
use Rattle.std.specs.Prelude.{not, ◌||◌, ◌&&◌}
use Rattle.std.specs.List.{AllByRecursion, list_any, list_all}
use Rattle.tb_text.specs.declared.findings.Finding.{Finding}
use Rattle.tb_text.specs.Messages.{without_mark}
use Rattle.tb_tree.specs.declared.items.Surface.{Surface}
use Rattle.tb_tree.specs.declared.items.SurfaceItem.{SurfaceItem}
use Rattle.tb_tree.specs.declared.items.SurfaceItem.TheVariants as surface_item
use Rattle.tb_tree.specs.Sym.{Sym}
use Rattle.tb_tree.specs.Bare.{bare_surface, bare_surface_item}
use Rattle.tb_tree.proofs.Ends.{ap_both}
use Rattle.tb_layout.specs.Pieces.{new_line, text_of}
use Rattle.tb_layout.specs.Quoted.{quoted_surface, quoted_surface_item}
use Rattle.tb_layout.specs.Dts.{is_export, is_import_or_export, needs_export, last_line, item_lines, dts_pieces, dts_text}
use Rattle.tb_scan.proofs.Unique.{scan_is_one}
use Rattle.tb_parse_type.specs.Symbols.{symbols}
use Rattle.tb_parse_file.specs.declared.FileFault.{FileFault}
use Rattle.tb_parse_file.specs.declared.FileFault.TheVariants as fault
use Rattle.tb_parse_file.specs.Files.{HasSymbols}
use Rattle.tb_parse_file.specs.Decls.{ReadsDeclItems, HasDeclFault, no_text, no_item, DeclStopsAt, DeclAnswers, all_kept}
use Rattle.tb_emit_law.specs.DtsLaw.{DerivesSurface, AnswersAs}
use Rattle.tb_emit_law.proofs.DeclItemSteps.{plain_item, twice_same}
use Rattle.tb_emit_law.proofs.DeclItems.{ItemBack}
use Rattle.tb_emit_law.proofs.DeclItemScan.{ItemFits}
use Rattle.tb_emit_law.proofs.DeclShown.{item_same}
use Rattle.tb_emit_law.proofs.DeclRows.{RowBack, row_back, row_reads, row_never_stops}
use Rattle.tb_emit_law.proofs.DeclText.{surface_symbols}

-- ---- the layout of a surface is that of the same with its strings in one spelling

lines_same : (items : List SurfaceItem) → flat_map item_lines (map quoted_surface_item items) ≡ flat_map item_lines items
lines_same [] = refl
lines_same (of ∷ items) = ap_both (λ v u. v ++ new_line 0 ++ u) (item_same of) (lines_same items)

export_same : (of : SurfaceItem) → is_export (quoted_surface_item of) ≡ is_export of
export_same (surface_item.Import of) = refl
export_same (surface_item.ExportList of) = refl
export_same (surface_item.Declaration exported of) = refl

import_same : (of : SurfaceItem) → is_import_or_export (quoted_surface_item of) ≡ is_import_or_export of
import_same (surface_item.Import of) = refl
import_same (surface_item.ExportList of) = refl
import_same (surface_item.Declaration exported of) = refl

any_same : (items : List SurfaceItem) → list_any is_export (map quoted_surface_item items) ≡ list_any is_export items
any_same [] = refl
any_same (of ∷ items) = ap_both (λ v u. v || u) (export_same of) (any_same items)

all_same : (items : List SurfaceItem) → list_all is_import_or_export (map quoted_surface_item items) ≡ list_all is_import_or_export items
all_same [] = refl
all_same (of ∷ items) = ap_both (λ v u. v && u) (import_same of) (all_same items)

needs_same : (items : List SurfaceItem) → needs_export (map quoted_surface_item items) ≡ needs_export items
needs_same items = ap_both (λ v u. not v || not u) (any_same items) (all_same items)

pieces_same : (of : Surface) → dts_pieces (quoted_surface of) ≡ dts_pieces of
pieces_same of = ap_both (λ v u. v ++ last_line u) (lines_same of.items) (needs_same of.items)

-- ---- reading

same_symbols : {text : List ℕ} {a b : List Sym} → HasSymbols text a → HasSymbols text b → a ≡ b
same_symbols {text = text} h g = h.same ∙ (ap (λ ts. symbols (without_mark text) ts) (scan_is_one (without_mark text) 0 [] h.tokens g.tokens h.scanned g.scanned) ∙ sym g.same)

abbrev surface_of : List SurfaceItem → Surface
surface_of items = record { items = items }

-- the same items, with their strings in one spelling, are equal but for offsets
same_surface : (of left : List SurfaceItem) → map plain_item of ≡ map plain_item left → bare_surface (quoted_surface (surface_of of)) ≡ bare_surface (quoted_surface (surface_of left))
same_surface of left e = ap surface_of (twice_same bare_surface_item quoted_surface_item of left e)

answer : (text : List ℕ) (left : Surface) {seen : List Sym} → HasSymbols text seen → RowBack seen left.items → (result : Result Surface FileFault) → DeclAnswers text result → AnswersAs (quoted_surface left) result
answer text left {seen = seen} h row (Ok back) r =
    let same = row_reads (subst (λ v. ReadsDeclItems v r.items) (same_symbols r.symbols h) r.reads) row.row in
    let kept : map plain_item (all_kept r.items) ≡ map plain_item left.items = ap (λ v. map plain_item (all_kept v)) same ∙ row.same in
    ap bare_surface r.same ∙ same_surface (all_kept r.items) left.items kept
answer text left {seen = seen} h row (Err (fault.Syntax finding)) r = refused r
  where
    refused : {x : Finding} → HasDeclFault text x → ⊥
    refused (no_text n) = n h.utf8
    refused (no_item {at = at} s q) = row_never_stops (subst (λ v. DeclStopsAt v at) (same_symbols s h) q) row.row
answer text left h row (Err fault.NoMemory) r = tt

pub given_derives : (left : Surface) → AllByRecursion ItemBack left.items → AllByRecursion ItemFits left.items → DerivesSurface (dts_text (quoted_surface left)) (quoted_surface left)
given_derives left backs fits =
    let last = needs_export left.items in
    let told = surface_symbols left.items last fits in
    let row = row_back left.items backs last told.0 told.2 in
    record {
      seen = told.0;
      symbols = subst (λ v. HasSymbols (text_of v) told.0) (sym (pieces_same left)) told.1;
      items = row.back;
      are = row.row;
      same = same_surface (all_kept row.back) left.items row.same;
    }

-- its items as they were read, whichever spelling their strings have
pub given_answers : (left : Surface) → AllByRecursion ItemBack left.items → AllByRecursion ItemFits left.items
    → (result : Result Surface FileFault) → DeclAnswers (dts_text (quoted_surface left)) result → AnswersAs (quoted_surface left) result
given_answers left backs fits result answers =
    let last = needs_export left.items in
    let told = surface_symbols left.items last fits in
    let row = row_back left.items backs last told.0 told.2 in
    answer (dts_text left) left told.1 row result (subst (λ v. DeclAnswers (text_of v) result) (pieces_same left) answers)

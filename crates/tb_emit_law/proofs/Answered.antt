-- Reading the JavaScript of a file answers the erased file but for offsets, where no list of parameters has a `?` after a `=`.
use Rattle.std.proofs.Common.{◌≡◌, ℕ, true, List, [], map, Result, Ok, Err, sym, ap, subst, ◌∙◌}
use Rattle.tb_text.specs.declared.findings.Finding.{Finding}
use Rattle.tb_text.specs.Messages.{without_mark}
use Rattle.tb_tree.specs.declared.items.File.{File}
use Rattle.tb_tree.specs.declared.items.Item.{Item}
use Rattle.tb_tree.specs.Sym.{Sym}
use Rattle.tb_tree.specs.Bare.{bare_item}
use Rattle.tb_tree.specs.Items.{DerivesItem}
use Rattle.tb_layout.specs.Erase.{erase}
use Rattle.tb_layout.specs.Js.{js_text}
use Rattle.tb_layout.specs.Steady.{is_steady_file}
use Rattle.tb_scan.proofs.Unique.{scan_is_one}
use Rattle.tb_parse_type.specs.Symbols.{symbols}
use Rattle.tb_parse_file.specs.declared.FileFault.{FileFault}
use Rattle.tb_parse_file.specs.declared.FileFault.TheVariants as fault
use Rattle.tb_parse_file.specs.Files.{HasSymbols, ReadsFile, ReadsItems, HasFault, no_text, no_item, StopsAt, Answers}
use Rattle.tb_parse_file.proofs.ItemRows.{Row, no_row, more_row, row_reads, row_never_stops}
use Rattle.tb_emit_law.specs.Law.{AreItems, are_none, are_more, AnswersAs}
use Rattle.tb_emit_law.proofs.Source.{source_formed}
use Rattle.tb_emit_law.proofs.JsText.{js_symbols}
use Rattle.tb_emit_law.proofs.ReadsItems.{derives_back}
use Rattle.tb_emit_law.proofs.Derives.{all_classed}

same_symbols : {text : List ℕ} {a b : List Sym} → HasSymbols text a → HasSymbols text b → a ≡ b
same_symbols {text = text} h g = h.same ∙ (ap (λ ts. symbols (without_mark text) ts) (scan_is_one (without_mark text) 0 [] h.tokens g.tokens h.scanned g.scanned) ∙ sym g.same)

pub row_of : {xs : List Sym} {of : List Item} → AreItems DerivesItem xs of → Row xs of
row_of are_none = no_row
row_of (are_more d r) = more_row d (row_of r)

abbrev file_of : List Item → File
file_of items = record { items = items }

-- what is read, where the symbols of the text are these items
answer : (text : List ℕ) (left : File) {seen : List Sym} {items : List Item} → HasSymbols text seen → Row seen items → map bare_item items ≡ map bare_item left.items
    → (result : Result File FileFault) → Answers text result → AnswersAs left result
answer text left h row e (Ok back) r =
    let same = row_reads (subst (λ v. ReadsItems v back.items) (same_symbols r.symbols h) r.items) row in
    ap file_of (ap (λ v. map bare_item v) same ∙ e)
answer text left h row e (Err (fault.Syntax finding)) r = refused r
  where
    refused : {x : Finding} → HasFault text x → ⊥
    refused (no_text n) = n h.utf8
    refused (no_item {at = at} s q) = row_never_stops (subst (λ v. StopsAt v at) (same_symbols s h) q) row
answer text left h row e (Err fault.NoMemory) r = tt

pub js_reads : (source : List ℕ) (file : File) → ReadsFile source file → is_steady_file file ≡ true → (result : Result File FileFault) → Answers (js_text (erase file)) result → AnswersAs (erase file) result
js_reads source file r steady result answers =
    let told = js_symbols source file r in
    let read = derives_back true file r.seen (all_classed r.seen (source_formed r.symbols)) r.items (λ e. steady) told.0 told.2 in
    answer (js_text (erase file)) (erase file) told.1 (row_of read.1) read.2 result answers

-- Each item of the JavaScript of a file is the longest front of the rest that is one, where no list of parameters has a `?` after a `=`.
use Rattle.std.proofs.Common.{◌≡◌, ◌≤◌, ℕ, true, List, [], ◌∷◌, ◌++◌, length, ap, arith, length-append}
use Rattle.tb_tree.specs.declared.items.File.{File}
use Rattle.tb_tree.specs.declared.items.Item.{Item}
use Rattle.tb_tree.specs.Sym.{Sym}
use Rattle.tb_tree.specs.Items.{DerivesItem}
use Rattle.tb_layout.specs.Erase.{erase}
use Rattle.tb_layout.specs.Js.{js_text}
use Rattle.tb_layout.specs.Steady.{is_steady_file}
use Rattle.tb_parse_file.specs.Files.{ReadsFile}
use Rattle.tb_parse_file.proofs.ItemRows.{row_followed}
use Rattle.tb_parse_file.proofs.Parting.{longest_item}
use Rattle.tb_emit_law.specs.Law.{AreItems, are_none, are_more, AreLongest, none_longest, more_longest, DerivesLongest}
use Rattle.tb_emit_law.proofs.Source.{source_formed}
use Rattle.tb_emit_law.proofs.JsText.{js_symbols}
use Rattle.tb_emit_law.proofs.ReadsItems.{derives_back}
use Rattle.tb_emit_law.proofs.Derives.{all_classed}
use Rattle.tb_emit_law.proofs.Answered.{row_of}

no_longer : (xs ys a zs : List Sym) → xs ++ ys ≡ a ++ zs → length ys ≤ length zs → length a ≤ length xs
no_longer xs ys a zs w h = omega (arith, h, ap length w, length-append xs ys, length-append a zs)

longest_of : {xs : List Sym} {of : List Item} → AreItems DerivesItem xs of → AreLongest xs of
longest_of are_none = none_longest
longest_of (are_more {xs = xs} {ys = ys} d r) =
    more_longest d (λ a other zs q w. no_longer xs ys a zs w (longest_item ys zs d.1 q.1 w (row_followed (row_of r)))) (longest_of r)

pub js_derives_longest : (source : List ℕ) (file : File) → ReadsFile source file → is_steady_file file ≡ true → DerivesLongest (js_text (erase file)) (erase file)
js_derives_longest source file r steady =
    let told = js_symbols source file r in
    let read = derives_back true file r.seen (all_classed r.seen (source_formed r.symbols)) r.items (λ e. steady) told.0 told.2 in
    record { seen = told.0; symbols = told.1; items = read.0; are = longest_of read.1; same = read.2 }

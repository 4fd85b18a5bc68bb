-- The tokens of the JavaScript of a file that was read are the items of the erased file.
use Rattle.std.proofs.Common.{ℕ, false, List, [], ◌∷◌}
use Rattle.std.specs.List.{AllByRecursion}
use Rattle.tb_tree.specs.declared.words.Class.TheVariants as c
use Rattle.tb_tree.specs.declared.items.File.{File}
use Rattle.tb_tree.specs.Sym.{Sym, Lex}
use Rattle.tb_layout.specs.Erase.{erase}
use Rattle.tb_layout.specs.Js.{js_text}
use Rattle.tb_parse_file.specs.Files.{ReadsFile}
use Rattle.tb_emit_law.specs.Law.{DerivesBack}
use Rattle.tb_emit_law.proofs.Back.{IsClassed}
use Rattle.tb_emit_law.proofs.Source.{IsFormed, source_formed}
use Rattle.tb_emit_law.proofs.JsText.{js_symbols}
use Rattle.tb_emit_law.proofs.ReadsItems.{derives_back}

classed : (s : Sym) → IsFormed s → IsClassed s
classed (Lex (c.Word kind) spelled at) h = h.0
classed _ h = tt

pub all_classed : (source : List Sym) → AllByRecursion IsFormed source → AllByRecursion IsClassed source
all_classed [] h = tt
all_classed (s ∷ source) h = (classed s h.0, all_classed source h.1)

pub js_derives : (source : List ℕ) (file : File) → ReadsFile source file → DerivesBack (js_text (erase file)) (erase file)
js_derives source file r =
    let told = js_symbols source file r in
    let read = derives_back false file r.seen (all_classed r.seen (source_formed r.symbols)) r.items (λ e. absurd (cc e)) told.0 told.2 in
    record { seen = told.0; symbols = told.1; items = read.0; are = read.1; same = read.2 }

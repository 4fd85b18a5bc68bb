-- A source reads as one file at most, and does not both read and have a fault.
use Rattle.std.proofs.Common.{◌≡◌, ℕ, List, [], refl, sym, ap, subst, ◌∙◌}
use Rattle.tb_text.specs.declared.findings.Finding.{Finding}
use Rattle.tb_text.specs.Messages.{without_mark}
use Rattle.tb_tree.specs.declared.items.File.{File}
use Rattle.tb_tree.specs.declared.items.Item.{Item}
use Rattle.tb_tree.specs.Sym.{Sym}
use Rattle.tb_parse_file.specs.Files.{ReadsItems, StopsAt}
use Rattle.tb_parse_file.proofs.Unique.{one_reading, reads_or_stops, one_stop}
use Rattle.std.specs.Prelude.{Result, Ok, Err}
use Rattle.tb_parse_file.specs.declared.FileFault.{FileFault}
use Rattle.tb_parse_file.specs.declared.FileFault.TheVariants as fault
use Rattle.tb_parse_type.specs.Symbols.{symbols}
use Rattle.tb_parse_file.specs.Files.{HasSymbols, ReadsFile, HasFault, no_text, no_item, finding, Answers, IsFile, IsFault}
use Rattle.tb_scan.proofs.Unique.{scan_is_one}

-- a text has one list of symbols
pub same_symbols : {text : List ℕ} {a b : List Sym} → HasSymbols text a → HasSymbols text b → a ≡ b
same_symbols {text = text} h g = h.same ∙ ap (λ ts. symbols (without_mark text) ts) (scan_is_one (without_mark text) 0 [] h.tokens g.tokens h.scanned g.scanned) ∙ sym g.same

abbrev file_of : List Item → File
file_of items = record { items = items }

pub one_file : {text : List ℕ} {f g : File} → ReadsFile text f → ReadsFile text g → f ≡ g
one_file {g = g} r q = ap file_of (one_reading r.items (subst (λ v. ReadsItems v g.items) (sym (same_symbols r.symbols q.symbols)) q.items))

pub reads_or_faults : {text : List ℕ} {f : File} {x : Finding} → ReadsFile text f → HasFault text x → ⊥
reads_or_faults r (no_text h) = h r.symbols.utf8
reads_or_faults r (no_item {at = at} s q) = reads_or_stops r.items (subst (λ v. StopsAt v at) (sym (same_symbols r.symbols s)) q)

pub one_fault : {text : List ℕ} {x y : Finding} → HasFault text x → HasFault text y → x ≡ y
one_fault (no_text h) (no_text g) = refl
one_fault (no_text h) (no_item s q) = absurd (h s.utf8)
one_fault (no_item s q) (no_text h) = absurd (h s.utf8)
one_fault (no_item {at = at} s q) (no_item {at = other} t r) =
    ap (λ (n : ℕ). finding n 1001) (one_stop q (subst (λ v. StopsAt v other) (sym (same_symbols s t)) r))

-- ---- so an answer is the one that there is

pub file_answer : {text : List ℕ} {f : File} (r : Result File FileFault) → Answers text r → ReadsFile text f → IsFile f r
file_answer (Ok g) a h = one_file a h
file_answer (Err (fault.Syntax x)) a h = reads_or_faults h a
file_answer (Err fault.NoMemory) a h = tt

pub fault_answer : {text : List ℕ} {x : Finding} (r : Result File FileFault) → Answers text r → HasFault text x → IsFault x r
fault_answer (Ok g) a h = reads_or_faults a h
fault_answer (Err (fault.Syntax y)) a h = one_fault a h
fault_answer (Err fault.NoMemory) a h = tt

-- How a source reads: as a file, or with one syntax fault.
use Rattle.std.specs.Prelude.{⊤, ℕ, ◌≡◌, true, List, [], Result, Ok, Err}
use Rattle.std.specs.Str.{IsUtf8}
use Rattle.tb_text.specs.declared.findings.Finding.{Finding}
use Rattle.tb_text.specs.Messages.{without_mark}
use Rattle.tb_scan.specs.declared.token.Token.{Token}
use Rattle.tb_scan.specs.Tokens.{Scans}
use Rattle.tb_tree.specs.declared.items.File.{File}
use Rattle.tb_tree.specs.declared.items.Item.{Item}
use Rattle.tb_tree.specs.Sym.{Sym}
use Rattle.tb_tree.specs.Items.{DerivesItem}
use Rattle.tb_tree.specs.Reading as reading
use Rattle.tb_parse_type.specs.Symbols.{symbols}
use Rattle.tb_parse_file.specs.declared.FileFault.{FileFault}
use Rattle.tb_parse_file.specs.declared.FileFault.TheVariants as fault

-- the symbols of a source in UTF-8: its tokens without a leading byte order mark, from which offsets are counted
pub record HasSymbols (text : List ℕ) (seen : List Sym) : Type 0 where
  pub utf8 : IsUtf8 text
  pub tokens : List Token
  pub scanned : Scans (without_mark text) 0 [] tokens
  pub same : seen ≡ symbols (without_mark text) tokens

-- the symbols are items, each the longest front of the rest that derives one
abbrev pub ReadsItems : List Sym → List Item → Type 0
ReadsItems = reading.ReadsAs DerivesItem

-- after such items no front of the rest derives one, and the rest begins at this offset
abbrev pub StopsAt : List Sym → ℕ → Type 0
StopsAt = reading.StopsAt DerivesItem

-- the source reads as this file: its symbols are the file's items
pub record ReadsFile (text : List ℕ) (file : File) : Type 0 where
  pub seen : List Sym
  pub symbols : HasSymbols text seen
  pub items : ReadsItems seen file.items

-- a finding of this project's own at a place
abbrev pub finding : ℕ → ℕ → Finding
finding at number = record { offset = at; code = record { own = true; number = number }; first = []; second = [] }

-- the one syntax fault of a source: it is not UTF-8; or an item is not derived, at its first token
pub data HasFault (text : List ℕ) : Finding → Type 0 where
  no_text : (IsUtf8 text → ⊥) → HasFault text (finding 0 1002)
  no_item : {seen : List Sym} {at : ℕ} → HasSymbols text seen → StopsAt seen at → HasFault text (finding at 1001)

-- what reading a source answers
abbrev pub Answers : List ℕ → Result File FileFault → Type 0
Answers text (Ok file) = ReadsFile text file
Answers text (Err (fault.Syntax finding)) = HasFault text finding
Answers text (Err fault.NoMemory) = ⊤

-- the answer is this file, or this fault, where memory was not refused
abbrev pub IsFile : File → Result File FileFault → Type 0
IsFile file (Ok found) = found ≡ file
IsFile file (Err (fault.Syntax found)) = ⊥
IsFile file (Err fault.NoMemory) = ⊤

abbrev pub IsFault : Finding → Result File FileFault → Type 0
IsFault finding (Ok found) = ⊥
IsFault finding (Err (fault.Syntax found)) = found ≡ finding
IsFault finding (Err fault.NoMemory) = ⊤

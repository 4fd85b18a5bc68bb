-- How a source reads as a declaration file: as a surface, or with one syntax fault. A surface has each of its strings in the one
-- spelling of its value.
use Rattle.std.specs.Prelude.{⊤, ℕ, ◌≡◌, List, flat_map, Result, Ok, Err}
use Rattle.std.specs.Str.{IsUtf8}
use Rattle.tb_text.specs.declared.findings.Finding.{Finding}
use Rattle.tb_tree.specs.declared.items.Surface.{Surface}
use Rattle.tb_tree.specs.declared.items.SurfaceItem.{SurfaceItem}
use Rattle.tb_tree.specs.Sym.{Sym}
use Rattle.tb_tree.specs.Surfaces.{DerivesDeclItem}
use Rattle.tb_tree.specs.Reading as reading
use Rattle.tb_layout.specs.Quoted.{quoted_surface}
use Rattle.tb_parse_file.specs.declared.FileFault.{FileFault}
use Rattle.tb_parse_file.specs.declared.FileFault.TheVariants as fault
use Rattle.tb_parse_file.specs.Files.{HasSymbols, finding}

-- The symbols are items, each the longest front of the rest that derives one. Each item has what is kept of it: itself, or nothing.
abbrev pub ReadsDeclItems : List Sym → List (List SurfaceItem) → Type 0
ReadsDeclItems = reading.ReadsAs DerivesDeclItem

-- after such items no front of the rest derives one, and the rest begins at this offset
abbrev pub DeclStopsAt : List Sym → ℕ → Type 0
DeclStopsAt = reading.StopsAt DerivesDeclItem

abbrev pub all_kept : List (List SurfaceItem) → List SurfaceItem
all_kept items = flat_map (λ (kept : List SurfaceItem). kept) items

-- the source reads as this surface: what is kept of its items, with the strings in their one spelling
pub record ReadsDecl (text : List ℕ) (surface : Surface) : Type 0 where
  pub seen : List Sym
  pub symbols : HasSymbols text seen
  pub items : List (List SurfaceItem)
  pub reads : ReadsDeclItems seen items
  pub same : surface ≡ quoted_surface (record { items = all_kept items })

-- the one syntax fault: it is not UTF-8; or an item is not derived, at its first token
pub data HasDeclFault (text : List ℕ) : Finding → Type 0 where
  no_text : (IsUtf8 text → ⊥) → HasDeclFault text (finding 0 1002)
  no_item : {seen : List Sym} {at : ℕ} → HasSymbols text seen → DeclStopsAt seen at → HasDeclFault text (finding at 1001)

-- what reading answers
abbrev pub DeclAnswers : List ℕ → Result Surface FileFault → Type 0
DeclAnswers text (Ok surface) = ReadsDecl text surface
DeclAnswers text (Err (fault.Syntax finding)) = HasDeclFault text finding
DeclAnswers text (Err fault.NoMemory) = ⊤

-- the answer is this surface, or this fault, where memory was not refused
abbrev pub IsSurface : Surface → Result Surface FileFault → Type 0
IsSurface surface (Ok found) = found ≡ surface
IsSurface surface (Err (fault.Syntax found)) = ⊥
IsSurface surface (Err fault.NoMemory) = ⊤

abbrev pub IsDeclFault : Finding → Result Surface FileFault → Type 0
IsDeclFault finding (Ok found) = ⊥
IsDeclFault finding (Err (fault.Syntax found)) = found ≡ finding
IsDeclFault finding (Err fault.NoMemory) = ⊤

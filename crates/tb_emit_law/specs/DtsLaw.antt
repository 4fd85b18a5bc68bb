-- The law of declarations: the declaration file of a surface reads back as that surface, for every surface that a source file has or that
-- a declaration file reads as. This project's own.
use Rattle.std.specs.Prelude.{◌≡◌, ⊤, ℕ, List, [], ◌∷◌, ◌++◌, Result, Ok, Err}
use Rattle.tb_tree.specs.declared.items.File.{File}
use Rattle.tb_tree.specs.declared.items.Surface.{Surface}
use Rattle.tb_tree.specs.declared.items.SurfaceItem.{SurfaceItem}
use Rattle.tb_tree.specs.Sym.{Sym}
use Rattle.tb_tree.specs.Surfaces.{DerivesDeclItem}
use Rattle.tb_tree.specs.Bare.{bare_surface}
use Rattle.tb_layout.specs.Surface.{surface}
use Rattle.tb_layout.specs.Dts.{dts_text}
use Rattle.tb_layout.specs.Quoted.{quoted_surface}
use Rattle.tb_parse_file.specs.declared.FileFault.{FileFault}
use Rattle.tb_parse_file.specs.declared.FileFault.TheVariants as fault
use Rattle.tb_parse_file.specs.Files.{HasSymbols, ReadsFile}
use Rattle.tb_parse_file.specs.Decls.{ReadsDecl, DeclAnswers, all_kept}

-- a surface that there is
pub data IsGiven : Surface → Type 0 where
  of_file : (source : List ℕ) (file : File) → ReadsFile source file → IsGiven (surface file)
  of_text : (text : List ℕ) (of : Surface) → ReadsDecl text of → IsGiven of

-- the symbols are these items, one after the other, each with what is kept of it
pub data AreDeclItems : List Sym → List (List SurfaceItem) → Type 0 where
  no_decl_items : AreDeclItems [] []
  more_decl_items : {xs ys : List Sym} {of : List SurfaceItem} {rest : List (List SurfaceItem)} → DerivesDeclItem xs of → AreDeclItems ys rest → AreDeclItems (xs ++ ys) (of ∷ rest)

-- the tokens of a text are the items of this surface, but for offsets
pub record DerivesSurface (text : List ℕ) (of : Surface) : Type 0 where
  pub seen : List Sym
  pub symbols : HasSymbols text seen
  pub items : List (List SurfaceItem)
  pub are : AreDeclItems seen items
  pub same : bare_surface (quoted_surface (record { items = all_kept items })) ≡ bare_surface of

abbrev pub DtsDerives : Type 0
DtsDerives = (of : Surface) → IsGiven of → DerivesSurface (dts_text of) of

-- what reading answers: this surface but for offsets, or that memory was refused
abbrev pub AnswersAs : Surface → Result Surface FileFault → Type 0
AnswersAs of (Ok back) = bare_surface back ≡ bare_surface of
AnswersAs of (Err (fault.Syntax finding)) = ⊥
AnswersAs of (Err fault.NoMemory) = ⊤

abbrev pub DtsReads : Type 0
DtsReads = (of : Surface) → IsGiven of → (back : Surface) × ReadsDecl (dts_text of) back × (bare_surface back ≡ bare_surface of)

abbrev pub DtsReadsBack : Type 0
DtsReadsBack = (of : Surface) → IsGiven of → (result : Result Surface FileFault) → DeclAnswers (dts_text of) result → AnswersAs of result

-- How a declaration file reads is determined: laws of the definitions. This project's own.
use Rattle.std.specs.Prelude.{◌≡◌, ℕ, List}
use Rattle.tb_text.specs.declared.findings.Finding.{Finding}
use Rattle.tb_tree.specs.declared.items.Surface.{Surface}
use Rattle.tb_parse_file.specs.Decls.{ReadsDecl, HasDeclFault}

-- a declaration file reads as one surface
abbrev pub SurfaceIsOne : Type 0
SurfaceIsOne = (text : List ℕ) (surface other : Surface) → ReadsDecl text surface → ReadsDecl text other → surface ≡ other

-- a declaration file has one fault
abbrev pub FaultIsOne : Type 0
FaultIsOne = (text : List ℕ) (fault other : Finding) → HasDeclFault text fault → HasDeclFault text other → fault ≡ other

-- a declaration file that reads has no fault
abbrev pub NotBoth : Type 0
NotBoth = (text : List ℕ) (surface : Surface) (fault : Finding) → ReadsDecl text surface → HasDeclFault text fault → ⊥

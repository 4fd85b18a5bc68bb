-- How a source reads is determined: laws of the definitions. This project's own.
use Rattle.std.specs.Prelude.{◌≡◌, ℕ, List}
use Rattle.tb_text.specs.declared.findings.Finding.{Finding}
use Rattle.tb_tree.specs.declared.items.File.{File}
use Rattle.tb_parse_file.specs.Files.{ReadsFile, HasFault}

-- a source reads as one file
abbrev pub FileIsOne : Type 0
FileIsOne = (text : List ℕ) (file other : File) → ReadsFile text file → ReadsFile text other → file ≡ other

-- a source has one fault
abbrev pub FaultIsOne : Type 0
FaultIsOne = (text : List ℕ) (fault other : Finding) → HasFault text fault → HasFault text other → fault ≡ other

-- a source that reads has no fault
abbrev pub NotBoth : Type 0
NotBoth = (text : List ℕ) (file : File) (fault : Finding) → ReadsFile text file → HasFault text fault → ⊥

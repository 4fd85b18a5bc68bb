-- A declaration file reads as one surface at most, has one fault at most, and never both.
use Rattle.std.proofs.Common.{◌≡◌, ℕ, List}
use Rattle.std.specs.Prelude.{Ok, Err}
use Rattle.tb_text.specs.declared.findings.Finding.{Finding}
use Rattle.tb_tree.specs.declared.items.Surface.{Surface}
use Rattle.tb_parse_file.specs.declared.FileFault.TheVariants as fault
use Rattle.tb_parse_file.specs.Decls.{ReadsDecl, HasDeclFault}
use Rattle.tb_parse_file.proofs.OneDecl.{surface_answer, fault_answer}

pub one_surface : {text : List ℕ} {surface other : Surface} → ReadsDecl text surface → ReadsDecl text other → surface ≡ other
one_surface {surface = surface} r q = surface_answer (Ok surface) r q

pub one_fault : {text : List ℕ} {finding other : Finding} → HasDeclFault text finding → HasDeclFault text other → finding ≡ other
one_fault {finding = finding} r q = fault_answer (Err (fault.Syntax finding)) r q

pub not_both : {text : List ℕ} {surface : Surface} {finding : Finding} → ReadsDecl text surface → HasDeclFault text finding → ⊥
not_both {surface = surface} r q = fault_answer (Ok surface) r q

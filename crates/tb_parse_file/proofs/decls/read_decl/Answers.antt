use Rattle.tb_parse_file.proofs.OneDecl.{surface_answer, fault_answer}
use Rattle.tb_parse_file.proofs.decls.read_decl.Goals as goal

pub returns-clause-surface : goal.returns-clause-surface
returns-clause-surface c surface h = surface_answer c.decl_bytes.result c.decl_bytes.ensures h

pub returns-clause-fault : goal.returns-clause-fault
returns-clause-fault c finding h = fault_answer c.decl_bytes.result c.decl_bytes.ensures h

use Rattle.tb_parse_file.proofs.OneFile.{file_answer, fault_answer}
use Rattle.tb_parse_file.proofs.read_file.Goals as goal

pub returns-clause-file : goal.returns-clause-file
returns-clause-file c file h = file_answer c.read_bytes.result c.read_bytes.ensures h

pub returns-clause-fault : goal.returns-clause-fault
returns-clause-fault c finding h = fault_answer c.read_bytes.result c.read_bytes.ensures h

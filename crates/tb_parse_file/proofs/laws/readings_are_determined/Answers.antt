use Rattle.tb_parse_file.proofs.OneFile.{one_file, one_fault, reads_or_faults}
use Rattle.tb_parse_file.proofs.laws.readings_are_determined.Goals as goal

pub returns-clause-file : goal.returns-clause-file
returns-clause-file c text file other r q = one_file r q

pub returns-clause-fault : goal.returns-clause-fault
returns-clause-fault c text fault other r q = one_fault r q

pub returns-clause-not_both : goal.returns-clause-not_both
returns-clause-not_both c text file fault r q = reads_or_faults r q

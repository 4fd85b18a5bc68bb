use Rattle.tb_scan.proofs.Unique.{next_is_one, end_has_none, scan_is_one, scan_is_laid_out}
use Rattle.tb_scan.proofs.laws.tokens_are_determined.Goals as goal

pub returns-clause-next : goal.returns-clause-next
returns-clause-next c = next_is_one

pub returns-clause-end : goal.returns-clause-end
returns-clause-end c = end_has_none

pub returns-clause-scan : goal.returns-clause-scan
returns-clause-scan c = scan_is_one

pub returns-clause-laid_out : goal.returns-clause-laid_out
returns-clause-laid_out c = scan_is_laid_out

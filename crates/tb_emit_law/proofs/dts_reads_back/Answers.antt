use Rattle.tb_emit_law.proofs.DeclLaw.{dts_derives, dts_reads_back}
use Rattle.tb_emit_law.proofs.DeclReads.{dts_reads}
use Rattle.tb_emit_law.proofs.dts_reads_back.Goals as goal

pub returns-clause-derives : goal.returns-clause-derives
returns-clause-derives c = dts_derives

pub returns-clause-reads : goal.returns-clause-reads
returns-clause-reads c = dts_reads_back

pub returns-clause-whole : goal.returns-clause-whole
returns-clause-whole c = dts_reads

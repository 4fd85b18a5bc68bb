use Rattle.tb_emit_law.proofs.Answered.{js_reads}
use Rattle.tb_emit_law.proofs.Derives.{js_derives}
use Rattle.tb_emit_law.proofs.Fronts.{js_derives_longest}
use Rattle.tb_emit_law.proofs.js_reads_back.Goals as goal

pub returns-clause-derives : goal.returns-clause-derives
returns-clause-derives c = js_derives

pub returns-clause-reads : goal.returns-clause-reads
returns-clause-reads c = js_reads

pub returns-clause-longest : goal.returns-clause-longest
returns-clause-longest c = js_derives_longest

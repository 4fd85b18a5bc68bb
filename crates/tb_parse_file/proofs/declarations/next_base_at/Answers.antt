use Rattle.tb_parse_file.proofs.Bases.{next_reads, next_lacks_comma}
use Rattle.tb_parse_file.proofs.declarations.next_base_at.Goals as goal

pub returns-then-not-is_mark : goal.returns-then-not-is_mark
returns-then-not-is_mark c = next_lacks_comma _ c.if-not-is_mark.ensures

pub returns : goal.returns
returns c = next_reads c.args.reader.now c.args.at _ _ c.if-not-is_mark.ensures c.in_ok-base.ensures

use Rattle.tb_parse_file.proofs.ListReadings.{from_lacks_word, from_reads}
use Rattle.tb_parse_file.proofs.imports.from_at.Goals as goal

pub returns-then-not-is_word : goal.returns-then-not-is_word
returns-then-not-is_word c = from_lacks_word _ c.if-not-is_word.ensures

pub returns : goal.returns
returns c = from_reads c.args.reader.now c.args.at _ c.if-not-is_word.ensures c.in_ok-from.ensures

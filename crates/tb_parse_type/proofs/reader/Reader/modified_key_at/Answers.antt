use Rattle.tb_parse_type.proofs.Readings.{modified}
use Rattle.tb_parse_type.proofs.reader.Reader.modified_key_at.Goals as goal

pub returns : goal.returns
returns c = modified c.args.self.now c.args.at _ c.if-not-is_word.ensures c.in_ok-key.ensures

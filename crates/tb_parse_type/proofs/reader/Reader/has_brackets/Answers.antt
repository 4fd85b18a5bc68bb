use Rattle.std.proofs.Common.{arith}
use Rattle.tb_parse_type.proofs.Readings.{two_at}
use Rattle.tb_parse_type.proofs.reader.Reader.has_brackets.Goals as goal

pub returns : goal.returns
returns c = (omega (arith, c.if-not-is_mark-2.ensures.0), _, _, two_at c.args.self.now c.args.at c.if-not-is_mark.ensures.2 c.if-not-is_mark-2.ensures.2)

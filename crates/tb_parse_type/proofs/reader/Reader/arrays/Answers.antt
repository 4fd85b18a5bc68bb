use Rattle.std.proofs.Common.{arith}
use Rattle.tb_parse_type.proofs.Elements.{arrays_on}
use Rattle.tb_parse_type.proofs.reader.Reader.arrays.Goals as goal

pub loop-preserved : goal.loop-preserved
loop-preserved c = arrays_on c.args.at c.args.count c.loop.counter c.loop.tree c.args.of c.in_ok-new.field-0 (omega arith) c.in_ok-new.ensures c.loop.invariant

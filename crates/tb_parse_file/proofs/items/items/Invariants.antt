use Rattle.std.proofs.Common.{length}
use Rattle.tb_parse_type.specs.Reading.{rest}
use Rattle.tb_parse_file.proofs.ItemLoops.{ItemsSoFar}
use Rattle.tb_parse_file.proofs.items.items.Given as goal

abbrev pub invariant-loop-next : goal.invariant-loop-next
invariant-loop-next l = ItemsSoFar l.items (rest l.reader 0) (rest l.reader l.next)

abbrev pub decreases-loop-next : goal.decreases-loop-next
decreases-loop-next l = length (rest l.reader l.next)

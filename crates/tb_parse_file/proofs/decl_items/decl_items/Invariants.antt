use Rattle.std.proofs.Common.{length}
use Rattle.tb_parse_type.specs.Reading.{rest}
use Rattle.tb_parse_file.proofs.DeclLoops.{DeclsSoFar}
use Rattle.tb_parse_file.proofs.decl_items.decl_items.Given as goal

abbrev pub invariant-loop-next : goal.invariant-loop-next
invariant-loop-next l = DeclsSoFar l.items (rest l.reader 0) (rest l.reader l.next)

abbrev pub decreases-loop-next : goal.decreases-loop-next
decreases-loop-next l = length (rest l.reader l.next)

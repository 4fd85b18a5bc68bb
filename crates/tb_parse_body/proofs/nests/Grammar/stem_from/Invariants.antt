use Rattle.std.proofs.Common.{◌≡◌, ◌≤◌, length}
use Rattle.tb_parse_type.specs.Reading.{rest}
use Rattle.tb_parse_body.proofs.Targets.{TargetSoFar}
use Rattle.tb_parse_body.proofs.nests.Grammar.stem_from.Given as goal

abbrev pub invariant-loop-left : goal.invariant-loop-left
invariant-loop-left g l = record {
  within : l.left.next ≤ length l.self.reader.tokens.now;
  base : l.base_next ≤ length l.self.reader.tokens.now;
  shallow : l.left.depth ≤ l.limit;
  counted : l.calls ≤ l.left.depth;
  all : TargetSoFar l.limit l.start (rest l.self.reader l.fn.at) l.left.tree l.left.depth (rest l.self.reader l.left.next) l.calls l.base_depth (rest l.self.reader l.base_next);
}

abbrev pub decreases-loop-left : goal.decreases-loop-left
decreases-loop-left g l = length (rest l.self.reader l.left.next)

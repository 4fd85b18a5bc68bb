use Rattle.std.proofs.Common.{◌≡◌, ◌≤◌, length}
use Rattle.tb_parse_type.specs.Reading.{rest, start_at}
use Rattle.tb_parse_body.proofs.Linking.{ChainSoFar}
use Rattle.tb_parse_body.proofs.nests.Grammar.chain_from.Given as goal

abbrev pub invariant-loop-left : goal.invariant-loop-left
invariant-loop-left g l = record {
  within : l.left.next ≤ length l.self.reader.tokens.now;
  shallow : l.left.depth ≤ l.limit;
  all : ChainSoFar l.limit l.start l.left.tree l.left.depth (rest l.self.reader l.fn.at) (rest l.self.reader l.left.next);
}

abbrev pub decreases-loop-left : goal.decreases-loop-left
decreases-loop-left g l = length (rest l.self.reader l.left.next)

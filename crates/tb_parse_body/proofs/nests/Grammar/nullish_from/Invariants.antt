use Rattle.std.proofs.Common.{◌≤◌, length}
use Rattle.tb_parse_type.specs.Reading.{rest}
use Rattle.tb_parse_body.specs.Rules.{OrUpto, InOr}
use Rattle.tb_parse_body.specs.Joins.{IsNullishJoin}
use Rattle.tb_parse_body.proofs.Rests.{RestSoFar}
use Rattle.tb_parse_body.proofs.nests.Grammar.nullish_from.Given as goal

-- whatever is found from here on makes what is found in all
abbrev pub invariant-loop-left : goal.invariant-loop-left
invariant-loop-left g l = record {
  within : l.left.next ≤ length l.self.reader.tokens.now;
  shallow : l.left.depth ≤ l.limit;
  all : RestSoFar IsNullishJoin InOr (OrUpto l.limit) l.start l.limit (rest l.self.reader l.fn.at) l.left.tree l.left.depth (rest l.self.reader l.left.next);
}

abbrev pub decreases-loop-left : goal.decreases-loop-left
decreases-loop-left g l = length (rest l.self.reader l.left.next)

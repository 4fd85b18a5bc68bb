use Rattle.std.proofs.Common.{◌-◌, ◌+◌, ◌*◌, ◌≤◌, length}
use Rattle.tb_parse_type.specs.Reading.{rest}
use Rattle.tb_parse_body.specs.Rules.{LevelUpto, InLevel}
use Rattle.tb_parse_body.specs.Joins.{IsJoin}
use Rattle.tb_parse_body.proofs.Rests.{RestSoFar}
use Rattle.tb_parse_body.proofs.nests.Grammar.+levels.Given as goal

abbrev pub decreases-level_at : goal.decreases-level_at
decreases-level_at g l = 4 * (7 - l.level) + 3

abbrev pub decreases-level_from : goal.decreases-level_from
decreases-level_from g l = 4 * (7 - l.level) + 2

abbrev pub decreases-join_at : goal.decreases-join_at
decreases-join_at g l = 4 * (7 - l.level) + 1

abbrev pub decreases-operation_at : goal.decreases-operation_at
decreases-operation_at g l = 4 * (7 - l.level)

-- whatever is found from here on makes what is found in all
abbrev pub invariant-level_from-loop-left : goal.invariant-level_from-loop-left
invariant-level_from-loop-left g l = record {
  within : l.left.next ≤ length l.self.reader.tokens.now;
  shallow : l.left.depth ≤ l.limit;
  all : RestSoFar (IsJoin l.level) (InLevel l.level) (LevelUpto l.level l.limit) l.start l.limit (rest l.self.reader l.fn.at) l.left.tree l.left.depth (rest l.self.reader l.left.next);
}

abbrev pub decreases-level_from-loop-left : goal.decreases-level_from-loop-left
decreases-level_from-loop-left g l = length (rest l.self.reader l.left.next)

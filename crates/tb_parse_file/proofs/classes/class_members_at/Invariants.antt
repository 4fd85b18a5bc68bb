use Rattle.std.proofs.Common.{◌≤◌, length}
use Rattle.tb_parse_type.specs.Reading.{rest}
use Rattle.tb_parse_file.proofs.MemberRows.{MembersSoFar}
use Rattle.tb_parse_file.proofs.classes.class_members_at.Given as goal

abbrev pub invariant-loop-members : goal.invariant-loop-members
invariant-loop-members l = record {
  within : l.next ≤ length l.reader.tokens.now;
  all : MembersSoFar l.limit l.constructed l.members l.depth (rest l.reader l.fn.at) (rest l.reader l.next);
}

abbrev pub decreases-loop-members : goal.decreases-loop-members
decreases-loop-members l = length (rest l.reader l.next)

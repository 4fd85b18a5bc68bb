use Rattle.std.proofs.Common.{◌≤◌, length}
use Rattle.tb_parse_type.specs.Reading.{rest}
use Rattle.tb_parse_file.proofs.DeclRows.{MembersSoFar}
use Rattle.tb_parse_file.proofs.decl_members.members_at.Given as goal

abbrev pub invariant-loop-members : goal.invariant-loop-members
invariant-loop-members l = record {
  within : l.next ≤ length l.reader.tokens.now;
  all : MembersSoFar l.constructed l.members (rest l.reader l.fn.at) (rest l.reader l.next);
}

abbrev pub decreases-loop-members : goal.decreases-loop-members
decreases-loop-members l = length (rest l.reader l.next)

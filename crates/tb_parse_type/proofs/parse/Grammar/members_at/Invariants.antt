use Rattle.std.proofs.Common.{◌≤◌, length}
use Rattle.tb_tree.specs.Types.{ends_member}
use Rattle.tb_parse_type.specs.Reading.{rest}
use Rattle.tb_parse_type.specs.Rules.{MemberUpto, InMembers}
use Rattle.tb_parse_type.proofs.Lists.{ItemsSoFar}
use Rattle.tb_parse_type.proofs.parse.Grammar.members_at.Given as goal

abbrev pub invariant-loop-members : goal.invariant-loop-members
invariant-loop-members g l = record {
  within : l.next ≤ length l.self.reader.tokens.now;
  all : ItemsSoFar (MemberUpto l.limits) ends_member InMembers l.members l.own l.depth (rest l.self.reader l.fn.at) (rest l.self.reader l.next);
}

abbrev pub decreases-loop-members : goal.decreases-loop-members
decreases-loop-members g l = length (rest l.self.reader l.next)

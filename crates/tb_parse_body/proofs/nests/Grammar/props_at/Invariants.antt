use Rattle.std.proofs.Common.{◌≤◌, length, true}
use Rattle.tb_parse_type.specs.Reading.{rest}
use Rattle.tb_parse_body.specs.Rules.{PropUpto, InList}
use Rattle.tb_parse_body.proofs.Commas.{CommasSoFar}
use Rattle.tb_parse_body.proofs.nests.Grammar.props_at.Given as goal

abbrev pub invariant-loop-props : goal.invariant-loop-props
invariant-loop-props g l = record {
  within : l.next ≤ length l.self.reader.tokens.now;
  all : CommasSoFar (PropUpto l.limit) InList l.props l.depth (rest l.self.reader l.fn.at) (rest l.self.reader l.next);
}

abbrev pub decreases-loop-props : goal.decreases-loop-props
decreases-loop-props g l = length (rest l.self.reader l.next)

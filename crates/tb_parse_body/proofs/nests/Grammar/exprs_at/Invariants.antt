use Rattle.std.proofs.Common.{◌≤◌, length, true}
use Rattle.tb_parse_type.specs.Reading.{rest}
use Rattle.tb_parse_body.specs.Rules.{ExprUpto, InList}
use Rattle.tb_parse_body.proofs.Commas.{CommasSoFar}
use Rattle.tb_parse_body.proofs.nests.Grammar.exprs_at.Given as goal

abbrev pub invariant-loop-exprs : goal.invariant-loop-exprs
invariant-loop-exprs g l = record {
  within : l.next ≤ length l.self.reader.tokens.now;
  all : CommasSoFar (ExprUpto true l.limit) InList l.exprs l.depth (rest l.self.reader l.fn.at) (rest l.self.reader l.next);
}

abbrev pub decreases-loop-exprs : goal.decreases-loop-exprs
decreases-loop-exprs g l = length (rest l.self.reader l.next)

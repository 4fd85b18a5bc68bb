use Rattle.std.proofs.Common.{◌≤◌, length}
use Rattle.tb_parse_type.specs.Reading.{rest}
use Rattle.tb_parse_body.proofs.Exprlists.{SpansSoFar}
use Rattle.tb_parse_body.proofs.nests.Grammar.spans_at.Given as goal

abbrev pub invariant-loop-spans : goal.invariant-loop-spans
invariant-loop-spans g l = record {
  within : l.next ≤ length l.self.reader.tokens.now;
  all : SpansSoFar l.limit l.spans l.depth (rest l.self.reader l.fn.at) (rest l.self.reader l.next);
}

abbrev pub decreases-loop-spans : goal.decreases-loop-spans
decreases-loop-spans g l = length (rest l.self.reader l.next)

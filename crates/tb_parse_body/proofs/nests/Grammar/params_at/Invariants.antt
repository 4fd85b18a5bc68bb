use Rattle.std.proofs.Common.{◌≤◌, length}
use Rattle.tb_parse_type.specs.Reading.{rest}
use Rattle.tb_parse_body.proofs.Parameters.{ParamsSoFar}
use Rattle.tb_parse_body.proofs.nests.Grammar.params_at.Given as goal

abbrev pub invariant-loop-params : goal.invariant-loop-params
invariant-loop-params g l = record {
  within : l.next ≤ length l.self.reader.tokens.now;
  all : ParamsSoFar l.limit l.params l.after l.depth (rest l.self.reader l.fn.at) (rest l.self.reader l.next);
}

abbrev pub decreases-loop-params : goal.decreases-loop-params
decreases-loop-params g l = length (rest l.self.reader l.next)

use Rattle.std.proofs.Common.{◌≤◌, length}
use Rattle.tb_parse_type.specs.Reading.{rest}
use Rattle.tb_parse_body.proofs.Parameters.{Behind}
use Rattle.tb_parse_body.proofs.nests.Grammar.params_from.Given as goal

abbrev pub invariant-loop-params : goal.invariant-loop-params
invariant-loop-params g l = record {
  within : l.next ≤ length l.self.reader.tokens.now;
  all : Behind l.limit l.params l.after l.depth (rest l.self.reader l.fn._at) (rest l.self.reader l.next);
}

abbrev pub decreases-loop-params : goal.decreases-loop-params
decreases-loop-params g l = length (rest l.self.reader l.next)

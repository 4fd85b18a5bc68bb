use Rattle.std.proofs.Common.{◌≤◌, length}
use Rattle.tb_parse_type.specs.Reading.{rest}
use Rattle.tb_parse_body.proofs.Declarators.{DeclaratorsSoFar}
use Rattle.tb_parse_body.proofs.nests.Grammar.declarators_at.Given as goal

abbrev pub invariant-loop-declarators : goal.invariant-loop-declarators
invariant-loop-declarators g l = record {
  within : l.next ≤ length l.self.reader.tokens.now;
  all : DeclaratorsSoFar l.kind l.limit l.declarators l.depth (rest l.self.reader l.fn.at) (rest l.self.reader l.next);
}

abbrev pub decreases-loop-declarators : goal.decreases-loop-declarators
decreases-loop-declarators g l = length (rest l.self.reader l.next)

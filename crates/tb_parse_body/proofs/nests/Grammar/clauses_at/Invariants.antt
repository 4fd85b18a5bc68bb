use Rattle.std.proofs.Common.{◌≤◌, length}
use Rattle.tb_parse_type.specs.Reading.{rest}
use Rattle.tb_parse_body.specs.Rules.{around_of}
use Rattle.tb_parse_body.proofs.Clauses.{ClausesSoFar}
use Rattle.tb_parse_body.proofs.nests.Grammar.clauses_at.Given as goal

abbrev pub invariant-loop-clauses : goal.invariant-loop-clauses
invariant-loop-clauses g l = record {
  within : l.next ≤ length l.self.reader.tokens.now;
  all : ClausesSoFar (around_of l.around) l.limit l.defaulted l.clauses l.depth (rest l.self.reader l.fn.at) (rest l.self.reader l.next);
}

abbrev pub decreases-loop-clauses : goal.decreases-loop-clauses
decreases-loop-clauses g l = length (rest l.self.reader l.next)

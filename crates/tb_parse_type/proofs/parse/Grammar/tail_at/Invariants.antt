use Rattle.std.proofs.Common.{◌≤◌, length}
use Rattle.tb_parse_type.specs.Reading.{rest}
use Rattle.tb_parse_type.specs.Rules.{inside}
use Rattle.tb_parse_type.proofs.Unions.{TailSoFar}
use Rattle.tb_parse_type.proofs.parse.Grammar.tail_at.Given as goal

abbrev pub invariant-loop-parts : goal.invariant-loop-parts
invariant-loop-parts g l = record {
  within : l.next ≤ length l.self.reader.tokens.now;
  all : TailSoFar (inside l.limits) l.parts l.own l.depth (rest l.self.reader l.fn.at) (rest l.self.reader l.next);
}

abbrev pub decreases-loop-parts : goal.decreases-loop-parts
decreases-loop-parts g l = length (rest l.self.reader l.next)

use Rattle.std.proofs.Common.{◌-◌, ◌≤◌, length}
use Rattle.tb_parse_type.specs.Reading.{rest}
use Rattle.tb_parse_type.proofs.Elements.{BracketsSoFar}
use Rattle.tb_parse_type.proofs.reader.Reader.brackets.Given as goal

-- whatever is found here makes what is found in all
abbrev pub invariant-loop-count : goal.invariant-loop-count
invariant-loop-count l = record {
  within : l.next ≤ length l.self.tokens.now;
  room : l.count ≤ l.room;
  all : BracketsSoFar l.room l.count (rest l.self l.fn.at) (rest l.self l.next);
}

abbrev pub decreases-loop-count : goal.decreases-loop-count
decreases-loop-count l = l.room - l.count

use Rattle.std.proofs.Common.{◌≤◌, length}
use Rattle.tb_parse_type.specs.Reading.{rest}
use Rattle.tb_parse_file.proofs.Bases.{BasesSoFar}
use Rattle.tb_parse_file.proofs.declarations.base_list_at.Given as goal

abbrev pub invariant-loop-bases : goal.invariant-loop-bases
invariant-loop-bases l = record {
  within : l.next ≤ length l.reader.tokens.now;
  all : BasesSoFar l.bases (rest l.reader l.fn.at) (rest l.reader l.next);
}

abbrev pub decreases-loop-bases : goal.decreases-loop-bases
decreases-loop-bases l = length (rest l.reader l.next)

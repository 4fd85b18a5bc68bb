use Rattle.std.proofs.Common.{◌≤◌, length}
use Rattle.tb_parse_type.specs.Reading.{rest}
use Rattle.tb_parse_file.specs.Lists.{SpecRule, InSpecs}
use Rattle.tb_parse_file.proofs.NamedLists.{NamedSoFar}
use Rattle.tb_parse_file.proofs.imports.spec_list_at.Given as goal

abbrev pub invariant-loop-specs : goal.invariant-loop-specs
invariant-loop-specs l = record {
  within : l.next ≤ length l.reader.tokens.now;
  all : NamedSoFar (SpecRule l.imported l.type_only) InSpecs l.specs l.all_named (rest l.reader l.fn.at) (rest l.reader l.next);
}

abbrev pub decreases-loop-specs : goal.decreases-loop-specs
decreases-loop-specs l = length (rest l.reader l.next)

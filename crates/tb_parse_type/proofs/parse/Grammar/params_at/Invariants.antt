use Rattle.std.proofs.Common.{◌≤◌, length}
use Rattle.tb_parse_type.specs.Reading.{rest}
use Rattle.tb_parse_type.specs.Rules.{ParamUpto, InParams}
use Rattle.tb_parse_type.proofs.Items.{is_comma}
use Rattle.tb_parse_type.proofs.Lists.{ItemsSoFar}
use Rattle.tb_parse_type.proofs.parse.Grammar.params_at.Given as goal

abbrev pub invariant-loop-params : goal.invariant-loop-params
invariant-loop-params g l = record {
  within : l.next ≤ length l.self.reader.tokens.now;
  all : ItemsSoFar (ParamUpto l.limits) is_comma InParams l.params l.own l.depth (rest l.self.reader l.fn.at) (rest l.self.reader l.next);
}

abbrev pub decreases-loop-params : goal.decreases-loop-params
decreases-loop-params g l = length (rest l.self.reader l.next)

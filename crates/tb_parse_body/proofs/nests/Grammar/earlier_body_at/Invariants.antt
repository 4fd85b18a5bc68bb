use Rattle.std.proofs.Common.{◌-◌, ◌≤◌}
use Rattle.tb_parse_type.specs.Reading.{rest}
use Rattle.tb_parse_body.proofs.ShorterBodies.{LackFrom}
use Rattle.tb_parse_body.proofs.nests.Grammar.earlier_body_at.Given as goal

abbrev pub invariant-loop-end : goal.invariant-loop-end
invariant-loop-end g l = record { within : l.end ≤ l.from; lacking : LackFrom l.at l.from l.end l.limit (rest l.self.reader l.at) }

abbrev pub decreases-loop-end : goal.decreases-loop-end
decreases-loop-end g l = l.end - l.at

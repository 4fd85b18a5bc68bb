use Rattle.std.proofs.Common.{arith, ◌+◌}
use Rattle.tb_tree.proofs.Ends.{found_from}
use Rattle.tb_parse_body.proofs.Annotations.{question_found, question_absent}
use Rattle.tb_parse_body.proofs.Parameters.{signature_found}
use Rattle.tb_parse_body.proofs.params.question_at.Goals as goal

pub returns-then-is_mark : goal.returns-then-is_mark
returns-then-is_mark c = let s = c.if-is_mark.ensures in (omega (arith, s.0), found_from s.2 (question_found _ _))

pub returns-else-is_mark : goal.returns-else-is_mark
returns-else-is_mark c = (c.requires, question_absent _ c.if-is_mark.ensures)

use Rattle.std.proofs.Common.{arith}
use Rattle.tb_tree.proofs.Ends.{found_from}
use Rattle.tb_parse_type.proofs.Members.{question_found, question_absent}
use Rattle.tb_parse_type.proofs.reader.Reader.question.Goals as goal

pub returns-then-is_mark : goal.returns-then-is_mark
returns-then-is_mark c = (omega (arith, c.if-is_mark.ensures.0), found_from c.if-is_mark.ensures.2 (question_found _ _))

pub returns-else-is_mark : goal.returns-else-is_mark
returns-else-is_mark c = (c.requires, question_absent _ c.if-is_mark.ensures)

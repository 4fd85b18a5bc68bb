use Rattle.std.proofs.Common.{arith}
use Rattle.tb_tree.proofs.Ends.{found_from}
use Rattle.tb_parse_file.proofs.ListReadings.{type_found, type_absent}
use Rattle.tb_parse_file.proofs.imports.type_at.Goals as goal

pub returns-then-is_word : goal.returns-then-is_word
returns-then-is_word c = let s = c.if-is_word.ensures in (omega (arith, s.0), found_from s.2 (type_found _ _ _))

pub returns-else-is_word : goal.returns-else-is_word
returns-else-is_word c = (c.requires, type_absent _ c.if-is_word.ensures)

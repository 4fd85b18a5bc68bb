use Rattle.std.proofs.Common.{refl}
use Rattle.tb_parse_file.proofs.decl_choice.worded_at.Goals as goal

pub returns-then-is_word-clause-worded : goal.returns-then-is_word-clause-worded
returns-then-is_word-clause-worded c = let s = c.if-is_word.ensures in (_, _, s.2)

pub returns-else-is_word-clause-worded : goal.returns-else-is_word-clause-worded
returns-else-is_word-clause-worded c = (refl, c.if-is_word.ensures)

use Rattle.tb_tree.proofs.Ends.{lacks_from}
use Rattle.tb_parse_type.proofs.Atoms.{atom_lacks_mark}
use Rattle.tb_parse_type.proofs.parse.Grammar.mark_at.Goals as goal

pub returns-in_default : goal.returns-in_default
returns-in_default g c = lacks_from c.requires.stands.2 (atom_lacks_mark c.args.mark _ c.args.limits _ c.in_default.not-Minus c.in_default.not-OpenParen c.in_default.not-OpenBrace)

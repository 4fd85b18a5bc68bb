use Rattle.tb_tree.proofs.Ends.{lacks_from}
use Rattle.tb_parse_body.proofs.PrimaryFronts.{primary_lacks_mark}
use Rattle.tb_parse_body.proofs.nests.Grammar.mark_primary_at.Goals as goal

pub returns-in_default : goal.returns-in_default
returns-in_default g c = lacks_from c.requires.stands.2 (primary_lacks_mark c.args.mark _ c.args.limit _ c.in_default.not-OpenParen c.in_default.not-OpenBracket c.in_default.not-OpenBrace)

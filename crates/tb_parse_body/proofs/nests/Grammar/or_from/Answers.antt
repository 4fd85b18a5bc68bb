use Rattle.std.proofs.Common.{refl}
use Rattle.tb_parse_body.proofs.Joining.{unary_level_found}
use Rattle.tb_parse_body.proofs.Ors.{or_level}
use Rattle.tb_parse_body.proofs.nests.Grammar.or_from.Goals as goal

pub level_from-requires-clause-first : goal.level_from-requires-clause-first
level_from-requires-clause-first g c = (c.requires.first.0, unary_level_found 7 c.args.limit refl c.requires.first.1)

pub returns : goal.returns
returns g c = (c.in_ok-or.ensures.0, or_level c.args.limit c.in_ok-equality.ensures.1 c.if-is_mark.ensures c.in_ok-or.ensures.1)

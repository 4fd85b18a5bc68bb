use Rattle.tb_parse_type.proofs.Types.{type_lacks_shallow}
use Rattle.tb_parse_type.proofs.parse.+type_at.Goals as goal

pub returns-then-limits-eq0 : goal.returns-then-limits-eq0
returns-then-limits-eq0 t c = type_lacks_shallow c.args.limits _ c.if-limits-eq0.true

use Rattle.tb_parse_body.specs.Rules.{around_of}
use Rattle.tb_parse_body.proofs.Shallow.{expr_lacks_shallow, block_lacks_shallow}
use Rattle.tb_parse_body.proofs.nests.+nest.Goals as goal

pub expr_at-returns-then-limit-eq0 : goal.expr_at-returns-then-limit-eq0
expr_at-returns-then-limit-eq0 t c = expr_lacks_shallow c.args.typed c.args.limit _ c.if-limit-eq0.true

pub block_at-returns-then-limit-eq0 : goal.block_at-returns-then-limit-eq0
block_at-returns-then-limit-eq0 t c = block_lacks_shallow (around_of c.args.around) c.args.limit _ c.if-limit-eq0.true

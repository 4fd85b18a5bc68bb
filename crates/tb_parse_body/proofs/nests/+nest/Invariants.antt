use Rattle.std.proofs.Common.{◌+◌, ◌*◌}
use Rattle.tb_parse_body.proofs.nests.+nest.Given as goal

abbrev pub decreases-expr_at : goal.decreases-expr_at
decreases-expr_at l = 3 * l.limit

abbrev pub decreases-block_at : goal.decreases-block_at
decreases-block_at l = 3 * l.limit + 1

abbrev pub decreases-stmt_at : goal.decreases-stmt_at
decreases-stmt_at l = 3 * l.limit + 2

use Rattle.std.proofs.Common.{◌≡◌, length}
use Rattle.tb_info.specs.Ascending.{neighbours_ascend}
use Rattle.tb_info.proofs.fitting.do_neighbours_ascend.Given as goal

abbrev pub invariant-loop-rest : goal.invariant-loop-rest
invariant-loop-rest g l = neighbours_ascend g.X.Row.order l.rest ≡ neighbours_ascend g.X.Row.order l.rows

abbrev pub decreases-loop-rest : goal.decreases-loop-rest
decreases-loop-rest g l = length l.rest

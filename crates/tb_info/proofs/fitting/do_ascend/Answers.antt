use Rattle.tb_info.proofs.Ascending.{ascends_is}
use Rattle.tb_info.proofs.fitting.do_ascend.Goals as goal

pub returns : goal.returns
returns g c = rw c.do_neighbours_ascend.ensures (ascends_is g.X.Row.order g.met.X.Row.total c.args.rows.now)

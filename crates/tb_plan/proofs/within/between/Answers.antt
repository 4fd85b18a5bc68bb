use Rattle.tb_plan.proofs.Ranges.{all_between}
use Rattle.tb_plan.proofs.within.between.Goals as goal

pub returns : goal.returns
returns c = all_between c.args.files.now c.args.from.now c.args.to.now c.count_before.result c.min-start.result c.count_before-end.result c.count_before.ensures.point c.count_before-end.ensures.point c.count_before-end.ensures.bound c.min-start.ensures

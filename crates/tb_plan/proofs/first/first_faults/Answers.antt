use Rattle.tb_plan.proofs.Firsts.{firsts_same, arranged_within}
use Rattle.tb_plan.proofs.first.first_faults.Goals as goal

pub returns : goal.returns
returns c = λ tree visit is.
    let b = rw c.as_slice-configs.ensures.value at c.in_ok-add_cycle_fault.ensures in
    firsts_same tree visit _ c.args.visited.now.arrangement _ _ is.same is.arranged (c.in_ok-faults.ensures tree is.read) (b (arranged_within _ visit c.args.visited.now.arrangement is.arranged))

use Rattle.tb_plan.proofs.Planned.{four_pieces}
use Rattle.tb_plan.proofs.second.add_second_faults.Goals as goal

pub returns : goal.returns
returns c =
    four_pieces c.args.faults.now.items _ _ _ _ _ _ _ _ c.in_ok-add_all_source_faults.ensures c.in_ok-add_shared_faults.ensures c.in_ok-add_covered_faults.ensures c.in_ok-add_limit_faults.ensures

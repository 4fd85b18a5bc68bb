use Rattle.tb_plan.proofs.Firsts.{without_cycle_fault, with_cycle_fault}
use Rattle.tb_plan.proofs.first.add_cycle_fault.Goals as goal

pub returns-in_default-first_of : goal.returns-in_default-first_of
returns-in_default-first_of c = without_cycle_fault c.args.configs.now c.args.arrangement.now c.in-Cycle.numbers _ c.args.faults.now.items c.in-Cycle.is c.as_slice.ensures c.in_default-first_of.ensures

pub returns : goal.returns
returns c = λ all. with_cycle_fault c.args.configs.now c.args.arrangement.now c.in-Cycle.numbers _ _ _ _ _ _ c.args.faults.now.items _ c.in-Cycle.is c.as_slice.ensures c.as_slice-2.ensures c.in-Some.ensures c.in_ok-text.ensures c.as_str.ensures.value c.in_ok-kept_fault.ensures c.in_ok-push.ensures.items

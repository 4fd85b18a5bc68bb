use Rattle.tb_plan.proofs.Ordered.{cycle_nodes, cycle_some}
use Rattle.tb_plan.proofs.visit.arranged.Goals as goal

pub returns-in-Err-Cycle : goal.returns-in-Err-Cycle
returns-in-Err-Cycle c =
    let visits = rw c.in-Err-Cycle.field-0-is at c.in-Err-Cycle.ensures.cycle in
    let cycle = rw c.in-Err-Cycle.field-0-is at c.in-Err-Cycle.ensures.is_cycle in
    record {
      visits = visits;
      nodes = cycle_nodes c.args.references.now c.args.starts.now c.in-Err-Cycle.cycle c.requires.starts c.requires.references cycle;
      round = cycle_some c.args.references.now c.args.starts.now c.in-Err-Cycle.cycle cycle;
    }

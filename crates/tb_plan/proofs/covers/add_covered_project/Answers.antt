use Rattle.tb_plan.specs.Covers.{covered_at}
use Rattle.tb_plan.proofs.Covered.{two_steps}
use Rattle.tb_plan.proofs.covers.add_covered_project.Goals as goal

pub returns : goal.returns
returns c =
    let a = rw c.as_slice-read.ensures at c.in_ok-add_covered.ensures in
    let b = rw c.as_slice-inputs.ensures at c.in_ok-add_covered-2.ensures in
    two_steps (covered_at c.args.projects.now) c.args.faults.now.items _ _ _ _ a b

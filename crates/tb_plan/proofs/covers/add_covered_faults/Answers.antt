use Rattle.std.proofs.Common.{List, arith, ◌++◌, subst}
use Rattle.std.specs.List.{flat_map}
use Rattle.std.proofs.lemmas.List.{take_all}
use Rattle.tb_plan.specs.Covers.{covered_at}
use Rattle.tb_plan.specs.Members.{HasSame}
use Rattle.tb_plan.specs.declared.sources.Sources.{Sources}
use Rattle.tb_plan.proofs.Members.{same_append, same_itself}
use Rattle.tb_plan.proofs.Covered.{same_step, same_trans, flat_next, covered_same}
use Rattle.tb_plan.proofs.covers.add_covered_faults.Goals as goal

pub loop-project-preserved : goal.loop-project-preserved
loop-project-preserved c =
    same_step c.args.faults.now.items _ _ _ _ _ c.loop-project.invariant c.in_ok-add_covered_project.ensures (flat_next _ c.args.projects.now c.loop-project.project-index c.project-item.result (omega arith) c.project-item.is)

pub returns : goal.returns
returns c =
    let f = λ (p : Sources). flat_map (covered_at c.args.projects.now) (p.setting.read ++ p.inputs) in
    let whole = subst (λ (l : List Sources). HasSame c.loop-project.faults.items (c.args.faults.now.items ++ flat_map f l)) (take_all c.loop-project.project-index c.args.projects.now (omega arith)) c.loop-project.invariant in
    same_trans _ _ _ whole (same_append _ _ _ _ (same_itself c.args.faults.now.items) (covered_same c.args.projects.now))

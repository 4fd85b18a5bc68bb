use Rattle.std.proofs.Common.{sym, ap, subst, List, ◌∙◌, length, arith}
use Rattle.std.specs.Prelude.{Contains}
use Rattle.tb_plan.specs.Laws.{PlanOk}
use Rattle.tb_plan.specs.declared.plans.Project.{Project}
use Rattle.tb_session.proofs.Readying.{ready_plan}
use Rattle.tb_session.proofs.Small.{all_small}
use Rattle.tb_session.proofs.prepares.prepare_plan.Goals as goal

pub build-requires-clause-paths : goal.build-requires-clause-paths
build-requires-clause-paths c project folder there is =
    (c.requires.ok.each project (subst (λ (ps : List Project). Contains ps project) c.as_slice-projects.ensures there)).paths folder is

pub build-requires-clause-few : goal.build-requires-clause-few
build-requires-clause-few c = omega (arith, ap length c.as_slice-projects.ensures, c.requires.ok.limits.count)

pub built_report-requires : goal.built_report-requires
built_report-requires c diag there =
    let built = rw c.in-Some.is at c.in_ok-scripts.ensures.found in
    all_small c.args.texts.now c.as_slice-projects.result.now built.0 c.as_slice-diags.result.now diag built.1 built.2 (c.as_slice-diags.ensures ∙ built.4)
    (subst (λ (ps : List Project). PlanOk c.args.texts.now (record { projects = ps })) (sym c.as_slice-projects.ensures) c.requires.ok) there

pub returns-clause-ready : goal.returns-clause-ready
returns-clause-ready c =
    let built = rw c.in-Some.is at c.in_ok-scripts.ensures.found in
    ready_plan c.args.texts.now c.args.roots.now c.args.verbose _ c.args.plan.now c.as_slice-projects.result.now c.as_slice-diags.result.now c.requires.is c.requires.ok c.as_slice-projects.ensures
    (built.0, built.1, built.2, built.3, c.as_slice-diags.ensures ∙ built.4)
    c.in_ok-built_report.ensures c.built_status.ensures c.in_ok-opening_alone.ensures c.inputs_in.ensures c.with_inputs.ensures

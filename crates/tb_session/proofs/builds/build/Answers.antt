use Rattle.std.proofs.Common.{◌∙◌, ◌+◌, [], take, refl, sym, ap, subst, arith}
use Rattle.std.specs.Prelude.{is_some}
use Rattle.std.proofs.lemmas.List.Elements.{All-nil}
use Rattle.tb_session.specs.Scripts.{AreScripts}
use Rattle.tb_session.specs.Sources.{IsBuild}
use Rattle.tb_session.proofs.Building.{AreBuilt, one_more, one_without, sources_at}
use Rattle.tb_session.proofs.builds.build.Goals.{in-Some+in_ok-script+in-Some-2+in_ok-push, in_default}
use Rattle.tb_session.proofs.builds.build.Goals as goal

pub loop-project-init : goal.loop-project-init
loop-project-init c = record {
  built = ([], refl, All-nil (IsBuild c.args.texts.now), subst (AreScripts []) (sym c.new-scripts.ensures) AreScripts.none, c.new-diags.ensures);
  number = refl;
}

pub project_script-requires : goal.project_script-requires
project_script-requires c = c.requires.paths c.project-item.result c.in-Some.folder (c.loop-project.project-index, omega arith, sym c.project-item.is) c.in-Some.is

pub returns-in_default-2-clause-none : goal.returns-in_default-2-clause-none
returns-in_default-2-clause-none c none builds are all =
    let at = sources_at c.args.texts.now c.args.projects.now c.loop-project.project-index c.project-item.result c.in-Some.folder builds (omega arith) c.project-item.is c.in-Some.is are all in
    c.in_ok-script.ensures.none (ap is_some c.in_default-2.is) at.0 at.1

pub loop-project-preserved : goal.loop-project-preserved
loop-project-preserved c = record {
  built = elim c.match-project.branch [
    | in-Some+in_ok-script+in-Some-2+in_ok-push w ↦
        subst (λ d. AreBuilt c.args.texts.now (take (c.loop-project.project-index + 1) c.args.projects.now) c.match-project.scripts d) (sym w.diags-is)
        (one_more c.args.texts.now c.args.projects.now c.loop-project.project-index c.loop-project.number c.project-item.result w.in-Some.folder w.in-Some-2.script c.loop-project.scripts c.match-project.scripts c.loop-project.diags _
        (omega arith) c.loop-project.invariant.number c.project-item.is w.in-Some.is c.loop-project.invariant.built (rw w.in-Some-2.is at w.in_ok-script.ensures.found) (w.scripts-is ∙ w.in_ok-push.ensures.ok))
    | in_default w ↦
        subst (λ s. AreBuilt c.args.texts.now (take (c.loop-project.project-index + 1) c.args.projects.now) s c.match-project.diags) (sym w.scripts-is)
        (subst (λ d. AreBuilt c.args.texts.now (take (c.loop-project.project-index + 1) c.args.projects.now) c.loop-project.scripts d) (sym w.diags-is)
        (one_without c.args.texts.now c.args.projects.now c.loop-project.project-index c.project-item.result c.loop-project.scripts c.loop-project.diags (omega arith) c.project-item.is w.in_default.is c.loop-project.invariant.built))
  ];
  number = ap (λ n. n + 1) c.loop-project.invariant.number;
}

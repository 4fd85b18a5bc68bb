use Rattle.std.proofs.Common.{◌≡◌, take}
use Rattle.tb_session.proofs.Building.{AreBuilt}
use Rattle.tb_session.proofs.builds.build.Given as goal

abbrev pub invariant-loop-project : goal.invariant-loop-project
invariant-loop-project l = record {
  built : AreBuilt l.texts (take l.project-index l.projects) l.scripts l.diags;
  number : l.number ≡ l.project-index;
}

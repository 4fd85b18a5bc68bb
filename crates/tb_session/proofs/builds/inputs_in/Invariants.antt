use Rattle.std.proofs.Common.{◌≡◌, take, length}
use Rattle.std.specs.Prelude.{sum_by}
use Rattle.tb_session.proofs.builds.inputs_in.Given as goal

abbrev pub invariant-loop-project : goal.invariant-loop-project
invariant-loop-project l = l.count ≡ sum_by (λ project. length project.inputs) (take l.project-index l.projects)

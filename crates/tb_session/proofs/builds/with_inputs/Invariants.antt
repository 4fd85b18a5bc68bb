use Rattle.std.proofs.Common.{◌≡◌, take, length, not}
use Rattle.std.specs.Prelude.{count_by, nat_eq}
use Rattle.tb_session.proofs.builds.with_inputs.Given as goal

abbrev pub invariant-loop-project : goal.invariant-loop-project
invariant-loop-project l = l.count ≡ count_by (λ project. not (nat_eq (length project.inputs) 0)) (take l.project-index l.projects)

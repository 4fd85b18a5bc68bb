use Rattle.std.proofs.Common.{◌≡◌, ◌-◌, ◌^◌, min, take}
use Rattle.tb_plan.specs.Limits.{files_in}
use Rattle.tb_plan.proofs.limits.files_in.Given as goal

abbrev pub invariant-loop-project : goal.invariant-loop-project
invariant-loop-project l = l.files ≡ min (files_in (take l.project-index l.projects)) (2 ^ 64 - 1)

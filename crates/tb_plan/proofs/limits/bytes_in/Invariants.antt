use Rattle.std.proofs.Common.{◌≡◌, ◌-◌, ◌^◌, min, take}
use Rattle.tb_plan.specs.Limits.{bytes_in}
use Rattle.tb_plan.proofs.limits.bytes_in.Given as goal

abbrev pub invariant-loop-project : goal.invariant-loop-project
invariant-loop-project l = l.bytes ≡ min (bytes_in l.tree (take l.project-index l.projects)) (2 ^ 64 - 1)

use Rattle.std.proofs.Common.{◌≡◌, ◌-◌, ◌^◌, min, take}
use Rattle.std.specs.Prelude.{sum_by}
use Rattle.tb_plan.specs.Limits.{size_of}
use Rattle.tb_plan.proofs.limits.bytes_of.Given as goal

abbrev pub invariant-loop-path : goal.invariant-loop-path
invariant-loop-path l = l.bytes ≡ min (sum_by (size_of l.tree) (take l.path-index l.inputs)) (2 ^ 64 - 1)

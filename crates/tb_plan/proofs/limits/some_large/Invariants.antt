use Rattle.std.proofs.Common.{◌≡◌, false, take}
use Rattle.std.specs.List.{list_any}
use Rattle.tb_plan.specs.Limits.{is_large}
use Rattle.tb_plan.proofs.limits.some_large.Given as goal

abbrev pub invariant-loop-path : goal.invariant-loop-path
invariant-loop-path l = list_any (is_large l.tree) (take l.path-index l.paths) ≡ false

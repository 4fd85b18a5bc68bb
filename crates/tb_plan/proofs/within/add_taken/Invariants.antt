use Rattle.std.proofs.Common.{◌≡◌, ◌++◌, take}
use Rattle.std.specs.List.{filter}
use Rattle.tb_plan.specs.Within.{is_taken}
use Rattle.tb_plan.proofs.within.add_taken.Given as goal

abbrev pub invariant-loop-path : goal.invariant-loop-path
invariant-loop-path l = l.inputs.items ≡ l.initial.inputs.items ++ filter (is_taken l.setting l.pattern) (take l.path-index l.files)

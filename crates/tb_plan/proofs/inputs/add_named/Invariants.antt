use Rattle.std.proofs.Common.{◌≡◌, ◌++◌, take}
use Rattle.std.specs.Prelude.{◌&&◌}
use Rattle.std.specs.List.{filter}
use Rattle.tb_plan.specs.Inputs.{is_file, is_source}
use Rattle.tb_plan.proofs.inputs.add_named.Given as goal

abbrev pub invariant-loop-path : goal.invariant-loop-path
invariant-loop-path l = l.inputs.items ≡ l.initial.inputs.items ++ filter (λ path. is_file l.tree path && is_source path) (take l.path-index l.named)

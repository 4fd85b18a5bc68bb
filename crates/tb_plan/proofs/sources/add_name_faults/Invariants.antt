use Rattle.std.proofs.Common.{◌≡◌, ◌++◌, take}
use Rattle.std.specs.Prelude.{map, not, ◌&&◌}
use Rattle.std.specs.List.{filter}
use Rattle.tb_plan.specs.Faults.{own_fault}
use Rattle.tb_plan.specs.Inputs.{is_file, is_source}
use Rattle.tb_plan.proofs.sources.add_name_faults.Given as goal

abbrev pub invariant-loop-path : goal.invariant-loop-path
invariant-loop-path l = l.faults.items ≡ l.initial.faults.items ++ map (own_fault l.setting.config 5010) (filter (λ path. not (is_file l.tree path && is_source path)) (take l.path-index l.path-items))

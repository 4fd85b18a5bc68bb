use Rattle.std.proofs.Common.{◌≡◌, ◌++◌, take}
use Rattle.std.specs.Prelude.{map, not}
use Rattle.std.specs.List.{filter}
use Rattle.tb_text.specs.Paths.{is_inside}
use Rattle.tb_plan.specs.Faults.{own_fault}
use Rattle.tb_plan.proofs.outputs.add_outside_faults.Given as goal

abbrev pub invariant-loop-path : goal.invariant-loop-path
invariant-loop-path l = l.faults.items ≡ l.initial.faults.items ++ map (own_fault l.project.setting.config 5011) (filter (λ path. not (is_inside l.project.setting.root path)) (take l.path-index l.path-items))

use Rattle.std.proofs.Common.{◌≡◌, ◌++◌, codes, take}
use Rattle.std.specs.Prelude.{map}
use Rattle.std.specs.List.{filter}
use Rattle.tb_plan.specs.Faults.{own_fault}
use Rattle.tb_plan.specs.Limits.{is_large}
use Rattle.tb_plan.proofs.limits.add_large_configs.Given as goal

abbrev pub invariant-loop-config : goal.invariant-loop-config
invariant-loop-config l = l.faults.items ≡ l.initial.faults.items ++ map (λ config. own_fault config 5012 (codes "bytes")) (filter (is_large l.tree) (take l.config-index l.configs))

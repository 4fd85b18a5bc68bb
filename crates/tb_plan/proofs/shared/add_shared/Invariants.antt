use Rattle.std.proofs.Common.{◌≡◌, ◌++◌, take}
use Rattle.std.specs.Prelude.{map}
use Rattle.std.specs.List.{filter}
use Rattle.std.specs.BTreeSet.{contains}
use Rattle.tb_text.specs.Bytes.{bytes_cmp}
use Rattle.tb_plan.specs.Faults.{own_fault}
use Rattle.tb_plan.proofs.shared.add_shared.Given as goal

abbrev pub invariant-loop-path : goal.invariant-loop-path
invariant-loop-path l = l.faults.items ≡ l.initial.faults.items ++ map (own_fault l.project.setting.config 5015) (filter (contains bytes_cmp l.seen) (take l.path-index l.path-items))

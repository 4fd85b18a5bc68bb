use Rattle.std.proofs.Common.{◌++◌}
use Rattle.std.specs.List.{flat_map, range_with_len}
use Rattle.tb_plan.specs.Members.{HasSame}
use Rattle.tb_plan.specs.Nested.{nested_by}
use Rattle.tb_plan.specs.Owners.{folder_at}
use Rattle.tb_plan.proofs.nested.add_nested_faults.Given as goal

abbrev pub invariant-loop-number : goal.invariant-loop-number
invariant-loop-number l = HasSame l.faults.items (l.initial.faults.items ++ flat_map (λ number. nested_by l.settings number (folder_at l.settings number)) (range_with_len 0 l.number))

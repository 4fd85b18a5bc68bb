use Rattle.std.proofs.Common.{◌++◌, take}
use Rattle.std.specs.List.{flat_map}
use Rattle.tb_plan.specs.Covers.{covered_at}
use Rattle.tb_plan.specs.Members.{HasSame}
use Rattle.tb_plan.proofs.covers.add_covered.Given as goal

abbrev pub invariant-loop-path : goal.invariant-loop-path
invariant-loop-path l = HasSame l.faults.items (l.initial.faults.items ++ flat_map (covered_at l.projects) (take l.path-index l.paths))

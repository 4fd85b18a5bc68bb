use Rattle.std.proofs.Common.{◌≡◌, ◌++◌, drop, map}
use Rattle.std.specs.List.{flat_map}
use Rattle.tb_options.specs.Lists.{list_of}
use Rattle.tb_options.specs.Options.{list_faults}
use Rattle.tb_options.proofs.options.check_lists.Given as goal

abbrev pub invariant-loop-list : goal.invariant-loop-list
invariant-loop-list l =
    l.initial.faults.items ++ flat_map (list_faults l.folder l.name) (map list_of l.list-items)
    ≡ l.faults.items ++ flat_map (list_faults l.folder l.name) (map list_of (drop l.list-index l.list-items))

use Rattle.std.proofs.Common.{◌≡◌, ◌++◌, drop}
use Rattle.std.specs.List.{flat_map}
use Rattle.tb_text.specs.Walks.{texts}
use Rattle.tb_options.specs.Options.{target_faults}
use Rattle.tb_options.proofs.options.check_list.Given as goal

abbrev pub invariant-loop-target : goal.invariant-loop-target
invariant-loop-target l =
    l.initial.faults.items ++ flat_map (target_faults l.folder l.name) (texts l.list.texts.items)
    ≡ l.faults.items ++ flat_map (target_faults l.folder l.name) (texts (drop l.target-index l.list.texts.items))

use Rattle.std.proofs.Common.{◌≡◌, ◌++◌}
use Rattle.serde_json.specs.View.{members_view}
use Rattle.tb_options.specs.Options.{options_faults}
use Rattle.tb_options.proofs.options.check_options.Given as goal

abbrev pub invariant-loop-name : goal.invariant-loop-name
invariant-loop-name l =
    l.initial.faults.items ++ options_faults l.folder (members_view l.options.entries)
    ≡ l.faults.items ++ options_faults l.folder (members_view l.name-iterator)

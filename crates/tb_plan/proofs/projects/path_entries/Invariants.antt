use Rattle.std.proofs.Common.{◌≡◌, take}
use Rattle.std.specs.Prelude.{map}
use Rattle.tb_plan.specs.Projects.{entry_of}
use Rattle.tb_plan.proofs.projects.path_entries.Given as goal

abbrev pub invariant-loop-rule : goal.invariant-loop-rule
invariant-loop-rule l = l.entries.items ≡ map entry_of (take l.rule-index l.rules)

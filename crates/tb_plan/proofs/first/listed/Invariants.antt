use Rattle.std.proofs.Common.{◌≡◌, take}
use Rattle.std.specs.Prelude.{map, string_bytes}
use Rattle.tb_plan.specs.Plans.{listed}
use Rattle.tb_plan.specs.Searches.{path_at}
use Rattle.tb_plan.proofs.first.listed.Given as goal

abbrev pub invariant-loop-at : goal.invariant-loop-at
invariant-loop-at l = string_bytes l.text ≡ listed (map (path_at l.configs) (take l.at l.numbers))

use Rattle.std.proofs.Common.{◌==◌, take}
use Rattle.std.specs.List.{list_any}
use Rattle.tb_plan.specs.Upstream.{Marks}
use Rattle.tb_plan.proofs.upstream.mark_numbers.Given as goal

abbrev pub invariant-loop-number : goal.invariant-loop-number
invariant-loop-number l = Marks (λ number. list_any (λ up. up == number) (take l.number-index l.numbers)) l.initial.marks.items l.marks.items

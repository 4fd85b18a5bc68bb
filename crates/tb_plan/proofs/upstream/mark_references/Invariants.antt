use Rattle.std.proofs.Common.{take}
use Rattle.std.specs.List.{list_any}
use Rattle.tb_plan.specs.Projects.{is_behind}
use Rattle.tb_plan.specs.Upstream.{Marks}
use Rattle.tb_plan.proofs.upstream.mark_references.Given as goal

abbrev pub invariant-loop-reference : goal.invariant-loop-reference
invariant-loop-reference l = Marks (λ number. list_any (is_behind l.before number) (take l.reference-index l.references)) l.initial.marks.items l.marks.items

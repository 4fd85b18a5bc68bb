use Rattle.std.proofs.Common.{◌≡◌, drop}
use Rattle.std.specs.List.{list_all}
use Rattle.tb_plain.specs.Plain as spec
use Rattle.tb_plain.proofs.plain.are_plain.Given as goal

abbrev pub invariant-loop-item : goal.invariant-loop-item
invariant-loop-item l = list_all spec.is_plain_item (drop l.item-index l.items) ≡ list_all spec.is_plain_item l.items

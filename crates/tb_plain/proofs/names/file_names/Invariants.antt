use Rattle.std.proofs.Common.{◌≡◌, ◌++◌, map, drop, flat_map}
use Rattle.tb_plain.specs.Plain as spec
use Rattle.tb_plain.proofs.names.file_names.Given as goal

abbrev pub invariant-loop-item : goal.invariant-loop-item
invariant-loop-item l = map (λ name. name.now) l.names.items ++ flat_map spec.item_names (drop l.item-index l.items) ≡ flat_map spec.item_names l.items

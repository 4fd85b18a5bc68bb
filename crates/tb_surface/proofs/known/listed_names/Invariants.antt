use Rattle.std.proofs.Common.{flat_map, take}
use Rattle.tb_layout.specs.Parts.{item_listed}
use Rattle.tb_surface.specs.Names as spec
use Rattle.tb_surface.proofs.known.listed_names.Given as goal

abbrev pub invariant-loop-item : goal.invariant-loop-item
invariant-loop-item l = spec.HasNames l.listed (flat_map item_listed (take l.item-index l.item-items))

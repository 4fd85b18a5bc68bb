use Rattle.std.proofs.Common.{◌≡◌, ◌++◌, take, flat_map}
use Rattle.tb_layout.specs.Surface as spec
use Rattle.tb_layout.specs.Kept as kept
use Rattle.tb_surface.specs.Names.{Knows}
use Rattle.tb_surface.proofs.surfaces.keep_items.Given as goal

abbrev pub invariant-loop-item : goal.invariant-loop-item
invariant-loop-item l =
    (names : kept.Known) → Knows l.known.listed l.known.occurring names → l.items ≡ l.initial.items ++ flat_map (spec.surface_item_of names) (take l.item-index l.all)

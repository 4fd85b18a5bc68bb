use Rattle.std.proofs.Common.{◌≡◌, ◌++◌, take, flat_map}
use Rattle.tb_layout.specs.Kept as kept
use Rattle.tb_surface.specs.Names.{Knows}
use Rattle.tb_surface.proofs.Keeping.{variable_items}
use Rattle.tb_surface.proofs.surfaces.keep_variables.Given as goal

abbrev pub invariant-loop-declarator : goal.invariant-loop-declarator
invariant-loop-declarator l =
    (names : kept.Known) → Knows l.known.listed l.known.occurring names
    → l.items ≡ l.initial.items ++ flat_map (variable_items names l.exported l.var) (take l.declarator-index l.declarator-items)

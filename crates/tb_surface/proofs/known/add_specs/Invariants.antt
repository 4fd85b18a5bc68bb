use Rattle.std.proofs.Common.{map, take}
use Rattle.tb_layout.specs.Parts.{exported_name}
use Rattle.tb_surface.specs.Names as spec
use Rattle.tb_surface.proofs.known.add_specs.Given as goal

abbrev pub invariant-loop-of : goal.invariant-loop-of
invariant-loop-of l = spec.Gained l.initial.listed l.listed (map exported_name (take l.of-index l.specs))

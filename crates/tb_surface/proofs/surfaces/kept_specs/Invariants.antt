use Rattle.std.proofs.Common.{◌≡◌, take}
use Rattle.std.specs.Prelude.{filter}
use Rattle.tb_layout.specs.Kept as kept
use Rattle.tb_surface.specs.Names.{Knows}
use Rattle.tb_surface.proofs.surfaces.kept_specs.Given as goal

abbrev pub invariant-loop-of : goal.invariant-loop-of
invariant-loop-of l =
    (names : kept.Known) → Knows l.known.listed l.known.occurring names → l.specs ≡ filter (kept.keeps_spec names) (take l.of-index l.all)

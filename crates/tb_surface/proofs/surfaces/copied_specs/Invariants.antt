use Rattle.std.proofs.Common.{◌≡◌, take}
use Rattle.tb_surface.proofs.surfaces.copied_specs.Given as goal

abbrev pub invariant-loop-spec : goal.invariant-loop-spec
invariant-loop-spec l = l.specs ≡ take l.spec-index l.all

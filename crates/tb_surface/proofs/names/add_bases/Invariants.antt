use Rattle.std.proofs.Common.{◌≡◌, ◌++◌, take, flat_map}
use Rattle.tb_layout.specs.Parts as spec
use Rattle.tb_surface.proofs.names.add_bases.Given as goal

abbrev pub invariant-loop-base : goal.invariant-loop-base
invariant-loop-base l = l.names ≡ l.initial.names ++ flat_map spec.base_names (take l.base-index l.all)

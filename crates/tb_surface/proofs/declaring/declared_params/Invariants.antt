use Rattle.std.proofs.Common.{◌≡◌, map, take}
use Rattle.tb_layout.specs.Surface as spec
use Rattle.tb_surface.proofs.declaring.declared_params.Given as goal

abbrev pub invariant-loop-param : goal.invariant-loop-param
invariant-loop-param l = l.params ≡ map spec.declared_param (take l.param-index l.all)

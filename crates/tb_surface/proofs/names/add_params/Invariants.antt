use Rattle.std.proofs.Common.{◌≡◌, ◌++◌, take, flat_map}
use Rattle.tb_layout.specs.Parts as spec
use Rattle.tb_surface.proofs.names.add_params.Given as goal

abbrev pub invariant-loop-param : goal.invariant-loop-param
invariant-loop-param l = l.names ≡ l.initial.names ++ flat_map spec.param_names (take l.param-index l.all)

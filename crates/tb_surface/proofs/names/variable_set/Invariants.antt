use Rattle.std.proofs.Common.{map, take}
use Rattle.tb_layout.specs.Parts as spec
use Rattle.tb_surface.specs.Names.{HasNames}
use Rattle.tb_surface.proofs.names.variable_set.Given as goal

abbrev pub invariant-loop-variable : goal.invariant-loop-variable
invariant-loop-variable l = HasNames l.bound (map spec.identifier_name (take l.variable-index l.variables))

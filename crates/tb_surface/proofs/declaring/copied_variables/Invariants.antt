use Rattle.std.proofs.Common.{◌≡◌, take}
use Rattle.tb_surface.proofs.declaring.copied_variables.Given as goal

abbrev pub invariant-loop-variable : goal.invariant-loop-variable
invariant-loop-variable l = l.variables ≡ take l.variable-index l.all

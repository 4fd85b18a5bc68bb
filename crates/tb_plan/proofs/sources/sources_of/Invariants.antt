use Rattle.std.proofs.Common.{◌≡◌}
use Rattle.std.specs.Prelude.{map}
use Rattle.tb_plan.specs.Inputs.{folders_of, inputs_of}
use Rattle.tb_plan.proofs.sources.sources_of.Given as goal

abbrev pub invariant-loop-setting : goal.invariant-loop-setting
invariant-loop-setting l = l.projects.items ≡ map (λ s. record { setting = s; inputs = inputs_of l.tree (folders_of l.fn.settings.items) s }) l.yielded

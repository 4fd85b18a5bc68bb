-- The projects so far, with the numbers of each config.
use Rattle.std.proofs.Common.{◌≡◌, length}
use Rattle.tb_plan.specs.Projects.{projects_of}
use Rattle.tb_plan.specs.Upstream.{AreConfigs}
use Rattle.tb_plan.proofs.projects.projects_of.Given as goal

abbrev pub invariant-loop-source : goal.invariant-loop-source
invariant-loop-source l = (l.projects.items ≡ projects_of l.yielded) × AreConfigs l.projects.items l.configs × (length l.projects.items ≡ length l.yielded)

use Rattle.std.proofs.Common.{◌≡◌, ◌++◌, drop, map}
use Rattle.tb_options.specs.Options.{fault}
use Rattle.tb_config.proofs.judging.check_circles.Given as goal

abbrev pub invariant-loop-circle : goal.invariant-loop-circle
invariant-loop-circle l = l.initial.faults.items ++ map (fault 5003) l.circles ≡ l.faults.items ++ map (fault 5003) (drop l.circle-index l.circles)

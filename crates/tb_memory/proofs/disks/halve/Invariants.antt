use Rattle.std.proofs.Common.{◌≡◌, ◌++◌, drop}
use Rattle.tb_memory.specs.Crashes.{halves, IsFresh}
use Rattle.tb_memory.proofs.disks.halve.Given as goal

abbrev pub invariant-loop-step : goal.invariant-loop-step
invariant-loop-step l = record {
  log : l.disk.log ++ halves (drop l.step-index l.steps) ≡ l.fn.disk.log ++ halves l.steps;
  fresh : IsFresh l.disk;
}

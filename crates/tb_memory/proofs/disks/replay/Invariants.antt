use Rattle.std.proofs.Common.{◌≡◌, take}
use Rattle.tb_memory.specs.Crashes.{IsFresh}
use Rattle.tb_memory.proofs.disks.replay.Given as goal

abbrev pub invariant-loop-i : goal.invariant-loop-i
invariant-loop-i l = record {
  log : l.disk.log ≡ take l.i l.steps;
  fresh : IsFresh l.disk;
}

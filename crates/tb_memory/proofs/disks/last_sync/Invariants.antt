use Rattle.std.proofs.Common.{◌≡◌, ◌≤◌}
use Rattle.tb_memory.specs.Crashes.{last_sync}
use Rattle.tb_memory.proofs.disks.last_sync.Given as goal

abbrev pub invariant-loop-i : goal.invariant-loop-i
invariant-loop-i l = record {
  value : l.synced ≡ last_sync l.steps l.i;
  within : l.synced ≤ l.i;
}

use Rattle.std.proofs.Common.{◌≡◌, ℕ, List, length, refl, sym, subst, ◌∙◌}
use Rattle.std.specs.Prelude.{Option}
use Rattle.tb_outside.specs.declared.disks.DiskStep.TheVariants.{Sync}
use Rattle.tb_outside.specs.Disk.{Files, Same}
use Rattle.tb_outside.specs.Moments.{Within}
use Rattle.tb_memory.specs.Crashes.{reads_of, left_of}
use Rattle.tb_memory.specs.Laws.{read_is_left}
use Rattle.tb_memory.proofs.Logs.{on_ok, reads_done, reads_either, time_of, during, last_left}
use Rattle.tb_memory.proofs.disks.MemDiskDisk.sync.Goals as goal

pub returns-clause-durable : goal.returns-clause-durable
returns-clause-durable c =
    let old = c.args.self.now in
    let new = c.take.new.self in
    let takes = c.take.ensures.takes Sync refl in
    on_ok c.take.result (Within (λ q content. content ≡ reads_of new q) (left_of new.log (length new.log)))
    (λ done q content h. last_left old Sync new _ takes done q content h ∙ sym (reads_done old Sync new _ takes done q))

pub returns-clause-same : goal.returns-clause-same
returns-clause-same c =
    let old = c.args.self.now in
    let new = c.take.new.self in
    let takes = c.take.ensures.takes Sync refl in
    reads_either old Sync new _ takes (λ (f : Files). Same (reads_of old) f) (λ q. refl) (λ q. refl)

pub returns-clause-time : goal.returns-clause-time
returns-clause-time c =
    let old = c.args.self.now in
    let new = c.take.new.self in
    let takes = c.take.ensures.takes Sync refl in
    time_of old Sync new _ takes

pub returns-clause-crash : goal.returns-clause-crash
returns-clause-crash c =
    let old = c.args.self.now in
    let new = c.take.new.self in
    let takes = c.take.ensures.takes Sync refl in
    λ k from to q content h.
    let now : content ≡ reads_of old q = during old Sync new _ takes k from to q content h in
    subst (λ (c : Option (List ℕ)). left_of old.log (length old.log) q c) (sym now) (read_is_left old.log old.cut q)

pub returns-clause-stopped : goal.returns-clause-stopped
returns-clause-stopped c = c.take.ensures.sync refl

use Rattle.std.proofs.Common.{◌≡◌, ◌≢◌, ℕ, List, refl}
use Rattle.tb_outside.specs.declared.disks.DiskStep.TheVariants.{Rename}
use Rattle.tb_outside.specs.Disk.{Files, Same, read_after}
use Rattle.tb_outside.specs.Laws.{moved_other}
use Rattle.tb_memory.specs.Crashes.{reads_of}
use Rattle.tb_memory.proofs.Logs.{on_ok, on_err, reads_done, reads_kept, reads_either, time_of, during}
use Rattle.tb_memory.proofs.disks.MemDiskDisk.rename.Goals as goal

pub returns-clause-moved : goal.returns-clause-moved
returns-clause-moved c =
    let old = c.args.self.now in
    let new = c.take.new.self in
    let step = Rename c.args.from.now c.args.to.now in
    let takes = c.take.ensures.takes step c.rename_step-step.ensures in
    on_ok c.take.result (Same (read_after step (reads_of old)) (reads_of new)) (reads_done old step new _ takes)

pub returns-clause-others : goal.returns-clause-others
returns-clause-others c =
    let old = c.args.self.now in
    let new = c.take.new.self in
    let step = Rename c.args.from.now c.args.to.now in
    let takes = c.take.ensures.takes step c.rename_step-step.ensures in
    reads_either old step new _ takes (λ (f : Files). (q : List ℕ) → q ≢ c.args.from.now → q ≢ c.args.to.now → f q ≡ reads_of old q) (λ q f t. moved_other c.args.from.now c.args.to.now (reads_of old) q f t) (λ q f t. refl)

pub returns-clause-time : goal.returns-clause-time
returns-clause-time c =
    let old = c.args.self.now in
    let new = c.take.new.self in
    let step = Rename c.args.from.now c.args.to.now in
    let takes = c.take.ensures.takes step c.rename_step-step.ensures in
    time_of old step new _ takes

pub returns-clause-same : goal.returns-clause-same
returns-clause-same c =
    let old = c.args.self.now in
    let new = c.take.new.self in
    let step = Rename c.args.from.now c.args.to.now in
    let takes = c.take.ensures.takes step c.rename_step-step.ensures in
    on_err c.take.result (Same (reads_of old) (reads_of new)) (reads_kept old step new _ takes)

pub returns-clause-crash : goal.returns-clause-crash
returns-clause-crash c =
    let old = c.args.self.now in
    let new = c.take.new.self in
    let step = Rename c.args.from.now c.args.to.now in
    let takes = c.take.ensures.takes step c.rename_step-step.ensures in
    λ k from to q content h. (during old step new _ takes k from to q content h).1

pub returns-clause-absent : goal.returns-clause-absent
returns-clause-absent c =
    let old = c.args.self.now in
    let new = c.take.new.self in
    let step = Rename c.args.from.now c.args.to.now in
    let takes = c.take.ensures.takes step c.rename_step-step.ensures in
    λ none k from to q content h. (during old step new _ takes k from to q content h).0 none

use Rattle.std.proofs.Common.{refl}
use Rattle.std.specs.Prelude.{None}
use Rattle.tb_outside.specs.declared.disks.DiskStep.TheVariants.{Remove}
use Rattle.tb_outside.specs.Disk.{Files, Same, SameBut, read_after}
use Rattle.tb_outside.specs.Laws.{put_other}
use Rattle.tb_memory.specs.Crashes.{reads_of}
use Rattle.tb_memory.proofs.Logs.{on_ok, on_err, reads_done, reads_kept, reads_either, time_of, during}
use Rattle.tb_memory.proofs.disks.MemDiskDisk.remove.Goals as goal

pub returns-clause-gone : goal.returns-clause-gone
returns-clause-gone c =
    let old = c.args.self.now in
    let new = c.take.new.self in
    let step = Remove c.args.path.now in
    let takes = c.take.ensures.takes step c.remove_step-step.ensures in
    on_ok c.take.result (Same (read_after step (reads_of old)) (reads_of new)) (reads_done old step new _ takes)

pub returns-clause-others : goal.returns-clause-others
returns-clause-others c =
    let old = c.args.self.now in
    let new = c.take.new.self in
    let step = Remove c.args.path.now in
    let takes = c.take.ensures.takes step c.remove_step-step.ensures in
    reads_either old step new _ takes (λ (f : Files). SameBut c.args.path.now (reads_of old) f) (λ q ne. put_other c.args.path.now None (reads_of old) q ne) (λ q ne. refl)

pub returns-clause-time : goal.returns-clause-time
returns-clause-time c =
    let old = c.args.self.now in
    let new = c.take.new.self in
    let step = Remove c.args.path.now in
    let takes = c.take.ensures.takes step c.remove_step-step.ensures in
    time_of old step new _ takes

pub returns-clause-same : goal.returns-clause-same
returns-clause-same c =
    let old = c.args.self.now in
    let new = c.take.new.self in
    let step = Remove c.args.path.now in
    let takes = c.take.ensures.takes step c.remove_step-step.ensures in
    on_err c.take.result (Same (reads_of old) (reads_of new)) (reads_kept old step new _ takes)

pub returns-clause-crash : goal.returns-clause-crash
returns-clause-crash c =
    let old = c.args.self.now in
    let new = c.take.new.self in
    let step = Remove c.args.path.now in
    let takes = c.take.ensures.takes step c.remove_step-step.ensures in
    during old step new _ takes

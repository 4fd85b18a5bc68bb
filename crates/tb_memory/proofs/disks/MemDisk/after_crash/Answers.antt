use Rattle.std.proofs.Common.{◌≡◌, List, length, sym, ap, subst, ◌++◌, ◌∷◌, [], ◌∙◌}
use Rattle.tb_outside.specs.declared.disks.DiskStep.{DiskStep}
use Rattle.tb_outside.specs.declared.disks.DiskStep.TheVariants.{Sync}
use Rattle.tb_outside.specs.Disk.{Files}
use Rattle.tb_outside.specs.Moments.{Within, IsImage}
use Rattle.tb_memory.specs.Crashes.{DiskState, left_of, left_steps}
use Rattle.tb_memory.proofs.Images.{crash_image, synced_reads, synced_left}
use Rattle.tb_memory.proofs.Logs.{whole_reads}
use Rattle.tb_memory.proofs.disks.MemDisk.after_crash.Goals as goal

pub returns-clause-image : goal.returns-clause-image
returns-clause-image c =
    let log = c.args.self.now.log in
    let steps = left_steps c.args.crash log c.args.moment in
    let new = c.add.new.self in
    let all = c.as_slice.ensures.value ∙ ap (λ (s : DiskState). s.log) c.self.view_is in
    let is : new.log ≡ steps ++ Sync ∷ [] = c.in_ok-add.ensures.log ∙ ap (λ (l : List DiskStep). l ++ Sync ∷ []) (c.in_ok-disk.ensures.log ∙ ap (λ (l : List DiskStep). left_steps c.args.crash l c.args.moment) all) in
    subst (λ (f : Files). IsImage (left_of log c.args.moment) f) (sym (whole_reads new.log new.cut c.add.ensures.cut ∙ synced_reads steps new.log is)) (crash_image log c.args.crash c.args.moment c.requires)

pub returns-clause-synced : goal.returns-clause-synced
returns-clause-synced c =
    let steps = left_steps c.args.crash c.args.self.now.log c.args.moment in
    let new = c.add.new.self in
    let all = c.as_slice.ensures.value ∙ ap (λ (s : DiskState). s.log) c.self.view_is in
    let is : new.log ≡ steps ++ Sync ∷ [] = c.in_ok-add.ensures.log ∙ ap (λ (l : List DiskStep). l ++ Sync ∷ []) (c.in_ok-disk.ensures.log ∙ ap (λ (l : List DiskStep). left_steps c.args.crash l c.args.moment) all) in
    subst (λ (f : Files). Within (λ q content. content ≡ f q) (left_of new.log (length new.log))) (sym (whole_reads new.log new.cut c.add.ensures.cut)) (synced_left steps new.log is)

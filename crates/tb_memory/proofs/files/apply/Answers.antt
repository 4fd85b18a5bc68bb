use Rattle.std.proofs.Common.{◌≡◌, List, [], ◌∷◌, ◌++◌, sym, ap, ◌∙◌}
use Rattle.tb_outside.specs.declared.disks.DiskStep.{DiskStep}
use Rattle.tb_outside.specs.Disk.{Files, no_files, read_after, read_after_all}
use Rattle.tb_outside.specs.Laws.{one_files, read_one_more}
use Rattle.tb_memory.proofs.Maps.{files_of}
use Rattle.tb_memory.proofs.files.apply.Goals as goal

pub returns-clause-same : goal.returns-clause-same
returns-clause-same c =
    let old = c.args.log.now.items in
    let was : read_after_all old no_files ≡ files_of c.args.files.now = one_files (read_after_all old no_files) (files_of c.args.files.now) c.requires in
    let log : c.push.new.self.items ≡ old ++ c.args.step ∷ [] = c.in-Ok.ensures.items ∙ ap (λ (l : List DiskStep). l ++ c.args.step ∷ []) c.reserve.ensures.items in
    λ q. c.in_ok-change.ensures.ok q
    ∙ ap (λ (f : Files). read_after c.args.step f q) (sym was)
    ∙ sym (ap (λ (f : Files). f q) (read_one_more old c.args.step no_files))
    ∙ sym (ap (λ (l : List DiskStep). read_after_all l no_files q) log)

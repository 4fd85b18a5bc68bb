use Rattle.std.proofs.Common.{ℕ, List, ap, subst, ◌∙◌}
use Rattle.std.specs.List.{filter}
use Rattle.std.specs.List.Sorted.{IsStrictlySortedBy}
use Rattle.tb_text.specs.Bytes.{bytes_cmp}
use Rattle.tb_text.specs.Paths.{is_inside}
use Rattle.tb_memory.specs.Crashes.{DiskState, read_of, reads_of, done_of}
use Rattle.tb_memory.proofs.Folders.{lists_folder}
use Rattle.tb_memory.proofs.disks.MemDiskDisk.list.Goals as goal

pub returns-clause-paths : goal.returns-clause-paths
returns-clause-paths c =
    let now = c.begin.new.self in
    let old = c.args.self.now in
    let keys = c.as_slice.ensures ∙ c.in_ok-paths.ensures.paths in
    lists_folder c.self.inside.files (reads_of old) c.args.folder.now
    (λ q. c.self.invariant.0 q ∙ ap (λ (s : DiskState). reads_of s q) c.self.view_is
    ∙ ap (λ l. read_of (done_of l now.cut) q) c.begin.ensures.log ∙ ap (λ b. read_of (done_of old.log b) q) c.begin.ensures.cut)
    (subst (λ (l : List (List ℕ)). IsStrictlySortedBy bytes_cmp l) c.in_ok-paths.ensures.paths c.in_ok-paths.ensures.ascending)
    c.in_ok-only_inside.field-0
    (c.in_ok-only_inside.ensures ∙ ap (λ (l : List (List ℕ)). filter (λ path. is_inside c.args.folder.now path) l) keys)

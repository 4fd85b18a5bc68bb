use Rattle.std.proofs.Common.{◌≡◌, ℕ, List, ap, ◌∙◌}
use Rattle.std.specs.Prelude.{Result, Ok, Err, IfOk}
use Rattle.std.specs.FinMap.{FinMap, get, keys}
use Rattle.std.specs.List.Sorted.{IsStrictlySortedBy}
use Rattle.tb_text.specs.Bytes.{bytes_cmp}
use Rattle.tb_outside.specs.Disk.{Files}
use Rattle.tb_memory.specs.Crashes.{DiskState, reads_of, ListsAll}
use Rattle.tb_memory.proofs.Folders.{lists_all}
use Rattle.tb_memory.proofs.disks.MemDisk.paths.Goals as goal

listed : {E : Type 0} (m : FinMap bytes_cmp (List ℕ)) (files : Files) → ((q : List ℕ) → get m q ≡ files q) → (r : Result (List (List ℕ)) E)
    → IfOk r (λ paths. paths ≡ keys m) → IfOk r (λ paths. IsStrictlySortedBy bytes_cmp paths) → IfOk r (λ paths. ListsAll files paths)
listed m files reads (Ok paths) is sorted = lists_all m files reads paths is sorted
listed m files reads (Err e) is sorted = tt

pub returns : goal.returns
returns c = listed c.self.inside.files (reads_of c.args.self.now) (λ q. c.self.invariant.0 q ∙ ap (λ (s : DiskState). reads_of s q) c.self.view_is) c.paths.result c.paths.ensures.paths c.paths.ensures.ascending

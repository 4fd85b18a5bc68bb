-- What a disk in memory tells may be left.
use Rattle.std.specs.Prelude.{◌≡◌, ℕ, List, [], ◌∷◌, ◌++◌, length, take, refl, Bool, true, false}
use Rattle.std.proofs.Common.{sym, subst, ap}
use Rattle.std.proofs.Math.Seq.{take-length}
use Rattle.tb_outside.specs.declared.disks.DiskStep.{DiskStep}
use Rattle.tb_outside.specs.declared.disks.DiskStep.TheVariants.{Write, Rename, Remove, Sync}
use Rattle.tb_outside.specs.Disk.{Files, Outcomes, no_files, read_after, left_after, read_after_all, left_after_all}
use Rattle.tb_outside.specs.Moments.{IsImage}
use Rattle.tb_outside.specs.Laws.{step_is_left, all_is_left, write_was, move_was, remove_was}
use Rattle.tb_memory.specs.Crashes.{Nothing, read_of, left_of, done_of, front}

-- what a read gave before a step may be left after it
pub before_is_left : (step : DiskStep) (files : Files) (old : Outcomes) → IsImage old files → IsImage (left_after step files old) files
before_is_left (Write path text) files old here q = write_was path old q (files q) (here q)
before_is_left (Rename from to) files old here q = move_was from to files old q (files q) (here q)
before_is_left (Remove path) files old here q = remove_was path old q (files q) (here q)
before_is_left Sync files old here q = refl

front_is_left : (log : List DiskStep) (files : Files) (old : Outcomes) → IsImage old files → IsImage (left_after_all log files old) (read_after_all (front log) files)
front_is_left [] files old here = here
front_is_left (step ∷ []) files old here = before_is_left step files old here
front_is_left (step ∷ next ∷ log) files old here = front_is_left (next ∷ log) (read_after step files) (left_after step files old) (step_is_left step files old here)

done_is_left : (log : List DiskStep) (cut : Bool) → IsImage (left_after_all log no_files Nothing) (read_of (done_of log cut))
done_is_left log true = front_is_left log no_files Nothing (λ q. refl)
done_is_left log false = all_is_left log no_files Nothing (λ q. refl)

pub read_is_left : (log : List DiskStep) (cut : Bool) → IsImage (left_of log (length log)) (read_of (done_of log cut))
read_is_left log cut = subst (λ (l : List DiskStep). IsImage (left_after_all l no_files Nothing) (read_of (done_of log cut))) (sym (take-length log)) (done_is_left log cut)

pub has_image : (log : List DiskStep) (k : ℕ) → (image : Files) × IsImage (left_of log k) image
has_image log k = (read_of (take k log), all_is_left (take k log) no_files Nothing (λ q. refl))

pub front_of : (log : List DiskStep) (step : DiskStep) → front (log ++ step ∷ []) ≡ log
front_of [] step = refl
front_of (first ∷ []) step = refl
front_of (first ∷ next ∷ log) step = ap (λ (l : List DiskStep). first ∷ l) (front_of (next ∷ log) step)

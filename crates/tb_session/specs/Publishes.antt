-- How a publication ends: what the disk reads and what the sink took, before and after. This project's own.
use Rattle.std.specs.Prelude.{◌≡◌, ◌⊎◌, ◌++◌, ℕ, Bool, IsTrue, List, [], ◌∷◌, All, flat_map, take, get_or, Some, None}
use Rattle.tb_text.specs.declared.statuses.Status.{Status}
use Rattle.tb_text.specs.declared.statuses.Status.TheVariants as status
use Rattle.tb_text.specs.declared.statuses.Which.TheVariants.{Disk, Sink}
use Rattle.tb_outside.specs.Causes.{Rose}
use Rattle.tb_outside.specs.Disk.{Files, Same, read_after_all}
use Rattle.tb_outside.specs.Playing.{IsElsewhere}
use Rattle.tb_outside.specs.declared.disks.DiskStep.{DiskStep}
use Rattle.tb_outside.specs.declared.disks.DiskStep.TheVariants.{Sync}
use Rattle.tb_session.specs.declared.publishes.Publication.{Publication}
use Rattle.tb_session.specs.declared.publishes.Script.{Script}

-- what a disk and a sink show
pub record Seen : Type 0 where
  pub files : Files
  pub printed : List ℕ
  pub disk_count : ℕ
  pub sink_count : ℕ

-- what is told of how it ended
pub record Answer : Type 0 where
  pub status : Status
  pub settled : List ℕ
  pub checked : ℕ
  pub built : ℕ

-- the steps of all scripts, one script after the other
abbrev pub steps_of : List Script → List DiskStep
steps_of scripts = flat_map (λ script. script.steps) scripts

-- a call of the disk failed in one of the scripts, or in making the last one stay: those before it were done, and every path
-- that it does not name reads so
pub record FailsAt (disk_tells : Bool) (scripts : List Script) (config : List ℕ) (old new : Files) : Type 0 where
  pub before : List Script
  pub script : Script
  pub after : List Script
  pub whole : scripts ≡ before ++ script ∷ after
  pub named : config ≡ script.config
  pub reads : IsTrue disk_tells → (path : List ℕ) → All (IsElsewhere path) script.steps → new path ≡ read_after_all (steps_of before) old path
  -- of its own steps those before one place were done, and every path that the one at that place does not name reads so
  pub stops : IsTrue disk_tells → (n : ℕ) × ((path : List ℕ) → IsElsewhere path (get_or script.steps n Sync)
      → new path ≡ read_after_all (take n script.steps) (read_after_all (steps_of before) old) path)

-- all was written, and the report was printed
pub record Settles (disk_tells sink_tells : Bool) (p : Publication) (old new : Seen) (answer : Answer) : Type 0 where
  pub ended : answer ≡ record { status = p.status; settled = p.settled; checked = p.checked; built = p.built }
  pub files : IsTrue disk_tells → Same (read_after_all (steps_of p.scripts) old.files) new.files
  pub printed : IsTrue sink_tells → new.printed ≡ old.printed ++ p.report
  pub disk_count : new.disk_count ≡ old.disk_count
  pub sink_count : new.sink_count ≡ old.sink_count

-- a call of the disk failed in the publication of a project, and nothing was printed
pub record DiskFails (disk_tells : Bool) (p : Publication) (old new : Seen) (answer : Answer) : Type 0 where
  pub config : List ℕ
  pub fails : FailsAt disk_tells p.scripts config old.files new.files
  pub ended : answer ≡ record { status = status.Outside Disk (Some config); settled = []; checked = 0; built = 0 }
  pub printed : new.printed ≡ old.printed
  pub disk_count : Rose old.disk_count new.disk_count
  pub sink_count : new.sink_count ≡ old.sink_count

-- all was written, the sink failed, and a front of the report was printed
pub record SinkFails (disk_tells sink_tells : Bool) (p : Publication) (old new : Seen) (answer : Answer) : Type 0 where
  pub ended : answer ≡ record { status = status.Outside Sink None; settled = []; checked = p.checked; built = p.built }
  pub files : IsTrue disk_tells → Same (read_after_all (steps_of p.scripts) old.files) new.files
  pub printed : IsTrue sink_tells → (n : ℕ) × (new.printed ≡ old.printed ++ take n p.report)
  pub disk_count : new.disk_count ≡ old.disk_count
  pub sink_count : Rose old.sink_count new.sink_count

abbrev pub Publishes : Bool → Bool → Publication → Seen → Seen → Answer → Type 0
Publishes disk_tells sink_tells p old new answer =
    Settles disk_tells sink_tells p old new answer ⊎ DiskFails disk_tells p old new answer ⊎ SinkFails disk_tells sink_tells p old new answer

-- A run of several steps on a disk. This project's own.
use Rattle.std.specs.Prelude.{◌≡◌, ◌≢◌, ◌⊎◌, ℕ, ◌≤◌, ◌<◌, List, length, take, get_or}
use Rattle.tb_outside.specs.declared.disks.DiskStep.{DiskStep}
use Rattle.tb_outside.specs.declared.disks.DiskStep.TheVariants.{Write, Rename, Remove, Sync}
use Rattle.tb_outside.specs.Disk.{Files, Outcomes, read_after_all, left_after, left_after_all}
use Rattle.tb_outside.specs.Moments.{Within}

-- a crash leaves what it may leave after some of the steps, none of them skipped
abbrev pub AfterSome : List DiskStep → Files → Outcomes → Outcomes → Type 0
AfterSome steps files old now = (n : ℕ) × (n ≤ length steps) × Within (left_after_all (take n steps) files old) now

-- at each moment of one step a crash leaves what it may leave after the step, or before it
abbrev pub BeforeOrAfter : DiskStep → Files → Outcomes → Outcomes → Type 0
BeforeOrAfter step files old now = Within (left_after step files old) now ⊎ Within old now

-- the step does not name the path
abbrev pub IsElsewhere : List ℕ → DiskStep → Type 0
IsElsewhere q (Write path text) = q ≢ path
IsElsewhere q (Rename from to) = (q ≢ from) × (q ≢ to)
IsElsewhere q (Remove path) = q ≢ path
IsElsewhere q Sync = Unit {0}

-- the steps before one of them were done, and all paths that this one does not name read so
abbrev pub StopsAt : List DiskStep → Files → Files → Type 0
StopsAt steps files now = (n : ℕ) × (n < length steps) × ((q : List ℕ) → IsElsewhere q (get_or steps n Sync) → now q ≡ read_after_all (take n steps) files q)

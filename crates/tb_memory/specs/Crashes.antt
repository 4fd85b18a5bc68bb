-- A disk in memory, by the steps that it took. This project's own.
use Rattle.std.specs.Prelude.{◌≡◌, ◌⊎◌, ◌↔◌, ℕ, zero, suc, ◌-◌, ◌/◌, List, [], ◌∷◌, ◌++◌, length, take, drop, get_or, if◌then◌else◌, None, IsSome, IsTrue, IsFalse, Bool, true, false, Contains}
use Rattle.std.specs.List.Sorted.{IsStrictlySortedBy}
use Rattle.tb_text.specs.Bytes.{bytes_cmp}
use Rattle.tb_outside.specs.declared.disks.DiskStep.{DiskStep}
use Rattle.tb_outside.specs.declared.disks.DiskStep.TheVariants.{Write, Rename, Remove, Sync}
use Rattle.tb_outside.specs.Causes.{Rose}
use Rattle.tb_outside.specs.Disk.{Files, Outcomes, no_files, read_after_all, left_after_all}
use Rattle.tb_memory.specs.declared.crashes.Crash.{Crash}
use Rattle.tb_memory.specs.declared.crashes.Crash.TheVariants.{Old, New, Half}
use Rattle.tb_memory.specs.Plans.{Plan, is_stop}

-- the steps that it took, and whether the last of them was cut in its midst: that one may have left its mark, but a read
-- gives what it gave before. And how often it wanted for memory
pub record DiskState : Type 0 where
  pub log : List DiskStep
  pub cut : Bool
  pub refused : ℕ
  pub plan : Plan

-- all steps but the last
abbrev pub front : List DiskStep → List DiskStep
front [] = []
front (step ∷ []) = []
front (step ∷ next ∷ steps) = step ∷ front (next ∷ steps)

-- the steps that were done
abbrev pub done_of : List DiskStep → Bool → List DiskStep
done_of log cut = if cut then front log else log

-- nothing is at any path
abbrev pub Nothing : Outcomes
Nothing q content = content ≡ None

-- what a read gives after these steps
abbrev pub read_of : List DiskStep → Files
read_of log = read_after_all log no_files

-- what a crash may leave at a moment: that many steps were taken
abbrev pub left_of : List DiskStep → ℕ → Outcomes
left_of log k = left_after_all (take k log) no_files Nothing

-- what a read gives
abbrev pub reads_of : DiskState → Files
reads_of disk = read_of (done_of disk.log disk.cut)

abbrev pub is_sync : DiskStep → Bool
is_sync (Write path text) = false
is_sync (Rename from to) = false
is_sync (Remove path) = false
is_sync Sync = true

-- a call leaves the log as it is, or its step is cut in its midst, and then wanted for no memory
abbrev pub StaysOrCuts : DiskState → DiskStep → DiskState → Type 0
StaysOrCuts old step new = ((new.log ≡ old.log) × (new.cut ≡ old.cut)) ⊎ ((new.log ≡ old.log ++ step ∷ []) × (old.cut ≡ false) × (new.cut ≡ true) × (new.refused ≡ old.refused))

-- a call took no step, cut none, and wanted for no memory
abbrev pub Stands : DiskState → DiskState → Type 0
Stands old new = (new.log ≡ old.log) × (new.cut ≡ old.cut) × (new.refused ≡ old.refused)

-- a call takes a step, or fails: then nothing changes, but for a step at the stop. That one, unless it is a sync, is cut in
-- its midst, or memory was refused. Of a sync at the stop a clause of its own says that all stands
pub record Takes (old : DiskState) (step : DiskStep) (new : DiskState) (failed : Bool) : Type 0 where
  pub done : IsFalse failed → (new.log ≡ old.log ++ step ∷ []) × (old.cut ≡ false) × (new.cut ≡ false)
  pub stopped : IsTrue failed → StaysOrCuts old step new
  pub other : IsFalse (is_stop old.plan) → IsTrue failed → (new.log ≡ old.log) × (new.cut ≡ old.cut)
  pub cuts : IsTrue (is_stop old.plan) → IsFalse (is_sync step) → IsTrue new.cut ⊎ Rose old.refused new.refused

-- ---- what a crash leaves

-- how many of the first k steps stand up to the last sync among them
abbrev pub last_sync : List DiskStep → ℕ → ℕ
last_sync steps zero = 0
last_sync steps (suc k) = if is_sync (get_or steps k Sync) then suc k else last_sync steps k

-- the steps among the first k that follow the last sync
abbrev pub unsynced : List DiskStep → ℕ → List DiskStep
unsynced steps k = take (k - last_sync steps k) (drop (last_sync steps k) steps)

-- each file that these steps write, with the first half of its bytes
abbrev pub halves : List DiskStep → List DiskStep
halves [] = []
halves (Write path text ∷ steps) = Write path (take (length text / 2) text) ∷ halves steps
halves (Rename from to ∷ steps) = halves steps
halves (Remove path ∷ steps) = halves steps
halves (Sync ∷ steps) = halves steps

-- the steps that a crash at a moment leaves: those up to the last sync; all of them; or all of them, but each file that was
-- written since then has the first half of its bytes
abbrev pub left_steps : Crash → List DiskStep → ℕ → List DiskStep
left_steps Old log k = take (last_sync log k) log
left_steps New log k = take k log
left_steps Half log k = take k log ++ halves (unsynced log k)

-- all files, in order, each once
pub record ListsAll (files : Files) (paths : List (List ℕ)) : Type 0 where
  pub members : (q : List ℕ) → Contains paths q ↔ IsSome (files q)
  pub ascending : IsStrictlySortedBy bytes_cmp paths

-- no step of it was cut, none of its calls has been made, and none is to fail
pub record IsFresh (disk : DiskState) : Type 0 where
  pub cut : disk.cut ≡ false
  pub refused : disk.refused ≡ 0
  pub failing : disk.plan.failing ≡ []
  pub stop : disk.plan.stop ≡ None
  pub calls : disk.plan.calls ≡ 0
  pub faults : disk.plan.faults ≡ 0

-- What a disk reads, and what a crash may leave at each path. This project's own.
use Rattle.std.specs.Prelude.{◌≡◌, ◌≢◌, ◌⊎◌, ◌↔◌, ℕ, List, [], ◌∷◌, if◌then◌else◌, Option, Some, None, is_some, IsSome, IsTrue, Contains}
use Rattle.std.specs.Str.{bytes_eq}
use Rattle.std.specs.List.Sorted.{IsStrictlySortedBy}
use Rattle.tb_text.specs.Bytes.{bytes_cmp}
use Rattle.tb_text.specs.Paths.{is_inside}
use Rattle.tb_outside.specs.declared.disks.DiskStep.{DiskStep}
use Rattle.tb_outside.specs.declared.disks.DiskStep.TheVariants.{Write, Rename, Remove, Sync}

-- the bytes at each path, or nothing
abbrev pub Files : Type 0
Files = List ℕ → Option (List ℕ)

-- what a crash may leave at each path, whatever it leaves at others
abbrev pub Outcomes : Type 1
Outcomes = List ℕ → Option (List ℕ) → Type 0

abbrev pub no_files : Files
no_files path = None

-- ---- what a read gives

-- both read alike
abbrev pub Same : Files → Files → Type 0
Same old new = (path : List ℕ) → new path ≡ old path

-- no path but this one reads otherwise
abbrev pub SameBut : List ℕ → Files → Files → Type 0
SameBut path old new = (q : List ℕ) → q ≢ path → new q ≡ old q

-- the files with this at a path
abbrev pub put_at : List ℕ → Option (List ℕ) → Files → Files
put_at path content files q = if bytes_eq q path then content else files q

-- the files after a rename, which changes nothing where there is nothing to rename
abbrev pub moved : List ℕ → List ℕ → Files → Files
moved from to files q = if is_some (files from) then put_at to (files from) (put_at from None files) q else files q

-- the files after a step that was done
abbrev pub read_after : DiskStep → Files → Files
read_after (Write path text) files = put_at path (Some text) files
read_after (Rename from to) files = moved from to files
read_after (Remove path) files = put_at path None files
read_after Sync files = files

-- the same after several steps
abbrev pub read_after_all : List DiskStep → Files → Files
read_after_all [] files = files
read_after_all (step ∷ steps) files = read_after_all steps (read_after step files)

-- all files inside a folder, in order, each once
pub record ListsFolder (folder : List ℕ) (files : Files) (paths : List (List ℕ)) : Type 0 where
  pub members : (q : List ℕ) → Contains paths q ↔ (IsTrue (is_inside folder q) × IsSome (files q))
  pub ascending : IsStrictlySortedBy bytes_cmp paths

-- ---- what a crash may leave

-- after a write its path may hold any bytes or be absent; other paths stay
abbrev pub AfterWrite : List ℕ → Outcomes → Outcomes
AfterWrite path old q content = q ≢ path → old q content

-- after a rename the target may hold what either path might have held, the source what it might have held or
-- nothing; other paths stay
pub record AfterRename (from to : List ℕ) (old : Outcomes) (q : List ℕ) (content : Option (List ℕ)) : Type 0 where
  pub target : q ≡ to → old to content ⊎ old from content
  pub source : q ≡ from → old from content ⊎ (content ≡ None)
  pub others : q ≢ from → q ≢ to → old q content

-- after a removal the path may hold what it might have held, or nothing; other paths stay
pub record AfterRemove (path : List ℕ) (old : Outcomes) (q : List ℕ) (content : Option (List ℕ)) : Type 0 where
  pub target : q ≡ path → old path content ⊎ (content ≡ None)
  pub others : q ≢ path → old q content

-- what a crash may leave after a step on these files. A rename of nothing changes nothing, and a sync leaves what a
-- read gives
abbrev pub left_after : DiskStep → Files → Outcomes → Outcomes
left_after (Write path text) files old = AfterWrite path old
left_after (Rename from to) files old = λ q content. (files from ≡ None → old q content) × AfterRename from to old q content
left_after (Remove path) files old = AfterRemove path old
left_after Sync files old = λ q content. content ≡ files q

-- the same after several steps
abbrev pub left_after_all : List DiskStep → Files → Outcomes → Outcomes
left_after_all [] files old = old
left_after_all (step ∷ steps) files old = left_after_all steps (read_after step files) (left_after step files old)

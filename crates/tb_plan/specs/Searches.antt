-- The search for the configs that are reached: they are numbered as they are met, and read one after the other. This project's own.
use Rattle.std.specs.Prelude.{ℕ, ◌≡◌, ◌+◌, ◌-◌, ◌<◌, ◌≤◌, Bool, true, false, List, [], ◌++◌, map, length, take, slice_index_or, sum_by, All, Contains, Some}
use Rattle.std.specs.List.{AllZip}
use Rattle.std.specs.BTreeMap.{BTreeMap, get}
use Rattle.std.specs.FinMap.{keys}
use Rattle.tb_text.specs.Bytes.{bytes_cmp}
use Rattle.tb_config.specs.Settings.{Reads, Good, Faulty, setting_of}
use Rattle.tb_plan.specs.Orders.{Tree, Paths, is_among, given_by, references_of}
use Rattle.tb_plan.specs.declared.readings.Reading.{Reading}
use Rattle.tb_plan.specs.declared.readings.Reading.TheVariants as reading

-- the path of this number
abbrev pub path_at : Paths → ℕ → List ℕ
path_at paths n = slice_index_or paths n []

-- ---- what is reached from the roots: they, and all that something reached references

pub data IsReached (tree : Tree) (roots : Paths) : List ℕ → Type 0 where
  root : (config : List ℕ) → Contains roots config → IsReached tree roots config
  further : (config far : List ℕ) → IsReached tree roots config → Contains (references_of tree config) far → IsReached tree roots far

-- ---- numbers

-- the map gives the number of each path, and of no other; so none stands twice
pub record IsNumbering (paths : Paths) (numbers : BTreeMap (List ℕ) ℕ) : Type 0 where
  pub each : (n : ℕ) → n < length paths → get bytes_cmp numbers (path_at paths n) ≡ Some n
  pub only : (path : List ℕ) (n : ℕ) → get bytes_cmp numbers path ≡ Some n → (n < length paths) × (path_at paths n ≡ path)

-- these are the numbers of these paths
pub record AreNumbers (paths : Paths) (numbers : List ℕ) (named : Paths) : Type 0 where
  pub within : All (λ n. n < length paths) numbers
  pub are : map (path_at paths) numbers ≡ named

-- some of the named paths are new, and get the next numbers
pub record Grew (old new named : Paths) : Type 0 where
  pub more : Paths
  pub whole : new ≡ old ++ more
  pub few : length more ≤ length named
  pub from : (path : List ℕ) → Contains more path → Contains named path

-- ---- what was read

abbrev pub reads : Reading → Reads
reads (reading.Good setting) = Good setting
reads (reading.Faulty faults) = Faulty faults

-- the first of the configs were read, and what they reference has numbers
pub record IsSearch (tree : Tree) (paths : Paths) (readings : List Reading) (references : List (List ℕ)) : Type 0 where
  pub few : length readings ≤ length paths
  pub are : map reads readings ≡ map (setting_of tree) (take (length readings) paths)
  pub lead : AllZip (λ numbers r. AreNumbers paths numbers (given_by (reads r))) references readings

abbrev pub AreReached : Tree → Paths → Paths → Type 0
AreReached tree roots paths = (config : List ℕ) → Contains paths config → IsReached tree roots config

-- ---- how much is left to do at most: the files that were not read, with their references, and the configs that were met and not read

abbrev pub left_of : Bool → ℕ → ℕ
left_of true references = 0
left_of false references = references + 1

abbrev pub unread : Tree → Paths → Paths → ℕ
unread tree done files = sum_by (λ file. left_of (is_among done file) (length (references_of tree file))) files

abbrev pub left : Tree → Paths → ℕ → ℕ
left tree paths count = unread tree (take count paths) (keys tree) + (length paths - count)

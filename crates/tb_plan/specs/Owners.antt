-- Which projects have which output folders, by their numbers. This project's own.
use Rattle.std.specs.Prelude.{ℕ, ◌≡◌, ◌<◌, true, cond, List, [], ◌∷◌, ◌++◌, slice_get, Contains, Option, Some, None}
use Rattle.std.specs.BTreeMap.{BTreeMap, get, is_at}
use Rattle.tb_text.specs.Bytes.{bytes_cmp}
use Rattle.tb_text.specs.Paths.{is_inside}
use Rattle.tb_config.specs.declared.setting.Setting.{Setting}

abbrev pub folder_by : Option Setting → Option (List ℕ)
folder_by None = None
folder_by (Some s) = s.folder

-- the output folder of the project of a number
abbrev pub folder_at : List Setting → ℕ → Option (List ℕ)
folder_at settings number = folder_by (slice_get settings number)

abbrev pub numbers_in : Option (List ℕ) → List ℕ
numbers_in None = []
numbers_in (Some numbers) = numbers

-- the numbers that are kept for a folder
abbrev pub owners_at : BTreeMap (List ℕ) (List ℕ) → List ℕ → List ℕ
owners_at owners folder = numbers_in (get bytes_cmp owners folder)

-- for each folder just the numbers of the projects that have it are kept, of those below a count
pub record AreOwners (settings : List Setting) (owners : BTreeMap (List ℕ) (List ℕ)) (count : ℕ) : Type 0 where
  pub each : (number : ℕ) (folder : List ℕ) → number < count → folder_at settings number ≡ Some folder → Contains (owners_at owners folder) number
  pub only : (number : ℕ) (folder : List ℕ) → Contains (owners_at owners folder) number → folder_at settings number ≡ Some folder

-- the numbers of the projects inside whose output folders a path lies
pub record AreAround (settings : List Setting) (path : List ℕ) (numbers : List ℕ) : Type 0 where
  pub each : (number : ℕ) (folder : List ℕ) → folder_at settings number ≡ Some folder → is_inside folder path ≡ true → Contains numbers number
  pub only : (number : ℕ) → Contains numbers number → (folder : List ℕ) × (folder_at settings number ≡ Some folder) × (is_inside folder path ≡ true)

-- the project of a number is added, with its output folder if it has one
abbrev pub Adds : BTreeMap (List ℕ) (List ℕ) → Option (List ℕ) → ℕ → BTreeMap (List ℕ) (List ℕ) → Type 0
Adds old None number new = (q : List ℕ) → owners_at new q ≡ owners_at old q
Adds old (Some folder) number new = (q : List ℕ) → owners_at new q ≡ cond (is_at (bytes_cmp folder) q) (owners_at old folder ++ number ∷ []) (owners_at old q)

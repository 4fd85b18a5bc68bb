-- Faults between two projects, by their numbers. This project's own.
use Rattle.std.specs.Prelude.{ℕ, Bool, false, ◌||◌, nat_lt, if◌then◌else◌, List, [], ◌∷◌, length, slice_get, Option, Some, None}
use Rattle.std.specs.List.{filter, flat_map, range_with_len}
use Rattle.std.specs.Str.{bytes_eq}
use Rattle.tb_text.specs.Paths.{is_inside}
use Rattle.tb_text.specs.declared.findings.Diag.{Diag}
use Rattle.tb_config.specs.declared.setting.Setting.{Setting}
use Rattle.tb_plan.specs.Faults.{own_fault}
use Rattle.tb_plan.specs.Owners.{folder_at}

-- at the later project, naming the earlier
abbrev pub pair_of : Option Setting → Option Setting → List Diag
pair_of None earlier = []
pair_of (Some later) None = []
pair_of (Some later) (Some earlier) = own_fault later.config 5008 earlier.config ∷ []

-- of two projects of different numbers
abbrev pub two_by : List Setting → ℕ → ℕ → List Diag
two_by settings one other =
    if nat_lt other one then pair_of (slice_get settings one) (slice_get settings other)
    else if nat_lt one other then pair_of (slice_get settings other) (slice_get settings one)
    else []

-- an output folder is this folder, or this folder lies inside it
abbrev pub is_near : List ℕ → Option (List ℕ) → Bool
is_near folder None = false
is_near folder (Some outer) = bytes_eq outer folder || is_inside outer folder

-- the numbers of the projects that have such an output folder
abbrev pub near_in : List Setting → List ℕ → List ℕ
near_in settings folder = filter (λ number. is_near folder (folder_at settings number)) (range_with_len 0 (length settings))

abbrev pub near : List Setting → Option (List ℕ) → List ℕ
near settings None = []
near settings (Some folder) = near_in settings folder

-- between the project of a number, which has this output folder or none, and those whose folders are near
abbrev pub nested_by : List Setting → ℕ → Option (List ℕ) → List Diag
nested_by settings number folder = flat_map (two_by settings number) (near settings folder)

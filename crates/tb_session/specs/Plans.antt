-- Where a plan writes. This project's own.
use Rattle.std.specs.Prelude.{ℕ, List, [], IsFalse, Contains, flat_map}
use Rattle.std.specs.Option.{option_to_list}
use Rattle.tb_text.specs.Paths.{is_inside}
use Rattle.tb_plan.specs.Plans.{Planned, Sound, Faulted}

-- the output folders of all projects
abbrev pub folders_of : Planned → List (List ℕ)
folders_of (Sound plan) = flat_map (λ project. option_to_list project.setting.folder) plan.projects
folders_of (Faulted diags status) = []

-- the path is inside no output folder
abbrev pub IsOutside : Planned → List ℕ → Type 0
IsOutside planned path = (folder : List ℕ) → Contains (folders_of planned) folder → IsFalse (is_inside folder path)

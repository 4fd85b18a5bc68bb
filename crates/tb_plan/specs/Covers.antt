-- The faults of one path that lies inside output folders, and of the projects of some numbers. This project's own.
use Rattle.std.specs.Prelude.{ℕ, List, [], ◌∷◌, map, slice_get, Option, Some, None}
use Rattle.std.specs.List.{filter}
use Rattle.tb_text.specs.declared.findings.Diag.{Diag}
use Rattle.tb_plan.specs.Faults.{own_fault}
use Rattle.tb_plan.specs.Folders.{is_inside_own}
use Rattle.tb_plan.specs.declared.sources.Sources.{Sources}

-- at each project inside whose output folder the path lies
abbrev pub covered_at : List Sources → List ℕ → List Diag
covered_at projects path = map (λ p. own_fault p.setting.config 5009 path) (filter (λ p. is_inside_own p.setting.folder path) projects)

abbrev pub fault_of : List ℕ → Option Sources → List Diag
fault_of path None = []
fault_of path (Some p) = own_fault p.setting.config 5009 path ∷ []

-- at the project of a number
abbrev pub fault_by : List Sources → List ℕ → ℕ → List Diag
fault_by projects path number = fault_of path (slice_get projects number)

-- Faults of output folders. This project's own.
use Rattle.std.specs.Prelude.{ℕ, Bool, false, ◌||◌, List, [], ◌∷◌, ◌++◌, map, Option, Some, None}
use Rattle.std.specs.List.{filter, flat_map}
use Rattle.std.specs.Str.{bytes_eq}
use Rattle.tb_text.specs.Paths.{is_inside}
use Rattle.tb_text.specs.declared.findings.Diag.{Diag}
use Rattle.tb_config.specs.declared.setting.Setting.{Setting}
use Rattle.tb_plan.specs.Faults.{own_fault}
use Rattle.tb_plan.specs.Orders.{Paths}
use Rattle.tb_plan.specs.declared.sources.Sources.{Sources}

-- ---- TB5008, at the later project and naming the earlier: two output folders are equal, or one lies inside the other

abbrev pub is_shared : List ℕ → List ℕ → Bool
is_shared a b = bytes_eq a b || is_inside a b || is_inside b a

abbrev pub are_shared : Option (List ℕ) → Option (List ℕ) → Bool
are_shared None other = false
are_shared (Some a) None = false
are_shared (Some a) (Some b) = is_shared a b

abbrev pub nested_in : List Setting → Setting → List Diag
nested_in before s = map (λ t. own_fault s.config 5008 t.config) (filter (λ t. are_shared t.folder s.folder) before)

abbrev pub nested_after : List Setting → List Setting → List Diag
nested_after before [] = []
nested_after before (s ∷ rest) = nested_in before s ++ nested_after (before ++ s ∷ []) rest

abbrev pub nested_faults : List Setting → List Diag
nested_faults settings = nested_after [] settings

-- ---- TB5009, at the project whose output folder it is: a config that was read or an input lies inside an output folder

-- the configs that were read, bases among them, and the inputs of all projects
abbrev pub kept_apart : List Sources → Paths
kept_apart projects = flat_map (λ p. p.setting.read ++ p.inputs) projects

abbrev pub is_inside_own : Option (List ℕ) → List ℕ → Bool
is_inside_own None path = false
is_inside_own (Some folder) path = is_inside folder path

abbrev pub covered_in : Paths → Setting → List Diag
covered_in paths s = map (own_fault s.config 5009) (filter (is_inside_own s.folder) paths)

abbrev pub covered_faults : List Sources → List Diag
covered_faults projects = flat_map (λ p. covered_in (kept_apart projects) p.setting) projects

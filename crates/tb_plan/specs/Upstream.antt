-- Which projects are upstream of a project, as they are marked by number. This project's own.
use Rattle.std.specs.Prelude.{◌≡◌, ℕ, ◌<◌, ◌==◌, Bool, false, ◌||◌, List, [], length, slice_get, slice_index_or, Contains, Option, Some, None}
use Rattle.std.specs.List.{list_any}
use Rattle.std.specs.BTreeMap.{BTreeMap}
use Rattle.tb_plan.specs.Owners.{owners_at}
use Rattle.tb_plan.specs.declared.plans.Project.{Project}

-- for each config just the numbers of the projects that it is of are kept
pub record AreConfigs (before : List Project) (configs : BTreeMap (List ℕ) (List ℕ)) : Type 0 where
  pub each : (number : ℕ) (p : Project) → slice_get before number ≡ Some p → Contains (owners_at configs p.setting.config) number
  pub only : (number : ℕ) (config : List ℕ) → Contains (owners_at configs config) number → (p : Project) × (slice_get before number ≡ Some p) × (p.setting.config ≡ config)

abbrev pub upstream_in : Option Project → List ℕ
upstream_in None = []
upstream_in (Some p) = p.upstream

-- it is the number of this project, or upstream of it
abbrev pub is_met_by : List Project → ℕ → ℕ → Bool
is_met_by before project number = project == number || list_any (λ up. up == number) (upstream_in (slice_get before project))

-- the numbers of which this holds are marked too
pub record Marks (holds : ℕ → Bool) (old new : List Bool) : Type 0 where
  pub size : length new ≡ length old
  pub each : (number : ℕ) → number < length old → slice_index_or new number false ≡ (holds number || slice_index_or old number false)

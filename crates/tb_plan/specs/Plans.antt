-- What the files and the roots give: a plan, or its faults. Which configs are projects, and their order, is the Project References
-- chapter of the TypeScript Handbook; this project's own: that any fault leaves no plan, when each fault is looked for, and the statuses.
use Rattle.std.specs.Prelude.{ℕ, Bool, false, not, ◌&&◌, ◌||◌, ◌==◌, if◌then◌else◌, List, [], ◌∷◌, ◌++◌, map, Option, Some, None, codes, Result, Ok, Err, ◌≡◌}
use Rattle.std.specs.List.{filter, flat_map, list_any}
use Rattle.std.specs.Str.{bytes_eq}
use Rattle.tb_text.specs.declared.findings.Diag.{Diag}
use Rattle.tb_text.specs.declared.statuses.Status.{Status}
use Rattle.tb_text.specs.declared.statuses.Status.TheVariants.{Skipped, InvalidProject, Cycle}
use Rattle.tb_config.specs.Settings.{Reads, Good, Faulty, setting_of}
use Rattle.tb_config.specs.declared.setting.Setting.{Setting}
use Rattle.tb_plan.specs.Faults.{kept_fault, in_order}
use Rattle.tb_plan.specs.Orders.{Tree, Paths, Visit, visited}
use Rattle.tb_plan.specs.Inputs.{sources_of, input_faults, shared_faults}
use Rattle.tb_plan.specs.Outputs.{outside_faults, path_faults}
use Rattle.tb_plan.specs.Folders.{nested_faults, covered_faults}
use Rattle.tb_plan.specs.Limits.{limit_faults}
use Rattle.tb_plan.specs.Projects.{projects_of}
use Rattle.tb_plan.specs.declared.sources.Sources.{Sources}
use Rattle.tb_plan.specs.declared.plans.Plan.{Plan}
use Rattle.tb_plan.specs.declared.plans.PlanFault.{PlanFault}
use Rattle.tb_plan.specs.declared.plans.PlanFault.TheVariants as fault

pub data Planned : Type 0 where
  Sound : Plan → Planned
  Faulted : List Diag → Status → Planned

-- ---- the first faults: every config that is reached is read, and the order is made

-- what is wrong with the config itself, as where it is missing or unreadable
abbrev pub faults_in : Reads → List Diag
faults_in (Good setting) = []
faults_in (Faulty faults) = faults

-- read without a fault, and `composite` is not true
abbrev pub lacks_composite : Reads → Bool
lacks_composite (Good setting) = not setting.composite
lacks_composite (Faulty faults) = false

-- TS6306, at a config that is no solution: a config that it references lacks `composite`
abbrev pub composite_faults : Tree → Reads → List Diag
composite_faults tree (Faulty faults) = []
composite_faults tree (Good s) =
    if s.solution then []
    else map (kept_fault s.config 6306) (filter (λ reference. lacks_composite (setting_of tree reference)) s.references)

abbrev pub config_faults : Tree → List ℕ → List Diag
config_faults tree config = faults_in (setting_of tree config) ++ composite_faults tree (setting_of tree config)

-- `a, b, c`
abbrev pub listed : Paths → List ℕ
listed [] = []
listed (path ∷ []) = path
listed (path ∷ next ∷ rest) = path ++ codes ", " ++ listed (next ∷ rest)

-- TS6202, at the first config of the first cycle
abbrev pub cycle_faults : Option Paths → List Diag
cycle_faults None = []
cycle_faults (Some []) = []
cycle_faults (Some (first ∷ rest)) = kept_fault first 6202 (listed (first ∷ rest)) ∷ []

abbrev pub first_faults : Tree → Visit → List Diag
first_faults tree visit = flat_map (config_faults tree) visit.finished ++ cycle_faults visit.cycle

-- ---- the second faults, looked for where there are no first ones: inputs, folders, limits

abbrev pub source_faults : Tree → Sources → List Diag
source_faults tree p = input_faults tree p ++ outside_faults p ++ path_faults p

abbrev pub second_faults : Tree → Paths → List Sources → List Diag
second_faults tree roots projects =
    flat_map (source_faults tree) projects
    ++ shared_faults projects
    ++ nested_faults (map (λ p. p.setting) projects)
    ++ covered_faults projects
    ++ limit_faults tree roots projects

-- ---- the status of a run whose plan has faults

-- a root's own config is missing or unreadable: TB5002 or TB5001 stands at itself
abbrev pub is_lost_by : List ℕ → Diag → Bool
is_lost_by config d = bytes_eq d.path config && d.finding.code.own && (d.finding.code.number == 5001 || d.finding.code.number == 5002)

abbrev pub is_lost : Tree → List ℕ → Bool
is_lost tree root = list_any (is_lost_by root) (faults_in (setting_of tree root))

abbrev pub status_by : Tree → Paths → Option Paths → Status
status_by tree roots (Some cycle) = Cycle
status_by tree roots None = if list_any (is_lost tree) roots then InvalidProject else Skipped

-- ---- the plan

abbrev pub setting_in : Reads → List Setting
setting_in (Good setting) = setting ∷ []
setting_in (Faulty faults) = []

abbrev pub unless_faulty : List Diag → Status → Planned → Planned
unless_faulty [] status planned = planned
unless_faulty (d ∷ ds) status planned = Faulted (in_order (d ∷ ds)) status

-- the plan of projects in order
abbrev pub planned_of : Tree → Paths → List Sources → Planned
planned_of tree roots projects = unless_faulty (second_faults tree roots projects) Skipped (Sound (record { projects = projects_of projects }))

abbrev pub planned_by : Tree → Paths → Visit → Planned
planned_by tree roots visit =
    unless_faulty (first_faults tree visit) (status_by tree roots visit.cycle)
    (planned_of tree roots (sources_of tree (flat_map (λ config. setting_in (setting_of tree config)) visit.finished)))

unfoldable pub plan_of : Tree → Paths → Planned
plan_of tree roots = planned_by tree roots (visited tree roots)

-- an answer gives the plan or the faults; want of memory says nothing
abbrev pub Answers : Result Plan PlanFault → Planned → Type 0
Answers (Ok plan) planned = planned ≡ Sound plan
Answers (Err (fault.Faults diags status)) planned = planned ≡ Faulted diags status
Answers (Err fault.NoMemory) planned = Unit {0}

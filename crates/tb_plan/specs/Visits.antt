-- What is known of the configs once they are read and in order. This project's own.
use Rattle.std.specs.Prelude.{ℕ, ◌≡◌, ◌<◌, Bool, true, false, if◌then◌else◌, List, [], ◌∷◌, ◌++◌, codes, map, length, slice_get, slice_index_or, Option, Some, None}
use Rattle.tb_config.specs.Settings.{setting_of}
use Rattle.tb_graph.specs.Graphs.{AreNodes}
use Rattle.tb_graph.specs.Visits.{Outcome, Ordered, Cyclic, Visits}
use Rattle.tb_plan.specs.Orders.{Tree, Paths, Visit, references_of}
use Rattle.tb_plan.specs.Searches.{path_at, IsNumbering, AreNumbers, reads}
use Rattle.std.specs.List.{filter_map}
use Rattle.tb_text.specs.declared.findings.Diag.{Diag}
use Rattle.tb_plan.specs.Faults.{kept_fault}
use Rattle.tb_plan.specs.Plans.{lacks_composite}
use Rattle.tb_plan.specs.Members.{HasSame}
use Rattle.tb_plan.specs.declared.readings.Reading.{Reading}
use Rattle.tb_plan.specs.declared.readings.Reading.TheVariants as reading
use Rattle.tb_plan.specs.declared.reach.Reach.{Reach}
use Rattle.tb_plan.specs.declared.visit.Arrangement.{Arrangement}
use Rattle.tb_plan.specs.declared.visit.Arrangement.TheVariants as arrangement
use Rattle.tb_plan.specs.declared.visit.Visited.{Visited}

-- ---- the order of the numbers

abbrev pub outcome_of : Arrangement → Outcome
outcome_of (arrangement.Order numbers) = Ordered numbers
outcome_of (arrangement.Cycle numbers) = Cyclic numbers

abbrev pub numbers_of : Arrangement → List ℕ
numbers_of (arrangement.Order numbers) = numbers
numbers_of (arrangement.Cycle numbers) = numbers

-- the first cycle, by its paths
abbrev pub cycle_of : Paths → Arrangement → Option Paths
cycle_of configs (arrangement.Order numbers) = None
cycle_of configs (arrangement.Cycle numbers) = Some (map (path_at configs) numbers)

-- no cycle is empty
abbrev pub GoesRound : Arrangement → Type 0
GoesRound (arrangement.Order numbers) = Unit {0}
GoesRound (arrangement.Cycle numbers) = 0 < length numbers

-- how the visit of the numbers ends
pub record IsArrangement (references : List (List ℕ)) (starts : List ℕ) (a : Arrangement) : Type 0 where
  pub visits : Visits references [] [] starts (outcome_of a)
  pub nodes : AreNodes references (numbers_of a)
  pub round : GoesRound a

-- ---- the order of the configs

-- the numbers of the finished configs in order, or of those of the first cycle
abbrev pub Arranges : Paths → Visit → Arrangement → Type 0
Arranges configs visit (arrangement.Order numbers) = AreNumbers configs numbers visit.finished × (visit.cycle ≡ None)
Arranges configs visit (arrangement.Cycle numbers) = (cycle : Paths) × (visit.cycle ≡ Some cycle) × AreNumbers configs numbers cycle

-- all configs that were met were read, and what each references has numbers
pub record IsRead (tree : Tree) (reach : Reach) : Type 0 where
  pub numbered : IsNumbering reach.configs.paths.items reach.configs.numbers
  pub are : map reads reach.readings.items ≡ map (setting_of tree) reach.configs.paths.items
  pub lead : (k : ℕ) → k < length reach.configs.paths.items → AreNumbers reach.configs.paths.items (slice_index_or reach.references.items k []) (references_of tree (path_at reach.configs.paths.items k))
  pub whole : length reach.references.items ≡ length reach.configs.paths.items

-- they are those that the visit finishes
pub record IsVisited (tree : Tree) (visit : Visit) (v : Visited) : Type 0 where
  pub read : IsRead tree v.reach
  pub same : HasSame v.reach.configs.paths.items visit.finished
  pub arranged : Arranges v.reach.configs.paths.items visit v.arrangement
  pub round : GoesRound v.arrangement

-- ---- what a config of a number lacks

abbrev pub lacks : Option Reading → Bool
lacks None = false
lacks (Some r) = lacks_composite (reads r)

-- the path of a config that was read without a fault and whose `composite` is not true
abbrev pub lacking : List Reading → Paths → ℕ → Option (List ℕ)
lacking readings configs number = if lacks (slice_get readings number) then slice_get configs number else None

-- what stands before the next path of a list
abbrev pub between : Bool → List ℕ → List ℕ
between true text = text
between false text = text ++ codes ", "

-- the path of the first of these numbers
abbrev pub first_path : Paths → List ℕ → Option (List ℕ)
first_path configs [] = None
first_path configs (number ∷ rest) = slice_get configs number

-- the faults of a config that references the configs of these numbers
abbrev pub reading_faults : Reach → Reading → List ℕ → List Diag
reading_faults reach (reading.Faulty own) numbers = own
reading_faults reach (reading.Good s) numbers =
    if s.solution then [] else map (kept_fault s.config 6306) (filter_map (lacking reach.readings.items reach.configs.paths.items) numbers)

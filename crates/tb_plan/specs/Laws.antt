-- What holds of every plan. This project's own.
use Rattle.std.specs.Prelude.{◌≡◌, ℕ, ◌<◌, ◌≤◌, true, false, List, ◌++◌, length, sum_by, slice_get, Contains, Some}
use Rattle.std.specs.List.Sorted.{IsStrictlySortedBy}
use Rattle.std.specs.Ordering.{nat_cmp}
use Rattle.tb_text.specs.Bytes.{bytes_cmp}
use Rattle.tb_text.specs.Paths.{is_inside, is_path}
use Rattle.tb_face.specs.Outputs.{new_info_text, stem_text}
use Rattle.tb_plan.specs.Folders.{are_shared, is_inside_own}
use Rattle.tb_plan.specs.Inputs.{is_file}
use Rattle.tb_plan.specs.Limits.{most_projects, most_files, most_bytes, most_bytes_together, size_of}
use Rattle.tb_plan.specs.Orders.{Tree}
use Rattle.tb_plan.specs.Outputs.{texts_by}
use Rattle.tb_plan.specs.Projects.{digest_in}
use Rattle.tb_plan.specs.declared.plans.Plan.{Plan}
use Rattle.tb_plan.specs.declared.plans.Project.{Project}

-- an input is a file inside the root, of so many bytes at most
pub record IsGoodInput (tree : Tree) (root path : List ℕ) : Type 0 where
  pub file : is_file tree path ≡ true
  pub inside : is_inside root path ≡ true
  pub small : size_of tree path ≤ most_bytes

-- where the project writes, all texts that have to be paths are paths
pub record HasPaths (p : Project) (folder : List ℕ) : Type 0 where
  pub info : is_path (new_info_text folder) ≡ true
  pub outputs : (path text : List ℕ) → Contains p.inputs path → Contains (texts_by folder (stem_text p.setting.root path)) text → is_path text ≡ true

pub record IsGoodProject (tree : Tree) (p : Project) : Type 0 where
  -- all but a solution have an input
  pub some : p.setting.solution ≡ false → 0 < length p.inputs
  pub ascending : IsStrictlySortedBy bytes_cmp p.inputs
  pub inputs : (path : List ℕ) → Contains p.inputs path → IsGoodInput tree p.setting.root path
  pub paths : (folder : List ℕ) → p.setting.folder ≡ Some folder → HasPaths p folder
  pub digest : p.options ≡ digest_in p.setting.folder p.setting

-- the numbers of projects before the project of this number, ascending
pub record IsUpstream (number : ℕ) (upstream : List ℕ) : Type 0 where
  pub ascending : IsStrictlySortedBy nat_cmp upstream
  pub before : (up : ℕ) → Contains upstream up → up < number

-- what holds of two projects, the earlier first
pub record AreApart (p q : Project) : Type 0 where
  pub folders : are_shared p.setting.folder q.setting.folder ≡ false
  pub inputs : (path : List ℕ) → Contains p.inputs path → Contains q.inputs path → ⊥
  pub configs : p.setting.config ≡ q.setting.config → ⊥

-- how much a plan has at most
pub record IsWithinLimits (tree : Tree) (projects : List Project) : Type 0 where
  pub count : length projects ≤ most_projects
  pub files : sum_by (λ p. length p.inputs) projects ≤ most_files
  pub bytes : sum_by (λ p. sum_by (size_of tree) p.inputs) projects ≤ most_bytes_together

pub record PlanOk (tree : Tree) (plan : Plan) : Type 0 where
  pub each : (p : Project) → Contains plan.projects p → IsGoodProject tree p
  pub limits : IsWithinLimits tree plan.projects
  pub upstream : (number : ℕ) (p : Project) → slice_get plan.projects number ≡ Some p → IsUpstream number p.upstream
  -- what a project references is upstream of it, by the number of a project before it
  pub references : (number : ℕ) (p : Project) (reference : List ℕ) → slice_get plan.projects number ≡ Some p → Contains p.setting.references reference
      → (up : ℕ) × (q : Project) × Contains p.upstream up × (slice_get plan.projects up ≡ Some q) × (q.setting.config ≡ reference)
  -- what is upstream of a project is upstream of those that it is upstream of
  pub closed : (number up far : ℕ) (p q : Project) → slice_get plan.projects number ≡ Some p → slice_get plan.projects up ≡ Some q → Contains p.upstream up → Contains q.upstream far → Contains p.upstream far
  pub apart : (earlier later : ℕ) (p q : Project) → earlier < later → slice_get plan.projects earlier ≡ Some p → slice_get plan.projects later ≡ Some q → AreApart p q
  -- no config that was read and no input lies inside an output folder
  pub outside : (p q : Project) (path : List ℕ) → Contains plan.projects p → Contains plan.projects q → Contains (p.setting.read ++ p.inputs) path → is_inside_own q.setting.folder path ≡ false

-- The limits of a plan, and TB5012, the fault beyond one of them. This project's own.
use Rattle.std.specs.Prelude.{ℕ, Bool, nat_lt, List, [], ◌∷◌, ◌++◌, map, length, sum_by, Option, Some, None, codes}
use Rattle.std.specs.List.{filter, flat_map, list_any}
use Rattle.std.specs.FinMap.{get}
use Rattle.tb_text.specs.declared.findings.Diag.{Diag}
use Rattle.tb_plan.specs.Faults.{fault_if, own_fault}
use Rattle.tb_plan.specs.Orders.{Tree, Paths}
use Rattle.tb_plan.specs.declared.sources.Sources.{Sources}

-- projects in a plan, solutions included
abbrev pub most_projects : ℕ
most_projects = 512

-- inputs in a plan, each project's counted
abbrev pub most_files : ℕ
most_files = 20000

-- bytes of one input or config
abbrev pub most_bytes : ℕ
most_bytes = 4194304

-- bytes of all inputs, each project's counted
abbrev pub most_bytes_together : ℕ
most_bytes_together = 268435456

-- `extends` on one chain
abbrev pub most_extends : ℕ
most_extends = 32

-- ---- sizes

abbrev pub length_of : Option (List ℕ) → ℕ
length_of None = 0
length_of (Some text) = length text

abbrev pub size_of : Tree → List ℕ → ℕ
size_of tree path = length_of (get tree path)

abbrev pub files_in : List Sources → ℕ
files_in projects = sum_by (λ p. length p.inputs) projects

abbrev pub bytes_in : Tree → List Sources → ℕ
bytes_in tree projects = sum_by (λ p. sum_by (size_of tree) p.inputs) projects

-- ---- faults

abbrev pub is_large : Tree → List ℕ → Bool
is_large tree path = nat_lt most_bytes (size_of tree path)

-- at the project's config: one of its inputs is large, or its chain of `extends` is long. At itself: a config that was read is large
abbrev pub project_limits : Tree → Sources → List Diag
project_limits tree p =
    fault_if (list_any (is_large tree) p.inputs) p.setting.config 5012 (codes "bytes")
    ++ fault_if (nat_lt most_extends p.setting.chain) p.setting.config 5012 (codes "extends")
    ++ map (λ config. own_fault config 5012 (codes "bytes")) (filter (is_large tree) p.setting.read)

-- at the first root's config: what is counted over the whole plan
abbrev pub root_limits : Tree → List ℕ → List Sources → List Diag
root_limits tree root projects =
    fault_if (nat_lt most_projects (length projects)) root 5012 (codes "projects")
    ++ fault_if (nat_lt most_files (files_in projects)) root 5012 (codes "files")
    ++ fault_if (nat_lt most_bytes_together (bytes_in tree projects)) root 5012 (codes "bytes")

-- without a root there is no project
abbrev pub plan_limits : Tree → Paths → List Sources → List Diag
plan_limits tree [] projects = []
plan_limits tree (root ∷ rest) projects = root_limits tree root projects

abbrev pub limit_faults : Tree → Paths → List Sources → List Diag
limit_faults tree roots projects = plan_limits tree roots projects ++ flat_map (project_limits tree) projects

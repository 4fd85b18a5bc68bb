-- The configs that are reached from the roots, and the order in which they are built: what a project references comes before it, as
-- in the Project References chapter of the TypeScript Handbook. This project's own: the place of each project, and which cycle is the first.
use Prim.Native.Nat.{zero, suc}
use Rattle.std.specs.Prelude.{ℕ, Bool, if◌then◌else◌, List, [], ◌∷◌, ◌++◌, length, fold, Option, Some, None}
use Rattle.std.specs.List.{list_any}
use Rattle.std.specs.Str.{bytes_eq}
use Rattle.std.specs.FinMap.{FinMap, keys}
use Rattle.tb_text.specs.Bytes.{bytes_cmp}
use Rattle.tb_config.specs.Settings.{Reads, Good, Faulty, setting_of}

-- the bytes of files by their paths
abbrev pub Tree : Type 0
Tree = FinMap bytes_cmp (List ℕ)

abbrev pub Paths : Type 0
Paths = List (List ℕ)

abbrev pub is_among : Paths → List ℕ → Bool
is_among paths path = list_any (bytes_eq path) paths

-- ---- references

-- as written; a config with a fault gives none
abbrev pub given_by : Reads → Paths
given_by (Good setting) = setting.references
given_by (Faulty faults) = []

abbrev pub references_of : Tree → List ℕ → Paths
references_of tree config = given_by (setting_of tree config)

-- ---- the depth-first visit

-- how far a visit is: the configs that are finished, in order, and the first cycle that was met
pub record Visit : Type 0 where
  pub finished : Paths
  pub cycle : Option Paths

abbrev pub begun : Visit
begun = record { finished = []; cycle = None }

-- the part of a way from a config on
abbrev pub way_from : List ℕ → Paths → Paths
way_from config [] = []
way_from config (at ∷ rest) = if bytes_eq config at then at ∷ rest else way_from config rest

-- a cycle is met: the first one stays
abbrev pub first_of : Option Paths → Paths → Option Paths
first_of None cycle = Some cycle
first_of (Some first) cycle = Some first

abbrev pub closing : Paths → Visit → Visit
closing cycle visit = record { finished = visit.finished; cycle = first_of visit.cycle cycle }

abbrev pub finishing : List ℕ → Visit → Visit
finishing config visit = record { finished = visit.finished ++ config ∷ []; cycle = visit.cycle }

-- a config is met: one that is finished is passed over, one that is still being visited closes a cycle, and of any other the
-- references are met, and then it is finished itself. `way` leads to it; each of its configs is still being visited
abbrev pub met : (Paths → Visit → List ℕ → Visit) → Paths → Visit → List ℕ → Visit
met entered way visit config =
    if is_among visit.finished config then visit
    else if is_among way config then closing (way_from config way) visit
    else finishing config (entered (way ++ config ∷ []) visit config)

-- configs are met one after the other; a way gets longer by at most `room` configs
unfoldable pub visited_from : ℕ → (List ℕ → Paths) → Paths → Visit → Paths → Visit
visited_from zero references way visit configs = visit
visited_from (suc room) references way visit configs =
    fold (met (λ longer so_far config. visited_from room references longer so_far (references config)) way) visit configs

-- the visit from the roots. No config is twice on a way, and each but the last is a file: so there is room enough
unfoldable pub visited : Tree → Paths → Visit
visited tree roots = visited_from (suc (length (keys tree))) (references_of tree) [] begun roots

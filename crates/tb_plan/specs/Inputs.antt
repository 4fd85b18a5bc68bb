-- The inputs of a project: what `files` names, and what `include` finds and `exclude` does not take out, as in the TSConfig Reference.
-- This project's own: what `include` never finds, and the faults.
use Rattle.std.specs.Prelude.{ℕ, nat_eq, Bool, false, not, ◌&&◌, ◌||◌, ◌==◌, length, List, [], ◌∷◌, ◌++◌, map, Option, Some, None, unwrap_or, is_some, codes}
use Rattle.std.specs.List.{ends_with, filter, flat_map, list_any}
use Rattle.std.specs.Option.{option_to_list}
use Rattle.std.specs.FinMap.{get, keys}
use Rattle.tb_text.specs.Paths.{is_inside}
use Rattle.tb_text.specs.declared.findings.Diag.{Diag}
use Rattle.tb_globs.specs.Globs.{is_match}
use Rattle.tb_globs.specs.declared.parts.UseOf.TheVariants.{Include, Exclude}
use Rattle.tb_face.specs.Outputs.{before_ending}
use Rattle.tb_config.specs.declared.setting.Setting.{Setting}
use Rattle.tb_plan.specs.Faults.{fault_if, own_fault}
use Rattle.tb_plan.specs.Orders.{Tree, Paths, is_among}
use Rattle.tb_plan.specs.declared.sources.Sources.{Sources}

-- ---- what may be found

-- the output folders of projects
abbrev pub folders_of : List Setting → Paths
folders_of settings = flat_map (λ s. option_to_list s.folder) settings

abbrev pub is_inside_any : Paths → List ℕ → Bool
is_inside_any folders path = list_any (λ folder. is_inside folder path) folders

abbrev pub is_source : List ℕ → Bool
is_source path = ends_with nat_eq path (codes ".ts")

abbrev pub is_file : Tree → List ℕ → Bool
is_file tree path = is_some (get tree path)

abbrev pub has_source : Tree → Option (List ℕ) → Bool
has_source tree None = false
has_source tree (Some stem) = is_file tree (stem ++ codes ".ts")

-- `x.d.ts`, where `x.ts` exists
abbrev pub is_beside_source : Tree → List ℕ → Bool
is_beside_source tree path = has_source tree (before_ending (codes ".d.ts") path)

-- `include` finds files ending in `.ts`, nothing inside the output folder of any project, and no `x.d.ts` beside `x.ts`
abbrev pub may_be_found : Tree → Paths → List ℕ → Bool
may_be_found tree folders path = is_source path && not (is_inside_any folders path) && not (is_beside_source tree path)

-- ---- the inputs of a project

-- `exclude` limits only what `include` finds
abbrev pub is_included : Setting → List ℕ → Bool
is_included s path = list_any (λ p. is_match p Include path) s.include && not (list_any (λ p. is_match p Exclude path) s.exclude)

-- the files that `files` names
abbrev pub named_by : Setting → Paths
named_by s = unwrap_or s.files []

abbrev pub is_named : Setting → List ℕ → Bool
is_named s path = is_among (named_by s) path && is_source path

abbrev pub is_input : Tree → Paths → Setting → List ℕ → Bool
is_input tree folders s path = is_named s path || may_be_found tree folders path && is_included s path

-- the files that are inputs of a project, ascending, each once, where these are the output folders of all projects
abbrev pub inputs_of : Tree → Paths → Setting → Paths
inputs_of tree folders s = filter (is_input tree folders s) (keys tree)

-- each project with its inputs
abbrev pub sources_of : Tree → List Setting → List Sources
sources_of tree settings = map (λ s. record { setting = s; inputs = inputs_of tree (folders_of settings) s }) settings

-- ---- faults

-- TB5010: a file that `files` names does not exist, or does not end in `.ts`
abbrev pub name_faults : Tree → Setting → List Diag
name_faults tree s = map (own_fault s.config 5010) (filter (λ path. not (is_file tree path && is_source path)) (named_by s))

-- TB5013: a project that is no solution has no input
abbrev pub lack_faults : Setting → Paths → List Diag
lack_faults s inputs = fault_if (not s.solution && length inputs == 0) s.config 5013 (codes "files")

abbrev pub input_faults : Tree → Sources → List Diag
input_faults tree p = name_faults tree p.setting ++ lack_faults p.setting p.inputs

-- TB5015, at the later project: a file is an input of two projects. `before` has the inputs of the projects before these
abbrev pub shared_after : Paths → List Sources → List Diag
shared_after before [] = []
shared_after before (p ∷ rest) = map (own_fault p.setting.config 5015) (filter (is_among before) p.inputs) ++ shared_after (before ++ p.inputs) rest

abbrev pub shared_faults : List Sources → List Diag
shared_faults projects = shared_after [] projects

-- Faults of the paths that inputs and outputs have. The options `rootDir` and `outDir` are those of the TSConfig Reference; this project's
-- own: when a path is at fault.
use Rattle.std.specs.Prelude.{ℕ, not, List, [], ◌∷◌, ◌++◌, map, Option, Some, None, codes}
use Rattle.std.specs.List.{filter, flat_map}
use Rattle.tb_text.specs.Paths.{is_inside, is_path}
use Rattle.tb_text.specs.declared.findings.Diag.{Diag}
use Rattle.tb_face.specs.Outputs.{stem_text, output_text, new_info_text}
use Rattle.tb_plan.specs.Faults.{own_fault}
use Rattle.tb_plan.specs.Orders.{Paths}
use Rattle.tb_plan.specs.declared.sources.Sources.{Sources}

-- TB5011: an input lies outside `rootDir`
abbrev pub outside_faults : Sources → List Diag
outside_faults p = map (own_fault p.setting.config 5011) (filter (λ path. not (is_inside p.setting.root path)) p.inputs)

-- ---- TB5014: a text that has to be a path is none

-- of an input with a stem: the stem, and the outputs whole
abbrev pub texts_by : List ℕ → Option (List ℕ) → Paths
texts_by folder None = []
texts_by folder (Some stem) = stem ∷ output_text folder stem (codes ".js") ∷ output_text folder stem (codes ".d.ts") ∷ []

-- those that are no path
abbrev pub faults_of : List ℕ → Paths → List Diag
faults_of config texts = map (own_fault config 5014) (filter (λ text. not (is_path text)) texts)

-- of a project with an output folder: where its info is written first, and the texts of its inputs
abbrev pub path_faults_in : List ℕ → List ℕ → List ℕ → Paths → List Diag
path_faults_in config folder root inputs =
    faults_of config (new_info_text folder ∷ []) ++ flat_map (λ path. faults_of config (texts_by folder (stem_text root path))) inputs

abbrev pub faults_by : List ℕ → Option (List ℕ) → List ℕ → Paths → List Diag
faults_by config None root inputs = []
faults_by config (Some folder) root inputs = path_faults_in config folder root inputs

abbrev pub path_faults : Sources → List Diag
path_faults p = faults_by p.setting.config p.setting.folder p.setting.root p.inputs

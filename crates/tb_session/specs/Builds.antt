-- What a clean build of a tree of texts gives: it compiles the projects of the plan in order, each whole. This project's own.
use Rattle.std.specs.Prelude.{ℕ, ◌+◌, ◌≡◌, ◌≢◌, ◌++◌, Contains, List, [], ◌∷◌, Option, Some, None, All, codes, length, map, flat_map, sum_by, count_by, not, nat_eq}
use Rattle.tb_text.specs.declared.findings.Diag.{Diag}
use Rattle.tb_text.specs.declared.findings.Finding.{Finding}
use Rattle.tb_text.specs.declared.statuses.Status.{Status}
use Rattle.tb_face.specs.Digests.{sha}
use Rattle.tb_face.specs.Infos.{spelling}
use Rattle.tb_face.specs.Outputs.{output_text, info_text}
use Rattle.tb_face.specs.declared.infos.Entry.{Entry}
use Rattle.tb_face.specs.declared.infos.Info.{Info}
use Rattle.tb_layout.specs.Erase.{erase}
use Rattle.tb_layout.specs.Js.{js_text}
use Rattle.tb_layout.specs.Surface.{surface}
use Rattle.tb_layout.specs.Dts.{dts_text}
use Rattle.tb_plan.specs.Plans.{plan_of, Sound, Faulted}
use Rattle.tb_plan.specs.declared.plans.Project.{Project}
use Rattle.tb_tree.specs.declared.items.File.{File}
use Rattle.tb_session.specs.Generations.{Tree}
use Rattle.tb_session.specs.Sources.{Reading, Plain, Faulty, Source, Build, IsBuild, projects_in}

-- the bytes at each output path, the diagnostics in order, and the projects in plan order; and the status of the plan's
-- faults, where it has any
pub record Clean : Type 0 where
  pub outputs : List (List ℕ × List ℕ)
  pub diags : List Diag
  pub projects : List Project
  pub faulted : Option Status

-- how many inputs the projects have
abbrev pub checks_of : Clean → ℕ
checks_of clean = sum_by (λ project. length project.inputs) clean.projects

-- how many projects have inputs
abbrev pub builds_of : Clean → ℕ
builds_of clean = count_by (λ project. not (nat_eq (length project.inputs) 0)) clean.projects

-- ---- one source

-- the JavaScript of a file, which is the file without its types; and its declarations, which are what others see of it
abbrev pub js_of : File → List ℕ
js_of file = js_text (erase file)

abbrev pub declaration_of : File → List ℕ
declaration_of file = dts_text (surface file)

-- the pair of a file's outputs: the stem of their paths, and their bytes
pub record Pair : Type 0 where
  pub stem : List ℕ
  pub js : List ℕ
  pub declaration : List ℕ

-- a source with a fault has none
abbrev pub pairs_by : Reading → List Pair
pairs_by (Plain stem file) = record { stem = stem; js = js_of file; declaration = declaration_of file } ∷ []
pairs_by (Faulty finding) = []

abbrev pub pairs_of : Source → List Pair
pairs_of source = pairs_by source.reading

-- the bytes at the paths of a pair in an output folder
abbrev pub js_output : List ℕ → Pair → List ℕ × List ℕ
js_output folder pair = (output_text folder pair.stem (codes ".js"), pair.js)

abbrev pub declaration_output : List ℕ → Pair → List ℕ × List ℕ
declaration_output folder pair = (output_text folder pair.stem (codes ".d.ts"), pair.declaration)

abbrev pub outputs_of : List ℕ → Pair → List (List ℕ × List ℕ)
outputs_of folder pair = js_output folder pair ∷ declaration_output folder pair ∷ []

-- the digest of its declarations, of which a source with a fault has none
abbrev pub signature_of : Reading → Option (List ℕ)
signature_of (Plain stem file) = Some (sha (declaration_of file))
signature_of (Faulty finding) = None

-- what is found in it: its fault, if it has one
abbrev pub findings_of : Reading → List Finding
findings_of (Plain stem file) = []
findings_of (Faulty finding) = finding ∷ []

-- what is recorded of it: a plain file imports nothing, and a file with a fault has no edges, so it reaches nothing
abbrev pub record_of : Source → Entry
record_of source = record {
  path = source.path;
  version = sha source.text;
  signature = signature_of source.reading;
  edges = [];
  reach = [];
  findings = findings_of source.reading;
}

-- ---- one project

-- the info with these entries
abbrev pub info_with : Project → List Entry → Info
info_with project entries = record {
  project = project.setting.config;
  root = project.setting.root;
  options = project.options;
  files = entries;
  pending = [];
}

-- the bytes at the info's path
abbrev pub info_output : List ℕ → Build → List ℕ × List ℕ
info_output folder build = (info_text folder, spelling (info_with build.project (map record_of build.sources)))

-- those of all sources
abbrev pub pairs_in : Build → List Pair
pairs_in build = flat_map pairs_of build.sources

-- the bytes at all output paths; without an output folder there are none
abbrev pub outputs_in : Option (List ℕ) → Build → List (List ℕ × List ℕ)
outputs_in None build = []
outputs_in (Some folder) build = flat_map (outputs_of folder) (pairs_in build) ++ info_output folder build ∷ []

abbrev pub project_outputs : Build → List (List ℕ × List ℕ)
project_outputs build = outputs_in build.project.setting.folder build

-- what is found in the project of this number: in one input after the other, as they ascend, so that the diagnostics stand in order
abbrev pub diag_of : ℕ → List ℕ → Finding → Diag
diag_of number path finding = record { project = number; path = path; finding = finding }

abbrev pub source_diags : ℕ → Source → List Diag
source_diags number source = map (diag_of number source.path) (findings_of source.reading)

abbrev pub project_diags : ℕ → Build → List Diag
project_diags number build = flat_map (source_diags number) build.sources

-- ---- the whole

-- what is found in all projects, the first of which has this number
abbrev pub diags_from : ℕ → List Build → List Diag
diags_from number [] = []
diags_from number (build ∷ rest) = project_diags number build ++ diags_from (number + 1) rest

-- what is built of these projects
abbrev pub build_of : List Build → Clean
build_of builds = record { outputs = flat_map project_outputs builds; diags = diags_from 0 builds; projects = projects_in builds; faulted = None }

-- of a plan with faults nothing is built
abbrev pub faulted_of : List Diag → Status → Clean
faulted_of diags status = record { outputs = []; diags = diags; projects = []; faulted = Some status }

-- the clean build has no output at this path
abbrev pub IsNoOutput : Clean → List ℕ → Type 0
IsNoOutput clean path = (output : List ℕ × List ℕ) → Contains clean.outputs output → path ≢ output.0

-- this is the clean build of the texts from these roots
pub data IsClean (texts : Tree) (roots : List (List ℕ)) : Clean → Type 0 where
  built : (builds : List Build) → plan_of texts roots ≡ Sound (record { projects = projects_in builds }) → All (IsBuild texts) builds
      → IsClean texts roots (build_of builds)
  faulted : (diags : List Diag) (status : Status) → plan_of texts roots ≡ Faulted diags status → IsClean texts roots (faulted_of diags status)

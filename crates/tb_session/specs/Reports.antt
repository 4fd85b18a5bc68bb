-- What is printed of a settled generation, and the status that it has.
use Rattle.std.specs.Prelude.{ℕ, ◌+◌, ◌++◌, Bool, if◌then◌else◌, List, [], ◌∷◌, Option, Some, None, length, map, codes, decimal, count_by, nat_eq}
use Rattle.std.specs.List.{concat}
use Rattle.tb_text.specs.declared.findings.Diag.{Diag}
use Rattle.tb_text.specs.declared.statuses.Status.{Status}
use Rattle.tb_text.specs.declared.statuses.Status.TheVariants as status
use Rattle.tb_text.specs.Messages.{diag_line}
use Rattle.tb_outside.specs.Told.{bytes_at}
use Rattle.tb_plan.specs.declared.plans.Project.{Project}
use Rattle.tb_session.specs.Generations.{Tree}
use Rattle.tb_session.specs.Builds.{Clean}

-- the text in which a diagnostic is counted: its file's; a fault of the plan is counted in none
abbrev pub counted_in : Option Status → Tree → List ℕ → List ℕ
counted_in None texts path = bytes_at texts path
counted_in (Some fault) texts path = []

-- the line of a diagnostic
abbrev pub diag_report : Option Status → Tree → Diag → List ℕ
diag_report faulted texts diag = diag_line diag (counted_in faulted texts diag.path) ++ 10 ∷ []

-- how many diagnostics the project of this number has
abbrev pub errors_of : ℕ → List Diag → ℕ
errors_of project diags = count_by (λ diag. nat_eq diag.project project) diags

-- `project P: n files, m errors`, for each project in plan order, the first of which has this number
abbrev pub project_line : List ℕ → ℕ → ℕ → List ℕ
project_line config files errors = codes "project " ++ config ++ codes ": " ++ decimal files ++ codes " files, " ++ decimal errors ++ codes " errors\n"

abbrev pub project_lines : ℕ → List Diag → List Project → List ℕ
project_lines n diags [] = []
project_lines n diags (project ∷ rest) =
    project_line project.setting.config (length project.inputs) (errors_of n diags) ++ project_lines (n + 1) diags rest

-- `generation g: m errors in p projects`
abbrev pub last_line : ℕ → ℕ → ℕ → List ℕ
last_line generation errors projects = codes "generation " ++ decimal generation ++ codes ": " ++ decimal errors ++ codes " errors in " ++ decimal projects ++ codes " projects\n"

abbrev pub report_text : ℕ → Bool → Tree → Clean → List ℕ
report_text generation verbose texts clean =
    concat (map (diag_report clean.faulted texts) clean.diags)
    ++ (if verbose then project_lines 0 clean.diags clean.projects else [])
    ++ last_line generation (length clean.diags) (length clean.projects)

-- the status of a settled generation: that of the plan's faults; else whether there is a diagnostic
abbrev pub status_by : Option Status → List Diag → Status
status_by (Some fault) diags = fault
status_by None [] = status.Clean
status_by None (diag ∷ rest) = status.Generated

abbrev pub status_of : Clean → Status
status_of clean = status_by clean.faulted clean.diags

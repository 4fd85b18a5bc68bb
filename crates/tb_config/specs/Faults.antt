-- The faults of a setting: of the config and its bases, each as it stands, also where it is overridden. Their codes are this
-- project's own.
use Rattle.std.specs.Prelude.{ℕ, true, List, [], ◌∷◌, Option, Some, None, fold}
use Rattle.std.specs.BTreeSet.{insert_key}
use Rattle.tb_text.specs.Findings.{diag_cmp}
use Rattle.tb_text.specs.declared.findings.Diag.{Diag}
use Rattle.tb_config.specs.Configs.{Content, Missing, Unreadable, Object, Config, folder_of}
use Rattle.tb_options.specs.Objects.{object_faults}
use Rattle.tb_options.specs.Options.{fault, astray}
use Rattle.tb_options.specs.declared.faults.Fault.{Fault}
use Rattle.tb_options.specs.declared.texts.TextOf.TheVariants as kind

-- a fault at the config with this path
abbrev pub diag_at : List ℕ → Fault → Diag
diag_at path fault = record { project = 0; path = path; finding = record { offset = 0; code = record { own = true; number = fault.number }; first = fault.first; second = [] } }

-- in the order of diagnostics, each once
abbrev pub in_order : List Diag → List Diag
in_order = fold (insert_key diag_cmp) []

-- ---- the configs

-- what is wrong in a config that was read
abbrev pub content_faults : List ℕ → Content → List Fault
content_faults folder Missing = []
content_faults folder Unreadable = []
content_faults folder (Object d) = object_faults folder d

abbrev pub config_faults : Config → List Fault
config_faults config = content_faults (folder_of config.path) config.content

-- a config that is missing or unreadable is at fault itself
abbrev pub file_diags_of : List ℕ → Content → List Diag
file_diags_of path Missing = diag_at path (fault 5002 []) ∷ []
file_diags_of path Unreadable = diag_at path (fault 5001 []) ∷ []
file_diags_of path (Object d) = []

abbrev pub file_diags : Config → List Diag
file_diags config = file_diags_of config.path config.content

-- the references that are no paths
abbrev pub followed_faults : List ℕ → Option (List (List ℕ)) → List Fault
followed_faults folder None = []
followed_faults folder (Some texts) = astray kind.Reference folder texts

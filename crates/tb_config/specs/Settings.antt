-- The setting of a config: what it and its bases give, or the list of their faults. What overrides what, and the defaults, are
-- as in the TSConfig Reference; where that leaves a choice, this project's own.
use Rattle.std.specs.Prelude.{ℕ, ◌≡◌, ◌++◌, Bool, true, false, not, ◌&&◌, ◌||◌, if◌then◌else◌, List, [], ◌∷◌, map, filter, length, reverse, fold, Option, Some, None, is_some, unwrap_or, option_map, option_and_then, codes}
use Rattle.std.specs.List.{filter_map, flat_map}
use Rattle.std.specs.BTreeSet.{insert_key}
use Rattle.std.specs.FinMap as map
use Rattle.serde_json.specs.Data.{Data, Items, no_items, item}
use Rattle.serde_json.specs.Find.{as_bool, as_str, as_array}
use Rattle.tb_text.specs.Bytes.{bytes_cmp}
use Rattle.tb_text.specs.Paths.{joined}
use Rattle.tb_text.specs.declared.findings.Diag.{Diag}
use Rattle.tb_config.specs.Configs.{Tree, Content, Missing, Unreadable, Object, Config, config_at, folder_of, member_of}
use Rattle.tb_config.specs.Bases.{bases_at}
use Rattle.tb_options.specs.Members.{texts_of, reference_texts, path_lists, named}
use Rattle.tb_config.specs.Overriding.{Given, member_in, option_in}
use Rattle.tb_config.specs.Walks.{walk_from, longest}
use Rattle.tb_config.specs.Faults.{diag_at, file_diags, config_faults, followed_faults, in_order}
use Rattle.tb_options.specs.Options.{fault, unless}
use Rattle.tb_options.specs.declared.faults.Fault.{Fault}
use Rattle.tb_options.specs.declared.texts.TextOf.TheVariants as kind
use Rattle.tb_config.specs.declared.setting.PathRule.{PathRule}
use Rattle.tb_config.specs.declared.setting.Setting.{Setting}
use Rattle.tb_config.specs.declared.setting.SettingFault.{SettingFault}
use Rattle.tb_config.specs.declared.setting.SettingFault.TheVariants as setting_fault

-- ---- the configs of a setting

-- the config and its bases, each before those that it overrides: the last base and what that one takes from its own come before
-- the base that is written before it
abbrev pub overriding : Tree → List ℕ → List (List ℕ)
overriding tree path = (walk_from (λ p. reverse (bases_at tree p)) (map.keys tree) path).entered

abbrev pub configs_of : Tree → List ℕ → List Config
configs_of tree path = map (config_at tree) (overriding tree path)

-- the configs that are met on the way down from themselves, the bases being taken as they are written
abbrev pub circles_of : Tree → List ℕ → List (List ℕ)
circles_of tree path = (walk_from (bases_at tree) (map.keys tree) path).circles

-- how many `extends` are on the longest chain from the config, which has as many configs as there are at most
abbrev pub chain_of : Tree → List ℕ → ℕ
chain_of tree path = longest (bases_at tree) (length (overriding tree path)) (path ∷ [])

-- ---- the solution

abbrev pub is_empty : Option Items → Bool
is_empty None = false
is_empty (Some no_items) = true
is_empty (Some (item d ds)) = false

abbrev pub is_nonempty : Option Items → Bool
is_nonempty None = false
is_nonempty (Some no_items) = false
is_nonempty (Some (item d ds)) = true

-- no file, no `include`, and a reference of the config's own
abbrev pub is_solution : Config → List Config → Bool
is_solution own configs =
    is_empty (option_and_then (λ given. as_array given.value) (member_in (codes "files") configs))
    && not (is_some (member_in (codes "include") configs))
    && is_nonempty (option_and_then as_array (member_of (codes "references") own))

-- ---- the faults

-- a project has to have an output folder; one that is given badly is another fault
abbrev pub folder_faults : Config → List Config → List Fault
folder_faults own configs = unless (is_solution own configs || is_some (option_in (codes "outDir") configs)) (fault 5007 (codes "outDir"))

-- what is wrong in the setting of a config that was read
abbrev pub own_faults : Config → List Config → List (List ℕ) → List Fault
own_faults own configs circles =
    flat_map config_faults configs
    ++ map (fault 5003) circles
    ++ followed_faults (folder_of own.path) (option_and_then reference_texts (member_of (codes "references") own))
    ++ folder_faults own configs

abbrev pub faults_of : Config → List Config → List (List ℕ) → List Diag
faults_of own configs circles = flat_map file_diags configs ++ map (diag_at own.path) (own_faults own configs circles)

-- ---- the parts of a setting without faults

-- where the text of an option leads
abbrev pub path_of : Option Given → Option (List ℕ)
path_of given = option_and_then (λ g. option_and_then (joined g.folder) (as_str g.value)) given

abbrev pub texts_in : Data → List (List ℕ)
texts_in d = unwrap_or (texts_of d) []

abbrev pub composite_by : Option Given → Bool
composite_by None = false
composite_by (Some given) = unwrap_or (as_bool given.value) false

abbrev pub root_by : Option Given → List ℕ → List ℕ
root_by given folder = unwrap_or (path_of given) folder

abbrev pub output_folder : Config → List Config → Option (List ℕ)
output_folder own configs = if is_solution own configs then None else path_of (option_in (codes "outDir") configs)

abbrev pub path_rule : List ℕ → List ℕ × List (List ℕ) → PathRule
path_rule folder list = record { key = list.0; targets = filter_map (joined folder) list.1 }

abbrev pub path_rules : Option Given → List PathRule
path_rules None = []
path_rules (Some given) = map (path_rule given.folder) (unwrap_or (path_lists given.value) [])

-- the patterns of some texts in the config of a folder, each seen as the folder and the text
abbrev pub patterns : List ℕ → List (List ℕ) → List (List ℕ × List ℕ)
patterns folder texts = map (λ text. (folder, text)) (filter (λ text. is_some (joined folder text)) texts)

abbrev pub given_patterns : Given → List (List ℕ × List ℕ)
given_patterns given = patterns given.folder (texts_in given.value)

-- the files that are named, if any are
abbrev pub files_by : Option Given → Option (List (List ℕ))
files_by = option_map (λ given. filter_map (joined given.folder) (texts_in given.value))

abbrev pub include_by : Option Given → Option Given → List ℕ → List (List ℕ × List ℕ)
include_by (Some include) files folder = given_patterns include
include_by None (Some files) folder = []
include_by None None folder = patterns folder (codes "**/*" ∷ [])

-- a folder, and all that lies in it
abbrev pub whole_folder : Option (List ℕ) → List (List ℕ × List ℕ)
whole_folder None = []
whole_folder (Some folder) = patterns folder ([] ∷ [])

-- the folders that packages are installed in
abbrev pub packages : List (List ℕ)
packages = codes "node_modules" ∷ codes "bower_components" ∷ codes "jspm_packages" ∷ []

abbrev pub exclude_by : Option Given → List ℕ → Option (List ℕ) → List (List ℕ × List ℕ)
exclude_by (Some exclude) folder output = given_patterns exclude
exclude_by None folder output = patterns folder packages ++ whole_folder output

abbrev pub references_of : Config → List (List ℕ)
references_of own = filter_map (named kind.Reference (folder_of own.path)) (unwrap_or (option_and_then reference_texts (member_of (codes "references") own)) [])

-- the paths of the configs, ascending, each once
abbrev pub configs_read : List Config → List (List ℕ)
configs_read configs = fold (insert_key bytes_cmp) [] (map (λ config. config.path) configs)

abbrev pub setting_by : ℕ → Config → List Config → Setting
setting_by chain own configs = record {
  config = own.path;
  solution = is_solution own configs;
  composite = composite_by (option_in (codes "composite") configs);
  root = root_by (option_in (codes "rootDir") configs) (folder_of own.path);
  folder = output_folder own configs;
  paths = path_rules (option_in (codes "paths") configs);
  files = files_by (member_in (codes "files") configs);
  include = include_by (member_in (codes "include") configs) (member_in (codes "files") configs) (folder_of own.path);
  exclude = exclude_by (member_in (codes "exclude") configs) (folder_of own.path) (output_folder own configs);
  references = references_of own;
  read = configs_read configs;
  chain = chain;
}

-- ---- the setting

pub data Reads : Type 0 where
  Good : Setting → Reads
  Faulty : List Diag → Reads

abbrev pub judged : Setting → List Diag → Reads
judged setting [] = Good setting
judged setting (d ∷ ds) = Faulty (in_order (d ∷ ds))

-- a config that is missing or unreadable has this fault alone
abbrev pub setting_by_content : Content → ℕ → Config → List Config → List (List ℕ) → Reads
setting_by_content Missing chain own configs circles = Faulty (file_diags own)
setting_by_content Unreadable chain own configs circles = Faulty (file_diags own)
setting_by_content (Object d) chain own configs circles = judged (setting_by chain own configs) (faults_of own configs circles)

abbrev pub setting_from : ℕ → Config → List Config → List (List ℕ) → Reads
setting_from chain own configs circles = setting_by_content own.content chain own configs circles

abbrev pub setting_of : Tree → List ℕ → Reads
setting_of tree path = setting_from (chain_of tree path) (config_at tree path) (configs_of tree path) (circles_of tree path)

-- what a fault says; want of memory says nothing
abbrev pub IfFaulty : Reads → SettingFault → Type 0
IfFaulty reads (setting_fault.Faults diags) = reads ≡ Faulty diags
IfFaulty reads setting_fault.NoMemory = Unit {0}

-- The projects of a plan. That references lead on is the Project References chapter of the TypeScript Handbook; the rest is this
-- project's own.
use Rattle.std.specs.Prelude.{ℕ, Bool, false, ◌&&◌, ◌||◌, ◌==◌, List, [], ◌∷◌, ◌++◌, map, length, fold, replicate, slice_get, Option, Some, None}
use Rattle.std.specs.List.{filter, list_any, range_with_len}
use Rattle.std.specs.Str.{bytes_eq}
use Rattle.tb_face.specs.Digests.{sha}
use Rattle.tb_face.specs.Options.{options_text}
use Rattle.tb_face.specs.declared.options.Options.{Options}
use Rattle.tb_face.specs.declared.options.PathEntry.{PathEntry}
use Rattle.tb_config.specs.declared.setting.PathRule.{PathRule}
use Rattle.tb_config.specs.declared.setting.Setting.{Setting}
use Rattle.tb_plan.specs.declared.sources.Sources.{Sources}
use Rattle.tb_plan.specs.declared.plans.Project.{Project}

-- ---- upstream: all projects referenced directly or through others

abbrev pub is_config_of : Option Project → List ℕ → Bool
is_config_of None reference = false
is_config_of (Some p) reference = bytes_eq p.setting.config reference

-- the reference is this project's config, and the number is upstream of it
abbrev pub leads_to : ℕ → List ℕ → Project → Bool
leads_to number reference p = bytes_eq p.setting.config reference && list_any (λ up. up == number) p.upstream

-- the reference leads to the project of this number, directly or through others
abbrev pub is_behind : List Project → ℕ → List ℕ → Bool
is_behind before number reference = is_config_of (slice_get before number) reference || list_any (leads_to number reference) before

-- ascending numbers of projects before this one
abbrev pub upstream_of : List Project → Setting → List ℕ
upstream_of before s = filter (λ number. list_any (is_behind before number) s.references) (range_with_len 0 (length before))

-- ---- the digest of the options

abbrev pub entry_of : PathRule → PathEntry
entry_of rule = record { key = rule.key; targets = rule.targets }

abbrev pub options_in : List ℕ → Setting → Options
options_in folder s = record { out_dir = folder; paths = map entry_of s.paths; project = s.config; root_dir = s.root }

-- a project without an output folder has no info and needs no digest: zeros stand for it
abbrev pub digest_in : Option (List ℕ) → Setting → List ℕ
digest_in None s = replicate 32 0
digest_in (Some folder) s = sha (options_text (options_in folder s))

-- ---- the projects, each after those that it references

abbrev pub with_project : List Project → Sources → List Project
with_project before p =
    before ++ record { setting = p.setting; inputs = p.inputs; upstream = upstream_of before p.setting; options = digest_in p.setting.folder p.setting } ∷ []

unfoldable pub projects_of : List Sources → List Project
projects_of sources = fold with_project [] sources

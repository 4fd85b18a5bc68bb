-- The bases of a config: what its `extends` names, as in the TSConfig Reference.
use Rattle.std.specs.Prelude.{ℕ, List, [], unwrap_or, option_and_then, codes}
use Rattle.std.specs.List.{filter_map}
use Rattle.tb_options.specs.Members.{extends_texts, named}
use Rattle.tb_options.specs.declared.texts.TextOf.TheVariants as kind
use Rattle.tb_config.specs.Configs.{Config, Tree, config_at, folder_of, member_of}

-- the bases of a config as written, those that are paths
abbrev pub bases_of : Config → List (List ℕ)
bases_of config = filter_map (named kind.Base (folder_of config.path)) (unwrap_or (option_and_then extends_texts (member_of (codes "extends") config)) [])

abbrev pub bases_at : Tree → List ℕ → List (List ℕ)
bases_at tree path = bases_of (config_at tree path)

-- What the code's values with their folders stand for. This project's own.
use Rattle.std.specs.Prelude.{List, [], ◌∷◌, map, Option, Some, None}
use Rattle.serde_json.specs.View.{view}
use Rattle.tb_config.specs.Configs as spec
use Rattle.tb_config.specs.Overriding as spec_given
use Rattle.tb_config.specs.Seen.{seen}
use Rattle.tb_config.specs.declared.configs.Config.{Config}
use Rattle.tb_config.specs.declared.givens.Given.{Given}
use denote.Ref.{Bor}

abbrev pub seen_given : Given → spec_given.Given
seen_given given = record { folder = given.folder.now; value = view given.value.now }

abbrev pub seen_all : List (Bor Config) → List spec.Config
seen_all configs = map (λ config. seen config.now) configs

-- the config that comes first
abbrev pub first : List (Bor Config) → Option (Bor Config)
first [] = None
first (config ∷ rest) = Some config

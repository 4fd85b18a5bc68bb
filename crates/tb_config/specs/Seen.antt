-- What the code's configs stand for. This project's own.
use Rattle.std.specs.Prelude.{ℕ, ◌≡◌, List, Some, IsSome}
use Rattle.std.specs.BTreeMap.{BTreeMap, get}
use Rattle.tb_text.specs.Bytes.{bytes_cmp}
use Rattle.tb_config.specs.Configs as spec
use Rattle.tb_config.specs.Configs.{Tree, config_at}
use Rattle.tb_config.specs.Contents.{seen_content}
use Rattle.tb_config.specs.declared.configs.Config.{Config}

abbrev pub seen : Config → spec.Config
seen config = record { path = config.path; content = seen_content config.content }

-- each config that is kept at a path is the one that is read there
abbrev pub AreRead : Tree → BTreeMap (List ℕ) Config → Type 0
AreRead tree configs = (path : List ℕ) (config : Config) → get bytes_cmp configs path ≡ Some config → seen config ≡ config_at tree path

-- a config is kept at this path
abbrev pub IsKept : BTreeMap (List ℕ) Config → List ℕ → Type 0
IsKept configs path = IsSome (get bytes_cmp configs path)

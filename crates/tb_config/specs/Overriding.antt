-- What overrides what, as in the TSConfig Reference: of configs of which each comes before those that it overrides, the first that
-- has a member or an option gives it.
use Rattle.std.specs.Prelude.{ℕ, List, [], ◌∷◌, Option, None, option_map}
use Rattle.std.specs.Option.{option_or}
use Rattle.serde_json.specs.Data.{Data}
use Rattle.tb_config.specs.Configs.{Config, folder_of, member_of, option_of}

-- a value, and the folder of the config that gives it
pub record Given : Type 0 where
  pub folder : List ℕ
  pub value : Data

abbrev pub given_by : (Config → Option Data) → Config → Option Given
given_by value config = option_map (λ d. record { folder = folder_of config.path; value = d }) (value config)

-- what the first config gives that gives it
abbrev pub given_in : (Config → Option Data) → List Config → Option Given
given_in value [] = None
given_in value (config ∷ rest) = option_or (given_by value config) (given_in value rest)

abbrev pub member_in : List ℕ → List Config → Option Given
member_in name = given_in (member_of name)

abbrev pub option_in : List ℕ → List Config → Option Given
option_in name = given_in (option_of name)

-- The configs that root words name. This project's own: a word that ends in `.json` is a config, any other a folder with its `tsconfig.json`.
use Rattle.std.specs.Prelude.{ℕ, nat_eq, List, [], ◌∷◌, ◌++◌, Option, Some, None, Result, Ok, Err, if◌then◌else◌, codes}
use Rattle.std.specs.List.{ends_with}
use Rattle.tb_text.specs.Paths.{joined}
use Rattle.tb_text.specs.declared.statuses.UsageFault.{UsageFault}
use Rattle.tb_text.specs.declared.statuses.UsageFault.TheVariants.{BadRoot}
use Rattle.tb_words.specs.Answers.{and_then}

-- the default config of a folder; the empty word is the root folder
abbrev pub config_in : List ℕ → List ℕ
config_in [] = codes "tsconfig.json"
config_in (b ∷ word) = (b ∷ word) ++ codes "/tsconfig.json"

abbrev pub config_text : List ℕ → List ℕ
config_text word = if ends_with nat_eq word (codes ".json") then word else config_in word

abbrev pub root_for : List ℕ → Option (List ℕ) → Result (List ℕ) UsageFault
root_for word (Some path) = Ok path
root_for word None = Err (BadRoot word)

-- the config of a root word, from the folder where the program starts
abbrev pub root_of : List ℕ → Result (List ℕ) UsageFault
root_of word = root_for word (joined [] (config_text word))

-- the configs of all root words, or the first word that names none
abbrev pub roots_of : List (List ℕ) → Result (List (List ℕ)) UsageFault
roots_of [] = Ok []
roots_of (word ∷ words) = and_then (root_of word) (λ path. and_then (roots_of words) (λ paths. Ok (path ∷ paths)))

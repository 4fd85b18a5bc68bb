-- The forms of a config's members, as in the TSConfig Reference, and the paths that their texts name. That a bare text of `extends` is
-- a path like any other, and that `.json` is appended as text, is this project's own.
use Rattle.std.specs.Prelude.{ℕ, ◌++◌, if◌then◌else◌, List, [], ◌∷◌, Option, Some, None, option_map, option_and_then, codes, nat_eq}
use Rattle.std.specs.List.{ends_with}
use Rattle.serde_json.specs.Data.{Data, Items, no_items, item, Members, no_members, member}
use Rattle.serde_json.specs.Find.{get, as_str, as_array, as_object}
use Rattle.tb_text.specs.Paths.{joined}
use Rattle.tb_options.specs.declared.texts.TextOf.{TextOf}
use Rattle.tb_options.specs.declared.texts.TextOf.TheVariants as kind

-- what f gives for each item; none where it gives nothing for one of them
abbrev pub each_item : {X : Type 0} → (Data → Option X) → Items → Option (List X)
each_item f no_items = Some []
each_item f (item d ds) = option_and_then (λ x. option_map (λ xs. x ∷ xs) (each_item f ds)) (f d)

-- the same for the items of a list
abbrev pub list_of : {X : Type 0} → (Data → Option X) → Data → Option (List X)
list_of f d = option_and_then (each_item f) (as_array d)

-- `files`, `include`, `exclude`: a list of texts
abbrev pub texts_of : Data → Option (List (List ℕ))
texts_of = list_of as_str

-- `references`: a list of objects, of which each has a text `path`
abbrev pub reference_text : Data → Option (List ℕ)
reference_text d = option_and_then as_str (get (codes "path") d)

abbrev pub reference_texts : Data → Option (List (List ℕ))
reference_texts = list_of reference_text

abbrev pub text_or : Option (List ℕ) → Option (List (List ℕ)) → Option (List (List ℕ))
text_or None texts = texts
text_or (Some text) texts = Some (text ∷ [])

-- `extends`: a text, or a list of texts
abbrev pub extends_texts : Data → Option (List (List ℕ))
extends_texts d = text_or (as_str d) (texts_of d)

-- `paths`: an object of lists of texts; its keys, each with its list
abbrev pub each_list : Members → Option (List (List ℕ × List (List ℕ)))
each_list no_members = Some []
each_list (member key d ms) = option_and_then (λ texts. option_map (λ rules. (key, texts) ∷ rules) (each_list ms)) (texts_of d)

abbrev pub path_lists : Data → Option (List (List ℕ × List (List ℕ)))
path_lists d = option_and_then each_list (as_object d)

-- ---- what texts name

-- the text of a base with `.json`, which may be left out
abbrev pub base_text : List ℕ → List ℕ
base_text text = if ends_with nat_eq text (codes ".json") then text else text ++ codes ".json"

abbrev pub config_in : List ℕ → List ℕ
config_in [] = codes "tsconfig.json"
config_in (b ∷ text) = (b ∷ text) ++ codes "/tsconfig.json"

-- the text of a referenced config: one that ends in `.json`, or else a folder's `tsconfig.json`
abbrev pub config_text : List ℕ → List ℕ
config_text text = if ends_with nat_eq text (codes ".json") then text else config_in text

-- the path that a text names, from the folder of its config
abbrev pub named : TextOf → List ℕ → List ℕ → Option (List ℕ)
named kind.Path folder text = joined folder text
named kind.Base folder text = joined folder (base_text text)
named kind.Reference folder text = joined folder (config_text text)

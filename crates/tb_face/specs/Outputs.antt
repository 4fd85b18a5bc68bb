-- Stems, and the paths of outputs and infos. After the options `rootDir` and `outDir` of the TSConfig Reference; that stems and
-- output paths are texts, of which some are no path, is this project's own.
use Rattle.std.specs.Prelude.{ℕ, List, [], ◌∷◌, ◌++◌, Option, None, Some, if◌then◌else◌, option_and_then, codes, length, take, drop, ◌-◌, ◌==◌}
use Rattle.std.specs.List.{starts_with, ends_with}
use Rattle.tb_text.specs.Paths.{is_path}

-- ---- stems

-- the text after its start, where it begins so
abbrev pub after_start : List ℕ → List ℕ → Option (List ℕ)
after_start start text = if starts_with (λ a b. a == b) text start then Some (drop (length start) text) else None

-- the text before its ending, where it ends so
abbrev pub before_ending : List ℕ → List ℕ → Option (List ℕ)
before_ending ending text = if ends_with (λ a b. a == b) text ending then Some (take (length text - length ending) text) else None

-- a path relative to a folder: the path itself to the root, else what stands after the folder and a "/"
abbrev pub relative : List ℕ → List ℕ → Option (List ℕ)
relative [] path = Some path
relative (b ∷ rest) path = option_and_then (after_start (codes "/")) (after_start (b ∷ rest) path)

-- a path that ends in `.ts`, but not in `.d.ts`, without the `.ts`
abbrev pub stem_in : List ℕ → Option (List ℕ)
stem_in path = if ends_with (λ a b. a == b) path (codes ".d.ts") then None else before_ending (codes ".ts") path

-- the path relative to the root, without `.ts`: a text only of a path inside the root that ends in `.ts`, but not in `.d.ts`
abbrev pub stem_text : List ℕ → List ℕ → Option (List ℕ)
stem_text root path = option_and_then stem_in (relative root path)

abbrev pub if_path : List ℕ → Option (List ℕ)
if_path text = if is_path text then Some text else None

-- the stem of an entry: such a text, where it is a path
abbrev pub stem_of : List ℕ → List ℕ → Option (List ℕ)
stem_of root path = option_and_then if_path (stem_text root path)

-- ---- outputs

-- the text of a name in a folder
abbrev pub in_folder : List ℕ → List ℕ → List ℕ
in_folder [] name = name
in_folder (b ∷ rest) name = (b ∷ rest) ++ codes "/" ++ name

-- the output of a stem with an ending, in a folder: `folder/stem.js`, `folder/stem.d.ts`
abbrev pub output_text : List ℕ → List ℕ → List ℕ → List ℕ
output_text folder stem ending = in_folder folder (stem ++ ending)

-- the info of a folder
abbrev pub info_text : List ℕ → List ℕ
info_text folder = in_folder folder (codes "tsconfig.tsbuildinfo")

-- the name under which an info is written before it takes the place of the old one
abbrev pub new_info_text : List ℕ → List ℕ
new_info_text folder = in_folder folder (codes "tsconfig.tsbuildinfo.new")

-- What stands in front of the first wildcard of a pattern: all that the pattern matches in `include` is this path, or lies inside it.
-- This project's own.
use Rattle.std.specs.Prelude.{ℕ, ◌≡◌, ◌≤◌, IsTrue, Bool, ◌||◌, List, [], ◌∷◌, length, Option, Some, None}
use Rattle.std.specs.List.{list_all}
use Rattle.std.specs.Str.{bytes_eq}
use Rattle.tb_text.specs.Paths.{is_inside, is_segment, path_text}
use Rattle.tb_text.specs.Walks.{AllBare}
use Rattle.tb_globs.specs.Globs.{parts_of}
use Rattle.tb_globs.specs.declared.parts.Part.{Part}
use Rattle.tb_globs.specs.declared.parts.Part.TheVariants.{Folders, Literal, Wild}

-- the segments that stand for themselves, up to the first that does not
abbrev pub names_of : List Part → List (List ℕ)
names_of [] = []
names_of (Folders ∷ rest) = []
names_of (Literal name ∷ rest) = name ∷ names_of rest
names_of (Wild ps ∷ rest) = []

abbrev pub front_of : Option (List Part) → List ℕ
front_of None = []
front_of (Some parts) = path_text (names_of parts)

-- the path of these segments, where a pattern is the folder and the text that it was read from
abbrev pub folder_of : List ℕ × List ℕ → List ℕ
folder_of pattern = front_of (parts_of pattern.0 pattern.1)

-- a path is this one, or lies inside it
abbrev pub is_within : List ℕ → List ℕ → Bool
is_within folder path = bytes_eq folder path || is_inside folder path

-- these are the segments of a path
pub record AreSegments (names : List (List ℕ)) : Type 0 where
  pub bare : AllBare names
  pub each : IsTrue (list_all is_segment names)
  pub short : length (path_text names) ≤ 1024

-- what is kept of a pattern beside its folder and its text
pub record AreParts (base text : List ℕ) (parts : List Part) (folder : List ℕ) : Type 0 where
  pub are : parts_of base text ≡ Some parts
  pub front : folder ≡ path_text (names_of parts)
  pub segments : AreSegments (names_of parts)

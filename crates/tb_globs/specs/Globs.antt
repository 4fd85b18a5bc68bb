-- How patterns of `include` and `exclude` match paths, as in the TSConfig Reference; where that leaves a choice, this
-- project's own.
use Rattle.std.specs.Prelude.{ℕ, ◌+◌, ◌-◌, Bool, true, false, not, ◌&&◌, ◌||◌, ◌==◌, if◌then◌else◌, List, [], ◌∷◌, ◌++◌, length, map, take, drop, fold, Option, Some, None, option_map, slice_index, codes}
use Rattle.std.specs.List.{list_any}
use Rattle.std.specs.Str.{bytes_eq, chars}
use Rattle.tb_globs.specs.Covers.{is_wild, covers}
use Rattle.tb_globs.specs.declared.parts.Part.{Part}
use Rattle.tb_globs.specs.declared.parts.Part.TheVariants.{Folders, Literal, Wild}
use Rattle.tb_globs.specs.declared.parts.UseOf.{UseOf}
use Rattle.tb_globs.specs.declared.parts.UseOf.TheVariants.{Include, Exclude}
use Rattle.tb_text.specs.Paths.{segments, is_inside, joined}

-- ---- one segment

-- it begins with a dot
abbrev pub is_hidden : List ℕ → Bool
is_hidden s = slice_index s 0 == 46

-- a folder that packages are installed in
abbrev pub is_package : List ℕ → Bool
is_package s = bytes_eq s (codes "node_modules") || bytes_eq s (codes "bower_components") || bytes_eq s (codes "jspm_packages")

-- as `covers`, but a wildcard at the front does not match a leading dot
abbrev pub shows : List ℕ → List ℕ → Bool
shows [] s = covers [] (chars s)
shows (p ∷ ps) s = if is_wild p && is_hidden s then p == 42 && covers ps (chars s) else covers (p ∷ ps) (chars s)

-- a part other than `**` matches a segment
abbrev pub fits : UseOf → Part → List ℕ → Bool
fits usage Folders s = false
fits usage (Literal name) s = bytes_eq name s
fits Include (Wild ps) s = shows ps s && not (list_any is_wild ps && is_package s)
fits Exclude (Wild ps) s = covers ps (chars s)

-- a segment is one of those that `**` may stand for
abbrev pub may_pass : UseOf → List ℕ → Bool
may_pass Include s = not (is_hidden s || is_package s)
may_pass Exclude s = true

-- ---- all segments

-- `**`, and then the rest
abbrev pub through : UseOf → (List (List ℕ) → Bool) → List (List ℕ) → Bool
through usage f [] = f []
through usage f (s ∷ ss) = f (s ∷ ss) || may_pass usage s && through usage f ss

-- one segment, and then the rest
abbrev pub fits_then : UseOf → Part → (List (List ℕ) → Bool) → List (List ℕ) → Bool
fits_then usage part f [] = false
fits_then usage part f (s ∷ ss) = fits usage part s && f ss

abbrev pub part_then : UseOf → Part → (List (List ℕ) → Bool) → List (List ℕ) → Bool
part_then usage Folders f ss = through usage f ss
part_then usage (Literal name) f ss = fits_then usage (Literal name) f ss
part_then usage (Wild ps) f ss = fits_then usage (Wild ps) f ss

-- the parts match these segments, from the first to the last
abbrev pub all_match : UseOf → List Part → List (List ℕ) → Bool
all_match usage [] [] = true
all_match usage [] (s ∷ ss) = false
all_match usage (part ∷ parts) ss = part_then usage part (all_match usage parts) ss

-- a path's segments and those of the folders that it lies in, from the root on
abbrev pub fronts : List (List ℕ) → List (List (List ℕ))
fronts [] = [] ∷ []
fronts (s ∷ ss) = [] ∷ map (λ front. s ∷ front) (fronts ss)

-- in `include` the path itself, in `exclude` the path or a folder that it lies in
abbrev pub parts_match : UseOf → List Part → List (List ℕ) → Bool
parts_match Include parts ss = all_match Include parts ss
parts_match Exclude parts ss = list_any (all_match Exclude parts) (fronts ss)

-- ---- the parts of a pattern

-- a segment of the pattern's own text: `**`, one with wildcards, or one that stands for itself
abbrev pub own_part : List ℕ → Part
own_part s = if bytes_eq s (42 ∷ 42 ∷ []) then Folders else if list_any is_wild s then Wild (chars s) else Literal s

-- `**/*`
abbrev pub everything : List Part
everything = Folders ∷ Wild (42 ∷ []) ∷ []

-- how many segments of the base still stand and how many of the text's own, one part of the text further
abbrev pub standing : ℕ × ℕ → List ℕ → ℕ × ℕ
standing at part =
    if bytes_eq part (46 ∷ []) then at
    else if bytes_eq part (46 ∷ 46 ∷ []) then (if at.1 == 0 then (at.0 - 1, 0) else (at.0, at.1 - 1))
    else (at.0, at.1 + 1)

-- how many segments of the base stand where the text leads
abbrev pub kept : List ℕ → List ℕ → ℕ
kept base text = (fold standing (length (segments base), 0) (segments text)).0

-- the last of some segments, or the empty text
abbrev pub last_of : List (List ℕ) → List ℕ
last_of [] = []
last_of (s ∷ []) = s
last_of (s ∷ next ∷ rest) = last_of (next ∷ rest)

-- `.`, `*`, `?`
abbrev pub is_mark : ℕ → Bool
is_mark b = b == 46 || is_wild b

-- a segment without `.`, `*` and `?`
abbrev pub is_folder_name : List ℕ → Bool
is_folder_name s = not (list_any is_mark s)

-- the segments of a path, the first of them literal and the others patterns
abbrev pub named_parts : ℕ → List (List ℕ) → List Part
named_parts n ss = map Literal (take n ss) ++ map own_part (drop n ss)

-- what a text means that comes to this path: the folder of its config or one above it, or what its last segment names as
-- a folder, means all that `**/*` matches there
abbrev pub parts_at : List ℕ → List ℕ → List ℕ → List Part
parts_at base text path =
    if bytes_eq path base || is_inside path base then map Literal (segments path) ++ everything
    else if is_folder_name (last_of (segments path)) then named_parts (kept base text) (segments path) ++ everything
    else named_parts (kept base text) (segments path)

-- the parts of the pattern of a text in the config of a folder: none where the text comes to no path
abbrev pub parts_of : List ℕ → List ℕ → Option (List Part)
parts_of base text = option_map (parts_at base text) (joined base text)

abbrev pub may_match : Option (List Part) → UseOf → List (List ℕ) → Bool
may_match None usage ss = false
may_match (Some parts) usage ss = parts_match usage parts ss

-- a pattern, which is the folder and the text that it was read from, matches a path
abbrev pub is_match : List ℕ × List ℕ → UseOf → List ℕ → Bool
is_match pattern usage path = may_match (parts_of pattern.0 pattern.1) usage (segments path)

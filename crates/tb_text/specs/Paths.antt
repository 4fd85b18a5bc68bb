-- What a path is, and how paths are joined. This project's own: a path is relative to the folder where the program starts.
use Rattle.std.specs.Prelude.{ℕ, Bool, true, false, not, ◌&&◌, ◌||◌, ◌==◌, nat_le, if◌then◌else◌, List, [], ◌∷◌, ◌++◌, length, Option, Some, None, fold, option_and_then}
use Rattle.std.specs.List.{join_with_byte, list_all, slice_split}
use Rattle.std.specs.Str.{bytes_eq}

-- ---- the text of a path

-- the segments of a text: none of the empty one, else the parts between its "/"
abbrev pub segments : List ℕ → List (List ℕ)
segments [] = []
segments (b ∷ rest) = slice_split (λ c. c == 47) (b ∷ rest)

-- nothing, "." or ".."
abbrev pub is_dots : List ℕ → Bool
is_dots s = bytes_eq s [] || bytes_eq s (46 ∷ []) || bytes_eq s (46 ∷ 46 ∷ [])

-- no segment is empty, "." or "..", or has a "\" or a character below a space
abbrev pub is_segment : List ℕ → Bool
is_segment s = not (is_dots s) && list_all (λ b. nat_le 32 b && not (b == 92)) s

-- the root, which is the empty text, or segments with a "/" between them, in at most 1,024 bytes
abbrev pub is_path : List ℕ → Bool
is_path t = nat_le (length t) 1024 && list_all is_segment (segments t)

-- segments with a "/" between them
abbrev pub path_text : List (List ℕ) → List ℕ
path_text = join_with_byte 47

-- ---- folders

-- all segments but the last
abbrev pub without_last : List (List ℕ) → List (List ℕ)
without_last [] = []
without_last (s ∷ []) = []
without_last (s ∷ next ∷ rest) = s ∷ without_last (next ∷ rest)

-- one folder up
abbrev pub gone_up : List (List ℕ) → Option (List (List ℕ))
gone_up [] = None
gone_up (s ∷ rest) = Some (without_last (s ∷ rest))

-- the folder that a path stands in: none of the root
abbrev pub parent_of : List ℕ → Option (List ℕ)
parent_of [] = None
parent_of (b ∷ rest) = Some (path_text (without_last (segments (b ∷ rest))))

-- the first segments are a front of the second ones, which go on
abbrev pub is_proper_front : List (List ℕ) → List (List ℕ) → Bool
is_proper_front [] [] = false
is_proper_front [] (s ∷ rest) = true
is_proper_front (s ∷ front) [] = false
is_proper_front (s ∷ front) (t ∷ rest) = bytes_eq s t && is_proper_front front rest

-- a path lies inside a folder, at any depth
abbrev pub is_inside : List ℕ → List ℕ → Bool
is_inside folder path = is_proper_front (segments folder) (segments path)

-- ---- joining

-- one part of a text further: "." stays, ".." goes up, any other part goes down; none where it goes up from the root
abbrev pub step_by : Option (List (List ℕ)) → List ℕ → Option (List (List ℕ))
step_by None part = None
step_by (Some at) part =
    if bytes_eq part (46 ∷ []) then Some at
    else if bytes_eq part (46 ∷ 46 ∷ []) then gone_up at
    else Some (at ++ part ∷ [])

-- where the parts of a text lead from a folder, one after the other
abbrev pub led_from : List ℕ → List ℕ → Option (List (List ℕ))
led_from folder text = fold step_by (Some (segments folder)) (segments text)

-- these segments as a path, where they are one
abbrev pub path_of : List (List ℕ) → Option (List ℕ)
path_of parts = if nat_le (length (path_text parts)) 1024 && list_all is_segment parts then Some (path_text parts) else None

-- a text, which may have "." and "..", counted from a folder: only where it leads has to be a path
abbrev pub joined : List ℕ → List ℕ → Option (List ℕ)
joined folder text = option_and_then path_of (led_from folder text)

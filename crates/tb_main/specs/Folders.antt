-- Which folders the tree of sources leaves out by their name. This project's own.
use Rattle.std.specs.Prelude.{ℕ, Bool, ◌||◌, ◌==◌, List, codes, slice_index}
use Rattle.std.specs.Str.{bytes_eq}

-- `node_modules`, and each name that begins with a dot
abbrev pub is_left_out : List ℕ → Bool
is_left_out name = bytes_eq name (codes "node_modules") || (slice_index name 0 == 46)

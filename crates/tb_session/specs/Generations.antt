-- The texts of each generation of a run, and the turns of the feed that it takes. This project's own.
use Rattle.std.specs.Prelude.{ℕ, zero, suc, ◌+◌, Bool, true, false, ◌||◌, if◌then◌else◌, List, [], ◌∷◌, take, Option, Some, None, codes, nat_eq}
use Rattle.std.specs.List.{ends_with, filter_map}
use Rattle.std.specs.FinMap as map
use Rattle.tb_text.specs.Bytes.{bytes_cmp}
use Rattle.tb_outside.specs.Told.{bytes_at}
use Rattle.tb_outside.specs.declared.feeds.Change.{Change}
use Rattle.tb_outside.specs.declared.feeds.Change.TheVariants.{Put, Gone}
use Rattle.tb_outside.specs.declared.feeds.Edit.{Edit}
use Rattle.tb_outside.specs.declared.feeds.Turn.{Turn}
use Rattle.tb_outside.specs.declared.feeds.Turn.TheVariants.{Batch, Quiet, End}

-- the bytes at each path of a tree
abbrev pub Tree : Type 0
Tree = map.FinMap bytes_cmp (List ℕ)

-- so much of a file is read: one byte more than a text may have
abbrev pub most_bytes : ℕ
most_bytes = 4194305

abbrev pub is_source : List ℕ → Bool
is_source path = ends_with nat_eq path (codes ".ts") || ends_with nat_eq path (codes ".json")

-- a path that ends in `.ts` or `.json`, with what is read there
abbrev pub read_at : Tree → List ℕ → Option (List ℕ × List ℕ)
read_at told path = if is_source path then Some (path, take most_bytes (bytes_at told path)) else None

-- what the tree tells at those of these paths that end in `.ts` or `.json`
abbrev pub read_all : Tree → List (List ℕ) → Tree
read_all told paths = map.from_entries (filter_map (read_at told) paths)

-- generation 0: what the tree tells at all its paths that end in `.ts` or `.json`
abbrev pub opening : Tree → Tree
opening told = read_all told (map.keys told)

abbrev pub edited : Tree → Edit → Tree
edited texts edit = by_change edit.change
  where
    by_change : Change → Tree
    by_change (Put text) = map.insert texts edit.path text
    by_change Gone = map.remove texts edit.path

-- the edits of a batch, in order
abbrev pub after_batch : Tree → List Edit → Tree
after_batch texts [] = texts
after_batch texts (edit ∷ rest) = after_batch (edited texts edit) rest

-- the texts of generation g: the opening's with the first g batches applied
abbrev pub texts_at : Tree → List (List Edit) → ℕ → Tree
texts_at texts batches zero = texts
texts_at texts [] (suc g) = texts
texts_at texts (batch ∷ rest) (suc g) = texts_at (after_batch texts batch) rest g

-- ---- the turns of the feed

-- the turns that a run takes: without `--watch` none; with it the first so many, up to and with the first End, which
-- a feed with no turns left gives
abbrev pub taken : Bool → ℕ → List Turn → List Turn
taken false budget turns = []
taken true zero turns = []
taken true (suc n) [] = End ∷ []
taken true (suc n) (End ∷ rest) = End ∷ []
taken true (suc n) (Quiet ∷ rest) = Quiet ∷ taken true n rest
taken true (suc n) (Batch edits ∷ rest) = Batch edits ∷ taken true n rest

abbrev pub batches : List Turn → List (List Edit)
batches [] = []
batches (Batch edits ∷ rest) = edits ∷ batches rest
batches (Quiet ∷ rest) = batches rest
batches (End ∷ rest) = batches rest

-- the number of batches before each Quiet turn, counted on from n
abbrev pub quiets_from : ℕ → List Turn → List ℕ
quiets_from n [] = []
quiets_from n (Batch edits ∷ rest) = quiets_from (n + 1) rest
quiets_from n (Quiet ∷ rest) = n ∷ quiets_from n rest
quiets_from n (End ∷ rest) = quiets_from n rest

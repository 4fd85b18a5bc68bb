-- What the tree, the feed and the sink tell. This project's own.
use Rattle.std.specs.Prelude.{◌≡◌, ℕ, ◌≤◌, List, [], ◌∷◌, ◌++◌, length, take, unwrap_or}
use Rattle.std.specs.FinMap as map
use Rattle.tb_text.specs.Bytes.{bytes_cmp}
use Rattle.tb_outside.specs.declared.feeds.Turn.{Turn}
use Rattle.tb_outside.specs.declared.feeds.Turn.TheVariants.{End}

-- the bytes of a file, none where it is absent
abbrev pub bytes_at : map.FinMap bytes_cmp (List ℕ) → List ℕ → List ℕ
bytes_at texts path = unwrap_or (map.get texts path) []

-- the first of the turns, and just that one, is taken off; where none is left it is the end, and none is left
abbrev pub TakesTurn : List Turn → Turn → List Turn → Type 0
TakesTurn [] turn left = (turn ≡ End) × (left ≡ [])
TakesTurn (first ∷ rest) turn left = (turn ≡ first) × (left ≡ rest)

-- a prefix of the piece was taken
abbrev pub TakesFront : List ℕ → List ℕ → List ℕ → Type 0
TakesFront old piece new = (n : ℕ) × (n ≤ length piece) × (new ≡ old ++ take n piece)

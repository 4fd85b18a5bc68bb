-- How a list of symbols reads as items, and where it does not, for any relation that derives an item.
use Rattle.std.specs.Prelude.{ℕ, List, [], ◌∷◌}
use Rattle.tb_tree.specs.Sym.{Sym, at_of}
use Rattle.tb_tree.specs.Longest.{Found, Lacks, Any}

module _ {X : Type 0} (D : List Sym → X → Type 0) where
  -- the symbols are items, each the longest front of the rest that derives one
  pub data ReadsAs : List Sym → List X → Type 0 where
    no_items : ReadsAs [] []
    more_items : {xs ys : List Sym} {of : X} {rest : List X} → Found D Any xs of ys → ReadsAs ys rest → ReadsAs xs (of ∷ rest)

  -- after such items no front of the rest derives one, and the rest begins at this offset
  pub data StopsAt : List Sym → ℕ → Type 0 where
    stops_here : (s : Sym) (ss : List Sym) → Lacks D (s ∷ ss) → StopsAt (s ∷ ss) (at_of s)
    stops_later : {xs ys : List Sym} {of : X} {at : ℕ} → Found D Any xs of ys → StopsAt ys at → StopsAt xs at

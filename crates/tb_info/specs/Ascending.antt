-- Lists in which each member is below the next one. This project's own.
use Rattle.std.specs.Prelude.{Bool, true, ◌&&◌, List, [], ◌∷◌}
use Rattle.std.specs.Ordering.{is_lt}
use Rattle.std.specs.declared.cmp.Ordering.{Ordering}

abbrev pub neighbours_ascend : {X : Type 0} → (X → X → Ordering) → List X → Bool
neighbours_ascend cmp [] = true
neighbours_ascend cmp (x ∷ []) = true
neighbours_ascend cmp (x ∷ y ∷ rest) = is_lt (cmp x y) && neighbours_ascend cmp (y ∷ rest)

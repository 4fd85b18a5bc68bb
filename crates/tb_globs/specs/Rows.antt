-- What a walk over parts and segments keeps: for each rest of the segments, whether the rest of the parts matches it. This
-- project's own.
use Rattle.std.specs.Prelude.{ℕ, ◌≡◌, ◌≤◌, Bool, true, false, List, [], ◌∷◌, length, drop, slice_index_or}
use Rattle.tb_globs.specs.Globs.{part_then}
use Rattle.tb_globs.specs.declared.parts.Part.{Part}
use Rattle.tb_globs.specs.declared.parts.UseOf.{UseOf}
use Rattle.tb_globs.specs.declared.parts.UseOf.TheVariants.{Include, Exclude}

-- the row has the answer for each rest of the segments
pub record IsRow (row : List Bool) (f : List (List ℕ) → Bool) (ss : List (List ℕ)) : Type 0 where
  pub at : (k : ℕ) → k ≤ length ss → slice_index_or row k false ≡ f (drop k ss)

-- where no parts are left: at the end, or in `exclude` anywhere
abbrev pub ends : UseOf → List (List ℕ) → Bool
ends Include [] = true
ends Include (s ∷ ss) = false
ends Exclude ss = true

-- the parts match a front of the segments, in `include` all of them
abbrev pub reaches : UseOf → List Part → List (List ℕ) → Bool
reaches usage [] ss = ends usage ss
reaches usage (part ∷ parts) ss = part_then usage part (reaches usage parts) ss

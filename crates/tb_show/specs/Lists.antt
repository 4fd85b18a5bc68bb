-- How a list is written whose members have a gap between them.
use Rattle.std.specs.Prelude.{ℕ, Bool, true, false, List, [], ◌∷◌, ◌++◌}
use Rattle.tb_layout.specs.Pieces.{Piece, text_of}

-- what stands before a member, where there is an earlier one or not
abbrev pub gap_text : List ℕ → Bool → List ℕ
gap_text gap true = gap
gap_text gap false = []

-- the members that are left to write
abbrev pub further_text : {A : Type 0} → List ℕ → (A → List Piece) → Bool → List A → List ℕ
further_text gap f some [] = []
further_text gap f some (x ∷ xs) = gap_text gap some ++ (text_of (f x) ++ further_text gap f true xs)

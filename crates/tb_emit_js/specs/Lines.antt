-- What is written for a span of a template, and which statements are laid out as blocks.
use Rattle.std.specs.Prelude.{ℕ, Bool, true, false, List, [], ◌∷◌, ◌++◌, codes}
use Rattle.tb_layout.specs.Pieces.{Piece, text_of}
use Rattle.tb_layout.specs.Js.{Laid, LaidStmt}

abbrev pub span_text : (List Piece × List ℕ) → List ℕ
span_text of = text_of of.0 ++ of.1

abbrev pub is_block : LaidStmt → Bool
is_block of = of.is_block

-- what stands before a member of a list, where there is an earlier one or not
abbrev pub comma_text : Bool → List ℕ
comma_text true = codes ", "
comma_text false = []

-- the members of a list that are left to write
abbrev pub further_text : {A : Type 0} → (A → Laid) → ℕ → Bool → List A → List ℕ
further_text f n some [] = []
further_text f n some (x ∷ xs) = comma_text some ++ (text_of (f x n) ++ further_text f n true xs)

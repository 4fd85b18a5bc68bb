-- The rows of the table of codes, as the code borrows them. This project's own.
use Rattle.std.specs.Prelude.{ℕ, Bool, List, map}
use Rattle.std.specs.Borrow.{Bor}
use Rattle.tb_text.specs.Messages.{Piece, Row}
use Rattle.tb_text.specs.declared.codes.Place.{Place}

abbrev pub plain_pieces : List (Bor (List ℕ) × Place) → List Piece
plain_pieces = map (λ piece. (piece.0.now, piece.1))

abbrev pub plain_row : Bool × ℕ × ℕ × Bor (List (Bor (List ℕ) × Place)) → Row
plain_row row = (row.0, row.1, row.2, plain_pieces row.3.now)

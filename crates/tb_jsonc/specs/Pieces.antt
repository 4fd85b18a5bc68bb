-- The pieces of a text: strings with their quotes, comments, and single bytes that stand in neither. Comments are those of
-- the TypeScript compiler's configs; that a string or a comment is found from the left is this project's own.
use Rattle.std.specs.Prelude.{ℕ, ◌+◌, Bool, false, not, ◌&&◌, ◌==◌, if◌then◌else◌, List, [], ◌∷◌, Option, Some, None, option_map, drop, slice_index}
use Rattle.tb_jsonc.specs.declared.pieces.Kind.{Kind}
use Rattle.tb_jsonc.specs.declared.pieces.Kind.TheVariants.{Quoted, Comment, Plain}
use Rattle.tb_jsonc.specs.declared.pieces.Piece.{Piece}

-- the bytes of a string after its first `"`: up to and with the next `"` that no `\` takes, else all
abbrev pub string_len : Bool → List ℕ → ℕ
string_len escaped [] = 0
string_len escaped (b ∷ rest) = if b == 34 && not escaped then 1 else string_len (b == 92 && not escaped) rest + 1

-- the bytes up to the next LF, else all
abbrev pub line_len : List ℕ → ℕ
line_len [] = 0
line_len (b ∷ rest) = if b == 10 then 0 else line_len rest + 1

-- the bytes up to and with the next `*/`, a `*` standing before them or not; none where there is no `*/`
abbrev pub block_len : Bool → List ℕ → Option ℕ
block_len starred [] = None
block_len starred (b ∷ rest) = if b == 47 && starred then Some 1 else option_map (λ n. n + 1) (block_len (b == 42) rest)

abbrev pub piece : Kind → ℕ → Piece
piece kind len = record { kind = kind; len = len }

-- the piece that a text begins with: none where it is a comment without an end
abbrev pub first_piece : List ℕ → Option Piece
first_piece text =
    if slice_index text 0 == 34 then Some (piece Quoted (string_len false (drop 1 text) + 1))
    else if slice_index text 0 == 47 && slice_index text 1 == 47 then Some (piece Comment (line_len (drop 2 text) + 2))
    else if slice_index text 0 == 47 && slice_index text 1 == 42 then option_map (λ n. piece Comment (n + 2)) (block_len false (drop 2 text))
    else Some (piece Plain 1)

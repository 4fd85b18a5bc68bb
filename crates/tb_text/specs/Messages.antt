-- The texts of the codes, and the printed line of a diagnostic. This project's own,
-- but for the numbers of the codes that begin with TS and the form of the line, which are the TypeScript compiler's.
use Rattle.std.specs.Prelude.{ℕ, Bool, true, false, not, ◌&&◌, if◌then◌else◌, nat_eq, nat_le, List, [], ◌∷◌, ◌++◌, codes, decimal, drop, length, min}
use Rattle.std.specs.List.{starts_with}
use Rattle.tb_text.specs.Lines.{column_at, line_at}
use Rattle.tb_text.specs.declared.codes.Place.{Place}
use Rattle.tb_text.specs.declared.codes.Place.TheVariants.{First, Second, Number, End}
use Rattle.tb_text.specs.declared.findings.Code.{Code}
use Rattle.tb_text.specs.declared.findings.Diag.{Diag}

-- the words of a piece, and what stands behind them
abbrev pub Piece : Type 0
Piece = List ℕ × Place

-- whether the codes are this project's own, the first and the last of their numbers, and their text
abbrev pub Row : Type 0
Row = Bool × ℕ × ℕ × List Piece

-- the table of codes: of those that begin with TS, and of this project's own; no code is in two of its rows
abbrev pub rows : List Row
rows =
    (false, 2300, 2300, (codes "Duplicate identifier '", First) ∷ (codes "'.", End) ∷ [])
    ∷ (false, 2304, 2304, (codes "Cannot find name '", First) ∷ (codes "'.", End) ∷ [])
    ∷ (false, 2305, 2305, (codes "Module '", First) ∷ (codes "' has no exported member '", Second) ∷ (codes "'.", End) ∷ [])
    ∷ (false, 2307, 2307, (codes "Cannot find module '", First) ∷ (codes "'.", End) ∷ [])
    ∷ (false, 2322, 2322, (codes "Type '", First) ∷ (codes "' is not assignable to type '", Second) ∷ (codes "'.", End) ∷ [])
    ∷ (false, 2339, 2339, (codes "Property '", First) ∷ (codes "' does not exist on type '", Second) ∷ (codes "'.", End) ∷ [])
    ∷ (false, 2345, 2345, (codes "Argument of type '", First) ∷ (codes "' is not assignable to parameter of type '", Second) ∷ (codes "'.", End) ∷ [])
    ∷ (false, 2554, 2554, (codes "Expected ", First) ∷ (codes " arguments, but got ", Second) ∷ (codes ".", End) ∷ [])
    ∷ (false, 6202, 6202, (codes "Project references form a cycle: ", First) ∷ (codes ".", End) ∷ [])
    ∷ (false, 6306, 6306, (codes "Referenced project '", First) ∷ (codes "' must set composite.", End) ∷ [])
    ∷ (false, 6307, 6307, (codes "File '", First) ∷ (codes "' is not in the file list of project '", Second) ∷ (codes "'.", End) ∷ [])
    ∷ (true, 1001, 1001, (codes "This item has no reading.", End) ∷ [])
    ∷ (true, 1002, 1002, (codes "The file is not UTF-8.", End) ∷ [])
    ∷ (true, 2101, 2125, (codes "Rule ", Number) ∷ (codes " of section 6 to 9 is broken by '", First) ∷ (codes "'.", End) ∷ [])
    ∷ (true, 5001, 5001, (codes "Config is unreadable.", End) ∷ [])
    ∷ (true, 5002, 5002, (codes "Config not found.", End) ∷ [])
    ∷ (true, 5003, 5015, (codes "Config fault ", Number) ∷ (codes ": '", First) ∷ (codes "'.", End) ∷ [])
    ∷ (true, 9001, 9003, (codes "'", First) ∷ (codes "' needs a type annotation.", End) ∷ [])
    ∷ []

-- a row has a code
abbrev pub covers : Row → Code → Bool
covers row code = (if row.0 then code.own else not code.own) && nat_le row.1 code.number && nat_le code.number row.2

-- the text of a code in the first row that has it
abbrev pub pieces_in : List Row → Code → List Piece
pieces_in [] code = []
pieces_in (row ∷ rest) code = if covers row code then row.3 else pieces_in rest code

-- what stands at a place
abbrev pub placed : Place → ℕ → List ℕ → List ℕ → List ℕ
placed First number first second = first
placed Second number first second = second
placed Number number first second = decimal number
placed End number first second = []

-- the pieces with what stands at their places
abbrev pub filled : List Piece → ℕ → List ℕ → List ℕ → List ℕ
filled [] number first second = []
filled (piece ∷ rest) number first second = piece.0 ++ (placed piece.1 number first second ++ filled rest number first second)

-- the text of a code, by the table; one of no row has an empty text
abbrev pub message : Code → List ℕ → List ℕ → List ℕ
message code first second = filled (pieces_in rows code) code.number first second

-- how a code is written
abbrev pub code_text : Code → List ℕ
code_text code = (if code.own then codes "TB" else codes "TS") ++ decimal code.number

-- the three bytes of a byte order mark
abbrev pub mark : List ℕ
mark = 239 ∷ 187 ∷ 191 ∷ []

-- a text without a leading byte order mark
abbrev pub without_mark : List ℕ → List ℕ
without_mark text = if starts_with nat_eq text mark then drop 3 text else text

-- `path(line,column): error CODE: message`, where the place is counted in these bytes, and read as their end where it lies beyond
abbrev pub line_in : Diag → List ℕ → List ℕ
line_in diag bytes =
    let place = min diag.finding.offset (length bytes) in
    diag.path ++ (codes "(" ++ (decimal (line_at bytes place) ++ (codes "," ++ (decimal (column_at bytes place) ++ (codes "): error " ++ (code_text diag.finding.code ++ (codes ": " ++ message diag.finding.code diag.finding.first diag.finding.second)))))))

-- the printed line of a diagnostic of a file with this text, without its end
abbrev pub diag_line : Diag → List ℕ → List ℕ
diag_line diag text = line_in diag (without_mark text)

-- The pieces of a text: tokens, and the blanks between them.
use Rattle.std.specs.Prelude.{ℕ, List, [], ◌∷◌, ◌++◌, codes, flat_map}
use Rattle.std.specs.List.{repeat}
use Rattle.tb_tree.specs.declared.marks.Mark as marks
use Rattle.tb_tree.specs.declared.marks.Mark.TheVariants as m
use Rattle.tb_tree.specs.declared.words.Class as classes
use Rattle.tb_tree.specs.declared.words.Class.TheVariants as c
use Rattle.tb_tree.specs.Words.{word_of}

pub data Piece : Type 0 where
  Mark : marks.Mark → Piece
  Lex : classes.Class → List ℕ → Piece
  Blank : List ℕ → Piece

-- how a mark is spelled
abbrev pub mark_text : marks.Mark → List ℕ
mark_text m.OpenBrace = codes "{"
mark_text m.CloseBrace = codes "}"
mark_text m.OpenParen = codes "("
mark_text m.CloseParen = codes ")"
mark_text m.OpenBracket = codes "["
mark_text m.CloseBracket = codes "]"
mark_text m.Dot = codes "."
mark_text m.Semicolon = codes ";"
mark_text m.Comma = codes ","
mark_text m.Colon = codes ":"
mark_text m.Question = codes "?"
mark_text m.Arrow = codes "=>"
mark_text m.Bar = codes "|"
mark_text m.Less = codes "<"
mark_text m.Greater = codes ">"
mark_text m.LessEqual = codes "<="
mark_text m.GreaterEqual = codes ">="
mark_text m.Same = codes "==="
mark_text m.NotSame = codes "!=="
mark_text m.Plus = codes "+"
mark_text m.Minus = codes "-"
mark_text m.Star = codes "*"
mark_text m.Slash = codes "/"
mark_text m.Percent = codes "%"
mark_text m.PlusPlus = codes "++"
mark_text m.MinusMinus = codes "--"
mark_text m.Not = codes "!"
mark_text m.And = codes "&&"
mark_text m.Or = codes "||"
mark_text m.Nullish = codes "??"
mark_text m.Assign = codes "="
mark_text m.PlusAssign = codes "+="
mark_text m.MinusAssign = codes "-="
mark_text m.StarAssign = codes "*="
mark_text m.SlashAssign = codes "/="
mark_text m.PercentAssign = codes "%="

abbrev pub piece_text : Piece → List ℕ
piece_text (Mark kind) = mark_text kind
piece_text (Lex class spelled) = spelled
piece_text (Blank blanks) = blanks

abbrev pub text_of : List Piece → List ℕ
text_of pieces = flat_map piece_text pieces

-- ---- pieces that layouts are made of

abbrev pub mark : marks.Mark → List Piece
mark kind = Mark kind ∷ []

abbrev pub word : List ℕ → List Piece
word spelled = Lex (c.Word (word_of spelled)) spelled ∷ []

abbrev pub space : List Piece
space = Blank (codes " ") ∷ []

-- a further line, four spaces deep for each enclosing block
abbrev pub deep : ℕ → List ℕ
deep n = repeat n (codes "    ")

abbrev pub new_line : ℕ → List Piece
new_line n = Blank (10 ∷ deep n) ∷ []

-- pieces with `, ` between them
abbrev pub listed : List (List Piece) → List Piece
listed [] = []
listed (x ∷ []) = x
listed (x ∷ y ∷ rest) = x ++ mark m.Comma ++ space ++ listed (y ∷ rest)

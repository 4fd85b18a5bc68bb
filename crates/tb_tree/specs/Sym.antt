-- The alphabet of the grammar. This project's own.
use Rattle.std.specs.Prelude.{ℕ, List}
use Rattle.tb_tree.specs.declared.marks.Mark as marks
use Rattle.tb_tree.specs.declared.words.Class as classes

-- a mark, or a token of another class with its spelling; and where it begins
pub data Sym : Type 0 where
  Mark : marks.Mark → ℕ → Sym
  Lex : classes.Class → List ℕ → ℕ → Sym

-- where a symbol begins
abbrev pub at_of : Sym → ℕ
at_of (Mark m at) = at
at_of (Lex k spelled at) = at

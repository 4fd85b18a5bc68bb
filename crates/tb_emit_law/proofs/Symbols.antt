-- Symbols without their places.
use Rattle.std.specs.Prelude.{List, [], ◌∷◌, flat_map}
use Rattle.tb_tree.specs.Sym as sym
use Rattle.tb_tree.specs.Sym.{Sym}
use Rattle.tb_layout.specs.Pieces.{Piece, Mark, Lex, Blank}

-- a symbol as it would stand at the beginning
abbrev pub bare_sym : Sym → Sym
bare_sym (sym.Mark kind at) = sym.Mark kind 0
bare_sym (sym.Lex class spelled at) = sym.Lex class spelled 0

-- the symbols that are laid out
abbrev pub symbol_in : Piece → List Sym
symbol_in (Mark kind) = sym.Mark kind 0 ∷ []
symbol_in (Lex class spelled) = sym.Lex class spelled 0 ∷ []
symbol_in (Blank blanks) = []

abbrev pub symbols_in : List Piece → List Sym
symbols_in pieces = flat_map symbol_in pieces

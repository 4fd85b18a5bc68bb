-- What tokens are to the grammar. This project's own.
use Rattle.std.specs.Prelude.{ℕ, ◌&&◌, if◌then◌else◌, nat_le, List, [], map, length, slice_range, Option, Some, None}
use Rattle.std.specs.Str.{is_utf8}
use Rattle.tb_scan.specs.declared.token.Kind.{Kind}
use Rattle.tb_scan.specs.declared.token.Kind.TheVariants as k
use Rattle.tb_scan.specs.declared.token.Token.{Token}
use Rattle.tb_tree.specs.declared.marks.Mark as marks
use Rattle.tb_tree.specs.declared.words.Class.TheVariants as c
use Rattle.tb_tree.specs.declared.words.Template.TheVariants as t
use Rattle.tb_tree.specs.Sym.{Sym, Mark, Lex}
use Rattle.tb_tree.specs.Words.{word_of, mark_of}
use Rattle.tb_parse_type.specs.declared.symbols.Symbol.{Symbol}
use Rattle.tb_parse_type.specs.declared.symbols.Symbol.TheVariants as s

-- what is no text is read as the empty one; each token of a text is a text
abbrev pub as_text : List ℕ → List ℕ
as_text bytes = if is_utf8 bytes then bytes else []

-- how a token is spelled
abbrev pub spelled : List ℕ → Token → List ℕ
spelled text t = if nat_le t.start t.end && nat_le t.end (length text) then as_text (slice_range text t.start t.end) else []

abbrev pub mark_or_bad : Option marks.Mark → Symbol
mark_or_bad (Some m) = s.Mark m
mark_or_bad None = s.Class c.Bad

abbrev pub mark_symbol : List ℕ → Symbol
mark_symbol w = mark_or_bad (mark_of w)

-- what a token of a kind with a spelling is
abbrev pub symbol_of : Kind → List ℕ → Symbol
symbol_of k.Word w = s.Class (c.Word (word_of w))
symbol_of k.Number w = s.Class c.Number
symbol_of k.Str w = s.Class c.String
symbol_of k.Mark w = mark_symbol w
symbol_of k.Whole w = s.Class (c.Template t.Whole)
symbol_of k.Head w = s.Class (c.Template t.Head)
symbol_of k.Middle w = s.Class (c.Template t.Middle)
symbol_of k.Tail w = s.Class (c.Template t.Tail)
symbol_of k.Bad w = s.Class c.Bad

-- with its spelling and its place
abbrev pub placed : Symbol → List ℕ → ℕ → Sym
placed (s.Mark m) w at = Mark m at
placed (s.Class class) w at = Lex class w at

abbrev pub seen : List ℕ → Token → Sym
seen text t = placed (symbol_of t.kind (spelled text t)) (spelled text t) t.start

-- the symbols of the tokens of a text
abbrev pub symbols : List ℕ → List Token → List Sym
symbols text tokens = map (seen text) tokens

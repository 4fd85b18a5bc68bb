-- What a word and a mark are to the grammar, by their spelling. The reserved words are those of ECMAScript's strict mode, with
-- `undefined`.
use Rattle.std.specs.Prelude.{ℕ, Bool, true, false, if◌then◌else◌, List, codes, Option, Some, None}
use Rattle.std.specs.Str.{bytes_eq}
use Rattle.tb_tree.specs.declared.marks.Mark as marks
use Rattle.tb_tree.specs.declared.marks.Mark.TheVariants as m
use Rattle.tb_tree.specs.declared.words.Word.{Word}
use Rattle.tb_tree.specs.declared.words.Word.TheVariants as w
use Rattle.tb_tree.specs.declared.words.Class.TheVariants as c
use Rattle.tb_tree.specs.Sym.{Sym, Mark, Lex}

-- ---- words

-- the reserved words that rules name, from `break` to `extends`
unfoldable pub early_word : List ℕ → Option Word
early_word s =
    if bytes_eq s (codes "break") then Some w.Break
    else (if bytes_eq s (codes "case") then Some w.Case
    else (if bytes_eq s (codes "class") then Some w.Class
    else (if bytes_eq s (codes "const") then Some w.Const
    else (if bytes_eq s (codes "continue") then Some w.Continue
    else (if bytes_eq s (codes "default") then Some w.Default
    else (if bytes_eq s (codes "do") then Some w.Do
    else (if bytes_eq s (codes "else") then Some w.Else
    else (if bytes_eq s (codes "export") then Some w.Export
    else (if bytes_eq s (codes "extends") then Some w.Extends
    else None)))))))))

-- from `false` to `return`
unfoldable pub middle_word : List ℕ → Option Word
middle_word s =
    if bytes_eq s (codes "false") then Some w.False
    else (if bytes_eq s (codes "for") then Some w.For
    else (if bytes_eq s (codes "function") then Some w.Function
    else (if bytes_eq s (codes "if") then Some w.If
    else (if bytes_eq s (codes "implements") then Some w.Implements
    else (if bytes_eq s (codes "import") then Some w.Import
    else (if bytes_eq s (codes "interface") then Some w.Interface
    else (if bytes_eq s (codes "let") then Some w.Let
    else (if bytes_eq s (codes "new") then Some w.New
    else (if bytes_eq s (codes "null") then Some w.Null
    else (if bytes_eq s (codes "return") then Some w.Return
    else None))))))))))

-- from `static` to `while`
unfoldable pub late_word : List ℕ → Option Word
late_word s =
    if bytes_eq s (codes "static") then Some w.Static
    else (if bytes_eq s (codes "switch") then Some w.Switch
    else (if bytes_eq s (codes "this") then Some w.This
    else (if bytes_eq s (codes "throw") then Some w.Throw
    else (if bytes_eq s (codes "true") then Some w.True
    else (if bytes_eq s (codes "typeof") then Some w.Typeof
    else (if bytes_eq s (codes "undefined") then Some w.Undefined
    else (if bytes_eq s (codes "void") then Some w.Void
    else (if bytes_eq s (codes "while") then Some w.While
    else None))))))))

-- the reserved words that no rule names
unfoldable pub other_word : List ℕ → Option Word
other_word s =
    if bytes_eq s (codes "await") then Some w.Reserved
    else (if bytes_eq s (codes "catch") then Some w.Reserved
    else (if bytes_eq s (codes "debugger") then Some w.Reserved
    else (if bytes_eq s (codes "delete") then Some w.Reserved
    else (if bytes_eq s (codes "enum") then Some w.Reserved
    else (if bytes_eq s (codes "finally") then Some w.Reserved
    else (if bytes_eq s (codes "in") then Some w.Reserved
    else (if bytes_eq s (codes "instanceof") then Some w.Reserved
    else (if bytes_eq s (codes "package") then Some w.Reserved
    else (if bytes_eq s (codes "private") then Some w.Reserved
    else None)))))))))

unfoldable pub last_word : List ℕ → Option Word
last_word s =
    if bytes_eq s (codes "protected") then Some w.Reserved
    else (if bytes_eq s (codes "public") then Some w.Reserved
    else (if bytes_eq s (codes "super") then Some w.Reserved
    else (if bytes_eq s (codes "try") then Some w.Reserved
    else (if bytes_eq s (codes "var") then Some w.Reserved
    else (if bytes_eq s (codes "with") then Some w.Reserved
    else (if bytes_eq s (codes "yield") then Some w.Reserved
    else None))))))

-- the names that are types, and those that rules name
unfoldable pub type_word : List ℕ → Option Word
type_word s =
    if bytes_eq s (codes "any") then Some w.Any
    else (if bytes_eq s (codes "boolean") then Some w.Boolean
    else (if bytes_eq s (codes "never") then Some w.Never
    else (if bytes_eq s (codes "number") then Some w.Number
    else (if bytes_eq s (codes "string") then Some w.String
    else (if bytes_eq s (codes "unknown") then Some w.Unknown
    else None)))))

unfoldable pub named_word : List ℕ → Option Word
named_word s =
    if bytes_eq s (codes "as") then Some w.As
    else (if bytes_eq s (codes "constructor") then Some w.Constructor
    else (if bytes_eq s (codes "declare") then Some w.Declare
    else (if bytes_eq s (codes "from") then Some w.From
    else (if bytes_eq s (codes "of") then Some w.Of
    else (if bytes_eq s (codes "readonly") then Some w.Readonly
    else (if bytes_eq s (codes "type") then Some w.Type
    else None))))))

-- the first, or the second where there is none
abbrev pub or_else : Option Word → Option Word → Option Word
or_else (Some x) other = Some x
or_else None other = other

-- the reserved words that rules name, and those that none names
abbrev pub reserved_word : List ℕ → Option Word
reserved_word s = or_else (early_word s) (or_else (middle_word s) (late_word s))

abbrev pub unnamed_word : List ℕ → Option Word
unnamed_word s = or_else (other_word s) (last_word s)

-- the words that rules name and that may be names
abbrev pub free_word : List ℕ → Option Word
free_word s = or_else (type_word s) (named_word s)

abbrev pub or_name : Option Word → Word
or_name (Some x) = x
or_name None = w.Name

abbrev pub word_of : List ℕ → Word
word_of s = or_name (or_else (reserved_word s) (or_else (unnamed_word s) (free_word s)))

abbrev pub is_reserved : Word → Bool
is_reserved w.Any = false
is_reserved w.Boolean = false
is_reserved w.Never = false
is_reserved w.Number = false
is_reserved w.String = false
is_reserved w.Unknown = false
is_reserved w.As = false
is_reserved w.Constructor = false
is_reserved w.Declare = false
is_reserved w.From = false
is_reserved w.Of = false
is_reserved w.Readonly = false
is_reserved w.Type = false
is_reserved w.Name = false
is_reserved _ = true

-- a word that may name a variable
abbrev pub is_name : Word → Bool
is_name k = if is_reserved k then false else true

-- a name that an interface and an alias may have: none of the types that are names
abbrev pub is_type_name : Word → Bool
is_type_name w.Any = false
is_type_name w.Boolean = false
is_type_name w.Never = false
is_type_name w.Number = false
is_type_name w.String = false
is_type_name w.Unknown = false
is_type_name k = is_name k

-- ---- marks

unfoldable pub bracket : List ℕ → Option marks.Mark
bracket s =
    if bytes_eq s (codes "{") then Some m.OpenBrace
    else (if bytes_eq s (codes "}") then Some m.CloseBrace
    else (if bytes_eq s (codes "(") then Some m.OpenParen
    else (if bytes_eq s (codes ")") then Some m.CloseParen
    else (if bytes_eq s (codes "[") then Some m.OpenBracket
    else (if bytes_eq s (codes "]") then Some m.CloseBracket
    else (if bytes_eq s (codes ".") then Some m.Dot
    else (if bytes_eq s (codes ";") then Some m.Semicolon
    else (if bytes_eq s (codes ",") then Some m.Comma
    else (if bytes_eq s (codes ":") then Some m.Colon
    else (if bytes_eq s (codes "?") then Some m.Question
    else (if bytes_eq s (codes "=>") then Some m.Arrow
    else (if bytes_eq s (codes "|") then Some m.Bar
    else None))))))))))))

unfoldable pub joining : List ℕ → Option marks.Mark
joining s =
    if bytes_eq s (codes "<") then Some m.Less
    else (if bytes_eq s (codes ">") then Some m.Greater
    else (if bytes_eq s (codes "<=") then Some m.LessEqual
    else (if bytes_eq s (codes ">=") then Some m.GreaterEqual
    else (if bytes_eq s (codes "===") then Some m.Same
    else (if bytes_eq s (codes "!==") then Some m.NotSame
    else (if bytes_eq s (codes "+") then Some m.Plus
    else (if bytes_eq s (codes "-") then Some m.Minus
    else (if bytes_eq s (codes "*") then Some m.Star
    else (if bytes_eq s (codes "/") then Some m.Slash
    else (if bytes_eq s (codes "%") then Some m.Percent
    else None))))))))))

unfoldable pub operator : List ℕ → Option marks.Mark
operator s =
    if bytes_eq s (codes "++") then Some m.PlusPlus
    else (if bytes_eq s (codes "--") then Some m.MinusMinus
    else (if bytes_eq s (codes "!") then Some m.Not
    else (if bytes_eq s (codes "&&") then Some m.And
    else (if bytes_eq s (codes "||") then Some m.Or
    else (if bytes_eq s (codes "??") then Some m.Nullish
    else (if bytes_eq s (codes "=") then Some m.Assign
    else (if bytes_eq s (codes "+=") then Some m.PlusAssign
    else (if bytes_eq s (codes "-=") then Some m.MinusAssign
    else (if bytes_eq s (codes "*=") then Some m.StarAssign
    else (if bytes_eq s (codes "/=") then Some m.SlashAssign
    else (if bytes_eq s (codes "%=") then Some m.PercentAssign
    else None)))))))))))

abbrev pub or_mark : Option marks.Mark → Option marks.Mark → Option marks.Mark
or_mark (Some x) other = Some x
or_mark None other = other

abbrev pub mark_of : List ℕ → Option marks.Mark
mark_of s = or_mark (bracket s) (or_mark (joining s) (operator s))

-- ---- symbols

-- the symbol of a word, and of a mark, with its spelling at a place
abbrev pub word_symbol : List ℕ → ℕ → Sym
word_symbol s at = Lex (c.Word (word_of s)) s at

abbrev pub mark_or_bad : Option marks.Mark → List ℕ → ℕ → Sym
mark_or_bad (Some k) s at = Mark k at
mark_or_bad None s at = Lex c.Bad s at

abbrev pub mark_symbol : List ℕ → ℕ → Sym
mark_symbol s at = mark_or_bad (mark_of s) s at

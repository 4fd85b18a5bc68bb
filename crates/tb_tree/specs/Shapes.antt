-- Shapes that many rules of the grammar have. This project's own.
use Rattle.std.specs.Prelude.{ℕ, Bool, true, false, not, ◌&&◌, leb, eqb, List, [], ◌∷◌, ◌++◌, length, codes, Option, Some, None}
use Rattle.std.specs.List.{list_all}
use Rattle.std.specs.Str.{bytes_eq}
use Rattle.tb_tree.specs.declared.marks.Mark.{Mark as MarkKind}
use Rattle.tb_tree.specs.declared.marks.Mark.TheVariants as m
use Rattle.tb_tree.specs.declared.words.Word.{Word}
use Rattle.tb_tree.specs.declared.words.Class.TheVariants as c
use Rattle.tb_tree.specs.declared.types.Key.{Key}
use Rattle.tb_tree.specs.declared.types.Key.TheVariants as k
use Rattle.tb_tree.specs.Sym.{Sym, Mark, Lex, at_of}

-- no item is deeper, and no type by its own count
abbrev pub max_depth : ℕ
max_depth = 200

-- a word where it stands
abbrev pub word : Word → List ℕ → ℕ → Sym
word kind spelled at = Lex (c.Word kind) spelled at

-- where a list of symbols begins
abbrev pub start_of : List Sym → ℕ
start_of [] = 0
start_of (s ∷ ss) = at_of s

-- a mark that may be left out, and whether it stands there
pub data IsMarked (kind : MarkKind) : List Sym → Bool → Type 0 where
  unmarked : IsMarked kind [] false
  marked : (at : ℕ) → IsMarked kind (Mark kind at ∷ []) true

-- a word that may be left out, and whether it stands there
pub data IsWorded (kind : Word) : List Sym → Bool → Type 0 where
  unworded : IsWorded kind [] false
  worded : (spelled : List ℕ) (at : ℕ) → IsWorded kind (word kind spelled at ∷ []) true

-- Key: any word, or a string
abbrev pub key_of : Sym → Option Key
key_of (Lex (c.Word kind) spelled at) = Some (k.Word spelled)
key_of (Lex c.String spelled at) = Some (k.String spelled)
key_of _ = None

-- an integer that a type may be: at most 15 digits, the first of which is no `0` unless it is the only one
abbrev pub is_digit : ℕ → Bool
is_digit c = leb 48 c && leb c 57

abbrev pub is_zero : List ℕ → Bool
is_zero digits = bytes_eq digits (codes "0")

abbrev pub has_lead : List ℕ → Bool
has_lead [] = false
has_lead (c ∷ cs) = not (eqb c 48)

abbrev pub is_positive : List ℕ → Bool
is_positive digits = has_lead digits && list_all is_digit digits && leb (length digits) 15

-- ---- lists

module _ {X : Type 0} (D : List Sym → X → Type 0) where
  -- a list with commas and an optional last comma
  pub data IsListed : List Sym → List X → Type 0 where
    none_listed : IsListed [] []
    last_listed : {xs : List Sym} {of : X} → D xs of → IsListed xs (of ∷ [])
    more_listed : (comma : ℕ) {xs ys : List Sym} {of : X} {rest : List X} → D xs of → IsListed ys rest → IsListed (xs ++ Mark m.Comma comma ∷ ys) (of ∷ rest)

  -- a nonempty list with commas between
  pub data IsJoined : List Sym → List X → Type 0 where
    last_joined : {xs : List Sym} {of : X} → D xs of → IsJoined xs (of ∷ [])
    more_joined : (comma : ℕ) {xs ys : List Sym} {of : X} {rest : List X} → D xs of → IsJoined ys rest → IsJoined (xs ++ Mark m.Comma comma ∷ ys) (of ∷ rest)

-- The grammar of types, by cases on whole lists of symbols: a subset of TypeScript's. Each rule gives the tree and two counts. The
-- first is the type's own: the greatest number, on a way downward, of type nodes and of parentheses round a type, counted together.
-- The second is of the type nodes alone; it is the type's share in the depth of an item.
use Rattle.std.specs.Prelude.{ℕ, zero, suc, ◌+◌, ◌-◌, ◌≤◌, max, ◌≡◌, Bool, true, false, ◌||◌, List, [], ◌∷◌, ◌++◌, Option, Some, None}
use Rattle.tb_tree.specs.declared.marks.Mark.{Mark as MarkKind}
use Rattle.tb_tree.specs.declared.marks.Mark.TheVariants as m
use Rattle.tb_tree.specs.declared.words.Word.{Word}
use Rattle.tb_tree.specs.declared.words.Word.TheVariants as w
use Rattle.tb_tree.specs.declared.words.Class.TheVariants as c
use Rattle.tb_tree.specs.declared.types.Key.{Key}
use Rattle.tb_tree.specs.declared.types.TypeKeyword.{TypeKeyword}
use Rattle.tb_tree.specs.declared.types.TypeKeyword.TheVariants as b
use Rattle.tb_tree.specs.declared.types.TypeExpr.{TypeExpr, out-TypeExpr}
use Rattle.tb_tree.specs.declared.types.TypeExpr.TheVariants as t
use Rattle.tb_tree.specs.declared.types.TypeExpr.TheOpen.{TypeExpr-F}
use Rattle.tb_tree.specs.declared.types.TypeParam.{TypeParam, roll-TypeParam}
use Rattle.tb_tree.specs.declared.types.TypeMember.{TypeMember}
use Rattle.tb_tree.specs.declared.types.TypeMember.TheVariants as p
use Rattle.tb_tree.specs.Sym.{Sym, Mark, Lex, at_of}
use Rattle.tb_tree.specs.Words.{is_name, is_type_name}
use Rattle.tb_tree.specs.Shapes.{max_depth, word, start_of, IsMarked, IsWorded, key_of, is_zero, is_positive}

-- the types that are words, be they reserved or not
abbrev pub keyword_of : Word → Option TypeKeyword
keyword_of w.Any = Some b.Any
keyword_of w.Unknown = Some b.Unknown
keyword_of w.Never = Some b.Never
keyword_of w.Number = Some b.Number
keyword_of w.String = Some b.String
keyword_of w.Boolean = Some b.Boolean
keyword_of w.Void = Some b.Void
keyword_of w.Null = Some b.Null
keyword_of w.Undefined = Some b.Undefined
keyword_of _ = None

-- the words that are truth values
abbrev pub truth_of : Word → Option Bool
truth_of w.True = Some true
truth_of w.False = Some false
truth_of _ = None

-- what ends a member
abbrev pub ends_member : MarkKind → Bool
ends_member m.Semicolon = true
ends_member m.Comma = true
ends_member _ = false

-- any number of `[ ]`
pub data IsBrackets : ℕ → List Sym → Type 0 where
  no_brackets : IsBrackets 0 []
  brackets : (open_at close_at : ℕ) {n : ℕ} {xs : List Sym} → IsBrackets n xs
      → IsBrackets (suc n) (Mark m.OpenBracket open_at ∷ Mark m.CloseBracket close_at ∷ xs)

-- and what they make of a type
abbrev pub arrays : ℕ → ℕ → TypeExpr → TypeExpr
arrays at zero of = of
arrays at (suc n) of = arrays at n (t.Array at false of)

-- A union in parentheses that is a part of a union is read flat: its parts stand in its place, and it is no node, so that the
-- counts are without it. (Its parentheses still count.)
abbrev pub parts_at : TypeExpr → TypeExpr-F TypeExpr TypeMember TypeParam → List TypeExpr
parts_at of (TypeExpr-F.Union at parts) = parts
parts_at of _ = of ∷ []

abbrev pub parts_of : TypeExpr → List TypeExpr
parts_of of = parts_at of (out-TypeExpr of)

abbrev pub count_at : ℕ → TypeExpr-F TypeExpr TypeMember TypeParam → ℕ
count_at n (TypeExpr-F.Union at parts) = n - 1
count_at n _ = n

abbrev pub part_count : TypeExpr → ℕ → ℕ
part_count of n = count_at n (out-TypeExpr of)

mutual
  -- Atom: `any unknown never number string boolean void null undefined`; `true false`; String; an integer, and one with `-` before
  -- it that is not `0`; a Name other than these words; `( Type )`; Body
  pub data IsAtom : List Sym → TypeExpr → ℕ → ℕ → Type 0 where
    keyword_type : {kind : Word} {of : TypeKeyword} (spelled : List ℕ) (at : ℕ) → keyword_of kind ≡ Some of → IsAtom (word kind spelled at ∷ []) (t.Keyword at of) 1 1
    boolean_type : {kind : Word} {value : Bool} (spelled : List ℕ) (at : ℕ) → truth_of kind ≡ Some value → IsAtom (word kind spelled at ∷ []) (t.Boolean at value) 1 1
    string_type : (spelled : List ℕ) (at : ℕ) → IsAtom (Lex c.String spelled at ∷ []) (t.String at spelled) 1 1
    integer_type : (digits : List ℕ) (at : ℕ) → (is_zero digits || is_positive digits) ≡ true → IsAtom (Lex c.Number digits at ∷ []) (t.Integer at false digits) 1 1
    minus_type : (digits : List ℕ) (at digits_at : ℕ) → is_positive digits ≡ true
        → IsAtom (Mark m.Minus at ∷ Lex c.Number digits digits_at ∷ []) (t.Integer at true digits) 1 1
    written_type : {kind : Word} (spelled : List ℕ) (at : ℕ) → is_type_name kind ≡ true → IsAtom (word kind spelled at ∷ []) (t.Written at spelled []) 1 1
    parens_type : (open_at close_at : ℕ) {xs : List Sym} {of : TypeExpr} {own depth : ℕ} → IsType xs of own depth
        → IsAtom (Mark m.OpenParen open_at ∷ xs ++ Mark m.CloseParen close_at ∷ []) of (own + 1) depth
    object_type : (open_at close_at : ℕ) {xs : List Sym} {of : List TypeMember} {own depth : ℕ} → IsTypeMembers xs of own depth
        → IsAtom (Mark m.OpenBrace open_at ∷ xs ++ Mark m.CloseBrace close_at ∷ []) (t.Object open_at of) (own + 1) (depth + 1)

  -- Element: Atom and any number of `[ ]`; with `readonly` before it, at least one, and the outermost array is read-only
  pub data IsElement : List Sym → TypeExpr → ℕ → ℕ → Type 0 where
    plain_element : {xs ys : List Sym} {of : TypeExpr} {own depth n : ℕ} → IsAtom xs of own depth → IsBrackets n ys
        → IsElement (xs ++ ys) (arrays (start_of xs) n of) (own + n) (depth + n)
    read_only_element : (spelled : List ℕ) (at : ℕ) {xs ys : List Sym} {of : TypeExpr} {own depth n : ℕ} → IsAtom xs of own depth → IsBrackets (suc n) ys
        → IsElement (word w.Readonly spelled at ∷ xs ++ ys) (t.Array at true (arrays (start_of xs) n of)) (own + suc n) (depth + suc n)

  -- any number of `|` with an Element
  pub data IsTail : List Sym → List TypeExpr → ℕ → ℕ → Type 0 where
    no_tail : IsTail [] [] 0 0
    more_tail : (bar : ℕ) {xs ys : List Sym} {of : TypeExpr} {rest : List TypeExpr} {own depth rest_own rest_depth : ℕ}
        → IsElement xs of own depth → IsTail ys rest rest_own rest_depth
        → IsTail (Mark m.Bar bar ∷ xs ++ ys) (parts_of of ++ rest) (max (part_count of own) rest_own) (max (part_count of depth) rest_depth)

  -- Elements joined by `|`: one is itself, several are a union
  pub data IsUnion : List Sym → TypeExpr → ℕ → ℕ → Type 0 where
    one_element : {xs : List Sym} {of : TypeExpr} {own depth : ℕ} → IsElement xs of own depth → IsUnion xs of own depth
    several_elements : (bar : ℕ) {xs ys zs : List Sym} {of next : TypeExpr} {rest : List TypeExpr} {own depth next_own next_depth rest_own rest_depth : ℕ}
        → IsElement xs of own depth → IsElement ys next next_own next_depth → IsTail zs rest rest_own rest_depth
        → IsUnion (xs ++ Mark m.Bar bar ∷ ys ++ zs) (t.Union (start_of xs) (parts_of of ++ parts_of next ++ rest))
        (max (part_count of own) (max (part_count next next_own) rest_own) + 1) (max (part_count of depth) (max (part_count next next_depth) rest_depth) + 1)

  -- Type: `( TypeParam,* ) => Type`; or optional `|`, then Elements joined by `|`
  pub data IsType : List Sym → TypeExpr → ℕ → ℕ → Type 0 where
    function_type : (open_at close_at arrow : ℕ) {xs ys : List Sym} {params : List TypeParam} {of : TypeExpr} {own depth own_result depth_result : ℕ}
        → IsTypeParams xs params own depth → IsType ys of own_result depth_result
        → IsType (Mark m.OpenParen open_at ∷ xs ++ Mark m.CloseParen close_at ∷ Mark m.Arrow arrow ∷ ys) (t.Function open_at params of)
        (max own own_result + 1) (max depth depth_result + 1)
    union_type : {bar : Bool} {xs ys : List Sym} {of : TypeExpr} {own depth : ℕ} → IsMarked m.Bar xs bar → IsUnion ys of own depth → IsType (xs ++ ys) of own depth

  -- TypeParam: Name, optional `?`, `: Type`
  pub data IsTypeParam : List Sym → TypeParam → ℕ → ℕ → Type 0 where
    type_param : {kind : Word} {optional : Bool} (spelled : List ℕ) (at colon : ℕ) {xs ys : List Sym} {of : TypeExpr} {own depth : ℕ}
        → is_name kind ≡ true → IsMarked m.Question xs optional → IsType ys of own depth
        → IsTypeParam (word kind spelled at ∷ xs ++ Mark m.Colon colon ∷ ys)
        (roll-TypeParam (record { at = at; name = spelled; optional = optional; shape = of })) own depth

  -- TypeParam,*
  pub data IsTypeParams : List Sym → List TypeParam → ℕ → ℕ → Type 0 where
    no_type_params : IsTypeParams [] [] 0 0
    last_type_param : {xs : List Sym} {of : TypeParam} {own depth : ℕ} → IsTypeParam xs of own depth → IsTypeParams xs (of ∷ []) own depth
    more_type_params : (comma : ℕ) {xs ys : List Sym} {of : TypeParam} {rest : List TypeParam} {own depth rest_own rest_depth : ℕ}
        → IsTypeParam xs of own depth → IsTypeParams ys rest rest_own rest_depth
        → IsTypeParams (xs ++ Mark m.Comma comma ∷ ys) (of ∷ rest) (max own rest_own) (max depth rest_depth)

  -- TypeMember: optional `readonly`, Key, optional `?`, `: Type`; or Key, optional `?`, `( TypeParam,* ) : Type`
  pub data IsTypeMember : List Sym → TypeMember → ℕ → ℕ → Type 0 where
    property_member : (s : Sym) {key : Key} {read_only optional : Bool} (colon : ℕ) {xs ys zs : List Sym} {of : TypeExpr} {own depth : ℕ}
        → IsWorded w.Readonly xs read_only → key_of s ≡ Some key → IsMarked m.Question ys optional → IsType zs of own depth
        → IsTypeMember (xs ++ s ∷ ys ++ Mark m.Colon colon ∷ zs) (p.Property (at_of s) read_only key optional of) own depth
    method_member : (s : Sym) {key : Key} {optional : Bool} (open_at close_at colon : ℕ) {xs ys zs : List Sym} {params : List TypeParam} {of : TypeExpr} {own depth own_result depth_result : ℕ}
        → key_of s ≡ Some key → IsMarked m.Question xs optional → IsTypeParams ys params own depth → IsType zs of own_result depth_result
        → IsTypeMember (s ∷ xs ++ Mark m.OpenParen open_at ∷ ys ++ Mark m.CloseParen close_at ∷ Mark m.Colon colon ∷ zs)
        (p.Method (at_of s) key optional params of) (max own own_result) (max depth depth_result)

  -- what stands in a Body: TypeMembers, each followed by `;` or `,`, which may be left out after the last
  pub data IsTypeMembers : List Sym → List TypeMember → ℕ → ℕ → Type 0 where
    no_type_members : IsTypeMembers [] [] 0 0
    last_type_member : {xs : List Sym} {of : TypeMember} {own depth : ℕ} → IsTypeMember xs of own depth → IsTypeMembers xs (of ∷ []) own depth
    more_type_members : (mark : MarkKind) (at : ℕ) {xs ys : List Sym} {of : TypeMember} {rest : List TypeMember} {own depth rest_own rest_depth : ℕ}
        → IsTypeMember xs of own depth → ends_member mark ≡ true → IsTypeMembers ys rest rest_own rest_depth
        → IsTypeMembers (xs ++ Mark mark at ∷ ys) (of ∷ rest) (max own rest_own) (max depth rest_depth)

-- the symbols are the type, which is no deeper by its own count than a type may be
abbrev pub DerivesType : List Sym → TypeExpr → Type 0
DerivesType xs of = (own depth : ℕ) × IsType xs of own depth × (own ≤ max_depth)

-- `: Type`. The type begins here, and its own count with it.
pub data IsShape : List Sym → TypeExpr → ℕ → Type 0 where
  shape : (colon : ℕ) {xs : List Sym} {of : TypeExpr} {own depth : ℕ} → IsType xs of own depth → own ≤ max_depth → IsShape (Mark m.Colon colon ∷ xs) of depth

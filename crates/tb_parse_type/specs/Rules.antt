-- The rules of the grammar up to limits, and the symbols with which a reading of a rule may go on behind a shorter one.
use Rattle.std.specs.Prelude.{ℕ, suc, ◌⊎◌, ◌-◌, ◌+◌, ◌≤◌, ◌≡◌, max, Bool, true, false, if◌then◌else◌, ◌||◌, List, [], ◌∷◌, ◌++◌, Option, Some, None}
use Rattle.tb_tree.specs.declared.marks.Mark.{Mark as MarkKind}
use Rattle.tb_tree.specs.declared.marks.Mark.TheVariants as m
use Rattle.tb_tree.specs.declared.words.Word.{Word}
use Rattle.tb_tree.specs.declared.words.Word.TheVariants as w
use Rattle.tb_tree.specs.declared.words.Class.TheVariants as c
use Rattle.tb_tree.specs.declared.types.Key.{Key}
use Rattle.tb_tree.specs.declared.types.TypeKeyword.{TypeKeyword}
use Rattle.tb_tree.specs.declared.types.TypeExpr.{TypeExpr, out-TypeExpr}
use Rattle.tb_tree.specs.declared.types.TypeExpr.TheVariants as t
use Rattle.tb_tree.specs.declared.types.TypeExpr.TheOpen.{TypeExpr-F}
use Rattle.tb_tree.specs.declared.types.TypeParam.{TypeParam}
use Rattle.tb_tree.specs.declared.types.TypeMember.{TypeMember}
use Rattle.tb_tree.specs.declared.types.TypeMember.TheVariants as p
use Rattle.tb_tree.specs.Sym.{Sym, Mark, Lex, at_of}
use Rattle.tb_tree.specs.Words.{is_type_name}
use Rattle.tb_tree.specs.Shapes.{word, start_of, IsWorded, key_of, is_zero, is_positive}
use Rattle.tb_tree.specs.Types.{IsAtom, IsBrackets, IsElement, IsTail, IsUnion, IsType, IsTypeParam, IsTypeParams, IsTypeMember, IsTypeMembers, keyword_of, truth_of, arrays, parts_of, part_count}
use Rattle.tb_parse_type.specs.declared.reader.Limits.{Limits}

-- a tree with its two counts: the own one of a type, and its share in the depth of an item
abbrev pub Counted : Type 0 → Type 0
Counted X = X × ℕ × ℕ

-- ---- limits

abbrev pub limits : ℕ → ℕ → Limits
limits own depth = record { own = own; depth = depth }

-- within a type node, and within parentheses round a type
abbrev pub inside : Limits → Limits
inside l = limits (l.own - 1) (l.depth - 1)

abbrev pub in_parens : Limits → Limits
in_parens l = limits (l.own - 1) l.depth

abbrev pub Fits : Limits → ℕ → ℕ → Type 0
Fits l own depth = (own ≤ l.own) × (depth ≤ l.depth)

-- limits that let through what others do
abbrev pub IsBelow : Limits → Limits → Type 0
IsBelow l greater = (l.own ≤ greater.own) × (l.depth ≤ greater.depth)

abbrev pub is_union_at : TypeExpr-F TypeExpr TypeMember TypeParam → Bool
is_union_at (TypeExpr-F.Union at parts) = true
is_union_at _ = false

abbrev pub is_union : TypeExpr → Bool
is_union of = is_union_at (out-TypeExpr of)

-- a union, which may be read flat, has limits of its own
abbrev pub limits_of : Limits → Limits → TypeExpr → Limits
limits_of l flat of = if is_union of then flat else l

-- ---- the words and literals that are types

abbrev pub word_by : Option TypeKeyword → Option Bool → Bool → List ℕ → ℕ → Option TypeExpr
word_by (Some keyword) truth named spelled at = Some (t.Keyword at keyword)
word_by None (Some value) named spelled at = Some (t.Boolean at value)
word_by None None true spelled at = Some (t.Written at spelled [])
word_by None None false spelled at = None

abbrev pub word_type : Word → List ℕ → ℕ → Option TypeExpr
word_type kind spelled at = word_by (keyword_of kind) (truth_of kind) (is_type_name kind) spelled at

abbrev pub integer_type : List ℕ → ℕ → Option TypeExpr
integer_type digits at = if is_zero digits || is_positive digits then Some (t.Integer at false digits) else None

-- the type that one symbol is
abbrev pub single_type : Sym → Option TypeExpr
single_type (Lex (c.Word kind) spelled at) = word_type kind spelled at
single_type (Lex c.Number spelled at) = integer_type spelled at
single_type (Lex c.String spelled at) = Some (t.String at spelled)
single_type _ = None

-- ---- rules that are parts of a rule

-- a mark, and where it stands
abbrev pub MarkRule : MarkKind → List Sym → ℕ → Type 0
MarkRule kind xs at = xs ≡ Mark kind at ∷ []

-- one rule, and another behind it
abbrev pub Then : {X Y : Type 0} → (List Sym → X → Type 0) → (List Sym → Y → Type 0) → List Sym → X × Y → Type 0
Then D E xs r = (front behind : List Sym) × (xs ≡ front ++ behind) × D front r.0 × E behind r.1

-- `( TypeParam,* ) => Type`
pub data IsFunction : List Sym → TypeExpr → ℕ → ℕ → Type 0 where
  function : (open_at close_at arrow : ℕ) {xs ys : List Sym} {params : List TypeParam} {of : TypeExpr} {own depth own_result depth_result : ℕ}
      → IsTypeParams xs params own depth → IsType ys of own_result depth_result
      → IsFunction (Mark m.OpenParen open_at ∷ xs ++ Mark m.CloseParen close_at ∷ Mark m.Arrow arrow ∷ ys) (t.Function open_at params of)
      (max own own_result + 1) (max depth depth_result + 1)

-- what a member begins with: where its key is, the key, and whether `readonly` is before it
abbrev pub Head : Type 0
Head = Bool × ℕ × Key

pub data IsHead : List Sym → Bool → ℕ → Key → Type 0 where
  head : (s : Sym) {key : Key} {read_only : Bool} {xs : List Sym} → IsWorded w.Readonly xs read_only → key_of s ≡ Some key → IsHead (xs ++ s ∷ []) read_only (at_of s) key

abbrev pub HeadRule : List Sym → Head → Type 0
HeadRule xs r = IsHead xs r.0 r.1 r.2

-- `readonly`, an Atom, and at least one pair of brackets
pub data IsReadOnly : List Sym → TypeExpr → ℕ → ℕ → Type 0 where
  read_only_array : (spelled : List ℕ) (at : ℕ) {xs ys : List Sym} {of : TypeExpr} {own depth n : ℕ} → IsAtom xs of own depth → IsBrackets (suc n) ys
      → IsReadOnly (word w.Readonly spelled at ∷ xs ++ ys) (t.Array at true (arrays (start_of xs) n of)) (own + suc n) (depth + suc n)

-- ---- rules up to limits

abbrev pub TypeUpto : Limits → List Sym → Counted TypeExpr → Type 0
TypeUpto l xs r = IsType xs r.0 r.1 r.2 × Fits l r.1 r.2

abbrev pub AtomUpto : Limits → List Sym → Counted TypeExpr → Type 0
AtomUpto l xs r = IsAtom xs r.0 r.1 r.2 × Fits l r.1 r.2

abbrev pub BracketsUpto : ℕ → List Sym → ℕ → Type 0
BracketsUpto room xs n = IsBrackets n xs × (n ≤ room)

abbrev pub ElementUpto : Limits → Limits → List Sym → Counted TypeExpr → Type 0
ElementUpto l flat xs r = IsElement xs r.0 r.1 r.2 × Fits (limits_of l flat r.0) r.1 r.2

abbrev pub ReadOnlyUpto : Limits → List Sym → Counted TypeExpr → Type 0
ReadOnlyUpto l xs r = IsReadOnly xs r.0 r.1 r.2 × Fits l r.1 r.2

-- an element as a part of a union
abbrev pub PartUpto : Limits → List Sym → Counted (List TypeExpr) → Type 0
PartUpto l xs r = (of : TypeExpr) × (own : ℕ) × (depth : ℕ) × IsElement xs of own depth × (r.0 ≡ parts_of of) × (r.1 ≡ part_count of own) × (r.2 ≡ part_count of depth) × Fits l r.1 r.2

-- `|` with an element
abbrev pub NextUpto : Limits → List Sym → Counted (List TypeExpr) → Type 0
NextUpto l xs r = (bar : ℕ) × (ys : List Sym) × (xs ≡ Mark m.Bar bar ∷ ys) × PartUpto l ys r

abbrev pub TailUpto : Limits → List Sym → Counted (List TypeExpr) → Type 0
TailUpto l xs r = IsTail xs r.0 r.1 r.2 × Fits l r.1 r.2

abbrev pub UnionUpto : Limits → List Sym → Counted TypeExpr → Type 0
UnionUpto l xs r = IsUnion xs r.0 r.1 r.2 × Fits l r.1 r.2

abbrev pub ParamUpto : Limits → List Sym → Counted TypeParam → Type 0
ParamUpto l xs r = IsTypeParam xs r.0 r.1 r.2 × Fits l r.1 r.2

abbrev pub ParamsUpto : Limits → List Sym → Counted (List TypeParam) → Type 0
ParamsUpto l xs r = IsTypeParams xs r.0 r.1 r.2 × Fits l r.1 r.2

-- `( TypeParam,* )`
abbrev pub ParensUpto : Limits → List Sym → Counted (List TypeParam) → Type 0
ParensUpto l xs r = (open_at : ℕ) × (close_at : ℕ) × (ys : List Sym) × (xs ≡ Mark m.OpenParen open_at ∷ ys ++ Mark m.CloseParen close_at ∷ []) × ParamsUpto l ys r

-- `: Type`
abbrev pub ShapeUpto : Limits → List Sym → Counted TypeExpr → Type 0
ShapeUpto l xs r = (colon : ℕ) × (ys : List Sym) × (xs ≡ Mark m.Colon colon ∷ ys) × TypeUpto l ys r

abbrev pub FunctionUpto : Limits → List Sym → Counted TypeExpr → Type 0
FunctionUpto l xs r = IsFunction xs r.0 r.1 r.2 × Fits l r.1 r.2

-- what follows the head of a property and its `?`
abbrev pub PropertyRest : Limits → Head → Bool → List Sym → Counted TypeMember → Type 0
PropertyRest l h optional xs r = (of : TypeExpr) × (r.0 ≡ p.Property h.1 h.0 h.2 optional of) × ShapeUpto l xs (of, r.1, r.2)

-- what follows the head of a method and its `?`: `( TypeParam,* ) : Type`
abbrev pub MethodRest : Limits → Head → Bool → List Sym → Counted TypeMember → Type 0
MethodRest l h optional xs r = (params : Counted (List TypeParam)) × (of : Counted TypeExpr) × (r.0 ≡ p.Method h.1 h.2 optional params.0 of.0)
    × (r.1 ≡ max params.1 of.1) × (r.2 ≡ max params.2 of.2) × Then (ParensUpto l) (ShapeUpto l) xs (params, of)

abbrev pub MemberRest : Limits → Head → Bool → List Sym → Counted TypeMember → Type 0
MemberRest l h optional xs r = PropertyRest l h optional xs r ⊎ ((h.0 ≡ false) × MethodRest l h optional xs r)

abbrev pub MemberUpto : Limits → List Sym → Counted TypeMember → Type 0
MemberUpto l xs r = IsTypeMember xs r.0 r.1 r.2 × Fits l r.1 r.2

abbrev pub MembersUpto : Limits → List Sym → Counted (List TypeMember) → Type 0
MembersUpto l xs r = IsTypeMembers xs r.0 r.1 r.2 × Fits l r.1 r.2

-- ---- how a reading may go on

-- behind `readonly` alone, which may be the name of a type, and behind a type before `[ ]`
abbrev pub continues_element : Sym → Bool
continues_element (Mark m.OpenBracket at) = true
continues_element (Mark m.OpenBrace at) = true
continues_element (Mark m.OpenParen at) = true
continues_element (Mark m.Minus at) = true
continues_element (Lex (c.Word kind) spelled at) = true
continues_element (Lex c.Number spelled at) = true
continues_element (Lex c.String spelled at) = true
continues_element _ = false

abbrev pub continues_type : Sym → Bool
continues_type (Mark m.OpenBracket at) = true
continues_type (Mark m.OpenBrace at) = true
continues_type (Mark m.OpenParen at) = true
continues_type (Mark m.Minus at) = true
continues_type (Mark m.Bar at) = true
continues_type (Lex (c.Word kind) spelled at) = true
continues_type (Lex c.Number spelled at) = true
continues_type (Lex c.String spelled at) = true
continues_type _ = false

abbrev pub InElement : Sym → Type 0
InElement s = continues_element s ≡ true

abbrev pub InType : Sym → Type 0
InType s = continues_type s ≡ true

-- parameters end before `)`, and members before `}`
abbrev pub ends_params : Sym → Bool
ends_params (Mark m.CloseParen at) = true
ends_params _ = false

abbrev pub InParams : Sym → Type 0
InParams s = ends_params s ≡ false

abbrev pub ends_members : Sym → Bool
ends_members (Mark m.CloseBrace at) = true
ends_members _ = false

abbrev pub InMembers : Sym → Type 0
InMembers s = ends_members s ≡ false

-- `readonly` is itself a key where no other follows
abbrev pub is_key : Sym → Bool
is_key (Lex (c.Word kind) spelled at) = true
is_key (Lex c.String spelled at) = true
is_key _ = false

abbrev pub InHead : Sym → Type 0
InHead s = is_key s ≡ true

abbrev pub is_question : Sym → Bool
is_question (Mark m.Question at) = true
is_question _ = false

abbrev pub InQuestion : Sym → Type 0
InQuestion s = is_question s ≡ true

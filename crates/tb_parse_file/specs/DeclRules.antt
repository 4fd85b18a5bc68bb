-- The rules of what is declared without bodies, where no tree is deeper than an item may be.
use Rattle.std.specs.Prelude.{ℕ, ◌≤◌, ◌≡◌, Bool, true, false, ◌&&◌, List, [], ◌∷◌, ◌++◌, Option, Some, None}
use Rattle.tb_tree.specs.declared.marks.Mark.TheVariants as m
use Rattle.tb_tree.specs.declared.words.Word.{Word}
use Rattle.tb_tree.specs.declared.words.Word.TheVariants as w
use Rattle.tb_tree.specs.declared.types.TypeExpr.{TypeExpr}
use Rattle.tb_tree.specs.declared.types.TypeParam.{TypeParam}
use Rattle.tb_tree.specs.declared.exprs.VarKind.{VarKind}
use Rattle.tb_tree.specs.declared.exprs.VarKind.TheVariants as var_kind
use Rattle.tb_tree.specs.declared.items.Base.{Base}
use Rattle.tb_tree.specs.declared.items.Declared.{Declared}
use Rattle.tb_tree.specs.declared.items.Declared.TheVariants as declared
use Rattle.tb_tree.specs.declared.items.DeclaredClass.{DeclaredClass}
use Rattle.tb_tree.specs.declared.items.DeclaredMember.{DeclaredMember}
use Rattle.tb_tree.specs.declared.items.DeclaredMember.TheVariants as member
use Rattle.tb_tree.specs.Sym.{Sym, Mark}
use Rattle.tb_tree.specs.Words.{is_name, is_type_name}
use Rattle.tb_tree.specs.Shapes.{max_depth, word, IsMarked}
use Rattle.tb_tree.specs.Exprs.{kind_of}
use Rattle.tb_tree.specs.Surfaces.{IsDeclaredMember, IsDeclaredMembers, IsDeclared}
use Rattle.tb_parse_type.specs.Rules.{Then, limits, TypeUpto, ParamsUpto}
use Rattle.tb_parse_file.specs.Rules.{BasesRule}
use Rattle.tb_parse_file.specs.Classes.{Made, Head}

-- a rule, of which only the trees count that are no deeper than an item may be
abbrev pub Within : {X : Type 0} → (List Sym → X → ℕ → Type 0) → List Sym → X → Type 0
Within D xs of = (depth : ℕ) × D xs of depth × (depth ≤ max_depth)

-- ---- types and parameters

-- `: Type ;`
abbrev pub ShapeRule : List Sym → TypeExpr → Type 0
ShapeRule xs of = (colon : ℕ) × (semicolon : ℕ) × (ys : List Sym) × (own : ℕ) × (depth : ℕ) × (xs ≡ Mark m.Colon colon ∷ ys ++ Mark m.Semicolon semicolon ∷ [])
    × TypeUpto (limits max_depth max_depth) ys (of, own, depth)

-- `( TypeParam,* )`
abbrev pub ParamsRule : List Sym → List TypeParam → Type 0
ParamsRule xs of = (open_at : ℕ) × (close_at : ℕ) × (ys : List Sym) × (own : ℕ) × (depth : ℕ) × (xs ≡ Mark m.OpenParen open_at ∷ ys ++ Mark m.CloseParen close_at ∷ [])
    × ParamsUpto (limits max_depth max_depth) ys (of, own, depth)

-- `( TypeParam,* ) : Type ;`
abbrev pub SignatureRule : List Sym → List TypeParam × TypeExpr → Type 0
SignatureRule = Then ParamsRule ShapeRule

-- ---- members of classes

-- what stands behind the head of a field: optional `?`, `: Type ;`
abbrev pub field_of : Head → Bool × TypeExpr → DeclaredMember
field_of h p = member.Field h.1.1.2 h.0 h.1.0 h.1.1.1 p.0 p.1

abbrev pub FieldRule : Head → List Sym → DeclaredMember → Type 0
FieldRule h = Made (field_of h) (Then (IsMarked m.Question) ShapeRule)

-- and behind that of a method, where no `readonly` stands before
abbrev pub method_of : Head → List TypeParam × TypeExpr → DeclaredMember
method_of h p = member.Method h.1.1.2 h.0 h.1.1.1 p.0 p.1

abbrev pub MethodRule : Head → List Sym → DeclaredMember → Type 0
MethodRule h xs of = (h.1.0 ≡ false) × Made (method_of h) SignatureRule xs of

abbrev pub PlainRule : List Sym → DeclaredMember → Type 0
PlainRule xs of = Within (IsDeclaredMember false) xs of

abbrev pub ConstructorRule : List Sym → DeclaredMember → Type 0
ConstructorRule xs of = Within (IsDeclaredMember true) xs of

-- a member, and whether it is a constructor, which it may be only where none was before
abbrev pub MemberRule : Bool → List Sym → DeclaredMember × Bool → Type 0
MemberRule before xs r = Within (IsDeclaredMember r.1) xs r.0 × ((before && r.1) ≡ false)

abbrev pub MembersRule : Bool → List Sym → List DeclaredMember → Type 0
MembersRule before xs of = (here : Bool) × Within (IsDeclaredMembers here) xs of × ((before && here) ≡ false)

-- members in braces, at most one of them a constructor
abbrev pub BracedMembersRule : List Sym → List DeclaredMember → Type 0
BracedMembersRule xs of = (open_at : ℕ) × (close_at : ℕ) × (ys : List Sym) × (xs ≡ Mark m.OpenBrace open_at ∷ ys ++ Mark m.CloseBrace close_at ∷ []) × MembersRule false ys of

-- ---- what is declared

-- a word, a word that names, and what stands behind
abbrev pub NamedRule : {X Y : Type 0} → (Word → Type 0) → (Word → Type 0) → (Word → List ℕ → ℕ → X → Y) → (List Sym → X → Type 0) → List Sym → Y → Type 0
NamedRule {X = X} P Q make D xs of = (first : Word) × (first_spelled : List ℕ) × (first_at : ℕ) × (kind : Word) × (spelled : List ℕ) × (at : ℕ) × (ys : List Sym) × (x : X)
    × (xs ≡ word first first_spelled first_at ∷ word kind spelled at ∷ ys) × P first × Q kind × D ys x × (make first spelled at x ≡ of)

-- `const` or `let`, `Name : Type ;`
abbrev pub IsKind : Word → Type 0
IsKind first = (kind : VarKind) × (kind_of first ≡ Some kind)

abbrev pub kind_by : Option VarKind → VarKind
kind_by (Some kind) = kind
kind_by None = var_kind.Let

abbrev pub variable_of : Word → List ℕ → ℕ → TypeExpr → Declared
variable_of first spelled at of = declared.Variable at (kind_by (kind_of first)) spelled of

abbrev pub IsNaming : Word → Type 0
IsNaming kind = is_name kind ≡ true

abbrev pub VariableRule : List Sym → Declared → Type 0
VariableRule = NamedRule IsKind IsNaming variable_of ShapeRule

-- `function Name ( TypeParam,* ) : Type ;`
abbrev pub IsFirst : Word → Word → Type 0
IsFirst kind first = first ≡ kind

abbrev pub function_of : Word → List ℕ → ℕ → List TypeParam × TypeExpr → Declared
function_of first spelled at p = declared.Function at spelled [] p.0 p.1

abbrev pub FunctionRule : List Sym → Declared → Type 0
FunctionRule = NamedRule (IsFirst w.Function) IsNaming function_of SignatureRule

-- `class Name`, optional `implements Name,+`, and members in braces
abbrev pub class_of : Word → List ℕ → ℕ → List Base × List DeclaredMember → DeclaredClass
class_of first spelled at p = record { at = at; name = spelled; implements = p.0; members = p.1 }

abbrev pub IsTypeNaming : Word → Type 0
IsTypeNaming kind = is_type_name kind ≡ true

abbrev pub ClassRule : List Sym → DeclaredClass → Type 0
ClassRule = NamedRule (IsFirst w.Class) IsTypeNaming class_of (Then (BasesRule w.Implements) BracedMembersRule)

abbrev pub DeclaredRule : List Sym → Declared → Type 0
DeclaredRule xs of = Within IsDeclared xs of

-- The rules of the grammar up to a depth, and the symbols with which a reading of a rule may go on behind a shorter one. What is read
-- here is source: the order of parameters counts.
use Rattle.std.specs.Prelude.{ℕ, suc, ◌⊎◌, ◌+◌, ◌≤◌, ◌≡◌, max, leb, Bool, true, false, not, ◌||◌, ◌&&◌, List, [], ◌∷◌, ◌++◌, Option, Some, None}
use Rattle.tb_tree.specs.declared.marks.Mark.{Mark as MarkKind}
use Rattle.tb_tree.specs.declared.marks.Mark.TheVariants as m
use Rattle.tb_tree.specs.declared.words.Word.{Word}
use Rattle.tb_tree.specs.declared.words.Word.TheVariants as w
use Rattle.tb_tree.specs.declared.words.Class.TheVariants as c
use Rattle.tb_tree.specs.declared.words.Template.TheVariants as part
use Rattle.tb_tree.specs.declared.types.TypeExpr.{TypeExpr}
use Rattle.tb_tree.specs.declared.exprs.BinaryOperator.{BinaryOperator}
use Rattle.tb_tree.specs.declared.exprs.BinaryOperator.TheVariants as binary
use Rattle.tb_tree.specs.declared.exprs.AssignOperator.{AssignOperator}
use Rattle.tb_tree.specs.declared.exprs.VarKind.{VarKind}
use Rattle.tb_tree.specs.declared.exprs.Expr.{Expr}
use Rattle.tb_tree.specs.declared.exprs.Expr.TheVariants as expr
use Rattle.tb_tree.specs.declared.exprs.TemplateSpan.{TemplateSpan}
use Rattle.tb_tree.specs.declared.exprs.Prop.{Prop}
use Rattle.tb_tree.specs.declared.exprs.Prop.TheVariants as prop
use Rattle.tb_tree.specs.declared.types.Key.{Key}
use Rattle.tb_tree.specs.declared.exprs.ArrowBody.{ArrowBody}
use Rattle.tb_tree.specs.declared.exprs.Param.{Param, roll-Param}
use Rattle.tb_tree.specs.declared.exprs.Block.{Block}
use Rattle.tb_tree.specs.declared.exprs.BlockItem.{BlockItem}
use Rattle.tb_tree.specs.declared.exprs.Var.{Var}
use Rattle.tb_tree.specs.declared.exprs.Declarator.{Declarator}
use Rattle.tb_tree.specs.declared.exprs.Function.{Function}
use Rattle.tb_tree.specs.declared.exprs.Stmt.{Stmt}
use Rattle.tb_tree.specs.declared.exprs.ForStart.{ForStart}
use Rattle.tb_tree.specs.declared.exprs.Clause.{Clause}
use Rattle.tb_tree.specs.Sym.{Sym, Mark, Lex, at_of}
use Rattle.tb_tree.specs.Words.{is_name}
use Rattle.tb_tree.specs.Shapes.{word, key_of}
use Rattle.tb_tree.specs.Types.{IsShape, truth_of}
use Rattle.tb_tree.specs.Exprs.{Around, binary_of, strength, rel_level, update_of, assign_of, is_target, has_value, kind_of, IsAnnotation, IsResult, IsExpr, IsArrowBody, IsValue, IsParam, IsParams, IsCond, IsOr, IsNullish, IsLevel, IsUnary, IsChain, IsPrimary, IsSpans, IsExprs, IsProp, IsProps, IsBlock, IsBlockItem, IsBlockItems, IsVar, IsDeclarator, IsDeclarators, IsFunction, IsStmt, IsOptional, IsForStart, IsClause, IsClauses}
use Rattle.tb_parse_type.specs.Rules.{continues_type}
use Rattle.tb_parse_body.specs.declared.fronts.Around.{Around as Surroundings}
use Rattle.tb_parse_body.specs.declared.fors.ForHead.{ForHead}
use Rattle.tb_parse_body.specs.declared.fors.OfHead.{OfHead}

-- a tree with its depth
abbrev pub Deep : Type 0 → Type 0
Deep X = X × ℕ

-- what surrounds a statement, as the grammar names it
abbrev pub around_of : Surroundings → Around
around_of a = record { in_body = a.in_body; in_loop = a.in_loop; in_switch = a.in_switch }

-- ---- the words that are expressions by themselves

abbrev pub word_by : Bool → Option Bool → Word → List ℕ → ℕ → Option Expr
word_by true truth kind spelled at = Some (expr.Name at spelled)
word_by false (Some value) kind spelled at = Some (expr.Boolean at value)
word_by false None w.This spelled at = Some (expr.This at)
word_by false None w.Null spelled at = Some (expr.Null at)
word_by false None w.Undefined spelled at = Some (expr.Undefined at)
word_by false None _ spelled at = None

abbrev pub word_primary : Word → List ℕ → ℕ → Option Expr
word_primary kind spelled at = word_by (is_name kind) (truth_of kind) kind spelled at

-- the expression that one symbol is
abbrev pub single_primary : Sym → Option Expr
single_primary (Lex (c.Word kind) spelled at) = word_primary kind spelled at
single_primary (Lex c.Number spelled at) = Some (expr.Number at spelled)
single_primary (Lex c.String spelled at) = Some (expr.String at spelled)
single_primary (Lex (c.Template part.Whole) spelled at) = Some (expr.Template at spelled [])
single_primary _ = None

-- ---- expressions

abbrev pub PrimaryUpto : ℕ → List Sym → Deep Expr → Type 0
PrimaryUpto n xs r = IsPrimary true xs r.0 r.1 × (r.1 ≤ n)

abbrev pub ExprsUpto : ℕ → List Sym → Deep (List Expr) → Type 0
ExprsUpto n xs r = IsExprs true xs r.0 r.1 × (r.1 ≤ n)

abbrev pub PropUpto : ℕ → List Sym → Deep Prop → Type 0
PropUpto n xs r = IsProp true xs r.0 r.1 × (r.1 ≤ n)

-- `Key : Expr`
abbrev pub ValuedPropUpto : ℕ → List Sym → Deep Prop → Type 0
ValuedPropUpto n xs r = (s : Sym) × (key : Key) × (colon : ℕ) × (ys : List Sym) × (of : Expr) × (xs ≡ s ∷ Mark m.Colon colon ∷ ys) × (key_of s ≡ Some key)
    × (r.0 ≡ prop.Valued (at_of s) key of) × IsExpr true true ys of r.1 × (r.1 ≤ n)

abbrev pub PropsUpto : ℕ → List Sym → Deep (List Prop) → Type 0
PropsUpto n xs r = IsProps true xs r.0 r.1 × (r.1 ≤ n)

abbrev pub SpansUpto : ℕ → List Sym → Deep (List TemplateSpan) → Type 0
SpansUpto n xs r = IsSpans true xs r.0 r.1 × (r.1 ≤ n)

abbrev pub ChainUpto : ℕ → List Sym → Deep Expr → Type 0
ChainUpto n xs r = IsChain true xs r.0 r.1 × (r.1 ≤ n)

-- a Chain that is a Target
abbrev pub TargetUpto : ℕ → List Sym → Deep Expr → Type 0
TargetUpto n xs r = IsChain true xs r.0 r.1 × (is_target r.0 ≡ true) × (r.1 ≤ n)

abbrev pub UnaryUpto : ℕ → List Sym → Deep Expr → Type 0
UnaryUpto n xs r = IsUnary true xs r.0 r.1 × (r.1 ≤ n)

abbrev pub LevelUpto : ℕ → ℕ → List Sym → Deep Expr → Type 0
LevelUpto level n xs r = IsLevel true level xs r.0 r.1 × (r.1 ≤ n)

abbrev pub OrUpto : ℕ → List Sym → Deep Expr → Type 0
OrUpto n xs r = IsOr true xs r.0 r.1 × (r.1 ≤ n)

abbrev pub CondUpto : Bool → ℕ → List Sym → Deep Expr → Type 0
CondUpto typed n xs r = IsCond true typed xs r.0 r.1 × (r.1 ≤ n)

abbrev pub ExprUpto : Bool → ℕ → List Sym → Deep Expr → Type 0
ExprUpto typed n xs r = IsExpr true typed xs r.0 r.1 × (r.1 ≤ n)

-- what follows a condition, and a target

abbrev pub BranchesUpto : Bool → ℕ → List Sym → Deep (Expr × Expr) → Type 0
BranchesUpto typed n xs r = (question : ℕ) × (colon : ℕ) × (ys : List Sym) × (zs : List Sym) × (d : ℕ) × (e : ℕ)
    × (xs ≡ Mark m.Question question ∷ ys ++ Mark m.Colon colon ∷ zs) × IsExpr true false ys r.0.0 d × IsExpr true typed zs r.0.1 e × (r.1 ≡ max d e) × (r.1 ≤ n)

abbrev pub AssignedUpto : Bool → ℕ → List Sym → Deep (AssignOperator × Expr) → Type 0
AssignedUpto typed n xs r = (s : Sym) × (ys : List Sym) × (xs ≡ s ∷ ys) × (assign_of s ≡ Some r.0.0) × IsExpr true typed ys r.0.1 r.1 × (r.1 ≤ n)

-- an Expr that is an Arrow: `( Param,* )`, optional `: Type`, `=>`, and its body; or Name, `=>`, and its body
pub data IsArrow (typed : Bool) : List Sym → Expr → ℕ → Type 0 where
  arrow : (open_at close_at arrow_at : ℕ) {xs ys zs : List Sym} {params : List Param} {result : Option TypeExpr} {of : ArrowBody} {d e f : ℕ}
      → IsParams true false xs params d → IsResult typed ys result e → IsArrowBody true typed zs of f
      → IsArrow typed (Mark m.OpenParen open_at ∷ xs ++ Mark m.CloseParen close_at ∷ ys ++ Mark m.Arrow arrow_at ∷ zs)
      (expr.Arrow open_at params result of) (max d (max e f) + 1)
  short_arrow : {kind : Word} (spelled : List ℕ) (at arrow_at : ℕ) {xs : List Sym} {of : ArrowBody} {d : ℕ}
      → is_name kind ≡ true → IsArrowBody true typed xs of d
      → IsArrow typed (word kind spelled at ∷ Mark m.Arrow arrow_at ∷ xs)
      (expr.Arrow at (roll-Param (record { at = at; name = spelled; optional = false; annotation = None; value = None }) ∷ []) None of) (d + 1)

abbrev pub ArrowUpto : Bool → ℕ → List Sym → Deep Expr → Type 0
ArrowUpto typed n xs r = IsArrow typed xs r.0 r.1 × (r.1 ≤ n)

abbrev pub ArrowBodyUpto : Bool → ℕ → List Sym → Deep ArrowBody → Type 0
ArrowBodyUpto typed n xs r = IsArrowBody true typed xs r.0 r.1 × (r.1 ≤ n)

-- what follows the parameters of an Arrow
abbrev pub ArrowRestUpto : Bool → ℕ → List Sym → Deep (Option TypeExpr × ArrowBody) → Type 0
ArrowRestUpto typed n xs r = (arrow_at : ℕ) × (ys : List Sym) × (zs : List Sym) × (d : ℕ) × (e : ℕ) × (xs ≡ ys ++ Mark m.Arrow arrow_at ∷ zs)
    × IsResult typed ys r.0.0 d × IsArrowBody true typed zs r.0.1 e × (r.1 ≡ max d e) × (r.1 ≤ n)

-- ---- declarations

abbrev pub ShapeUpto : ℕ → List Sym → Deep TypeExpr → Type 0
ShapeUpto n xs r = IsShape xs r.0 r.1 × (r.1 ≤ n)

abbrev pub AnnotationUpto : ℕ → List Sym → Deep (Option TypeExpr) → Type 0
AnnotationUpto n xs r = IsAnnotation xs r.0 r.1 × (r.1 ≤ n)

abbrev pub ResultUpto : Bool → ℕ → List Sym → Deep (Option TypeExpr) → Type 0
ResultUpto typed n xs r = IsResult typed xs r.0 r.1 × (r.1 ≤ n)

abbrev pub ValueUpto : ℕ → List Sym → Deep (Option Expr) → Type 0
ValueUpto n xs r = IsValue true xs r.0 r.1 × (r.1 ≤ n)

-- the default of a parameter, which has none where it has `?`
abbrev pub DefaultUpto : Bool → ℕ → List Sym → Deep (Option Expr) → Type 0
DefaultUpto optional n xs r = IsValue true xs r.0 r.1 × ((optional && has_value r.0) ≡ false) × (r.1 ≤ n)

-- a parameter, and whether it has `?` or `=`
abbrev pub ParamUpto : ℕ → List Sym → Deep (Param × Bool) → Type 0
ParamUpto n xs r = IsParam true r.0.1 xs r.0.0 r.1 × (r.1 ≤ n)

abbrev pub ParamsUpto : Bool → ℕ → List Sym → Deep (List Param) → Type 0
ParamsUpto after n xs r = IsParams true after xs r.0 r.1 × (r.1 ≤ n)

-- `( Param,* )`
abbrev pub SignatureUpto : ℕ → List Sym → Deep (List Param) → Type 0
SignatureUpto n xs r = (open_at : ℕ) × (close_at : ℕ) × (ys : List Sym) × (xs ≡ Mark m.OpenParen open_at ∷ ys ++ Mark m.CloseParen close_at ∷ []) × ParamsUpto false n ys r

abbrev pub DeclaratorUpto : VarKind → ℕ → List Sym → Deep Declarator → Type 0
DeclaratorUpto kind n xs r = IsDeclarator true kind xs r.0 r.1 × (r.1 ≤ n)

-- `,` and a Declarator behind one
abbrev pub NextDeclaratorUpto : VarKind → ℕ → List Sym → Deep Declarator → Type 0
NextDeclaratorUpto kind n xs r = (comma : ℕ) × (ys : List Sym) × (xs ≡ Mark m.Comma comma ∷ ys) × DeclaratorUpto kind n ys r

abbrev pub DeclaratorsUpto : VarKind → ℕ → List Sym → Deep (List Declarator) → Type 0
DeclaratorsUpto kind n xs r = IsDeclarators true kind xs r.0 r.1 × (r.1 ≤ n)

abbrev pub VarUpto : ℕ → List Sym → Deep Var → Type 0
VarUpto n xs r = IsVar true xs r.0 r.1 × (r.1 ≤ n)

abbrev pub FunctionUpto : ℕ → List Sym → Deep Function → Type 0
FunctionUpto n xs r = IsFunction true xs r.0 r.1 × (r.1 ≤ n)

-- an optional `: Type`, and a body behind it
abbrev pub BodyUpto : ℕ → List Sym → Deep (Option TypeExpr × Block) → Type 0
BodyUpto n xs r = (front : List Sym) × (behind : List Sym) × (d : ℕ) × (e : ℕ) × (xs ≡ front ++ behind) × IsAnnotation front r.0.0 d
    × IsBlock true (record { in_body = true; in_loop = false; in_switch = false }) behind r.0.1 e × (r.1 ≡ max d e) × (r.1 ≤ n)

-- ---- blocks and statements

abbrev pub BlockUpto : Around → ℕ → List Sym → Deep Block → Type 0
BlockUpto around n xs r = IsBlock true around xs r.0 r.1 × (r.1 ≤ n)

abbrev pub BlockItemUpto : Around → ℕ → List Sym → Deep BlockItem → Type 0
BlockItemUpto around n xs r = IsBlockItem true around xs r.0 r.1 × (r.1 ≤ n)

abbrev pub BlockItemsUpto : Around → ℕ → List Sym → Deep (List BlockItem) → Type 0
BlockItemsUpto around n xs r = IsBlockItems true around xs r.0 r.1 × (r.1 ≤ n)

abbrev pub StmtUpto : Around → Bool → ℕ → List Sym → Deep Stmt → Type 0
StmtUpto around closed n xs r = IsStmt true around closed xs r.0 r.1 × (r.1 ≤ n)

abbrev pub OptionalUpto : ℕ → List Sym → Deep (Option Expr) → Type 0
OptionalUpto n xs r = IsOptional true xs r.0 r.1 × (r.1 ≤ n)

abbrev pub ForStartUpto : ℕ → List Sym → Deep ForStart → Type 0
ForStartUpto n xs r = IsForStart true xs r.0 r.1 × (r.1 ≤ n)

-- `( Expr )`
abbrev pub HeadUpto : ℕ → List Sym → Deep Expr → Type 0
HeadUpto n xs r = (open_at : ℕ) × (close_at : ℕ) × (ys : List Sym) × (xs ≡ Mark m.OpenParen open_at ∷ ys ++ Mark m.CloseParen close_at ∷ []) × IsExpr true true ys r.0 r.1 × (r.1 ≤ n)

-- `Expr? ;`, also with another mark
abbrev pub EndedUpto : MarkKind → ℕ → List Sym → Deep (Option Expr) → Type 0
EndedUpto kind n xs r = (at : ℕ) × (ys : List Sym) × (xs ≡ ys ++ Mark kind at ∷ []) × IsOptional true ys r.0 r.1 × (r.1 ≤ n)

-- `Expr ;`
abbrev pub SentenceUpto : ℕ → List Sym → Deep Expr → Type 0
SentenceUpto n xs r = (at : ℕ) × (ys : List Sym) × (xs ≡ ys ++ Mark m.Semicolon at ∷ []) × IsExpr true true ys r.0 r.1 × (r.1 ≤ n)

-- `( const Name of Expr )`, also with `let`
abbrev pub OfHeadUpto : ℕ → List Sym → Deep OfHead → Type 0
OfHeadUpto n xs r = (open_at : ℕ) × (close_at : ℕ) × (k : Word) × (kind : Word) × (k_spelled : List ℕ) × (k_at : ℕ) × (of_spelled : List ℕ) × (of_at : ℕ) × (ys : List Sym) × (subject : Expr)
    × (xs ≡ Mark m.OpenParen open_at ∷ word k k_spelled k_at ∷ word kind r.0.element.name r.0.element.at ∷ word w.Of of_spelled of_at ∷ ys ++ Mark m.CloseParen close_at ∷ [])
    × (kind_of k ≡ Some r.0.kind) × (is_name kind ≡ true) × (subject ≡ r.0.subject) × IsExpr true true ys subject r.1 × (r.1 ≤ n)

-- `(`, Var or `Expr? ;`, `Expr? ; Expr? )`
abbrev pub ForHeadUpto : ℕ → List Sym → Deep ForHead → Type 0
ForHeadUpto n xs r = (open_at : ℕ) × (semicolon : ℕ) × (close_at : ℕ) × (vs : List Sym) × (ys : List Sym) × (zs : List Sym) × (d : ℕ) × (e : ℕ) × (f : ℕ)
    × (xs ≡ Mark m.OpenParen open_at ∷ vs ++ ys ++ Mark m.Semicolon semicolon ∷ zs ++ Mark m.CloseParen close_at ∷ [])
    × IsForStart true vs r.0.start d × IsOptional true ys r.0.condition e × IsOptional true zs r.0.update f × (r.1 ≡ max d (max e f)) × (r.1 ≤ n)

-- what begins a statement other than `Expr ;`
abbrev pub is_stmt_word : Word → Bool
is_stmt_word w.If = true
is_stmt_word w.While = true
is_stmt_word w.Do = true
is_stmt_word w.For = true
is_stmt_word w.Return = true
is_stmt_word w.Break = true
is_stmt_word w.Continue = true
is_stmt_word w.Throw = true
is_stmt_word w.Switch = true
is_stmt_word _ = false

abbrev pub begins_other : Sym → Bool
begins_other (Mark m.OpenBrace at) = true
begins_other (Mark m.Semicolon at) = true
begins_other (Lex (c.Word kind) spelled at) = is_stmt_word kind
begins_other _ = false

abbrev pub begins_other_stmt : List Sym → Bool
begins_other_stmt [] = false
begins_other_stmt (s ∷ ss) = begins_other s

-- `case Expr :`, and what stands behind it; and the same with `default`
abbrev pub CaseUpto : Around → ℕ → List Sym → Deep Clause → Type 0
CaseUpto around n xs r = IsClause true around false xs r.0 r.1 × (r.1 ≤ n)

abbrev pub DefaultClauseUpto : Around → ℕ → List Sym → Deep Clause → Type 0
DefaultClauseUpto around n xs r = IsClause true around true xs r.0 r.1 × (r.1 ≤ n)

-- a clause, and whether it is `default`, which it may be only where none was before
abbrev pub ClauseUpto : Bool → Around → ℕ → List Sym → Deep (Clause × Bool) → Type 0
ClauseUpto before around n xs r = IsClause true around r.0.1 xs r.0.0 r.1 × ((before && r.0.1) ≡ false) × (r.1 ≤ n)

-- clauses, of which one may be `default` only where none was before
abbrev pub ClausesUpto : Bool → Around → ℕ → List Sym → Deep (List Clause) → Type 0
ClausesUpto before around n xs r = (here : Bool) × IsClauses true around here xs r.0 r.1 × ((before && here) ≡ false) × (r.1 ≤ n)

-- and in braces
abbrev pub BracedClausesUpto : Around → ℕ → List Sym → Deep (List Clause) → Type 0
BracedClausesUpto around n xs r = (open_at : ℕ) × (close_at : ℕ) × (ys : List Sym) × (xs ≡ Mark m.OpenBrace open_at ∷ ys ++ Mark m.CloseBrace close_at ∷ []) × ClausesUpto false around n ys r

-- ---- how a reading may go on

abbrev pub continues_chain : Sym → Bool
continues_chain (Mark m.Dot at) = true
continues_chain (Mark m.OpenBracket at) = true
continues_chain (Mark m.OpenParen at) = true
continues_chain _ = false

abbrev pub InChain : Sym → Type 0
InChain s = continues_chain s ≡ true

abbrev pub is_some : {A : Type 0} → Option A → Bool
is_some (Some x) = true
is_some None = false

abbrev pub continues_unary : Sym → Bool
continues_unary s = continues_chain s || is_some (update_of s)

abbrev pub InUnary : Sym → Type 0
InUnary s = continues_unary s ≡ true

-- a symbol joins operands of a level, or of a higher one
abbrev pub joins_by : ℕ → Option BinaryOperator → Bool
joins_by level (Some operator) = leb level (strength operator)
joins_by level None = false

abbrev pub joins : ℕ → Sym → Bool
joins level s = joins_by level (binary_of s)

-- Behind `as Type` the type goes on.
abbrev pub continues_level : ℕ → Sym → Bool
continues_level level s = continues_unary s || joins level s || (leb level rel_level && continues_type s)

abbrev pub InLevel : ℕ → Sym → Type 0
InLevel level s = continues_level level s ≡ true

abbrev pub is_nullish : Sym → Bool
is_nullish (Mark m.Nullish at) = true
is_nullish _ = false

abbrev pub continues_or : Sym → Bool
continues_or s = continues_level 1 s || is_nullish s

abbrev pub InOr : Sym → Type 0
InOr s = continues_or s ≡ true

-- Behind an expression in brackets, a list or a statement stands one of these. In the expression of a `case` and the middle of `? :`
-- that is also `:`.
abbrev pub is_end : Sym → Bool
is_end (Mark m.CloseParen at) = true
is_end (Mark m.CloseBracket at) = true
is_end (Mark m.CloseBrace at) = true
is_end (Mark m.Comma at) = true
is_end (Mark m.Semicolon at) = true
is_end (Lex (c.Template part.Middle) spelled at) = true
is_end (Lex (c.Template part.Tail) spelled at) = true
is_end _ = false

abbrev pub is_colon : Sym → Bool
is_colon (Mark m.Colon at) = true
is_colon _ = false

abbrev pub ends_expr : Bool → Sym → Bool
ends_expr typed s = is_end s || (not typed && is_colon s)

abbrev pub InExpr : Bool → Sym → Type 0
InExpr typed s = ends_expr typed s ≡ false

-- a list in brackets ends before what closes them
abbrev pub is_close : Sym → Bool
is_close (Mark m.CloseParen at) = true
is_close (Mark m.CloseBracket at) = true
is_close (Mark m.CloseBrace at) = true
is_close _ = false

abbrev pub InList : Sym → Type 0
InList s = is_close s ≡ false

-- behind a name without `?`
abbrev pub is_question : Sym → Bool
is_question (Mark m.Question at) = true
is_question _ = false

abbrev pub InQuestion : Sym → Type 0
InQuestion s = is_question s ≡ true

-- declarators end before `;`
abbrev pub is_semicolon : Sym → Bool
is_semicolon (Mark m.Semicolon at) = true
is_semicolon _ = false

abbrev pub InDeclarators : Sym → Type 0
InDeclarators s = is_semicolon s ≡ false

-- an optional `: Type`
abbrev pub continues_annotation : Sym → Bool
continues_annotation s = continues_type s || is_colon s

abbrev pub InAnnotation : Sym → Type 0
InAnnotation s = continues_annotation s ≡ true

-- behind a body that follows the type `readonly`, which may have been a read-only array's
abbrev pub is_open_bracket : Sym → Bool
is_open_bracket (Mark m.OpenBracket at) = true
is_open_bracket _ = false

abbrev pub InBody : Sym → Type 0
InBody s = is_open_bracket s ≡ true

-- behind an `if`
abbrev pub is_else : Sym → Bool
is_else (Lex (c.Word w.Else) spelled at) = true
is_else _ = false

abbrev pub InStmt : Sym → Type 0
InStmt s = is_else s ≡ true

abbrev pub InItem : Sym → Type 0
InItem s = (is_else s || is_open_bracket s) ≡ true

-- the items of a block end before `}`, and those of a clause also before a further one
abbrev pub ends_items : Sym → Bool
ends_items (Mark m.CloseBrace at) = true
ends_items (Lex (c.Word w.Case) spelled at) = true
ends_items (Lex (c.Word w.Default) spelled at) = true
ends_items _ = false

abbrev pub InItems : Sym → Type 0
InItems s = ends_items s ≡ false

-- clauses end before `}`
abbrev pub ends_clauses : Sym → Bool
ends_clauses (Mark m.CloseBrace at) = true
ends_clauses _ = false

abbrev pub InClauses : Sym → Type 0
InClauses s = ends_clauses s ≡ false

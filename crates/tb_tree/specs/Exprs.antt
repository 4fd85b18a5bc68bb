-- The grammar of expressions and statements, by cases on whole lists of symbols: a subset of TypeScript's. Each rule gives the tree
-- and its exact depth: the greatest number, on a way downward, of expression nodes, type nodes, blocks, `if`, `while`, `do`, `for`
-- and `switch`. Parentheses round an expression are an expression node. All joins group to the left.
use Rattle.std.specs.Prelude.{ℕ, suc, ◌+◌, ◌≤◌, max, ◌≡◌, Bool, true, false, ◌||◌, ◌&&◌, List, [], ◌∷◌, ◌++◌, Option, Some, None}
use Rattle.tb_tree.specs.declared.marks.Mark.TheVariants as m
use Rattle.tb_tree.specs.declared.words.Word.{Word}
use Rattle.tb_tree.specs.declared.words.Word.TheVariants as w
use Rattle.tb_tree.specs.declared.words.Class.TheVariants as c
use Rattle.tb_tree.specs.declared.words.Template.TheVariants as part
use Rattle.tb_tree.specs.declared.types.Key.{Key}
use Rattle.tb_tree.specs.declared.types.TypeExpr.{TypeExpr}
use Rattle.tb_tree.specs.declared.exprs.UnaryOperator.{UnaryOperator}
use Rattle.tb_tree.specs.declared.exprs.UnaryOperator.TheVariants as unary
use Rattle.tb_tree.specs.declared.exprs.UpdateOperator.{UpdateOperator}
use Rattle.tb_tree.specs.declared.exprs.UpdateOperator.TheVariants as update
use Rattle.tb_tree.specs.declared.exprs.BinaryOperator.{BinaryOperator}
use Rattle.tb_tree.specs.declared.exprs.BinaryOperator.TheVariants as binary
use Rattle.tb_tree.specs.declared.exprs.AssignOperator.{AssignOperator}
use Rattle.tb_tree.specs.declared.exprs.AssignOperator.TheVariants as assign
use Rattle.tb_tree.specs.declared.exprs.VarKind.{VarKind}
use Rattle.tb_tree.specs.declared.exprs.VarKind.TheVariants as v
use Rattle.tb_tree.specs.declared.exprs.Expr.{Expr, out-Expr}
use Rattle.tb_tree.specs.declared.exprs.Expr.TheVariants as expr
use Rattle.tb_tree.specs.declared.exprs.ArrowBody.TheOpen.{Expr-F}
use Rattle.tb_tree.specs.declared.exprs.TemplateSpan.{TemplateSpan, roll-TemplateSpan}
use Rattle.tb_tree.specs.declared.exprs.Prop.{Prop}
use Rattle.tb_tree.specs.declared.exprs.Prop.TheVariants as prop
use Rattle.tb_tree.specs.declared.exprs.ArrowBody.{ArrowBody}
use Rattle.tb_tree.specs.declared.exprs.ArrowBody.TheVariants as arrow_body
use Rattle.tb_tree.specs.declared.exprs.Param.{Param, roll-Param}
use Rattle.tb_tree.specs.declared.exprs.Block.{Block, roll-Block}
use Rattle.tb_tree.specs.declared.exprs.BlockItem.{BlockItem}
use Rattle.tb_tree.specs.declared.exprs.BlockItem.TheVariants as block_item
use Rattle.tb_tree.specs.declared.exprs.Var.{Var, roll-Var}
use Rattle.tb_tree.specs.declared.exprs.Declarator.{Declarator, roll-Declarator}
use Rattle.tb_tree.specs.declared.exprs.Function.{Function, roll-Function}
use Rattle.tb_tree.specs.declared.exprs.Stmt.{Stmt}
use Rattle.tb_tree.specs.declared.exprs.Stmt.TheVariants as stmt
use Rattle.tb_tree.specs.declared.exprs.ForStart.{ForStart}
use Rattle.tb_tree.specs.declared.exprs.ForStart.TheVariants as start
use Rattle.tb_tree.specs.declared.exprs.Clause.{Clause}
use Rattle.tb_tree.specs.declared.exprs.Clause.TheVariants as clause
use Rattle.tb_tree.specs.Sym.{Sym, Mark, Lex, at_of}
use Rattle.tb_tree.specs.Words.{is_name}
use Rattle.tb_tree.specs.Shapes.{max_depth, word, start_of, IsMarked, key_of}
use Rattle.tb_tree.specs.Types.{IsType, IsShape, truth_of}

-- ---- single symbols

-- the operators before an operand
abbrev pub unary_of : Sym → Option UnaryOperator
unary_of (Mark m.Not at) = Some unary.Not
unary_of (Mark m.Minus at) = Some unary.Minus
unary_of (Mark m.Plus at) = Some unary.Plus
unary_of (Lex (c.Word w.Typeof) spelled at) = Some unary.Typeof
unary_of _ = None

-- the operators before or after a Target
abbrev pub update_of : Sym → Option UpdateOperator
update_of (Mark m.PlusPlus at) = Some update.Increment
update_of (Mark m.MinusMinus at) = Some update.Decrement
update_of _ = None

-- the operators that write a Target
abbrev pub assign_of : Sym → Option AssignOperator
assign_of (Mark m.Assign at) = Some assign.Assign
assign_of (Mark m.PlusAssign at) = Some assign.Plus
assign_of (Mark m.MinusAssign at) = Some assign.Minus
assign_of (Mark m.StarAssign at) = Some assign.Times
assign_of (Mark m.SlashAssign at) = Some assign.Divided
assign_of (Mark m.PercentAssign at) = Some assign.Remainder
assign_of _ = None

-- The operators that join, but for `??`, and how strongly they do: `||` at level 1 (Or), `&&` at 2 (And), `=== !==` at 3 (Eq),
-- `< > <= >=` at 4 (Rel), `+ -` at 5 (Add), `* / %` at 6 (Mul). An operand at level 7 is a Unary.
abbrev pub binary_of : Sym → Option BinaryOperator
binary_of (Mark m.Or at) = Some binary.Or
binary_of (Mark m.And at) = Some binary.And
binary_of (Mark m.Same at) = Some binary.Same
binary_of (Mark m.NotSame at) = Some binary.NotSame
binary_of (Mark m.Less at) = Some binary.Less
binary_of (Mark m.Greater at) = Some binary.Greater
binary_of (Mark m.LessEqual at) = Some binary.LessEqual
binary_of (Mark m.GreaterEqual at) = Some binary.GreaterEqual
binary_of (Mark m.Plus at) = Some binary.Plus
binary_of (Mark m.Minus at) = Some binary.Minus
binary_of (Mark m.Star at) = Some binary.Times
binary_of (Mark m.Slash at) = Some binary.Divided
binary_of (Mark m.Percent at) = Some binary.Remainder
binary_of _ = None

abbrev pub or_level : ℕ
or_level = 1

abbrev pub and_level : ℕ
and_level = 2

abbrev pub eq_level : ℕ
eq_level = 3

abbrev pub rel_level : ℕ
rel_level = 4

abbrev pub add_level : ℕ
add_level = 5

abbrev pub mul_level : ℕ
mul_level = 6

abbrev pub unary_level : ℕ
unary_level = 7

abbrev pub strength : BinaryOperator → ℕ
strength binary.Or = or_level
strength binary.And = and_level
strength binary.Same = eq_level
strength binary.NotSame = eq_level
strength binary.Plus = add_level
strength binary.Minus = add_level
strength binary.Times = mul_level
strength binary.Divided = mul_level
strength binary.Remainder = mul_level
strength _ = rel_level

-- `const` and `let`
abbrev pub kind_of : Word → Option VarKind
kind_of w.Const = Some v.Const
kind_of w.Let = Some v.Let
kind_of _ = None

-- the first symbol is `{`
abbrev pub begins_with_brace : List Sym → Bool
begins_with_brace (Mark m.OpenBrace at ∷ ss) = true
begins_with_brace _ = false

-- ---- trees

-- a Target: Name, Member or Index
abbrev pub is_target_at : Expr-F ArrowBody BlockItem Clause Expr ForStart Prop Stmt Block Declarator Function Param TemplateSpan Var → Bool
is_target_at (Expr-F.Name at name) = true
is_target_at (Expr-F.Member at base member) = true
is_target_at (Expr-F.Index at base index) = true
is_target_at _ = false

abbrev pub is_target : Expr → Bool
is_target of = is_target_at (out-Expr of)

abbrev pub is_number_at : Expr-F ArrowBody BlockItem Clause Expr ForStart Prop Stmt Block Declarator Function Param TemplateSpan Var → Bool
is_number_at (Expr-F.Number at spelled) = true
is_number_at _ = false

abbrev pub is_number : Expr → Bool
is_number of = is_number_at (out-Expr of)

-- a constant has a value
abbrev pub is_valued : VarKind → Option Expr → Bool
is_valued v.Const None = false
is_valued _ _ = true

abbrev pub has_value : Option Expr → Bool
has_value None = false
has_value (Some of) = true

-- ---- the type of a declaration

-- an optional `: Type`
pub data IsAnnotation : List Sym → Option TypeExpr → ℕ → Type 0 where
  no_annotation : IsAnnotation [] None 0
  some_annotation : {xs : List Sym} {of : TypeExpr} {d : ℕ} → IsShape xs of d → IsAnnotation xs (Some of) d

-- an optional `: Type` of an Arrow, where it may have one
pub data IsResult : Bool → List Sym → Option TypeExpr → ℕ → Type 0 where
  no_result : {typed : Bool} → IsResult typed [] None 0
  some_result : {xs : List Sym} {of : TypeExpr} {d : ℕ} → IsShape xs of d → IsResult true xs (Some of) d

-- ---- what surrounds a statement

-- whether it stands in a body, a loop and a switch
pub record Around : Type 0 where
  pub in_body : Bool
  pub in_loop : Bool
  pub in_switch : Bool

-- a body ends the reach of `break` and `continue`
abbrev pub a_body : Around
a_body = record { in_body = true; in_loop = false; in_switch = false }

abbrev pub a_loop : Around → Around
a_loop around = record { in_body = around.in_body; in_loop = true; in_switch = around.in_switch }

-- and what surrounds an item
abbrev pub no_body : Around
no_body = record { in_body = false; in_loop = false; in_switch = false }

abbrev pub a_switch : Around → Around
a_switch around = record { in_body = around.in_body; in_loop = around.in_loop; in_switch = true }

-- ---- the order of parameters

-- A parameter follows others: where the order counts and one of these has `?` or `=`, it has one too.
abbrev pub may_follow : Bool → Bool → Bool → Bool
may_follow true true given = given
may_follow _ _ _ = true

-- The order of parameters counts in a source. It does not in the JavaScript that is left of one, which has lost each `?`.
module _ (ordered : Bool) where
  mutual
    -- Expr: Arrow; Target with `= += -= *= /= %=` and Expr; Cond. Where `typed` is false, no Arrow with `: Type` stands in it
    -- outside brackets (those of a template's `${ }` are brackets).
    pub data IsExpr : Bool → List Sym → Expr → ℕ → Type 0 where
      arrow_expr : {typed : Bool} (open_at close_at arrow_at : ℕ) {xs ys zs : List Sym} {params : List Param} {result : Option TypeExpr} {of : ArrowBody} {d e f : ℕ}
          → IsParams false xs params d → IsResult typed ys result e → IsArrowBody typed zs of f
          → IsExpr typed (Mark m.OpenParen open_at ∷ xs ++ Mark m.CloseParen close_at ∷ ys ++ Mark m.Arrow arrow_at ∷ zs)
          (expr.Arrow open_at params result of) (max d (max e f) + 1)
      short_arrow_expr : {typed : Bool} {kind : Word} (spelled : List ℕ) (at arrow_at : ℕ) {xs : List Sym} {of : ArrowBody} {d : ℕ}
          → is_name kind ≡ true → IsArrowBody typed xs of d
          → IsExpr typed (word kind spelled at ∷ Mark m.Arrow arrow_at ∷ xs)
          (expr.Arrow at (roll-Param (record { at = at; name = spelled; optional = false; annotation = None; value = None }) ∷ []) None of) (d + 1)
      assign_expr : {typed : Bool} (s : Sym) {operator : AssignOperator} {xs ys : List Sym} {target value : Expr} {d e : ℕ}
          → IsChain xs target d → is_target target ≡ true → assign_of s ≡ Some operator → IsExpr typed ys value e
          → IsExpr typed (xs ++ s ∷ ys) (expr.Assign (start_of xs) target operator value) (max d e + 1)
      cond_expr : {typed : Bool} {xs : List Sym} {of : Expr} {d : ℕ} → IsCond typed xs of d → IsExpr typed xs of d

    -- what follows `=>`: Block, or Expr not beginning with `{`
    pub data IsArrowBody : Bool → List Sym → ArrowBody → ℕ → Type 0 where
      block_body : {typed : Bool} {xs : List Sym} {of : Block} {d : ℕ} → IsBlock a_body xs of d → IsArrowBody typed xs (arrow_body.Block of) d
      expr_body : {typed : Bool} {xs : List Sym} {of : Expr} {d : ℕ} → begins_with_brace xs ≡ false → IsExpr typed xs of d
          → IsArrowBody typed xs (arrow_body.Expr of) d

    -- an optional `= Expr`
    pub data IsValue : List Sym → Option Expr → ℕ → Type 0 where
      no_value : IsValue [] None 0
      some_value : (at : ℕ) {xs : List Sym} {of : Expr} {d : ℕ} → IsExpr true xs of d → IsValue (Mark m.Assign at ∷ xs) (Some of) d

    -- Param: Name, optional `?`, optional `: Type`, optional `= Expr`, not both `?` and `=`. The index says whether it has one.
    pub data IsParam : Bool → List Sym → Param → ℕ → Type 0 where
      param : {kind : Word} {optional : Bool} (spelled : List ℕ) (at : ℕ) {xs ys zs : List Sym} {shape : Option TypeExpr} {default : Option Expr} {d e : ℕ}
          → is_name kind ≡ true → IsMarked m.Question xs optional → IsAnnotation ys shape d → IsValue zs default e → (optional && has_value default) ≡ false
          → IsParam (optional || has_value default) (word kind spelled at ∷ xs ++ ys ++ zs)
          (roll-Param (record { at = at; name = spelled; optional = optional; annotation = shape; value = default })) (max d e)

    -- Param,* where the index says whether an earlier Param has `?` or `=`: all later ones then have one too
    pub data IsParams : Bool → List Sym → List Param → ℕ → Type 0 where
      no_params : {after : Bool} → IsParams after [] [] 0
      last_param : {after given : Bool} {xs : List Sym} {of : Param} {d : ℕ} → IsParam given xs of d → may_follow ordered after given ≡ true
          → IsParams after xs (of ∷ []) d
      more_params : {after given : Bool} (comma : ℕ) {xs ys : List Sym} {of : Param} {rest : List Param} {d e : ℕ}
          → IsParam given xs of d → may_follow ordered after given ≡ true → IsParams (after || given) ys rest e
          → IsParams after (xs ++ Mark m.Comma comma ∷ ys) (of ∷ rest) (max d e)

    -- Cond: Or, or `Or ? Expr : Expr`
    pub data IsCond : Bool → List Sym → Expr → ℕ → Type 0 where
      or_expr : {typed : Bool} {xs : List Sym} {of : Expr} {d : ℕ} → IsOr xs of d → IsCond typed xs of d
      conditional_expr : {typed : Bool} (question colon : ℕ) {xs ys zs : List Sym} {condition then otherwise : Expr} {d e f : ℕ}
          → IsOr xs condition d → IsExpr false ys then e → IsExpr typed zs otherwise f
          → IsCond typed (xs ++ Mark m.Question question ∷ ys ++ Mark m.Colon colon ∷ zs) (expr.Conditional (start_of xs) condition then otherwise) (max d (max e f) + 1)

    -- Or: And joined by `||`, or Eq joined by `??`
    pub data IsOr : List Sym → Expr → ℕ → Type 0 where
      level_expr : {xs : List Sym} {of : Expr} {d : ℕ} → IsLevel or_level xs of d → IsOr xs of d
      nullish_expr : {xs : List Sym} {of : Expr} {d : ℕ} → IsNullish xs of d → IsOr xs of d

    -- Eq joined by at least one `??`
    pub data IsNullish : List Sym → Expr → ℕ → Type 0 where
      first_nullish : (at : ℕ) {xs ys : List Sym} {left right : Expr} {d e : ℕ} → IsLevel eq_level xs left d → IsLevel eq_level ys right e
          → IsNullish (xs ++ Mark m.Nullish at ∷ ys) (expr.Binary (start_of xs) left binary.Nullish right) (max d e + 1)
      next_nullish : (at : ℕ) {xs ys : List Sym} {left right : Expr} {d e : ℕ} → IsNullish xs left d → IsLevel eq_level ys right e
          → IsNullish (xs ++ Mark m.Nullish at ∷ ys) (expr.Binary (start_of xs) left binary.Nullish right) (max d e + 1)

    -- And, Eq, Rel, Add and Mul, and the first form of Or: operands of the next level joined by the operators of this one. At the level
    -- of Rel, `as Type` may follow an operand in place of an operator with a further one. Above Mul stands Unary.
    pub data IsLevel : ℕ → List Sym → Expr → ℕ → Type 0 where
      unary_operand : {l : ℕ} {xs : List Sym} {of : Expr} {d : ℕ} → l ≡ unary_level → IsUnary xs of d → IsLevel l xs of d
      next_level : {l : ℕ} {xs : List Sym} {of : Expr} {d : ℕ} → IsLevel (suc l) xs of d → IsLevel l xs of d
      joined_expr : {l : ℕ} (s : Sym) {operator : BinaryOperator} {xs ys : List Sym} {left right : Expr} {d e : ℕ}
          → IsLevel l xs left d → binary_of s ≡ Some operator → strength operator ≡ l → IsLevel (suc l) ys right e
          → IsLevel l (xs ++ s ∷ ys) (expr.Binary (start_of xs) left operator right) (max d e + 1)
      as_expr : {l : ℕ} (spelled : List ℕ) (at : ℕ) {xs ys : List Sym} {of : Expr} {shape : TypeExpr} {d own e : ℕ}
          → l ≡ rel_level → IsLevel l xs of d → IsType ys shape own e → own ≤ max_depth
          → IsLevel l (xs ++ word w.As spelled at ∷ ys) (expr.As (start_of xs) of shape) (max d e + 1)

    -- Unary: `!`, `-`, `+`, `typeof` with Unary; `++`, `--` with Target; Target with `++`, `--` after it; Chain
    pub data IsUnary : List Sym → Expr → ℕ → Type 0 where
      prefix_expr : (s : Sym) {operator : UnaryOperator} {xs : List Sym} {of : Expr} {d : ℕ} → unary_of s ≡ Some operator → IsUnary xs of d
          → IsUnary (s ∷ xs) (expr.Unary (at_of s) operator of) (d + 1)
      update_before : (s : Sym) {operator : UpdateOperator} {xs : List Sym} {of : Expr} {d : ℕ} → update_of s ≡ Some operator → IsChain xs of d → is_target of ≡ true
          → IsUnary (s ∷ xs) (expr.Update (at_of s) operator true of) (d + 1)
      update_after : (s : Sym) {operator : UpdateOperator} {xs : List Sym} {of : Expr} {d : ℕ} → IsChain xs of d → is_target of ≡ true → update_of s ≡ Some operator
          → IsUnary (xs ++ s ∷ []) (expr.Update (start_of xs) operator false of) (d + 1)
      chain_expr : {xs : List Sym} {of : Expr} {d : ℕ} → IsChain xs of d → IsUnary xs of d

    -- Chain: Primary, then any number of `. Word` (Member, not on a number), `[ Expr ]` (Index), `( Expr,* )` (Call)
    pub data IsChain : List Sym → Expr → ℕ → Type 0 where
      primary_expr : {xs : List Sym} {of : Expr} {d : ℕ} → IsPrimary xs of d → IsChain xs of d
      member_expr : (kind : Word) (dot : ℕ) (spelled : List ℕ) (at : ℕ) {xs : List Sym} {of : Expr} {d : ℕ} → IsChain xs of d → is_number of ≡ false
          → IsChain (xs ++ Mark m.Dot dot ∷ word kind spelled at ∷ []) (expr.Member (start_of xs) of spelled) (d + 1)
      index_expr : (open_at close_at : ℕ) {xs ys : List Sym} {of place : Expr} {d e : ℕ} → IsChain xs of d → IsExpr true ys place e
          → IsChain (xs ++ Mark m.OpenBracket open_at ∷ ys ++ Mark m.CloseBracket close_at ∷ []) (expr.Index (start_of xs) of place) (max d e + 1)
      call_expr : (open_at close_at : ℕ) {xs ys : List Sym} {of : Expr} {arguments : List Expr} {d e : ℕ} → IsChain xs of d → IsExprs ys arguments e
          → IsChain (xs ++ Mark m.OpenParen open_at ∷ ys ++ Mark m.CloseParen close_at ∷ []) (expr.Call (start_of xs) of [] arguments) (max d e + 1)

    -- Primary: Name; `this`; number; string; template; `true`; `false`; `null`; `undefined`; `( Expr )`; `[ Expr,* ]`; `{ Prop,* }`;
    -- `new Name ( Expr,* )`
    pub data IsPrimary : List Sym → Expr → ℕ → Type 0 where
      name_expr : {kind : Word} (spelled : List ℕ) (at : ℕ) → is_name kind ≡ true → IsPrimary (word kind spelled at ∷ []) (expr.Name at spelled) 1
      this_expr : (spelled : List ℕ) (at : ℕ) → IsPrimary (word w.This spelled at ∷ []) (expr.This at) 1
      number_expr : (spelled : List ℕ) (at : ℕ) → IsPrimary (Lex c.Number spelled at ∷ []) (expr.Number at spelled) 1
      string_expr : (spelled : List ℕ) (at : ℕ) → IsPrimary (Lex c.String spelled at ∷ []) (expr.String at spelled) 1
      template_expr : (spelled : List ℕ) (at : ℕ) → IsPrimary (Lex (c.Template part.Whole) spelled at ∷ []) (expr.Template at spelled []) 1
      spans_expr : (spelled : List ℕ) (at : ℕ) {xs : List Sym} {spans : List TemplateSpan} {d : ℕ} → IsSpans xs spans d
          → IsPrimary (Lex (c.Template part.Head) spelled at ∷ xs) (expr.Template at spelled spans) (d + 1)
      boolean_expr : {kind : Word} {of : Bool} (spelled : List ℕ) (at : ℕ) → truth_of kind ≡ Some of → IsPrimary (word kind spelled at ∷ []) (expr.Boolean at of) 1
      null_expr : (spelled : List ℕ) (at : ℕ) → IsPrimary (word w.Null spelled at ∷ []) (expr.Null at) 1
      undefined_expr : (spelled : List ℕ) (at : ℕ) → IsPrimary (word w.Undefined spelled at ∷ []) (expr.Undefined at) 1
      parens_expr : (open_at close_at : ℕ) {xs : List Sym} {of : Expr} {d : ℕ} → IsExpr true xs of d
          → IsPrimary (Mark m.OpenParen open_at ∷ xs ++ Mark m.CloseParen close_at ∷ []) (expr.Parens open_at of) (d + 1)
      array_expr : (open_at close_at : ℕ) {xs : List Sym} {of : List Expr} {d : ℕ} → IsExprs xs of d
          → IsPrimary (Mark m.OpenBracket open_at ∷ xs ++ Mark m.CloseBracket close_at ∷ []) (expr.Array open_at of) (d + 1)
      object_expr : (open_at close_at : ℕ) {xs : List Sym} {of : List Prop} {d : ℕ} → IsProps xs of d
          → IsPrimary (Mark m.OpenBrace open_at ∷ xs ++ Mark m.CloseBrace close_at ∷ []) (expr.Object open_at of) (d + 1)
      new_expr : {kind : Word} (new_spelled : List ℕ) (new_at : ℕ) (spelled : List ℕ) (at open_at close_at : ℕ) {xs : List Sym} {of : List Expr} {d : ℕ}
          → is_name kind ≡ true → IsExprs xs of d
          → IsPrimary (word w.New new_spelled new_at ∷ word kind spelled at ∷ Mark m.OpenParen open_at ∷ xs ++ Mark m.CloseParen close_at ∷ [])
          (expr.New new_at (record { at = at; name = spelled }) of) (d + 1)

    -- what follows the head of a template: Expr, then a middle and so on, or a tail
    pub data IsSpans : List Sym → List TemplateSpan → ℕ → Type 0 where
      last_span : (spelled : List ℕ) (at : ℕ) {xs : List Sym} {of : Expr} {d : ℕ} → IsExpr true xs of d
          → IsSpans (xs ++ Lex (c.Template part.Tail) spelled at ∷ []) (roll-TemplateSpan (record { value = of; text = spelled }) ∷ []) d
      more_spans : (spelled : List ℕ) (at : ℕ) {xs ys : List Sym} {of : Expr} {rest : List TemplateSpan} {d e : ℕ} → IsExpr true xs of d → IsSpans ys rest e
          → IsSpans (xs ++ Lex (c.Template part.Middle) spelled at ∷ ys) (roll-TemplateSpan (record { value = of; text = spelled }) ∷ rest) (max d e)

    -- Expr,*
    pub data IsExprs : List Sym → List Expr → ℕ → Type 0 where
      no_exprs : IsExprs [] [] 0
      last_expr : {xs : List Sym} {of : Expr} {d : ℕ} → IsExpr true xs of d → IsExprs xs (of ∷ []) d
      more_exprs : (comma : ℕ) {xs ys : List Sym} {of : Expr} {rest : List Expr} {d e : ℕ} → IsExpr true xs of d → IsExprs ys rest e
          → IsExprs (xs ++ Mark m.Comma comma ∷ ys) (of ∷ rest) (max d e)

    -- Prop: `Key : Expr`, or Name
    pub data IsProp : List Sym → Prop → ℕ → Type 0 where
      valued_prop : (s : Sym) {key : Key} (colon : ℕ) {xs : List Sym} {of : Expr} {d : ℕ} → key_of s ≡ Some key → IsExpr true xs of d
          → IsProp (s ∷ Mark m.Colon colon ∷ xs) (prop.Valued (at_of s) key of) d
      short_prop : {kind : Word} (spelled : List ℕ) (at : ℕ) → is_name kind ≡ true → IsProp (word kind spelled at ∷ []) (prop.Short at spelled) 0

    -- Prop,*
    pub data IsProps : List Sym → List Prop → ℕ → Type 0 where
      no_props : IsProps [] [] 0
      last_prop : {xs : List Sym} {of : Prop} {d : ℕ} → IsProp xs of d → IsProps xs (of ∷ []) d
      more_props : (comma : ℕ) {xs ys : List Sym} {of : Prop} {rest : List Prop} {d e : ℕ} → IsProp xs of d → IsProps ys rest e
          → IsProps (xs ++ Mark m.Comma comma ∷ ys) (of ∷ rest) (max d e)

    -- Block: `{ }` with Var, Function and Statement
    pub data IsBlock : Around → List Sym → Block → ℕ → Type 0 where
      block : {around : Around} (open_at close_at : ℕ) {xs : List Sym} {of : List BlockItem} {d : ℕ} → IsBlockItems around xs of d
          → IsBlock around (Mark m.OpenBrace open_at ∷ xs ++ Mark m.CloseBrace close_at ∷ []) (roll-Block (record { at = open_at; items = of })) (d + 1)

    pub data IsBlockItem : Around → List Sym → BlockItem → ℕ → Type 0 where
      var_item : {around : Around} {xs : List Sym} {of : Var} {d : ℕ} → IsVar xs of d → IsBlockItem around xs (block_item.Var of) d
      function_item : {around : Around} {xs : List Sym} {of : Function} {d : ℕ} → IsFunction xs of d → IsBlockItem around xs (block_item.Function of) d
      stmt_item : {around : Around} {xs : List Sym} {of : Stmt} {d : ℕ} → IsStmt around false xs of d → IsBlockItem around xs (block_item.Stmt of) d

    -- any number of Var, Function and Statement
    pub data IsBlockItems : Around → List Sym → List BlockItem → ℕ → Type 0 where
      no_block_items : {around : Around} → IsBlockItems around [] [] 0
      more_block_items : {around : Around} {xs ys : List Sym} {of : BlockItem} {rest : List BlockItem} {d e : ℕ}
          → IsBlockItem around xs of d → IsBlockItems around ys rest e
          → IsBlockItems around (xs ++ ys) (of ∷ rest) (max d e)

    -- Var: `const` or `let`, Declarator,+, `;`
    pub data IsVar : List Sym → Var → ℕ → Type 0 where
      var : {word_kind : Word} {kind : VarKind} (spelled : List ℕ) (at semicolon : ℕ) {xs : List Sym} {of : List Declarator} {d : ℕ}
          → kind_of word_kind ≡ Some kind → IsDeclarators kind xs of d
          → IsVar (word word_kind spelled at ∷ xs ++ Mark m.Semicolon semicolon ∷ []) (roll-Var (record { kind = kind; declarators = of })) d

    -- Declarator: Name, optional `: Type`, optional `= Expr`; `const` has the last
    pub data IsDeclarator : VarKind → List Sym → Declarator → ℕ → Type 0 where
      declarator : {kind : VarKind} {name_kind : Word} (spelled : List ℕ) (at : ℕ) {xs ys : List Sym} {shape : Option TypeExpr} {given : Option Expr} {d e : ℕ}
          → is_name name_kind ≡ true → IsAnnotation xs shape d → IsValue ys given e → is_valued kind given ≡ true
          → IsDeclarator kind (word name_kind spelled at ∷ xs ++ ys)
          (roll-Declarator (record { at = at; name = spelled; annotation = shape; value = given })) (max d e)

    -- Declarator,+
    pub data IsDeclarators : VarKind → List Sym → List Declarator → ℕ → Type 0 where
      last_declarator : {kind : VarKind} {xs : List Sym} {of : Declarator} {d : ℕ} → IsDeclarator kind xs of d → IsDeclarators kind xs (of ∷ []) d
      more_declarators : {kind : VarKind} (comma : ℕ) {xs ys : List Sym} {of : Declarator} {rest : List Declarator} {d e : ℕ}
          → IsDeclarator kind xs of d → IsDeclarators kind ys rest e
          → IsDeclarators kind (xs ++ Mark m.Comma comma ∷ ys) (of ∷ rest) (max d e)

    -- Function: `function Name ( Param,* )`, optional `: Type`, Block
    pub data IsFunction : List Sym → Function → ℕ → Type 0 where
      function : {kind : Word} (function_spelled : List ℕ) (function_at : ℕ) (spelled : List ℕ) (at open_at close_at : ℕ) {xs ys zs : List Sym}
          {params : List Param} {shape : Option TypeExpr} {of : Block} {d e f : ℕ}
          → is_name kind ≡ true → IsParams false xs params d → IsAnnotation ys shape e → IsBlock a_body zs of f
          → IsFunction (word w.Function function_spelled function_at ∷ word kind spelled at ∷ Mark m.OpenParen open_at ∷ xs ++ Mark m.CloseParen close_at ∷ ys ++ zs)
          (roll-Function (record { at = at; name = spelled; variables = []; params = params; result = shape; body = of })) (max d (max e f))

    -- Statement, in a body, a loop and a switch or not. An `else` belongs to the nearest `if`: where `closed` is true, the statement
    -- stands before an `else` of an outer `if`, and does not end in an `if` without one of its own.
    pub data IsStmt : Around → Bool → List Sym → Stmt → ℕ → Type 0 where
      -- Block
      block_stmt : {around : Around} {closed : Bool} {xs : List Sym} {of : Block} {d : ℕ} → IsBlock around xs of d → IsStmt around closed xs (stmt.Block of) d
      -- `if ( Expr ) Statement`
      if_stmt : {around : Around} (spelled : List ℕ) (at open_at close_at : ℕ) {xs ys : List Sym} {condition : Expr} {then : Stmt} {d e : ℕ}
          → IsExpr true xs condition d → IsStmt around false ys then e
          → IsStmt around false (word w.If spelled at ∷ Mark m.OpenParen open_at ∷ xs ++ Mark m.CloseParen close_at ∷ ys) (stmt.If at condition then None) (max d e + 1)
      -- `if ( Expr ) Statement else Statement`
      if_else_stmt : {around : Around} {closed : Bool} (spelled : List ℕ) (at open_at close_at : ℕ) (else_spelled : List ℕ) (else_at : ℕ) {xs ys zs : List Sym}
          {condition : Expr} {then otherwise : Stmt} {d e f : ℕ}
          → IsExpr true xs condition d → IsStmt around true ys then e → IsStmt around closed zs otherwise f
          → IsStmt around closed (word w.If spelled at ∷ Mark m.OpenParen open_at ∷ xs ++ Mark m.CloseParen close_at ∷ ys ++ word w.Else else_spelled else_at ∷ zs)
          (stmt.If at condition then (Some otherwise)) (max d (max e f) + 1)
      -- `while ( Expr ) Statement`
      while_stmt : {around : Around} {closed : Bool} (spelled : List ℕ) (at open_at close_at : ℕ) {xs ys : List Sym} {condition : Expr} {of : Stmt} {d e : ℕ}
          → IsExpr true xs condition d → IsStmt (a_loop around) closed ys of e
          → IsStmt around closed (word w.While spelled at ∷ Mark m.OpenParen open_at ∷ xs ++ Mark m.CloseParen close_at ∷ ys) (stmt.While at condition of) (max d e + 1)
      -- `do Statement while ( Expr ) ;`
      do_stmt : {around : Around} {closed : Bool} (spelled : List ℕ) (at : ℕ) (while_spelled : List ℕ) (while_at open_at close_at semicolon : ℕ) {xs ys : List Sym}
          {of : Stmt} {condition : Expr} {d e : ℕ}
          → IsStmt (a_loop around) false xs of d → IsExpr true ys condition e
          → IsStmt around closed (word w.Do spelled at ∷ xs ++ word w.While while_spelled while_at ∷ Mark m.OpenParen open_at ∷ ys ++ Mark m.CloseParen close_at ∷ Mark m.Semicolon semicolon ∷ [])
          (stmt.Do at of condition) (max d e + 1)
      -- `for (`, Var or `Expr? ;`, `Expr? ; Expr? ) Statement`
      for_stmt : {around : Around} {closed : Bool} (spelled : List ℕ) (at open_at semicolon close_at : ℕ) {vs xs ys zs : List Sym}
          {first : ForStart} {condition step : Option Expr} {of : Stmt} {d e f g : ℕ}
          → IsForStart vs first d → IsOptional xs condition e → IsOptional ys step f → IsStmt (a_loop around) closed zs of g
          → IsStmt around closed (word w.For spelled at ∷ Mark m.OpenParen open_at ∷ vs ++ xs ++ Mark m.Semicolon semicolon ∷ ys ++ Mark m.CloseParen close_at ∷ zs)
          (stmt.For at first condition step of) (max d (max e (max f g)) + 1)
      -- `for ( const Name of Expr ) Statement`, also with `let`
      for_of_stmt : {around : Around} {closed : Bool} {word_kind : Word} {kind : VarKind} {name_kind : Word} (spelled : List ℕ) (at open_at : ℕ) (kind_spelled : List ℕ) (kind_at : ℕ)
          (name_spelled : List ℕ) (name_at : ℕ) (of_spelled : List ℕ) (of_at close_at : ℕ) {xs ys : List Sym} {subject : Expr} {of : Stmt} {d e : ℕ}
          → kind_of word_kind ≡ Some kind → is_name name_kind ≡ true → IsExpr true xs subject d → IsStmt (a_loop around) closed ys of e
          → IsStmt around closed (word w.For spelled at ∷ Mark m.OpenParen open_at ∷ word word_kind kind_spelled kind_at ∷ word name_kind name_spelled name_at ∷ word w.Of of_spelled of_at ∷ xs
          ++ Mark m.CloseParen close_at ∷ ys)
          (stmt.ForOf at kind (record { at = name_at; name = name_spelled }) subject of) (max d e + 1)
      -- `return Expr? ;` in a body
      return_stmt : {around : Around} {closed : Bool} (spelled : List ℕ) (at semicolon : ℕ) {xs : List Sym} {of : Option Expr} {d : ℕ}
          → around.in_body ≡ true → IsOptional xs of d
          → IsStmt around closed (word w.Return spelled at ∷ xs ++ Mark m.Semicolon semicolon ∷ []) (stmt.Return at of) d
      -- `break ;` in a loop or a switch
      break_stmt : {around : Around} {closed : Bool} (spelled : List ℕ) (at semicolon : ℕ) → (around.in_loop || around.in_switch) ≡ true
          → IsStmt around closed (word w.Break spelled at ∷ Mark m.Semicolon semicolon ∷ []) (stmt.Break at) 0
      -- `continue ;` in a loop
      continue_stmt : {around : Around} {closed : Bool} (spelled : List ℕ) (at semicolon : ℕ) → around.in_loop ≡ true
          → IsStmt around closed (word w.Continue spelled at ∷ Mark m.Semicolon semicolon ∷ []) (stmt.Continue at) 0
      -- `throw Expr ;`
      throw_stmt : {around : Around} {closed : Bool} (spelled : List ℕ) (at semicolon : ℕ) {xs : List Sym} {of : Expr} {d : ℕ} → IsExpr true xs of d
          → IsStmt around closed (word w.Throw spelled at ∷ xs ++ Mark m.Semicolon semicolon ∷ []) (stmt.Throw at of) d
      -- `switch ( Expr ) { Clause* }`
      switch_stmt : {around : Around} {closed defaulted : Bool} (spelled : List ℕ) (at open_at close_at open_brace close_brace : ℕ) {xs ys : List Sym} {subject : Expr} {of : List Clause} {d e : ℕ}
          → IsExpr true xs subject d → IsClauses (a_switch around) defaulted ys of e
          → IsStmt around closed (word w.Switch spelled at ∷ Mark m.OpenParen open_at ∷ xs ++ Mark m.CloseParen close_at ∷ Mark m.OpenBrace open_brace ∷ ys ++ Mark m.CloseBrace close_brace ∷ [])
          (stmt.Switch at subject of) (max d e + 1)
      -- `Expr ;` not beginning with `{`
      expr_stmt : {around : Around} {closed : Bool} (semicolon : ℕ) {xs : List Sym} {of : Expr} {d : ℕ} → begins_with_brace xs ≡ false → IsExpr true xs of d
          → IsStmt around closed (xs ++ Mark m.Semicolon semicolon ∷ []) (stmt.Expr (start_of xs) of) d
      -- `;`
      empty_stmt : {around : Around} {closed : Bool} (at : ℕ) → IsStmt around closed (Mark m.Semicolon at ∷ []) (stmt.Empty at) 0

    -- Expr?
    pub data IsOptional : List Sym → Option Expr → ℕ → Type 0 where
      no_expr : IsOptional [] None 0
      some_expr : {xs : List Sym} {of : Expr} {d : ℕ} → IsExpr true xs of d → IsOptional xs (Some of) d

    -- what a `for` begins with: Var, or `Expr? ;`
    pub data IsForStart : List Sym → ForStart → ℕ → Type 0 where
      var_start : {xs : List Sym} {of : Var} {d : ℕ} → IsVar xs of d → IsForStart xs (start.Var of) d
      expr_start : (semicolon : ℕ) {xs : List Sym} {of : Expr} {d : ℕ} → IsExpr true xs of d → IsForStart (xs ++ Mark m.Semicolon semicolon ∷ []) (start.Expr of) d
      no_start : (semicolon : ℕ) → IsForStart (Mark m.Semicolon semicolon ∷ []) start.Nothing 0

    -- Clause: `case Expr :` or `default :`, then Var, Function and Statement. The index says whether it is `default`.
    pub data IsClause : Around → Bool → List Sym → Clause → ℕ → Type 0 where
      case_clause : {around : Around} (spelled : List ℕ) (at colon : ℕ) {xs ys : List Sym} {of : Expr} {items : List BlockItem} {d e : ℕ}
          → IsExpr false xs of d → IsBlockItems around ys items e
          → IsClause around false (word w.Case spelled at ∷ xs ++ Mark m.Colon colon ∷ ys) (clause.Case at of items) (max d e)
      default_clause : {around : Around} (spelled : List ℕ) (at colon : ℕ) {xs : List Sym} {items : List BlockItem} {d : ℕ}
          → IsBlockItems around xs items d
          → IsClause around true (word w.Default spelled at ∷ Mark m.Colon colon ∷ xs) (clause.Default at items) d

    -- Clause*, with at most one `default`; the index says whether there is one
    pub data IsClauses : Around → Bool → List Sym → List Clause → ℕ → Type 0 where
      no_clauses : {around : Around} → IsClauses around false [] [] 0
      more_clauses : {around : Around} {here later : Bool} {xs ys : List Sym} {of : Clause} {rest : List Clause} {d e : ℕ}
          → IsClause around here xs of d → IsClauses around later ys rest e → (here && later) ≡ false
          → IsClauses around (here || later) (xs ++ ys) (of ∷ rest) (max d e)

-- the symbols are the expression
abbrev pub DerivesExpr : List Sym → Expr → Type 0
DerivesExpr xs of = (depth : ℕ) × IsExpr true true xs of depth × (depth ≤ max_depth)

-- the symbols are the statement, which stands in a body or not, and in no loop and no switch
abbrev pub DerivesStmt : Bool → List Sym → Stmt → Type 0
DerivesStmt in_body xs of = (depth : ℕ) × IsStmt true (record { in_body = in_body; in_loop = false; in_switch = false }) false xs of depth × (depth ≤ max_depth)

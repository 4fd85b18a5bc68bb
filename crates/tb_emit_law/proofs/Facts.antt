-- What rules ask of a tree besides its reading, of a tree that is equal but for offsets.
use Rattle.std.proofs.Common.{◌≡◌, ℕ, Bool, true, false, List, [], ◌∷◌, map, Option, Some, None, refl, sym, ap, ◌∙◌}
use Rattle.tb_layout.specs.Pieces.{Piece}
use Rattle.tb_emit_law.proofs.Symbols.{bare_sym, symbols_in}
use Rattle.tb_tree.specs.declared.exprs.VarKind.{VarKind}
use Rattle.tb_tree.specs.declared.exprs.VarKind.TheVariants as v
use Rattle.tb_tree.specs.declared.marks.Mark.TheVariants as m
use Rattle.tb_tree.specs.declared.exprs.UpdateOperator.{UpdateOperator}
use Rattle.tb_tree.specs.declared.exprs.UpdateOperator.TheVariants as update
use Rattle.tb_tree.specs.declared.exprs.BinaryOperator.{BinaryOperator}
use Rattle.tb_tree.specs.declared.exprs.BinaryOperator.TheVariants as binary
use Rattle.tb_tree.specs.declared.exprs.AssignOperator.{AssignOperator}
use Rattle.tb_tree.specs.declared.exprs.AssignOperator.TheVariants as assign
use Rattle.tb_tree.specs.declared.exprs.ArrowBody.TheOpen.{Expr-F}
use Rattle.tb_tree.specs.declared.exprs.ArrowBody.{ArrowBody}
use Rattle.tb_tree.specs.declared.exprs.BlockItem.{BlockItem}
use Rattle.tb_tree.specs.declared.exprs.Clause.{Clause}
use Rattle.tb_tree.specs.declared.exprs.Expr.{Expr, out-Expr}
use Rattle.tb_tree.specs.declared.exprs.Expr.TheVariants as expr
use Rattle.tb_tree.specs.declared.exprs.ForStart.{ForStart}
use Rattle.tb_tree.specs.declared.exprs.Prop.{Prop}
use Rattle.tb_tree.specs.declared.exprs.Stmt.{Stmt}
use Rattle.tb_tree.specs.declared.exprs.Block.{Block}
use Rattle.tb_tree.specs.declared.exprs.Declarator.{Declarator}
use Rattle.tb_tree.specs.declared.exprs.Function.{Function}
use Rattle.tb_tree.specs.declared.exprs.Param.{Param}
use Rattle.tb_tree.specs.declared.exprs.TemplateSpan.{TemplateSpan}
use Rattle.tb_tree.specs.declared.exprs.Var.{Var}
use Rattle.tb_tree.specs.Sym.{Sym, Mark, Lex}
use Rattle.tb_tree.specs.Bare.{bare_expr, bare_value}
use Rattle.tb_tree.specs.Exprs as g
use Rattle.tb_layout.specs.Js.{binary_mark, assign_mark, update_mark}
use Rattle.tb_layout.specs.Erase.{erased_expr, erased_optional}
use Rattle.tb_layout.proofs.Baring as bare
use Rattle.tb_layout.proofs.Erasing as erased

-- ---- operators

pub assign_told : (operator : AssignOperator) (at : ℕ) → g.assign_of (Mark (assign_mark operator) at) ≡ Some operator
assign_told assign.Assign at = refl
assign_told assign.Plus at = refl
assign_told assign.Minus at = refl
assign_told assign.Times at = refl
assign_told assign.Divided at = refl
assign_told assign.Remainder at = refl

pub update_told : (operator : UpdateOperator) (at : ℕ) → g.update_of (Mark (update_mark operator) at) ≡ Some operator
update_told update.Increment at = refl
update_told update.Decrement at = refl

-- `??` joins at no level
is_joining : Option BinaryOperator → Bool
is_joining (Some binary.Nullish) = false
is_joining _ = true

joins : (s : Sym) → is_joining (g.binary_of s) ≡ true
unfolding is_joining
joins (Mark m.Or at) = refl
joins _ = refl

told_as : (operator : BinaryOperator) → is_joining (Some operator) ≡ true → (at : ℕ) → g.binary_of (Mark (binary_mark operator) at) ≡ Some operator
unfolding is_joining
told_as binary.Or h at = refl
told_as binary.Nullish h at = absurd (cc h)
told_as binary.And h at = refl
told_as binary.Same h at = refl
told_as binary.NotSame h at = refl
told_as binary.Less h at = refl
told_as binary.Greater h at = refl
told_as binary.LessEqual h at = refl
told_as binary.GreaterEqual h at = refl
told_as binary.Plus h at = refl
told_as binary.Minus h at = refl
told_as binary.Times h at = refl
told_as binary.Divided h at = refl
told_as binary.Remainder h at = refl

pub binary_told : (s : Sym) (operator : BinaryOperator) → g.binary_of s ≡ Some operator → (at : ℕ) → g.binary_of (Mark (binary_mark operator) at) ≡ Some operator
binary_told s operator e = told_as operator (sym (ap is_joining e) ∙ joins s)

-- ---- targets and numbers

is_target_bare : (layer : Expr-F ArrowBody BlockItem Clause Expr ForStart Prop Stmt Block Declarator Function Param TemplateSpan Var) → g.is_target (bare.open_expr layer) ≡ g.is_target_at layer
is_target_bare (Expr-F.Name at name) = ap g.is_target_at (expr.outs-Name _ _)
is_target_bare (Expr-F.This at) = ap g.is_target_at (expr.outs-This _)
is_target_bare (Expr-F.Null at) = ap g.is_target_at (expr.outs-Null _)
is_target_bare (Expr-F.Undefined at) = ap g.is_target_at (expr.outs-Undefined _)
is_target_bare (Expr-F.Boolean at value) = ap g.is_target_at (expr.outs-Boolean _ _)
is_target_bare (Expr-F.Number at spelled) = ap g.is_target_at (expr.outs-Number _ _)
is_target_bare (Expr-F.String at spelled) = ap g.is_target_at (expr.outs-String _ _)
is_target_bare (Expr-F.Template at head spans) = ap g.is_target_at (expr.outs-Template _ _ _)
is_target_bare (Expr-F.Parens at inner) = ap g.is_target_at (expr.outs-Parens _ _)
is_target_bare (Expr-F.Array at elements) = ap g.is_target_at (expr.outs-Array _ _)
is_target_bare (Expr-F.Object at props) = ap g.is_target_at (expr.outs-Object _ _)
is_target_bare (Expr-F.New at class arguments) = ap g.is_target_at (expr.outs-New _ _ _)
is_target_bare (Expr-F.Member at base member) = ap g.is_target_at (expr.outs-Member _ _ _)
is_target_bare (Expr-F.Index at base index) = ap g.is_target_at (expr.outs-Index _ _ _)
is_target_bare (Expr-F.Call at callee type_arguments arguments) = ap g.is_target_at (expr.outs-Call _ _ _ _)
is_target_bare (Expr-F.Unary at operator operand) = ap g.is_target_at (expr.outs-Unary _ _ _)
is_target_bare (Expr-F.Update at operator before target) = ap g.is_target_at (expr.outs-Update _ _ _ _)
is_target_bare (Expr-F.Binary at left operator right) = ap g.is_target_at (expr.outs-Binary _ _ _ _)
is_target_bare (Expr-F.As at value shape) = ap g.is_target_at (expr.outs-As _ _ _)
is_target_bare (Expr-F.Conditional at condition chosen otherwise) = ap g.is_target_at (expr.outs-Conditional _ _ _ _)
is_target_bare (Expr-F.Assign at target operator value) = ap g.is_target_at (expr.outs-Assign _ _ _ _)
is_target_bare (Expr-F.Arrow at params result of) = ap g.is_target_at (expr.outs-Arrow _ _ _ _)

pub target_back : (of left : Expr) → bare_expr of ≡ bare_expr left → g.is_target left ≡ true → g.is_target of ≡ true
target_back of left e h = sym (is_target_bare (out-Expr of)) ∙ (ap g.is_target (sym (bare.expr_out of) ∙ e ∙ bare.expr_out left) ∙ (is_target_bare (out-Expr left) ∙ h))

is_number_bare : (layer : Expr-F ArrowBody BlockItem Clause Expr ForStart Prop Stmt Block Declarator Function Param TemplateSpan Var) → g.is_number (bare.open_expr layer) ≡ g.is_number_at layer
is_number_bare (Expr-F.Name at name) = ap g.is_number_at (expr.outs-Name _ _)
is_number_bare (Expr-F.This at) = ap g.is_number_at (expr.outs-This _)
is_number_bare (Expr-F.Null at) = ap g.is_number_at (expr.outs-Null _)
is_number_bare (Expr-F.Undefined at) = ap g.is_number_at (expr.outs-Undefined _)
is_number_bare (Expr-F.Boolean at value) = ap g.is_number_at (expr.outs-Boolean _ _)
is_number_bare (Expr-F.Number at spelled) = ap g.is_number_at (expr.outs-Number _ _)
is_number_bare (Expr-F.String at spelled) = ap g.is_number_at (expr.outs-String _ _)
is_number_bare (Expr-F.Template at head spans) = ap g.is_number_at (expr.outs-Template _ _ _)
is_number_bare (Expr-F.Parens at inner) = ap g.is_number_at (expr.outs-Parens _ _)
is_number_bare (Expr-F.Array at elements) = ap g.is_number_at (expr.outs-Array _ _)
is_number_bare (Expr-F.Object at props) = ap g.is_number_at (expr.outs-Object _ _)
is_number_bare (Expr-F.New at class arguments) = ap g.is_number_at (expr.outs-New _ _ _)
is_number_bare (Expr-F.Member at base member) = ap g.is_number_at (expr.outs-Member _ _ _)
is_number_bare (Expr-F.Index at base index) = ap g.is_number_at (expr.outs-Index _ _ _)
is_number_bare (Expr-F.Call at callee type_arguments arguments) = ap g.is_number_at (expr.outs-Call _ _ _ _)
is_number_bare (Expr-F.Unary at operator operand) = ap g.is_number_at (expr.outs-Unary _ _ _)
is_number_bare (Expr-F.Update at operator before target) = ap g.is_number_at (expr.outs-Update _ _ _ _)
is_number_bare (Expr-F.Binary at left operator right) = ap g.is_number_at (expr.outs-Binary _ _ _ _)
is_number_bare (Expr-F.As at value shape) = ap g.is_number_at (expr.outs-As _ _ _)
is_number_bare (Expr-F.Conditional at condition chosen otherwise) = ap g.is_number_at (expr.outs-Conditional _ _ _ _)
is_number_bare (Expr-F.Assign at target operator value) = ap g.is_number_at (expr.outs-Assign _ _ _ _)
is_number_bare (Expr-F.Arrow at params result of) = ap g.is_number_at (expr.outs-Arrow _ _ _ _)

pub number_back : (of left : Expr) → bare_expr of ≡ bare_expr left → g.is_number left ≡ false → g.is_number of ≡ false
number_back of left e h = sym (is_number_bare (out-Expr of)) ∙ (ap g.is_number (sym (bare.expr_out of) ∙ e ∙ bare.expr_out left) ∙ (is_number_bare (out-Expr left) ∙ h))

-- erasing keeps both, where no type stands behind the expression
abbrev pub is_as_at : Expr-F ArrowBody BlockItem Clause Expr ForStart Prop Stmt Block Declarator Function Param TemplateSpan Var → Bool
is_as_at (Expr-F.As at value shape) = true
is_as_at _ = false

is_target_erased : (layer : Expr-F ArrowBody BlockItem Clause Expr ForStart Prop Stmt Block Declarator Function Param TemplateSpan Var) → is_as_at layer ≡ false → g.is_target (erased.open_expr layer) ≡ g.is_target_at layer
is_target_erased (Expr-F.Name at name) e = ap g.is_target_at (expr.outs-Name _ _)
is_target_erased (Expr-F.This at) e = ap g.is_target_at (expr.outs-This _)
is_target_erased (Expr-F.Null at) e = ap g.is_target_at (expr.outs-Null _)
is_target_erased (Expr-F.Undefined at) e = ap g.is_target_at (expr.outs-Undefined _)
is_target_erased (Expr-F.Boolean at value) e = ap g.is_target_at (expr.outs-Boolean _ _)
is_target_erased (Expr-F.Number at spelled) e = ap g.is_target_at (expr.outs-Number _ _)
is_target_erased (Expr-F.String at spelled) e = ap g.is_target_at (expr.outs-String _ _)
is_target_erased (Expr-F.Template at head spans) e = ap g.is_target_at (expr.outs-Template _ _ _)
is_target_erased (Expr-F.Parens at inner) e = ap g.is_target_at (expr.outs-Parens _ _)
is_target_erased (Expr-F.Array at elements) e = ap g.is_target_at (expr.outs-Array _ _)
is_target_erased (Expr-F.Object at props) e = ap g.is_target_at (expr.outs-Object _ _)
is_target_erased (Expr-F.New at class arguments) e = ap g.is_target_at (expr.outs-New _ _ _)
is_target_erased (Expr-F.Member at base member) e = ap g.is_target_at (expr.outs-Member _ _ _)
is_target_erased (Expr-F.Index at base index) e = ap g.is_target_at (expr.outs-Index _ _ _)
is_target_erased (Expr-F.Call at callee type_arguments arguments) e = ap g.is_target_at (expr.outs-Call _ _ _ _)
is_target_erased (Expr-F.Unary at operator operand) e = ap g.is_target_at (expr.outs-Unary _ _ _)
is_target_erased (Expr-F.Update at operator before target) e = ap g.is_target_at (expr.outs-Update _ _ _ _)
is_target_erased (Expr-F.Binary at left operator right) e = ap g.is_target_at (expr.outs-Binary _ _ _ _)
is_target_erased (Expr-F.As at value shape) e = absurd (cc e)
is_target_erased (Expr-F.Conditional at condition chosen otherwise) e = ap g.is_target_at (expr.outs-Conditional _ _ _ _)
is_target_erased (Expr-F.Assign at target operator value) e = ap g.is_target_at (expr.outs-Assign _ _ _ _)
is_target_erased (Expr-F.Arrow at params result of) e = ap g.is_target_at (expr.outs-Arrow _ _ _ _)

is_number_erased : (layer : Expr-F ArrowBody BlockItem Clause Expr ForStart Prop Stmt Block Declarator Function Param TemplateSpan Var) → is_as_at layer ≡ false → g.is_number (erased.open_expr layer) ≡ g.is_number_at layer
is_number_erased (Expr-F.Name at name) e = ap g.is_number_at (expr.outs-Name _ _)
is_number_erased (Expr-F.This at) e = ap g.is_number_at (expr.outs-This _)
is_number_erased (Expr-F.Null at) e = ap g.is_number_at (expr.outs-Null _)
is_number_erased (Expr-F.Undefined at) e = ap g.is_number_at (expr.outs-Undefined _)
is_number_erased (Expr-F.Boolean at value) e = ap g.is_number_at (expr.outs-Boolean _ _)
is_number_erased (Expr-F.Number at spelled) e = ap g.is_number_at (expr.outs-Number _ _)
is_number_erased (Expr-F.String at spelled) e = ap g.is_number_at (expr.outs-String _ _)
is_number_erased (Expr-F.Template at head spans) e = ap g.is_number_at (expr.outs-Template _ _ _)
is_number_erased (Expr-F.Parens at inner) e = ap g.is_number_at (expr.outs-Parens _ _)
is_number_erased (Expr-F.Array at elements) e = ap g.is_number_at (expr.outs-Array _ _)
is_number_erased (Expr-F.Object at props) e = ap g.is_number_at (expr.outs-Object _ _)
is_number_erased (Expr-F.New at class arguments) e = ap g.is_number_at (expr.outs-New _ _ _)
is_number_erased (Expr-F.Member at base member) e = ap g.is_number_at (expr.outs-Member _ _ _)
is_number_erased (Expr-F.Index at base index) e = ap g.is_number_at (expr.outs-Index _ _ _)
is_number_erased (Expr-F.Call at callee type_arguments arguments) e = ap g.is_number_at (expr.outs-Call _ _ _ _)
is_number_erased (Expr-F.Unary at operator operand) e = ap g.is_number_at (expr.outs-Unary _ _ _)
is_number_erased (Expr-F.Update at operator before target) e = ap g.is_number_at (expr.outs-Update _ _ _ _)
is_number_erased (Expr-F.Binary at left operator right) e = ap g.is_number_at (expr.outs-Binary _ _ _ _)
is_number_erased (Expr-F.As at value shape) e = absurd (cc e)
is_number_erased (Expr-F.Conditional at condition chosen otherwise) e = ap g.is_number_at (expr.outs-Conditional _ _ _ _)
is_number_erased (Expr-F.Assign at target operator value) e = ap g.is_number_at (expr.outs-Assign _ _ _ _)
is_number_erased (Expr-F.Arrow at params result of) e = ap g.is_number_at (expr.outs-Arrow _ _ _ _)

pub target_erased : (of : Expr) → is_as_at (out-Expr of) ≡ false → g.is_target (erased_expr of) ≡ g.is_target of
target_erased of e = ap g.is_target (erased.expr_out of) ∙ is_target_erased (out-Expr of) e

pub number_erased : (of : Expr) → is_as_at (out-Expr of) ≡ false → g.is_number (erased_expr of) ≡ g.is_number of
number_erased of e = ap g.is_number (erased.expr_out of) ∙ is_number_erased (out-Expr of) e

-- ---- values

pub has_value_back : (of left : Option Expr) → bare_value of ≡ bare_value left → g.has_value of ≡ g.has_value left
has_value_back None None e = refl
has_value_back (Some of) (Some left) e = refl
has_value_back None (Some left) e = absurd (cc e)
has_value_back (Some of) None e = absurd (cc e)

pub valued_back : (kind : VarKind) (of left : Option Expr) → bare_value of ≡ bare_value left → g.is_valued kind left ≡ true → g.is_valued kind of ≡ true
valued_back v.Const None None e h = h
valued_back v.Const None (Some left) e h = absurd (cc e)
valued_back v.Const (Some of) left e h = refl
valued_back v.Let of left e h = refl

-- ---- braces

begins_bare : (xs : List Sym) → g.begins_with_brace (map bare_sym xs) ≡ g.begins_with_brace xs
begins_bare [] = refl
begins_bare (Mark m.OpenBrace at ∷ xs) = refl
begins_bare (Lex class spelled at ∷ xs) = refl
begins_bare _ = refl

pub brace_back : (p : List Piece) (xs : List Sym) → map bare_sym xs ≡ symbols_in p → g.begins_with_brace (symbols_in p) ≡ false → g.begins_with_brace xs ≡ false
brace_back p xs e h = sym (begins_bare xs) ∙ (ap g.begins_with_brace e ∙ h)

pub has_value_erased : (of : Option Expr) → g.has_value (erased_optional of) ≡ g.has_value of
has_value_erased None = refl
has_value_erased (Some of) = refl

pub valued_erased : (kind : VarKind) (of : Option Expr) → g.is_valued kind of ≡ true → g.is_valued kind (erased_optional of) ≡ true
valued_erased v.Const None h = h
valued_erased v.Const (Some of) h = refl
valued_erased v.Let None h = refl
valued_erased v.Let (Some of) h = refl

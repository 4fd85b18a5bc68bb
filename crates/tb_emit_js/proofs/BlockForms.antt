-- Which statements are blocks.
use Rattle.std.proofs.Common.{◌≡◌, ℕ, Bool, true, false, List, Option, Some, None, refl, ap, sym}
use Rattle.tb_tree.specs.declared.types.Key.{Key}
use Rattle.tb_tree.specs.declared.types.TypeExpr.{TypeExpr}
use Rattle.tb_tree.specs.declared.exprs.Identifier.{Identifier}
use Rattle.tb_tree.specs.declared.exprs.UnaryOperator.{UnaryOperator}
use Rattle.tb_tree.specs.declared.exprs.UpdateOperator.{UpdateOperator}
use Rattle.tb_tree.specs.declared.exprs.BinaryOperator.{BinaryOperator}
use Rattle.tb_tree.specs.declared.exprs.AssignOperator.{AssignOperator}
use Rattle.tb_tree.specs.declared.exprs.VarKind.{VarKind}
use Rattle.tb_tree.specs.declared.exprs.ArrowBody.{ArrowBody}
use Rattle.tb_tree.specs.declared.exprs.BlockItem.{BlockItem}
use Rattle.tb_tree.specs.declared.exprs.Clause.{Clause}
use Rattle.tb_tree.specs.declared.exprs.Expr.{Expr}
use Rattle.tb_tree.specs.declared.exprs.ForStart.{ForStart}
use Rattle.tb_tree.specs.declared.exprs.Prop.{Prop}
use Rattle.tb_tree.specs.declared.exprs.Stmt.{Stmt}
use Rattle.tb_tree.specs.declared.exprs.Block.{Block, out-Block, roll-Block}
use Rattle.tb_tree.specs.declared.exprs.Declarator.{Declarator, out-Declarator, roll-Declarator}
use Rattle.tb_tree.specs.declared.exprs.Function.{Function, out-Function, roll-Function}
use Rattle.tb_tree.specs.declared.exprs.Param.{Param, out-Param, roll-Param}
use Rattle.tb_tree.specs.declared.exprs.TemplateSpan.{TemplateSpan, out-TemplateSpan, roll-TemplateSpan}
use Rattle.tb_tree.specs.declared.exprs.Var.{Var, out-Var, roll-Var}
use Rattle.tb_tree.specs.declared.exprs.ArrowBody.TheVariants as arrow_body
use Rattle.tb_tree.specs.declared.exprs.BlockItem.TheVariants as block_item
use Rattle.tb_tree.specs.declared.exprs.Clause.TheVariants as clause
use Rattle.tb_tree.specs.declared.exprs.Expr.TheVariants as expr
use Rattle.tb_tree.specs.declared.exprs.ForStart.TheVariants as start
use Rattle.tb_tree.specs.declared.exprs.Prop.TheVariants as prop
use Rattle.tb_tree.specs.declared.exprs.Stmt.TheVariants as stmt
use Rattle.tb_tree.specs.declared.exprs.ArrowBody.TheOpen.{Block-F, Declarator-F, Function-F, Param-F, TemplateSpan-F, Var-F}
use Rattle.tb_tree.specs.declared.items.ClassMember.{ClassMember}
use Rattle.tb_tree.specs.declared.items.ClassMember.TheVariants as class_member
use Rattle.tb_tree.specs.declared.items.ClassDeclaration.{ClassDeclaration}
use Rattle.tb_layout.proofs.Written as w
use Rattle.tb_layout.proofs.Written.{js_stmt}
use Rattle.tb_emit_js.specs.Lines.{is_block}

pub block_stmt_is : (of : Block) → true ≡ is_block (js_stmt (stmt.Block of))
block_stmt_is of = sym (ap is_block (w.block_stmt of))

pub if_stmt_is : (at : ℕ) (condition : Expr) (chosen : Stmt) (otherwise : Option Stmt) → false ≡ is_block (js_stmt (stmt.If at condition chosen otherwise))
if_stmt_is at condition chosen otherwise = sym (ap is_block (w.if_stmt at condition chosen otherwise))

pub while_stmt_is : (at : ℕ) (condition : Expr) (of : Stmt) → false ≡ is_block (js_stmt (stmt.While at condition of))
while_stmt_is at condition of = sym (ap is_block (w.while_stmt at condition of))

pub do_stmt_is : (at : ℕ) (of : Stmt) (condition : Expr) → false ≡ is_block (js_stmt (stmt.Do at of condition))
do_stmt_is at of condition = sym (ap is_block (w.do_stmt at of condition))

pub for_stmt_is : (at : ℕ) (first : ForStart) (condition : Option Expr) (step : Option Expr) (of : Stmt) → false ≡ is_block (js_stmt (stmt.For at first condition step of))
for_stmt_is at first condition step of = sym (ap is_block (w.for_stmt at first condition step of))

pub for_of_stmt_is : (at : ℕ) (kind : VarKind) (element : Identifier) (subject : Expr) (of : Stmt) → false ≡ is_block (js_stmt (stmt.ForOf at kind element subject of))
for_of_stmt_is at kind element subject of = sym (ap is_block (w.for_of_stmt at kind element subject of))

pub return_stmt_none_is : (at : ℕ) → false ≡ is_block (js_stmt (stmt.Return at None))
return_stmt_none_is at = sym (ap is_block (w.return_stmt_none at))

pub return_stmt_some_is : (at : ℕ) (value_part : Expr) → false ≡ is_block (js_stmt (stmt.Return at (Some value_part)))
return_stmt_some_is at value_part = sym (ap is_block (w.return_stmt_some at value_part))

pub break_stmt_is : (at : ℕ) → false ≡ is_block (js_stmt (stmt.Break at))
break_stmt_is at = sym (ap is_block (w.break_stmt at))

pub continue_stmt_is : (at : ℕ) → false ≡ is_block (js_stmt (stmt.Continue at))
continue_stmt_is at = sym (ap is_block (w.continue_stmt at))

pub throw_stmt_is : (at : ℕ) (value : Expr) → false ≡ is_block (js_stmt (stmt.Throw at value))
throw_stmt_is at value = sym (ap is_block (w.throw_stmt at value))

pub switch_stmt_is : (at : ℕ) (subject : Expr) (clauses : List Clause) → false ≡ is_block (js_stmt (stmt.Switch at subject clauses))
switch_stmt_is at subject clauses = sym (ap is_block (w.switch_stmt at subject clauses))

pub expr_stmt_is : (at : ℕ) (value : Expr) → false ≡ is_block (js_stmt (stmt.Expr at value))
expr_stmt_is at value = sym (ap is_block (w.expr_stmt at value))

pub empty_stmt_is : (at : ℕ) → false ≡ is_block (js_stmt (stmt.Empty at))
empty_stmt_is at = sym (ap is_block (w.empty_stmt at))

pub return_stmt_is : (at : ℕ) (value : Option Expr) → false ≡ is_block (js_stmt (stmt.Return at value))
return_stmt_is at None = return_stmt_none_is at
return_stmt_is at (Some value) = return_stmt_some_is at value

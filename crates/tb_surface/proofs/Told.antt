-- Which literal each form of an expression is, and each behind a `-`.
use Rattle.std.proofs.Common.{◌≡◌, ℕ, Bool, true, false, List, Option, Some, None, ap}
use Rattle.tb_tree.specs.declared.types.TypeExpr.{TypeExpr}
use Rattle.tb_tree.specs.declared.exprs.Identifier.{Identifier}
use Rattle.tb_tree.specs.declared.exprs.UnaryOperator.{UnaryOperator}
use Rattle.tb_tree.specs.declared.exprs.UnaryOperator.TheVariants as unary
use Rattle.tb_tree.specs.declared.exprs.UpdateOperator.{UpdateOperator}
use Rattle.tb_tree.specs.declared.exprs.BinaryOperator.{BinaryOperator}
use Rattle.tb_tree.specs.declared.exprs.AssignOperator.{AssignOperator}
use Rattle.tb_tree.specs.declared.exprs.ArrowBody.{ArrowBody}
use Rattle.tb_tree.specs.declared.exprs.Expr.{Expr}
use Rattle.tb_tree.specs.declared.exprs.Expr.TheVariants as expr
use Rattle.tb_tree.specs.declared.exprs.Prop.{Prop}
use Rattle.tb_tree.specs.declared.exprs.Param.{Param}
use Rattle.tb_tree.specs.declared.exprs.TemplateSpan.{TemplateSpan}
use Rattle.tb_layout.specs.Surface.{Text, Number, Truth, literal_at, literal_of, negative_at}
use Rattle.tb_surface.specs.Literals.{negative_of, signed_at}

signed_told : (at : ℕ) (operator : UnaryOperator) (operand : Expr) → literal_of (expr.Unary at operator operand) ≡ signed_at at operator operand
signed_told at unary.Not operand = ap literal_at (expr.outs-Unary at unary.Not operand)
signed_told at unary.Minus operand = ap literal_at (expr.outs-Unary at unary.Minus operand)
signed_told at unary.Plus operand = ap literal_at (expr.outs-Unary at unary.Plus operand)
signed_told at unary.Typeof operand = ap literal_at (expr.outs-Unary at unary.Typeof operand)

pub name_told : (at : ℕ) (name : List ℕ) → literal_of (expr.Name at name) ≡ None
name_told at name = ap literal_at (expr.outs-Name at name)

pub this_told : (at : ℕ) → literal_of (expr.This at) ≡ None
this_told at = ap literal_at (expr.outs-This at)

pub null_told : (at : ℕ) → literal_of (expr.Null at) ≡ None
null_told at = ap literal_at (expr.outs-Null at)

pub undefined_told : (at : ℕ) → literal_of (expr.Undefined at) ≡ None
undefined_told at = ap literal_at (expr.outs-Undefined at)

pub boolean_told : (at : ℕ) (value : Bool) → literal_of (expr.Boolean at value) ≡ Some (Truth at value)
boolean_told at value = ap literal_at (expr.outs-Boolean at value)

pub number_told : (at : ℕ) (spelled : List ℕ) → literal_of (expr.Number at spelled) ≡ Some (Number at false spelled)
number_told at spelled = ap literal_at (expr.outs-Number at spelled)

pub string_told : (at : ℕ) (spelled : List ℕ) → literal_of (expr.String at spelled) ≡ Some (Text at spelled)
string_told at spelled = ap literal_at (expr.outs-String at spelled)

pub template_told : (at : ℕ) (head : List ℕ) (spans : List TemplateSpan) → literal_of (expr.Template at head spans) ≡ None
template_told at head spans = ap literal_at (expr.outs-Template at head spans)

pub parens_told : (at : ℕ) (inner : Expr) → literal_of (expr.Parens at inner) ≡ None
parens_told at inner = ap literal_at (expr.outs-Parens at inner)

pub array_told : (at : ℕ) (elements : List Expr) → literal_of (expr.Array at elements) ≡ None
array_told at elements = ap literal_at (expr.outs-Array at elements)

pub object_told : (at : ℕ) (props : List Prop) → literal_of (expr.Object at props) ≡ None
object_told at props = ap literal_at (expr.outs-Object at props)

pub new_told : (at : ℕ) (class : Identifier) (arguments : List Expr) → literal_of (expr.New at class arguments) ≡ None
new_told at class arguments = ap literal_at (expr.outs-New at class arguments)

pub member_told : (at : ℕ) (base : Expr) (member : List ℕ) → literal_of (expr.Member at base member) ≡ None
member_told at base member = ap literal_at (expr.outs-Member at base member)

pub index_told : (at : ℕ) (base : Expr) (index : Expr) → literal_of (expr.Index at base index) ≡ None
index_told at base index = ap literal_at (expr.outs-Index at base index)

pub call_told : (at : ℕ) (callee : Expr) (type_arguments : List TypeExpr) (arguments : List Expr) → literal_of (expr.Call at callee type_arguments arguments) ≡ None
call_told at callee type_arguments arguments = ap literal_at (expr.outs-Call at callee type_arguments arguments)

pub unary_told : (at : ℕ) (operator : UnaryOperator) (operand : Expr) → literal_of (expr.Unary at operator operand) ≡ signed_at at operator operand
unary_told at operator operand = signed_told at operator operand

pub update_told : (at : ℕ) (operator : UpdateOperator) (before : Bool) (target : Expr) → literal_of (expr.Update at operator before target) ≡ None
update_told at operator before target = ap literal_at (expr.outs-Update at operator before target)

pub binary_told : (at : ℕ) (left : Expr) (operator : BinaryOperator) (right : Expr) → literal_of (expr.Binary at left operator right) ≡ None
binary_told at left operator right = ap literal_at (expr.outs-Binary at left operator right)

pub as_told : (at : ℕ) (value : Expr) (shape : TypeExpr) → literal_of (expr.As at value shape) ≡ None
as_told at value shape = ap literal_at (expr.outs-As at value shape)

pub conditional_told : (at : ℕ) (condition : Expr) (chosen : Expr) (otherwise : Expr) → literal_of (expr.Conditional at condition chosen otherwise) ≡ None
conditional_told at condition chosen otherwise = ap literal_at (expr.outs-Conditional at condition chosen otherwise)

pub assign_told : (at : ℕ) (target : Expr) (operator : AssignOperator) (value : Expr) → literal_of (expr.Assign at target operator value) ≡ None
assign_told at target operator value = ap literal_at (expr.outs-Assign at target operator value)

pub arrow_told : (at : ℕ) (params : List Param) (result : Option TypeExpr) (of : ArrowBody) → literal_of (expr.Arrow at params result of) ≡ None
arrow_told at params result of = ap literal_at (expr.outs-Arrow at params result of)

pub name_signed : (minus_at : ℕ) (at : ℕ) (name : List ℕ) → negative_of minus_at (expr.Name at name) ≡ None
name_signed minus_at at name = ap (negative_at minus_at) (expr.outs-Name at name)

pub this_signed : (minus_at : ℕ) (at : ℕ) → negative_of minus_at (expr.This at) ≡ None
this_signed minus_at at = ap (negative_at minus_at) (expr.outs-This at)

pub null_signed : (minus_at : ℕ) (at : ℕ) → negative_of minus_at (expr.Null at) ≡ None
null_signed minus_at at = ap (negative_at minus_at) (expr.outs-Null at)

pub undefined_signed : (minus_at : ℕ) (at : ℕ) → negative_of minus_at (expr.Undefined at) ≡ None
undefined_signed minus_at at = ap (negative_at minus_at) (expr.outs-Undefined at)

pub boolean_signed : (minus_at : ℕ) (at : ℕ) (value : Bool) → negative_of minus_at (expr.Boolean at value) ≡ None
boolean_signed minus_at at value = ap (negative_at minus_at) (expr.outs-Boolean at value)

pub number_signed : (minus_at : ℕ) (at : ℕ) (spelled : List ℕ) → negative_of minus_at (expr.Number at spelled) ≡ Some (Number minus_at true spelled)
number_signed minus_at at spelled = ap (negative_at minus_at) (expr.outs-Number at spelled)

pub string_signed : (minus_at : ℕ) (at : ℕ) (spelled : List ℕ) → negative_of minus_at (expr.String at spelled) ≡ None
string_signed minus_at at spelled = ap (negative_at minus_at) (expr.outs-String at spelled)

pub template_signed : (minus_at : ℕ) (at : ℕ) (head : List ℕ) (spans : List TemplateSpan) → negative_of minus_at (expr.Template at head spans) ≡ None
template_signed minus_at at head spans = ap (negative_at minus_at) (expr.outs-Template at head spans)

pub parens_signed : (minus_at : ℕ) (at : ℕ) (inner : Expr) → negative_of minus_at (expr.Parens at inner) ≡ None
parens_signed minus_at at inner = ap (negative_at minus_at) (expr.outs-Parens at inner)

pub array_signed : (minus_at : ℕ) (at : ℕ) (elements : List Expr) → negative_of minus_at (expr.Array at elements) ≡ None
array_signed minus_at at elements = ap (negative_at minus_at) (expr.outs-Array at elements)

pub object_signed : (minus_at : ℕ) (at : ℕ) (props : List Prop) → negative_of minus_at (expr.Object at props) ≡ None
object_signed minus_at at props = ap (negative_at minus_at) (expr.outs-Object at props)

pub new_signed : (minus_at : ℕ) (at : ℕ) (class : Identifier) (arguments : List Expr) → negative_of minus_at (expr.New at class arguments) ≡ None
new_signed minus_at at class arguments = ap (negative_at minus_at) (expr.outs-New at class arguments)

pub member_signed : (minus_at : ℕ) (at : ℕ) (base : Expr) (member : List ℕ) → negative_of minus_at (expr.Member at base member) ≡ None
member_signed minus_at at base member = ap (negative_at minus_at) (expr.outs-Member at base member)

pub index_signed : (minus_at : ℕ) (at : ℕ) (base : Expr) (index : Expr) → negative_of minus_at (expr.Index at base index) ≡ None
index_signed minus_at at base index = ap (negative_at minus_at) (expr.outs-Index at base index)

pub call_signed : (minus_at : ℕ) (at : ℕ) (callee : Expr) (type_arguments : List TypeExpr) (arguments : List Expr) → negative_of minus_at (expr.Call at callee type_arguments arguments) ≡ None
call_signed minus_at at callee type_arguments arguments = ap (negative_at minus_at) (expr.outs-Call at callee type_arguments arguments)

pub unary_signed : (minus_at : ℕ) (at : ℕ) (operator : UnaryOperator) (operand : Expr) → negative_of minus_at (expr.Unary at operator operand) ≡ None
unary_signed minus_at at operator operand = ap (negative_at minus_at) (expr.outs-Unary at operator operand)

pub update_signed : (minus_at : ℕ) (at : ℕ) (operator : UpdateOperator) (before : Bool) (target : Expr) → negative_of minus_at (expr.Update at operator before target) ≡ None
update_signed minus_at at operator before target = ap (negative_at minus_at) (expr.outs-Update at operator before target)

pub binary_signed : (minus_at : ℕ) (at : ℕ) (left : Expr) (operator : BinaryOperator) (right : Expr) → negative_of minus_at (expr.Binary at left operator right) ≡ None
binary_signed minus_at at left operator right = ap (negative_at minus_at) (expr.outs-Binary at left operator right)

pub as_signed : (minus_at : ℕ) (at : ℕ) (value : Expr) (shape : TypeExpr) → negative_of minus_at (expr.As at value shape) ≡ None
as_signed minus_at at value shape = ap (negative_at minus_at) (expr.outs-As at value shape)

pub conditional_signed : (minus_at : ℕ) (at : ℕ) (condition : Expr) (chosen : Expr) (otherwise : Expr) → negative_of minus_at (expr.Conditional at condition chosen otherwise) ≡ None
conditional_signed minus_at at condition chosen otherwise = ap (negative_at minus_at) (expr.outs-Conditional at condition chosen otherwise)

pub assign_signed : (minus_at : ℕ) (at : ℕ) (target : Expr) (operator : AssignOperator) (value : Expr) → negative_of minus_at (expr.Assign at target operator value) ≡ None
assign_signed minus_at at target operator value = ap (negative_at minus_at) (expr.outs-Assign at target operator value)

pub arrow_signed : (minus_at : ℕ) (at : ℕ) (params : List Param) (result : Option TypeExpr) (of : ArrowBody) → negative_of minus_at (expr.Arrow at params result of) ≡ None
arrow_signed minus_at at params result of = ap (negative_at minus_at) (expr.outs-Arrow at params result of)

-- What each form of an expression begins with.
use Rattle.std.proofs.Common.{◌≡◌, ℕ, Bool, true, false, List, [], ◌∷◌, ◌++◌, map, Option, Some, None, refl, ◌∙◌, ap, sym, subst}
use Rattle.tb_tree.specs.declared.marks.Mark.TheVariants as m
use Rattle.tb_tree.specs.declared.marks.Mark as marks
use Rattle.tb_tree.specs.declared.types.Key.{Key}
use Rattle.tb_tree.specs.declared.types.TypeExpr.{TypeExpr}
use Rattle.tb_tree.specs.declared.exprs.Identifier.{Identifier}
use Rattle.tb_tree.specs.declared.exprs.UnaryOperator.{UnaryOperator}
use Rattle.tb_tree.specs.declared.exprs.UpdateOperator.{UpdateOperator}
use Rattle.tb_tree.specs.declared.exprs.BinaryOperator.{BinaryOperator}
use Rattle.tb_tree.specs.declared.exprs.AssignOperator.{AssignOperator}
use Rattle.tb_tree.specs.declared.exprs.VarKind.{VarKind}
use Rattle.tb_tree.specs.declared.exprs.ArrowBody.{ArrowBody}
use Rattle.tb_tree.specs.declared.exprs.BlockItem.{BlockItem}
use Rattle.tb_tree.specs.declared.exprs.Clause.{Clause}
use Rattle.tb_tree.specs.declared.exprs.Expr.{Expr}
use Rattle.tb_tree.specs.declared.exprs.ForStart.{ForStart}
use Rattle.tb_tree.specs.declared.exprs.Prop.{Prop}
use Rattle.tb_tree.specs.declared.exprs.Stmt.{Stmt}
use Rattle.tb_tree.specs.declared.exprs.Block.{Block, out-Block, roll-Block}
use Rattle.tb_tree.specs.declared.exprs.Declarator.{Declarator, out-Declarator, roll-Declarator}
use Rattle.tb_tree.specs.declared.exprs.Function.{Function, out-Function, roll-Function}
use Rattle.tb_tree.specs.declared.exprs.Param.{Param, out-Param, roll-Param}
use Rattle.tb_tree.specs.declared.exprs.TemplateSpan.{TemplateSpan, out-TemplateSpan, roll-TemplateSpan}
use Rattle.tb_tree.specs.declared.exprs.Var.{Var, out-Var, roll-Var}
use Rattle.tb_tree.specs.declared.exprs.ArrowBody.TheVariants as arrow_body
use Rattle.tb_tree.specs.declared.exprs.BlockItem.TheVariants as block_item
use Rattle.tb_tree.specs.declared.exprs.Clause.TheVariants as clause
use Rattle.tb_tree.specs.declared.exprs.Expr.TheVariants as expr
use Rattle.tb_tree.specs.declared.exprs.ForStart.TheVariants as start
use Rattle.tb_tree.specs.declared.exprs.Prop.TheVariants as prop
use Rattle.tb_tree.specs.declared.exprs.Stmt.TheVariants as stmt
use Rattle.tb_tree.specs.declared.exprs.ArrowBody.TheOpen.{Block-F, Declarator-F, Function-F, Param-F, TemplateSpan-F, Var-F}
use Rattle.tb_tree.specs.declared.items.ClassMember.{ClassMember}
use Rattle.tb_tree.specs.declared.items.ClassMember.TheVariants as class_member
use Rattle.tb_tree.specs.declared.items.ClassDeclaration.{ClassDeclaration}
use Rattle.tb_tree.specs.declared.exprs.UnaryOperator.TheVariants as unary
use Rattle.tb_tree.specs.declared.exprs.UpdateOperator.TheVariants as update
use Rattle.tb_layout.specs.Pieces.{Piece, mark, word, space}
use Rattle.tb_layout.specs.Js.{Laid, update_mark, binary_mark, assign_mark, prefixed, joined, in_parens, laid_all, laid_list, laid_spans, truth_pieces, object_pieces, template_pieces}
use Rattle.tb_layout.proofs.Written as w
use Rattle.tb_layout.proofs.Written.{js_expr, js_span}
use Rattle.tb_emit_js.specs.declared.signs.Sign.{Sign}
use Rattle.tb_emit_js.specs.declared.signs.Sign.TheVariants as sign
use Rattle.tb_emit_js.specs.Signs.{first_sign, sign_of_unary, sign_of_update, BeginsWith}

-- what stands first is not changed by what follows
front : (xs ys : List Piece) (of : Sign) → first_sign xs ≡ Some of → first_sign (xs ++ ys) ≡ Some of
front [] ys of is = absurd cc
front (x ∷ xs) ys of is = is

-- a part of the tree that is another by name
pub down : {a b : Expr} {of : Sign} → b ≡ a → BeginsWith of (js_expr a) → BeginsWith of (js_expr b)
down {of = of} is begins = subst (λ x. BeginsWith of (js_expr x)) (sym is) begins

template_first : (head : List ℕ) (spans : List (List Piece × List ℕ)) → first_sign (template_pieces head spans) ≡ Some sign.Other
template_first head [] = refl
template_first head (of ∷ rest) = refl

object_first : (all : List (List Piece)) → first_sign (object_pieces all) ≡ Some sign.Other
object_first [] = refl
object_first (of ∷ rest) = refl

truth_first : (value : Bool) → first_sign (truth_pieces value) ≡ Some sign.Other
truth_first true = refl
truth_first false = refl

prefixed_first : (operator : UnaryOperator) (operand : List Piece) → first_sign (prefixed operator operand) ≡ Some (sign_of_unary operator)
prefixed_first unary.Not operand = refl
prefixed_first unary.Minus operand = refl
prefixed_first unary.Plus operand = refl
prefixed_first unary.Typeof operand = refl

update_first : (operator : UpdateOperator) (target : List Piece) (of : Sign) → first_sign (mark (update_mark operator) ++ target) ≡ Some (sign_of_update operator true of)
update_first update.Increment target of = refl
update_first update.Decrement target of = refl

pub named : {a b : Sign} (of : Expr) → a ≡ b → BeginsWith b (js_expr of) → BeginsWith a (js_expr of)
named of is begins = subst (λ x. BeginsWith x (js_expr of)) (sym is) begins

joined_first : (left right : List Piece) (kind : marks.Mark) (of : Sign) → first_sign left ≡ Some of → first_sign (joined left kind right) ≡ Some of
joined_first left right kind of is =
    front (left ++ space ++ mark kind ++ space) right of (front (left ++ space ++ mark kind) space of (front (left ++ space) (mark kind) of (front left space of is)))

pub name_sign : (at : ℕ) (name : List ℕ) → BeginsWith sign.Other (js_expr (expr.Name at name))
name_sign at name n = ap first_sign (w.name_expr at name n) ∙ refl

pub this_sign : (at : ℕ) → BeginsWith sign.Other (js_expr (expr.This at))
this_sign at n = ap first_sign (w.this_expr at n) ∙ refl

pub null_sign : (at : ℕ) → BeginsWith sign.Other (js_expr (expr.Null at))
null_sign at n = ap first_sign (w.null_expr at n) ∙ refl

pub undefined_sign : (at : ℕ) → BeginsWith sign.Other (js_expr (expr.Undefined at))
undefined_sign at n = ap first_sign (w.undefined_expr at n) ∙ refl

pub boolean_sign : (at : ℕ) (value : Bool) → BeginsWith sign.Other (js_expr (expr.Boolean at value))
boolean_sign at value n = ap first_sign (w.boolean_expr at value n) ∙ truth_first value

pub number_sign : (at : ℕ) (spelled : List ℕ) → BeginsWith sign.Other (js_expr (expr.Number at spelled))
number_sign at spelled n = ap first_sign (w.number_expr at spelled n) ∙ refl

pub string_sign : (at : ℕ) (spelled : List ℕ) → BeginsWith sign.Other (js_expr (expr.String at spelled))
string_sign at spelled n = ap first_sign (w.string_expr at spelled n) ∙ refl

pub template_sign : (at : ℕ) (head : List ℕ) (spans : List TemplateSpan) → BeginsWith sign.Other (js_expr (expr.Template at head spans))
template_sign at head spans n = ap first_sign (w.template_expr at head spans n) ∙ template_first head (laid_spans n (map js_span spans))

pub parens_sign : (at : ℕ) (inner : Expr) → BeginsWith sign.Other (js_expr (expr.Parens at inner))
parens_sign at inner n = ap first_sign (w.parens_expr at inner n) ∙ refl

pub array_sign : (at : ℕ) (elements : List Expr) → BeginsWith sign.Other (js_expr (expr.Array at elements))
array_sign at elements n = ap first_sign (w.array_expr at elements n) ∙ refl

pub object_sign : (at : ℕ) (props : List Prop) → BeginsWith sign.Other (js_expr (expr.Object at props))
object_sign at props n = ap first_sign (w.object_expr at props n) ∙ object_first (laid_all n (map w.js_prop props))

pub new_sign : (at : ℕ) (class : Identifier) (arguments : List Expr) → BeginsWith sign.Other (js_expr (expr.New at class arguments))
new_sign at class arguments n = ap first_sign (w.new_expr at class arguments n) ∙ refl

pub member_sign : (at : ℕ) (base : Expr) (member : List ℕ) (of : Sign) → BeginsWith of (js_expr base) → BeginsWith of (js_expr (expr.Member at base member))
member_sign at base member of is n = ap first_sign (w.member_expr at base member n) ∙ front (js_expr base n ++ mark m.Dot) (word member) of (front (js_expr base n) (mark m.Dot) of (is n))

pub index_sign : (at : ℕ) (base : Expr) (index : Expr) (of : Sign) → BeginsWith of (js_expr base) → BeginsWith of (js_expr (expr.Index at base index))
index_sign at base index of is n = ap first_sign (w.index_expr at base index n) ∙ front (js_expr base n ++ mark m.OpenBracket ++ js_expr index n) (mark m.CloseBracket) of (front (js_expr base n ++ mark m.OpenBracket) (js_expr index n) of (front (js_expr base n) (mark m.OpenBracket) of (is n)))

pub call_sign : (at : ℕ) (callee : Expr) (type_arguments : List TypeExpr) (arguments : List Expr) (of : Sign) → BeginsWith of (js_expr callee) → BeginsWith of (js_expr (expr.Call at callee type_arguments arguments))
call_sign at callee type_arguments arguments of is n = ap first_sign (w.call_expr at callee type_arguments arguments n) ∙ front (js_expr callee n) (in_parens (laid_list n (map js_expr arguments))) of (is n)

pub unary_sign : (at : ℕ) (operator : UnaryOperator) (operand : Expr) → BeginsWith (sign_of_unary operator) (js_expr (expr.Unary at operator operand))
unary_sign at operator operand n = ap first_sign (w.unary_expr at operator operand n) ∙ prefixed_first operator (js_expr operand n)

update_before_sign : (at : ℕ) (operator : UpdateOperator) (target : Expr) (of : Sign) → BeginsWith (sign_of_update operator true of) (js_expr (expr.Update at operator true target))
update_before_sign at operator target of n = ap first_sign (w.update_before_expr at operator target n) ∙ update_first operator (js_expr target n) of

pub update_behind_sign : (at : ℕ) (operator : UpdateOperator) (target : Expr) (of : Sign) → BeginsWith of (js_expr target) → BeginsWith of (js_expr (expr.Update at operator false target))
update_behind_sign at operator target of is n = ap first_sign (w.update_behind_expr at operator target n) ∙ front (js_expr target n) (mark (update_mark operator)) of (is n)

pub binary_sign : (at : ℕ) (left : Expr) (operator : BinaryOperator) (right : Expr) (of : Sign) → BeginsWith of (js_expr left) → BeginsWith of (js_expr (expr.Binary at left operator right))
binary_sign at left operator right of is n = ap first_sign (w.binary_expr at left operator right n) ∙ joined_first (js_expr left n) (js_expr right n) (binary_mark operator) of (is n)

pub as_sign : (at : ℕ) (value : Expr) (shape : TypeExpr) (of : Sign) → BeginsWith of (js_expr value) → BeginsWith of (js_expr (expr.As at value shape))
as_sign at value shape of is n = ap first_sign (w.as_expr at value shape n) ∙ is n

pub conditional_sign : (at : ℕ) (condition : Expr) (chosen : Expr) (otherwise : Expr) (of : Sign) → BeginsWith of (js_expr condition) → BeginsWith of (js_expr (expr.Conditional at condition chosen otherwise))
conditional_sign at condition chosen otherwise of is n = ap first_sign (w.conditional_expr at condition chosen otherwise n) ∙ joined_first (joined (js_expr condition n) m.Question (js_expr chosen n)) (js_expr otherwise n) m.Colon of (joined_first (js_expr condition n) (js_expr chosen n) m.Question of (is n))

pub assign_sign : (at : ℕ) (target : Expr) (operator : AssignOperator) (value : Expr) (of : Sign) → BeginsWith of (js_expr target) → BeginsWith of (js_expr (expr.Assign at target operator value))
assign_sign at target operator value of is n = ap first_sign (w.assign_expr at target operator value n) ∙ joined_first (js_expr target n) (js_expr value n) (assign_mark operator) of (is n)

pub arrow_sign : (at : ℕ) (params : List Param) (result : Option TypeExpr) (of : ArrowBody) → BeginsWith sign.Other (js_expr (expr.Arrow at params result of))
arrow_sign at params result of n = ap first_sign (w.arrow_expr at params result of n) ∙ refl

pub update_sign : (at : ℕ) (operator : UpdateOperator) (before : Bool) (target : Expr) (of : Sign) → BeginsWith of (js_expr target)
    → BeginsWith (sign_of_update operator before of) (js_expr (expr.Update at operator before target))
update_sign at operator true target of is = update_before_sign at operator target of
update_sign at operator false target of is = update_behind_sign at operator target of is

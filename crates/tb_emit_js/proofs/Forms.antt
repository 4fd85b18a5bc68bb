-- What is written for each form of a tree, part by part.
use Rattle.std.proofs.Common.{◌≡◌, ℕ, Bool, true, false, List, [], ◌∷◌, ◌++◌, map, flat_map, codes, Option, Some, None, refl, ◌∙◌, ap, sym, append_assoc}
use Rattle.std.proofs.lemmas.List.{append-nil}
use Rattle.tb_tree.specs.declared.marks.Mark.TheVariants as m
use Rattle.tb_tree.specs.declared.words.Class.TheVariants as c
use Rattle.tb_tree.specs.declared.types.Key.{Key}
use Rattle.tb_tree.specs.declared.types.TypeExpr.{TypeExpr}
use Rattle.tb_tree.specs.declared.exprs.Identifier.{Identifier}
use Rattle.tb_tree.specs.declared.exprs.UnaryOperator.{UnaryOperator}
use Rattle.tb_tree.specs.declared.exprs.UpdateOperator.{UpdateOperator}
use Rattle.tb_tree.specs.declared.exprs.BinaryOperator.{BinaryOperator}
use Rattle.tb_tree.specs.declared.exprs.AssignOperator.{AssignOperator}
use Rattle.tb_tree.specs.declared.exprs.VarKind.{VarKind}
use Rattle.tb_tree.specs.declared.exprs.ArrowBody.{ArrowBody}
use Rattle.tb_tree.specs.declared.exprs.BlockItem.{BlockItem}
use Rattle.tb_tree.specs.declared.exprs.Clause.{Clause}
use Rattle.tb_tree.specs.declared.exprs.Expr.{Expr}
use Rattle.tb_tree.specs.declared.exprs.ForStart.{ForStart}
use Rattle.tb_tree.specs.declared.exprs.Prop.{Prop}
use Rattle.tb_tree.specs.declared.exprs.Stmt.{Stmt}
use Rattle.tb_tree.specs.declared.exprs.Block.{Block, out-Block, roll-Block}
use Rattle.tb_tree.specs.declared.exprs.Declarator.{Declarator, out-Declarator, roll-Declarator}
use Rattle.tb_tree.specs.declared.exprs.Function.{Function, out-Function, roll-Function}
use Rattle.tb_tree.specs.declared.exprs.Param.{Param, out-Param, roll-Param}
use Rattle.tb_tree.specs.declared.exprs.TemplateSpan.{TemplateSpan, out-TemplateSpan, roll-TemplateSpan}
use Rattle.tb_tree.specs.declared.exprs.Var.{Var, out-Var, roll-Var}
use Rattle.tb_tree.specs.declared.exprs.ArrowBody.TheVariants as arrow_body
use Rattle.tb_tree.specs.declared.exprs.BlockItem.TheVariants as block_item
use Rattle.tb_tree.specs.declared.exprs.Clause.TheVariants as clause
use Rattle.tb_tree.specs.declared.exprs.Expr.TheVariants as expr
use Rattle.tb_tree.specs.declared.exprs.ForStart.TheVariants as start
use Rattle.tb_tree.specs.declared.exprs.Prop.TheVariants as prop
use Rattle.tb_tree.specs.declared.exprs.Stmt.TheVariants as stmt
use Rattle.tb_tree.specs.declared.exprs.ArrowBody.TheOpen.{Block-F, Declarator-F, Function-F, Param-F, TemplateSpan-F, Var-F}
use Rattle.tb_tree.specs.declared.items.ClassMember.{ClassMember}
use Rattle.tb_tree.specs.declared.items.ClassMember.TheVariants as class_member
use Rattle.tb_tree.specs.declared.items.ClassDeclaration.{ClassDeclaration}
use Rattle.tb_layout.specs.Pieces.{Piece, Lex, mark, word, space, new_line, text_of, piece_text, mark_text}
use Rattle.tb_layout.specs.Js.{Laid, update_mark, binary_mark, assign_mark, prefixed, in_parens, laid_all, laid_list, key_pieces, value_pieces, truth_pieces, kind_pieces, object_pieces, lines, body_pieces, else_pieces, part_pieces, static_pieces}
use Rattle.tb_layout.proofs.Written as w
use Rattle.tb_layout.proofs.Written.{js_arrow_body, js_block_item, js_clause, js_expr, js_start, js_prop, js_stmt, js_block, js_declarator, js_function, js_param, js_var, js_lines, js_span, js_optional, js_otherwise, js_member}
use Rattle.tb_emit_js.specs.Lines.{span_text}
use Rattle.tb_emit_js.specs.Signs.{before_text, behind_text}
use Rattle.tb_emit_js.proofs.Joins.{text_join, template_text}

pub block_arrow_body_text : (of : Block) (n : ℕ) → text_of (js_arrow_body (arrow_body.Block of) n) ≡ text_of (js_block of n)
block_arrow_body_text of n = ap text_of (w.block_arrow_body of n)

pub expr_arrow_body_text : (of : Expr) (n : ℕ) → text_of (js_arrow_body (arrow_body.Expr of) n) ≡ text_of (js_expr of n)
expr_arrow_body_text of n = ap text_of (w.expr_arrow_body of n)

pub var_block_item_text : (of : Var) (n : ℕ) → text_of (js_block_item (block_item.Var of) n) ≡ text_of (js_var of n)
var_block_item_text of n = ap text_of (w.var_block_item of n)

pub function_block_item_text : (of : Function) (n : ℕ) → text_of (js_block_item (block_item.Function of) n) ≡ text_of (js_function of n)
function_block_item_text of n = ap text_of (w.function_block_item of n)

pub stmt_block_item_text : (of : Stmt) (n : ℕ) → text_of (js_block_item (block_item.Stmt of) n) ≡ text_of (js_lines of n)
stmt_block_item_text of n = ap text_of (w.stmt_block_item of n)

pub case_clause_text : (at : ℕ) (value : Expr) (items : List BlockItem) (n : ℕ) → text_of (js_clause (clause.Case at value items) n) ≡ codes "case " ++ (text_of (js_expr value n) ++ (codes ":" ++ text_of (lines n (map js_block_item items))))
case_clause_text at value items n = ap text_of (w.case_clause at value items n) ∙ text_join ((((word (codes "case") ++ space) ++ js_expr value n) ++ mark m.Colon)) (lines n (map js_block_item items)) ∙ ap (λ t. text_of ((((word (codes "case") ++ space) ++ js_expr value n) ++ mark m.Colon)) ++ t) (refl) ∙ ap (λ t. t ++ (text_of (lines n (map js_block_item items)))) (text_join (((word (codes "case") ++ space) ++ js_expr value n)) (mark m.Colon)) ∙ append_assoc (text_of (((word (codes "case") ++ space) ++ js_expr value n))) (text_of (mark m.Colon)) (text_of (lines n (map js_block_item items))) ∙ ap (λ t. text_of (((word (codes "case") ++ space) ++ js_expr value n)) ++ t) (refl) ∙ ap (λ t. t ++ (codes ":" ++ text_of (lines n (map js_block_item items)))) (text_join ((word (codes "case") ++ space)) (js_expr value n)) ∙ append_assoc (text_of ((word (codes "case") ++ space))) (text_of (js_expr value n)) (codes ":" ++ text_of (lines n (map js_block_item items))) ∙ ap (λ t. text_of ((word (codes "case") ++ space)) ++ t) (refl) ∙ ap (λ t. t ++ (text_of (js_expr value n) ++ (codes ":" ++ text_of (lines n (map js_block_item items))))) (text_join (word (codes "case")) space) ∙ append_assoc (text_of (word (codes "case"))) (text_of space) (text_of (js_expr value n) ++ (codes ":" ++ text_of (lines n (map js_block_item items)))) ∙ ap (λ t. text_of (word (codes "case")) ++ t) (refl) ∙ refl

pub default_clause_text : (at : ℕ) (items : List BlockItem) (n : ℕ) → text_of (js_clause (clause.Default at items) n) ≡ codes "default:" ++ text_of (lines n (map js_block_item items))
default_clause_text at items n = ap text_of (w.default_clause at items n) ∙ text_join ((word (codes "default") ++ mark m.Colon)) (lines n (map js_block_item items)) ∙ ap (λ t. text_of ((word (codes "default") ++ mark m.Colon)) ++ t) (refl) ∙ ap (λ t. t ++ (text_of (lines n (map js_block_item items)))) (text_join (word (codes "default")) (mark m.Colon)) ∙ append_assoc (text_of (word (codes "default"))) (text_of (mark m.Colon)) (text_of (lines n (map js_block_item items))) ∙ ap (λ t. text_of (word (codes "default")) ++ t) (refl) ∙ refl

pub name_expr_text : (at : ℕ) (name : List ℕ) (n : ℕ) → text_of (js_expr (expr.Name at name) n) ≡ name
name_expr_text at name n = ap text_of (w.name_expr at name n) ∙ append-nil name

pub this_expr_text : (at : ℕ) (n : ℕ) → text_of (js_expr (expr.This at) n) ≡ codes "this"
this_expr_text at n = ap text_of (w.this_expr at n)

pub null_expr_text : (at : ℕ) (n : ℕ) → text_of (js_expr (expr.Null at) n) ≡ codes "null"
null_expr_text at n = ap text_of (w.null_expr at n)

pub undefined_expr_text : (at : ℕ) (n : ℕ) → text_of (js_expr (expr.Undefined at) n) ≡ codes "undefined"
undefined_expr_text at n = ap text_of (w.undefined_expr at n)

pub boolean_expr_text : (at : ℕ) (value : Bool) (n : ℕ) → text_of (js_expr (expr.Boolean at value) n) ≡ text_of (truth_pieces value)
boolean_expr_text at value n = ap text_of (w.boolean_expr at value n)

pub number_expr_text : (at : ℕ) (spelled : List ℕ) (n : ℕ) → text_of (js_expr (expr.Number at spelled) n) ≡ spelled
number_expr_text at spelled n = ap text_of (w.number_expr at spelled n) ∙ append-nil spelled

pub string_expr_text : (at : ℕ) (spelled : List ℕ) (n : ℕ) → text_of (js_expr (expr.String at spelled) n) ≡ spelled
string_expr_text at spelled n = ap text_of (w.string_expr at spelled n) ∙ append-nil spelled

pub parens_expr_text : (at : ℕ) (inner : Expr) (n : ℕ) → text_of (js_expr (expr.Parens at inner) n) ≡ codes "(" ++ (text_of (js_expr inner n) ++ codes ")")
parens_expr_text at inner n = ap text_of (w.parens_expr at inner n) ∙ text_join ((mark m.OpenParen ++ js_expr inner n)) (mark m.CloseParen) ∙ ap (λ t. text_of ((mark m.OpenParen ++ js_expr inner n)) ++ t) (refl) ∙ ap (λ t. t ++ (codes ")")) (text_join (mark m.OpenParen) (js_expr inner n)) ∙ append_assoc (text_of (mark m.OpenParen)) (text_of (js_expr inner n)) (codes ")") ∙ ap (λ t. text_of (mark m.OpenParen) ++ t) (refl) ∙ refl

pub array_expr_text : (at : ℕ) (elements : List Expr) (n : ℕ) → text_of (js_expr (expr.Array at elements) n) ≡ codes "[" ++ (text_of (laid_list n (map js_expr elements)) ++ codes "]")
array_expr_text at elements n = ap text_of (w.array_expr at elements n) ∙ text_join ((mark m.OpenBracket ++ laid_list n (map js_expr elements))) (mark m.CloseBracket) ∙ ap (λ t. text_of ((mark m.OpenBracket ++ laid_list n (map js_expr elements))) ++ t) (refl) ∙ ap (λ t. t ++ (codes "]")) (text_join (mark m.OpenBracket) (laid_list n (map js_expr elements))) ∙ append_assoc (text_of (mark m.OpenBracket)) (text_of (laid_list n (map js_expr elements))) (codes "]") ∙ ap (λ t. text_of (mark m.OpenBracket) ++ t) (refl) ∙ refl

pub object_expr_text : (at : ℕ) (props : List Prop) (n : ℕ) → text_of (js_expr (expr.Object at props) n) ≡ text_of (object_pieces (laid_all n (map js_prop props)))
object_expr_text at props n = ap text_of (w.object_expr at props n)

pub new_expr_text : (at : ℕ) (class : Identifier) (arguments : List Expr) (n : ℕ) → text_of (js_expr (expr.New at class arguments) n) ≡ codes "new " ++ (class.name ++ (codes "(" ++ (text_of (laid_list n (map js_expr arguments)) ++ codes ")")))
new_expr_text at class arguments n = ap text_of (w.new_expr at class arguments n) ∙ text_join (((word (codes "new") ++ space) ++ word class.name)) (((mark m.OpenParen ++ laid_list n (map js_expr arguments)) ++ mark m.CloseParen)) ∙ ap (λ t. text_of (((word (codes "new") ++ space) ++ word class.name)) ++ t) (text_join ((mark m.OpenParen ++ laid_list n (map js_expr arguments))) (mark m.CloseParen) ∙ ap (λ t. text_of ((mark m.OpenParen ++ laid_list n (map js_expr arguments))) ++ t) (refl) ∙ ap (λ t. t ++ (codes ")")) (text_join (mark m.OpenParen) (laid_list n (map js_expr arguments))) ∙ append_assoc (text_of (mark m.OpenParen)) (text_of (laid_list n (map js_expr arguments))) (codes ")") ∙ ap (λ t. text_of (mark m.OpenParen) ++ t) (refl) ∙ refl) ∙ ap (λ t. t ++ (codes "(" ++ (text_of (laid_list n (map js_expr arguments)) ++ codes ")"))) (text_join ((word (codes "new") ++ space)) (word class.name)) ∙ append_assoc (text_of ((word (codes "new") ++ space))) (text_of (word class.name)) (codes "(" ++ (text_of (laid_list n (map js_expr arguments)) ++ codes ")")) ∙ ap (λ t. text_of ((word (codes "new") ++ space)) ++ t) (ap (λ t. t ++ (codes "(" ++ (text_of (laid_list n (map js_expr arguments)) ++ codes ")"))) (append-nil class.name)) ∙ ap (λ t. t ++ (class.name ++ (codes "(" ++ (text_of (laid_list n (map js_expr arguments)) ++ codes ")")))) (text_join (word (codes "new")) space) ∙ append_assoc (text_of (word (codes "new"))) (text_of space) (class.name ++ (codes "(" ++ (text_of (laid_list n (map js_expr arguments)) ++ codes ")"))) ∙ ap (λ t. text_of (word (codes "new")) ++ t) (refl) ∙ refl

pub member_expr_text : (at : ℕ) (base : Expr) (member : List ℕ) (n : ℕ) → text_of (js_expr (expr.Member at base member) n) ≡ text_of (js_expr base n) ++ (codes "." ++ member)
member_expr_text at base member n = ap text_of (w.member_expr at base member n) ∙ text_join ((js_expr base n ++ mark m.Dot)) (word member) ∙ ap (λ t. text_of ((js_expr base n ++ mark m.Dot)) ++ t) (append-nil member) ∙ ap (λ t. t ++ member) (text_join (js_expr base n) (mark m.Dot)) ∙ append_assoc (text_of (js_expr base n)) (text_of (mark m.Dot)) member ∙ ap (λ t. text_of (js_expr base n) ++ t) (refl) ∙ refl

pub index_expr_text : (at : ℕ) (base : Expr) (index : Expr) (n : ℕ) → text_of (js_expr (expr.Index at base index) n) ≡ text_of (js_expr base n) ++ (codes "[" ++ (text_of (js_expr index n) ++ codes "]"))
index_expr_text at base index n = ap text_of (w.index_expr at base index n) ∙ text_join (((js_expr base n ++ mark m.OpenBracket) ++ js_expr index n)) (mark m.CloseBracket) ∙ ap (λ t. text_of (((js_expr base n ++ mark m.OpenBracket) ++ js_expr index n)) ++ t) (refl) ∙ ap (λ t. t ++ (codes "]")) (text_join ((js_expr base n ++ mark m.OpenBracket)) (js_expr index n)) ∙ append_assoc (text_of ((js_expr base n ++ mark m.OpenBracket))) (text_of (js_expr index n)) (codes "]") ∙ ap (λ t. text_of ((js_expr base n ++ mark m.OpenBracket)) ++ t) (refl) ∙ ap (λ t. t ++ (text_of (js_expr index n) ++ codes "]")) (text_join (js_expr base n) (mark m.OpenBracket)) ∙ append_assoc (text_of (js_expr base n)) (text_of (mark m.OpenBracket)) (text_of (js_expr index n) ++ codes "]") ∙ ap (λ t. text_of (js_expr base n) ++ t) (refl) ∙ refl

pub call_expr_text : (at : ℕ) (callee : Expr) (type_arguments : List TypeExpr) (arguments : List Expr) (n : ℕ) → text_of (js_expr (expr.Call at callee type_arguments arguments) n) ≡ text_of (js_expr callee n) ++ (codes "(" ++ (text_of (laid_list n (map js_expr arguments)) ++ codes ")"))
call_expr_text at callee type_arguments arguments n = ap text_of (w.call_expr at callee type_arguments arguments n) ∙ text_join (js_expr callee n) (((mark m.OpenParen ++ laid_list n (map js_expr arguments)) ++ mark m.CloseParen)) ∙ ap (λ t. text_of (js_expr callee n) ++ t) (text_join ((mark m.OpenParen ++ laid_list n (map js_expr arguments))) (mark m.CloseParen) ∙ ap (λ t. text_of ((mark m.OpenParen ++ laid_list n (map js_expr arguments))) ++ t) (refl) ∙ ap (λ t. t ++ (codes ")")) (text_join (mark m.OpenParen) (laid_list n (map js_expr arguments))) ∙ append_assoc (text_of (mark m.OpenParen)) (text_of (laid_list n (map js_expr arguments))) (codes ")") ∙ ap (λ t. text_of (mark m.OpenParen) ++ t) (refl) ∙ refl) ∙ refl

pub unary_expr_text : (at : ℕ) (operator : UnaryOperator) (operand : Expr) (n : ℕ) → text_of (js_expr (expr.Unary at operator operand) n) ≡ text_of (prefixed operator (js_expr operand n))
unary_expr_text at operator operand n = ap text_of (w.unary_expr at operator operand n)

pub update_before_expr_text : (at : ℕ) (operator : UpdateOperator) (target : Expr) (n : ℕ) → text_of (js_expr (expr.Update at operator true target) n) ≡ mark_text (update_mark operator) ++ text_of (js_expr target n)
update_before_expr_text at operator target n = ap text_of (w.update_before_expr at operator target n) ∙ text_join (mark (update_mark operator)) (js_expr target n) ∙ ap (λ t. text_of (mark (update_mark operator)) ++ t) (refl) ∙ ap (λ t. t ++ (text_of (js_expr target n))) (append-nil (mark_text (update_mark operator)))

pub update_behind_expr_text : (at : ℕ) (operator : UpdateOperator) (target : Expr) (n : ℕ) → text_of (js_expr (expr.Update at operator false target) n) ≡ text_of (js_expr target n) ++ mark_text (update_mark operator)
update_behind_expr_text at operator target n = ap text_of (w.update_behind_expr at operator target n) ∙ text_join (js_expr target n) (mark (update_mark operator)) ∙ ap (λ t. text_of (js_expr target n) ++ t) (append-nil (mark_text (update_mark operator))) ∙ refl

pub binary_expr_text : (at : ℕ) (left : Expr) (operator : BinaryOperator) (right : Expr) (n : ℕ) → text_of (js_expr (expr.Binary at left operator right) n) ≡ text_of (js_expr left n) ++ (codes " " ++ (mark_text (binary_mark operator) ++ (codes " " ++ text_of (js_expr right n))))
binary_expr_text at left operator right n = ap text_of (w.binary_expr at left operator right n) ∙ text_join ((((js_expr left n ++ space) ++ mark (binary_mark operator)) ++ space)) (js_expr right n) ∙ ap (λ t. text_of ((((js_expr left n ++ space) ++ mark (binary_mark operator)) ++ space)) ++ t) (refl) ∙ ap (λ t. t ++ (text_of (js_expr right n))) (text_join (((js_expr left n ++ space) ++ mark (binary_mark operator))) space) ∙ append_assoc (text_of (((js_expr left n ++ space) ++ mark (binary_mark operator)))) (text_of space) (text_of (js_expr right n)) ∙ ap (λ t. text_of (((js_expr left n ++ space) ++ mark (binary_mark operator))) ++ t) (refl) ∙ ap (λ t. t ++ (codes " " ++ text_of (js_expr right n))) (text_join ((js_expr left n ++ space)) (mark (binary_mark operator))) ∙ append_assoc (text_of ((js_expr left n ++ space))) (text_of (mark (binary_mark operator))) (codes " " ++ text_of (js_expr right n)) ∙ ap (λ t. text_of ((js_expr left n ++ space)) ++ t) (ap (λ t. t ++ (codes " " ++ text_of (js_expr right n))) (append-nil (mark_text (binary_mark operator)))) ∙ ap (λ t. t ++ (mark_text (binary_mark operator) ++ (codes " " ++ text_of (js_expr right n)))) (text_join (js_expr left n) space) ∙ append_assoc (text_of (js_expr left n)) (text_of space) (mark_text (binary_mark operator) ++ (codes " " ++ text_of (js_expr right n))) ∙ ap (λ t. text_of (js_expr left n) ++ t) (refl) ∙ refl

pub as_expr_text : (at : ℕ) (value : Expr) (shape : TypeExpr) (n : ℕ) → text_of (js_expr (expr.As at value shape) n) ≡ text_of (js_expr value n)
as_expr_text at value shape n = ap text_of (w.as_expr at value shape n)

pub conditional_expr_text : (at : ℕ) (condition : Expr) (chosen : Expr) (otherwise : Expr) (n : ℕ) → text_of (js_expr (expr.Conditional at condition chosen otherwise) n) ≡ text_of (js_expr condition n) ++ (codes " ? " ++ (text_of (js_expr chosen n) ++ (codes " : " ++ text_of (js_expr otherwise n))))
conditional_expr_text at condition chosen otherwise n = ap text_of (w.conditional_expr at condition chosen otherwise n) ∙ text_join ((((((((js_expr condition n ++ space) ++ mark m.Question) ++ space) ++ js_expr chosen n) ++ space) ++ mark m.Colon) ++ space)) (js_expr otherwise n) ∙ ap (λ t. text_of ((((((((js_expr condition n ++ space) ++ mark m.Question) ++ space) ++ js_expr chosen n) ++ space) ++ mark m.Colon) ++ space)) ++ t) (refl) ∙ ap (λ t. t ++ (text_of (js_expr otherwise n))) (text_join (((((((js_expr condition n ++ space) ++ mark m.Question) ++ space) ++ js_expr chosen n) ++ space) ++ mark m.Colon)) space) ∙ append_assoc (text_of (((((((js_expr condition n ++ space) ++ mark m.Question) ++ space) ++ js_expr chosen n) ++ space) ++ mark m.Colon))) (text_of space) (text_of (js_expr otherwise n)) ∙ ap (λ t. text_of (((((((js_expr condition n ++ space) ++ mark m.Question) ++ space) ++ js_expr chosen n) ++ space) ++ mark m.Colon)) ++ t) (refl) ∙ ap (λ t. t ++ (codes " " ++ text_of (js_expr otherwise n))) (text_join ((((((js_expr condition n ++ space) ++ mark m.Question) ++ space) ++ js_expr chosen n) ++ space)) (mark m.Colon)) ∙ append_assoc (text_of ((((((js_expr condition n ++ space) ++ mark m.Question) ++ space) ++ js_expr chosen n) ++ space))) (text_of (mark m.Colon)) (codes " " ++ text_of (js_expr otherwise n)) ∙ ap (λ t. text_of ((((((js_expr condition n ++ space) ++ mark m.Question) ++ space) ++ js_expr chosen n) ++ space)) ++ t) (refl) ∙ ap (λ t. t ++ (codes ": " ++ text_of (js_expr otherwise n))) (text_join (((((js_expr condition n ++ space) ++ mark m.Question) ++ space) ++ js_expr chosen n)) space) ∙ append_assoc (text_of (((((js_expr condition n ++ space) ++ mark m.Question) ++ space) ++ js_expr chosen n))) (text_of space) (codes ": " ++ text_of (js_expr otherwise n)) ∙ ap (λ t. text_of (((((js_expr condition n ++ space) ++ mark m.Question) ++ space) ++ js_expr chosen n)) ++ t) (refl) ∙ ap (λ t. t ++ (codes " : " ++ text_of (js_expr otherwise n))) (text_join ((((js_expr condition n ++ space) ++ mark m.Question) ++ space)) (js_expr chosen n)) ∙ append_assoc (text_of ((((js_expr condition n ++ space) ++ mark m.Question) ++ space))) (text_of (js_expr chosen n)) (codes " : " ++ text_of (js_expr otherwise n)) ∙ ap (λ t. text_of ((((js_expr condition n ++ space) ++ mark m.Question) ++ space)) ++ t) (refl) ∙ ap (λ t. t ++ (text_of (js_expr chosen n) ++ (codes " : " ++ text_of (js_expr otherwise n)))) (text_join (((js_expr condition n ++ space) ++ mark m.Question)) space) ∙ append_assoc (text_of (((js_expr condition n ++ space) ++ mark m.Question))) (text_of space) (text_of (js_expr chosen n) ++ (codes " : " ++ text_of (js_expr otherwise n))) ∙ ap (λ t. text_of (((js_expr condition n ++ space) ++ mark m.Question)) ++ t) (refl) ∙ ap (λ t. t ++ (codes " " ++ (text_of (js_expr chosen n) ++ (codes " : " ++ text_of (js_expr otherwise n))))) (text_join ((js_expr condition n ++ space)) (mark m.Question)) ∙ append_assoc (text_of ((js_expr condition n ++ space))) (text_of (mark m.Question)) (codes " " ++ (text_of (js_expr chosen n) ++ (codes " : " ++ text_of (js_expr otherwise n)))) ∙ ap (λ t. text_of ((js_expr condition n ++ space)) ++ t) (refl) ∙ ap (λ t. t ++ (codes "? " ++ (text_of (js_expr chosen n) ++ (codes " : " ++ text_of (js_expr otherwise n))))) (text_join (js_expr condition n) space) ∙ append_assoc (text_of (js_expr condition n)) (text_of space) (codes "? " ++ (text_of (js_expr chosen n) ++ (codes " : " ++ text_of (js_expr otherwise n)))) ∙ ap (λ t. text_of (js_expr condition n) ++ t) (refl) ∙ refl

pub assign_expr_text : (at : ℕ) (target : Expr) (operator : AssignOperator) (value : Expr) (n : ℕ) → text_of (js_expr (expr.Assign at target operator value) n) ≡ text_of (js_expr target n) ++ (codes " " ++ (mark_text (assign_mark operator) ++ (codes " " ++ text_of (js_expr value n))))
assign_expr_text at target operator value n = ap text_of (w.assign_expr at target operator value n) ∙ text_join ((((js_expr target n ++ space) ++ mark (assign_mark operator)) ++ space)) (js_expr value n) ∙ ap (λ t. text_of ((((js_expr target n ++ space) ++ mark (assign_mark operator)) ++ space)) ++ t) (refl) ∙ ap (λ t. t ++ (text_of (js_expr value n))) (text_join (((js_expr target n ++ space) ++ mark (assign_mark operator))) space) ∙ append_assoc (text_of (((js_expr target n ++ space) ++ mark (assign_mark operator)))) (text_of space) (text_of (js_expr value n)) ∙ ap (λ t. text_of (((js_expr target n ++ space) ++ mark (assign_mark operator))) ++ t) (refl) ∙ ap (λ t. t ++ (codes " " ++ text_of (js_expr value n))) (text_join ((js_expr target n ++ space)) (mark (assign_mark operator))) ∙ append_assoc (text_of ((js_expr target n ++ space))) (text_of (mark (assign_mark operator))) (codes " " ++ text_of (js_expr value n)) ∙ ap (λ t. text_of ((js_expr target n ++ space)) ++ t) (ap (λ t. t ++ (codes " " ++ text_of (js_expr value n))) (append-nil (mark_text (assign_mark operator)))) ∙ ap (λ t. t ++ (mark_text (assign_mark operator) ++ (codes " " ++ text_of (js_expr value n)))) (text_join (js_expr target n) space) ∙ append_assoc (text_of (js_expr target n)) (text_of space) (mark_text (assign_mark operator) ++ (codes " " ++ text_of (js_expr value n))) ∙ ap (λ t. text_of (js_expr target n) ++ t) (refl) ∙ refl

pub arrow_expr_text : (at : ℕ) (params : List Param) (result : Option TypeExpr) (of : ArrowBody) (n : ℕ) → text_of (js_expr (expr.Arrow at params result of) n) ≡ codes "(" ++ (text_of (laid_list n (map js_param params)) ++ (codes ") => " ++ text_of (js_arrow_body of n)))
arrow_expr_text at params result of n = ap text_of (w.arrow_expr at params result of n) ∙ text_join ((((((mark m.OpenParen ++ laid_list n (map js_param params)) ++ mark m.CloseParen) ++ space) ++ mark m.Arrow) ++ space)) (js_arrow_body of n) ∙ ap (λ t. text_of ((((((mark m.OpenParen ++ laid_list n (map js_param params)) ++ mark m.CloseParen) ++ space) ++ mark m.Arrow) ++ space)) ++ t) (refl) ∙ ap (λ t. t ++ (text_of (js_arrow_body of n))) (text_join (((((mark m.OpenParen ++ laid_list n (map js_param params)) ++ mark m.CloseParen) ++ space) ++ mark m.Arrow)) space) ∙ append_assoc (text_of (((((mark m.OpenParen ++ laid_list n (map js_param params)) ++ mark m.CloseParen) ++ space) ++ mark m.Arrow))) (text_of space) (text_of (js_arrow_body of n)) ∙ ap (λ t. text_of (((((mark m.OpenParen ++ laid_list n (map js_param params)) ++ mark m.CloseParen) ++ space) ++ mark m.Arrow)) ++ t) (refl) ∙ ap (λ t. t ++ (codes " " ++ text_of (js_arrow_body of n))) (text_join ((((mark m.OpenParen ++ laid_list n (map js_param params)) ++ mark m.CloseParen) ++ space)) (mark m.Arrow)) ∙ append_assoc (text_of ((((mark m.OpenParen ++ laid_list n (map js_param params)) ++ mark m.CloseParen) ++ space))) (text_of (mark m.Arrow)) (codes " " ++ text_of (js_arrow_body of n)) ∙ ap (λ t. text_of ((((mark m.OpenParen ++ laid_list n (map js_param params)) ++ mark m.CloseParen) ++ space)) ++ t) (refl) ∙ ap (λ t. t ++ (codes "=> " ++ text_of (js_arrow_body of n))) (text_join (((mark m.OpenParen ++ laid_list n (map js_param params)) ++ mark m.CloseParen)) space) ∙ append_assoc (text_of (((mark m.OpenParen ++ laid_list n (map js_param params)) ++ mark m.CloseParen))) (text_of space) (codes "=> " ++ text_of (js_arrow_body of n)) ∙ ap (λ t. text_of (((mark m.OpenParen ++ laid_list n (map js_param params)) ++ mark m.CloseParen)) ++ t) (refl) ∙ ap (λ t. t ++ (codes " => " ++ text_of (js_arrow_body of n))) (text_join ((mark m.OpenParen ++ laid_list n (map js_param params))) (mark m.CloseParen)) ∙ append_assoc (text_of ((mark m.OpenParen ++ laid_list n (map js_param params)))) (text_of (mark m.CloseParen)) (codes " => " ++ text_of (js_arrow_body of n)) ∙ ap (λ t. text_of ((mark m.OpenParen ++ laid_list n (map js_param params))) ++ t) (refl) ∙ ap (λ t. t ++ (codes ") => " ++ text_of (js_arrow_body of n))) (text_join (mark m.OpenParen) (laid_list n (map js_param params))) ∙ append_assoc (text_of (mark m.OpenParen)) (text_of (laid_list n (map js_param params))) (codes ") => " ++ text_of (js_arrow_body of n)) ∙ ap (λ t. text_of (mark m.OpenParen) ++ t) (refl) ∙ refl

pub var_start_text : (of : Var) (n : ℕ) → text_of (js_start (start.Var of) n) ≡ text_of (js_var of n)
var_start_text of n = ap text_of (w.var_start of n)

pub expr_start_text : (of : Expr) (n : ℕ) → text_of (js_start (start.Expr of) n) ≡ text_of (js_expr of n) ++ codes ";"
expr_start_text of n = ap text_of (w.expr_start of n) ∙ text_join (js_expr of n) (mark m.Semicolon) ∙ ap (λ t. text_of (js_expr of n) ++ t) (refl) ∙ refl

pub nothing_start_text : (n : ℕ) → text_of (js_start start.Nothing n) ≡ codes ";"
nothing_start_text n = ap text_of (w.nothing_start n)

pub valued_prop_text : (at : ℕ) (key : Key) (value : Expr) (n : ℕ) → text_of (js_prop (prop.Valued at key value) n) ≡ text_of (key_pieces key) ++ (codes ": " ++ text_of (js_expr value n))
valued_prop_text at key value n = ap text_of (w.valued_prop at key value n) ∙ text_join (((key_pieces key ++ mark m.Colon) ++ space)) (js_expr value n) ∙ ap (λ t. text_of (((key_pieces key ++ mark m.Colon) ++ space)) ++ t) (refl) ∙ ap (λ t. t ++ (text_of (js_expr value n))) (text_join ((key_pieces key ++ mark m.Colon)) space) ∙ append_assoc (text_of ((key_pieces key ++ mark m.Colon))) (text_of space) (text_of (js_expr value n)) ∙ ap (λ t. text_of ((key_pieces key ++ mark m.Colon)) ++ t) (refl) ∙ ap (λ t. t ++ (codes " " ++ text_of (js_expr value n))) (text_join (key_pieces key) (mark m.Colon)) ∙ append_assoc (text_of (key_pieces key)) (text_of (mark m.Colon)) (codes " " ++ text_of (js_expr value n)) ∙ ap (λ t. text_of (key_pieces key) ++ t) (refl) ∙ refl

pub short_prop_text : (at : ℕ) (name : List ℕ) (n : ℕ) → text_of (js_prop (prop.Short at name) n) ≡ name
short_prop_text at name n = ap text_of (w.short_prop at name n) ∙ append-nil name

pub block_stmt_lines_text : (of : Block) (n : ℕ) → text_of (js_lines (stmt.Block of) n) ≡ text_of (js_block of n)
block_stmt_lines_text of n = ap text_of (w.block_stmt_lines of n)

pub if_stmt_lines_text : (at : ℕ) (condition : Expr) (chosen : Stmt) (otherwise : Option Stmt) (n : ℕ) → text_of (js_lines (stmt.If at condition chosen otherwise) n) ≡ codes "if (" ++ (text_of (js_expr condition n) ++ (codes ")" ++ (text_of (body_pieces n (js_stmt chosen)) ++ text_of (else_pieces n (js_otherwise otherwise)))))
if_stmt_lines_text at condition chosen otherwise n = ap text_of (w.if_stmt_lines at condition chosen otherwise n) ∙ text_join ((((word (codes "if") ++ space) ++ ((mark m.OpenParen ++ js_expr condition n) ++ mark m.CloseParen)) ++ body_pieces n (js_stmt chosen))) (else_pieces n (js_otherwise otherwise)) ∙ ap (λ t. text_of ((((word (codes "if") ++ space) ++ ((mark m.OpenParen ++ js_expr condition n) ++ mark m.CloseParen)) ++ body_pieces n (js_stmt chosen))) ++ t) (refl) ∙ ap (λ t. t ++ (text_of (else_pieces n (js_otherwise otherwise)))) (text_join (((word (codes "if") ++ space) ++ ((mark m.OpenParen ++ js_expr condition n) ++ mark m.CloseParen))) (body_pieces n (js_stmt chosen))) ∙ append_assoc (text_of (((word (codes "if") ++ space) ++ ((mark m.OpenParen ++ js_expr condition n) ++ mark m.CloseParen)))) (text_of (body_pieces n (js_stmt chosen))) (text_of (else_pieces n (js_otherwise otherwise))) ∙ ap (λ t. text_of (((word (codes "if") ++ space) ++ ((mark m.OpenParen ++ js_expr condition n) ++ mark m.CloseParen))) ++ t) (refl) ∙ ap (λ t. t ++ (text_of (body_pieces n (js_stmt chosen)) ++ text_of (else_pieces n (js_otherwise otherwise)))) (text_join ((word (codes "if") ++ space)) (((mark m.OpenParen ++ js_expr condition n) ++ mark m.CloseParen))) ∙ append_assoc (text_of ((word (codes "if") ++ space))) (text_of (((mark m.OpenParen ++ js_expr condition n) ++ mark m.CloseParen))) (text_of (body_pieces n (js_stmt chosen)) ++ text_of (else_pieces n (js_otherwise otherwise))) ∙ ap (λ t. text_of ((word (codes "if") ++ space)) ++ t) (ap (λ t. t ++ (text_of (body_pieces n (js_stmt chosen)) ++ text_of (else_pieces n (js_otherwise otherwise)))) (text_join ((mark m.OpenParen ++ js_expr condition n)) (mark m.CloseParen)) ∙ append_assoc (text_of ((mark m.OpenParen ++ js_expr condition n))) (text_of (mark m.CloseParen)) (text_of (body_pieces n (js_stmt chosen)) ++ text_of (else_pieces n (js_otherwise otherwise))) ∙ ap (λ t. text_of ((mark m.OpenParen ++ js_expr condition n)) ++ t) (refl) ∙ ap (λ t. t ++ (codes ")" ++ (text_of (body_pieces n (js_stmt chosen)) ++ text_of (else_pieces n (js_otherwise otherwise))))) (text_join (mark m.OpenParen) (js_expr condition n)) ∙ append_assoc (text_of (mark m.OpenParen)) (text_of (js_expr condition n)) (codes ")" ++ (text_of (body_pieces n (js_stmt chosen)) ++ text_of (else_pieces n (js_otherwise otherwise)))) ∙ ap (λ t. text_of (mark m.OpenParen) ++ t) (refl) ∙ refl) ∙ ap (λ t. t ++ (codes "(" ++ (text_of (js_expr condition n) ++ (codes ")" ++ (text_of (body_pieces n (js_stmt chosen)) ++ text_of (else_pieces n (js_otherwise otherwise))))))) (text_join (word (codes "if")) space) ∙ append_assoc (text_of (word (codes "if"))) (text_of space) (codes "(" ++ (text_of (js_expr condition n) ++ (codes ")" ++ (text_of (body_pieces n (js_stmt chosen)) ++ text_of (else_pieces n (js_otherwise otherwise)))))) ∙ ap (λ t. text_of (word (codes "if")) ++ t) (refl) ∙ refl

pub while_stmt_lines_text : (at : ℕ) (condition : Expr) (of : Stmt) (n : ℕ) → text_of (js_lines (stmt.While at condition of) n) ≡ codes "while (" ++ (text_of (js_expr condition n) ++ (codes ")" ++ text_of (body_pieces n (js_stmt of))))
while_stmt_lines_text at condition of n = ap text_of (w.while_stmt_lines at condition of n) ∙ text_join (((word (codes "while") ++ space) ++ ((mark m.OpenParen ++ js_expr condition n) ++ mark m.CloseParen))) (body_pieces n (js_stmt of)) ∙ ap (λ t. text_of (((word (codes "while") ++ space) ++ ((mark m.OpenParen ++ js_expr condition n) ++ mark m.CloseParen))) ++ t) (refl) ∙ ap (λ t. t ++ (text_of (body_pieces n (js_stmt of)))) (text_join ((word (codes "while") ++ space)) (((mark m.OpenParen ++ js_expr condition n) ++ mark m.CloseParen))) ∙ append_assoc (text_of ((word (codes "while") ++ space))) (text_of (((mark m.OpenParen ++ js_expr condition n) ++ mark m.CloseParen))) (text_of (body_pieces n (js_stmt of))) ∙ ap (λ t. text_of ((word (codes "while") ++ space)) ++ t) (ap (λ t. t ++ (text_of (body_pieces n (js_stmt of)))) (text_join ((mark m.OpenParen ++ js_expr condition n)) (mark m.CloseParen)) ∙ append_assoc (text_of ((mark m.OpenParen ++ js_expr condition n))) (text_of (mark m.CloseParen)) (text_of (body_pieces n (js_stmt of))) ∙ ap (λ t. text_of ((mark m.OpenParen ++ js_expr condition n)) ++ t) (refl) ∙ ap (λ t. t ++ (codes ")" ++ text_of (body_pieces n (js_stmt of)))) (text_join (mark m.OpenParen) (js_expr condition n)) ∙ append_assoc (text_of (mark m.OpenParen)) (text_of (js_expr condition n)) (codes ")" ++ text_of (body_pieces n (js_stmt of))) ∙ ap (λ t. text_of (mark m.OpenParen) ++ t) (refl) ∙ refl) ∙ ap (λ t. t ++ (codes "(" ++ (text_of (js_expr condition n) ++ (codes ")" ++ text_of (body_pieces n (js_stmt of)))))) (text_join (word (codes "while")) space) ∙ append_assoc (text_of (word (codes "while"))) (text_of space) (codes "(" ++ (text_of (js_expr condition n) ++ (codes ")" ++ text_of (body_pieces n (js_stmt of))))) ∙ ap (λ t. text_of (word (codes "while")) ++ t) (refl) ∙ refl

pub do_stmt_lines_text : (at : ℕ) (of : Stmt) (condition : Expr) (n : ℕ) → text_of (js_lines (stmt.Do at of condition) n) ≡ codes "do" ++ (text_of (body_pieces n (js_stmt of)) ++ (text_of (new_line n) ++ (codes "while (" ++ (text_of (js_expr condition n) ++ codes ");"))))
do_stmt_lines_text at of condition n = ap text_of (w.do_stmt_lines at of condition n) ∙ text_join ((((((word (codes "do") ++ body_pieces n (js_stmt of)) ++ new_line n) ++ word (codes "while")) ++ space) ++ ((mark m.OpenParen ++ js_expr condition n) ++ mark m.CloseParen))) (mark m.Semicolon) ∙ ap (λ t. text_of ((((((word (codes "do") ++ body_pieces n (js_stmt of)) ++ new_line n) ++ word (codes "while")) ++ space) ++ ((mark m.OpenParen ++ js_expr condition n) ++ mark m.CloseParen))) ++ t) (refl) ∙ ap (λ t. t ++ (codes ";")) (text_join (((((word (codes "do") ++ body_pieces n (js_stmt of)) ++ new_line n) ++ word (codes "while")) ++ space)) (((mark m.OpenParen ++ js_expr condition n) ++ mark m.CloseParen))) ∙ append_assoc (text_of (((((word (codes "do") ++ body_pieces n (js_stmt of)) ++ new_line n) ++ word (codes "while")) ++ space))) (text_of (((mark m.OpenParen ++ js_expr condition n) ++ mark m.CloseParen))) (codes ";") ∙ ap (λ t. text_of (((((word (codes "do") ++ body_pieces n (js_stmt of)) ++ new_line n) ++ word (codes "while")) ++ space)) ++ t) (ap (λ t. t ++ (codes ";")) (text_join ((mark m.OpenParen ++ js_expr condition n)) (mark m.CloseParen)) ∙ append_assoc (text_of ((mark m.OpenParen ++ js_expr condition n))) (text_of (mark m.CloseParen)) (codes ";") ∙ ap (λ t. text_of ((mark m.OpenParen ++ js_expr condition n)) ++ t) (refl) ∙ ap (λ t. t ++ (codes ");")) (text_join (mark m.OpenParen) (js_expr condition n)) ∙ append_assoc (text_of (mark m.OpenParen)) (text_of (js_expr condition n)) (codes ");") ∙ ap (λ t. text_of (mark m.OpenParen) ++ t) (refl) ∙ refl) ∙ ap (λ t. t ++ (codes "(" ++ (text_of (js_expr condition n) ++ codes ");"))) (text_join ((((word (codes "do") ++ body_pieces n (js_stmt of)) ++ new_line n) ++ word (codes "while"))) space) ∙ append_assoc (text_of ((((word (codes "do") ++ body_pieces n (js_stmt of)) ++ new_line n) ++ word (codes "while")))) (text_of space) (codes "(" ++ (text_of (js_expr condition n) ++ codes ");")) ∙ ap (λ t. text_of ((((word (codes "do") ++ body_pieces n (js_stmt of)) ++ new_line n) ++ word (codes "while"))) ++ t) (refl) ∙ ap (λ t. t ++ (codes " (" ++ (text_of (js_expr condition n) ++ codes ");"))) (text_join (((word (codes "do") ++ body_pieces n (js_stmt of)) ++ new_line n)) (word (codes "while"))) ∙ append_assoc (text_of (((word (codes "do") ++ body_pieces n (js_stmt of)) ++ new_line n))) (text_of (word (codes "while"))) (codes " (" ++ (text_of (js_expr condition n) ++ codes ");")) ∙ ap (λ t. text_of (((word (codes "do") ++ body_pieces n (js_stmt of)) ++ new_line n)) ++ t) (refl) ∙ ap (λ t. t ++ (codes "while (" ++ (text_of (js_expr condition n) ++ codes ");"))) (text_join ((word (codes "do") ++ body_pieces n (js_stmt of))) (new_line n)) ∙ append_assoc (text_of ((word (codes "do") ++ body_pieces n (js_stmt of)))) (text_of (new_line n)) (codes "while (" ++ (text_of (js_expr condition n) ++ codes ");")) ∙ ap (λ t. text_of ((word (codes "do") ++ body_pieces n (js_stmt of))) ++ t) (refl) ∙ ap (λ t. t ++ (text_of (new_line n) ++ (codes "while (" ++ (text_of (js_expr condition n) ++ codes ");")))) (text_join (word (codes "do")) (body_pieces n (js_stmt of))) ∙ append_assoc (text_of (word (codes "do"))) (text_of (body_pieces n (js_stmt of))) (text_of (new_line n) ++ (codes "while (" ++ (text_of (js_expr condition n) ++ codes ");"))) ∙ ap (λ t. text_of (word (codes "do")) ++ t) (refl) ∙ refl

pub for_stmt_lines_text : (at : ℕ) (first : ForStart) (condition : Option Expr) (step : Option Expr) (of : Stmt) (n : ℕ) → text_of (js_lines (stmt.For at first condition step of) n) ≡ codes "for (" ++ (text_of (js_start first n) ++ (text_of (part_pieces n (js_optional condition)) ++ (codes ";" ++ (text_of (part_pieces n (js_optional step)) ++ (codes ")" ++ text_of (body_pieces n (js_stmt of)))))))
for_stmt_lines_text at first condition step of n = ap text_of (w.for_stmt_lines at first condition step of n) ∙ text_join (((word (codes "for") ++ space) ++ ((mark m.OpenParen ++ (((js_start first n ++ part_pieces n (js_optional condition)) ++ mark m.Semicolon) ++ part_pieces n (js_optional step))) ++ mark m.CloseParen))) (body_pieces n (js_stmt of)) ∙ ap (λ t. text_of (((word (codes "for") ++ space) ++ ((mark m.OpenParen ++ (((js_start first n ++ part_pieces n (js_optional condition)) ++ mark m.Semicolon) ++ part_pieces n (js_optional step))) ++ mark m.CloseParen))) ++ t) (refl) ∙ ap (λ t. t ++ (text_of (body_pieces n (js_stmt of)))) (text_join ((word (codes "for") ++ space)) (((mark m.OpenParen ++ (((js_start first n ++ part_pieces n (js_optional condition)) ++ mark m.Semicolon) ++ part_pieces n (js_optional step))) ++ mark m.CloseParen))) ∙ append_assoc (text_of ((word (codes "for") ++ space))) (text_of (((mark m.OpenParen ++ (((js_start first n ++ part_pieces n (js_optional condition)) ++ mark m.Semicolon) ++ part_pieces n (js_optional step))) ++ mark m.CloseParen))) (text_of (body_pieces n (js_stmt of))) ∙ ap (λ t. text_of ((word (codes "for") ++ space)) ++ t) (ap (λ t. t ++ (text_of (body_pieces n (js_stmt of)))) (text_join ((mark m.OpenParen ++ (((js_start first n ++ part_pieces n (js_optional condition)) ++ mark m.Semicolon) ++ part_pieces n (js_optional step)))) (mark m.CloseParen)) ∙ append_assoc (text_of ((mark m.OpenParen ++ (((js_start first n ++ part_pieces n (js_optional condition)) ++ mark m.Semicolon) ++ part_pieces n (js_optional step))))) (text_of (mark m.CloseParen)) (text_of (body_pieces n (js_stmt of))) ∙ ap (λ t. text_of ((mark m.OpenParen ++ (((js_start first n ++ part_pieces n (js_optional condition)) ++ mark m.Semicolon) ++ part_pieces n (js_optional step)))) ++ t) (refl) ∙ ap (λ t. t ++ (codes ")" ++ text_of (body_pieces n (js_stmt of)))) (text_join (mark m.OpenParen) ((((js_start first n ++ part_pieces n (js_optional condition)) ++ mark m.Semicolon) ++ part_pieces n (js_optional step)))) ∙ append_assoc (text_of (mark m.OpenParen)) (text_of ((((js_start first n ++ part_pieces n (js_optional condition)) ++ mark m.Semicolon) ++ part_pieces n (js_optional step)))) (codes ")" ++ text_of (body_pieces n (js_stmt of))) ∙ ap (λ t. text_of (mark m.OpenParen) ++ t) (ap (λ t. t ++ (codes ")" ++ text_of (body_pieces n (js_stmt of)))) (text_join (((js_start first n ++ part_pieces n (js_optional condition)) ++ mark m.Semicolon)) (part_pieces n (js_optional step))) ∙ append_assoc (text_of (((js_start first n ++ part_pieces n (js_optional condition)) ++ mark m.Semicolon))) (text_of (part_pieces n (js_optional step))) (codes ")" ++ text_of (body_pieces n (js_stmt of))) ∙ ap (λ t. text_of (((js_start first n ++ part_pieces n (js_optional condition)) ++ mark m.Semicolon)) ++ t) (refl) ∙ ap (λ t. t ++ (text_of (part_pieces n (js_optional step)) ++ (codes ")" ++ text_of (body_pieces n (js_stmt of))))) (text_join ((js_start first n ++ part_pieces n (js_optional condition))) (mark m.Semicolon)) ∙ append_assoc (text_of ((js_start first n ++ part_pieces n (js_optional condition)))) (text_of (mark m.Semicolon)) (text_of (part_pieces n (js_optional step)) ++ (codes ")" ++ text_of (body_pieces n (js_stmt of)))) ∙ ap (λ t. text_of ((js_start first n ++ part_pieces n (js_optional condition))) ++ t) (refl) ∙ ap (λ t. t ++ (codes ";" ++ (text_of (part_pieces n (js_optional step)) ++ (codes ")" ++ text_of (body_pieces n (js_stmt of)))))) (text_join (js_start first n) (part_pieces n (js_optional condition))) ∙ append_assoc (text_of (js_start first n)) (text_of (part_pieces n (js_optional condition))) (codes ";" ++ (text_of (part_pieces n (js_optional step)) ++ (codes ")" ++ text_of (body_pieces n (js_stmt of))))) ∙ ap (λ t. text_of (js_start first n) ++ t) (refl) ∙ refl) ∙ refl) ∙ ap (λ t. t ++ (codes "(" ++ (text_of (js_start first n) ++ (text_of (part_pieces n (js_optional condition)) ++ (codes ";" ++ (text_of (part_pieces n (js_optional step)) ++ (codes ")" ++ text_of (body_pieces n (js_stmt of))))))))) (text_join (word (codes "for")) space) ∙ append_assoc (text_of (word (codes "for"))) (text_of space) (codes "(" ++ (text_of (js_start first n) ++ (text_of (part_pieces n (js_optional condition)) ++ (codes ";" ++ (text_of (part_pieces n (js_optional step)) ++ (codes ")" ++ text_of (body_pieces n (js_stmt of)))))))) ∙ ap (λ t. text_of (word (codes "for")) ++ t) (refl) ∙ refl

pub for_of_stmt_lines_text : (at : ℕ) (kind : VarKind) (element : Identifier) (subject : Expr) (of : Stmt) (n : ℕ) → text_of (js_lines (stmt.ForOf at kind element subject of) n) ≡ codes "for (" ++ (text_of (kind_pieces kind) ++ (codes " " ++ (element.name ++ (codes " of " ++ (text_of (js_expr subject n) ++ (codes ")" ++ text_of (body_pieces n (js_stmt of))))))))
for_of_stmt_lines_text at kind element subject of n = ap text_of (w.for_of_stmt_lines at kind element subject of n) ∙ text_join (((word (codes "for") ++ space) ++ ((mark m.OpenParen ++ ((((((kind_pieces kind ++ space) ++ word element.name) ++ space) ++ word (codes "of")) ++ space) ++ js_expr subject n)) ++ mark m.CloseParen))) (body_pieces n (js_stmt of)) ∙ ap (λ t. text_of (((word (codes "for") ++ space) ++ ((mark m.OpenParen ++ ((((((kind_pieces kind ++ space) ++ word element.name) ++ space) ++ word (codes "of")) ++ space) ++ js_expr subject n)) ++ mark m.CloseParen))) ++ t) (refl) ∙ ap (λ t. t ++ (text_of (body_pieces n (js_stmt of)))) (text_join ((word (codes "for") ++ space)) (((mark m.OpenParen ++ ((((((kind_pieces kind ++ space) ++ word element.name) ++ space) ++ word (codes "of")) ++ space) ++ js_expr subject n)) ++ mark m.CloseParen))) ∙ append_assoc (text_of ((word (codes "for") ++ space))) (text_of (((mark m.OpenParen ++ ((((((kind_pieces kind ++ space) ++ word element.name) ++ space) ++ word (codes "of")) ++ space) ++ js_expr subject n)) ++ mark m.CloseParen))) (text_of (body_pieces n (js_stmt of))) ∙ ap (λ t. text_of ((word (codes "for") ++ space)) ++ t) (ap (λ t. t ++ (text_of (body_pieces n (js_stmt of)))) (text_join ((mark m.OpenParen ++ ((((((kind_pieces kind ++ space) ++ word element.name) ++ space) ++ word (codes "of")) ++ space) ++ js_expr subject n))) (mark m.CloseParen)) ∙ append_assoc (text_of ((mark m.OpenParen ++ ((((((kind_pieces kind ++ space) ++ word element.name) ++ space) ++ word (codes "of")) ++ space) ++ js_expr subject n)))) (text_of (mark m.CloseParen)) (text_of (body_pieces n (js_stmt of))) ∙ ap (λ t. text_of ((mark m.OpenParen ++ ((((((kind_pieces kind ++ space) ++ word element.name) ++ space) ++ word (codes "of")) ++ space) ++ js_expr subject n))) ++ t) (refl) ∙ ap (λ t. t ++ (codes ")" ++ text_of (body_pieces n (js_stmt of)))) (text_join (mark m.OpenParen) (((((((kind_pieces kind ++ space) ++ word element.name) ++ space) ++ word (codes "of")) ++ space) ++ js_expr subject n))) ∙ append_assoc (text_of (mark m.OpenParen)) (text_of (((((((kind_pieces kind ++ space) ++ word element.name) ++ space) ++ word (codes "of")) ++ space) ++ js_expr subject n))) (codes ")" ++ text_of (body_pieces n (js_stmt of))) ∙ ap (λ t. text_of (mark m.OpenParen) ++ t) (ap (λ t. t ++ (codes ")" ++ text_of (body_pieces n (js_stmt of)))) (text_join ((((((kind_pieces kind ++ space) ++ word element.name) ++ space) ++ word (codes "of")) ++ space)) (js_expr subject n)) ∙ append_assoc (text_of ((((((kind_pieces kind ++ space) ++ word element.name) ++ space) ++ word (codes "of")) ++ space))) (text_of (js_expr subject n)) (codes ")" ++ text_of (body_pieces n (js_stmt of))) ∙ ap (λ t. text_of ((((((kind_pieces kind ++ space) ++ word element.name) ++ space) ++ word (codes "of")) ++ space)) ++ t) (refl) ∙ ap (λ t. t ++ (text_of (js_expr subject n) ++ (codes ")" ++ text_of (body_pieces n (js_stmt of))))) (text_join (((((kind_pieces kind ++ space) ++ word element.name) ++ space) ++ word (codes "of"))) space) ∙ append_assoc (text_of (((((kind_pieces kind ++ space) ++ word element.name) ++ space) ++ word (codes "of")))) (text_of space) (text_of (js_expr subject n) ++ (codes ")" ++ text_of (body_pieces n (js_stmt of)))) ∙ ap (λ t. text_of (((((kind_pieces kind ++ space) ++ word element.name) ++ space) ++ word (codes "of"))) ++ t) (refl) ∙ ap (λ t. t ++ (codes " " ++ (text_of (js_expr subject n) ++ (codes ")" ++ text_of (body_pieces n (js_stmt of)))))) (text_join ((((kind_pieces kind ++ space) ++ word element.name) ++ space)) (word (codes "of"))) ∙ append_assoc (text_of ((((kind_pieces kind ++ space) ++ word element.name) ++ space))) (text_of (word (codes "of"))) (codes " " ++ (text_of (js_expr subject n) ++ (codes ")" ++ text_of (body_pieces n (js_stmt of))))) ∙ ap (λ t. text_of ((((kind_pieces kind ++ space) ++ word element.name) ++ space)) ++ t) (refl) ∙ ap (λ t. t ++ (codes "of " ++ (text_of (js_expr subject n) ++ (codes ")" ++ text_of (body_pieces n (js_stmt of)))))) (text_join (((kind_pieces kind ++ space) ++ word element.name)) space) ∙ append_assoc (text_of (((kind_pieces kind ++ space) ++ word element.name))) (text_of space) (codes "of " ++ (text_of (js_expr subject n) ++ (codes ")" ++ text_of (body_pieces n (js_stmt of))))) ∙ ap (λ t. text_of (((kind_pieces kind ++ space) ++ word element.name)) ++ t) (refl) ∙ ap (λ t. t ++ (codes " of " ++ (text_of (js_expr subject n) ++ (codes ")" ++ text_of (body_pieces n (js_stmt of)))))) (text_join ((kind_pieces kind ++ space)) (word element.name)) ∙ append_assoc (text_of ((kind_pieces kind ++ space))) (text_of (word element.name)) (codes " of " ++ (text_of (js_expr subject n) ++ (codes ")" ++ text_of (body_pieces n (js_stmt of))))) ∙ ap (λ t. text_of ((kind_pieces kind ++ space)) ++ t) (ap (λ t. t ++ (codes " of " ++ (text_of (js_expr subject n) ++ (codes ")" ++ text_of (body_pieces n (js_stmt of)))))) (append-nil element.name)) ∙ ap (λ t. t ++ (element.name ++ (codes " of " ++ (text_of (js_expr subject n) ++ (codes ")" ++ text_of (body_pieces n (js_stmt of))))))) (text_join (kind_pieces kind) space) ∙ append_assoc (text_of (kind_pieces kind)) (text_of space) (element.name ++ (codes " of " ++ (text_of (js_expr subject n) ++ (codes ")" ++ text_of (body_pieces n (js_stmt of)))))) ∙ ap (λ t. text_of (kind_pieces kind) ++ t) (refl) ∙ refl) ∙ refl) ∙ ap (λ t. t ++ (codes "(" ++ (text_of (kind_pieces kind) ++ (codes " " ++ (element.name ++ (codes " of " ++ (text_of (js_expr subject n) ++ (codes ")" ++ text_of (body_pieces n (js_stmt of)))))))))) (text_join (word (codes "for")) space) ∙ append_assoc (text_of (word (codes "for"))) (text_of space) (codes "(" ++ (text_of (kind_pieces kind) ++ (codes " " ++ (element.name ++ (codes " of " ++ (text_of (js_expr subject n) ++ (codes ")" ++ text_of (body_pieces n (js_stmt of))))))))) ∙ ap (λ t. text_of (word (codes "for")) ++ t) (refl) ∙ refl

pub return_stmt_none_lines_text : (at : ℕ) (n : ℕ) → text_of (js_lines (stmt.Return at None) n) ≡ codes "return;"
return_stmt_none_lines_text at n = ap text_of (w.return_stmt_none_lines at n) ∙ text_join (word (codes "return")) (mark m.Semicolon) ∙ ap (λ t. text_of (word (codes "return")) ++ t) (refl) ∙ refl

pub return_stmt_some_lines_text : (at : ℕ) (value_part : Expr) (n : ℕ) → text_of (js_lines (stmt.Return at (Some value_part)) n) ≡ codes "return " ++ (text_of (js_expr value_part n) ++ codes ";")
return_stmt_some_lines_text at value_part n = ap text_of (w.return_stmt_some_lines at value_part n) ∙ text_join (((word (codes "return") ++ space) ++ js_expr value_part n)) (mark m.Semicolon) ∙ ap (λ t. text_of (((word (codes "return") ++ space) ++ js_expr value_part n)) ++ t) (refl) ∙ ap (λ t. t ++ (codes ";")) (text_join ((word (codes "return") ++ space)) (js_expr value_part n)) ∙ append_assoc (text_of ((word (codes "return") ++ space))) (text_of (js_expr value_part n)) (codes ";") ∙ ap (λ t. text_of ((word (codes "return") ++ space)) ++ t) (refl) ∙ ap (λ t. t ++ (text_of (js_expr value_part n) ++ codes ";")) (text_join (word (codes "return")) space) ∙ append_assoc (text_of (word (codes "return"))) (text_of space) (text_of (js_expr value_part n) ++ codes ";") ∙ ap (λ t. text_of (word (codes "return")) ++ t) (refl) ∙ refl

pub break_stmt_lines_text : (at : ℕ) (n : ℕ) → text_of (js_lines (stmt.Break at) n) ≡ codes "break;"
break_stmt_lines_text at n = ap text_of (w.break_stmt_lines at n) ∙ text_join (word (codes "break")) (mark m.Semicolon) ∙ ap (λ t. text_of (word (codes "break")) ++ t) (refl) ∙ refl

pub continue_stmt_lines_text : (at : ℕ) (n : ℕ) → text_of (js_lines (stmt.Continue at) n) ≡ codes "continue;"
continue_stmt_lines_text at n = ap text_of (w.continue_stmt_lines at n) ∙ text_join (word (codes "continue")) (mark m.Semicolon) ∙ ap (λ t. text_of (word (codes "continue")) ++ t) (refl) ∙ refl

pub throw_stmt_lines_text : (at : ℕ) (value : Expr) (n : ℕ) → text_of (js_lines (stmt.Throw at value) n) ≡ codes "throw " ++ (text_of (js_expr value n) ++ codes ";")
throw_stmt_lines_text at value n = ap text_of (w.throw_stmt_lines at value n) ∙ text_join (((word (codes "throw") ++ space) ++ js_expr value n)) (mark m.Semicolon) ∙ ap (λ t. text_of (((word (codes "throw") ++ space) ++ js_expr value n)) ++ t) (refl) ∙ ap (λ t. t ++ (codes ";")) (text_join ((word (codes "throw") ++ space)) (js_expr value n)) ∙ append_assoc (text_of ((word (codes "throw") ++ space))) (text_of (js_expr value n)) (codes ";") ∙ ap (λ t. text_of ((word (codes "throw") ++ space)) ++ t) (refl) ∙ ap (λ t. t ++ (text_of (js_expr value n) ++ codes ";")) (text_join (word (codes "throw")) space) ∙ append_assoc (text_of (word (codes "throw"))) (text_of space) (text_of (js_expr value n) ++ codes ";") ∙ ap (λ t. text_of (word (codes "throw")) ++ t) (refl) ∙ refl

pub switch_stmt_lines_text : (at : ℕ) (subject : Expr) (clauses : List Clause) (n : ℕ) → text_of (js_lines (stmt.Switch at subject clauses) n) ≡ codes "switch (" ++ (text_of (js_expr subject n) ++ (codes ") {" ++ (text_of (lines n (map js_clause clauses)) ++ (text_of (new_line n) ++ codes "}"))))
switch_stmt_lines_text at subject clauses n = ap text_of (w.switch_stmt_lines at subject clauses n) ∙ text_join (((((((word (codes "switch") ++ space) ++ ((mark m.OpenParen ++ js_expr subject n) ++ mark m.CloseParen)) ++ space) ++ mark m.OpenBrace) ++ lines n (map js_clause clauses)) ++ new_line n)) (mark m.CloseBrace) ∙ ap (λ t. text_of (((((((word (codes "switch") ++ space) ++ ((mark m.OpenParen ++ js_expr subject n) ++ mark m.CloseParen)) ++ space) ++ mark m.OpenBrace) ++ lines n (map js_clause clauses)) ++ new_line n)) ++ t) (refl) ∙ ap (λ t. t ++ (codes "}")) (text_join ((((((word (codes "switch") ++ space) ++ ((mark m.OpenParen ++ js_expr subject n) ++ mark m.CloseParen)) ++ space) ++ mark m.OpenBrace) ++ lines n (map js_clause clauses))) (new_line n)) ∙ append_assoc (text_of ((((((word (codes "switch") ++ space) ++ ((mark m.OpenParen ++ js_expr subject n) ++ mark m.CloseParen)) ++ space) ++ mark m.OpenBrace) ++ lines n (map js_clause clauses)))) (text_of (new_line n)) (codes "}") ∙ ap (λ t. text_of ((((((word (codes "switch") ++ space) ++ ((mark m.OpenParen ++ js_expr subject n) ++ mark m.CloseParen)) ++ space) ++ mark m.OpenBrace) ++ lines n (map js_clause clauses))) ++ t) (refl) ∙ ap (λ t. t ++ (text_of (new_line n) ++ codes "}")) (text_join (((((word (codes "switch") ++ space) ++ ((mark m.OpenParen ++ js_expr subject n) ++ mark m.CloseParen)) ++ space) ++ mark m.OpenBrace)) (lines n (map js_clause clauses))) ∙ append_assoc (text_of (((((word (codes "switch") ++ space) ++ ((mark m.OpenParen ++ js_expr subject n) ++ mark m.CloseParen)) ++ space) ++ mark m.OpenBrace))) (text_of (lines n (map js_clause clauses))) (text_of (new_line n) ++ codes "}") ∙ ap (λ t. text_of (((((word (codes "switch") ++ space) ++ ((mark m.OpenParen ++ js_expr subject n) ++ mark m.CloseParen)) ++ space) ++ mark m.OpenBrace)) ++ t) (refl) ∙ ap (λ t. t ++ (text_of (lines n (map js_clause clauses)) ++ (text_of (new_line n) ++ codes "}"))) (text_join ((((word (codes "switch") ++ space) ++ ((mark m.OpenParen ++ js_expr subject n) ++ mark m.CloseParen)) ++ space)) (mark m.OpenBrace)) ∙ append_assoc (text_of ((((word (codes "switch") ++ space) ++ ((mark m.OpenParen ++ js_expr subject n) ++ mark m.CloseParen)) ++ space))) (text_of (mark m.OpenBrace)) (text_of (lines n (map js_clause clauses)) ++ (text_of (new_line n) ++ codes "}")) ∙ ap (λ t. text_of ((((word (codes "switch") ++ space) ++ ((mark m.OpenParen ++ js_expr subject n) ++ mark m.CloseParen)) ++ space)) ++ t) (refl) ∙ ap (λ t. t ++ (codes "{" ++ (text_of (lines n (map js_clause clauses)) ++ (text_of (new_line n) ++ codes "}")))) (text_join (((word (codes "switch") ++ space) ++ ((mark m.OpenParen ++ js_expr subject n) ++ mark m.CloseParen))) space) ∙ append_assoc (text_of (((word (codes "switch") ++ space) ++ ((mark m.OpenParen ++ js_expr subject n) ++ mark m.CloseParen)))) (text_of space) (codes "{" ++ (text_of (lines n (map js_clause clauses)) ++ (text_of (new_line n) ++ codes "}"))) ∙ ap (λ t. text_of (((word (codes "switch") ++ space) ++ ((mark m.OpenParen ++ js_expr subject n) ++ mark m.CloseParen))) ++ t) (refl) ∙ ap (λ t. t ++ (codes " {" ++ (text_of (lines n (map js_clause clauses)) ++ (text_of (new_line n) ++ codes "}")))) (text_join ((word (codes "switch") ++ space)) (((mark m.OpenParen ++ js_expr subject n) ++ mark m.CloseParen))) ∙ append_assoc (text_of ((word (codes "switch") ++ space))) (text_of (((mark m.OpenParen ++ js_expr subject n) ++ mark m.CloseParen))) (codes " {" ++ (text_of (lines n (map js_clause clauses)) ++ (text_of (new_line n) ++ codes "}"))) ∙ ap (λ t. text_of ((word (codes "switch") ++ space)) ++ t) (ap (λ t. t ++ (codes " {" ++ (text_of (lines n (map js_clause clauses)) ++ (text_of (new_line n) ++ codes "}")))) (text_join ((mark m.OpenParen ++ js_expr subject n)) (mark m.CloseParen)) ∙ append_assoc (text_of ((mark m.OpenParen ++ js_expr subject n))) (text_of (mark m.CloseParen)) (codes " {" ++ (text_of (lines n (map js_clause clauses)) ++ (text_of (new_line n) ++ codes "}"))) ∙ ap (λ t. text_of ((mark m.OpenParen ++ js_expr subject n)) ++ t) (refl) ∙ ap (λ t. t ++ (codes ") {" ++ (text_of (lines n (map js_clause clauses)) ++ (text_of (new_line n) ++ codes "}")))) (text_join (mark m.OpenParen) (js_expr subject n)) ∙ append_assoc (text_of (mark m.OpenParen)) (text_of (js_expr subject n)) (codes ") {" ++ (text_of (lines n (map js_clause clauses)) ++ (text_of (new_line n) ++ codes "}"))) ∙ ap (λ t. text_of (mark m.OpenParen) ++ t) (refl) ∙ refl) ∙ ap (λ t. t ++ (codes "(" ++ (text_of (js_expr subject n) ++ (codes ") {" ++ (text_of (lines n (map js_clause clauses)) ++ (text_of (new_line n) ++ codes "}")))))) (text_join (word (codes "switch")) space) ∙ append_assoc (text_of (word (codes "switch"))) (text_of space) (codes "(" ++ (text_of (js_expr subject n) ++ (codes ") {" ++ (text_of (lines n (map js_clause clauses)) ++ (text_of (new_line n) ++ codes "}"))))) ∙ ap (λ t. text_of (word (codes "switch")) ++ t) (refl) ∙ refl

pub expr_stmt_lines_text : (at : ℕ) (value : Expr) (n : ℕ) → text_of (js_lines (stmt.Expr at value) n) ≡ text_of (js_expr value n) ++ codes ";"
expr_stmt_lines_text at value n = ap text_of (w.expr_stmt_lines at value n) ∙ text_join (js_expr value n) (mark m.Semicolon) ∙ ap (λ t. text_of (js_expr value n) ++ t) (refl) ∙ refl

pub empty_stmt_lines_text : (at : ℕ) (n : ℕ) → text_of (js_lines (stmt.Empty at) n) ≡ codes ";"
empty_stmt_lines_text at n = ap text_of (w.empty_stmt_lines at n)

abbrev pub said_declarator : Declarator-F ArrowBody BlockItem Clause Expr ForStart Prop Stmt Block Declarator Function Param TemplateSpan Var → ℕ → List ℕ
said_declarator layer n = layer.name ++ text_of (value_pieces n (js_optional layer.value))

declarator_said : (layer : Declarator-F ArrowBody BlockItem Clause Expr ForStart Prop Stmt Block Declarator Function Param TemplateSpan Var) (n : ℕ) → text_of (w.open_declarator layer n) ≡ said_declarator layer n
declarator_said layer n = text_join (word layer.name) (value_pieces n (js_optional layer.value)) ∙ ap (λ t. text_of (word layer.name) ++ t) (refl) ∙ ap (λ t. t ++ (text_of (value_pieces n (js_optional layer.value)))) (append-nil layer.name)

pub declarator_text : (of : Declarator) (n : ℕ) → text_of (js_declarator of n) ≡ said_declarator (out-Declarator of) n
declarator_text of n = ap text_of (w.declarator_out of n) ∙ declarator_said (out-Declarator of) n

abbrev pub said_function : Function-F ArrowBody BlockItem Clause Expr ForStart Prop Stmt Block Declarator Function Param TemplateSpan Var → ℕ → List ℕ
said_function layer n = codes "function " ++ (layer.name ++ (codes "(" ++ (text_of (laid_list n (map js_param layer.params)) ++ (codes ") " ++ text_of (js_block layer.body n)))))

function_said : (layer : Function-F ArrowBody BlockItem Clause Expr ForStart Prop Stmt Block Declarator Function Param TemplateSpan Var) (n : ℕ) → text_of (w.open_function layer n) ≡ said_function layer n
function_said layer n = text_join (((((word (codes "function") ++ space) ++ word layer.name) ++ ((mark m.OpenParen ++ laid_list n (map js_param layer.params)) ++ mark m.CloseParen)) ++ space)) (js_block layer.body n) ∙ ap (λ t. text_of (((((word (codes "function") ++ space) ++ word layer.name) ++ ((mark m.OpenParen ++ laid_list n (map js_param layer.params)) ++ mark m.CloseParen)) ++ space)) ++ t) (refl) ∙ ap (λ t. t ++ (text_of (js_block layer.body n))) (text_join ((((word (codes "function") ++ space) ++ word layer.name) ++ ((mark m.OpenParen ++ laid_list n (map js_param layer.params)) ++ mark m.CloseParen))) space) ∙ append_assoc (text_of ((((word (codes "function") ++ space) ++ word layer.name) ++ ((mark m.OpenParen ++ laid_list n (map js_param layer.params)) ++ mark m.CloseParen)))) (text_of space) (text_of (js_block layer.body n)) ∙ ap (λ t. text_of ((((word (codes "function") ++ space) ++ word layer.name) ++ ((mark m.OpenParen ++ laid_list n (map js_param layer.params)) ++ mark m.CloseParen))) ++ t) (refl) ∙ ap (λ t. t ++ (codes " " ++ text_of (js_block layer.body n))) (text_join (((word (codes "function") ++ space) ++ word layer.name)) (((mark m.OpenParen ++ laid_list n (map js_param layer.params)) ++ mark m.CloseParen))) ∙ append_assoc (text_of (((word (codes "function") ++ space) ++ word layer.name))) (text_of (((mark m.OpenParen ++ laid_list n (map js_param layer.params)) ++ mark m.CloseParen))) (codes " " ++ text_of (js_block layer.body n)) ∙ ap (λ t. text_of (((word (codes "function") ++ space) ++ word layer.name)) ++ t) (ap (λ t. t ++ (codes " " ++ text_of (js_block layer.body n))) (text_join ((mark m.OpenParen ++ laid_list n (map js_param layer.params))) (mark m.CloseParen)) ∙ append_assoc (text_of ((mark m.OpenParen ++ laid_list n (map js_param layer.params)))) (text_of (mark m.CloseParen)) (codes " " ++ text_of (js_block layer.body n)) ∙ ap (λ t. text_of ((mark m.OpenParen ++ laid_list n (map js_param layer.params))) ++ t) (refl) ∙ ap (λ t. t ++ (codes ") " ++ text_of (js_block layer.body n))) (text_join (mark m.OpenParen) (laid_list n (map js_param layer.params))) ∙ append_assoc (text_of (mark m.OpenParen)) (text_of (laid_list n (map js_param layer.params))) (codes ") " ++ text_of (js_block layer.body n)) ∙ ap (λ t. text_of (mark m.OpenParen) ++ t) (refl) ∙ refl) ∙ ap (λ t. t ++ (codes "(" ++ (text_of (laid_list n (map js_param layer.params)) ++ (codes ") " ++ text_of (js_block layer.body n))))) (text_join ((word (codes "function") ++ space)) (word layer.name)) ∙ append_assoc (text_of ((word (codes "function") ++ space))) (text_of (word layer.name)) (codes "(" ++ (text_of (laid_list n (map js_param layer.params)) ++ (codes ") " ++ text_of (js_block layer.body n)))) ∙ ap (λ t. text_of ((word (codes "function") ++ space)) ++ t) (ap (λ t. t ++ (codes "(" ++ (text_of (laid_list n (map js_param layer.params)) ++ (codes ") " ++ text_of (js_block layer.body n))))) (append-nil layer.name)) ∙ ap (λ t. t ++ (layer.name ++ (codes "(" ++ (text_of (laid_list n (map js_param layer.params)) ++ (codes ") " ++ text_of (js_block layer.body n)))))) (text_join (word (codes "function")) space) ∙ append_assoc (text_of (word (codes "function"))) (text_of space) (layer.name ++ (codes "(" ++ (text_of (laid_list n (map js_param layer.params)) ++ (codes ") " ++ text_of (js_block layer.body n))))) ∙ ap (λ t. text_of (word (codes "function")) ++ t) (refl) ∙ refl

pub function_text : (of : Function) (n : ℕ) → text_of (js_function of n) ≡ said_function (out-Function of) n
function_text of n = ap text_of (w.function_out of n) ∙ function_said (out-Function of) n

abbrev pub said_param : Param-F ArrowBody BlockItem Clause Expr ForStart Prop Stmt Block Declarator Function Param TemplateSpan Var → ℕ → List ℕ
said_param layer n = layer.name ++ text_of (value_pieces n (js_optional layer.value))

param_said : (layer : Param-F ArrowBody BlockItem Clause Expr ForStart Prop Stmt Block Declarator Function Param TemplateSpan Var) (n : ℕ) → text_of (w.open_param layer n) ≡ said_param layer n
param_said layer n = text_join (word layer.name) (value_pieces n (js_optional layer.value)) ∙ ap (λ t. text_of (word layer.name) ++ t) (refl) ∙ ap (λ t. t ++ (text_of (value_pieces n (js_optional layer.value)))) (append-nil layer.name)

pub param_text : (of : Param) (n : ℕ) → text_of (js_param of n) ≡ said_param (out-Param of) n
param_text of n = ap text_of (w.param_out of n) ∙ param_said (out-Param of) n

abbrev pub said_var : Var-F ArrowBody BlockItem Clause Expr ForStart Prop Stmt Block Declarator Function Param TemplateSpan Var → ℕ → List ℕ
said_var layer n = text_of (kind_pieces layer.kind) ++ (codes " " ++ (text_of (laid_list n (map js_declarator layer.declarators)) ++ codes ";"))

var_said : (layer : Var-F ArrowBody BlockItem Clause Expr ForStart Prop Stmt Block Declarator Function Param TemplateSpan Var) (n : ℕ) → text_of (w.open_var layer n) ≡ said_var layer n
var_said layer n = text_join (((kind_pieces layer.kind ++ space) ++ laid_list n (map js_declarator layer.declarators))) (mark m.Semicolon) ∙ ap (λ t. text_of (((kind_pieces layer.kind ++ space) ++ laid_list n (map js_declarator layer.declarators))) ++ t) (refl) ∙ ap (λ t. t ++ (codes ";")) (text_join ((kind_pieces layer.kind ++ space)) (laid_list n (map js_declarator layer.declarators))) ∙ append_assoc (text_of ((kind_pieces layer.kind ++ space))) (text_of (laid_list n (map js_declarator layer.declarators))) (codes ";") ∙ ap (λ t. text_of ((kind_pieces layer.kind ++ space)) ++ t) (refl) ∙ ap (λ t. t ++ (text_of (laid_list n (map js_declarator layer.declarators)) ++ codes ";")) (text_join (kind_pieces layer.kind) space) ∙ append_assoc (text_of (kind_pieces layer.kind)) (text_of space) (text_of (laid_list n (map js_declarator layer.declarators)) ++ codes ";") ∙ ap (λ t. text_of (kind_pieces layer.kind) ++ t) (refl) ∙ refl

pub var_text : (of : Var) (n : ℕ) → text_of (js_var of n) ≡ said_var (out-Var of) n
var_text of n = ap text_of (w.var_out of n) ∙ var_said (out-Var of) n

pub field_member_text : (at : ℕ) (is_static : Bool) (read_only : Bool) (name : List ℕ) (optional : Bool) (annotation : Option TypeExpr) (value : Option Expr) (n : ℕ) → text_of (js_member (class_member.Field at is_static read_only name optional annotation value) n) ≡ text_of (static_pieces is_static) ++ (name ++ (text_of (value_pieces n (js_optional value)) ++ codes ";"))
field_member_text at is_static read_only name optional annotation value n = ap text_of (w.field_member at is_static read_only name optional annotation value n) ∙ text_join (((static_pieces is_static ++ word name) ++ value_pieces n (js_optional value))) (mark m.Semicolon) ∙ ap (λ t. text_of (((static_pieces is_static ++ word name) ++ value_pieces n (js_optional value))) ++ t) (refl) ∙ ap (λ t. t ++ (codes ";")) (text_join ((static_pieces is_static ++ word name)) (value_pieces n (js_optional value))) ∙ append_assoc (text_of ((static_pieces is_static ++ word name))) (text_of (value_pieces n (js_optional value))) (codes ";") ∙ ap (λ t. text_of ((static_pieces is_static ++ word name)) ++ t) (refl) ∙ ap (λ t. t ++ (text_of (value_pieces n (js_optional value)) ++ codes ";")) (text_join (static_pieces is_static) (word name)) ∙ append_assoc (text_of (static_pieces is_static)) (text_of (word name)) (text_of (value_pieces n (js_optional value)) ++ codes ";") ∙ ap (λ t. text_of (static_pieces is_static) ++ t) (ap (λ t. t ++ (text_of (value_pieces n (js_optional value)) ++ codes ";")) (append-nil name)) ∙ refl

pub constructor_member_text : (at : ℕ) (params : List Param) (of : Block) (n : ℕ) → text_of (js_member (class_member.Constructor at params of) n) ≡ codes "constructor(" ++ (text_of (laid_list n (map js_param params)) ++ (codes ") " ++ text_of (js_block of n)))
constructor_member_text at params of n = ap text_of (w.constructor_member at params of n) ∙ text_join (((word (codes "constructor") ++ ((mark m.OpenParen ++ laid_list n (map js_param params)) ++ mark m.CloseParen)) ++ space)) (js_block of n) ∙ ap (λ t. text_of (((word (codes "constructor") ++ ((mark m.OpenParen ++ laid_list n (map js_param params)) ++ mark m.CloseParen)) ++ space)) ++ t) (refl) ∙ ap (λ t. t ++ (text_of (js_block of n))) (text_join ((word (codes "constructor") ++ ((mark m.OpenParen ++ laid_list n (map js_param params)) ++ mark m.CloseParen))) space) ∙ append_assoc (text_of ((word (codes "constructor") ++ ((mark m.OpenParen ++ laid_list n (map js_param params)) ++ mark m.CloseParen)))) (text_of space) (text_of (js_block of n)) ∙ ap (λ t. text_of ((word (codes "constructor") ++ ((mark m.OpenParen ++ laid_list n (map js_param params)) ++ mark m.CloseParen))) ++ t) (refl) ∙ ap (λ t. t ++ (codes " " ++ text_of (js_block of n))) (text_join (word (codes "constructor")) (((mark m.OpenParen ++ laid_list n (map js_param params)) ++ mark m.CloseParen))) ∙ append_assoc (text_of (word (codes "constructor"))) (text_of (((mark m.OpenParen ++ laid_list n (map js_param params)) ++ mark m.CloseParen))) (codes " " ++ text_of (js_block of n)) ∙ ap (λ t. text_of (word (codes "constructor")) ++ t) (ap (λ t. t ++ (codes " " ++ text_of (js_block of n))) (text_join ((mark m.OpenParen ++ laid_list n (map js_param params))) (mark m.CloseParen)) ∙ append_assoc (text_of ((mark m.OpenParen ++ laid_list n (map js_param params)))) (text_of (mark m.CloseParen)) (codes " " ++ text_of (js_block of n)) ∙ ap (λ t. text_of ((mark m.OpenParen ++ laid_list n (map js_param params))) ++ t) (refl) ∙ ap (λ t. t ++ (codes ") " ++ text_of (js_block of n))) (text_join (mark m.OpenParen) (laid_list n (map js_param params))) ∙ append_assoc (text_of (mark m.OpenParen)) (text_of (laid_list n (map js_param params))) (codes ") " ++ text_of (js_block of n)) ∙ ap (λ t. text_of (mark m.OpenParen) ++ t) (refl) ∙ refl) ∙ refl

pub method_member_text : (at : ℕ) (is_static : Bool) (name : List ℕ) (params : List Param) (result : Option TypeExpr) (of : Block) (n : ℕ) → text_of (js_member (class_member.Method at is_static name params result of) n) ≡ text_of (static_pieces is_static) ++ (name ++ (codes "(" ++ (text_of (laid_list n (map js_param params)) ++ (codes ") " ++ text_of (js_block of n)))))
method_member_text at is_static name params result of n = ap text_of (w.method_member at is_static name params result of n) ∙ text_join ((((static_pieces is_static ++ word name) ++ ((mark m.OpenParen ++ laid_list n (map js_param params)) ++ mark m.CloseParen)) ++ space)) (js_block of n) ∙ ap (λ t. text_of ((((static_pieces is_static ++ word name) ++ ((mark m.OpenParen ++ laid_list n (map js_param params)) ++ mark m.CloseParen)) ++ space)) ++ t) (refl) ∙ ap (λ t. t ++ (text_of (js_block of n))) (text_join (((static_pieces is_static ++ word name) ++ ((mark m.OpenParen ++ laid_list n (map js_param params)) ++ mark m.CloseParen))) space) ∙ append_assoc (text_of (((static_pieces is_static ++ word name) ++ ((mark m.OpenParen ++ laid_list n (map js_param params)) ++ mark m.CloseParen)))) (text_of space) (text_of (js_block of n)) ∙ ap (λ t. text_of (((static_pieces is_static ++ word name) ++ ((mark m.OpenParen ++ laid_list n (map js_param params)) ++ mark m.CloseParen))) ++ t) (refl) ∙ ap (λ t. t ++ (codes " " ++ text_of (js_block of n))) (text_join ((static_pieces is_static ++ word name)) (((mark m.OpenParen ++ laid_list n (map js_param params)) ++ mark m.CloseParen))) ∙ append_assoc (text_of ((static_pieces is_static ++ word name))) (text_of (((mark m.OpenParen ++ laid_list n (map js_param params)) ++ mark m.CloseParen))) (codes " " ++ text_of (js_block of n)) ∙ ap (λ t. text_of ((static_pieces is_static ++ word name)) ++ t) (ap (λ t. t ++ (codes " " ++ text_of (js_block of n))) (text_join ((mark m.OpenParen ++ laid_list n (map js_param params))) (mark m.CloseParen)) ∙ append_assoc (text_of ((mark m.OpenParen ++ laid_list n (map js_param params)))) (text_of (mark m.CloseParen)) (codes " " ++ text_of (js_block of n)) ∙ ap (λ t. text_of ((mark m.OpenParen ++ laid_list n (map js_param params))) ++ t) (refl) ∙ ap (λ t. t ++ (codes ") " ++ text_of (js_block of n))) (text_join (mark m.OpenParen) (laid_list n (map js_param params))) ∙ append_assoc (text_of (mark m.OpenParen)) (text_of (laid_list n (map js_param params))) (codes ") " ++ text_of (js_block of n)) ∙ ap (λ t. text_of (mark m.OpenParen) ++ t) (refl) ∙ refl) ∙ ap (λ t. t ++ (codes "(" ++ (text_of (laid_list n (map js_param params)) ++ (codes ") " ++ text_of (js_block of n))))) (text_join (static_pieces is_static) (word name)) ∙ append_assoc (text_of (static_pieces is_static)) (text_of (word name)) (codes "(" ++ (text_of (laid_list n (map js_param params)) ++ (codes ") " ++ text_of (js_block of n)))) ∙ ap (λ t. text_of (static_pieces is_static) ++ t) (ap (λ t. t ++ (codes "(" ++ (text_of (laid_list n (map js_param params)) ++ (codes ") " ++ text_of (js_block of n))))) (append-nil name)) ∙ refl

abbrev pub said_span : TemplateSpan-F ArrowBody BlockItem Clause Expr ForStart Prop Stmt Block Declarator Function Param TemplateSpan Var → ℕ → List ℕ
said_span layer n = text_of (js_expr layer.value n) ++ layer.text

pub span_text_out : (of : TemplateSpan) (n : ℕ) → span_text (js_span of n) ≡ said_span (out-TemplateSpan of) n
span_text_out of n = ap span_text (w.span_out of n)

pub template_expr_text : (at : ℕ) (head : List ℕ) (spans : List TemplateSpan) (n : ℕ) → text_of (js_expr (expr.Template at head spans) n) ≡ head ++ flat_map (λ of. span_text (js_span of n)) spans
template_expr_text at head spans n = ap text_of (w.template_expr at head spans n) ∙ template_text js_span n head spans

pub update_expr_text : (at : ℕ) (operator : UpdateOperator) (before : Bool) (target : Expr) (n : ℕ)
    → text_of (js_expr (expr.Update at operator before target) n) ≡ before_text operator before ++ (text_of (js_expr target n) ++ behind_text operator before)
update_expr_text at operator true target n =
    update_before_expr_text at operator target n ∙ ap (λ t. mark_text (update_mark operator) ++ t) (sym (append-nil (text_of (js_expr target n))))
update_expr_text at operator false target n = update_behind_expr_text at operator target n

pub return_stmt_lines_text : (at : ℕ) (value : Option Expr) (n : ℕ)
    → text_of (js_lines (stmt.Return at value) n) ≡ codes "return" ++ (text_of (part_pieces n (js_optional value)) ++ codes ";")
return_stmt_lines_text at None n = return_stmt_none_lines_text at n
return_stmt_lines_text at (Some value) n = return_stmt_some_lines_text at value n

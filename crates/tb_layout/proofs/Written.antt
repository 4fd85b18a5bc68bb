-- What the layout of a tree, once its types are erased, is by those of its parts.
use Rattle.std.proofs.Common.{◌≡◌, ℕ, Bool, true, false, List, [], ◌∷◌, ◌++◌, map, codes, Option, Some, None, refl, ◌∙◌, ap}
use Rattle.tb_tree.specs.declared.marks.Mark.TheVariants as m
use Rattle.tb_tree.specs.declared.words.Class.TheVariants as c
use Rattle.tb_tree.specs.declared.types.Key.{Key}
use Rattle.tb_tree.specs.declared.types.TypeExpr.{TypeExpr}
use Rattle.tb_tree.specs.declared.exprs.Identifier.{Identifier}
use Rattle.tb_tree.specs.declared.exprs.UnaryOperator.{UnaryOperator}
use Rattle.tb_tree.specs.declared.exprs.UpdateOperator.{UpdateOperator}
use Rattle.tb_tree.specs.declared.exprs.BinaryOperator.{BinaryOperator}
use Rattle.tb_tree.specs.declared.exprs.AssignOperator.{AssignOperator}
use Rattle.tb_tree.specs.declared.exprs.VarKind.{VarKind}
use Rattle.tb_tree.specs.declared.exprs.ArrowBody.{ArrowBody}
use Rattle.tb_tree.specs.declared.exprs.BlockItem.{BlockItem}
use Rattle.tb_tree.specs.declared.exprs.Clause.{Clause}
use Rattle.tb_tree.specs.declared.exprs.Expr.{Expr}
use Rattle.tb_tree.specs.declared.exprs.ForStart.{ForStart}
use Rattle.tb_tree.specs.declared.exprs.Prop.{Prop}
use Rattle.tb_tree.specs.declared.exprs.Stmt.{Stmt}
use Rattle.tb_tree.specs.declared.exprs.Block.{Block, out-Block, roll-Block}
use Rattle.tb_tree.specs.declared.exprs.Declarator.{Declarator, out-Declarator, roll-Declarator}
use Rattle.tb_tree.specs.declared.exprs.Function.{Function, out-Function, roll-Function}
use Rattle.tb_tree.specs.declared.exprs.Param.{Param, out-Param, roll-Param}
use Rattle.tb_tree.specs.declared.exprs.TemplateSpan.{TemplateSpan, out-TemplateSpan, roll-TemplateSpan}
use Rattle.tb_tree.specs.declared.exprs.Var.{Var, out-Var, roll-Var}
use Rattle.tb_tree.specs.declared.exprs.ArrowBody.TheVariants as arrow_body
use Rattle.tb_tree.specs.declared.exprs.BlockItem.TheVariants as block_item
use Rattle.tb_tree.specs.declared.exprs.Clause.TheVariants as clause
use Rattle.tb_tree.specs.declared.exprs.Expr.TheVariants as expr
use Rattle.tb_tree.specs.declared.exprs.ForStart.TheVariants as start
use Rattle.tb_tree.specs.declared.exprs.Prop.TheVariants as prop
use Rattle.tb_tree.specs.declared.exprs.Stmt.TheVariants as stmt
use Rattle.tb_tree.specs.declared.exprs.ArrowBody.TheOpen.{Block-F, Declarator-F, Function-F, Param-F, TemplateSpan-F, Var-F}
use Rattle.tb_tree.specs.declared.items.ClassMember.{ClassMember}
use Rattle.tb_tree.specs.declared.items.ClassMember.TheVariants as class_member
use Rattle.tb_tree.specs.declared.items.ClassDeclaration.{ClassDeclaration}
use Rattle.tb_layout.specs.Pieces.{Piece, Lex, mark, word, space, new_line}
use Rattle.tb_layout.specs.Erase.{erased_optional, erased_member, erased_class, erased_arrow_body, erased_block_item, erased_clause, erased_expr, erased_start, erased_prop, erased_stmt, erased_block, erased_declarator, erased_function, erased_param, erased_span, erased_var}
use Rattle.tb_layout.specs.Js.{Laid, LaidStmt, Span, statement, update_mark, binary_mark, assign_mark, prefixed, joined, in_parens, laid_all, laid_list, key_pieces, value_pieces, truth_pieces, kind_pieces, laid_spans, template_pieces, object_pieces, lines, block_pieces, body_pieces, else_pieces, part_pieces, optional_laid, static_pieces, member_pieces, class_pieces, arrow_body_laid, block_item_laid, clause_laid, expr_laid, start_laid, prop_laid, stmt_laid, block_laid, declarator_laid, function_laid, param_laid, span_laid, var_laid}
use Rattle.tb_layout.proofs.Erasing as e
use Rattle.tb_layout.proofs.Laying as l

abbrev pub js_arrow_body : ArrowBody → Laid
js_arrow_body of = arrow_body_laid (erased_arrow_body of)

abbrev pub js_block_item : BlockItem → Laid
js_block_item of = block_item_laid (erased_block_item of)

abbrev pub js_clause : Clause → Laid
js_clause of = clause_laid (erased_clause of)

abbrev pub js_expr : Expr → Laid
js_expr of = expr_laid (erased_expr of)

abbrev pub js_start : ForStart → Laid
js_start of = start_laid (erased_start of)

abbrev pub js_prop : Prop → Laid
js_prop of = prop_laid (erased_prop of)

abbrev pub js_stmt : Stmt → LaidStmt
js_stmt of = stmt_laid (erased_stmt of)

abbrev pub js_block : Block → Laid
js_block of = block_laid (erased_block of)

abbrev pub js_declarator : Declarator → Laid
js_declarator of = declarator_laid (erased_declarator of)

abbrev pub js_function : Function → Laid
js_function of = function_laid (erased_function of)

abbrev pub js_param : Param → Laid
js_param of = param_laid (erased_param of)

abbrev pub js_span : TemplateSpan → Span
js_span of = span_laid (erased_span of)

abbrev pub js_var : Var → Laid
js_var of = var_laid (erased_var of)

abbrev pub js_optional : Option Expr → Option Laid
js_optional None = None
js_optional (Some of) = Some (js_expr of)

abbrev pub js_otherwise : Option Stmt → Option LaidStmt
js_otherwise None = None
js_otherwise (Some of) = Some (js_stmt of)

-- the lines of a statement, also where it is a block
abbrev pub js_lines : Stmt → Laid
js_lines of = l.stmt_lines (js_stmt of)

pub map_twice : {A B C : Type 0} (f : B → C) (g : A → B) (xs : List A) → map f (map g xs) ≡ map (λ x. f (g x)) xs
map_twice f g [] = refl
map_twice f g (x ∷ xs) = ap (λ t. f (g x) ∷ t) (map_twice f g xs)

pub optional_twice : (of : Option Expr) → optional_laid (erased_optional of) ≡ js_optional of
optional_twice None = refl
optional_twice (Some of) = refl

pub otherwise_twice : (of : Option Stmt) → l.otherwise_laid (e.erased_otherwise of) ≡ js_otherwise of
otherwise_twice None = refl
otherwise_twice (Some of) = refl

pub block_arrow_body : (of : Block) (n : ℕ) → js_arrow_body (arrow_body.Block of) n ≡ js_block of n
block_arrow_body of n = ap (λ of. arrow_body_laid of n) (e.block_arrow_body of) ∙ ap (λ of. of n) (l.block_arrow_body (erased_block of))

pub expr_arrow_body : (of : Expr) (n : ℕ) → js_arrow_body (arrow_body.Expr of) n ≡ js_expr of n
expr_arrow_body of n = ap (λ of. arrow_body_laid of n) (e.expr_arrow_body of) ∙ ap (λ of. of n) (l.expr_arrow_body (erased_expr of))

pub var_block_item : (of : Var) (n : ℕ) → js_block_item (block_item.Var of) n ≡ js_var of n
var_block_item of n = ap (λ of. block_item_laid of n) (e.var_block_item of) ∙ ap (λ of. of n) (l.var_block_item (erased_var of))

pub function_block_item : (of : Function) (n : ℕ) → js_block_item (block_item.Function of) n ≡ js_function of n
function_block_item of n = ap (λ of. block_item_laid of n) (e.function_block_item of) ∙ ap (λ of. of n) (l.function_block_item (erased_function of))

pub stmt_block_item : (of : Stmt) (n : ℕ) → js_block_item (block_item.Stmt of) n ≡ js_lines of n
stmt_block_item of n = ap (λ of. block_item_laid of n) (e.stmt_block_item of) ∙ ap (λ of. of n) (l.stmt_block_item (erased_stmt of))

pub case_clause : (at : ℕ) (value : Expr) (items : List BlockItem) (n : ℕ) → js_clause (clause.Case at value items) n ≡ word (codes "case") ++ space ++ js_expr value n ++ mark m.Colon ++ lines n (map js_block_item items)
case_clause at value items n = ap (λ of. clause_laid of n) (e.case_clause at value items) ∙ ap (λ of. of n) (l.case_clause at (erased_expr value) (map erased_block_item items))
    ∙ ap (λ part. word (codes "case") ++ space ++ js_expr value n ++ mark m.Colon ++ lines n part) (map_twice block_item_laid erased_block_item items)

pub default_clause : (at : ℕ) (items : List BlockItem) (n : ℕ) → js_clause (clause.Default at items) n ≡ word (codes "default") ++ mark m.Colon ++ lines n (map js_block_item items)
default_clause at items n = ap (λ of. clause_laid of n) (e.default_clause at items) ∙ ap (λ of. of n) (l.default_clause at (map erased_block_item items))
    ∙ ap (λ part. word (codes "default") ++ mark m.Colon ++ lines n part) (map_twice block_item_laid erased_block_item items)

pub name_expr : (at : ℕ) (name : List ℕ) (n : ℕ) → js_expr (expr.Name at name) n ≡ word name
name_expr at name n = ap (λ of. expr_laid of n) (e.name_expr at name) ∙ ap (λ of. of n) (l.name_expr at name)

pub this_expr : (at : ℕ) (n : ℕ) → js_expr (expr.This at) n ≡ word (codes "this")
this_expr at n = ap (λ of. expr_laid of n) (e.this_expr at) ∙ ap (λ of. of n) (l.this_expr at)

pub null_expr : (at : ℕ) (n : ℕ) → js_expr (expr.Null at) n ≡ word (codes "null")
null_expr at n = ap (λ of. expr_laid of n) (e.null_expr at) ∙ ap (λ of. of n) (l.null_expr at)

pub undefined_expr : (at : ℕ) (n : ℕ) → js_expr (expr.Undefined at) n ≡ word (codes "undefined")
undefined_expr at n = ap (λ of. expr_laid of n) (e.undefined_expr at) ∙ ap (λ of. of n) (l.undefined_expr at)

pub boolean_expr : (at : ℕ) (value : Bool) (n : ℕ) → js_expr (expr.Boolean at value) n ≡ truth_pieces value
boolean_expr at value n = ap (λ of. expr_laid of n) (e.boolean_expr at value) ∙ ap (λ of. of n) (l.boolean_expr at value)

pub number_expr : (at : ℕ) (spelled : List ℕ) (n : ℕ) → js_expr (expr.Number at spelled) n ≡ Lex c.Number spelled ∷ []
number_expr at spelled n = ap (λ of. expr_laid of n) (e.number_expr at spelled) ∙ ap (λ of. of n) (l.number_expr at spelled)

pub string_expr : (at : ℕ) (spelled : List ℕ) (n : ℕ) → js_expr (expr.String at spelled) n ≡ Lex c.String spelled ∷ []
string_expr at spelled n = ap (λ of. expr_laid of n) (e.string_expr at spelled) ∙ ap (λ of. of n) (l.string_expr at spelled)

pub template_expr : (at : ℕ) (head : List ℕ) (spans : List TemplateSpan) (n : ℕ) → js_expr (expr.Template at head spans) n ≡ template_pieces head (laid_spans n (map js_span spans))
template_expr at head spans n = ap (λ of. expr_laid of n) (e.template_expr at head spans) ∙ ap (λ of. of n) (l.template_expr at head (map erased_span spans))
    ∙ ap (λ part. template_pieces head (laid_spans n part)) (map_twice span_laid erased_span spans)

pub parens_expr : (at : ℕ) (inner : Expr) (n : ℕ) → js_expr (expr.Parens at inner) n ≡ in_parens (js_expr inner n)
parens_expr at inner n = ap (λ of. expr_laid of n) (e.parens_expr at inner) ∙ ap (λ of. of n) (l.parens_expr at (erased_expr inner))

pub array_expr : (at : ℕ) (elements : List Expr) (n : ℕ) → js_expr (expr.Array at elements) n ≡ mark m.OpenBracket ++ laid_list n (map js_expr elements) ++ mark m.CloseBracket
array_expr at elements n = ap (λ of. expr_laid of n) (e.array_expr at elements) ∙ ap (λ of. of n) (l.array_expr at (map erased_expr elements))
    ∙ ap (λ part. mark m.OpenBracket ++ laid_list n part ++ mark m.CloseBracket) (map_twice expr_laid erased_expr elements)

pub object_expr : (at : ℕ) (props : List Prop) (n : ℕ) → js_expr (expr.Object at props) n ≡ object_pieces (laid_all n (map js_prop props))
object_expr at props n = ap (λ of. expr_laid of n) (e.object_expr at props) ∙ ap (λ of. of n) (l.object_expr at (map erased_prop props))
    ∙ ap (λ part. object_pieces (laid_all n part)) (map_twice prop_laid erased_prop props)

pub new_expr : (at : ℕ) (class : Identifier) (arguments : List Expr) (n : ℕ) → js_expr (expr.New at class arguments) n ≡ word (codes "new") ++ space ++ word class.name ++ in_parens (laid_list n (map js_expr arguments))
new_expr at class arguments n = ap (λ of. expr_laid of n) (e.new_expr at class arguments) ∙ ap (λ of. of n) (l.new_expr at class (map erased_expr arguments))
    ∙ ap (λ part. word (codes "new") ++ space ++ word class.name ++ in_parens (laid_list n part)) (map_twice expr_laid erased_expr arguments)

pub member_expr : (at : ℕ) (base : Expr) (member : List ℕ) (n : ℕ) → js_expr (expr.Member at base member) n ≡ js_expr base n ++ mark m.Dot ++ word member
member_expr at base member n = ap (λ of. expr_laid of n) (e.member_expr at base member) ∙ ap (λ of. of n) (l.member_expr at (erased_expr base) member)

pub index_expr : (at : ℕ) (base : Expr) (index : Expr) (n : ℕ) → js_expr (expr.Index at base index) n ≡ js_expr base n ++ mark m.OpenBracket ++ js_expr index n ++ mark m.CloseBracket
index_expr at base index n = ap (λ of. expr_laid of n) (e.index_expr at base index) ∙ ap (λ of. of n) (l.index_expr at (erased_expr base) (erased_expr index))

pub call_expr : (at : ℕ) (callee : Expr) (type_arguments : List TypeExpr) (arguments : List Expr) (n : ℕ) → js_expr (expr.Call at callee type_arguments arguments) n ≡ js_expr callee n ++ in_parens (laid_list n (map js_expr arguments))
call_expr at callee type_arguments arguments n = ap (λ of. expr_laid of n) (e.call_expr at callee type_arguments arguments) ∙ ap (λ of. of n) (l.call_expr at (erased_expr callee) [] (map erased_expr arguments))
    ∙ ap (λ part. js_expr callee n ++ in_parens (laid_list n part)) (map_twice expr_laid erased_expr arguments)

pub unary_expr : (at : ℕ) (operator : UnaryOperator) (operand : Expr) (n : ℕ) → js_expr (expr.Unary at operator operand) n ≡ prefixed operator (js_expr operand n)
unary_expr at operator operand n = ap (λ of. expr_laid of n) (e.unary_expr at operator operand) ∙ ap (λ of. of n) (l.unary_expr at operator (erased_expr operand))

pub update_before_expr : (at : ℕ) (operator : UpdateOperator) (target : Expr) (n : ℕ) → js_expr (expr.Update at operator true target) n ≡ mark (update_mark operator) ++ js_expr target n
update_before_expr at operator target n = ap (λ of. expr_laid of n) (e.update_before_expr at operator target) ∙ ap (λ of. of n) (l.update_before_expr at operator (erased_expr target))

pub update_behind_expr : (at : ℕ) (operator : UpdateOperator) (target : Expr) (n : ℕ) → js_expr (expr.Update at operator false target) n ≡ js_expr target n ++ mark (update_mark operator)
update_behind_expr at operator target n = ap (λ of. expr_laid of n) (e.update_behind_expr at operator target) ∙ ap (λ of. of n) (l.update_behind_expr at operator (erased_expr target))

pub binary_expr : (at : ℕ) (left : Expr) (operator : BinaryOperator) (right : Expr) (n : ℕ) → js_expr (expr.Binary at left operator right) n ≡ joined (js_expr left n) (binary_mark operator) (js_expr right n)
binary_expr at left operator right n = ap (λ of. expr_laid of n) (e.binary_expr at left operator right) ∙ ap (λ of. of n) (l.binary_expr at (erased_expr left) operator (erased_expr right))

pub as_expr : (at : ℕ) (value : Expr) (shape : TypeExpr) (n : ℕ) → js_expr (expr.As at value shape) n ≡ js_expr value n
as_expr at value shape n = ap (λ of. expr_laid of n) (e.as_expr at value shape)

pub conditional_expr : (at : ℕ) (condition : Expr) (chosen : Expr) (otherwise : Expr) (n : ℕ) → js_expr (expr.Conditional at condition chosen otherwise) n ≡ joined (joined (js_expr condition n) m.Question (js_expr chosen n)) m.Colon (js_expr otherwise n)
conditional_expr at condition chosen otherwise n = ap (λ of. expr_laid of n) (e.conditional_expr at condition chosen otherwise) ∙ ap (λ of. of n) (l.conditional_expr at (erased_expr condition) (erased_expr chosen) (erased_expr otherwise))

pub assign_expr : (at : ℕ) (target : Expr) (operator : AssignOperator) (value : Expr) (n : ℕ) → js_expr (expr.Assign at target operator value) n ≡ joined (js_expr target n) (assign_mark operator) (js_expr value n)
assign_expr at target operator value n = ap (λ of. expr_laid of n) (e.assign_expr at target operator value) ∙ ap (λ of. of n) (l.assign_expr at (erased_expr target) operator (erased_expr value))

pub arrow_expr : (at : ℕ) (params : List Param) (result : Option TypeExpr) (of : ArrowBody) (n : ℕ) → js_expr (expr.Arrow at params result of) n ≡ joined (in_parens (laid_list n (map js_param params))) m.Arrow (js_arrow_body of n)
arrow_expr at params result of n = ap (λ of. expr_laid of n) (e.arrow_expr at params result of) ∙ ap (λ of. of n) (l.arrow_expr at (map erased_param params) None (erased_arrow_body of))
    ∙ ap (λ part. joined (in_parens (laid_list n part)) m.Arrow (js_arrow_body of n)) (map_twice param_laid erased_param params)

pub var_start : (of : Var) (n : ℕ) → js_start (start.Var of) n ≡ js_var of n
var_start of n = ap (λ of. start_laid of n) (e.var_start of) ∙ ap (λ of. of n) (l.var_start (erased_var of))

pub expr_start : (of : Expr) (n : ℕ) → js_start (start.Expr of) n ≡ js_expr of n ++ mark m.Semicolon
expr_start of n = ap (λ of. start_laid of n) (e.expr_start of) ∙ ap (λ of. of n) (l.expr_start (erased_expr of))

pub nothing_start : (n : ℕ) → js_start start.Nothing n ≡ mark m.Semicolon
nothing_start n = ap (λ of. start_laid of n) e.nothing_start ∙ ap (λ of. of n) l.nothing_start

pub valued_prop : (at : ℕ) (key : Key) (value : Expr) (n : ℕ) → js_prop (prop.Valued at key value) n ≡ key_pieces key ++ mark m.Colon ++ space ++ js_expr value n
valued_prop at key value n = ap (λ of. prop_laid of n) (e.valued_prop at key value) ∙ ap (λ of. of n) (l.valued_prop at key (erased_expr value))

pub short_prop : (at : ℕ) (name : List ℕ) (n : ℕ) → js_prop (prop.Short at name) n ≡ word name
short_prop at name n = ap (λ of. prop_laid of n) (e.short_prop at name) ∙ ap (λ of. of n) (l.short_prop at name)

pub block_stmt : (of : Block) → js_stmt (stmt.Block of) ≡ record { is_block = true; laid = (js_block of) }
block_stmt of = ap stmt_laid (e.block_stmt of) ∙ (l.block_stmt (erased_block of))

pub block_stmt_lines : (of : Block) (n : ℕ) → js_lines (stmt.Block of) n ≡ js_block of n
block_stmt_lines of n = ap (λ of. l.stmt_lines of n) (block_stmt of)

pub if_stmt : (at : ℕ) (condition : Expr) (chosen : Stmt) (otherwise : Option Stmt) → js_stmt (stmt.If at condition chosen otherwise) ≡ statement (λ n. word (codes "if") ++ space ++ in_parens (js_expr condition n) ++ body_pieces n (js_stmt chosen) ++ else_pieces n (js_otherwise otherwise))
if_stmt at condition chosen otherwise = ap stmt_laid (e.if_stmt at condition chosen otherwise) ∙ (l.if_stmt at (erased_expr condition) (erased_stmt chosen) (e.erased_otherwise otherwise))
    ∙ ap (λ part. statement (λ n. word (codes "if") ++ space ++ in_parens (js_expr condition n) ++ body_pieces n (js_stmt chosen) ++ else_pieces n part)) (otherwise_twice otherwise)

pub if_stmt_lines : (at : ℕ) (condition : Expr) (chosen : Stmt) (otherwise : Option Stmt) (n : ℕ) → js_lines (stmt.If at condition chosen otherwise) n ≡ word (codes "if") ++ space ++ in_parens (js_expr condition n) ++ body_pieces n (js_stmt chosen) ++ else_pieces n (js_otherwise otherwise)
if_stmt_lines at condition chosen otherwise n = ap (λ of. l.stmt_lines of n) (if_stmt at condition chosen otherwise)

pub while_stmt : (at : ℕ) (condition : Expr) (of : Stmt) → js_stmt (stmt.While at condition of) ≡ statement (λ n. word (codes "while") ++ space ++ in_parens (js_expr condition n) ++ body_pieces n (js_stmt of))
while_stmt at condition of = ap stmt_laid (e.while_stmt at condition of) ∙ (l.while_stmt at (erased_expr condition) (erased_stmt of))

pub while_stmt_lines : (at : ℕ) (condition : Expr) (of : Stmt) (n : ℕ) → js_lines (stmt.While at condition of) n ≡ word (codes "while") ++ space ++ in_parens (js_expr condition n) ++ body_pieces n (js_stmt of)
while_stmt_lines at condition of n = ap (λ of. l.stmt_lines of n) (while_stmt at condition of)

pub do_stmt : (at : ℕ) (of : Stmt) (condition : Expr) → js_stmt (stmt.Do at of condition) ≡ statement (λ n. word (codes "do") ++ body_pieces n (js_stmt of) ++ new_line n ++ word (codes "while") ++ space ++ in_parens (js_expr condition n) ++ mark m.Semicolon)
do_stmt at of condition = ap stmt_laid (e.do_stmt at of condition) ∙ (l.do_stmt at (erased_stmt of) (erased_expr condition))

pub do_stmt_lines : (at : ℕ) (of : Stmt) (condition : Expr) (n : ℕ) → js_lines (stmt.Do at of condition) n ≡ word (codes "do") ++ body_pieces n (js_stmt of) ++ new_line n ++ word (codes "while") ++ space ++ in_parens (js_expr condition n) ++ mark m.Semicolon
do_stmt_lines at of condition n = ap (λ of. l.stmt_lines of n) (do_stmt at of condition)

pub for_stmt : (at : ℕ) (first : ForStart) (condition : Option Expr) (step : Option Expr) (of : Stmt) → js_stmt (stmt.For at first condition step of) ≡ statement (λ n. word (codes "for") ++ space ++ in_parens (js_start first n ++ part_pieces n (js_optional condition) ++ mark m.Semicolon ++ part_pieces n (js_optional step)) ++ body_pieces n (js_stmt of))
for_stmt at first condition step of = ap stmt_laid (e.for_stmt at first condition step of) ∙ (l.for_stmt at (erased_start first) (erased_optional condition) (erased_optional step) (erased_stmt of))
    ∙ ap (λ part. statement (λ n. word (codes "for") ++ space ++ in_parens (js_start first n ++ part_pieces n part ++ mark m.Semicolon ++ part_pieces n (optional_laid (erased_optional step))) ++ body_pieces n (js_stmt of))) (optional_twice condition)
    ∙ ap (λ part. statement (λ n. word (codes "for") ++ space ++ in_parens (js_start first n ++ part_pieces n (js_optional condition) ++ mark m.Semicolon ++ part_pieces n part) ++ body_pieces n (js_stmt of))) (optional_twice step)

pub for_stmt_lines : (at : ℕ) (first : ForStart) (condition : Option Expr) (step : Option Expr) (of : Stmt) (n : ℕ) → js_lines (stmt.For at first condition step of) n ≡ word (codes "for") ++ space ++ in_parens (js_start first n ++ part_pieces n (js_optional condition) ++ mark m.Semicolon ++ part_pieces n (js_optional step)) ++ body_pieces n (js_stmt of)
for_stmt_lines at first condition step of n = ap (λ of. l.stmt_lines of n) (for_stmt at first condition step of)

pub for_of_stmt : (at : ℕ) (kind : VarKind) (element : Identifier) (subject : Expr) (of : Stmt) → js_stmt (stmt.ForOf at kind element subject of) ≡ statement (λ n. word (codes "for") ++ space ++ in_parens (kind_pieces kind ++ space ++ word element.name ++ space ++ word (codes "of") ++ space ++ js_expr subject n) ++ body_pieces n (js_stmt of))
for_of_stmt at kind element subject of = ap stmt_laid (e.for_of_stmt at kind element subject of) ∙ (l.for_of_stmt at kind element (erased_expr subject) (erased_stmt of))

pub for_of_stmt_lines : (at : ℕ) (kind : VarKind) (element : Identifier) (subject : Expr) (of : Stmt) (n : ℕ) → js_lines (stmt.ForOf at kind element subject of) n ≡ word (codes "for") ++ space ++ in_parens (kind_pieces kind ++ space ++ word element.name ++ space ++ word (codes "of") ++ space ++ js_expr subject n) ++ body_pieces n (js_stmt of)
for_of_stmt_lines at kind element subject of n = ap (λ of. l.stmt_lines of n) (for_of_stmt at kind element subject of)

pub return_stmt_none : (at : ℕ) → js_stmt (stmt.Return at None) ≡ statement (λ n. word (codes "return") ++ mark m.Semicolon)
return_stmt_none at = ap stmt_laid (e.return_stmt_none at) ∙ (l.return_stmt_none at)

pub return_stmt_none_lines : (at : ℕ) (n : ℕ) → js_lines (stmt.Return at None) n ≡ word (codes "return") ++ mark m.Semicolon
return_stmt_none_lines at n = ap (λ of. l.stmt_lines of n) (return_stmt_none at)

pub return_stmt_some : (at : ℕ) (value_part : Expr) → js_stmt (stmt.Return at (Some value_part)) ≡ statement (λ n. word (codes "return") ++ space ++ js_expr value_part n ++ mark m.Semicolon)
return_stmt_some at value_part = ap stmt_laid (e.return_stmt_some at value_part) ∙ (l.return_stmt_some at (erased_expr value_part))

pub return_stmt_some_lines : (at : ℕ) (value_part : Expr) (n : ℕ) → js_lines (stmt.Return at (Some value_part)) n ≡ word (codes "return") ++ space ++ js_expr value_part n ++ mark m.Semicolon
return_stmt_some_lines at value_part n = ap (λ of. l.stmt_lines of n) (return_stmt_some at value_part)

pub break_stmt : (at : ℕ) → js_stmt (stmt.Break at) ≡ statement (λ n. word (codes "break") ++ mark m.Semicolon)
break_stmt at = ap stmt_laid (e.break_stmt at) ∙ (l.break_stmt at)

pub break_stmt_lines : (at : ℕ) (n : ℕ) → js_lines (stmt.Break at) n ≡ word (codes "break") ++ mark m.Semicolon
break_stmt_lines at n = ap (λ of. l.stmt_lines of n) (break_stmt at)

pub continue_stmt : (at : ℕ) → js_stmt (stmt.Continue at) ≡ statement (λ n. word (codes "continue") ++ mark m.Semicolon)
continue_stmt at = ap stmt_laid (e.continue_stmt at) ∙ (l.continue_stmt at)

pub continue_stmt_lines : (at : ℕ) (n : ℕ) → js_lines (stmt.Continue at) n ≡ word (codes "continue") ++ mark m.Semicolon
continue_stmt_lines at n = ap (λ of. l.stmt_lines of n) (continue_stmt at)

pub throw_stmt : (at : ℕ) (value : Expr) → js_stmt (stmt.Throw at value) ≡ statement (λ n. word (codes "throw") ++ space ++ js_expr value n ++ mark m.Semicolon)
throw_stmt at value = ap stmt_laid (e.throw_stmt at value) ∙ (l.throw_stmt at (erased_expr value))

pub throw_stmt_lines : (at : ℕ) (value : Expr) (n : ℕ) → js_lines (stmt.Throw at value) n ≡ word (codes "throw") ++ space ++ js_expr value n ++ mark m.Semicolon
throw_stmt_lines at value n = ap (λ of. l.stmt_lines of n) (throw_stmt at value)

pub switch_stmt : (at : ℕ) (subject : Expr) (clauses : List Clause) → js_stmt (stmt.Switch at subject clauses) ≡ statement (λ n. word (codes "switch") ++ space ++ in_parens (js_expr subject n) ++ space ++ mark m.OpenBrace ++ lines n (map js_clause clauses) ++ new_line n ++ mark m.CloseBrace)
switch_stmt at subject clauses = ap stmt_laid (e.switch_stmt at subject clauses) ∙ (l.switch_stmt at (erased_expr subject) (map erased_clause clauses))
    ∙ ap (λ part. statement (λ n. word (codes "switch") ++ space ++ in_parens (js_expr subject n) ++ space ++ mark m.OpenBrace ++ lines n part ++ new_line n ++ mark m.CloseBrace)) (map_twice clause_laid erased_clause clauses)

pub switch_stmt_lines : (at : ℕ) (subject : Expr) (clauses : List Clause) (n : ℕ) → js_lines (stmt.Switch at subject clauses) n ≡ word (codes "switch") ++ space ++ in_parens (js_expr subject n) ++ space ++ mark m.OpenBrace ++ lines n (map js_clause clauses) ++ new_line n ++ mark m.CloseBrace
switch_stmt_lines at subject clauses n = ap (λ of. l.stmt_lines of n) (switch_stmt at subject clauses)

pub expr_stmt : (at : ℕ) (value : Expr) → js_stmt (stmt.Expr at value) ≡ statement (λ n. js_expr value n ++ mark m.Semicolon)
expr_stmt at value = ap stmt_laid (e.expr_stmt at value) ∙ (l.expr_stmt at (erased_expr value))

pub expr_stmt_lines : (at : ℕ) (value : Expr) (n : ℕ) → js_lines (stmt.Expr at value) n ≡ js_expr value n ++ mark m.Semicolon
expr_stmt_lines at value n = ap (λ of. l.stmt_lines of n) (expr_stmt at value)

pub empty_stmt : (at : ℕ) → js_stmt (stmt.Empty at) ≡ statement (λ n. mark m.Semicolon)
empty_stmt at = ap stmt_laid (e.empty_stmt at) ∙ (l.empty_stmt at)

pub empty_stmt_lines : (at : ℕ) (n : ℕ) → js_lines (stmt.Empty at) n ≡ mark m.Semicolon
empty_stmt_lines at n = ap (λ of. l.stmt_lines of n) (empty_stmt at)

-- ---- records

abbrev pub open_block : Block-F ArrowBody BlockItem Clause Expr ForStart Prop Stmt Block Declarator Function Param TemplateSpan Var → ℕ → List Piece
open_block layer n = block_pieces n (map js_block_item layer.items)

block_opened : (layer : Block-F ArrowBody BlockItem Clause Expr ForStart Prop Stmt Block Declarator Function Param TemplateSpan Var) (n : ℕ) → block_laid (roll-Block (record { at = layer.at; items = (map erased_block_item layer.items) })) n ≡ open_block layer n
block_opened layer n = ap (λ of. of n) (l.block_rolled (record { at = layer.at; items = (map erased_block_item layer.items) }))
    ∙ ap (λ part. block_pieces n part) (map_twice block_item_laid erased_block_item layer.items)

pub block_out : (of : Block) (n : ℕ) → js_block of n ≡ open_block (out-Block of) n
block_out of n = ap (λ of. block_laid of n) (e.block_out of) ∙ block_opened (out-Block of) n

pub block_rolled : (layer : Block-F ArrowBody BlockItem Clause Expr ForStart Prop Stmt Block Declarator Function Param TemplateSpan Var) (n : ℕ) → js_block (roll-Block layer) n ≡ open_block layer n
block_rolled layer n = ap (λ of. block_laid of n) (e.block_rolled layer) ∙ block_opened layer n

abbrev pub open_declarator : Declarator-F ArrowBody BlockItem Clause Expr ForStart Prop Stmt Block Declarator Function Param TemplateSpan Var → ℕ → List Piece
open_declarator layer n = word layer.name ++ value_pieces n (js_optional layer.value)

declarator_opened : (layer : Declarator-F ArrowBody BlockItem Clause Expr ForStart Prop Stmt Block Declarator Function Param TemplateSpan Var) (n : ℕ) → declarator_laid (roll-Declarator (record { at = layer.at; name = layer.name; annotation = None; value = (erased_optional layer.value) })) n ≡ open_declarator layer n
declarator_opened layer n = ap (λ of. of n) (l.declarator_rolled (record { at = layer.at; name = layer.name; annotation = None; value = (erased_optional layer.value) }))
    ∙ ap (λ part. word layer.name ++ value_pieces n part) (optional_twice layer.value)

pub declarator_out : (of : Declarator) (n : ℕ) → js_declarator of n ≡ open_declarator (out-Declarator of) n
declarator_out of n = ap (λ of. declarator_laid of n) (e.declarator_out of) ∙ declarator_opened (out-Declarator of) n

pub declarator_rolled : (layer : Declarator-F ArrowBody BlockItem Clause Expr ForStart Prop Stmt Block Declarator Function Param TemplateSpan Var) (n : ℕ) → js_declarator (roll-Declarator layer) n ≡ open_declarator layer n
declarator_rolled layer n = ap (λ of. declarator_laid of n) (e.declarator_rolled layer) ∙ declarator_opened layer n

abbrev pub open_function : Function-F ArrowBody BlockItem Clause Expr ForStart Prop Stmt Block Declarator Function Param TemplateSpan Var → ℕ → List Piece
open_function layer n = word (codes "function") ++ space ++ word layer.name ++ in_parens (laid_list n (map js_param layer.params)) ++ space ++ js_block layer.body n

function_opened : (layer : Function-F ArrowBody BlockItem Clause Expr ForStart Prop Stmt Block Declarator Function Param TemplateSpan Var) (n : ℕ) → function_laid (roll-Function (record { at = layer.at; name = layer.name; variables = []; params = (map erased_param layer.params); result = None; body = (erased_block layer.body) })) n ≡ open_function layer n
function_opened layer n = ap (λ of. of n) (l.function_rolled (record { at = layer.at; name = layer.name; variables = []; params = (map erased_param layer.params); result = None; body = (erased_block layer.body) }))
    ∙ ap (λ part. word (codes "function") ++ space ++ word layer.name ++ in_parens (laid_list n part) ++ space ++ js_block layer.body n) (map_twice param_laid erased_param layer.params)

pub function_out : (of : Function) (n : ℕ) → js_function of n ≡ open_function (out-Function of) n
function_out of n = ap (λ of. function_laid of n) (e.function_out of) ∙ function_opened (out-Function of) n

pub function_rolled : (layer : Function-F ArrowBody BlockItem Clause Expr ForStart Prop Stmt Block Declarator Function Param TemplateSpan Var) (n : ℕ) → js_function (roll-Function layer) n ≡ open_function layer n
function_rolled layer n = ap (λ of. function_laid of n) (e.function_rolled layer) ∙ function_opened layer n

abbrev pub open_param : Param-F ArrowBody BlockItem Clause Expr ForStart Prop Stmt Block Declarator Function Param TemplateSpan Var → ℕ → List Piece
open_param layer n = word layer.name ++ value_pieces n (js_optional layer.value)

param_opened : (layer : Param-F ArrowBody BlockItem Clause Expr ForStart Prop Stmt Block Declarator Function Param TemplateSpan Var) (n : ℕ) → param_laid (roll-Param (record { at = layer.at; name = layer.name; optional = false; annotation = None; value = (erased_optional layer.value) })) n ≡ open_param layer n
param_opened layer n = ap (λ of. of n) (l.param_rolled (record { at = layer.at; name = layer.name; optional = false; annotation = None; value = (erased_optional layer.value) }))
    ∙ ap (λ part. word layer.name ++ value_pieces n part) (optional_twice layer.value)

pub param_out : (of : Param) (n : ℕ) → js_param of n ≡ open_param (out-Param of) n
param_out of n = ap (λ of. param_laid of n) (e.param_out of) ∙ param_opened (out-Param of) n

pub param_rolled : (layer : Param-F ArrowBody BlockItem Clause Expr ForStart Prop Stmt Block Declarator Function Param TemplateSpan Var) (n : ℕ) → js_param (roll-Param layer) n ≡ open_param layer n
param_rolled layer n = ap (λ of. param_laid of n) (e.param_rolled layer) ∙ param_opened layer n

abbrev pub open_span : TemplateSpan-F ArrowBody BlockItem Clause Expr ForStart Prop Stmt Block Declarator Function Param TemplateSpan Var → ℕ → List Piece × List ℕ
open_span layer n = (js_expr layer.value n, layer.text)

span_opened : (layer : TemplateSpan-F ArrowBody BlockItem Clause Expr ForStart Prop Stmt Block Declarator Function Param TemplateSpan Var) (n : ℕ) → span_laid (roll-TemplateSpan (record { value = (erased_expr layer.value); text = layer.text })) n ≡ open_span layer n
span_opened layer n = ap (λ of. of n) (l.span_rolled (record { value = (erased_expr layer.value); text = layer.text }))

pub span_out : (of : TemplateSpan) (n : ℕ) → js_span of n ≡ open_span (out-TemplateSpan of) n
span_out of n = ap (λ of. span_laid of n) (e.span_out of) ∙ span_opened (out-TemplateSpan of) n

pub span_rolled : (layer : TemplateSpan-F ArrowBody BlockItem Clause Expr ForStart Prop Stmt Block Declarator Function Param TemplateSpan Var) (n : ℕ) → js_span (roll-TemplateSpan layer) n ≡ open_span layer n
span_rolled layer n = ap (λ of. span_laid of n) (e.span_rolled layer) ∙ span_opened layer n

abbrev pub open_var : Var-F ArrowBody BlockItem Clause Expr ForStart Prop Stmt Block Declarator Function Param TemplateSpan Var → ℕ → List Piece
open_var layer n = kind_pieces layer.kind ++ space ++ laid_list n (map js_declarator layer.declarators) ++ mark m.Semicolon

var_opened : (layer : Var-F ArrowBody BlockItem Clause Expr ForStart Prop Stmt Block Declarator Function Param TemplateSpan Var) (n : ℕ) → var_laid (roll-Var (record { kind = layer.kind; declarators = (map erased_declarator layer.declarators) })) n ≡ open_var layer n
var_opened layer n = ap (λ of. of n) (l.var_rolled (record { kind = layer.kind; declarators = (map erased_declarator layer.declarators) }))
    ∙ ap (λ part. kind_pieces layer.kind ++ space ++ laid_list n part ++ mark m.Semicolon) (map_twice declarator_laid erased_declarator layer.declarators)

pub var_out : (of : Var) (n : ℕ) → js_var of n ≡ open_var (out-Var of) n
var_out of n = ap (λ of. var_laid of n) (e.var_out of) ∙ var_opened (out-Var of) n

pub var_rolled : (layer : Var-F ArrowBody BlockItem Clause Expr ForStart Prop Stmt Block Declarator Function Param TemplateSpan Var) (n : ℕ) → js_var (roll-Var layer) n ≡ open_var layer n
var_rolled layer n = ap (λ of. var_laid of n) (e.var_rolled layer) ∙ var_opened layer n

-- ---- members of classes

abbrev pub js_member : ClassMember → Laid
js_member of = member_pieces (erased_member of)

pub field_member : (at : ℕ) (is_static : Bool) (read_only : Bool) (name : List ℕ) (optional : Bool) (annotation : Option TypeExpr) (value : Option Expr) (n : ℕ)
    → js_member (class_member.Field at is_static read_only name optional annotation value) n ≡ static_pieces is_static ++ word name ++ value_pieces n (js_optional value) ++ mark m.Semicolon
field_member at is_static read_only name optional annotation value n = ap (λ part. static_pieces is_static ++ word name ++ value_pieces n part ++ mark m.Semicolon) (optional_twice value)

pub constructor_member : (at : ℕ) (params : List Param) (of : Block) (n : ℕ)
    → js_member (class_member.Constructor at params of) n ≡ word (codes "constructor") ++ in_parens (laid_list n (map js_param params)) ++ space ++ js_block of n
constructor_member at params of n = ap (λ part. word (codes "constructor") ++ in_parens (laid_list n part) ++ space ++ js_block of n) (map_twice param_laid erased_param params)

pub method_member : (at : ℕ) (is_static : Bool) (name : List ℕ) (params : List Param) (result : Option TypeExpr) (of : Block) (n : ℕ)
    → js_member (class_member.Method at is_static name params result of) n ≡ static_pieces is_static ++ word name ++ in_parens (laid_list n (map js_param params)) ++ space ++ js_block of n
method_member at is_static name params result of n = ap (λ part. static_pieces is_static ++ word name ++ in_parens (laid_list n part) ++ space ++ js_block of n) (map_twice param_laid erased_param params)

pub class_out : (of : ClassDeclaration)
    → class_pieces (erased_class of) ≡ word (codes "class") ++ space ++ word of.name ++ space ++ mark m.OpenBrace ++ lines 0 (map js_member of.members) ++ new_line 0 ++ mark m.CloseBrace
class_out of = ap (λ part. word (codes "class") ++ space ++ word of.name ++ space ++ mark m.OpenBrace ++ lines 0 part ++ new_line 0 ++ mark m.CloseBrace) (map_twice member_pieces erased_member of.members)

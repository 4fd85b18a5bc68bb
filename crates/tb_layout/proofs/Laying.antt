-- What the layout of a tree without types is by the layouts of its parts.
use Rattle.std.proofs.Common.{◌≡◌, ℕ, Bool, true, false, List, [], ◌∷◌, ◌++◌, map, codes, Option, Some, None, refl, ◌∙◌, ap}
use Rattle.tb_tree.specs.declared.marks.Mark.TheVariants as m
use Rattle.tb_tree.specs.declared.words.Class.TheVariants as c
use Rattle.tb_tree.specs.declared.types.Key.{Key}
use Rattle.tb_tree.specs.declared.types.TypeExpr.{TypeExpr}
use Rattle.tb_tree.specs.declared.exprs.Identifier.{Identifier}
use Rattle.tb_tree.specs.declared.exprs.UnaryOperator.{UnaryOperator}
use Rattle.tb_tree.specs.declared.exprs.UpdateOperator.{UpdateOperator}
use Rattle.tb_tree.specs.declared.exprs.BinaryOperator.{BinaryOperator}
use Rattle.tb_tree.specs.declared.exprs.AssignOperator.{AssignOperator}
use Rattle.tb_tree.specs.declared.exprs.VarKind.{VarKind}
use Rattle.tb_tree.specs.declared.exprs.ArrowBody.{ArrowBody, out-ArrowBody, fold_out-ArrowBody}
use Rattle.tb_tree.specs.declared.exprs.BlockItem.{BlockItem, out-BlockItem, fold_out-BlockItem}
use Rattle.tb_tree.specs.declared.exprs.Clause.{Clause, out-Clause, fold_out-Clause}
use Rattle.tb_tree.specs.declared.exprs.Expr.{Expr, out-Expr, fold_out-Expr}
use Rattle.tb_tree.specs.declared.exprs.ForStart.{ForStart, out-ForStart, fold_out-ForStart}
use Rattle.tb_tree.specs.declared.exprs.Prop.{Prop, out-Prop, fold_out-Prop}
use Rattle.tb_tree.specs.declared.exprs.Stmt.{Stmt, out-Stmt, fold_out-Stmt}
use Rattle.tb_tree.specs.declared.exprs.Block.{Block, out-Block, fold_out-Block, roll-Block, fold-roll-Block}
use Rattle.tb_tree.specs.declared.exprs.Declarator.{Declarator, out-Declarator, fold_out-Declarator, roll-Declarator, fold-roll-Declarator}
use Rattle.tb_tree.specs.declared.exprs.Function.{Function, out-Function, fold_out-Function, roll-Function, fold-roll-Function}
use Rattle.tb_tree.specs.declared.exprs.Param.{Param, out-Param, fold_out-Param, roll-Param, fold-roll-Param}
use Rattle.tb_tree.specs.declared.exprs.TemplateSpan.{TemplateSpan, out-TemplateSpan, fold_out-TemplateSpan, roll-TemplateSpan, fold-roll-TemplateSpan}
use Rattle.tb_tree.specs.declared.exprs.Var.{Var, out-Var, fold_out-Var, roll-Var, fold-roll-Var}
use Rattle.tb_tree.specs.declared.exprs.ArrowBody.TheVariants as arrow_body
use Rattle.tb_tree.specs.declared.exprs.BlockItem.TheVariants as block_item
use Rattle.tb_tree.specs.declared.exprs.Clause.TheVariants as clause
use Rattle.tb_tree.specs.declared.exprs.Expr.TheVariants as expr
use Rattle.tb_tree.specs.declared.exprs.ForStart.TheVariants as start
use Rattle.tb_tree.specs.declared.exprs.Prop.TheVariants as prop
use Rattle.tb_tree.specs.declared.exprs.Stmt.TheVariants as stmt
use Rattle.tb_tree.specs.declared.exprs.ArrowBody.TheOpen.{ArrowBody-F, BlockItem-F, Clause-F, Expr-F, ForStart-F, Prop-F, Stmt-F, Block-F, Declarator-F, Function-F, Param-F, TemplateSpan-F, Var-F}
use Rattle.tb_tree.specs.declared.exprs.ArrowBody.TheFolds.{map-ArrowBody, map-BlockItem, map-Clause, map-Expr, map-ForStart, map-Prop, map-Stmt, map-Block, map-Declarator, map-Function, map-Param, map-TemplateSpan, map-Var}
use Rattle.tb_layout.specs.Pieces.{Lex, mark, word, space, new_line}
use Rattle.tb_layout.specs.Js.{Laid, LaidStmt, Span, statement, update_mark, binary_mark, assign_mark, prefixed, joined, in_parens, laid_all, laid_list, key_pieces, value_pieces, truth_pieces, kind_pieces, laid_spans, template_pieces, object_pieces, lines, block_pieces, body_pieces, else_pieces, part_pieces, optional_laid, arrow_body_layout, arrow_body_laid, block_item_layout, block_item_laid, clause_layout, clause_laid, expr_layout, expr_laid, start_layout, start_laid, prop_layout, prop_laid, stmt_layout, stmt_laid, block_layout, block_laid, declarator_layout, declarator_laid, function_layout, function_laid, param_layout, param_laid, span_layout, span_laid, var_layout, var_laid}

abbrev pub otherwise_laid : Option Stmt → Option LaidStmt
otherwise_laid None = None
otherwise_laid (Some of) = Some (stmt_laid of)

abbrev pub stmt_lines : LaidStmt → Laid
stmt_lines of = of.laid

-- ---- one layer of a tree

abbrev pub open_arrow_body : ArrowBody-F ArrowBody BlockItem Clause Expr ForStart Prop Stmt Block Declarator Function Param TemplateSpan Var → Laid
open_arrow_body (ArrowBody-F.«ArrowBody::Block» of) = (block_laid of)
open_arrow_body (ArrowBody-F.«ArrowBody::Expr» of) = (expr_laid of)

abbrev pub open_block_item : BlockItem-F ArrowBody BlockItem Clause Expr ForStart Prop Stmt Block Declarator Function Param TemplateSpan Var → Laid
open_block_item (BlockItem-F.«BlockItem::Var» of) = (var_laid of)
open_block_item (BlockItem-F.Function of) = (function_laid of)
open_block_item (BlockItem-F.Stmt of) = stmt_lines (stmt_laid of)

abbrev pub open_clause : Clause-F ArrowBody BlockItem Clause Expr ForStart Prop Stmt Block Declarator Function Param TemplateSpan Var → Laid
open_clause (Clause-F.Case at value items) = λ n. word (codes "case") ++ space ++ expr_laid value n ++ mark m.Colon ++ lines n (map block_item_laid items)
open_clause (Clause-F.Default at items) = λ n. word (codes "default") ++ mark m.Colon ++ lines n (map block_item_laid items)

abbrev pub open_expr : Expr-F ArrowBody BlockItem Clause Expr ForStart Prop Stmt Block Declarator Function Param TemplateSpan Var → Laid
open_expr (Expr-F.Name at name) = λ n. word name
open_expr (Expr-F.This at) = λ n. word (codes "this")
open_expr (Expr-F.Null at) = λ n. word (codes "null")
open_expr (Expr-F.Undefined at) = λ n. word (codes "undefined")
open_expr (Expr-F.Boolean at value) = λ n. truth_pieces value
open_expr (Expr-F.Number at spelled) = λ n. Lex c.Number spelled ∷ []
open_expr (Expr-F.String at spelled) = λ n. Lex c.String spelled ∷ []
open_expr (Expr-F.Template at head spans) = λ n. template_pieces head (laid_spans n (map span_laid spans))
open_expr (Expr-F.Parens at inner) = λ n. in_parens (expr_laid inner n)
open_expr (Expr-F.Array at elements) = λ n. mark m.OpenBracket ++ laid_list n (map expr_laid elements) ++ mark m.CloseBracket
open_expr (Expr-F.Object at props) = λ n. object_pieces (laid_all n (map prop_laid props))
open_expr (Expr-F.New at class arguments) = λ n. word (codes "new") ++ space ++ word class.name ++ in_parens (laid_list n (map expr_laid arguments))
open_expr (Expr-F.Member at base member) = λ n. expr_laid base n ++ mark m.Dot ++ word member
open_expr (Expr-F.Index at base index) = λ n. expr_laid base n ++ mark m.OpenBracket ++ expr_laid index n ++ mark m.CloseBracket
open_expr (Expr-F.Call at callee type_arguments arguments) = λ n. expr_laid callee n ++ in_parens (laid_list n (map expr_laid arguments))
open_expr (Expr-F.Unary at operator operand) = λ n. prefixed operator (expr_laid operand n)
open_expr (Expr-F.Update at operator true target) = λ n. mark (update_mark operator) ++ expr_laid target n
open_expr (Expr-F.Update at operator false target) = λ n. expr_laid target n ++ mark (update_mark operator)
open_expr (Expr-F.Binary at left operator right) = λ n. joined (expr_laid left n) (binary_mark operator) (expr_laid right n)
open_expr (Expr-F.As at value shape) = (expr_laid value)
open_expr (Expr-F.Conditional at condition chosen otherwise) = λ n. joined (joined (expr_laid condition n) m.Question (expr_laid chosen n)) m.Colon (expr_laid otherwise n)
open_expr (Expr-F.Assign at target operator value) = λ n. joined (expr_laid target n) (assign_mark operator) (expr_laid value n)
open_expr (Expr-F.Arrow at params result of) = λ n. joined (in_parens (laid_list n (map param_laid params))) m.Arrow (arrow_body_laid of n)

abbrev pub open_start : ForStart-F ArrowBody BlockItem Clause Expr ForStart Prop Stmt Block Declarator Function Param TemplateSpan Var → Laid
open_start (ForStart-F.«ForStart::Var» of) = (var_laid of)
open_start (ForStart-F.«ForStart::Expr» of) = λ n. expr_laid of n ++ mark m.Semicolon
open_start ForStart-F.Nothing = λ n. mark m.Semicolon

abbrev pub open_prop : Prop-F ArrowBody BlockItem Clause Expr ForStart Prop Stmt Block Declarator Function Param TemplateSpan Var → Laid
open_prop (Prop-F.Valued at key value) = λ n. key_pieces key ++ mark m.Colon ++ space ++ expr_laid value n
open_prop (Prop-F.Short at name) = λ n. word name

abbrev pub open_stmt : Stmt-F ArrowBody BlockItem Clause Expr ForStart Prop Stmt Block Declarator Function Param TemplateSpan Var → LaidStmt
open_stmt (Stmt-F.«Stmt::Block» of) = record { is_block = true; laid = (block_laid of) }
open_stmt (Stmt-F.If at condition chosen otherwise) = statement (λ n. word (codes "if") ++ space ++ in_parens (expr_laid condition n) ++ body_pieces n (stmt_laid chosen) ++ else_pieces n (otherwise_laid otherwise))
open_stmt (Stmt-F.While at condition of) = statement (λ n. word (codes "while") ++ space ++ in_parens (expr_laid condition n) ++ body_pieces n (stmt_laid of))
open_stmt (Stmt-F.Do at of condition) = statement (λ n. word (codes "do") ++ body_pieces n (stmt_laid of) ++ new_line n ++ word (codes "while") ++ space ++ in_parens (expr_laid condition n) ++ mark m.Semicolon)
open_stmt (Stmt-F.For at first condition step of) = statement (λ n. word (codes "for") ++ space ++ in_parens (start_laid first n ++ part_pieces n (optional_laid condition) ++ mark m.Semicolon ++ part_pieces n (optional_laid step)) ++ body_pieces n (stmt_laid of))
open_stmt (Stmt-F.ForOf at kind element subject of) = statement (λ n. word (codes "for") ++ space ++ in_parens (kind_pieces kind ++ space ++ word element.name ++ space ++ word (codes "of") ++ space ++ expr_laid subject n) ++ body_pieces n (stmt_laid of))
open_stmt (Stmt-F.Return at None) = statement (λ n. word (codes "return") ++ mark m.Semicolon)
open_stmt (Stmt-F.Return at (Some value_part)) = statement (λ n. word (codes "return") ++ space ++ expr_laid value_part n ++ mark m.Semicolon)
open_stmt (Stmt-F.Break at) = statement (λ n. word (codes "break") ++ mark m.Semicolon)
open_stmt (Stmt-F.Continue at) = statement (λ n. word (codes "continue") ++ mark m.Semicolon)
open_stmt (Stmt-F.Throw at value) = statement (λ n. word (codes "throw") ++ space ++ expr_laid value n ++ mark m.Semicolon)
open_stmt (Stmt-F.Switch at subject clauses) = statement (λ n. word (codes "switch") ++ space ++ in_parens (expr_laid subject n) ++ space ++ mark m.OpenBrace ++ lines n (map clause_laid clauses) ++ new_line n ++ mark m.CloseBrace)
open_stmt (Stmt-F.«Stmt::Expr» at value) = statement (λ n. expr_laid value n ++ mark m.Semicolon)
open_stmt (Stmt-F.Empty at) = statement (λ n. mark m.Semicolon)

abbrev pub open_block : Block-F ArrowBody BlockItem Clause Expr ForStart Prop Stmt Block Declarator Function Param TemplateSpan Var → Laid
open_block layer = λ n. block_pieces n (map block_item_laid layer.items)

abbrev pub open_declarator : Declarator-F ArrowBody BlockItem Clause Expr ForStart Prop Stmt Block Declarator Function Param TemplateSpan Var → Laid
open_declarator layer = λ n. word layer.name ++ value_pieces n (optional_laid layer.value)

abbrev pub open_function : Function-F ArrowBody BlockItem Clause Expr ForStart Prop Stmt Block Declarator Function Param TemplateSpan Var → Laid
open_function layer = λ n. word (codes "function") ++ space ++ word layer.name ++ in_parens (laid_list n (map param_laid layer.params)) ++ space ++ block_laid layer.body n

abbrev pub open_param : Param-F ArrowBody BlockItem Clause Expr ForStart Prop Stmt Block Declarator Function Param TemplateSpan Var → Laid
open_param layer = λ n. word layer.name ++ value_pieces n (optional_laid layer.value)

abbrev pub open_span : TemplateSpan-F ArrowBody BlockItem Clause Expr ForStart Prop Stmt Block Declarator Function Param TemplateSpan Var → Span
open_span layer = λ n. (expr_laid layer.value n, layer.text)

abbrev pub open_var : Var-F ArrowBody BlockItem Clause Expr ForStart Prop Stmt Block Declarator Function Param TemplateSpan Var → Laid
open_var layer = λ n. kind_pieces layer.kind ++ space ++ laid_list n (map declarator_laid layer.declarators) ++ mark m.Semicolon

-- ---- one layer of a tree, opened

arrow_body_opened : (layer : ArrowBody-F ArrowBody BlockItem Clause Expr ForStart Prop Stmt Block Declarator Function Param TemplateSpan Var) → arrow_body_layout (map-ArrowBody ArrowBody BlockItem Clause Expr ForStart Prop Stmt Block Declarator Function Param TemplateSpan Var Laid Laid Laid Laid Laid Laid LaidStmt Laid Laid Laid Laid Span Laid arrow_body_laid block_item_laid clause_laid expr_laid start_laid prop_laid stmt_laid block_laid declarator_laid function_laid param_laid span_laid var_laid layer) ≡ open_arrow_body layer
arrow_body_opened (ArrowBody-F.«ArrowBody::Block» of) = refl
arrow_body_opened (ArrowBody-F.«ArrowBody::Expr» of) = refl

pub arrow_body_out : (of : ArrowBody) → arrow_body_laid of ≡ open_arrow_body (out-ArrowBody of)
unfolding arrow_body_laid block_item_laid clause_laid expr_laid start_laid prop_laid stmt_laid block_laid declarator_laid function_laid param_laid span_laid var_laid
arrow_body_out of = fold_out-ArrowBody Laid Laid Laid Laid Laid Laid LaidStmt Laid Laid Laid Laid Span Laid arrow_body_layout block_item_layout clause_layout expr_layout start_layout prop_layout stmt_layout block_layout declarator_layout function_layout param_layout span_layout var_layout of ∙ arrow_body_opened (out-ArrowBody of)

block_item_opened : (layer : BlockItem-F ArrowBody BlockItem Clause Expr ForStart Prop Stmt Block Declarator Function Param TemplateSpan Var) → block_item_layout (map-BlockItem ArrowBody BlockItem Clause Expr ForStart Prop Stmt Block Declarator Function Param TemplateSpan Var Laid Laid Laid Laid Laid Laid LaidStmt Laid Laid Laid Laid Span Laid arrow_body_laid block_item_laid clause_laid expr_laid start_laid prop_laid stmt_laid block_laid declarator_laid function_laid param_laid span_laid var_laid layer) ≡ open_block_item layer
block_item_opened (BlockItem-F.«BlockItem::Var» of) = refl
block_item_opened (BlockItem-F.Function of) = refl
block_item_opened (BlockItem-F.Stmt of) = refl

pub block_item_out : (of : BlockItem) → block_item_laid of ≡ open_block_item (out-BlockItem of)
unfolding arrow_body_laid block_item_laid clause_laid expr_laid start_laid prop_laid stmt_laid block_laid declarator_laid function_laid param_laid span_laid var_laid
block_item_out of = fold_out-BlockItem Laid Laid Laid Laid Laid Laid LaidStmt Laid Laid Laid Laid Span Laid arrow_body_layout block_item_layout clause_layout expr_layout start_layout prop_layout stmt_layout block_layout declarator_layout function_layout param_layout span_layout var_layout of ∙ block_item_opened (out-BlockItem of)

clause_opened : (layer : Clause-F ArrowBody BlockItem Clause Expr ForStart Prop Stmt Block Declarator Function Param TemplateSpan Var) → clause_layout (map-Clause ArrowBody BlockItem Clause Expr ForStart Prop Stmt Block Declarator Function Param TemplateSpan Var Laid Laid Laid Laid Laid Laid LaidStmt Laid Laid Laid Laid Span Laid arrow_body_laid block_item_laid clause_laid expr_laid start_laid prop_laid stmt_laid block_laid declarator_laid function_laid param_laid span_laid var_laid layer) ≡ open_clause layer
clause_opened (Clause-F.Case at value items) = refl
clause_opened (Clause-F.Default at items) = refl

pub clause_out : (of : Clause) → clause_laid of ≡ open_clause (out-Clause of)
unfolding arrow_body_laid block_item_laid clause_laid expr_laid start_laid prop_laid stmt_laid block_laid declarator_laid function_laid param_laid span_laid var_laid
clause_out of = fold_out-Clause Laid Laid Laid Laid Laid Laid LaidStmt Laid Laid Laid Laid Span Laid arrow_body_layout block_item_layout clause_layout expr_layout start_layout prop_layout stmt_layout block_layout declarator_layout function_layout param_layout span_layout var_layout of ∙ clause_opened (out-Clause of)

expr_opened : (layer : Expr-F ArrowBody BlockItem Clause Expr ForStart Prop Stmt Block Declarator Function Param TemplateSpan Var) → expr_layout (map-Expr ArrowBody BlockItem Clause Expr ForStart Prop Stmt Block Declarator Function Param TemplateSpan Var Laid Laid Laid Laid Laid Laid LaidStmt Laid Laid Laid Laid Span Laid arrow_body_laid block_item_laid clause_laid expr_laid start_laid prop_laid stmt_laid block_laid declarator_laid function_laid param_laid span_laid var_laid layer) ≡ open_expr layer
expr_opened (Expr-F.Name at name) = refl
expr_opened (Expr-F.This at) = refl
expr_opened (Expr-F.Null at) = refl
expr_opened (Expr-F.Undefined at) = refl
expr_opened (Expr-F.Boolean at value) = refl
expr_opened (Expr-F.Number at spelled) = refl
expr_opened (Expr-F.String at spelled) = refl
expr_opened (Expr-F.Template at head spans) = refl
expr_opened (Expr-F.Parens at inner) = refl
expr_opened (Expr-F.Array at elements) = refl
expr_opened (Expr-F.Object at props) = refl
expr_opened (Expr-F.New at class arguments) = refl
expr_opened (Expr-F.Member at base member) = refl
expr_opened (Expr-F.Index at base index) = refl
expr_opened (Expr-F.Call at callee type_arguments arguments) = refl
expr_opened (Expr-F.Unary at operator operand) = refl
expr_opened (Expr-F.Update at operator true target) = refl
expr_opened (Expr-F.Update at operator false target) = refl
expr_opened (Expr-F.Binary at left operator right) = refl
expr_opened (Expr-F.As at value shape) = refl
expr_opened (Expr-F.Conditional at condition chosen otherwise) = refl
expr_opened (Expr-F.Assign at target operator value) = refl
expr_opened (Expr-F.Arrow at params result of) = refl

pub expr_out : (of : Expr) → expr_laid of ≡ open_expr (out-Expr of)
unfolding arrow_body_laid block_item_laid clause_laid expr_laid start_laid prop_laid stmt_laid block_laid declarator_laid function_laid param_laid span_laid var_laid
expr_out of = fold_out-Expr Laid Laid Laid Laid Laid Laid LaidStmt Laid Laid Laid Laid Span Laid arrow_body_layout block_item_layout clause_layout expr_layout start_layout prop_layout stmt_layout block_layout declarator_layout function_layout param_layout span_layout var_layout of ∙ expr_opened (out-Expr of)

start_opened : (layer : ForStart-F ArrowBody BlockItem Clause Expr ForStart Prop Stmt Block Declarator Function Param TemplateSpan Var) → start_layout (map-ForStart ArrowBody BlockItem Clause Expr ForStart Prop Stmt Block Declarator Function Param TemplateSpan Var Laid Laid Laid Laid Laid Laid LaidStmt Laid Laid Laid Laid Span Laid arrow_body_laid block_item_laid clause_laid expr_laid start_laid prop_laid stmt_laid block_laid declarator_laid function_laid param_laid span_laid var_laid layer) ≡ open_start layer
start_opened (ForStart-F.«ForStart::Var» of) = refl
start_opened (ForStart-F.«ForStart::Expr» of) = refl
start_opened ForStart-F.Nothing = refl

pub start_out : (of : ForStart) → start_laid of ≡ open_start (out-ForStart of)
unfolding arrow_body_laid block_item_laid clause_laid expr_laid start_laid prop_laid stmt_laid block_laid declarator_laid function_laid param_laid span_laid var_laid
start_out of = fold_out-ForStart Laid Laid Laid Laid Laid Laid LaidStmt Laid Laid Laid Laid Span Laid arrow_body_layout block_item_layout clause_layout expr_layout start_layout prop_layout stmt_layout block_layout declarator_layout function_layout param_layout span_layout var_layout of ∙ start_opened (out-ForStart of)

prop_opened : (layer : Prop-F ArrowBody BlockItem Clause Expr ForStart Prop Stmt Block Declarator Function Param TemplateSpan Var) → prop_layout (map-Prop ArrowBody BlockItem Clause Expr ForStart Prop Stmt Block Declarator Function Param TemplateSpan Var Laid Laid Laid Laid Laid Laid LaidStmt Laid Laid Laid Laid Span Laid arrow_body_laid block_item_laid clause_laid expr_laid start_laid prop_laid stmt_laid block_laid declarator_laid function_laid param_laid span_laid var_laid layer) ≡ open_prop layer
prop_opened (Prop-F.Valued at key value) = refl
prop_opened (Prop-F.Short at name) = refl

pub prop_out : (of : Prop) → prop_laid of ≡ open_prop (out-Prop of)
unfolding arrow_body_laid block_item_laid clause_laid expr_laid start_laid prop_laid stmt_laid block_laid declarator_laid function_laid param_laid span_laid var_laid
prop_out of = fold_out-Prop Laid Laid Laid Laid Laid Laid LaidStmt Laid Laid Laid Laid Span Laid arrow_body_layout block_item_layout clause_layout expr_layout start_layout prop_layout stmt_layout block_layout declarator_layout function_layout param_layout span_layout var_layout of ∙ prop_opened (out-Prop of)

stmt_opened : (layer : Stmt-F ArrowBody BlockItem Clause Expr ForStart Prop Stmt Block Declarator Function Param TemplateSpan Var) → stmt_layout (map-Stmt ArrowBody BlockItem Clause Expr ForStart Prop Stmt Block Declarator Function Param TemplateSpan Var Laid Laid Laid Laid Laid Laid LaidStmt Laid Laid Laid Laid Span Laid arrow_body_laid block_item_laid clause_laid expr_laid start_laid prop_laid stmt_laid block_laid declarator_laid function_laid param_laid span_laid var_laid layer) ≡ open_stmt layer
stmt_opened (Stmt-F.«Stmt::Block» of) = refl
stmt_opened (Stmt-F.If at condition chosen None) = refl
stmt_opened (Stmt-F.If at condition chosen (Some otherwise_part)) = refl
stmt_opened (Stmt-F.While at condition of) = refl
stmt_opened (Stmt-F.Do at of condition) = refl
stmt_opened (Stmt-F.For at first None None of) = refl
stmt_opened (Stmt-F.For at first None (Some step_part) of) = refl
stmt_opened (Stmt-F.For at first (Some condition_part) None of) = refl
stmt_opened (Stmt-F.For at first (Some condition_part) (Some step_part) of) = refl
stmt_opened (Stmt-F.ForOf at kind element subject of) = refl
stmt_opened (Stmt-F.Return at None) = refl
stmt_opened (Stmt-F.Return at (Some value_part)) = refl
stmt_opened (Stmt-F.Break at) = refl
stmt_opened (Stmt-F.Continue at) = refl
stmt_opened (Stmt-F.Throw at value) = refl
stmt_opened (Stmt-F.Switch at subject clauses) = refl
stmt_opened (Stmt-F.«Stmt::Expr» at value) = refl
stmt_opened (Stmt-F.Empty at) = refl

pub stmt_out : (of : Stmt) → stmt_laid of ≡ open_stmt (out-Stmt of)
unfolding arrow_body_laid block_item_laid clause_laid expr_laid start_laid prop_laid stmt_laid block_laid declarator_laid function_laid param_laid span_laid var_laid
stmt_out of = fold_out-Stmt Laid Laid Laid Laid Laid Laid LaidStmt Laid Laid Laid Laid Span Laid arrow_body_layout block_item_layout clause_layout expr_layout start_layout prop_layout stmt_layout block_layout declarator_layout function_layout param_layout span_layout var_layout of ∙ stmt_opened (out-Stmt of)

block_opened : (layer : Block-F ArrowBody BlockItem Clause Expr ForStart Prop Stmt Block Declarator Function Param TemplateSpan Var) → block_layout (map-Block ArrowBody BlockItem Clause Expr ForStart Prop Stmt Block Declarator Function Param TemplateSpan Var Laid Laid Laid Laid Laid Laid LaidStmt Laid Laid Laid Laid Span Laid arrow_body_laid block_item_laid clause_laid expr_laid start_laid prop_laid stmt_laid block_laid declarator_laid function_laid param_laid span_laid var_laid layer) ≡ open_block layer
block_opened layer = refl

pub block_out : (of : Block) → block_laid of ≡ open_block (out-Block of)
unfolding arrow_body_laid block_item_laid clause_laid expr_laid start_laid prop_laid stmt_laid block_laid declarator_laid function_laid param_laid span_laid var_laid
block_out of = fold_out-Block Laid Laid Laid Laid Laid Laid LaidStmt Laid Laid Laid Laid Span Laid arrow_body_layout block_item_layout clause_layout expr_layout start_layout prop_layout stmt_layout block_layout declarator_layout function_layout param_layout span_layout var_layout of ∙ block_opened (out-Block of)

declarator_valued : (at : ℕ) (name : List ℕ) (annotation : Option TypeExpr) (value : Option Expr) → declarator_layout (map-Declarator ArrowBody BlockItem Clause Expr ForStart Prop Stmt Block Declarator Function Param TemplateSpan Var Laid Laid Laid Laid Laid Laid LaidStmt Laid Laid Laid Laid Span Laid arrow_body_laid block_item_laid clause_laid expr_laid start_laid prop_laid stmt_laid block_laid declarator_laid function_laid param_laid span_laid var_laid (record { at = at; name = name; annotation = annotation; value = value })) ≡ open_declarator (record { at = at; name = name; annotation = annotation; value = value })
declarator_valued at name annotation None = refl
declarator_valued at name annotation (Some value_part) = refl

declarator_opened : (layer : Declarator-F ArrowBody BlockItem Clause Expr ForStart Prop Stmt Block Declarator Function Param TemplateSpan Var) → declarator_layout (map-Declarator ArrowBody BlockItem Clause Expr ForStart Prop Stmt Block Declarator Function Param TemplateSpan Var Laid Laid Laid Laid Laid Laid LaidStmt Laid Laid Laid Laid Span Laid arrow_body_laid block_item_laid clause_laid expr_laid start_laid prop_laid stmt_laid block_laid declarator_laid function_laid param_laid span_laid var_laid layer) ≡ open_declarator layer
declarator_opened layer = declarator_valued layer.at layer.name layer.annotation layer.value

pub declarator_out : (of : Declarator) → declarator_laid of ≡ open_declarator (out-Declarator of)
unfolding arrow_body_laid block_item_laid clause_laid expr_laid start_laid prop_laid stmt_laid block_laid declarator_laid function_laid param_laid span_laid var_laid
declarator_out of = fold_out-Declarator Laid Laid Laid Laid Laid Laid LaidStmt Laid Laid Laid Laid Span Laid arrow_body_layout block_item_layout clause_layout expr_layout start_layout prop_layout stmt_layout block_layout declarator_layout function_layout param_layout span_layout var_layout of ∙ declarator_opened (out-Declarator of)

function_opened : (layer : Function-F ArrowBody BlockItem Clause Expr ForStart Prop Stmt Block Declarator Function Param TemplateSpan Var) → function_layout (map-Function ArrowBody BlockItem Clause Expr ForStart Prop Stmt Block Declarator Function Param TemplateSpan Var Laid Laid Laid Laid Laid Laid LaidStmt Laid Laid Laid Laid Span Laid arrow_body_laid block_item_laid clause_laid expr_laid start_laid prop_laid stmt_laid block_laid declarator_laid function_laid param_laid span_laid var_laid layer) ≡ open_function layer
function_opened layer = refl

pub function_out : (of : Function) → function_laid of ≡ open_function (out-Function of)
unfolding arrow_body_laid block_item_laid clause_laid expr_laid start_laid prop_laid stmt_laid block_laid declarator_laid function_laid param_laid span_laid var_laid
function_out of = fold_out-Function Laid Laid Laid Laid Laid Laid LaidStmt Laid Laid Laid Laid Span Laid arrow_body_layout block_item_layout clause_layout expr_layout start_layout prop_layout stmt_layout block_layout declarator_layout function_layout param_layout span_layout var_layout of ∙ function_opened (out-Function of)

param_valued : (at : ℕ) (name : List ℕ) (optional : Bool) (annotation : Option TypeExpr) (value : Option Expr) → param_layout (map-Param ArrowBody BlockItem Clause Expr ForStart Prop Stmt Block Declarator Function Param TemplateSpan Var Laid Laid Laid Laid Laid Laid LaidStmt Laid Laid Laid Laid Span Laid arrow_body_laid block_item_laid clause_laid expr_laid start_laid prop_laid stmt_laid block_laid declarator_laid function_laid param_laid span_laid var_laid (record { at = at; name = name; optional = optional; annotation = annotation; value = value })) ≡ open_param (record { at = at; name = name; optional = optional; annotation = annotation; value = value })
param_valued at name optional annotation None = refl
param_valued at name optional annotation (Some value_part) = refl

param_opened : (layer : Param-F ArrowBody BlockItem Clause Expr ForStart Prop Stmt Block Declarator Function Param TemplateSpan Var) → param_layout (map-Param ArrowBody BlockItem Clause Expr ForStart Prop Stmt Block Declarator Function Param TemplateSpan Var Laid Laid Laid Laid Laid Laid LaidStmt Laid Laid Laid Laid Span Laid arrow_body_laid block_item_laid clause_laid expr_laid start_laid prop_laid stmt_laid block_laid declarator_laid function_laid param_laid span_laid var_laid layer) ≡ open_param layer
param_opened layer = param_valued layer.at layer.name layer.optional layer.annotation layer.value

pub param_out : (of : Param) → param_laid of ≡ open_param (out-Param of)
unfolding arrow_body_laid block_item_laid clause_laid expr_laid start_laid prop_laid stmt_laid block_laid declarator_laid function_laid param_laid span_laid var_laid
param_out of = fold_out-Param Laid Laid Laid Laid Laid Laid LaidStmt Laid Laid Laid Laid Span Laid arrow_body_layout block_item_layout clause_layout expr_layout start_layout prop_layout stmt_layout block_layout declarator_layout function_layout param_layout span_layout var_layout of ∙ param_opened (out-Param of)

span_opened : (layer : TemplateSpan-F ArrowBody BlockItem Clause Expr ForStart Prop Stmt Block Declarator Function Param TemplateSpan Var) → span_layout (map-TemplateSpan ArrowBody BlockItem Clause Expr ForStart Prop Stmt Block Declarator Function Param TemplateSpan Var Laid Laid Laid Laid Laid Laid LaidStmt Laid Laid Laid Laid Span Laid arrow_body_laid block_item_laid clause_laid expr_laid start_laid prop_laid stmt_laid block_laid declarator_laid function_laid param_laid span_laid var_laid layer) ≡ open_span layer
span_opened layer = refl

pub span_out : (of : TemplateSpan) → span_laid of ≡ open_span (out-TemplateSpan of)
unfolding arrow_body_laid block_item_laid clause_laid expr_laid start_laid prop_laid stmt_laid block_laid declarator_laid function_laid param_laid span_laid var_laid
span_out of = fold_out-TemplateSpan Laid Laid Laid Laid Laid Laid LaidStmt Laid Laid Laid Laid Span Laid arrow_body_layout block_item_layout clause_layout expr_layout start_layout prop_layout stmt_layout block_layout declarator_layout function_layout param_layout span_layout var_layout of ∙ span_opened (out-TemplateSpan of)

var_opened : (layer : Var-F ArrowBody BlockItem Clause Expr ForStart Prop Stmt Block Declarator Function Param TemplateSpan Var) → var_layout (map-Var ArrowBody BlockItem Clause Expr ForStart Prop Stmt Block Declarator Function Param TemplateSpan Var Laid Laid Laid Laid Laid Laid LaidStmt Laid Laid Laid Laid Span Laid arrow_body_laid block_item_laid clause_laid expr_laid start_laid prop_laid stmt_laid block_laid declarator_laid function_laid param_laid span_laid var_laid layer) ≡ open_var layer
var_opened layer = refl

pub var_out : (of : Var) → var_laid of ≡ open_var (out-Var of)
unfolding arrow_body_laid block_item_laid clause_laid expr_laid start_laid prop_laid stmt_laid block_laid declarator_laid function_laid param_laid span_laid var_laid
var_out of = fold_out-Var Laid Laid Laid Laid Laid Laid LaidStmt Laid Laid Laid Laid Span Laid arrow_body_layout block_item_layout clause_layout expr_layout start_layout prop_layout stmt_layout block_layout declarator_layout function_layout param_layout span_layout var_layout of ∙ var_opened (out-Var of)

-- ---- each form of a tree

pub block_arrow_body : (of : Block) → arrow_body_laid (arrow_body.Block of) ≡ (block_laid of)
block_arrow_body of = arrow_body_out _ ∙ ap open_arrow_body (arrow_body.outs-Block of)

pub expr_arrow_body : (of : Expr) → arrow_body_laid (arrow_body.Expr of) ≡ (expr_laid of)
expr_arrow_body of = arrow_body_out _ ∙ ap open_arrow_body (arrow_body.outs-Expr of)

pub var_block_item : (of : Var) → block_item_laid (block_item.Var of) ≡ (var_laid of)
var_block_item of = block_item_out _ ∙ ap open_block_item (block_item.outs-Var of)

pub function_block_item : (of : Function) → block_item_laid (block_item.Function of) ≡ (function_laid of)
function_block_item of = block_item_out _ ∙ ap open_block_item (block_item.outs-Function of)

pub stmt_block_item : (of : Stmt) → block_item_laid (block_item.Stmt of) ≡ stmt_lines (stmt_laid of)
stmt_block_item of = block_item_out _ ∙ ap open_block_item (block_item.outs-Stmt of)

pub case_clause : (at : ℕ) (value : Expr) (items : List BlockItem) → clause_laid (clause.Case at value items) ≡ λ n. word (codes "case") ++ space ++ expr_laid value n ++ mark m.Colon ++ lines n (map block_item_laid items)
case_clause at value items = clause_out _ ∙ ap open_clause (clause.outs-Case at value items)

pub default_clause : (at : ℕ) (items : List BlockItem) → clause_laid (clause.Default at items) ≡ λ n. word (codes "default") ++ mark m.Colon ++ lines n (map block_item_laid items)
default_clause at items = clause_out _ ∙ ap open_clause (clause.outs-Default at items)

pub name_expr : (at : ℕ) (name : List ℕ) → expr_laid (expr.Name at name) ≡ λ n. word name
name_expr at name = expr_out _ ∙ ap open_expr (expr.outs-Name at name)

pub this_expr : (at : ℕ) → expr_laid (expr.This at) ≡ λ n. word (codes "this")
this_expr at = expr_out _ ∙ ap open_expr (expr.outs-This at)

pub null_expr : (at : ℕ) → expr_laid (expr.Null at) ≡ λ n. word (codes "null")
null_expr at = expr_out _ ∙ ap open_expr (expr.outs-Null at)

pub undefined_expr : (at : ℕ) → expr_laid (expr.Undefined at) ≡ λ n. word (codes "undefined")
undefined_expr at = expr_out _ ∙ ap open_expr (expr.outs-Undefined at)

pub boolean_expr : (at : ℕ) (value : Bool) → expr_laid (expr.Boolean at value) ≡ λ n. truth_pieces value
boolean_expr at value = expr_out _ ∙ ap open_expr (expr.outs-Boolean at value)

pub number_expr : (at : ℕ) (spelled : List ℕ) → expr_laid (expr.Number at spelled) ≡ λ n. Lex c.Number spelled ∷ []
number_expr at spelled = expr_out _ ∙ ap open_expr (expr.outs-Number at spelled)

pub string_expr : (at : ℕ) (spelled : List ℕ) → expr_laid (expr.String at spelled) ≡ λ n. Lex c.String spelled ∷ []
string_expr at spelled = expr_out _ ∙ ap open_expr (expr.outs-String at spelled)

pub template_expr : (at : ℕ) (head : List ℕ) (spans : List TemplateSpan) → expr_laid (expr.Template at head spans) ≡ λ n. template_pieces head (laid_spans n (map span_laid spans))
template_expr at head spans = expr_out _ ∙ ap open_expr (expr.outs-Template at head spans)

pub parens_expr : (at : ℕ) (inner : Expr) → expr_laid (expr.Parens at inner) ≡ λ n. in_parens (expr_laid inner n)
parens_expr at inner = expr_out _ ∙ ap open_expr (expr.outs-Parens at inner)

pub array_expr : (at : ℕ) (elements : List Expr) → expr_laid (expr.Array at elements) ≡ λ n. mark m.OpenBracket ++ laid_list n (map expr_laid elements) ++ mark m.CloseBracket
array_expr at elements = expr_out _ ∙ ap open_expr (expr.outs-Array at elements)

pub object_expr : (at : ℕ) (props : List Prop) → expr_laid (expr.Object at props) ≡ λ n. object_pieces (laid_all n (map prop_laid props))
object_expr at props = expr_out _ ∙ ap open_expr (expr.outs-Object at props)

pub new_expr : (at : ℕ) (class : Identifier) (arguments : List Expr) → expr_laid (expr.New at class arguments) ≡ λ n. word (codes "new") ++ space ++ word class.name ++ in_parens (laid_list n (map expr_laid arguments))
new_expr at class arguments = expr_out _ ∙ ap open_expr (expr.outs-New at class arguments)

pub member_expr : (at : ℕ) (base : Expr) (member : List ℕ) → expr_laid (expr.Member at base member) ≡ λ n. expr_laid base n ++ mark m.Dot ++ word member
member_expr at base member = expr_out _ ∙ ap open_expr (expr.outs-Member at base member)

pub index_expr : (at : ℕ) (base : Expr) (index : Expr) → expr_laid (expr.Index at base index) ≡ λ n. expr_laid base n ++ mark m.OpenBracket ++ expr_laid index n ++ mark m.CloseBracket
index_expr at base index = expr_out _ ∙ ap open_expr (expr.outs-Index at base index)

pub call_expr : (at : ℕ) (callee : Expr) (type_arguments : List TypeExpr) (arguments : List Expr) → expr_laid (expr.Call at callee type_arguments arguments) ≡ λ n. expr_laid callee n ++ in_parens (laid_list n (map expr_laid arguments))
call_expr at callee type_arguments arguments = expr_out _ ∙ ap open_expr (expr.outs-Call at callee type_arguments arguments)

pub unary_expr : (at : ℕ) (operator : UnaryOperator) (operand : Expr) → expr_laid (expr.Unary at operator operand) ≡ λ n. prefixed operator (expr_laid operand n)
unary_expr at operator operand = expr_out _ ∙ ap open_expr (expr.outs-Unary at operator operand)

pub update_before_expr : (at : ℕ) (operator : UpdateOperator) (target : Expr) → expr_laid (expr.Update at operator true target) ≡ λ n. mark (update_mark operator) ++ expr_laid target n
update_before_expr at operator target = expr_out _ ∙ ap open_expr (expr.outs-Update at operator true target)

pub update_behind_expr : (at : ℕ) (operator : UpdateOperator) (target : Expr) → expr_laid (expr.Update at operator false target) ≡ λ n. expr_laid target n ++ mark (update_mark operator)
update_behind_expr at operator target = expr_out _ ∙ ap open_expr (expr.outs-Update at operator false target)

pub binary_expr : (at : ℕ) (left : Expr) (operator : BinaryOperator) (right : Expr) → expr_laid (expr.Binary at left operator right) ≡ λ n. joined (expr_laid left n) (binary_mark operator) (expr_laid right n)
binary_expr at left operator right = expr_out _ ∙ ap open_expr (expr.outs-Binary at left operator right)

pub as_expr : (at : ℕ) (value : Expr) (shape : TypeExpr) → expr_laid (expr.As at value shape) ≡ (expr_laid value)
as_expr at value shape = expr_out _ ∙ ap open_expr (expr.outs-As at value shape)

pub conditional_expr : (at : ℕ) (condition : Expr) (chosen : Expr) (otherwise : Expr) → expr_laid (expr.Conditional at condition chosen otherwise) ≡ λ n. joined (joined (expr_laid condition n) m.Question (expr_laid chosen n)) m.Colon (expr_laid otherwise n)
conditional_expr at condition chosen otherwise = expr_out _ ∙ ap open_expr (expr.outs-Conditional at condition chosen otherwise)

pub assign_expr : (at : ℕ) (target : Expr) (operator : AssignOperator) (value : Expr) → expr_laid (expr.Assign at target operator value) ≡ λ n. joined (expr_laid target n) (assign_mark operator) (expr_laid value n)
assign_expr at target operator value = expr_out _ ∙ ap open_expr (expr.outs-Assign at target operator value)

pub arrow_expr : (at : ℕ) (params : List Param) (result : Option TypeExpr) (of : ArrowBody) → expr_laid (expr.Arrow at params result of) ≡ λ n. joined (in_parens (laid_list n (map param_laid params))) m.Arrow (arrow_body_laid of n)
arrow_expr at params result of = expr_out _ ∙ ap open_expr (expr.outs-Arrow at params result of)

pub var_start : (of : Var) → start_laid (start.Var of) ≡ (var_laid of)
var_start of = start_out _ ∙ ap open_start (start.outs-Var of)

pub expr_start : (of : Expr) → start_laid (start.Expr of) ≡ λ n. expr_laid of n ++ mark m.Semicolon
expr_start of = start_out _ ∙ ap open_start (start.outs-Expr of)

pub nothing_start : start_laid start.Nothing ≡ λ n. mark m.Semicolon
nothing_start = start_out _ ∙ ap open_start start.outs-Nothing

pub valued_prop : (at : ℕ) (key : Key) (value : Expr) → prop_laid (prop.Valued at key value) ≡ λ n. key_pieces key ++ mark m.Colon ++ space ++ expr_laid value n
valued_prop at key value = prop_out _ ∙ ap open_prop (prop.outs-Valued at key value)

pub short_prop : (at : ℕ) (name : List ℕ) → prop_laid (prop.Short at name) ≡ λ n. word name
short_prop at name = prop_out _ ∙ ap open_prop (prop.outs-Short at name)

pub block_stmt : (of : Block) → stmt_laid (stmt.Block of) ≡ record { is_block = true; laid = (block_laid of) }
block_stmt of = stmt_out _ ∙ ap open_stmt (stmt.outs-Block of)

pub if_stmt : (at : ℕ) (condition : Expr) (chosen : Stmt) (otherwise : Option Stmt) → stmt_laid (stmt.If at condition chosen otherwise) ≡ statement (λ n. word (codes "if") ++ space ++ in_parens (expr_laid condition n) ++ body_pieces n (stmt_laid chosen) ++ else_pieces n (otherwise_laid otherwise))
if_stmt at condition chosen otherwise = stmt_out _ ∙ ap open_stmt (stmt.outs-If at condition chosen otherwise)

pub if_stmt_none : (at : ℕ) (condition : Expr) (chosen : Stmt) → stmt_laid (stmt.If at condition chosen None) ≡ statement (λ n. word (codes "if") ++ space ++ in_parens (expr_laid condition n) ++ body_pieces n (stmt_laid chosen) ++ else_pieces n None)
if_stmt_none at condition chosen = stmt_out _ ∙ ap open_stmt (stmt.outs-If at condition chosen None)

pub if_stmt_some : (at : ℕ) (condition : Expr) (chosen : Stmt) (otherwise_part : Stmt) → stmt_laid (stmt.If at condition chosen (Some otherwise_part)) ≡ statement (λ n. word (codes "if") ++ space ++ in_parens (expr_laid condition n) ++ body_pieces n (stmt_laid chosen) ++ else_pieces n (Some (stmt_laid otherwise_part)))
if_stmt_some at condition chosen otherwise_part = stmt_out _ ∙ ap open_stmt (stmt.outs-If at condition chosen (Some otherwise_part))

pub while_stmt : (at : ℕ) (condition : Expr) (of : Stmt) → stmt_laid (stmt.While at condition of) ≡ statement (λ n. word (codes "while") ++ space ++ in_parens (expr_laid condition n) ++ body_pieces n (stmt_laid of))
while_stmt at condition of = stmt_out _ ∙ ap open_stmt (stmt.outs-While at condition of)

pub do_stmt : (at : ℕ) (of : Stmt) (condition : Expr) → stmt_laid (stmt.Do at of condition) ≡ statement (λ n. word (codes "do") ++ body_pieces n (stmt_laid of) ++ new_line n ++ word (codes "while") ++ space ++ in_parens (expr_laid condition n) ++ mark m.Semicolon)
do_stmt at of condition = stmt_out _ ∙ ap open_stmt (stmt.outs-Do at of condition)

pub for_stmt : (at : ℕ) (first : ForStart) (condition : Option Expr) (step : Option Expr) (of : Stmt) → stmt_laid (stmt.For at first condition step of) ≡ statement (λ n. word (codes "for") ++ space ++ in_parens (start_laid first n ++ part_pieces n (optional_laid condition) ++ mark m.Semicolon ++ part_pieces n (optional_laid step)) ++ body_pieces n (stmt_laid of))
for_stmt at first condition step of = stmt_out _ ∙ ap open_stmt (stmt.outs-For at first condition step of)

pub for_stmt_none_none : (at : ℕ) (first : ForStart) (of : Stmt) → stmt_laid (stmt.For at first None None of) ≡ statement (λ n. word (codes "for") ++ space ++ in_parens (start_laid first n ++ part_pieces n None ++ mark m.Semicolon ++ part_pieces n None) ++ body_pieces n (stmt_laid of))
for_stmt_none_none at first of = stmt_out _ ∙ ap open_stmt (stmt.outs-For at first None None of)

pub for_stmt_none_some : (at : ℕ) (first : ForStart) (step_part : Expr) (of : Stmt) → stmt_laid (stmt.For at first None (Some step_part) of) ≡ statement (λ n. word (codes "for") ++ space ++ in_parens (start_laid first n ++ part_pieces n None ++ mark m.Semicolon ++ part_pieces n (Some (expr_laid step_part))) ++ body_pieces n (stmt_laid of))
for_stmt_none_some at first step_part of = stmt_out _ ∙ ap open_stmt (stmt.outs-For at first None (Some step_part) of)

pub for_stmt_some_none : (at : ℕ) (first : ForStart) (condition_part : Expr) (of : Stmt) → stmt_laid (stmt.For at first (Some condition_part) None of) ≡ statement (λ n. word (codes "for") ++ space ++ in_parens (start_laid first n ++ part_pieces n (Some (expr_laid condition_part)) ++ mark m.Semicolon ++ part_pieces n None) ++ body_pieces n (stmt_laid of))
for_stmt_some_none at first condition_part of = stmt_out _ ∙ ap open_stmt (stmt.outs-For at first (Some condition_part) None of)

pub for_stmt_some_some : (at : ℕ) (first : ForStart) (condition_part : Expr) (step_part : Expr) (of : Stmt) → stmt_laid (stmt.For at first (Some condition_part) (Some step_part) of) ≡ statement (λ n. word (codes "for") ++ space ++ in_parens (start_laid first n ++ part_pieces n (Some (expr_laid condition_part)) ++ mark m.Semicolon ++ part_pieces n (Some (expr_laid step_part))) ++ body_pieces n (stmt_laid of))
for_stmt_some_some at first condition_part step_part of = stmt_out _ ∙ ap open_stmt (stmt.outs-For at first (Some condition_part) (Some step_part) of)

pub for_of_stmt : (at : ℕ) (kind : VarKind) (element : Identifier) (subject : Expr) (of : Stmt) → stmt_laid (stmt.ForOf at kind element subject of) ≡ statement (λ n. word (codes "for") ++ space ++ in_parens (kind_pieces kind ++ space ++ word element.name ++ space ++ word (codes "of") ++ space ++ expr_laid subject n) ++ body_pieces n (stmt_laid of))
for_of_stmt at kind element subject of = stmt_out _ ∙ ap open_stmt (stmt.outs-ForOf at kind element subject of)

pub return_stmt_none : (at : ℕ) → stmt_laid (stmt.Return at None) ≡ statement (λ n. word (codes "return") ++ mark m.Semicolon)
return_stmt_none at = stmt_out _ ∙ ap open_stmt (stmt.outs-Return at None)

pub return_stmt_some : (at : ℕ) (value_part : Expr) → stmt_laid (stmt.Return at (Some value_part)) ≡ statement (λ n. word (codes "return") ++ space ++ expr_laid value_part n ++ mark m.Semicolon)
return_stmt_some at value_part = stmt_out _ ∙ ap open_stmt (stmt.outs-Return at (Some value_part))

pub break_stmt : (at : ℕ) → stmt_laid (stmt.Break at) ≡ statement (λ n. word (codes "break") ++ mark m.Semicolon)
break_stmt at = stmt_out _ ∙ ap open_stmt (stmt.outs-Break at)

pub continue_stmt : (at : ℕ) → stmt_laid (stmt.Continue at) ≡ statement (λ n. word (codes "continue") ++ mark m.Semicolon)
continue_stmt at = stmt_out _ ∙ ap open_stmt (stmt.outs-Continue at)

pub throw_stmt : (at : ℕ) (value : Expr) → stmt_laid (stmt.Throw at value) ≡ statement (λ n. word (codes "throw") ++ space ++ expr_laid value n ++ mark m.Semicolon)
throw_stmt at value = stmt_out _ ∙ ap open_stmt (stmt.outs-Throw at value)

pub switch_stmt : (at : ℕ) (subject : Expr) (clauses : List Clause) → stmt_laid (stmt.Switch at subject clauses) ≡ statement (λ n. word (codes "switch") ++ space ++ in_parens (expr_laid subject n) ++ space ++ mark m.OpenBrace ++ lines n (map clause_laid clauses) ++ new_line n ++ mark m.CloseBrace)
switch_stmt at subject clauses = stmt_out _ ∙ ap open_stmt (stmt.outs-Switch at subject clauses)

pub expr_stmt : (at : ℕ) (value : Expr) → stmt_laid (stmt.Expr at value) ≡ statement (λ n. expr_laid value n ++ mark m.Semicolon)
expr_stmt at value = stmt_out _ ∙ ap open_stmt (stmt.outs-Expr at value)

pub empty_stmt : (at : ℕ) → stmt_laid (stmt.Empty at) ≡ statement (λ n. mark m.Semicolon)
empty_stmt at = stmt_out _ ∙ ap open_stmt (stmt.outs-Empty at)

pub block_rolled : (layer : Block-F ArrowBody BlockItem Clause Expr ForStart Prop Stmt Block Declarator Function Param TemplateSpan Var) → block_laid (roll-Block layer) ≡ open_block layer
unfolding arrow_body_laid block_item_laid clause_laid expr_laid start_laid prop_laid stmt_laid block_laid declarator_laid function_laid param_laid span_laid var_laid
block_rolled layer = fold-roll-Block Laid Laid Laid Laid Laid Laid LaidStmt Laid Laid Laid Laid Span Laid arrow_body_layout block_item_layout clause_layout expr_layout start_layout prop_layout stmt_layout block_layout declarator_layout function_layout param_layout span_layout var_layout layer ∙ block_opened layer

pub declarator_rolled : (layer : Declarator-F ArrowBody BlockItem Clause Expr ForStart Prop Stmt Block Declarator Function Param TemplateSpan Var) → declarator_laid (roll-Declarator layer) ≡ open_declarator layer
unfolding arrow_body_laid block_item_laid clause_laid expr_laid start_laid prop_laid stmt_laid block_laid declarator_laid function_laid param_laid span_laid var_laid
declarator_rolled layer = fold-roll-Declarator Laid Laid Laid Laid Laid Laid LaidStmt Laid Laid Laid Laid Span Laid arrow_body_layout block_item_layout clause_layout expr_layout start_layout prop_layout stmt_layout block_layout declarator_layout function_layout param_layout span_layout var_layout layer ∙ declarator_opened layer

pub function_rolled : (layer : Function-F ArrowBody BlockItem Clause Expr ForStart Prop Stmt Block Declarator Function Param TemplateSpan Var) → function_laid (roll-Function layer) ≡ open_function layer
unfolding arrow_body_laid block_item_laid clause_laid expr_laid start_laid prop_laid stmt_laid block_laid declarator_laid function_laid param_laid span_laid var_laid
function_rolled layer = fold-roll-Function Laid Laid Laid Laid Laid Laid LaidStmt Laid Laid Laid Laid Span Laid arrow_body_layout block_item_layout clause_layout expr_layout start_layout prop_layout stmt_layout block_layout declarator_layout function_layout param_layout span_layout var_layout layer ∙ function_opened layer

pub param_rolled : (layer : Param-F ArrowBody BlockItem Clause Expr ForStart Prop Stmt Block Declarator Function Param TemplateSpan Var) → param_laid (roll-Param layer) ≡ open_param layer
unfolding arrow_body_laid block_item_laid clause_laid expr_laid start_laid prop_laid stmt_laid block_laid declarator_laid function_laid param_laid span_laid var_laid
param_rolled layer = fold-roll-Param Laid Laid Laid Laid Laid Laid LaidStmt Laid Laid Laid Laid Span Laid arrow_body_layout block_item_layout clause_layout expr_layout start_layout prop_layout stmt_layout block_layout declarator_layout function_layout param_layout span_layout var_layout layer ∙ param_opened layer

pub span_rolled : (layer : TemplateSpan-F ArrowBody BlockItem Clause Expr ForStart Prop Stmt Block Declarator Function Param TemplateSpan Var) → span_laid (roll-TemplateSpan layer) ≡ open_span layer
unfolding arrow_body_laid block_item_laid clause_laid expr_laid start_laid prop_laid stmt_laid block_laid declarator_laid function_laid param_laid span_laid var_laid
span_rolled layer = fold-roll-TemplateSpan Laid Laid Laid Laid Laid Laid LaidStmt Laid Laid Laid Laid Span Laid arrow_body_layout block_item_layout clause_layout expr_layout start_layout prop_layout stmt_layout block_layout declarator_layout function_layout param_layout span_layout var_layout layer ∙ span_opened layer

pub var_rolled : (layer : Var-F ArrowBody BlockItem Clause Expr ForStart Prop Stmt Block Declarator Function Param TemplateSpan Var) → var_laid (roll-Var layer) ≡ open_var layer
unfolding arrow_body_laid block_item_laid clause_laid expr_laid start_laid prop_laid stmt_laid block_laid declarator_laid function_laid param_laid span_laid var_laid
var_rolled layer = fold-roll-Var Laid Laid Laid Laid Laid Laid LaidStmt Laid Laid Laid Laid Span Laid arrow_body_layout block_item_layout clause_layout expr_layout start_layout prop_layout stmt_layout block_layout declarator_layout function_layout param_layout span_layout var_layout layer ∙ var_opened layer

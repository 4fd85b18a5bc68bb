-- The layout of JavaScript: the pieces of the text of an erased tree. Each item and each statement in a block stands on lines of its
-- own. Numbers, strings and the texts of templates print as they are written. Each function for expressions and statements says it of one
-- layer of a tree; beside the pieces of each part stands how deep the line is on which the part begins.
use Rattle.std.specs.Prelude.{flat_map, ℕ, suc, ◌+◌, Bool, true, false, ◌||◌, if◌then◌else◌, List, [], ◌∷◌, ◌++◌, map, codes, Option, Some, None}
use Rattle.tb_tree.specs.declared.marks.Mark.{Mark as MarkKind}
use Rattle.tb_tree.specs.declared.marks.Mark.TheVariants as m
use Rattle.tb_tree.specs.declared.words.Class.TheVariants as c
use Rattle.tb_tree.specs.declared.words.Template.TheVariants as part
use Rattle.tb_tree.specs.declared.types.Key.{Key}
use Rattle.tb_tree.specs.declared.types.Key.TheVariants as k
use Rattle.tb_tree.specs.declared.exprs.Identifier.{Identifier}
use Rattle.tb_tree.specs.declared.exprs.UnaryOperator.{UnaryOperator}
use Rattle.tb_tree.specs.declared.exprs.UnaryOperator.TheVariants as unary
use Rattle.tb_tree.specs.declared.exprs.UpdateOperator.{UpdateOperator}
use Rattle.tb_tree.specs.declared.exprs.UpdateOperator.TheVariants as update
use Rattle.tb_tree.specs.declared.exprs.BinaryOperator.{BinaryOperator}
use Rattle.tb_tree.specs.declared.exprs.BinaryOperator.TheVariants as binary
use Rattle.tb_tree.specs.declared.exprs.AssignOperator.{AssignOperator}
use Rattle.tb_tree.specs.declared.exprs.AssignOperator.TheVariants as assign
use Rattle.tb_tree.specs.declared.exprs.VarKind.{VarKind}
use Rattle.tb_tree.specs.declared.exprs.VarKind.TheVariants as v
use Rattle.tb_tree.specs.declared.exprs.ArrowBody.TheOpen.{ArrowBody-F, BlockItem-F, Clause-F, Expr-F, ForStart-F, Prop-F, Stmt-F, Block-F, Declarator-F, Function-F, Param-F, TemplateSpan-F, Var-F}
use Rattle.tb_tree.specs.declared.exprs.ArrowBody.{ArrowBody, fold-ArrowBody}
use Rattle.tb_tree.specs.declared.exprs.BlockItem.{BlockItem, fold-BlockItem}
use Rattle.tb_tree.specs.declared.exprs.Clause.{Clause, fold-Clause}
use Rattle.tb_tree.specs.declared.exprs.Expr.{Expr, fold-Expr}
use Rattle.tb_tree.specs.declared.exprs.ForStart.{ForStart, fold-ForStart}
use Rattle.tb_tree.specs.declared.exprs.Prop.{Prop, fold-Prop}
use Rattle.tb_tree.specs.declared.exprs.Stmt.{Stmt, fold-Stmt}
use Rattle.tb_tree.specs.declared.exprs.Block.{Block, fold-Block}
use Rattle.tb_tree.specs.declared.exprs.Declarator.{Declarator, fold-Declarator}
use Rattle.tb_tree.specs.declared.exprs.Function.{Function, fold-Function}
use Rattle.tb_tree.specs.declared.exprs.Param.{Param, fold-Param}
use Rattle.tb_tree.specs.declared.exprs.TemplateSpan.{TemplateSpan, fold-TemplateSpan}
use Rattle.tb_tree.specs.declared.exprs.Var.{Var, fold-Var}
use Rattle.tb_tree.specs.declared.items.Spec.{Spec}
use Rattle.tb_tree.specs.declared.items.Specifier.{Specifier}
use Rattle.tb_tree.specs.declared.items.Import.{Import}
use Rattle.tb_tree.specs.declared.items.Import.TheVariants as import_form
use Rattle.tb_tree.specs.declared.items.ExportList.{ExportList}
use Rattle.tb_tree.specs.declared.items.ClassMember.{ClassMember}
use Rattle.tb_tree.specs.declared.items.ClassMember.TheVariants as class_member
use Rattle.tb_tree.specs.declared.items.ClassDeclaration.{ClassDeclaration}
use Rattle.tb_tree.specs.declared.items.Declaration.{Declaration}
use Rattle.tb_tree.specs.declared.items.Declaration.TheVariants as declaration
use Rattle.tb_tree.specs.declared.items.Item.{Item}
use Rattle.tb_tree.specs.declared.items.Item.TheVariants as item
use Rattle.tb_tree.specs.declared.items.File.{File}
use Rattle.tb_layout.specs.Pieces.{Piece, Mark, Lex, mark, word, space, new_line, listed, text_of}

-- what stands on a line so deep
abbrev pub Laid : Type 0
Laid = ℕ → List Piece

-- a statement is laid out otherwise behind the head of an `if` or a loop where it is a block
pub record LaidStmt : Type 0 where
  pub is_block : Bool
  pub laid : Laid

-- ---- operators

abbrev pub update_mark : UpdateOperator → MarkKind
update_mark update.Increment = m.PlusPlus
update_mark update.Decrement = m.MinusMinus

abbrev pub binary_mark : BinaryOperator → MarkKind
binary_mark binary.Or = m.Or
binary_mark binary.Nullish = m.Nullish
binary_mark binary.And = m.And
binary_mark binary.Same = m.Same
binary_mark binary.NotSame = m.NotSame
binary_mark binary.Less = m.Less
binary_mark binary.Greater = m.Greater
binary_mark binary.LessEqual = m.LessEqual
binary_mark binary.GreaterEqual = m.GreaterEqual
binary_mark binary.Plus = m.Plus
binary_mark binary.Minus = m.Minus
binary_mark binary.Times = m.Star
binary_mark binary.Divided = m.Slash
binary_mark binary.Remainder = m.Percent

abbrev pub assign_mark : AssignOperator → MarkKind
assign_mark assign.Assign = m.Assign
assign_mark assign.Plus = m.PlusAssign
assign_mark assign.Minus = m.MinusAssign
assign_mark assign.Times = m.StarAssign
assign_mark assign.Divided = m.SlashAssign
assign_mark assign.Remainder = m.PercentAssign

-- `+` and `-` have a space before an operand that begins with the same character
abbrev pub begins_with_plus : List Piece → Bool
begins_with_plus (Mark m.Plus ∷ rest) = true
begins_with_plus (Mark m.PlusPlus ∷ rest) = true
begins_with_plus _ = false

abbrev pub begins_with_minus : List Piece → Bool
begins_with_minus (Mark m.Minus ∷ rest) = true
begins_with_minus (Mark m.MinusMinus ∷ rest) = true
begins_with_minus _ = false

abbrev pub spaced_if : Bool → List Piece
spaced_if true = space
spaced_if false = []

abbrev pub prefixed : UnaryOperator → List Piece → List Piece
prefixed unary.Not operand = mark m.Not ++ operand
prefixed unary.Minus operand = mark m.Minus ++ spaced_if (begins_with_minus operand) ++ operand
prefixed unary.Plus operand = mark m.Plus ++ spaced_if (begins_with_plus operand) ++ operand
prefixed unary.Typeof operand = word (codes "typeof") ++ space ++ operand

-- an operator that joins has one space round it
abbrev pub joined : List Piece → MarkKind → List Piece → List Piece
joined left kind right = left ++ space ++ mark kind ++ space ++ right

abbrev pub in_parens : List Piece → List Piece
in_parens inner = mark m.OpenParen ++ inner ++ mark m.CloseParen

-- ---- parts

abbrev pub laid_all : ℕ → List Laid → List (List Piece)
laid_all n all = map (λ (x : Laid). x n) all

abbrev pub laid_list : ℕ → List Laid → List Piece
laid_list n all = listed (laid_all n all)

abbrev pub key_pieces : Key → List Piece
key_pieces (k.Word spelled) = word spelled
key_pieces (k.String spelled) = Lex c.String spelled ∷ []

abbrev pub value_pieces : ℕ → Option Laid → List Piece
value_pieces n None = []
value_pieces n (Some of) = space ++ mark m.Assign ++ space ++ of n

abbrev pub truth_pieces : Bool → List Piece
truth_pieces true = word (codes "true")
truth_pieces false = word (codes "false")

abbrev pub kind_pieces : VarKind → List Piece
kind_pieces v.Const = word (codes "const")
kind_pieces v.Let = word (codes "let")

-- the spans of a template: the last text is its tail
abbrev pub spans_pieces : List (List Piece × List ℕ) → List Piece
spans_pieces [] = []
spans_pieces (of ∷ []) = of.0 ++ Lex (c.Template part.Tail) of.1 ∷ []
spans_pieces (of ∷ next ∷ rest) = of.0 ++ Lex (c.Template part.Middle) of.1 ∷ spans_pieces (next ∷ rest)

abbrev pub Span : Type 0
Span = ℕ → List Piece × List ℕ

abbrev pub laid_spans : ℕ → List Span → List (List Piece × List ℕ)
laid_spans n all = map (λ (x : Span). x n) all

abbrev pub template_pieces : List ℕ → List (List Piece × List ℕ) → List Piece
template_pieces head [] = Lex (c.Template part.Whole) head ∷ []
template_pieces head (of ∷ rest) = Lex (c.Template part.Head) head ∷ spans_pieces (of ∷ rest)

-- an object has a space inside its braces, unless it is empty
abbrev pub object_pieces : List (List Piece) → List Piece
object_pieces [] = mark m.OpenBrace ++ mark m.CloseBrace
object_pieces (of ∷ rest) = mark m.OpenBrace ++ space ++ listed (of ∷ rest) ++ space ++ mark m.CloseBrace

-- lines in braces, each one deeper
abbrev pub lines : ℕ → List Laid → List Piece
lines n all = flat_map (λ (x : Laid). new_line (suc n) ++ x (suc n)) all

abbrev pub block_pieces : ℕ → List Laid → List Piece
block_pieces n [] = mark m.OpenBrace ++ space ++ mark m.CloseBrace
block_pieces n (of ∷ rest) = mark m.OpenBrace ++ lines n (of ∷ rest) ++ new_line n ++ mark m.CloseBrace

-- a body: a block after one space, another statement on the next line, one deeper
abbrev pub body_pieces : ℕ → LaidStmt → List Piece
body_pieces n of = if of.is_block then space ++ of.laid n else new_line (suc n) ++ of.laid (suc n)

abbrev pub else_pieces : ℕ → Option LaidStmt → List Piece
else_pieces n None = []
else_pieces n (Some of) = new_line n ++ word (codes "else") ++ body_pieces n of

-- a part of the head of a `for` that may be missing, and then leaves nothing
abbrev pub part_pieces : ℕ → Option Laid → List Piece
part_pieces n None = []
part_pieces n (Some of) = space ++ of n

-- ---- layers

abbrev pub statement : Laid → LaidStmt
statement laid = record { is_block = false; laid = laid }

abbrev pub arrow_body_layout : ArrowBody-F Laid Laid Laid Laid Laid Laid LaidStmt Laid Laid Laid Laid Span Laid → Laid
arrow_body_layout (ArrowBody-F.«ArrowBody::Block» of) = of
arrow_body_layout (ArrowBody-F.«ArrowBody::Expr» of) = of

abbrev pub block_item_layout : BlockItem-F Laid Laid Laid Laid Laid Laid LaidStmt Laid Laid Laid Laid Span Laid → Laid
block_item_layout (BlockItem-F.«BlockItem::Var» of) = of
block_item_layout (BlockItem-F.Function of) = of
block_item_layout (BlockItem-F.Stmt of) = of.laid

-- the statements of a clause stand one deeper than the clause
abbrev pub clause_layout : Clause-F Laid Laid Laid Laid Laid Laid LaidStmt Laid Laid Laid Laid Span Laid → Laid
clause_layout (Clause-F.Case at value items) = λ n. word (codes "case") ++ space ++ value n ++ mark m.Colon ++ lines n items
clause_layout (Clause-F.Default at items) = λ n. word (codes "default") ++ mark m.Colon ++ lines n items

-- erased trees have no `as`
abbrev pub expr_layout : Expr-F Laid Laid Laid Laid Laid Laid LaidStmt Laid Laid Laid Laid Span Laid → Laid
expr_layout (Expr-F.Name at name) = λ n. word name
expr_layout (Expr-F.This at) = λ n. word (codes "this")
expr_layout (Expr-F.Null at) = λ n. word (codes "null")
expr_layout (Expr-F.Undefined at) = λ n. word (codes "undefined")
expr_layout (Expr-F.Boolean at value) = λ n. truth_pieces value
expr_layout (Expr-F.Number at spelled) = λ n. Lex c.Number spelled ∷ []
expr_layout (Expr-F.String at spelled) = λ n. Lex c.String spelled ∷ []
expr_layout (Expr-F.Template at head spans) = λ n. template_pieces head (laid_spans n spans)
expr_layout (Expr-F.Parens at inner) = λ n. in_parens (inner n)
expr_layout (Expr-F.Array at elements) = λ n. mark m.OpenBracket ++ laid_list n elements ++ mark m.CloseBracket
expr_layout (Expr-F.Object at props) = λ n. object_pieces (laid_all n props)
expr_layout (Expr-F.New at class arguments) = λ n. word (codes "new") ++ space ++ word class.name ++ in_parens (laid_list n arguments)
expr_layout (Expr-F.Member at base member) = λ n. base n ++ mark m.Dot ++ word member
expr_layout (Expr-F.Index at base index) = λ n. base n ++ mark m.OpenBracket ++ index n ++ mark m.CloseBracket
expr_layout (Expr-F.Call at callee type_arguments arguments) = λ n. callee n ++ in_parens (laid_list n arguments)
expr_layout (Expr-F.Unary at operator operand) = λ n. prefixed operator (operand n)
expr_layout (Expr-F.Update at operator true target) = λ n. mark (update_mark operator) ++ target n
expr_layout (Expr-F.Update at operator false target) = λ n. target n ++ mark (update_mark operator)
expr_layout (Expr-F.Binary at left operator right) = λ n. joined (left n) (binary_mark operator) (right n)
expr_layout (Expr-F.As at value shape) = value
expr_layout (Expr-F.Conditional at condition chosen otherwise) = λ n. joined (joined (condition n) m.Question (chosen n)) m.Colon (otherwise n)
expr_layout (Expr-F.Assign at target operator value) = λ n. joined (target n) (assign_mark operator) (value n)
expr_layout (Expr-F.Arrow at params result of) = λ n. joined (in_parens (laid_list n params)) m.Arrow (of n)

abbrev pub start_layout : ForStart-F Laid Laid Laid Laid Laid Laid LaidStmt Laid Laid Laid Laid Span Laid → Laid
start_layout (ForStart-F.«ForStart::Var» of) = of
start_layout (ForStart-F.«ForStart::Expr» of) = λ n. of n ++ mark m.Semicolon
start_layout ForStart-F.Nothing = λ n. mark m.Semicolon

abbrev pub prop_layout : Prop-F Laid Laid Laid Laid Laid Laid LaidStmt Laid Laid Laid Laid Span Laid → Laid
prop_layout (Prop-F.Valued at key value) = λ n. key_pieces key ++ mark m.Colon ++ space ++ value n
prop_layout (Prop-F.Short at name) = λ n. word name

abbrev pub stmt_layout : Stmt-F Laid Laid Laid Laid Laid Laid LaidStmt Laid Laid Laid Laid Span Laid → LaidStmt
stmt_layout (Stmt-F.«Stmt::Block» of) = record { is_block = true; laid = of }
stmt_layout (Stmt-F.If at condition chosen otherwise) = statement (λ n. word (codes "if") ++ space ++ in_parens (condition n) ++ body_pieces n chosen ++ else_pieces n otherwise)
stmt_layout (Stmt-F.While at condition of) = statement (λ n. word (codes "while") ++ space ++ in_parens (condition n) ++ body_pieces n of)
stmt_layout (Stmt-F.Do at of condition) =
    statement (λ n. word (codes "do") ++ body_pieces n of ++ new_line n ++ word (codes "while") ++ space ++ in_parens (condition n) ++ mark m.Semicolon)
stmt_layout (Stmt-F.For at first condition step of) =
    statement (λ n. word (codes "for") ++ space ++ in_parens (first n ++ part_pieces n condition ++ mark m.Semicolon ++ part_pieces n step) ++ body_pieces n of)
stmt_layout (Stmt-F.ForOf at kind element subject of) =
    statement (λ n. word (codes "for") ++ space ++ in_parens (kind_pieces kind ++ space ++ word element.name ++ space ++ word (codes "of") ++ space ++ subject n) ++ body_pieces n of)
stmt_layout (Stmt-F.Return at None) = statement (λ n. word (codes "return") ++ mark m.Semicolon)
stmt_layout (Stmt-F.Return at (Some value)) = statement (λ n. word (codes "return") ++ space ++ value n ++ mark m.Semicolon)
stmt_layout (Stmt-F.Break at) = statement (λ n. word (codes "break") ++ mark m.Semicolon)
stmt_layout (Stmt-F.Continue at) = statement (λ n. word (codes "continue") ++ mark m.Semicolon)
stmt_layout (Stmt-F.Throw at value) = statement (λ n. word (codes "throw") ++ space ++ value n ++ mark m.Semicolon)
stmt_layout (Stmt-F.Switch at subject clauses) =
    statement (λ n. word (codes "switch") ++ space ++ in_parens (subject n) ++ space ++ mark m.OpenBrace ++ lines n clauses ++ new_line n ++ mark m.CloseBrace)
stmt_layout (Stmt-F.«Stmt::Expr» at value) = statement (λ n. value n ++ mark m.Semicolon)
stmt_layout (Stmt-F.Empty at) = statement (λ n. mark m.Semicolon)

abbrev pub block_layout : Block-F Laid Laid Laid Laid Laid Laid LaidStmt Laid Laid Laid Laid Span Laid → Laid
block_layout layer = λ n. block_pieces n layer.items

abbrev pub declarator_layout : Declarator-F Laid Laid Laid Laid Laid Laid LaidStmt Laid Laid Laid Laid Span Laid → Laid
declarator_layout layer = λ n. word layer.name ++ value_pieces n layer.value

abbrev pub function_layout : Function-F Laid Laid Laid Laid Laid Laid LaidStmt Laid Laid Laid Laid Span Laid → Laid
function_layout layer = λ n. word (codes "function") ++ space ++ word layer.name ++ in_parens (laid_list n layer.params) ++ space ++ layer.body n

abbrev pub param_layout : Param-F Laid Laid Laid Laid Laid Laid LaidStmt Laid Laid Laid Laid Span Laid → Laid
param_layout layer = λ n. word layer.name ++ value_pieces n layer.value

abbrev pub span_layout : TemplateSpan-F Laid Laid Laid Laid Laid Laid LaidStmt Laid Laid Laid Laid Span Laid → Span
span_layout layer = λ n. (layer.value n, layer.text)

abbrev pub var_layout : Var-F Laid Laid Laid Laid Laid Laid LaidStmt Laid Laid Laid Laid Span Laid → Laid
var_layout layer = λ n. kind_pieces layer.kind ++ space ++ laid_list n layer.declarators ++ mark m.Semicolon

unfoldable pub arrow_body_laid : ArrowBody → Laid
arrow_body_laid = fold-ArrowBody Laid Laid Laid Laid Laid Laid LaidStmt Laid Laid Laid Laid Span Laid arrow_body_layout block_item_layout clause_layout expr_layout start_layout prop_layout stmt_layout block_layout declarator_layout function_layout param_layout span_layout var_layout

unfoldable pub block_item_laid : BlockItem → Laid
block_item_laid = fold-BlockItem Laid Laid Laid Laid Laid Laid LaidStmt Laid Laid Laid Laid Span Laid arrow_body_layout block_item_layout clause_layout expr_layout start_layout prop_layout stmt_layout block_layout declarator_layout function_layout param_layout span_layout var_layout

unfoldable pub clause_laid : Clause → Laid
clause_laid = fold-Clause Laid Laid Laid Laid Laid Laid LaidStmt Laid Laid Laid Laid Span Laid arrow_body_layout block_item_layout clause_layout expr_layout start_layout prop_layout stmt_layout block_layout declarator_layout function_layout param_layout span_layout var_layout

unfoldable pub expr_laid : Expr → Laid
expr_laid = fold-Expr Laid Laid Laid Laid Laid Laid LaidStmt Laid Laid Laid Laid Span Laid arrow_body_layout block_item_layout clause_layout expr_layout start_layout prop_layout stmt_layout block_layout declarator_layout function_layout param_layout span_layout var_layout

unfoldable pub start_laid : ForStart → Laid
start_laid = fold-ForStart Laid Laid Laid Laid Laid Laid LaidStmt Laid Laid Laid Laid Span Laid arrow_body_layout block_item_layout clause_layout expr_layout start_layout prop_layout stmt_layout block_layout declarator_layout function_layout param_layout span_layout var_layout

unfoldable pub prop_laid : Prop → Laid
prop_laid = fold-Prop Laid Laid Laid Laid Laid Laid LaidStmt Laid Laid Laid Laid Span Laid arrow_body_layout block_item_layout clause_layout expr_layout start_layout prop_layout stmt_layout block_layout declarator_layout function_layout param_layout span_layout var_layout

unfoldable pub stmt_laid : Stmt → LaidStmt
stmt_laid = fold-Stmt Laid Laid Laid Laid Laid Laid LaidStmt Laid Laid Laid Laid Span Laid arrow_body_layout block_item_layout clause_layout expr_layout start_layout prop_layout stmt_layout block_layout declarator_layout function_layout param_layout span_layout var_layout

unfoldable pub block_laid : Block → Laid
block_laid = fold-Block Laid Laid Laid Laid Laid Laid LaidStmt Laid Laid Laid Laid Span Laid arrow_body_layout block_item_layout clause_layout expr_layout start_layout prop_layout stmt_layout block_layout declarator_layout function_layout param_layout span_layout var_layout

unfoldable pub declarator_laid : Declarator → Laid
declarator_laid = fold-Declarator Laid Laid Laid Laid Laid Laid LaidStmt Laid Laid Laid Laid Span Laid arrow_body_layout block_item_layout clause_layout expr_layout start_layout prop_layout stmt_layout block_layout declarator_layout function_layout param_layout span_layout var_layout

unfoldable pub function_laid : Function → Laid
function_laid = fold-Function Laid Laid Laid Laid Laid Laid LaidStmt Laid Laid Laid Laid Span Laid arrow_body_layout block_item_layout clause_layout expr_layout start_layout prop_layout stmt_layout block_layout declarator_layout function_layout param_layout span_layout var_layout

unfoldable pub param_laid : Param → Laid
param_laid = fold-Param Laid Laid Laid Laid Laid Laid LaidStmt Laid Laid Laid Laid Span Laid arrow_body_layout block_item_layout clause_layout expr_layout start_layout prop_layout stmt_layout block_layout declarator_layout function_layout param_layout span_layout var_layout

unfoldable pub span_laid : TemplateSpan → Span
span_laid = fold-TemplateSpan Laid Laid Laid Laid Laid Laid LaidStmt Laid Laid Laid Laid Span Laid arrow_body_layout block_item_layout clause_layout expr_layout start_layout prop_layout stmt_layout block_layout declarator_layout function_layout param_layout span_layout var_layout

unfoldable pub var_laid : Var → Laid
var_laid = fold-Var Laid Laid Laid Laid Laid Laid LaidStmt Laid Laid Laid Laid Span Laid arrow_body_layout block_item_layout clause_layout expr_layout start_layout prop_layout stmt_layout block_layout declarator_layout function_layout param_layout span_layout var_layout

-- ---- items

abbrev pub name_of : Identifier → List Piece
name_of of = word of.name

abbrev pub renamed_pieces : Option Identifier → List Piece
renamed_pieces None = []
renamed_pieces (Some of) = space ++ word (codes "as") ++ space ++ name_of of

-- erased Specs have no `type`
abbrev pub spec_pieces : Spec → List Piece
spec_pieces of = name_of of.name ++ renamed_pieces of.renamed

abbrev pub specs_pieces : List Spec → List Piece
specs_pieces specs = object_pieces (map spec_pieces specs)

abbrev pub origin_pieces : Specifier → List Piece
origin_pieces of = Lex c.String of.spelled ∷ []

abbrev pub from_pieces : Option Specifier → List Piece
from_pieces None = []
from_pieces (Some of) = space ++ word (codes "from") ++ space ++ origin_pieces of

abbrev pub import_pieces : Import → List Piece
import_pieces (import_form.List at type_only specs from) = word (codes "import") ++ space ++ specs_pieces specs ++ from_pieces (Some from) ++ mark m.Semicolon
import_pieces (import_form.Bare at from) = word (codes "import") ++ space ++ origin_pieces from ++ mark m.Semicolon

abbrev pub export_list_pieces : ExportList → List Piece
export_list_pieces of = word (codes "export") ++ space ++ specs_pieces of.specs ++ from_pieces of.from ++ mark m.Semicolon

-- `static ` or nothing
abbrev pub static_pieces : Bool → List Piece
static_pieces true = word (codes "static") ++ space
static_pieces false = []

abbrev pub optional_laid : Option Expr → Option Laid
optional_laid None = None
optional_laid (Some of) = Some (expr_laid of)

abbrev pub member_pieces : ClassMember → Laid
member_pieces (class_member.Field at is_static read_only name optional annotation value) = λ n. static_pieces is_static ++ word name ++ value_pieces n (optional_laid value) ++ mark m.Semicolon
member_pieces (class_member.Constructor at params of) = λ n. word (codes "constructor") ++ in_parens (laid_list n (map param_laid params)) ++ space ++ block_laid of n
member_pieces (class_member.Method at is_static name params result of) =
    λ n. static_pieces is_static ++ word name ++ in_parens (laid_list n (map param_laid params)) ++ space ++ block_laid of n

-- an empty class has its closing brace on a line of its own
abbrev pub class_pieces : ClassDeclaration → List Piece
class_pieces of = word (codes "class") ++ space ++ word of.name ++ space ++ mark m.OpenBrace ++ lines 0 (map member_pieces of.members) ++ new_line 0 ++ mark m.CloseBrace

-- interfaces and aliases are no JavaScript: erased trees have none
abbrev pub declaration_pieces : Declaration → List Piece
declaration_pieces (declaration.Var of) = var_laid of 0
declaration_pieces (declaration.Function of) = function_laid of 0
declaration_pieces (declaration.Class of) = class_pieces of
declaration_pieces (declaration.Interface of) = []
declaration_pieces (declaration.Alias of) = []

abbrev pub exported_pieces : Bool → List Piece
exported_pieces true = word (codes "export") ++ space
exported_pieces false = []

abbrev pub item_pieces : Item → List Piece
item_pieces (item.Import of) = import_pieces of
item_pieces (item.ExportList of) = export_list_pieces of
item_pieces (item.Declaration exported of) = exported_pieces exported ++ declaration_pieces of
item_pieces (item.Stmt of) = let laid = stmt_laid of in laid.laid 0

-- each item ends its line
abbrev pub file_pieces : File → List Piece
file_pieces of = flat_map (λ (x : Item). item_pieces x ++ new_line 0) of.items

abbrev pub js_text : File → List ℕ
js_text of = text_of (file_pieces of)

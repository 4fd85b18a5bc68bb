-- Where an annotation is missing: a finding at each kept variable and each field that has neither an annotation nor a literal as its
-- value, at each function and method without the type of its result, and at each parameter of a function, a method or a constructor
-- without a type. Functions count wherever they stand, classes whether they are kept or not; arrows do not count. The findings stand in
-- the order of the source. After TypeScript's `isolatedDeclarations`, which asks for annotations at exports alone.
use Rattle.std.specs.Prelude.{ℕ, Bool, true, ◌||◌, List, [], ◌∷◌, ◌++◌, flat_map, if◌then◌else◌, Option, Some, None}
use Rattle.tb_text.specs.declared.findings.Finding.{Finding}
use Rattle.tb_tree.specs.declared.types.TypeExpr.{TypeExpr}
use Rattle.tb_tree.specs.declared.exprs.ArrowBody.TheOpen.{ArrowBody-F, BlockItem-F, Clause-F, Expr-F, ForStart-F, Prop-F, Stmt-F, Block-F, Declarator-F, Function-F, Param-F, TemplateSpan-F, Var-F}
use Rattle.tb_tree.specs.declared.exprs.ArrowBody.{ArrowBody, fold-ArrowBody}
use Rattle.tb_tree.specs.declared.exprs.BlockItem.{BlockItem, fold-BlockItem}
use Rattle.tb_tree.specs.declared.exprs.Clause.{Clause, fold-Clause}
use Rattle.tb_tree.specs.declared.exprs.Expr.{Expr, fold-Expr}
use Rattle.tb_tree.specs.declared.exprs.ForStart.{ForStart, fold-ForStart}
use Rattle.tb_tree.specs.declared.exprs.Prop.{Prop, fold-Prop}
use Rattle.tb_tree.specs.declared.exprs.Stmt.{Stmt, fold-Stmt}
use Rattle.tb_tree.specs.declared.exprs.Block.{Block, fold-Block}
use Rattle.tb_tree.specs.declared.exprs.Declarator.{Declarator, fold-Declarator, out-Declarator}
use Rattle.tb_tree.specs.declared.exprs.Function.{Function, fold-Function}
use Rattle.tb_tree.specs.declared.exprs.Param.{Param, fold-Param}
use Rattle.tb_tree.specs.declared.exprs.TemplateSpan.{TemplateSpan, fold-TemplateSpan}
use Rattle.tb_tree.specs.declared.exprs.Var.{Var, fold-Var, out-Var}
use Rattle.tb_tree.specs.declared.items.ClassMember.{ClassMember}
use Rattle.tb_tree.specs.declared.items.ClassMember.TheVariants as class_member
use Rattle.tb_tree.specs.declared.items.Declaration.{Declaration}
use Rattle.tb_tree.specs.declared.items.Declaration.TheVariants as declaration
use Rattle.tb_tree.specs.declared.items.Item.{Item}
use Rattle.tb_tree.specs.declared.items.Item.TheVariants as item
use Rattle.tb_tree.specs.declared.items.File.{File}
use Rattle.tb_layout.specs.Parts.{is_one_of, listed_names}
use Rattle.tb_layout.specs.Surface.{Literal, literal_in}

-- a finding of this project's own at a place, with the name that it speaks of
abbrev pub lacking : ℕ → ℕ → List ℕ → Finding
lacking number at name = record { offset = at; code = record { own = true; number = number }; first = name; second = [] }

abbrev pub lacking_type : ℕ → ℕ → List ℕ → Option TypeExpr → List Finding
lacking_type number at name None = lacking number at name ∷ []
lacking_type number at name (Some of) = []

-- of a variable or a field
abbrev pub lacking_literal : ℕ → List ℕ → Option Literal → List Finding
lacking_literal at name None = lacking 9001 at name ∷ []
lacking_literal at name (Some of) = []

abbrev pub lacking_value : ℕ → List ℕ → Option TypeExpr → Option Expr → List Finding
lacking_value at name (Some of) value = []
lacking_value at name None value = lacking_literal at name (literal_in value)

-- ---- functions in bodies and initializers

abbrev pub Found : Type 0
Found = List Finding

-- a parameter itself counts where it is no arrow's; in its default functions count in any case
pub record ParamFound : Type 0 where
  pub own : List Finding
  pub inner : List Finding

abbrev pub whole_param : ParamFound → List Finding
whole_param of = of.own ++ of.inner

abbrev pub arrow_param : ParamFound → List Finding
arrow_param of = of.inner

abbrev pub all_found : List Found → Found
all_found lists = flat_map (λ (found : Found). found) lists

abbrev pub if_found : Option Found → List Finding
if_found None = []
if_found (Some of) = of

abbrev pub arrow_body_findings_layer : ArrowBody-F Found Found Found Found Found Found Found Found Found Found ParamFound Found Found → Found
arrow_body_findings_layer (ArrowBody-F.«ArrowBody::Block» of) = of
arrow_body_findings_layer (ArrowBody-F.«ArrowBody::Expr» of) = of

abbrev pub block_item_findings_layer : BlockItem-F Found Found Found Found Found Found Found Found Found Found ParamFound Found Found → Found
block_item_findings_layer (BlockItem-F.«BlockItem::Var» of) = of
block_item_findings_layer (BlockItem-F.Function of) = of
block_item_findings_layer (BlockItem-F.Stmt of) = of

abbrev pub clause_findings_layer : Clause-F Found Found Found Found Found Found Found Found Found Found ParamFound Found Found → Found
clause_findings_layer (Clause-F.Case at value items) = value ++ all_found items
clause_findings_layer (Clause-F.Default at items) = all_found items

abbrev pub expr_findings_layer : Expr-F Found Found Found Found Found Found Found Found Found Found ParamFound Found Found → Found
expr_findings_layer (Expr-F.Name at name) = []
expr_findings_layer (Expr-F.This at) = []
expr_findings_layer (Expr-F.Null at) = []
expr_findings_layer (Expr-F.Undefined at) = []
expr_findings_layer (Expr-F.Boolean at value) = []
expr_findings_layer (Expr-F.Number at spelled) = []
expr_findings_layer (Expr-F.String at spelled) = []
expr_findings_layer (Expr-F.Template at head spans) = all_found spans
expr_findings_layer (Expr-F.Parens at inner) = inner
expr_findings_layer (Expr-F.Array at elements) = all_found elements
expr_findings_layer (Expr-F.Object at props) = all_found props
expr_findings_layer (Expr-F.New at class arguments) = all_found arguments
expr_findings_layer (Expr-F.Member at base member) = base
expr_findings_layer (Expr-F.Index at base index) = base ++ index
expr_findings_layer (Expr-F.Call at callee type_arguments arguments) = callee ++ all_found arguments
expr_findings_layer (Expr-F.Unary at operator operand) = operand
expr_findings_layer (Expr-F.Update at operator before target) = target
expr_findings_layer (Expr-F.Binary at left operator right) = left ++ right
expr_findings_layer (Expr-F.As at value shape) = value
expr_findings_layer (Expr-F.Conditional at condition chosen otherwise) = condition ++ chosen ++ otherwise
expr_findings_layer (Expr-F.Assign at target operator value) = target ++ value
expr_findings_layer (Expr-F.Arrow at params result of) = flat_map arrow_param params ++ of

abbrev pub start_findings_layer : ForStart-F Found Found Found Found Found Found Found Found Found Found ParamFound Found Found → Found
start_findings_layer (ForStart-F.«ForStart::Var» of) = of
start_findings_layer (ForStart-F.«ForStart::Expr» of) = of
start_findings_layer ForStart-F.Nothing = []

abbrev pub prop_findings_layer : Prop-F Found Found Found Found Found Found Found Found Found Found ParamFound Found Found → Found
prop_findings_layer (Prop-F.Valued at key value) = value
prop_findings_layer (Prop-F.Short at name) = []

abbrev pub stmt_findings_layer : Stmt-F Found Found Found Found Found Found Found Found Found Found ParamFound Found Found → Found
stmt_findings_layer (Stmt-F.«Stmt::Block» of) = of
stmt_findings_layer (Stmt-F.If at condition chosen otherwise) = condition ++ chosen ++ if_found otherwise
stmt_findings_layer (Stmt-F.While at condition of) = condition ++ of
stmt_findings_layer (Stmt-F.Do at of condition) = of ++ condition
stmt_findings_layer (Stmt-F.For at first condition step of) = first ++ if_found condition ++ if_found step ++ of
stmt_findings_layer (Stmt-F.ForOf at kind element subject of) = subject ++ of
stmt_findings_layer (Stmt-F.Return at value) = if_found value
stmt_findings_layer (Stmt-F.Break at) = []
stmt_findings_layer (Stmt-F.Continue at) = []
stmt_findings_layer (Stmt-F.Throw at value) = value
stmt_findings_layer (Stmt-F.Switch at subject clauses) = subject ++ all_found clauses
stmt_findings_layer (Stmt-F.«Stmt::Expr» at value) = value
stmt_findings_layer (Stmt-F.Empty at) = []

abbrev pub block_findings_layer : Block-F Found Found Found Found Found Found Found Found Found Found ParamFound Found Found → Found
block_findings_layer layer = all_found layer.items

-- a variable in a body needs no annotation
abbrev pub declarator_findings_layer : Declarator-F Found Found Found Found Found Found Found Found Found Found ParamFound Found Found → Found
declarator_findings_layer layer = if_found layer.value

abbrev pub function_findings_layer : Function-F Found Found Found Found Found Found Found Found Found Found ParamFound Found Found → Found
function_findings_layer layer = lacking_type 9002 layer.at layer.name layer.result ++ flat_map whole_param layer.params ++ layer.body

abbrev pub param_findings_layer : Param-F Found Found Found Found Found Found Found Found Found Found ParamFound Found Found → ParamFound
param_findings_layer layer = record { own = lacking_type 9003 layer.at layer.name layer.annotation; inner = if_found layer.value }

abbrev pub span_findings_layer : TemplateSpan-F Found Found Found Found Found Found Found Found Found Found ParamFound Found Found → Found
span_findings_layer layer = layer.value

abbrev pub var_findings_layer : Var-F Found Found Found Found Found Found Found Found Found Found ParamFound Found Found → Found
var_findings_layer layer = all_found layer.declarators

unfoldable pub arrow_body_findings : ArrowBody → Found
arrow_body_findings = fold-ArrowBody Found Found Found Found Found Found Found Found Found Found ParamFound Found Found arrow_body_findings_layer block_item_findings_layer clause_findings_layer expr_findings_layer start_findings_layer prop_findings_layer stmt_findings_layer block_findings_layer declarator_findings_layer function_findings_layer param_findings_layer span_findings_layer var_findings_layer

unfoldable pub block_item_findings : BlockItem → Found
block_item_findings = fold-BlockItem Found Found Found Found Found Found Found Found Found Found ParamFound Found Found arrow_body_findings_layer block_item_findings_layer clause_findings_layer expr_findings_layer start_findings_layer prop_findings_layer stmt_findings_layer block_findings_layer declarator_findings_layer function_findings_layer param_findings_layer span_findings_layer var_findings_layer

unfoldable pub clause_findings : Clause → Found
clause_findings = fold-Clause Found Found Found Found Found Found Found Found Found Found ParamFound Found Found arrow_body_findings_layer block_item_findings_layer clause_findings_layer expr_findings_layer start_findings_layer prop_findings_layer stmt_findings_layer block_findings_layer declarator_findings_layer function_findings_layer param_findings_layer span_findings_layer var_findings_layer

unfoldable pub expr_findings : Expr → Found
expr_findings = fold-Expr Found Found Found Found Found Found Found Found Found Found ParamFound Found Found arrow_body_findings_layer block_item_findings_layer clause_findings_layer expr_findings_layer start_findings_layer prop_findings_layer stmt_findings_layer block_findings_layer declarator_findings_layer function_findings_layer param_findings_layer span_findings_layer var_findings_layer

unfoldable pub start_findings : ForStart → Found
start_findings = fold-ForStart Found Found Found Found Found Found Found Found Found Found ParamFound Found Found arrow_body_findings_layer block_item_findings_layer clause_findings_layer expr_findings_layer start_findings_layer prop_findings_layer stmt_findings_layer block_findings_layer declarator_findings_layer function_findings_layer param_findings_layer span_findings_layer var_findings_layer

unfoldable pub prop_findings : Prop → Found
prop_findings = fold-Prop Found Found Found Found Found Found Found Found Found Found ParamFound Found Found arrow_body_findings_layer block_item_findings_layer clause_findings_layer expr_findings_layer start_findings_layer prop_findings_layer stmt_findings_layer block_findings_layer declarator_findings_layer function_findings_layer param_findings_layer span_findings_layer var_findings_layer

unfoldable pub stmt_findings : Stmt → Found
stmt_findings = fold-Stmt Found Found Found Found Found Found Found Found Found Found ParamFound Found Found arrow_body_findings_layer block_item_findings_layer clause_findings_layer expr_findings_layer start_findings_layer prop_findings_layer stmt_findings_layer block_findings_layer declarator_findings_layer function_findings_layer param_findings_layer span_findings_layer var_findings_layer

unfoldable pub block_findings : Block → Found
block_findings = fold-Block Found Found Found Found Found Found Found Found Found Found ParamFound Found Found arrow_body_findings_layer block_item_findings_layer clause_findings_layer expr_findings_layer start_findings_layer prop_findings_layer stmt_findings_layer block_findings_layer declarator_findings_layer function_findings_layer param_findings_layer span_findings_layer var_findings_layer

unfoldable pub declarator_findings : Declarator → Found
declarator_findings = fold-Declarator Found Found Found Found Found Found Found Found Found Found ParamFound Found Found arrow_body_findings_layer block_item_findings_layer clause_findings_layer expr_findings_layer start_findings_layer prop_findings_layer stmt_findings_layer block_findings_layer declarator_findings_layer function_findings_layer param_findings_layer span_findings_layer var_findings_layer

unfoldable pub function_findings : Function → Found
function_findings = fold-Function Found Found Found Found Found Found Found Found Found Found ParamFound Found Found arrow_body_findings_layer block_item_findings_layer clause_findings_layer expr_findings_layer start_findings_layer prop_findings_layer stmt_findings_layer block_findings_layer declarator_findings_layer function_findings_layer param_findings_layer span_findings_layer var_findings_layer

unfoldable pub param_findings : Param → ParamFound
param_findings = fold-Param Found Found Found Found Found Found Found Found Found Found ParamFound Found Found arrow_body_findings_layer block_item_findings_layer clause_findings_layer expr_findings_layer start_findings_layer prop_findings_layer stmt_findings_layer block_findings_layer declarator_findings_layer function_findings_layer param_findings_layer span_findings_layer var_findings_layer

unfoldable pub span_findings : TemplateSpan → Found
span_findings = fold-TemplateSpan Found Found Found Found Found Found Found Found Found Found ParamFound Found Found arrow_body_findings_layer block_item_findings_layer clause_findings_layer expr_findings_layer start_findings_layer prop_findings_layer stmt_findings_layer block_findings_layer declarator_findings_layer function_findings_layer param_findings_layer span_findings_layer var_findings_layer

unfoldable pub var_findings : Var → Found
var_findings = fold-Var Found Found Found Found Found Found Found Found Found Found ParamFound Found Found arrow_body_findings_layer block_item_findings_layer clause_findings_layer expr_findings_layer start_findings_layer prop_findings_layer stmt_findings_layer block_findings_layer declarator_findings_layer function_findings_layer param_findings_layer span_findings_layer var_findings_layer

abbrev pub value_findings : Option Expr → List Finding
value_findings None = []
value_findings (Some of) = expr_findings of

abbrev pub otherwise_findings : Option Stmt → List Finding
otherwise_findings None = []
otherwise_findings (Some of) = stmt_findings of

abbrev pub params_findings : List Param → List Finding
params_findings params = flat_map (λ of. whole_param (param_findings of)) params

-- ---- items

-- a variable at the top level is kept where it is exported or an export list names it
abbrev pub is_kept_variable : List (List ℕ) → Bool → Declarator → Bool
is_kept_variable listed exported of = let opened = out-Declarator of in exported || is_one_of listed opened.name

abbrev pub kept_findings : Bool → Declarator → List Finding
kept_findings keeps of =
    let opened = out-Declarator of in
    (if keeps then lacking_value opened.at opened.name opened.annotation opened.value else []) ++ value_findings opened.value

abbrev pub variable_findings : List (List ℕ) → Bool → Declarator → List Finding
variable_findings listed exported of = kept_findings (is_kept_variable listed exported of) of

abbrev pub top_findings : List (List ℕ) → Bool → Var → List Finding
top_findings listed exported of = let opened = out-Var of in flat_map (variable_findings listed exported) opened.declarators

abbrev pub member_findings : ClassMember → List Finding
member_findings (class_member.Field at is_static read_only name optional annotation value) = lacking_value at name annotation value ++ value_findings value
member_findings (class_member.Constructor at params of) = params_findings params ++ block_findings of
member_findings (class_member.Method at is_static name params result of) = lacking_type 9002 at name result ++ params_findings params ++ block_findings of

abbrev pub declaration_findings : List (List ℕ) → Bool → Declaration → List Finding
declaration_findings listed exported (declaration.Var of) = top_findings listed exported of
declaration_findings listed exported (declaration.Function of) = function_findings of
declaration_findings listed exported (declaration.Class of) = flat_map member_findings of.members
declaration_findings listed exported (declaration.Interface of) = []
declaration_findings listed exported (declaration.Alias of) = []

abbrev pub item_findings : List (List ℕ) → Item → List Finding
item_findings listed (item.Import of) = []
item_findings listed (item.ExportList of) = []
item_findings listed (item.Declaration exported of) = declaration_findings listed exported of
item_findings listed (item.Stmt of) = stmt_findings of

abbrev pub annotation_findings : File → List Finding
annotation_findings file = flat_map (item_findings (listed_names file)) file.items

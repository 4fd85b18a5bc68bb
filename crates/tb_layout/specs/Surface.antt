-- The surface of a file: what is kept of it, in the order of the source, without bodies and initializers. A missing annotation is `any`,
-- but for the type of a literal. After TypeScript's declaration files under `isolatedDeclarations`, but for what lacks an annotation.
use Rattle.std.specs.Prelude.{ℕ, Bool, true, false, not, ◌||◌, ◌&&◌, if◌then◌else◌, List, [], ◌∷◌, map, flat_map, filter, Option, Some, None}
use Rattle.tb_tree.specs.declared.types.TypeKeyword.TheVariants as b
use Rattle.tb_tree.specs.declared.types.TypeExpr.{TypeExpr}
use Rattle.tb_tree.specs.declared.types.TypeExpr.TheVariants as t
use Rattle.tb_tree.specs.declared.types.TypeParam.{TypeParam, roll-TypeParam}
use Rattle.tb_tree.specs.declared.exprs.ArrowBody.TheOpen.{Expr-F}
use Rattle.tb_tree.specs.declared.exprs.ArrowBody.{ArrowBody}
use Rattle.tb_tree.specs.declared.exprs.BlockItem.{BlockItem}
use Rattle.tb_tree.specs.declared.exprs.Clause.{Clause}
use Rattle.tb_tree.specs.declared.exprs.ForStart.{ForStart}
use Rattle.tb_tree.specs.declared.exprs.Prop.{Prop}
use Rattle.tb_tree.specs.declared.exprs.Stmt.{Stmt}
use Rattle.tb_tree.specs.declared.exprs.Block.{Block}
use Rattle.tb_tree.specs.declared.exprs.TemplateSpan.{TemplateSpan}
use Rattle.tb_tree.specs.declared.exprs.Expr.{Expr, out-Expr}
use Rattle.tb_tree.specs.declared.exprs.UnaryOperator.TheVariants as unary
use Rattle.tb_tree.specs.declared.exprs.VarKind.{VarKind}
use Rattle.tb_tree.specs.declared.exprs.VarKind.TheVariants as v
use Rattle.tb_tree.specs.declared.exprs.Declarator.{Declarator, out-Declarator}
use Rattle.tb_tree.specs.declared.exprs.Function.{Function, out-Function}
use Rattle.tb_tree.specs.declared.exprs.Param.{Param, out-Param}
use Rattle.tb_tree.specs.declared.exprs.Var.{Var}
use Rattle.tb_tree.specs.declared.items.Spec.{Spec}
use Rattle.tb_tree.specs.declared.items.Specifier.{Specifier}
use Rattle.tb_tree.specs.declared.items.Import.{Import}
use Rattle.tb_tree.specs.declared.items.Import.TheVariants as import_form
use Rattle.tb_tree.specs.declared.items.ClassMember.{ClassMember}
use Rattle.tb_tree.specs.declared.items.ClassMember.TheVariants as class_member
use Rattle.tb_tree.specs.declared.items.ClassDeclaration.{ClassDeclaration}
use Rattle.tb_tree.specs.declared.items.DeclaredMember.{DeclaredMember}
use Rattle.tb_tree.specs.declared.items.DeclaredMember.TheVariants as declared_member
use Rattle.tb_tree.specs.declared.items.DeclaredClass.{DeclaredClass}
use Rattle.tb_tree.specs.declared.items.Declared.{Declared}
use Rattle.tb_tree.specs.declared.items.Declared.TheVariants as declared
use Rattle.tb_tree.specs.declared.items.Item.{Item}
use Rattle.tb_tree.specs.declared.items.Item.TheVariants as item
use Rattle.tb_tree.specs.declared.items.SurfaceItem.{SurfaceItem}
use Rattle.tb_tree.specs.declared.items.SurfaceItem.TheVariants as surface_item
use Rattle.tb_tree.specs.declared.items.File.{File}
use Rattle.tb_tree.specs.declared.items.Surface.{Surface}
use Rattle.tb_tree.specs.Shapes.{is_zero, is_positive}
use Rattle.tb_tree.specs.Surfaces.{kept}
use Rattle.tb_layout.specs.Quoted.{quoted, quoted_type, quoted_specifier, quoted_base, quoted_interface, quoted_alias, quoted_surface_item}
use Rattle.tb_layout.specs.Parts.{Part, VariablePart, FunctionPart, ClassPart, InterfacePart, AliasPart, parts_of}
use Rattle.tb_layout.specs.Kept.{Known, keeps_part, keeps_spec, known_names}

-- ---- literals

-- a literal, where it stands
pub data Literal : Type 0 where
  Text : ℕ → List ℕ → Literal
  Number : ℕ → Bool → List ℕ → Literal
  Truth : ℕ → Bool → Literal

-- `-` and a number
abbrev pub negative_at : ℕ → Expr-F ArrowBody BlockItem Clause Expr ForStart Prop Stmt Block Declarator Function Param TemplateSpan Var → Option Literal
negative_at at (Expr-F.Number number_at spelled) = Some (Number at true spelled)
negative_at at _ = None

abbrev pub literal_at : Expr-F ArrowBody BlockItem Clause Expr ForStart Prop Stmt Block Declarator Function Param TemplateSpan Var → Option Literal
literal_at (Expr-F.String at spelled) = Some (Text at spelled)
literal_at (Expr-F.Number at spelled) = Some (Number at false spelled)
literal_at (Expr-F.Boolean at value) = Some (Truth at value)
literal_at (Expr-F.Unary at unary.Minus operand) = negative_at at (out-Expr operand)
literal_at _ = None

abbrev pub literal_of : Expr → Option Literal
literal_of of = literal_at (out-Expr of)

abbrev pub literal_in : Option Expr → Option Literal
literal_in None = None
literal_in (Some of) = literal_of of

-- an integer that a type may be: `0`, or at most 15 digits without leading `0`, before which a `-` may stand
abbrev pub is_integer : Bool → List ℕ → Bool
is_integer minus spelled = is_positive spelled || (not minus && is_zero spelled)

-- the type of a literal, and the same widened
abbrev pub narrow_type : Literal → TypeExpr
narrow_type (Text at spelled) = t.String at (quoted spelled)
narrow_type (Number at minus spelled) = if is_integer minus spelled then t.Integer at minus spelled else t.Keyword at b.Number
narrow_type (Truth at value) = t.Boolean at value

abbrev pub wide_type : Literal → TypeExpr
wide_type (Text at spelled) = t.Keyword at b.String
wide_type (Number at minus spelled) = t.Keyword at b.Number
wide_type (Truth at value) = t.Keyword at b.Boolean

abbrev pub literal_type : Bool → Literal → TypeExpr
literal_type true of = narrow_type of
literal_type false of = wide_type of

-- ---- types that may be missing

abbrev pub any_type : ℕ → TypeExpr
any_type at = t.Keyword at b.Any

abbrev pub annotated_type : ℕ → Option TypeExpr → TypeExpr
annotated_type at None = any_type at
annotated_type at (Some of) = quoted_type of

-- of a variable or a field, of which it counts whether it stays as it is
abbrev pub initial_type : ℕ → Bool → Option Literal → TypeExpr
initial_type at fixed None = any_type at
initial_type at fixed (Some of) = literal_type fixed of

abbrev pub declared_type : ℕ → Bool → Option TypeExpr → Option Expr → TypeExpr
declared_type at fixed (Some of) value = quoted_type of
declared_type at fixed None value = initial_type at fixed (literal_in value)

-- ---- declarations without bodies and initializers

abbrev pub has_value : Option Expr → Bool
has_value None = false
has_value (Some of) = true

-- a parameter with a default is optional
abbrev pub declared_param : Param → TypeParam
declared_param of =
    let opened = out-Param of in
    roll-TypeParam (record { at = opened.at; name = opened.name; optional = opened.optional || has_value opened.value; shape = annotated_type opened.at opened.annotation })

abbrev pub is_const : VarKind → Bool
is_const v.Const = true
is_const v.Let = false

abbrev pub declared_variable : VarKind → Declarator → Declared
declared_variable kind of =
    let opened = out-Declarator of in
    declared.Variable opened.at kind opened.name (declared_type opened.at (is_const kind) opened.annotation opened.value)

abbrev pub declared_function : Function → Declared
declared_function of =
    let opened = out-Function of in
    declared.Function opened.at opened.name opened.variables (map declared_param opened.params) (annotated_type opened.at opened.result)

abbrev pub declared_member_of : ClassMember → DeclaredMember
declared_member_of (class_member.Field at is_static read_only name optional annotation value) =
    declared_member.Field at is_static read_only name optional (declared_type at read_only annotation value)
declared_member_of (class_member.Constructor at params of) = declared_member.Constructor at (map declared_param params)
declared_member_of (class_member.Method at is_static name params result of) =
    declared_member.Method at is_static name (map declared_param params) (annotated_type at result)

abbrev pub declared_class : ClassDeclaration → DeclaredClass
declared_class of = record { at = of.at; name = of.name; implements = map quoted_base of.implements; members = map declared_member_of of.members }

abbrev pub declared_part : Part → Declared
declared_part (VariablePart kind of) = declared_variable kind of
declared_part (FunctionPart of) = declared_function of
declared_part (ClassPart of) = declared.Class (declared_class of)
declared_part (InterfacePart of) = declared.Interface (quoted_interface of)
declared_part (AliasPart of) = declared.Alias (quoted_alias of)

-- ---- items

-- an import stays with the Specs that are kept, where there are some
abbrev pub import_with : ℕ → Bool → List Spec → Specifier → List SurfaceItem
import_with at type_only [] from = []
import_with at type_only (of ∷ rest) from = surface_item.Import (import_form.List at type_only (of ∷ rest) (quoted_specifier from)) ∷ []

abbrev pub surface_import : Known → Import → List SurfaceItem
surface_import known (import_form.List at type_only specs from) = import_with at type_only (filter (keeps_spec known) specs) from
surface_import known (import_form.Bare at from) = []

abbrev pub surface_part : Known → Bool → Part → List SurfaceItem
surface_part known exported of = if keeps_part known exported of then (surface_item.Declaration exported (declared_part of) ∷ []) else []

abbrev pub surface_item_of : Known → Item → List SurfaceItem
surface_item_of known (item.Import of) = surface_import known of
surface_item_of known (item.ExportList of) = map quoted_surface_item (kept of)
surface_item_of known (item.Declaration exported of) = flat_map (surface_part known exported) (parts_of of)
surface_item_of known (item.Stmt of) = []

abbrev pub surface_with : Known → File → Surface
surface_with known file = record { items = flat_map (surface_item_of known) file.items }

abbrev pub surface : File → Surface
surface file = surface_with (known_names file) file

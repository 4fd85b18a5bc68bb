-- What the types of a tree leave in its JavaScript: nothing, so that two trees that differ in them alone are written alike.
use Rattle.std.specs.Prelude.{◌≡◌, ℕ, Bool, false, List, [], Option, None}
use Rattle.tb_tree.specs.declared.types.TypeExpr.{TypeExpr}
use Rattle.tb_tree.specs.declared.exprs.Identifier.{Identifier}
use Rattle.tb_tree.specs.declared.exprs.ArrowBody.{ArrowBody}
use Rattle.tb_tree.specs.declared.exprs.Block.{Block}
use Rattle.tb_tree.specs.declared.exprs.Declarator.{Declarator, roll-Declarator}
use Rattle.tb_tree.specs.declared.exprs.Expr.{Expr}
use Rattle.tb_tree.specs.declared.exprs.Expr.TheVariants as expr
use Rattle.tb_tree.specs.declared.exprs.Function.{Function, roll-Function}
use Rattle.tb_tree.specs.declared.exprs.Param.{Param, roll-Param}
use Rattle.tb_tree.specs.declared.items.Base.{Base}
use Rattle.tb_tree.specs.declared.items.ClassMember.{ClassMember}
use Rattle.tb_tree.specs.declared.items.ClassMember.TheVariants as class_member
use Rattle.tb_layout.specs.Pieces.{Piece}
use Rattle.tb_layout.specs.Erase.{erased_expr, erased_declarator, erased_function, erased_param, erased_member, erased_class}
use Rattle.tb_layout.specs.Js.{expr_laid, declarator_laid, function_laid, param_laid, member_pieces, class_pieces}

-- the JavaScript of an expression, so many blocks deep
abbrev pub js_of_expr : Expr → ℕ → List Piece
js_of_expr of = expr_laid (erased_expr of)

abbrev pub js_of_declarator : Declarator → ℕ → List Piece
js_of_declarator of = declarator_laid (erased_declarator of)

abbrev pub js_of_param : Param → ℕ → List Piece
js_of_param of = param_laid (erased_param of)

abbrev pub js_of_function : Function → ℕ → List Piece
js_of_function of = function_laid (erased_function of)

abbrev pub js_of_member : ClassMember → ℕ → List Piece
js_of_member of = member_pieces (erased_member of)

-- `v as T` is `v`
abbrev pub CastsLeaveNothing : Type 0
CastsLeaveNothing = (at : ℕ) (value : Expr) (shape : TypeExpr) (n : ℕ) → js_of_expr (expr.As at value shape) n ≡ js_of_expr value n

-- `f<T>(a)` is `f(a)`
abbrev pub TypeArgumentsLeaveNothing : Type 0
TypeArgumentsLeaveNothing = (at : ℕ) (callee : Expr) (types : List TypeExpr) (arguments : List Expr) (n : ℕ)
    → js_of_expr (expr.Call at callee types arguments) n ≡ js_of_expr (expr.Call at callee [] arguments) n

-- `a: T = v` is `a = v`
abbrev pub AnnotationsLeaveNothing : Type 0
AnnotationsLeaveNothing = (at : ℕ) (name : List ℕ) (annotation : Option TypeExpr) (value : Option Expr) (n : ℕ)
    → js_of_declarator (roll-Declarator (record { at = at; name = name; annotation = annotation; value = value })) n
    ≡ js_of_declarator (roll-Declarator (record { at = at; name = name; annotation = None; value = value })) n

-- a parameter `a?: T` is `a`, and `a: T = v` is `a = v`
abbrev pub ParametersLeaveNothing : Type 0
ParametersLeaveNothing = (at : ℕ) (name : List ℕ) (optional : Bool) (annotation : Option TypeExpr) (value : Option Expr) (n : ℕ)
    → js_of_param (roll-Param (record { at = at; name = name; optional = optional; annotation = annotation; value = value })) n
    ≡ js_of_param (roll-Param (record { at = at; name = name; optional = false; annotation = None; value = value })) n

-- `function f<T>(a): R { .. }` is `function f(a) { .. }`
abbrev pub SignaturesLeaveNothing : Type 0
SignaturesLeaveNothing = (at : ℕ) (name : List ℕ) (variables : List Identifier) (params : List Param) (result : Option TypeExpr) (of : Block) (n : ℕ)
    → js_of_function (roll-Function (record { at = at; name = name; variables = variables; params = params; result = result; body = of })) n
    ≡ js_of_function (roll-Function (record { at = at; name = name; variables = []; params = params; result = None; body = of })) n

-- `(a): R => b` is `(a) => b`
abbrev pub ArrowResultsLeaveNothing : Type 0
ArrowResultsLeaveNothing = (at : ℕ) (params : List Param) (result : Option TypeExpr) (of : ArrowBody) (n : ℕ)
    → js_of_expr (expr.Arrow at params result of) n ≡ js_of_expr (expr.Arrow at params None of) n

-- a field `readonly a?: T = v` is `a = v`
abbrev pub FieldTypesLeaveNothing : Type 0
FieldTypesLeaveNothing = (at : ℕ) (is_static read_only : Bool) (name : List ℕ) (optional : Bool) (annotation : Option TypeExpr) (value : Option Expr) (n : ℕ)
    → js_of_member (class_member.Field at is_static read_only name optional annotation value) n
    ≡ js_of_member (class_member.Field at is_static false name false None value) n

-- a method `m(a): R { .. }` is `m(a) { .. }`
abbrev pub MethodResultsLeaveNothing : Type 0
MethodResultsLeaveNothing = (at : ℕ) (is_static : Bool) (name : List ℕ) (params : List Param) (result : Option TypeExpr) (of : Block) (n : ℕ)
    → js_of_member (class_member.Method at is_static name params result of) n ≡ js_of_member (class_member.Method at is_static name params None of) n

-- `class C implements I { .. }` is `class C { .. }`
abbrev pub BasesLeaveNothing : Type 0
BasesLeaveNothing = (at : ℕ) (name : List ℕ) (bases : List Base) (members : List ClassMember)
    → class_pieces (erased_class (record { at = at; name = name; implements = bases; members = members }))
    ≡ class_pieces (erased_class (record { at = at; name = name; implements = []; members = members }))

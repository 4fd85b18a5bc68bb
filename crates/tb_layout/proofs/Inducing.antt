-- Induction over types, by their forms.
use Rattle.std.proofs.Common.{◌≡◌, ℕ, Bool, List, [], ◌∷◌, map, sym, subst}
use Rattle.tb_tree.specs.declared.types.Key.{Key}
use Rattle.tb_tree.specs.declared.types.TypeKeyword.{TypeKeyword}
use Rattle.tb_tree.specs.declared.types.TypeExpr.{TypeExpr, roll-TypeExpr}
use Rattle.tb_tree.specs.declared.types.TypeExpr.TheVariants as t
use Rattle.tb_tree.specs.declared.types.TypeExpr.TheOpen.{TypeExpr-F, TypeMember-F, TypeParam-F}
use Rattle.tb_tree.specs.declared.types.TypeExpr.TheFolds.{map-TypeExpr, map-TypeMember, map-TypeParam, ind-TypeExpr, ind-TypeMember, ind-TypeParam}
use Rattle.tb_tree.specs.declared.types.TypeMember.{TypeMember, roll-TypeMember}
use Rattle.tb_tree.specs.declared.types.TypeMember.TheVariants as p
use Rattle.tb_tree.specs.declared.types.TypeParam.{TypeParam, roll-TypeParam}

-- what holds of each member of a list
pub data Each (A : Type 0) (P : A → Type 0) : List A → Type 0 where
  none : Each A P []
  more : {x : A} {xs : List A} → P x → Each A P xs → Each A P (x ∷ xs)

abbrev pub first_of : {A : Type 0} (P : A → Type 0) → (x : A) × P x → A
first_of P e = e.0

abbrev pub firsts : {A : Type 0} (P : A → Type 0) → List ((x : A) × P x) → List A
firsts P all = map (first_of P) all

pub each_of : {A : Type 0} (P : A → Type 0) (all : List ((x : A) × P x)) → Each A P (firsts P all)
each_of P [] = none
each_of P (e ∷ rest) = more e.1 (each_of P rest)

-- what is to be shown of each form
pub record TypeCases (P : TypeExpr → Type 0) (Q : TypeMember → Type 0) (R : TypeParam → Type 0) : Type 0 where
  pub keyword_case : (at : ℕ) (keyword : TypeKeyword) → P (t.Keyword at keyword)
  pub boolean_case : (at : ℕ) (value : Bool) → P (t.Boolean at value)
  pub string_case : (at : ℕ) (spelled : List ℕ) → P (t.String at spelled)
  pub integer_case : (at : ℕ) (minus : Bool) (digits : List ℕ) → P (t.Integer at minus digits)
  pub written_case : (at : ℕ) (name : List ℕ) (arguments : List TypeExpr) → Each TypeExpr P arguments → P (t.Written at name arguments)
  pub array_case : (at : ℕ) (read_only : Bool) (element : TypeExpr) → P element → P (t.Array at read_only element)
  pub function_case : (at : ℕ) (params : List TypeParam) (result : TypeExpr) → Each TypeParam R params → P result → P (t.Function at params result)
  pub object_case : (at : ℕ) (members : List TypeMember) → Each TypeMember Q members → P (t.Object at members)
  pub union_case : (at : ℕ) (parts : List TypeExpr) → Each TypeExpr P parts → P (t.Union at parts)
  pub named_case : (path : List ℕ) (name : List ℕ) (arguments : List TypeExpr) → Each TypeExpr P arguments → P (t.Named path name arguments)
  pub class_case : (path : List ℕ) (name : List ℕ) → P (t.Class path name)
  pub param_case : (owner : List ℕ) (name : List ℕ) → P (t.Param owner name)
  pub generic_case : (path : List ℕ) (name : List ℕ) → P (t.Generic path name)
  pub property_case : (at : ℕ) (read_only : Bool) (key : Key) (optional : Bool) (shape : TypeExpr) → P shape → Q (p.Property at read_only key optional shape)
  pub method_case : (at : ℕ) (key : Key) (optional : Bool) (params : List TypeParam) (result : TypeExpr) → Each TypeParam R params → P result → Q (p.Method at key optional params result)
  pub rolled_case : (at : ℕ) (name : List ℕ) (optional : Bool) (shape : TypeExpr) → P shape → R (roll-TypeParam (record { at = at; name = name; optional = optional; shape = shape }))

module _ (P : TypeExpr → Type 0) (Q : TypeMember → Type 0) (R : TypeParam → Type 0) (cases : TypeCases P Q R) where
  abbrev SuchType : Type 0
  SuchType = (of : TypeExpr) × P of

  abbrev SuchMember : Type 0
  SuchMember = (of : TypeMember) × Q of

  abbrev SuchParam : Type 0
  SuchParam = (of : TypeParam) × R of

  type_by_form : (y : TypeExpr-F SuchType SuchMember SuchParam) → P (roll-TypeExpr (map-TypeExpr SuchType SuchMember SuchParam TypeExpr TypeMember TypeParam (first_of P) (first_of Q) (first_of R) y))
  type_by_form (TypeExpr-F.Keyword at keyword) = subst P (sym (t.rolls-Keyword at keyword)) (cases.keyword_case at keyword)
  type_by_form (TypeExpr-F.Boolean at value) = subst P (sym (t.rolls-Boolean at value)) (cases.boolean_case at value)
  type_by_form (TypeExpr-F.String at spelled) = subst P (sym (t.rolls-String at spelled)) (cases.string_case at spelled)
  type_by_form (TypeExpr-F.Integer at minus digits) = subst P (sym (t.rolls-Integer at minus digits)) (cases.integer_case at minus digits)
  type_by_form (TypeExpr-F.Written at name arguments) = subst P (sym (t.rolls-Written at name (firsts P arguments))) (cases.written_case at name (firsts P arguments) (each_of P arguments))
  type_by_form (TypeExpr-F.Array at read_only element) = subst P (sym (t.rolls-Array at read_only element.0)) (cases.array_case at read_only element.0 element.1)
  type_by_form (TypeExpr-F.Function at params result) = subst P (sym (t.rolls-Function at (firsts R params) result.0)) (cases.function_case at (firsts R params) result.0 (each_of R params) result.1)
  type_by_form (TypeExpr-F.Object at members) = subst P (sym (t.rolls-Object at (firsts Q members))) (cases.object_case at (firsts Q members) (each_of Q members))
  type_by_form (TypeExpr-F.Union at parts) = subst P (sym (t.rolls-Union at (firsts P parts))) (cases.union_case at (firsts P parts) (each_of P parts))
  type_by_form (TypeExpr-F.Named path name arguments) = subst P (sym (t.rolls-Named path name (firsts P arguments))) (cases.named_case path name (firsts P arguments) (each_of P arguments))
  type_by_form (TypeExpr-F.Class path name) = subst P (sym (t.rolls-Class path name)) (cases.class_case path name)
  type_by_form (TypeExpr-F.Param owner name) = subst P (sym (t.rolls-Param owner name)) (cases.param_case owner name)
  type_by_form (TypeExpr-F.Generic path name) = subst P (sym (t.rolls-Generic path name)) (cases.generic_case path name)

  member_by_form : (y : TypeMember-F SuchType SuchMember SuchParam) → Q (roll-TypeMember (map-TypeMember SuchType SuchMember SuchParam TypeExpr TypeMember TypeParam (first_of P) (first_of Q) (first_of R) y))
  member_by_form (TypeMember-F.Property at read_only key optional shape) = subst Q (sym (p.rolls-Property at read_only key optional shape.0)) (cases.property_case at read_only key optional shape.0 shape.1)
  member_by_form (TypeMember-F.Method at key optional params result) = subst Q (sym (p.rolls-Method at key optional (firsts R params) result.0)) (cases.method_case at key optional (firsts R params) result.0 (each_of R params) result.1)

  param_by_form : (y : TypeParam-F SuchType SuchMember SuchParam) → R (roll-TypeParam (map-TypeParam SuchType SuchMember SuchParam TypeExpr TypeMember TypeParam (first_of P) (first_of Q) (first_of R) y))
  param_by_form y = cases.rolled_case y.at y.name y.optional (y.shape).0 (y.shape).1

  type_step : (x : TypeExpr-F TypeExpr TypeMember TypeParam) (y : TypeExpr-F SuchType SuchMember SuchParam) → map-TypeExpr SuchType SuchMember SuchParam TypeExpr TypeMember TypeParam (first_of P) (first_of Q) (first_of R) y ≡ x → P (roll-TypeExpr x)
  type_step x y is = subst (λ (z : TypeExpr-F TypeExpr TypeMember TypeParam). P (roll-TypeExpr z)) is (type_by_form y)

  member_step : (x : TypeMember-F TypeExpr TypeMember TypeParam) (y : TypeMember-F SuchType SuchMember SuchParam) → map-TypeMember SuchType SuchMember SuchParam TypeExpr TypeMember TypeParam (first_of P) (first_of Q) (first_of R) y ≡ x → Q (roll-TypeMember x)
  member_step x y is = subst (λ (z : TypeMember-F TypeExpr TypeMember TypeParam). Q (roll-TypeMember z)) is (member_by_form y)

  param_step : (x : TypeParam-F TypeExpr TypeMember TypeParam) (y : TypeParam-F SuchType SuchMember SuchParam) → map-TypeParam SuchType SuchMember SuchParam TypeExpr TypeMember TypeParam (first_of P) (first_of Q) (first_of R) y ≡ x → R (roll-TypeParam x)
  param_step x y is = subst (λ (z : TypeParam-F TypeExpr TypeMember TypeParam). R (roll-TypeParam z)) is (param_by_form y)

  pub type_induction : (of : TypeExpr) → P of
  type_induction = ind-TypeExpr P Q R type_step member_step param_step

  pub member_induction : (of : TypeMember) → Q of
  member_induction = ind-TypeMember P Q R type_step member_step param_step

  pub param_induction : (of : TypeParam) → R of
  param_induction = ind-TypeParam P Q R type_step member_step param_step

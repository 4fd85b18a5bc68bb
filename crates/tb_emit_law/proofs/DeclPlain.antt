-- Types without their offsets, by their parts; and the same of types in which each string has its one spelling.
use Rattle.std.proofs.Common.{◌≡◌, ℕ, ◌-◌, Bool, true, false, List, [], ◌∷◌, map, refl, sym, ◌∙◌, ap}
use Rattle.tb_tree.specs.declared.types.Key.{Key}
use Rattle.tb_tree.specs.declared.types.TypeKeyword.{TypeKeyword}
use Rattle.tb_tree.specs.declared.types.TypeExpr.{TypeExpr, out-TypeExpr, fold_out-TypeExpr}
use Rattle.tb_tree.specs.declared.types.TypeExpr.TheVariants as t
use Rattle.tb_tree.specs.declared.types.TypeExpr.TheOpen.{TypeExpr-F, TypeMember-F, TypeParam-F}
use Rattle.tb_tree.specs.declared.types.TypeExpr.TheFolds.{map-TypeExpr, map-TypeMember}
use Rattle.tb_tree.specs.declared.types.TypeMember.{TypeMember, out-TypeMember, fold_out-TypeMember}
use Rattle.tb_tree.specs.declared.types.TypeMember.TheVariants as p
use Rattle.tb_tree.specs.declared.types.TypeParam.{TypeParam, out-TypeParam, fold_out-TypeParam, roll-TypeParam, fold-roll-TypeParam}
use Rattle.tb_tree.specs.Types.{parts_at, parts_of, count_at, part_count}
use Rattle.tb_tree.specs.Bare.{bare_type_layer, bare_member_layer, bare_type_param_layer, bare_type, bare_member, bare_type_param}
use Rattle.tb_layout.specs.Quoted.{quoted, quoted_key, quoted_type, quoted_member, quoted_type_param}
use Rattle.tb_layout.proofs.Quoting as quoting
use Rattle.tb_layout.proofs.Values.{quoted_twice}

-- ---- one layer of a tree

abbrev pub open_type : TypeExpr-F TypeExpr TypeMember TypeParam → TypeExpr
open_type (TypeExpr-F.Keyword at keyword) = t.Keyword 0 keyword
open_type (TypeExpr-F.Boolean at value) = t.Boolean 0 value
open_type (TypeExpr-F.String at spelled) = t.String 0 spelled
open_type (TypeExpr-F.Integer at minus digits) = t.Integer 0 minus digits
open_type (TypeExpr-F.Written at name arguments) = t.Written 0 name (map bare_type arguments)
open_type (TypeExpr-F.Array at read_only element) = t.Array 0 read_only (bare_type element)
open_type (TypeExpr-F.Function at params result) = t.Function 0 (map bare_type_param params) (bare_type result)
open_type (TypeExpr-F.Object at members) = t.Object 0 (map bare_member members)
open_type (TypeExpr-F.Union at parts) = t.Union 0 (map bare_type parts)
open_type (TypeExpr-F.Named path name arguments) = t.Named path name (map bare_type arguments)
open_type (TypeExpr-F.Class path name) = t.Class path name
open_type (TypeExpr-F.Param owner name) = t.Param owner name
open_type (TypeExpr-F.Generic path name) = t.Generic path name

abbrev pub open_member : TypeMember-F TypeExpr TypeMember TypeParam → TypeMember
open_member (TypeMember-F.Property at read_only key optional shape) = p.Property 0 read_only key optional (bare_type shape)
open_member (TypeMember-F.Method at key optional params result) = p.Method 0 key optional (map bare_type_param params) (bare_type result)

abbrev pub open_type_param : TypeParam-F TypeExpr TypeMember TypeParam → TypeParam
open_type_param layer = roll-TypeParam (record { at = 0; name = layer.name; optional = layer.optional; shape = bare_type layer.shape })

type_opened : (layer : TypeExpr-F TypeExpr TypeMember TypeParam) → bare_type_layer (map-TypeExpr TypeExpr TypeMember TypeParam TypeExpr TypeMember TypeParam bare_type bare_member bare_type_param layer) ≡ open_type layer
type_opened (TypeExpr-F.Keyword at keyword) = refl
type_opened (TypeExpr-F.Boolean at value) = refl
type_opened (TypeExpr-F.String at spelled) = refl
type_opened (TypeExpr-F.Integer at minus digits) = refl
type_opened (TypeExpr-F.Written at name arguments) = refl
type_opened (TypeExpr-F.Array at read_only element) = refl
type_opened (TypeExpr-F.Function at params result) = refl
type_opened (TypeExpr-F.Object at members) = refl
type_opened (TypeExpr-F.Union at parts) = refl
type_opened (TypeExpr-F.Named path name arguments) = refl
type_opened (TypeExpr-F.Class path name) = refl
type_opened (TypeExpr-F.Param owner name) = refl
type_opened (TypeExpr-F.Generic path name) = refl

pub type_out : (of : TypeExpr) → bare_type of ≡ open_type (out-TypeExpr of)
unfolding bare_type bare_member bare_type_param
type_out of = fold_out-TypeExpr TypeExpr TypeMember TypeParam bare_type_layer bare_member_layer bare_type_param_layer of ∙ type_opened (out-TypeExpr of)

member_opened : (layer : TypeMember-F TypeExpr TypeMember TypeParam) → bare_member_layer (map-TypeMember TypeExpr TypeMember TypeParam TypeExpr TypeMember TypeParam bare_type bare_member bare_type_param layer) ≡ open_member layer
member_opened (TypeMember-F.Property at read_only key optional shape) = refl
member_opened (TypeMember-F.Method at key optional params result) = refl

pub member_out : (of : TypeMember) → bare_member of ≡ open_member (out-TypeMember of)
unfolding bare_type bare_member bare_type_param
member_out of = fold_out-TypeMember TypeExpr TypeMember TypeParam bare_type_layer bare_member_layer bare_type_param_layer of ∙ member_opened (out-TypeMember of)

pub type_param_out : (of : TypeParam) → bare_type_param of ≡ open_type_param (out-TypeParam of)
unfolding bare_type bare_member bare_type_param
type_param_out of = fold_out-TypeParam TypeExpr TypeMember TypeParam bare_type_layer bare_member_layer bare_type_param_layer of

-- ---- each form of a tree

pub bare_keyword_type : (at : ℕ) (keyword : TypeKeyword) → bare_type (t.Keyword at keyword) ≡ t.Keyword 0 keyword
bare_keyword_type at keyword = type_out _ ∙ ap open_type (t.outs-Keyword at keyword)

pub bare_boolean_type : (at : ℕ) (value : Bool) → bare_type (t.Boolean at value) ≡ t.Boolean 0 value
bare_boolean_type at value = type_out _ ∙ ap open_type (t.outs-Boolean at value)

pub bare_string_type : (at : ℕ) (spelled : List ℕ) → bare_type (t.String at spelled) ≡ t.String 0 spelled
bare_string_type at spelled = type_out _ ∙ ap open_type (t.outs-String at spelled)

pub bare_integer_type : (at : ℕ) (minus : Bool) (digits : List ℕ) → bare_type (t.Integer at minus digits) ≡ t.Integer 0 minus digits
bare_integer_type at minus digits = type_out _ ∙ ap open_type (t.outs-Integer at minus digits)

pub bare_written_type : (at : ℕ) (name : List ℕ) (arguments : List TypeExpr) → bare_type (t.Written at name arguments) ≡ t.Written 0 name (map bare_type arguments)
bare_written_type at name arguments = type_out _ ∙ ap open_type (t.outs-Written at name arguments)

pub bare_array_type : (at : ℕ) (read_only : Bool) (element : TypeExpr) → bare_type (t.Array at read_only element) ≡ t.Array 0 read_only (bare_type element)
bare_array_type at read_only element = type_out _ ∙ ap open_type (t.outs-Array at read_only element)

pub bare_function_type : (at : ℕ) (params : List TypeParam) (result : TypeExpr) → bare_type (t.Function at params result) ≡ t.Function 0 (map bare_type_param params) (bare_type result)
bare_function_type at params result = type_out _ ∙ ap open_type (t.outs-Function at params result)

pub bare_object_type : (at : ℕ) (members : List TypeMember) → bare_type (t.Object at members) ≡ t.Object 0 (map bare_member members)
bare_object_type at members = type_out _ ∙ ap open_type (t.outs-Object at members)

pub bare_union_type : (at : ℕ) (parts : List TypeExpr) → bare_type (t.Union at parts) ≡ t.Union 0 (map bare_type parts)
bare_union_type at parts = type_out _ ∙ ap open_type (t.outs-Union at parts)

pub bare_named_type : (path : List ℕ) (name : List ℕ) (arguments : List TypeExpr) → bare_type (t.Named path name arguments) ≡ t.Named path name (map bare_type arguments)
bare_named_type path name arguments = type_out _ ∙ ap open_type (t.outs-Named path name arguments)

pub bare_class_type : (path : List ℕ) (name : List ℕ) → bare_type (t.Class path name) ≡ t.Class path name
bare_class_type path name = type_out _ ∙ ap open_type (t.outs-Class path name)

pub bare_param_type : (owner : List ℕ) (name : List ℕ) → bare_type (t.Param owner name) ≡ t.Param owner name
bare_param_type owner name = type_out _ ∙ ap open_type (t.outs-Param owner name)

pub bare_generic_type : (path : List ℕ) (name : List ℕ) → bare_type (t.Generic path name) ≡ t.Generic path name
bare_generic_type path name = type_out _ ∙ ap open_type (t.outs-Generic path name)

pub bare_property_member : (at : ℕ) (read_only : Bool) (key : Key) (optional : Bool) (shape : TypeExpr) → bare_member (p.Property at read_only key optional shape) ≡ p.Property 0 read_only key optional (bare_type shape)
bare_property_member at read_only key optional shape = member_out _ ∙ ap open_member (p.outs-Property at read_only key optional shape)

pub bare_method_member : (at : ℕ) (key : Key) (optional : Bool) (params : List TypeParam) (result : TypeExpr) → bare_member (p.Method at key optional params result) ≡ p.Method 0 key optional (map bare_type_param params) (bare_type result)
bare_method_member at key optional params result = member_out _ ∙ ap open_member (p.outs-Method at key optional params result)

pub type_param_rolled : (layer : TypeParam-F TypeExpr TypeMember TypeParam) → bare_type_param (roll-TypeParam layer) ≡ open_type_param layer
unfolding bare_type bare_member bare_type_param
type_param_rolled layer = fold-roll-TypeParam TypeExpr TypeMember TypeParam bare_type_layer bare_member_layer bare_type_param_layer layer

-- ---- quoted, and then without offsets

abbrev pub plain_type : TypeExpr → TypeExpr
plain_type of = bare_type (quoted_type of)

abbrev pub plain_member : TypeMember → TypeMember
plain_member of = bare_member (quoted_member of)

abbrev pub plain_param : TypeParam → TypeParam
plain_param of = bare_type_param (quoted_type_param of)

abbrev pub plain_key : Key → Key
plain_key = quoted_key

pub each_plain : {A : Type 0} (f g : A → A) (xs : List A) → map f (map g xs) ≡ map (λ x. f (g x)) xs
each_plain f g [] = refl
each_plain f g (x ∷ xs) = ap (λ v. f (g x) ∷ v) (each_plain f g xs)

pub plain_keyword : (at : ℕ) (keyword : TypeKeyword) → plain_type (t.Keyword at keyword) ≡ t.Keyword 0 keyword
plain_keyword at keyword = ap bare_type (quoting.keyword_type at keyword) ∙ bare_keyword_type at keyword

pub plain_boolean : (at : ℕ) (value : Bool) → plain_type (t.Boolean at value) ≡ t.Boolean 0 value
plain_boolean at value = ap bare_type (quoting.boolean_type at value) ∙ bare_boolean_type at value

pub plain_string : (at : ℕ) (spelled : List ℕ) → plain_type (t.String at spelled) ≡ t.String 0 (quoted spelled)
plain_string at spelled = ap bare_type (quoting.string_type at spelled) ∙ bare_string_type at (quoted spelled)

-- a string in its one spelling stays
pub plain_quoted : (at : ℕ) (spelled : List ℕ) → plain_type (t.String at (quoted spelled)) ≡ t.String 0 (quoted spelled)
plain_quoted at spelled = plain_string at (quoted spelled) ∙ ap (λ v. t.String 0 v) (quoted_twice spelled)

pub plain_integer : (at : ℕ) (minus : Bool) (digits : List ℕ) → plain_type (t.Integer at minus digits) ≡ t.Integer 0 minus digits
plain_integer at minus digits = ap bare_type (quoting.integer_type at minus digits) ∙ bare_integer_type at minus digits

pub plain_written : (at : ℕ) (name : List ℕ) → plain_type (t.Written at name []) ≡ t.Written 0 name []
plain_written at name = ap bare_type (quoting.written_type at name []) ∙ bare_written_type at name []

pub plain_array : (at : ℕ) (read_only : Bool) (element : TypeExpr) → plain_type (t.Array at read_only element) ≡ t.Array 0 read_only (plain_type element)
plain_array at read_only element = ap bare_type (quoting.array_type at read_only element) ∙ bare_array_type at read_only (quoted_type element)

pub plain_function : (at : ℕ) (params : List TypeParam) (result : TypeExpr) → plain_type (t.Function at params result) ≡ t.Function 0 (map plain_param params) (plain_type result)
plain_function at params result =
    ap bare_type (quoting.function_type at params result)
    ∙ (bare_function_type at (map quoted_type_param params) (quoted_type result) ∙ ap (λ v. t.Function 0 v (plain_type result)) (each_plain bare_type_param quoted_type_param params))

pub plain_object : (at : ℕ) (members : List TypeMember) → plain_type (t.Object at members) ≡ t.Object 0 (map plain_member members)
plain_object at members =
    ap bare_type (quoting.object_type at members) ∙ (bare_object_type at (map quoted_member members) ∙ ap (λ v. t.Object 0 v) (each_plain bare_member quoted_member members))

pub plain_union : (at : ℕ) (parts : List TypeExpr) → plain_type (t.Union at parts) ≡ t.Union 0 (map plain_type parts)
plain_union at parts = ap bare_type (quoting.union_type at parts) ∙ (bare_union_type at (map quoted_type parts) ∙ ap (λ v. t.Union 0 v) (each_plain bare_type quoted_type parts))

pub plain_property : (at : ℕ) (read_only : Bool) (key : Key) (optional : Bool) (shape : TypeExpr)
    → plain_member (p.Property at read_only key optional shape) ≡ p.Property 0 read_only (plain_key key) optional (plain_type shape)
plain_property at read_only key optional shape =
    ap bare_member (quoting.property_member at read_only key optional shape) ∙ bare_property_member at read_only (quoted_key key) optional (quoted_type shape)

pub plain_method : (at : ℕ) (key : Key) (optional : Bool) (params : List TypeParam) (result : TypeExpr)
    → plain_member (p.Method at key optional params result) ≡ p.Method 0 (plain_key key) optional (map plain_param params) (plain_type result)
plain_method at key optional params result =
    ap bare_member (quoting.method_member at key optional params result)
    ∙ (bare_method_member at (quoted_key key) optional (map quoted_type_param params) (quoted_type result)
    ∙ ap (λ v. p.Method 0 (plain_key key) optional v (plain_type result)) (each_plain bare_type_param quoted_type_param params))

abbrev pub a_param : ℕ → List ℕ → Bool → TypeExpr → TypeParam
a_param at name optional shape = roll-TypeParam (record { at = at; name = name; optional = optional; shape = shape })

pub plain_rolled : (at : ℕ) (name : List ℕ) (optional : Bool) (shape : TypeExpr) → plain_param (a_param at name optional shape) ≡ a_param 0 name optional (plain_type shape)
plain_rolled at name optional shape =
    ap bare_type_param (quoting.type_param_rolled (record { at = at; name = name; optional = optional; shape = shape }))
    ∙ type_param_rolled (record { at = at; name = name; optional = optional; shape = quoted_type shape })

-- ---- unions

abbrev pub is_union_at : TypeExpr-F TypeExpr TypeMember TypeParam → Bool
is_union_at (TypeExpr-F.Union at parts) = true
is_union_at _ = false

abbrev pub is_union : TypeExpr → Bool
is_union of = is_union_at (out-TypeExpr of)

union_bare : (layer : TypeExpr-F TypeExpr TypeMember TypeParam) → is_union (open_type layer) ≡ is_union_at layer
union_bare (TypeExpr-F.Keyword at keyword) = ap is_union_at (t.outs-Keyword _ _)
union_bare (TypeExpr-F.Boolean at value) = ap is_union_at (t.outs-Boolean _ _)
union_bare (TypeExpr-F.String at spelled) = ap is_union_at (t.outs-String _ _)
union_bare (TypeExpr-F.Integer at minus digits) = ap is_union_at (t.outs-Integer _ _ _)
union_bare (TypeExpr-F.Written at name arguments) = ap is_union_at (t.outs-Written _ _ _)
union_bare (TypeExpr-F.Array at read_only element) = ap is_union_at (t.outs-Array _ _ _)
union_bare (TypeExpr-F.Function at params result) = ap is_union_at (t.outs-Function _ _ _)
union_bare (TypeExpr-F.Object at members) = ap is_union_at (t.outs-Object _ _)
union_bare (TypeExpr-F.Union at parts) = ap is_union_at (t.outs-Union _ _)
union_bare (TypeExpr-F.Named path name arguments) = ap is_union_at (t.outs-Named _ _ _)
union_bare (TypeExpr-F.Class path name) = ap is_union_at (t.outs-Class _ _)
union_bare (TypeExpr-F.Param owner name) = ap is_union_at (t.outs-Param _ _)
union_bare (TypeExpr-F.Generic path name) = ap is_union_at (t.outs-Generic _ _)

union_quoted : (layer : TypeExpr-F TypeExpr TypeMember TypeParam) → is_union (quoting.open_type layer) ≡ is_union_at layer
union_quoted (TypeExpr-F.Keyword at keyword) = ap is_union_at (t.outs-Keyword _ _)
union_quoted (TypeExpr-F.Boolean at value) = ap is_union_at (t.outs-Boolean _ _)
union_quoted (TypeExpr-F.String at spelled) = ap is_union_at (t.outs-String _ _)
union_quoted (TypeExpr-F.Integer at minus digits) = ap is_union_at (t.outs-Integer _ _ _)
union_quoted (TypeExpr-F.Written at name arguments) = ap is_union_at (t.outs-Written _ _ _)
union_quoted (TypeExpr-F.Array at read_only element) = ap is_union_at (t.outs-Array _ _ _)
union_quoted (TypeExpr-F.Function at params result) = ap is_union_at (t.outs-Function _ _ _)
union_quoted (TypeExpr-F.Object at members) = ap is_union_at (t.outs-Object _ _)
union_quoted (TypeExpr-F.Union at parts) = ap is_union_at (t.outs-Union _ _)
union_quoted (TypeExpr-F.Named path name arguments) = ap is_union_at (t.outs-Named _ _ _)
union_quoted (TypeExpr-F.Class path name) = ap is_union_at (t.outs-Class _ _)
union_quoted (TypeExpr-F.Param owner name) = ap is_union_at (t.outs-Param _ _)
union_quoted (TypeExpr-F.Generic path name) = ap is_union_at (t.outs-Generic _ _)

pub single_plain : (of : TypeExpr) → is_union (plain_type of) ≡ is_union of
single_plain of = ap is_union (type_out (quoted_type of)) ∙ (union_bare (out-TypeExpr (quoted_type of)) ∙ (ap is_union (quoting.type_out of) ∙ union_quoted (out-TypeExpr of)))

-- a type that is no union is no union but for offsets
pub single_back : (of left : TypeExpr) → plain_type of ≡ plain_type left → is_union left ≡ false → is_union of ≡ false
single_back of left e h = sym (single_plain of) ∙ (ap is_union e ∙ (single_plain left ∙ h))

parts_at_single : (of : TypeExpr) (layer : TypeExpr-F TypeExpr TypeMember TypeParam) → is_union_at layer ≡ false → parts_at of layer ≡ of ∷ []
parts_at_single of (TypeExpr-F.Union at parts) e = absurd (cc e)
parts_at_single of _ e = refl

pub parts_single : (of : TypeExpr) → is_union of ≡ false → parts_of of ≡ of ∷ []
parts_single of e = parts_at_single of (out-TypeExpr of) e

count_at_single : (n : ℕ) (layer : TypeExpr-F TypeExpr TypeMember TypeParam) → is_union_at layer ≡ false → count_at n layer ≡ n
count_at_single n (TypeExpr-F.Union at parts) e = absurd (cc e)
count_at_single n _ e = refl

pub count_single : (of : TypeExpr) (n : ℕ) → is_union of ≡ false → part_count of n ≡ n
count_single of n e = count_at_single n (out-TypeExpr of) e

pub parts_union : (at : ℕ) (parts : List TypeExpr) → parts_of (t.Union at parts) ≡ parts
parts_union at parts = ap (parts_at (t.Union at parts)) (t.outs-Union at parts)

pub count_union : (at : ℕ) (parts : List TypeExpr) (n : ℕ) → part_count (t.Union at parts) n ≡ n - 1
count_union at parts n = ap (count_at n) (t.outs-Union at parts)

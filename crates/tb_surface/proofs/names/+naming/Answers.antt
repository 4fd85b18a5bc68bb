use Rattle.std.proofs.Common.{sym, ap, ◌∙◌, [], ◌∷◌, flat_map}
use Rattle.tb_layout.specs.Parts.{type_names, member_names, type_param_names}
use Rattle.tb_layout.proofs.Naming.{written_type, array_type, function_type, object_type, union_type, named_type, keyword_type, boolean_type, string_type, integer_type, class_type, param_type, generic_type, property_member, method_member, type_param_out}
use Rattle.tb_surface.proofs.Joins.{nothing, one, two, begun, more_flat, whole_flat}
use Rattle.tb_surface.proofs.names.+naming.Goals as goal

pub add_type-returns-in_ok-add_types-in-Written : goal.add_type-returns-in_ok-add_types-in-Written
add_type-returns-in_ok-add_types-in-Written t c =
    two c.args.names.now c.push.new.self c.add_types.new.names _ _ _ _ _ c.in_ok-push-in-Written.ensures.ok c.in_ok-add_types-in-Written.ensures (ap (λ name. name ∷ []) c.in_ok-clone-in-Written.ensures.cases) (ap (flat_map type_names) c.as_slice.ensures)
    (ap type_names c.in-Written.is ∙ written_type _ _ _)

pub add_type-returns-in-Array : goal.add_type-returns-in-Array
add_type-returns-in-Array t c =
    one c.add_type.result c.args.names.now c.add_type.new.names _ _ c.add_type.ensures ((ap type_names c.get.ensures) ∙ sym (ap type_names c.in-Array.is ∙ array_type _ _ _))

pub add_type-returns-in_ok-add_type-in-Function : goal.add_type-returns-in_ok-add_type-in-Function
add_type-returns-in_ok-add_type-in-Function t c =
    two c.args.names.now c.add_type_params.new.names c.add_type-in-Function.new.names _ _ _ _ _ c.in_ok-add_type_params-in-Function.ensures c.in_ok-add_type-in-Function.ensures (ap (flat_map type_param_names) c.as_slice-in-Function.ensures) (ap type_names c.get-in-Function.ensures) (ap type_names c.in-Function.is ∙ function_type _ _ _)

pub add_type-returns-in-Object : goal.add_type-returns-in-Object
add_type-returns-in-Object t c =
    one c.add_members.result c.args.names.now c.add_members.new.names _ _ c.add_members.ensures ((ap (flat_map member_names) c.as_slice-in-Object.ensures) ∙ sym (ap type_names c.in-Object.is ∙ object_type _ _))

pub add_type-returns-in-Union : goal.add_type-returns-in-Union
add_type-returns-in-Union t c =
    one c.add_types-in-Union.result c.args.names.now c.add_types-in-Union.new.names _ _ c.add_types-in-Union.ensures ((ap (flat_map type_names) c.as_slice-in-Union.ensures) ∙ sym (ap type_names c.in-Union.is ∙ union_type _ _))

pub add_type-returns-in-Named : goal.add_type-returns-in-Named
add_type-returns-in-Named t c =
    one c.add_types-in-Named.result c.args.names.now c.add_types-in-Named.new.names _ _ c.add_types-in-Named.ensures ((ap (flat_map type_names) c.as_slice-in-Named.ensures) ∙ sym (ap type_names c.in-Named.is ∙ named_type _ _ _))

pub add_type-returns-in-Keyword : goal.add_type-returns-in-Keyword
add_type-returns-in-Keyword t c =
    nothing c.args.names.now _ (ap type_names c.in-Keyword.is ∙ keyword_type _ _)

pub add_type-returns-in-Boolean : goal.add_type-returns-in-Boolean
add_type-returns-in-Boolean t c =
    nothing c.args.names.now _ (ap type_names c.in-Boolean.is ∙ boolean_type _ _)

pub add_type-returns-in-String : goal.add_type-returns-in-String
add_type-returns-in-String t c =
    nothing c.args.names.now _ (ap type_names c.in-String.is ∙ string_type _ _)

pub add_type-returns-in-Integer : goal.add_type-returns-in-Integer
add_type-returns-in-Integer t c =
    nothing c.args.names.now _ (ap type_names c.in-Integer.is ∙ integer_type _ _ _)

pub add_type-returns-in-Class : goal.add_type-returns-in-Class
add_type-returns-in-Class t c =
    nothing c.args.names.now _ (ap type_names c.in-Class.is ∙ class_type _ _)

pub add_type-returns-in-Param : goal.add_type-returns-in-Param
add_type-returns-in-Param t c =
    nothing c.args.names.now _ (ap type_names c.in-Param.is ∙ param_type _ _)

pub add_type-returns-in-Generic : goal.add_type-returns-in-Generic
add_type-returns-in-Generic t c =
    nothing c.args.names.now _ (ap type_names c.in-Generic.is ∙ generic_type _ _)

pub add_member-returns-in-Property : goal.add_member-returns-in-Property
add_member-returns-in-Property t c =
    one c.add_type.result c.args.names.now c.add_type.new.names _ _ c.add_type.ensures ((ap type_names c.get.ensures) ∙ sym (ap member_names c.in-Property.is ∙ property_member _ _ _ _ _))

pub add_member-returns-in_ok-add_type-in-Method : goal.add_member-returns-in_ok-add_type-in-Method
add_member-returns-in_ok-add_type-in-Method t c =
    two c.args.names.now c.add_type_params.new.names c.add_type-in-Method.new.names _ _ _ _ _ c.in_ok-add_type_params-in-Method.ensures c.in_ok-add_type-in-Method.ensures (ap (flat_map type_param_names) c.as_slice.ensures) (ap type_names c.get-in-Method.ensures) (ap member_names c.in-Method.is ∙ method_member _ _ _ _ _)

pub add_type_param-returns : goal.add_type_param-returns
add_type_param-returns t c = one c.add_type.result c.args.names.now c.add_type.new.names _ _ c.add_type.ensures (ap type_names c.get.ensures ∙ sym (type_param_out c.args.of.now))

pub add_types-loop-shape-init : goal.add_types-loop-shape-init
add_types-loop-shape-init t c = begun c.args.names.now

pub add_types-loop-shape-preserved : goal.add_types-loop-shape-preserved
add_types-loop-shape-preserved t c =
    more_flat type_names c.args.all.now c.loop-shape.shape-index c.shape-item.result c.args.names.now c.loop-shape.names c.add_type.new.names c.loop-shape-test.true c.shape-item.is c.loop-shape.invariant c.in_ok-add_type.ensures

pub add_types-returns : goal.add_types-returns
add_types-returns t c = whole_flat type_names c.args.all.now c.loop-shape.shape-index c.args.names.now c.loop-shape.names c.loop-shape-test.false c.loop-shape.invariant

pub add_members-loop-member-init : goal.add_members-loop-member-init
add_members-loop-member-init t c = begun c.args.names.now

pub add_members-loop-member-preserved : goal.add_members-loop-member-preserved
add_members-loop-member-preserved t c =
    more_flat member_names c.args.all.now c.loop-member.member-index c.member-item.result c.args.names.now c.loop-member.names c.add_member.new.names c.loop-member-test.true c.member-item.is c.loop-member.invariant c.in_ok-add_member.ensures

pub add_members-returns : goal.add_members-returns
add_members-returns t c = whole_flat member_names c.args.all.now c.loop-member.member-index c.args.names.now c.loop-member.names c.loop-member-test.false c.loop-member.invariant

pub add_type_params-loop-param-init : goal.add_type_params-loop-param-init
add_type_params-loop-param-init t c = begun c.args.names.now

pub add_type_params-loop-param-preserved : goal.add_type_params-loop-param-preserved
add_type_params-loop-param-preserved t c =
    more_flat type_param_names c.args.all.now c.loop-param.param-index c.param-item.result c.args.names.now c.loop-param.names c.add_type_param.new.names c.loop-param-test.true c.param-item.is c.loop-param.invariant c.in_ok-add_type_param.ensures

pub add_type_params-returns : goal.add_type_params-returns
add_type_params-returns t c = whole_flat type_param_names c.args.all.now c.loop-param.param-index c.args.names.now c.loop-param.names c.loop-param-test.false c.loop-param.invariant

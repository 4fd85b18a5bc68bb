use Rattle.std.proofs.Common.{sym, ap, ◌∙◌}
use Rattle.tb_surface.specs.Literals.{negative_of}
use Rattle.tb_surface.proofs.Told.{name_signed, this_signed, null_signed, undefined_signed, boolean_signed, string_signed, template_signed, parens_signed, array_signed, object_signed, new_signed, member_signed, index_signed, call_signed, unary_signed, update_signed, binary_signed, as_signed, conditional_signed, assign_signed, arrow_signed}
use Rattle.tb_surface.proofs.literals.negative.Goals as goal

pub returns-in-Name : goal.returns-in-Name
returns-in-Name c = sym (ap (negative_of c.args.at) c.in-Name.is ∙ name_signed c.args.at _ _)

pub returns-in-This : goal.returns-in-This
returns-in-This c = sym (ap (negative_of c.args.at) c.in-This.is ∙ this_signed c.args.at _)

pub returns-in-Null : goal.returns-in-Null
returns-in-Null c = sym (ap (negative_of c.args.at) c.in-Null.is ∙ null_signed c.args.at _)

pub returns-in-Undefined : goal.returns-in-Undefined
returns-in-Undefined c = sym (ap (negative_of c.args.at) c.in-Undefined.is ∙ undefined_signed c.args.at _)

pub returns-in-Boolean : goal.returns-in-Boolean
returns-in-Boolean c = sym (ap (negative_of c.args.at) c.in-Boolean.is ∙ boolean_signed c.args.at _ _)

pub returns-in-String : goal.returns-in-String
returns-in-String c = sym (ap (negative_of c.args.at) c.in-String.is ∙ string_signed c.args.at _ _)

pub returns-in-Template : goal.returns-in-Template
returns-in-Template c = sym (ap (negative_of c.args.at) c.in-Template.is ∙ template_signed c.args.at _ _ _)

pub returns-in-Parens : goal.returns-in-Parens
returns-in-Parens c = sym (ap (negative_of c.args.at) c.in-Parens.is ∙ parens_signed c.args.at _ _)

pub returns-in-Array : goal.returns-in-Array
returns-in-Array c = sym (ap (negative_of c.args.at) c.in-Array.is ∙ array_signed c.args.at _ _)

pub returns-in-Object : goal.returns-in-Object
returns-in-Object c = sym (ap (negative_of c.args.at) c.in-Object.is ∙ object_signed c.args.at _ _)

pub returns-in-New : goal.returns-in-New
returns-in-New c = sym (ap (negative_of c.args.at) c.in-New.is ∙ new_signed c.args.at _ _ _)

pub returns-in-Member : goal.returns-in-Member
returns-in-Member c = sym (ap (negative_of c.args.at) c.in-Member.is ∙ member_signed c.args.at _ _ _)

pub returns-in-Index : goal.returns-in-Index
returns-in-Index c = sym (ap (negative_of c.args.at) c.in-Index.is ∙ index_signed c.args.at _ _ _)

pub returns-in-Call : goal.returns-in-Call
returns-in-Call c = sym (ap (negative_of c.args.at) c.in-Call.is ∙ call_signed c.args.at _ _ _ _)

pub returns-in-Unary : goal.returns-in-Unary
returns-in-Unary c = sym (ap (negative_of c.args.at) c.in-Unary.is ∙ unary_signed c.args.at _ _ _)

pub returns-in-Update : goal.returns-in-Update
returns-in-Update c = sym (ap (negative_of c.args.at) c.in-Update.is ∙ update_signed c.args.at _ _ _ _)

pub returns-in-Binary : goal.returns-in-Binary
returns-in-Binary c = sym (ap (negative_of c.args.at) c.in-Binary.is ∙ binary_signed c.args.at _ _ _ _)

pub returns-in-As : goal.returns-in-As
returns-in-As c = sym (ap (negative_of c.args.at) c.in-As.is ∙ as_signed c.args.at _ _ _)

pub returns-in-Conditional : goal.returns-in-Conditional
returns-in-Conditional c = sym (ap (negative_of c.args.at) c.in-Conditional.is ∙ conditional_signed c.args.at _ _ _ _)

pub returns-in-Assign : goal.returns-in-Assign
returns-in-Assign c = sym (ap (negative_of c.args.at) c.in-Assign.is ∙ assign_signed c.args.at _ _ _ _)

pub returns-in-Arrow : goal.returns-in-Arrow
returns-in-Arrow c = sym (ap (negative_of c.args.at) c.in-Arrow.is ∙ arrow_signed c.args.at _ _ _ _)

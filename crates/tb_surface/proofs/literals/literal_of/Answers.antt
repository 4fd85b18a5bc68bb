use Rattle.std.proofs.Common.{sym, ap, ◌∙◌}
use Rattle.tb_layout.specs.Surface.{literal_of}
use Rattle.tb_surface.specs.Literals.{signed_at}
use Rattle.tb_surface.proofs.Told.{name_told, this_told, null_told, undefined_told, boolean_told, template_told, parens_told, array_told, object_told, new_told, member_told, index_told, call_told, unary_told, update_told, binary_told, as_told, conditional_told, assign_told, arrow_told}
use Rattle.tb_surface.proofs.literals.literal_of.Goals as goal

pub returns-in-Name : goal.returns-in-Name
returns-in-Name c = sym (ap literal_of c.in-Name.is ∙ name_told _ _)

pub returns-in-This : goal.returns-in-This
returns-in-This c = sym (ap literal_of c.in-This.is ∙ this_told _)

pub returns-in-Null : goal.returns-in-Null
returns-in-Null c = sym (ap literal_of c.in-Null.is ∙ null_told _)

pub returns-in-Undefined : goal.returns-in-Undefined
returns-in-Undefined c = sym (ap literal_of c.in-Undefined.is ∙ undefined_told _)

pub returns-in-Boolean : goal.returns-in-Boolean
returns-in-Boolean c = sym (ap literal_of c.in-Boolean.is ∙ boolean_told _ _)

pub returns-in-Template : goal.returns-in-Template
returns-in-Template c = sym (ap literal_of c.in-Template.is ∙ template_told _ _ _)

pub returns-in-Parens : goal.returns-in-Parens
returns-in-Parens c = sym (ap literal_of c.in-Parens.is ∙ parens_told _ _)

pub returns-in-Array : goal.returns-in-Array
returns-in-Array c = sym (ap literal_of c.in-Array.is ∙ array_told _ _)

pub returns-in-Object : goal.returns-in-Object
returns-in-Object c = sym (ap literal_of c.in-Object.is ∙ object_told _ _)

pub returns-in-New : goal.returns-in-New
returns-in-New c = sym (ap literal_of c.in-New.is ∙ new_told _ _ _)

pub returns-in-Member : goal.returns-in-Member
returns-in-Member c = sym (ap literal_of c.in-Member.is ∙ member_told _ _ _)

pub returns-in-Index : goal.returns-in-Index
returns-in-Index c = sym (ap literal_of c.in-Index.is ∙ index_told _ _ _)

pub returns-in-Call : goal.returns-in-Call
returns-in-Call c = sym (ap literal_of c.in-Call.is ∙ call_told _ _ _ _)

pub returns-in-Unary : goal.returns-in-Unary
returns-in-Unary c = c.signed.ensures ∙ ap (signed_at _ _) c.get.ensures ∙ sym (ap literal_of c.in-Unary.is ∙ unary_told _ _ _)

pub returns-in-Update : goal.returns-in-Update
returns-in-Update c = sym (ap literal_of c.in-Update.is ∙ update_told _ _ _ _)

pub returns-in-Binary : goal.returns-in-Binary
returns-in-Binary c = sym (ap literal_of c.in-Binary.is ∙ binary_told _ _ _ _)

pub returns-in-As : goal.returns-in-As
returns-in-As c = sym (ap literal_of c.in-As.is ∙ as_told _ _ _)

pub returns-in-Conditional : goal.returns-in-Conditional
returns-in-Conditional c = sym (ap literal_of c.in-Conditional.is ∙ conditional_told _ _ _ _)

pub returns-in-Assign : goal.returns-in-Assign
returns-in-Assign c = sym (ap literal_of c.in-Assign.is ∙ assign_told _ _ _ _)

pub returns-in-Arrow : goal.returns-in-Arrow
returns-in-Arrow c = sym (ap literal_of c.in-Arrow.is ∙ arrow_told _ _ _ _)

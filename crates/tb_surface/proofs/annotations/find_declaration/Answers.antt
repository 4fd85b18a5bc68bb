use Rattle.std.proofs.Common.{sym, ap, ◌∙◌, flat_map}
use Rattle.tb_layout.specs.Annotations.{member_findings, declaration_findings}
use Rattle.tb_surface.proofs.Joins.{one, nothing}
use Rattle.tb_surface.proofs.annotations.find_declaration.Goals as goal

pub returns-in-Var : goal.returns-in-Var
returns-in-Var c =
    λ names has. one c.find_variables.result c.args.found.now c.find_variables.new.found _ _ (c.find_variables.ensures names has) (sym (ap (declaration_findings names c.args.exported) c.in-Var.is))

pub returns-in-Function : goal.returns-in-Function
returns-in-Function c =
    λ names has. one c.find_function.result c.args.found.now c.find_function.new.found _ _ c.find_function.ensures (sym (ap (declaration_findings names c.args.exported) c.in-Function.is))

pub returns-in-Class : goal.returns-in-Class
returns-in-Class c =
    λ names has. one c.find_members.result c.args.found.now c.find_members.new.found _ _ c.find_members.ensures (ap (flat_map member_findings) c.as_slice.ensures ∙ sym (ap (declaration_findings names c.args.exported) c.in-Class.is))

pub returns-in-Interface : goal.returns-in-Interface
returns-in-Interface c =
    λ names has. nothing c.args.found.now _ (ap (declaration_findings names c.args.exported) c.in-Interface.is)

pub returns-in-Alias : goal.returns-in-Alias
returns-in-Alias c =
    λ names has. nothing c.args.found.now _ (ap (declaration_findings names c.args.exported) c.in-Alias.is)

use Rattle.std.proofs.Common.{refl, ap, ◌∙◌, append-nil, flat_map}
use Rattle.tb_layout.specs.Parts.{parts_of}
use Rattle.tb_layout.specs.Surface.{surface_part}
use Rattle.tb_surface.proofs.Joins.{single}
use Rattle.tb_surface.proofs.surfaces.keep_declaration.Goals as goal

pub returns-in_ok-keep_variables-in-Var : goal.returns-in_ok-keep_variables-in-Var
returns-in_ok-keep_variables-in-Var c =
    λ names knows. single c.args.items.now c.keep_variables.new.items _ _ _ (c.in_ok-keep_variables-in-Var.ensures names knows) refl (ap (λ d. flat_map (surface_part names c.args.exported) (parts_of d)) c.in-Var.is)

pub returns-in_ok-keep_function-in-Function : goal.returns-in_ok-keep_function-in-Function
returns-in_ok-keep_function-in-Function c =
    λ names knows. single c.args.items.now c.keep_function.new.items _ _ _ (c.in_ok-keep_function-in-Function.ensures names knows) refl (ap (λ d. flat_map (surface_part names c.args.exported) (parts_of d)) c.in-Function.is ∙ append-nil _)

pub returns-in_ok-keep_class-in-Class : goal.returns-in_ok-keep_class-in-Class
returns-in_ok-keep_class-in-Class c =
    λ names knows. single c.args.items.now c.keep_class.new.items _ _ _ (c.in_ok-keep_class-in-Class.ensures names knows) refl (ap (λ d. flat_map (surface_part names c.args.exported) (parts_of d)) c.in-Class.is ∙ append-nil _)

pub returns-in_ok-keep_interface-in-Interface : goal.returns-in_ok-keep_interface-in-Interface
returns-in_ok-keep_interface-in-Interface c =
    λ names knows. single c.args.items.now c.keep_interface.new.items _ _ _ (c.in_ok-keep_interface-in-Interface.ensures names knows) refl (ap (λ d. flat_map (surface_part names c.args.exported) (parts_of d)) c.in-Interface.is ∙ append-nil _)

pub returns-in_ok-keep_alias-in-Alias : goal.returns-in_ok-keep_alias-in-Alias
returns-in_ok-keep_alias-in-Alias c =
    λ names knows. single c.args.items.now c.keep_alias.new.items _ _ _ (c.in_ok-keep_alias-in-Alias.ensures names knows) refl (ap (λ d. flat_map (surface_part names c.args.exported) (parts_of d)) c.in-Alias.is ∙ append-nil _)

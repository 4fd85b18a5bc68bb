use Rattle.tb_tree.specs.declared.items.Declaration.{Declaration}
use Rattle.tb_layout.specs.Parts.{parts_of}
use Rattle.tb_surface.specs.Names.{LeadsOn, all_with}
use Rattle.tb_surface.proofs.Joins.{moved}
use Rattle.tb_surface.proofs.known.Leads.add_declaration.Goals as goal

pub returns-in-Var : goal.returns-in-Var
returns-in-Var c =
    moved (λ (d : Declaration). LeadsOn c.args.listed.now c.args.self.now.starts c.args.self.now.further c.add_variables.new.self.starts c.add_variables.new.self.further (all_with c.args.exported (parts_of d))) c.add_variables.result _ _ c.in-Var.is c.add_variables.ensures

pub returns-in-Function : goal.returns-in-Function
returns-in-Function c =
    moved (λ (d : Declaration). LeadsOn c.args.listed.now c.args.self.now.starts c.args.self.now.further c.add_function.new.self.starts c.add_function.new.self.further (all_with c.args.exported (parts_of d))) c.add_function.result _ _ c.in-Function.is c.add_function.ensures

pub returns-in-Class : goal.returns-in-Class
returns-in-Class c =
    moved (λ (d : Declaration). LeadsOn c.args.listed.now c.args.self.now.starts c.args.self.now.further c.add_class.new.self.starts c.add_class.new.self.further (all_with c.args.exported (parts_of d))) c.add_class.result _ _ c.in-Class.is c.add_class.ensures

pub returns-in-Interface : goal.returns-in-Interface
returns-in-Interface c =
    moved (λ (d : Declaration). LeadsOn c.args.listed.now c.args.self.now.starts c.args.self.now.further c.add_interface.new.self.starts c.add_interface.new.self.further (all_with c.args.exported (parts_of d))) c.add_interface.result _ _ c.in-Interface.is c.add_interface.ensures

pub returns-in-Alias : goal.returns-in-Alias
returns-in-Alias c =
    moved (λ (d : Declaration). LeadsOn c.args.listed.now c.args.self.now.starts c.args.self.now.further c.add_alias.new.self.starts c.add_alias.new.self.further (all_with c.args.exported (parts_of d))) c.add_alias.result _ _ c.in-Alias.is c.add_alias.ensures

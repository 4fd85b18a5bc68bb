use Rattle.std.proofs.Common.{sym, subst}
use Rattle.tb_tree.specs.declared.items.Item.{Item}
use Rattle.tb_surface.specs.Names.{LeadsOn, item_parts}
use Rattle.tb_surface.proofs.Joins.{moved}
use Rattle.tb_surface.proofs.Leading.{leads_nothing}
use Rattle.tb_surface.proofs.known.Leads.add_item.Goals as goal

pub returns-in-Import : goal.returns-in-Import
returns-in-Import c =
    subst (λ (i : Item). LeadsOn c.args.listed.now c.args.self.now.starts c.args.self.now.further c.args.self.now.starts c.args.self.now.further (item_parts i)) (sym c.in-Import.is) (leads_nothing c.args.listed.now c.args.self.now.starts c.args.self.now.further)

pub returns-in-ExportList : goal.returns-in-ExportList
returns-in-ExportList c =
    subst (λ (i : Item). LeadsOn c.args.listed.now c.args.self.now.starts c.args.self.now.further c.args.self.now.starts c.args.self.now.further (item_parts i)) (sym c.in-ExportList.is) (leads_nothing c.args.listed.now c.args.self.now.starts c.args.self.now.further)

pub returns-in-Stmt : goal.returns-in-Stmt
returns-in-Stmt c =
    subst (λ (i : Item). LeadsOn c.args.listed.now c.args.self.now.starts c.args.self.now.further c.args.self.now.starts c.args.self.now.further (item_parts i)) (sym c.in-Stmt.is) (leads_nothing c.args.listed.now c.args.self.now.starts c.args.self.now.further)

pub returns-in-Declaration : goal.returns-in-Declaration
returns-in-Declaration c =
    moved (λ (i : Item). LeadsOn c.args.listed.now c.args.self.now.starts c.args.self.now.further c.add_declaration.new.self.starts c.add_declaration.new.self.further (item_parts i)) c.add_declaration.result _ _ c.in-Declaration.is c.add_declaration.ensures

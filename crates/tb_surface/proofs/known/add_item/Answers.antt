use Rattle.std.proofs.Common.{sym, subst}
use Rattle.tb_tree.specs.declared.items.Item.{Item}
use Rattle.tb_layout.specs.Parts.{item_listed}
use Rattle.tb_surface.specs.Names.{Gained}
use Rattle.tb_surface.proofs.Joins.{moved}
use Rattle.tb_surface.proofs.Named.{gained_none}
use Rattle.tb_surface.proofs.known.add_item.Goals as goal

pub returns-in-Import : goal.returns-in-Import
returns-in-Import c =
    subst (λ (i : Item). Gained c.args.listed.now c.args.listed.now (item_listed i)) (sym c.in-Import.is) (gained_none c.args.listed.now)

pub returns-in-Declaration : goal.returns-in-Declaration
returns-in-Declaration c =
    subst (λ (i : Item). Gained c.args.listed.now c.args.listed.now (item_listed i)) (sym c.in-Declaration.is) (gained_none c.args.listed.now)

pub returns-in-Stmt : goal.returns-in-Stmt
returns-in-Stmt c =
    subst (λ (i : Item). Gained c.args.listed.now c.args.listed.now (item_listed i)) (sym c.in-Stmt.is) (gained_none c.args.listed.now)

pub returns-in-ExportList : goal.returns-in-ExportList
returns-in-ExportList c =
    moved (λ (i : Item). Gained c.args.listed.now c.add_list.new.listed (item_listed i)) c.add_list.result _ _ c.in-ExportList.is c.add_list.ensures

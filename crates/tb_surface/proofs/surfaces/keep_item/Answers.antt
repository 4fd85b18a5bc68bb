use Rattle.std.proofs.Common.{sym, ap}
use Rattle.tb_layout.specs.Surface.{surface_item_of}
use Rattle.tb_surface.proofs.Joins.{one, nothing}
use Rattle.tb_surface.proofs.surfaces.keep_item.Goals as goal

pub returns-in-Import : goal.returns-in-Import
returns-in-Import c =
    λ names knows. one c.keep_import.result c.args.items.now c.keep_import.new.items _ _ (c.keep_import.ensures names knows) (sym (ap (surface_item_of names) c.in-Import.is))

pub returns-in-ExportList : goal.returns-in-ExportList
returns-in-ExportList c =
    λ names knows. one c.keep_list.result c.args.items.now c.keep_list.new.items _ _ c.keep_list.ensures (sym (ap (surface_item_of names) c.in-ExportList.is))

pub returns-in-Declaration : goal.returns-in-Declaration
returns-in-Declaration c =
    λ names knows. one c.keep_declaration.result c.args.items.now c.keep_declaration.new.items _ _ (c.keep_declaration.ensures names knows) (sym (ap (surface_item_of names) c.in-Declaration.is))

pub returns-in-Stmt : goal.returns-in-Stmt
returns-in-Stmt c =
    λ names knows. nothing c.args.items.now _ (ap (surface_item_of names) c.in-Stmt.is)

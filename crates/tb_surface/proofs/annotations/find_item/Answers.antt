use Rattle.std.proofs.Common.{sym, ap}
use Rattle.tb_layout.specs.Annotations.{item_findings}
use Rattle.tb_surface.proofs.Joins.{one, nothing}
use Rattle.tb_surface.proofs.annotations.find_item.Goals as goal

pub returns-in-Import : goal.returns-in-Import
returns-in-Import c =
    λ names has. nothing c.args.found.now _ (ap (item_findings names) c.in-Import.is)

pub returns-in-ExportList : goal.returns-in-ExportList
returns-in-ExportList c =
    λ names has. nothing c.args.found.now _ (ap (item_findings names) c.in-ExportList.is)

pub returns-in-Declaration : goal.returns-in-Declaration
returns-in-Declaration c =
    λ names has. one c.find_declaration.result c.args.found.now c.find_declaration.new.found _ _ (c.find_declaration.ensures names has) (sym (ap (item_findings names) c.in-Declaration.is))

pub returns-in-Stmt : goal.returns-in-Stmt
returns-in-Stmt c =
    λ names has. one c.find_stmt.result c.args.found.now c.find_stmt.new.found _ _ c.find_stmt.ensures (sym (ap (item_findings names) c.in-Stmt.is))

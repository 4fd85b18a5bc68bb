use Rattle.tb_tree.specs.Longest.{Never}
use Rattle.tb_tree.specs.Items.{IsExportList}
use Rattle.tb_tree.proofs.Ends.{wider}
use Rattle.tb_parse_file.proofs.Chosen.{list_found, list_lacks}
use Rattle.tb_parse_file.proofs.PartReadings.{lacking, reading}
use Rattle.tb_parse_file.proofs.choice.export_list_item_at.Goals as goal

pub returns-in_default : goal.returns-in_default
returns-in_default c = list_lacks (lacking IsExportList Never c.args.reader c.args.at _ c.in_default.is c.in_ok-list.ensures)

pub returns : goal.returns
returns c =
    let f = reading IsExportList Never c.args.reader c.args.at _ c.in-Some.list c.in-Some.is c.in_ok-list.ensures in
    (f.0, wider (λ s h. tt) (list_found f.1))

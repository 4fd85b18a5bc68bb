use Rattle.tb_tree.specs.Longest.{Never}
use Rattle.tb_tree.specs.Items.{IsImport}
use Rattle.tb_tree.proofs.Ends.{wider}
use Rattle.tb_parse_file.proofs.Chosen.{import_found, import_lacks}
use Rattle.tb_parse_file.proofs.PartReadings.{lacking, reading}
use Rattle.tb_parse_file.proofs.choice.import_item_at.Goals as goal

pub returns-in_default : goal.returns-in_default
returns-in_default c = import_lacks (lacking IsImport Never c.args.reader c.args.at _ c.in_default.is c.in_ok-import.ensures)

pub returns : goal.returns
returns c =
    let f = reading IsImport Never c.args.reader c.args.at _ c.in-Some.import c.in-Some.is c.in_ok-import.ensures in
    (f.0, wider (λ s h. tt) (import_found f.1))

use Rattle.tb_tree.specs.Longest.{Never}
use Rattle.tb_tree.specs.Items.{IsImport, IsExportList}
use Rattle.tb_tree.proofs.Ends.{found_as, wider}
use Rattle.tb_parse_type.specs.Reading.{rest}
use Rattle.tb_parse_file.specs.DeclRules.{DeclaredRule}
use Rattle.tb_parse_file.proofs.DeclChosen.{chosen_import, chosen_list, chosen_declared, none_chosen, exported_found, exported_lacks}
use Rattle.tb_parse_file.proofs.PartReadings.{lacking, reading}
use Rattle.tb_parse_file.proofs.decl_choice.decl_item_at.Goals as goal

pub returns-in-Some : goal.returns-in-Some
returns-in-Some c =
    let f = reading IsImport Never c.args.reader c.args.at _ c.in-Some.import c.in-Some.is c.in_ok-import.ensures in
    (f.0, wider (λ s h. tt) (chosen_import f.1))

pub returns-in-Some-2 : goal.returns-in-Some-2
returns-in-Some-2 c =
    let f = reading IsExportList Never c.args.reader c.args.at _ c.in-Some-2.list c.in-Some-2.is c.in_ok-list.ensures in
    (f.0, wider (λ s h. tt) (found_as c.kept.ensures (chosen_list f.1)))

pub returns-in_default-3 : goal.returns-in_default-3
returns-in_default-3 c =
    let r = c.args.reader in
    let x = c.worded_at-exported in
    let y = c.worded_at-ambient in
    none_chosen
    (lacking IsImport Never r c.args.at _ c.in_default.is c.in_ok-import.ensures)
    (lacking IsExportList Never r c.args.at _ c.in_default-2.is c.in_ok-list.ensures)
    (exported_lacks x.result.0 y.result.0 (rest r x.result.1) x.ensures.worded y.ensures.worded (lacking DeclaredRule Never r y.result.1 _ c.in_default-3.is c.in_ok-declared.ensures))

pub returns : goal.returns
returns c =
    let r = c.args.reader in
    let x = c.worded_at-exported in
    let y = c.worded_at-ambient in
    let f = reading DeclaredRule Never r y.result.1 _ c.in-Some-3.declared c.in-Some-3.is c.in_ok-declared.ensures in (
      f.0,
      wider (λ s h. tt)
          (chosen_declared
          (lacking IsImport Never r c.args.at _ c.in_default.is c.in_ok-import.ensures)
          (lacking IsExportList Never r c.args.at _ c.in_default-2.is c.in_ok-list.ensures)
          (exported_found (rest r x.result.1) x.ensures.worded y.ensures.worded f.1)),
    )

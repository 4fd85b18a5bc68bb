use Rattle.tb_tree.specs.Shapes.{max_depth}
use Rattle.tb_tree.specs.Longest.{Any}
use Rattle.tb_parse_body.proofs.Readings.{lacking, reading}
use Rattle.tb_parse_file.specs.Choice.{ImportItem, ListItem, ExportedItem, DeclaredItem}
use Rattle.tb_parse_file.proofs.Chosen.{chosen_import, chosen_list, chosen_exported, chosen_declared, stmt_chosen}
use Rattle.tb_parse_file.proofs.choice.item_at.Goals as goal

pub returns-in-Some : goal.returns-in-Some
returns-in-Some c =
    let f = reading ImportItem Any c.args.reader c.args.at _ c.in-Some.import c.in-Some.is c.in_ok-import.ensures in
    (f.0, chosen_import max_depth f.1)

pub returns-in-Some-2 : goal.returns-in-Some-2
returns-in-Some-2 c =
    let f = reading ListItem Any c.args.reader c.args.at _ c.in-Some-2.list c.in-Some-2.is c.in_ok-list.ensures in
    (f.0, chosen_list max_depth f.1)

pub returns-in-Some-3 : goal.returns-in-Some-3
returns-in-Some-3 c =
    let r = c.args.reader in
    let l = lacking ListItem Any r c.args.at _ c.in_default-2.is c.in_ok-list.ensures in
    let f = reading (ExportedItem max_depth) Any r c.args.at _ c.in-Some-3.exported c.in-Some-3.is c.in_ok-exported.ensures in
    (f.0, chosen_exported max_depth l f.1)

pub returns-in-Some-4 : goal.returns-in-Some-4
returns-in-Some-4 c =
    let f = reading (DeclaredItem max_depth) Any c.args.reader c.args.at _ c.in-Some-4.declared c.in-Some-4.is c.in_ok-declared.ensures in
    (f.0, chosen_declared max_depth f.1)

pub returns : goal.returns
returns c =
    let r = c.args.reader in
    stmt_chosen max_depth r c.args.at _
    (lacking ImportItem Any r c.args.at _ c.in_default.is c.in_ok-import.ensures)
    (lacking ListItem Any r c.args.at _ c.in_default-2.is c.in_ok-list.ensures)
    (lacking (ExportedItem max_depth) Any r c.args.at _ c.in_default-3.is c.in_ok-exported.ensures)
    (lacking (DeclaredItem max_depth) Any r c.args.at _ c.in_default-4.is c.in_ok-declared.ensures)
    c.in_ok-stmt.ensures

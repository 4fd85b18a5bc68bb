use Rattle.tb_tree.specs.Shapes.{max_depth}
use Rattle.tb_tree.specs.Longest.{Never}
use Rattle.tb_parse_body.proofs.Readings as front
use Rattle.tb_parse_file.specs.Rules.{InterfaceUpto, AliasUpto}
use Rattle.tb_parse_file.specs.DeclRules.{VariableRule, FunctionRule, ClassRule}
use Rattle.tb_parse_file.proofs.DeclKinds.{found_variable, found_function, found_class, found_interface, found_alias, declared_lacks}
use Rattle.tb_parse_file.proofs.PartReadings.{lacking, reading}
use Rattle.tb_parse_file.proofs.decl_choice.declared_at.Goals as goal

pub returns-in-Some : goal.returns-in-Some
returns-in-Some c =
    let f = reading VariableRule Never c.args.reader c.args.at _ c.in-Some.variable c.in-Some.is c.in_ok-variable.ensures in
    (f.0, found_variable f.1)

pub returns-in-Some-2 : goal.returns-in-Some-2
returns-in-Some-2 c =
    let f = reading FunctionRule Never c.args.reader c.args.at _ c.in-Some-2.function c.in-Some-2.is c.in_ok-function.ensures in
    (f.0, found_function f.1)

pub returns-in-Some-3 : goal.returns-in-Some-3
returns-in-Some-3 c =
    let f = reading ClassRule Never c.args.reader c.args.at _ c.in-Some-3.class c.in-Some-3.is c.in_ok-class.ensures in
    (f.0, found_class f.1)

pub returns-in-Some-4 : goal.returns-in-Some-4
returns-in-Some-4 c =
    let f = front.reading (InterfaceUpto max_depth) Never c.args.reader c.args.at _ c.in-Some-4.interface c.in-Some-4.is c.in_ok-interface.ensures in
    (f.0, found_interface f.1)

pub returns-in_default-5 : goal.returns-in_default-5
returns-in_default-5 c =
    let r = c.args.reader in
    declared_lacks
    (lacking VariableRule Never r c.args.at _ c.in_default.is c.in_ok-variable.ensures)
    (lacking FunctionRule Never r c.args.at _ c.in_default-2.is c.in_ok-function.ensures)
    (lacking ClassRule Never r c.args.at _ c.in_default-3.is c.in_ok-class.ensures)
    (front.lacking (InterfaceUpto max_depth) Never r c.args.at _ c.in_default-4.is c.in_ok-interface.ensures)
    (front.lacking (AliasUpto max_depth) Never r c.args.at _ c.in_default-5.is c.in_ok-alias.ensures)

pub returns : goal.returns
returns c =
    let f = front.reading (AliasUpto max_depth) Never c.args.reader c.args.at _ c.in-Some-5.alias c.in-Some-5.is c.in_ok-alias.ensures in
    (f.0, found_alias f.1)

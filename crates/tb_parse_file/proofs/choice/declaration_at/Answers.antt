use Rattle.tb_tree.specs.Longest.{Never}
use Rattle.tb_parse_body.specs.Rules.{VarUpto, FunctionUpto, InBody}
use Rattle.tb_parse_body.proofs.Readings.{lacking, reading}
use Rattle.tb_parse_file.specs.Rules.{ClassUpto, InterfaceUpto, AliasUpto}
use Rattle.tb_parse_file.proofs.Declared.{declared_var, declared_function, declared_class, declared_interface, declared_alias, declaration_lacks}
use Rattle.tb_parse_file.proofs.choice.declaration_at.Goals as goal

pub returns-in-Some : goal.returns-in-Some
returns-in-Some c =
    let f = reading (VarUpto c.args.limit) Never c.args.reader c.args.at _ c.in-Some.var c.in-Some.is c.in_ok-var.ensures in
    (f.0, declared_var c.args.limit f.1)

pub returns-in-Some-2 : goal.returns-in-Some-2
returns-in-Some-2 c =
    let f = reading (FunctionUpto c.args.limit) InBody c.args.reader c.args.at _ c.in-Some-2.function c.in-Some-2.is c.in_ok-function.ensures in
    (f.0, declared_function c.args.limit f.1)

pub returns-in-Some-3 : goal.returns-in-Some-3
returns-in-Some-3 c =
    let f = reading (ClassUpto c.args.limit) Never c.args.reader c.args.at _ c.in-Some-3.class c.in-Some-3.is c.in_ok-class.ensures in
    (f.0, declared_class c.args.limit f.1)

pub returns-in-Some-4 : goal.returns-in-Some-4
returns-in-Some-4 c =
    let f = reading (InterfaceUpto c.args.limit) Never c.args.reader c.args.at _ c.in-Some-4.interface c.in-Some-4.is c.in_ok-interface.ensures in
    (f.0, declared_interface c.args.limit f.1)

pub returns-in_default-5 : goal.returns-in_default-5
returns-in_default-5 c =
    let r = c.args.reader in
    declaration_lacks c.args.limit
    (lacking (VarUpto c.args.limit) Never r c.args.at _ c.in_default.is c.in_ok-var.ensures)
    (lacking (FunctionUpto c.args.limit) InBody r c.args.at _ c.in_default-2.is c.in_ok-function.ensures)
    (lacking (ClassUpto c.args.limit) Never r c.args.at _ c.in_default-3.is c.in_ok-class.ensures)
    (lacking (InterfaceUpto c.args.limit) Never r c.args.at _ c.in_default-4.is c.in_ok-interface.ensures)
    (lacking (AliasUpto c.args.limit) Never r c.args.at _ c.in_default-5.is c.in_ok-alias.ensures)

pub returns : goal.returns
returns c =
    let f = reading (AliasUpto c.args.limit) Never c.args.reader c.args.at _ c.in-Some-5.alias c.in-Some-5.is c.in_ok-alias.ensures in
    (f.0, declared_alias c.args.limit f.1)

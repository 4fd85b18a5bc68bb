use Rattle.tb_tree.specs.Longest.{Never}
use Rattle.tb_parse_file.specs.DeclRules.{ParamsRule, ShapeRule}
use Rattle.tb_parse_file.proofs.DeclShapes.{signature_found, signature_lacks_params, signature_lacks_shape}
use Rattle.tb_parse_file.proofs.PartReadings.{lacking, reading}
use Rattle.tb_parse_file.proofs.signatures.signature_at.Goals as goal

pub returns-in_default : goal.returns-in_default
returns-in_default c = signature_lacks_params (lacking ParamsRule Never c.args.reader c.args.at _ c.in_default.is c.in_ok-params.ensures)

pub returns-in_default-2 : goal.returns-in_default-2
returns-in_default-2 c =
    let f = reading ParamsRule Never c.args.reader c.args.at _ c.in-Some.params c.in-Some.is c.in_ok-params.ensures in
    signature_lacks_shape f.1 (lacking ShapeRule Never c.args.reader c.in-Some.params.next _ c.in_default-2.is c.in_ok-shape.ensures)

pub returns : goal.returns
returns c =
    let f = reading ParamsRule Never c.args.reader c.args.at _ c.in-Some.params c.in-Some.is c.in_ok-params.ensures in
    let k = reading ShapeRule Never c.args.reader c.in-Some.params.next _ c.in-Some-2.shape c.in-Some-2.is c.in_ok-shape.ensures in
    (k.0, signature_found f.1 k.1)

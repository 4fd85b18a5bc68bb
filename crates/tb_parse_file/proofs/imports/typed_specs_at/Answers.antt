use Rattle.tb_tree.specs.Longest.{Never}
use Rattle.tb_parse_file.specs.Lists.{SpecsRule}
use Rattle.tb_parse_file.proofs.ListReadings.{typed_found, typed_lacks}
use Rattle.tb_parse_file.proofs.PartReadings.{lacking, reading}
use Rattle.tb_parse_file.proofs.imports.typed_specs_at.Goals as goal

pub returns-in_default : goal.returns-in_default
returns-in_default c =
    let t = c.type_at-type_only in
    typed_lacks c.args.imported t.ensures.1 (lacking (SpecsRule c.args.imported t.result.0) Never c.args.reader.now t.result.1 _ c.in_default.is c.in_ok-specs.ensures)

pub returns : goal.returns
returns c =
    let t = c.type_at-type_only in
    let f = reading (SpecsRule c.args.imported t.result.0) Never c.args.reader.now t.result.1 _ c.in-Some.specs c.in-Some.is c.in_ok-specs.ensures in
    (f.0, typed_found c.args.imported t.ensures.1 f.1)

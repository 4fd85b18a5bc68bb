use Rattle.tb_parse_file.specs.Lists.{ModifiedRule}
use Rattle.tb_parse_file.specs.Rules.{InSpec}
use Rattle.tb_parse_file.proofs.PartReadings.{lacking, reading}
use Rattle.tb_parse_file.proofs.SpecReadings.{spec_from_modified, spec_reads}
use Rattle.tb_parse_file.proofs.imports.spec_at.Goals as goal

pub returns-in-Some : goal.returns-in-Some
returns-in-Some c =
    let f = reading (ModifiedRule c.args.imported) InSpec c.args.reader.now c.args.at _ c.in-Some.spec c.in-Some.is c.in_ok-spec.ensures in
    (f.0, spec_from_modified c.args.imported c.args.type_only c.if-type_only.false f.1)

pub returns : goal.returns
returns c =
    let n = lacking (ModifiedRule c.args.imported) InSpec c.args.reader.now c.args.at _ c.in_default.is c.in_ok-spec.ensures in
    spec_reads c.args.imported c.args.type_only c.args.reader.now c.args.at _ c.if-type_only.false n c.in_ok-plain.ensures

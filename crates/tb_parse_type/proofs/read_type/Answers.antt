use Rattle.tb_parse_type.specs.declared.reader.Reader.{Reader}
use Rattle.tb_tree.specs.Shapes.{max_depth}
use Rattle.tb_parse_type.specs.Rules.{limits, TypeUpto, InType}
use Rattle.tb_parse_type.proofs.Answering.{is_reading, has_no_reading}
use Rattle.tb_parse_type.proofs.Readings.{lacking, reading}
use Rattle.tb_parse_type.proofs.read_type.Goals as goal

pub returns-in-Ok-Some-clause-found : goal.returns-in-Ok-Some-clause-found
returns-in-Ok-Some-clause-found c =
    let r : Reader = record { alloc = c.args.alloc; tokens = c.args.tokens; text = c.args.text } in
    let f = reading (TypeUpto (limits max_depth max_depth)) InType r c.args.at _ c.in-Ok-Some.read c.in-Ok-Some.field-0-is c.in-Ok-Some.ensures in
    is_reading c.args.tokens.now c.args.text.now c.args.at c.in-Ok-Some.read.next c.requires f.0 f.1

pub returns-in-Ok-None-clause-none : goal.returns-in-Ok-None-clause-none
returns-in-Ok-None-clause-none c _ =
    let r : Reader = record { alloc = c.args.alloc; tokens = c.args.tokens; text = c.args.text } in
    let n = lacking (TypeUpto (limits max_depth max_depth)) InType r c.args.at _ c.in-Ok-None.field-0-is c.in-Ok-None.ensures in
    has_no_reading c.args.tokens.now c.args.text.now c.args.at n

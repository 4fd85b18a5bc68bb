use Rattle.std.proofs.Common.{true, ◌+◌}
use Rattle.tb_tree.proofs.Ends.{found_from, found_as, lacks_from}
use Rattle.tb_parse_file.specs.Lists.{SpecRule}
use Rattle.tb_parse_file.specs.Rules.{InSpec}
use Rattle.tb_parse_file.proofs.PartReadings.{lacking, reading, two_at}
use Rattle.tb_parse_file.proofs.SpecReadings.{modified_found, modified_lacks, modified_lacks_type, modified_lacks_as, same_modified}
use Rattle.tb_parse_file.proofs.imports.modified_spec_at.Goals as goal

pub returns-then-not-is_word : goal.returns-then-not-is_word
returns-then-not-is_word c = modified_lacks_type c.args.imported _ c.if-not-is_word.ensures

pub returns-then-is_word : goal.returns-then-is_word
returns-then-is_word c = lacks_from (two_at c.args.reader.now c.args.at c.if-not-is_word.ensures.2 c.if-is_word.ensures.2) (modified_lacks_as c.args.imported _ _ _ _ _)

pub returns-in_default : goal.returns-in_default
returns-in_default c =
    let n = lacking (SpecRule c.args.imported true) InSpec c.args.reader.now (c.args.at + 1) _ c.in_default.is c.in_ok-plain.ensures in
    lacks_from c.if-not-is_word.ensures.2 (modified_lacks c.args.imported _ _ n)

pub returns : goal.returns
returns c =
    let f = reading (SpecRule c.args.imported true) InSpec c.args.reader.now (c.args.at + 1) _ c.in-Some.plain c.in-Some.is c.in_ok-plain.ensures in
    (f.0, found_from c.if-not-is_word.ensures.2 (found_as (same_modified c.in-Some.plain.tree c.start_at.ensures) (modified_found c.args.imported _ _ c.if-is_word.ensures f.1)))

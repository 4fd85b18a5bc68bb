use Rattle.std.proofs.Common.{arith, sym, ◌∙◌, true, ◌+◌}
use Rattle.std.specs.Prelude.{Some, None}
use Rattle.tb_tree.specs.Longest.{Never}
use Rattle.tb_tree.proofs.Ends.{found_from, found_as, lacks_from}
use Rattle.tb_parse_file.specs.Lists.{RenamedRule}
use Rattle.tb_parse_file.proofs.PartReadings.{lacking, reading}
use Rattle.tb_parse_file.proofs.SpecReadings.{plain_alone, plain_renamed, plain_lacks, spec_lacks_word, same_spec}
use Rattle.tb_parse_file.proofs.imports.plain_spec_at.Goals as goal

pub returns-in_default : goal.returns-in_default
returns-in_default c = spec_lacks_word c.args.imported true _ c.in_default.ensures

pub returns-in-Some-2 : goal.returns-in-Some-2
returns-in-Some-2 c =
    let s = c.in-Some.ensures in
    let f = reading (RenamedRule c.args.imported) Never c.args.reader.now (c.args.at + 1) _ c.in-Some-2.last c.in-Some-2.is c.in_ok-last.ensures in
    (f.0, found_from s.2 (found_as (same_spec c.in-Some.word (Some c.in-Some-2.last.tree) c.start_at-start.ensures c.in_ok-name.ensures c.is_name-named.ensures) (plain_renamed c.args.imported _ _ f.1)))

pub returns-then-not-may_end : goal.returns-then-not-may_end
returns-then-not-may_end c =
    let s = c.in-Some.ensures in
    let n = lacking (RenamedRule c.args.imported) Never c.args.reader.now (c.args.at + 1) _ c.in_default-2.is c.in_ok-last.ensures in
    lacks_from s.2 (plain_lacks c.args.imported _ _ (sym c.may_end.ensures ∙ c.if-not-may_end.true) n)

pub returns : goal.returns
returns c =
    let s = c.in-Some.ensures in
    let n = lacking (RenamedRule c.args.imported) Never c.args.reader.now (c.args.at + 1) _ c.in_default-2.is c.in_ok-last.ensures in
    (omega (arith, s.0), found_from s.2 (found_as (same_spec c.in-Some.word None c.start_at-start.ensures c.in_ok-name.ensures c.is_name-named.ensures) (plain_alone c.args.imported _ _ (sym c.may_end.ensures ∙ c.if-not-may_end.false) n)))

use Rattle.std.proofs.Common.{◌+◌, arith}
use Rattle.tb_tree.specs.Longest.{Never}
use Rattle.tb_tree.proofs.Ends.{found_as, found_from, found_left, lacks_from}
use Rattle.tb_parse_file.specs.DeclRules.{ParamsRule}
use Rattle.tb_parse_file.proofs.DeclMembers.{constructor_found, constructor_lacks_word, constructor_lacks_params, constructor_lacks_end, same_constructor}
use Rattle.tb_parse_file.proofs.PartReadings.{lacking, reading}
use Rattle.tb_parse_file.proofs.decl_members.constructor_at.Goals as goal

pub returns-then-not-is_word : goal.returns-then-not-is_word
returns-then-not-is_word c = constructor_lacks_word _ c.if-not-is_word.ensures

pub returns-in_default : goal.returns-in_default
returns-in_default c =
    lacks_from c.if-not-is_word.ensures.2 (constructor_lacks_params _ _ (lacking ParamsRule Never c.args.reader (c.args.at + 1) _ c.in_default.is c.in_ok-params.ensures))

pub returns-then-not-is_mark : goal.returns-then-not-is_mark
returns-then-not-is_mark c =
    let f = reading ParamsRule Never c.args.reader (c.args.at + 1) _ c.in-Some.params c.in-Some.is c.in_ok-params.ensures in
    lacks_from c.if-not-is_word.ensures.2 (constructor_lacks_end _ _ f.1 c.if-not-is_mark.ensures)

pub returns : goal.returns
returns c =
    let end = c.if-not-is_mark.ensures in
    let f = reading ParamsRule Never c.args.reader (c.args.at + 1) _ c.in-Some.params c.in-Some.is c.in_ok-params.ensures in (
      omega (arith, end.0),
      found_as (same_constructor c.in-Some.params.tree c.start_at.ensures) (found_from c.if-not-is_word.ensures.2 (constructor_found _ _ _ (found_left end.2 f.1))),
    )

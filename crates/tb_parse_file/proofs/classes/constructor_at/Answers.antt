use Rattle.std.proofs.Common.{◌+◌}
use Rattle.tb_tree.specs.Longest.{Never}
use Rattle.tb_tree.specs.Exprs.{a_body}
use Rattle.tb_tree.proofs.Ends.{found_as}
use Rattle.tb_parse_body.specs.Rules.{SignatureUpto, BlockUpto}
use Rattle.tb_parse_body.proofs.Readings.{lacking, reading}
use Rattle.tb_parse_file.proofs.MemberParts.{constructor_found, constructor_lacks_word, constructor_lacks_params, constructor_lacks_body, same_constructor}
use Rattle.tb_parse_file.proofs.classes.constructor_at.Goals as goal

pub returns-then-not-is_word : goal.returns-then-not-is_word
returns-then-not-is_word c = constructor_lacks_word c.args.limit _ c.if-not-is_word.ensures

pub returns-in_default : goal.returns-in_default
returns-in_default c =
    constructor_lacks_params c.args.limit _ _ c.if-not-is_word.ensures.2 (lacking (SignatureUpto c.args.limit) Never c.args.reader (c.args.at + 1) _ c.in_default.is c.in_ok-params.ensures)

pub block_at-requires : goal.block_at-requires
block_at-requires c = (reading (SignatureUpto c.args.limit) Never c.args.reader (c.args.at + 1) _ c.in-Some.params c.in-Some.is c.in_ok-params.ensures).0

pub returns-in_default-2 : goal.returns-in_default-2
returns-in_default-2 c =
    let f = reading (SignatureUpto c.args.limit) Never c.args.reader (c.args.at + 1) _ c.in-Some.params c.in-Some.is c.in_ok-params.ensures in
    constructor_lacks_body c.args.limit _ _ c.if-not-is_word.ensures.2 f.1 (lacking (BlockUpto a_body c.args.limit) Never c.args.reader c.in-Some.params.next _ c.in_default-2.is c.in_ok-body.ensures)

pub returns : goal.returns
returns c =
    let f = reading (SignatureUpto c.args.limit) Never c.args.reader (c.args.at + 1) _ c.in-Some.params c.in-Some.is c.in_ok-params.ensures in
    let b = reading (BlockUpto a_body c.args.limit) Never c.args.reader c.in-Some.params.next _ c.in-Some-2.body c.in-Some-2.is c.in_ok-body.ensures in
    (b.0, found_as (same_constructor c.in-Some.params.tree c.in-Some-2.body.tree c.start_at.ensures c.larger.ensures) (constructor_found c.args.limit _ _ c.if-not-is_word.ensures.2 f.1 b.1))

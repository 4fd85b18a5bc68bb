use Rattle.std.proofs.Common.{arith, ◌+◌, ◌-◌}
use Rattle.tb_tree.proofs.Ends.{lacks_from, found_from, found_left}
use Rattle.tb_parse_body.proofs.ArrowStarts.{arrow_lacks_params}
use Rattle.tb_parse_body.proofs.Parameters.{signature_found, signature_lacks}
use Rattle.tb_parse_body.proofs.nests.Grammar.several_at.Goals as goal

pub returns-then-not-is_mark : goal.returns-then-not-is_mark
returns-then-not-is_mark g c =
    let stands = c.requires.stands in
    let ps = c.in_ok-params.ensures in
    arrow_lacks_params c.args.typed c.args.limit _ stands.2 (lacks_from stands.2 (signature_lacks (c.args.limit - 1) _ ps.1 c.if-not-is_mark.ensures))

pub arrow_from-requires-clause-params : goal.arrow_from-requires-clause-params
arrow_from-requires-clause-params g c =
    let stands = c.requires.stands in
    let ps = c.in_ok-params.ensures in
    let mark = c.if-not-is_mark.ensures in
    (omega (arith, mark.0), found_from stands.2 (signature_found (c.args.limit - 1) _ _ _ (found_left mark.2 ps.1)))

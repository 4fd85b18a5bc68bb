use Rattle.std.proofs.Common.{◌+◌, arith}
use Rattle.tb_tree.proofs.Ends.{found_from, found_left, lacks_from}
use Rattle.tb_parse_type.specs.Reading.{rest}
use Rattle.tb_parse_body.proofs.Linking.{call_found, call_lacks_close}
use Rattle.tb_parse_body.proofs.nests.Grammar.call_at.Goals as goal

pub returns-then-not-is_mark-2 : goal.returns-then-not-is_mark-2
returns-then-not-is_mark-2 g c =
    let opens = c.if-not-is_mark.ensures in
    let f = c.in_ok-arguments.ensures in
    lacks_from opens.2 (call_lacks_close c.args.limit _ f.1 c.if-not-is_mark-2.ensures)

pub returns : goal.returns
returns g c =
    let opens = c.if-not-is_mark.ensures in
    let close = c.if-not-is_mark-2.ensures in
    let f = c.in_ok-arguments.ensures in
    (omega (arith, close.0), found_from opens.2 (call_found c.args.limit _ _ _ (found_left close.2 f.1)))

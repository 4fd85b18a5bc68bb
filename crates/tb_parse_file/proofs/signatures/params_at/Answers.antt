use Rattle.std.proofs.Common.{arith}
use Rattle.tb_tree.proofs.Ends.{found_from, found_left, lacks_from}
use Rattle.tb_parse_file.proofs.DeclShapes.{params_found, params_lacks_end, params_lacks_open}
use Rattle.tb_parse_file.proofs.signatures.params_at.Goals as goal

pub returns-then-not-is_mark : goal.returns-then-not-is_mark
returns-then-not-is_mark c = params_lacks_open _ c.if-not-is_mark.ensures

pub returns-then-not-is_mark-2 : goal.returns-then-not-is_mark-2
returns-then-not-is_mark-2 c = lacks_from c.if-not-is_mark.ensures.2 (params_lacks_end _ c.in_ok-params.ensures.1 c.if-not-is_mark-2.ensures)

pub returns : goal.returns
returns c =
    let end = c.if-not-is_mark-2.ensures in
    (omega (arith, end.0), found_from c.if-not-is_mark.ensures.2 (params_found _ _ (found_left end.2 c.in_ok-params.ensures.1)))

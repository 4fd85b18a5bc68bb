use Rattle.std.proofs.Common.{arith, ◌+◌}
use Rattle.tb_tree.proofs.Ends.{found_from, found_left, lacks_from}
use Rattle.tb_parse_body.proofs.Parameters.{signature_found, signature_lacks, signature_lacks_open}
use Rattle.tb_parse_body.proofs.nests.Grammar.signature_at.Goals as goal

pub returns-then-not-is_mark : goal.returns-then-not-is_mark
returns-then-not-is_mark g c = signature_lacks_open c.args.limit _ c.if-not-is_mark.ensures

pub returns-then-not-is_mark-2 : goal.returns-then-not-is_mark-2
returns-then-not-is_mark-2 g c = lacks_from c.if-not-is_mark.ensures.2 (signature_lacks c.args.limit _ c.in_ok-params.ensures.1 c.if-not-is_mark-2.ensures)

pub returns : goal.returns
returns g c = (
  omega (arith, c.if-not-is_mark-2.ensures.0),
  found_from c.if-not-is_mark.ensures.2 (signature_found c.args.limit _ _ _ (found_left c.if-not-is_mark-2.ensures.2 c.in_ok-params.ensures.1)),
)

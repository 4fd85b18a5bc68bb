use Rattle.std.proofs.Common.{arith}
use Rattle.tb_tree.proofs.Ends.{found_from, found_left, lacks_from}
use Rattle.tb_parse_file.proofs.DeclRows.{braced_found, braced_lacks_open, braced_lacks_close}
use Rattle.tb_parse_file.proofs.decl_members.members_in_braces_at.Goals as goal

pub returns-then-not-is_mark : goal.returns-then-not-is_mark
returns-then-not-is_mark c = braced_lacks_open _ c.if-not-is_mark.ensures

pub returns-then-not-is_mark-2 : goal.returns-then-not-is_mark-2
returns-then-not-is_mark-2 c = lacks_from c.if-not-is_mark.ensures.2 (braced_lacks_close _ c.in_ok-members.ensures.1 c.if-not-is_mark-2.ensures)

pub returns : goal.returns
returns c = (
  omega (arith, c.if-not-is_mark-2.ensures.0),
  found_from c.if-not-is_mark.ensures.2 (braced_found _ _ (found_left c.if-not-is_mark-2.ensures.2 c.in_ok-members.ensures.1)),
)

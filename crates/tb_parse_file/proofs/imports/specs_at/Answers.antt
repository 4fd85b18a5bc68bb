use Rattle.std.proofs.Common.{arith}
use Rattle.tb_tree.proofs.Ends.{found_from, found_left, lacks_from}
use Rattle.tb_parse_file.proofs.ListReadings.{specs_found, specs_lacks_open, specs_lacks_close}
use Rattle.tb_parse_file.proofs.imports.specs_at.Goals as goal

pub returns-then-not-is_mark : goal.returns-then-not-is_mark
returns-then-not-is_mark c = specs_lacks_open c.args.imported c.args.type_only _ c.if-not-is_mark.ensures

pub returns-then-not-is_mark-2 : goal.returns-then-not-is_mark-2
returns-then-not-is_mark-2 c = lacks_from c.if-not-is_mark.ensures.2 (specs_lacks_close c.args.imported c.args.type_only _ c.in_ok-list.ensures.1 c.if-not-is_mark-2.ensures)

pub returns : goal.returns
returns c = (
  omega (arith, c.if-not-is_mark-2.ensures.0),
  found_from c.if-not-is_mark.ensures.2 (specs_found c.args.imported c.args.type_only _ _ (found_left c.if-not-is_mark-2.ensures.2 c.in_ok-list.ensures.1)),
)

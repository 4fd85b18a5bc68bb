use Rattle.std.proofs.Common.{arith}
use Rattle.tb_tree.proofs.Ends.{found_from, found_left, found_as, lacks_from}
use Rattle.tb_parse_file.proofs.Interfaces.{interface_found, interface_lacks_word, interface_lacks_name, interface_lacks_open, interface_lacks_close, same_interface}
use Rattle.tb_parse_file.proofs.PartReadings.{two_at}
use Rattle.tb_parse_file.proofs.declarations.interface_at.Goals as goal

pub returns-then-not-is_word : goal.returns-then-not-is_word
returns-then-not-is_word c = interface_lacks_word c.args.limit _ c.if-not-is_word.ensures

pub returns-then-not-has_type_name : goal.returns-then-not-has_type_name
returns-then-not-has_type_name c = lacks_from c.if-not-is_word.ensures.2 (interface_lacks_name c.args.limit _ _ _ c.if-not-has_type_name.ensures)

pub returns-then-not-is_mark : goal.returns-then-not-is_mark
returns-then-not-is_mark c =
    let s = c.if-not-has_type_name.ensures in
    let stands = s.2 in
    lacks_from (two_at c.args.reader c.args.at c.if-not-is_word.ensures.2 stands.2) (interface_lacks_open c.args.limit s.0 _ _ _ _ c.in_ok-bases.ensures.1 c.if-not-is_mark.ensures)

pub returns-then-not-is_mark-2 : goal.returns-then-not-is_mark-2
returns-then-not-is_mark-2 c =
    let s = c.if-not-has_type_name.ensures in
    let stands = s.2 in
    lacks_from (two_at c.args.reader c.args.at c.if-not-is_word.ensures.2 stands.2)
    (interface_lacks_close c.args.limit s.0 _ _ _ _ _ (found_left c.if-not-is_mark.ensures.2 c.in_ok-bases.ensures.1) c.in_ok-members.ensures.1 c.if-not-is_mark-2.ensures)

pub returns : goal.returns
returns c =
    let s = c.if-not-has_type_name.ensures in
    let stands = s.2 in
    let end = c.if-not-is_mark-2.ensures in
    let same = same_interface c.in_ok-bases.bases.tree c.in_ok-members.members.tree c.start_at.ensures c.in_ok-name.ensures c.new.ensures in (
      omega (arith, end.0),
      found_as same (found_from (two_at c.args.reader c.args.at c.if-not-is_word.ensures.2 stands.2)
          (interface_found c.args.limit s.0 _ _ _ _ _ _ s.1 (found_left c.if-not-is_mark.ensures.2 c.in_ok-bases.ensures.1) (found_left end.2 c.in_ok-members.ensures.1))),
    )

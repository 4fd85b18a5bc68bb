use Rattle.std.proofs.Common.{◌+◌, arith}
use Rattle.tb_tree.specs.Longest.{Never}
use Rattle.tb_tree.proofs.Ends.{found_as}
use Rattle.tb_parse_body.proofs.Readings.{lacking, reading}
use Rattle.tb_parse_file.specs.Classes.{BracedMembersUpto}
use Rattle.tb_parse_file.proofs.WholeClasses.{class_lacks_word, class_lacks_name, class_lacks_members, class_found, same_class, two_stand}
use Rattle.tb_parse_file.proofs.classes.class_at.Goals as goal

pub returns-then-not-is_word : goal.returns-then-not-is_word
returns-then-not-is_word c = class_lacks_word c.args.limit _ c.if-not-is_word.ensures

pub returns-then-not-has_type_name : goal.returns-then-not-has_type_name
returns-then-not-has_type_name c = class_lacks_name c.args.limit _ _ c.if-not-is_word.ensures.2 c.if-not-has_type_name.ensures

pub returns-in_default : goal.returns-in_default
returns-in_default c =
    let r = c.args.reader in
    let s = c.if-not-has_type_name.ensures in
    let b = c.in_ok-bases.bases in
    class_lacks_members c.args.limit _ _ s.0 _ _ (two_stand r c.args.at c.if-not-is_word.ensures.2 s.2.2) c.in_ok-bases.ensures.1 (lacking (BracedMembersUpto c.args.limit) Never r b.next _ c.in_default.is c.in_ok-members.ensures)

pub returns : goal.returns
returns c =
    let r = c.args.reader in
    let s = c.if-not-has_type_name.ensures in
    let b = c.in_ok-bases.bases in
    let f = reading (BracedMembersUpto c.args.limit) Never r b.next _ c.in-Some.members c.in-Some.is c.in_ok-members.ensures in (
      f.0,
      found_as (same_class b.tree (c.in-Some.members.tree, c.in-Some.members.depth) c.start_at.ensures c.in_ok-name.ensures)
          (class_found c.args.limit _ _ s.0 _ _ (two_stand r c.args.at c.if-not-is_word.ensures.2 s.2.2) s.1 c.in_ok-bases.ensures.1 f.1),
    )

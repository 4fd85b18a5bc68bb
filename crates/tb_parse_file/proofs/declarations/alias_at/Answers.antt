use Rattle.std.proofs.Common.{◌+◌, arith, subst}
use Rattle.tb_tree.specs.Shapes.{max_depth}
use Rattle.tb_tree.proofs.Ends.{found_from, found_left, found_as, lacks_from}
use Rattle.tb_parse_type.specs.Rules.{limits, TypeUpto, InType}
use Rattle.tb_parse_type.specs.Reading.{Reads}
use Rattle.tb_parse_file.proofs.Aliases.{alias_found, alias_lacks_word, alias_lacks_name, alias_lacks_assign, alias_lacks_type, alias_lacks_semicolon, same_alias, three_at}
use Rattle.tb_parse_file.proofs.PartReadings.{two_at}
use Rattle.tb_parse_file.proofs.declarations.alias_at.Goals as goal

pub returns-then-not-is_word : goal.returns-then-not-is_word
returns-then-not-is_word c = alias_lacks_word c.args.limit _ c.if-not-is_word.ensures

pub returns-then-not-has_type_name : goal.returns-then-not-has_type_name
returns-then-not-has_type_name c = lacks_from c.if-not-is_word.ensures.2 (alias_lacks_name c.args.limit _ _ _ c.if-not-has_type_name.ensures)

pub returns-then-not-is_mark : goal.returns-then-not-is_mark
returns-then-not-is_mark c =
    let s = c.if-not-has_type_name.ensures in
    let stands = s.2 in
    lacks_from (two_at c.args.reader c.args.at c.if-not-is_word.ensures.2 stands.2) (alias_lacks_assign c.args.limit s.0 _ _ _ _ _ c.if-not-is_mark.ensures)

pub returns-in_default : goal.returns-in_default
returns-in_default c =
    let s = c.if-not-has_type_name.ensures in
    let stands = s.2 in
    let n = subst (λ v. Reads (TypeUpto (limits max_depth c.args.limit)) InType c.args.reader (c.args.at + 3) v) c.in_default.is c.in_ok-shape.ensures in
    lacks_from (three_at c.args.reader c.args.at c.if-not-is_word.ensures.2 stands.2 c.if-not-is_mark.ensures.2) (alias_lacks_type c.args.limit s.0 _ _ _ _ _ n)

pub returns-then-not-is_mark-2 : goal.returns-then-not-is_mark-2
returns-then-not-is_mark-2 c =
    let s = c.if-not-has_type_name.ensures in
    let stands = s.2 in
    let f = subst (λ v. Reads (TypeUpto (limits max_depth c.args.limit)) InType c.args.reader (c.args.at + 3) v) c.in-Some.is c.in_ok-shape.ensures in
    lacks_from (three_at c.args.reader c.args.at c.if-not-is_word.ensures.2 stands.2 c.if-not-is_mark.ensures.2) (alias_lacks_semicolon c.args.limit s.0 _ _ _ _ _ f.1 c.if-not-is_mark-2.ensures)

pub returns : goal.returns
returns c =
    let s = c.if-not-has_type_name.ensures in
    let stands = s.2 in
    let end = c.if-not-is_mark-2.ensures in
    let f = subst (λ v. Reads (TypeUpto (limits max_depth c.args.limit)) InType c.args.reader (c.args.at + 3) v) c.in-Some.is c.in_ok-shape.ensures in (
      omega (arith, end.0),
      found_as (same_alias c.in-Some.shape.tree c.start_at.ensures c.in_ok-name.ensures c.new.ensures)
          (found_from (three_at c.args.reader c.args.at c.if-not-is_word.ensures.2 stands.2 c.if-not-is_mark.ensures.2) (alias_found c.args.limit s.0 _ _ _ _ _ _ s.1 (found_left end.2 f.1))),
    )

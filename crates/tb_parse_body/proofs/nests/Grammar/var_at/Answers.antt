use Rattle.std.proofs.Common.{arith, ◌+◌}
use Rattle.tb_tree.proofs.Ends.{found_from, found_left, lacks_from}
use Rattle.tb_parse_type.specs.Reading.{text_at, start_at}
use Rattle.tb_parse_body.specs.Rules.{DeclaratorsUpto, InDeclarators}
use Rattle.tb_parse_body.proofs.Declarators.{var_found, var_lacks_list, var_lacks_semicolon, var_lacks_kind}
use Rattle.tb_parse_body.proofs.Sequences.{lacking, reading}
use Rattle.tb_parse_body.proofs.nests.Grammar.var_at.Goals as goal

pub returns-in_default : goal.returns-in_default
returns-in_default g c = var_lacks_kind c.args.limit _ c.in_default.ensures

pub returns-in_default-2 : goal.returns-in_default-2
returns-in_default-2 g c =
    let s = c.in-Some.ensures in
    let stands = s.2 in
    lacks_from stands.2 (var_lacks_list c.in-Some.kind c.args.limit s.0 _ _ s.1 (lacking (DeclaratorsUpto c.in-Some.kind c.args.limit) InDeclarators c.args.self.now.reader (c.args.at + 1) _ c.in_default-2.is c.in_ok-declarators.ensures))

pub returns-then-not-is_mark : goal.returns-then-not-is_mark
returns-then-not-is_mark g c =
    let s = c.in-Some.ensures in
    let stands = s.2 in
    let f = reading (DeclaratorsUpto c.in-Some.kind c.args.limit) InDeclarators c.args.self.now.reader (c.args.at + 1) _ c.in-Some-2.declarators c.in-Some-2.is c.in_ok-declarators.ensures in
    lacks_from stands.2 (var_lacks_semicolon c.in-Some.kind c.args.limit s.0 _ _ s.1 f.1 c.if-not-is_mark.ensures)

pub returns : goal.returns
returns g c =
    let s = c.in-Some.ensures in
    let stands = s.2 in
    let mark = c.if-not-is_mark.ensures in
    let f = reading (DeclaratorsUpto c.in-Some.kind c.args.limit) InDeclarators c.args.self.now.reader (c.args.at + 1) _ c.in-Some-2.declarators c.in-Some-2.is c.in_ok-declarators.ensures in
    (omega (arith, mark.0), found_from stands.2 (var_found c.in-Some.kind c.args.limit s.0 _ _ _ _ s.1 (found_left mark.2 f.1)))

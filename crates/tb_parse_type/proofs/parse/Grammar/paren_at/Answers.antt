use Rattle.std.proofs.Common.{arith, ◌+◌}
use Rattle.tb_parse_type.specs.Rules.{in_parens, TypeUpto, InType}
use Rattle.tb_tree.proofs.Ends.{found_from, found_left, lacks_from}
use Rattle.tb_parse_type.proofs.Atoms.{atom_paren, atom_lacks_inside, atom_lacks_close}
use Rattle.tb_parse_type.proofs.Readings.{lacking_in, reading_in}
use Rattle.tb_parse_type.proofs.parse.Grammar.paren_at.Goals as goal

pub returns-in_default : goal.returns-in_default
returns-in_default g c =
    let n = lacking_in TypeUpto InType c.in_parens.result (in_parens c.args.limits) c.args.self.now.reader (c.args.at + 1) _ c.in_parens.ensures c.in_default.is c.in_ok-of.ensures in
    lacks_from c.requires.open.2 (atom_lacks_inside c.args.limits _ n)

pub returns-then-not-is_mark : goal.returns-then-not-is_mark
returns-then-not-is_mark g c =
    let f = reading_in TypeUpto InType c.in_parens.result (in_parens c.args.limits) c.args.self.now.reader (c.args.at + 1) _ c.in-Some.of c.in_parens.ensures c.in-Some.is c.in_ok-of.ensures in
    lacks_from c.requires.open.2 (atom_lacks_close c.args.limits _ f.1 c.if-not-is_mark.ensures)

pub returns : goal.returns
returns g c =
    let f = reading_in TypeUpto InType c.in_parens.result (in_parens c.args.limits) c.args.self.now.reader (c.args.at + 1) _ c.in-Some.of c.in_parens.ensures c.in-Some.is c.in_ok-of.ensures in
    (omega (arith, c.if-not-is_mark.ensures.0), found_from c.requires.open.2 (atom_paren c.args.limits _ _ _ c.requires.own (found_left c.if-not-is_mark.ensures.2 f.1)))

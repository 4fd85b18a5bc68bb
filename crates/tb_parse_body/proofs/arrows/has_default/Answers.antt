use Rattle.std.proofs.Common.{◌≡◌, ◌∷◌, ◌+◌, sym, ◌∙◌}
use Rattle.tb_tree.specs.declared.marks.Mark.TheVariants as m
use Rattle.tb_tree.specs.Sym.{Mark}
use Rattle.tb_tree.specs.Shapes.{word}
use Rattle.tb_parse_type.specs.Reading.{rest}
use Rattle.tb_parse_body.proofs.ArrowParts.{three_at, default_name, default_assign}
use Rattle.tb_parse_body.proofs.arrows.has_default.Goals as goal

pub returns-then-not-is_mark : goal.returns-then-not-is_mark
returns-then-not-is_mark c = λ k w o p q zs i e. c.if-not-is_mark.ensures p (word k w o ∷ Mark m.Assign q ∷ zs) e

pub returns-in_default : goal.returns-in_default
returns-in_default c = λ k w o p q zs i e.
    let stands = c.if-not-is_mark.ensures in
    c.in_default.ensures k w o i (Mark m.Assign q ∷ zs) (default_name stands.2 e)

pub returns-then-not-is_mark-2 : goal.returns-then-not-is_mark-2
returns-then-not-is_mark-2 c = λ k w o p q zs i e.
    let stands = c.if-not-is_mark.ensures in
    let s = c.in-Some.ensures in
    let named = s.1 in
    c.if-not-is_mark-2.ensures q zs (default_assign c.args.reader.now c.args.at stands.2 named.2 e)

pub returns : goal.returns
returns c =
    let stands = c.if-not-is_mark.ensures in
    let s = c.in-Some.ensures in
    let named = s.1 in
    let mark = c.if-not-is_mark-2.ensures in
    (c.in-Some._word, _, _, _, _, _, s.0, three_at c.args.reader.now c.args.at stands.2 named.2 mark.2)

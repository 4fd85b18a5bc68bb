use Rattle.std.proofs.Common.{◌+◌, arith, subst}
use Rattle.tb_tree.specs.Shapes.{max_depth}
use Rattle.tb_tree.proofs.Ends.{found_from, found_left, lacks_from}
use Rattle.tb_parse_type.specs.Rules.{limits, TypeUpto, InType}
use Rattle.tb_parse_type.specs.Reading.{Reads}
use Rattle.tb_parse_file.proofs.DeclShapes.{shape_found, shape_lacks, shape_lacks_end, shape_lacks_colon}
use Rattle.tb_parse_file.proofs.signatures.shape_at.Goals as goal

pub returns-then-not-is_mark : goal.returns-then-not-is_mark
returns-then-not-is_mark c = shape_lacks_colon _ c.if-not-is_mark.ensures

pub returns-in_default : goal.returns-in_default
returns-in_default c =
    let n = subst (λ v. Reads (TypeUpto (limits max_depth max_depth)) InType c.args.reader (c.args.at + 1) v) c.in_default.is c.in_ok-shape.ensures in
    lacks_from c.if-not-is_mark.ensures.2 (shape_lacks _ n)

pub returns-then-not-is_mark-2 : goal.returns-then-not-is_mark-2
returns-then-not-is_mark-2 c =
    let f = subst (λ v. Reads (TypeUpto (limits max_depth max_depth)) InType c.args.reader (c.args.at + 1) v) c.in-Some.is c.in_ok-shape.ensures in
    lacks_from c.if-not-is_mark.ensures.2 (shape_lacks_end _ f.1 c.if-not-is_mark-2.ensures)

pub returns : goal.returns
returns c =
    let end = c.if-not-is_mark-2.ensures in
    let f = subst (λ v. Reads (TypeUpto (limits max_depth max_depth)) InType c.args.reader (c.args.at + 1) v) c.in-Some.is c.in_ok-shape.ensures in
    (omega (arith, end.0), found_from c.if-not-is_mark.ensures.2 (shape_found _ _ (found_left end.2 f.1)))

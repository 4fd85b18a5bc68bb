use Rattle.std.proofs.Common.{◌+◌, subst}
use Rattle.tb_tree.specs.Shapes.{max_depth}
use Rattle.tb_tree.proofs.Ends.{found_from, lacks_from}
use Rattle.tb_parse_type.specs.Rules.{limits, TypeUpto, InType}
use Rattle.tb_parse_type.specs.Reading.{Reads}
use Rattle.tb_parse_body.proofs.Annotations.{shape_found, shape_lacks, shape_lacks_colon}
use Rattle.tb_parse_body.proofs.params.shape_at.Goals as goal

pub returns-then-not-is_mark : goal.returns-then-not-is_mark
returns-then-not-is_mark c = shape_lacks_colon c.args.limit _ c.if-not-is_mark.ensures

pub returns-in_default : goal.returns-in_default
returns-in_default c =
    let n = subst (λ v. Reads (TypeUpto (limits max_depth c.args.limit)) InType c.args.reader (c.args.at + 1) v) c.in_default.is c.in_ok-shape.ensures in
    lacks_from c.if-not-is_mark.ensures.2 (shape_lacks c.args.limit _ n)

pub returns : goal.returns
returns c =
    let f = subst (λ v. Reads (TypeUpto (limits max_depth c.args.limit)) InType c.args.reader (c.args.at + 1) v) c.in-Some.is c.in_ok-shape.ensures in
    (f.0, found_from c.if-not-is_mark.ensures.2 (shape_found c.args.limit _ f.1))

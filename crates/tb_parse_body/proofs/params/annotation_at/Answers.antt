use Rattle.tb_parse_type.specs.Rules.{InType}
use Rattle.tb_parse_body.specs.Rules.{ShapeUpto}
use Rattle.tb_parse_body.proofs.Annotations.{annotation_some, annotation_none}
use Rattle.tb_parse_body.proofs.Sequences.{lacking, reading}
use Rattle.tb_parse_body.proofs.params.annotation_at.Goals as goal

pub returns-in_default : goal.returns-in_default
returns-in_default c = (c.requires, annotation_none c.args.limit (lacking (ShapeUpto c.args.limit) InType c.args.reader c.args.at _ c.in_default.is c.in_ok-shape.ensures))

pub returns : goal.returns
returns c =
    let f = reading (ShapeUpto c.args.limit) InType c.args.reader c.args.at _ c.in-Some.shape c.in-Some.is c.in_ok-shape.ensures in
    (f.0, annotation_some c.args.limit f.1)

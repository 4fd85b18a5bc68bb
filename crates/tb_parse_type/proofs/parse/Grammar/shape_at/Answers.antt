use Rattle.tb_parse_type.proofs.Rulings.{shape_reads}
use Rattle.tb_parse_type.proofs.Members.{shape_lacks_colon}
use Rattle.tb_parse_type.proofs.parse.Grammar.shape_at.Goals as goal

pub returns-then-not-is_mark : goal.returns-then-not-is_mark
returns-then-not-is_mark g c = shape_lacks_colon c.args.limits _ c.if-not-is_mark.ensures

pub returns : goal.returns
returns g c = shape_reads c.args.limits c.args.self.now.reader c.args.at _ _ c.if-not-is_mark.ensures c.in_ok-shape.ensures

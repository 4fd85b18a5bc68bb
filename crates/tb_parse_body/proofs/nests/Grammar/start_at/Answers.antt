use Rattle.tb_parse_body.specs.Rules.{ArrowUpto, InExpr}
use Rattle.tb_parse_body.proofs.ArrowStarts.{arrow_is_expr}
use Rattle.tb_parse_body.proofs.Sequences.{lacking, reading}
use Rattle.tb_parse_body.proofs.nests.Grammar.start_at.Goals as goal

pub returns-in_default : goal.returns-in_default
returns-in_default g c = lacking (ArrowUpto c.args.typed c.args.limit) (InExpr c.args.typed) c.args.self.now.reader c.args.at _ c.in_default.is c.in_ok-arrow.ensures

pub returns : goal.returns
returns g c =
    let f = reading (ArrowUpto c.args.typed c.args.limit) (InExpr c.args.typed) c.args.self.now.reader c.args.at _ c.in-Some.arrow c.in-Some.is c.in_ok-arrow.ensures in
    (f.0, arrow_is_expr c.args.typed c.args.limit f.1)

use Rattle.std.proofs.Common.{◌-◌}
use Rattle.tb_tree.specs.Longest.{Never}
use Rattle.tb_parse_body.specs.Rules.{ArrowUpto, SignatureUpto, InExpr}
use Rattle.tb_parse_body.proofs.ArrowStarts.{arrow_is_expr, arrow_lacks_params}
use Rattle.tb_parse_body.proofs.Sequences.{lacking, reading}
use Rattle.tb_parse_body.proofs.nests.Grammar.paren_start_at.Goals as goal

pub returns-in_default : goal.returns-in_default
returns-in_default g c =
    let stands = c.requires.stands in
    arrow_lacks_params c.args.typed c.args.limit _ stands.2 (lacking (SignatureUpto (c.args.limit - 1)) Never c.args.self.now.reader c.args.at _ c.in_default.is c.in_ok-params.ensures)

pub returns-in_default-2 : goal.returns-in_default-2
returns-in_default-2 g c = lacking (ArrowUpto c.args.typed c.args.limit) (InExpr c.args.typed) c.args.self.now.reader c.args.at _ c.in_default-2.is c.in_ok-arrow.ensures

pub returns : goal.returns
returns g c =
    let f = reading (ArrowUpto c.args.typed c.args.limit) (InExpr c.args.typed) c.args.self.now.reader c.args.at _ c.in-Some-2.arrow c.in-Some-2.is c.in_ok-arrow.ensures in
    (f.0, arrow_is_expr c.args.typed c.args.limit f.1)

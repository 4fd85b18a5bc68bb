use Rattle.tb_parse_body.specs.Rules.{UnaryUpto, InUnary}
use Rattle.tb_parse_body.proofs.Places.{lacking}
use Rattle.tb_parse_body.proofs.Answered.{open_start}
use Rattle.tb_parse_body.proofs.Wholes.{expr_lacks}
use Rattle.tb_parse_body.proofs.nests.Grammar.whole_at.Goals as goal

pub returns-in_default : goal.returns-in_default
returns-in_default g c =
    let r = c.args.self.now.reader in
    let arrow = open_start c.args.typed c.args.limit r c.args.at c.in_ok-arrow.field-0 c.in-Open.is c.in_ok-arrow.ensures in
    let n = lacking (UnaryUpto c.args.limit) InUnary r c.args.at _ c.in_default.is c.in_ok-unary-in-Open.ensures in
    expr_lacks c.args.typed c.args.limit arrow n

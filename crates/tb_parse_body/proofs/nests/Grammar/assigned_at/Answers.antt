use Rattle.std.proofs.Common.{◌+◌}
use Rattle.tb_tree.proofs.Ends.{found_from, lacks_from}
use Rattle.tb_parse_body.specs.Rules.{ExprUpto, InExpr}
use Rattle.tb_parse_body.proofs.Places.{lacking, reading}
use Rattle.tb_parse_body.proofs.Wholes.{assigned_found, assigned_lacks_value}
use Rattle.tb_parse_body.proofs.nests.Grammar.assigned_at.Goals as goal

pub returns-in_default-2 : goal.returns-in_default-2
returns-in_default-2 g c =
    let s = c.in-Some.ensures in
    let n = lacking (ExprUpto c.args.typed c.args.limit) (InExpr c.args.typed) c.args.self.now.reader (c.args.at + 1) _ c.in_default-2.is c.in_ok-value.ensures in
    lacks_from s.1.2 (assigned_lacks_value c.args.typed c.args.limit s.0 n)

pub returns : goal.returns
returns g c =
    let s = c.in-Some.ensures in
    let f = reading (ExprUpto c.args.typed c.args.limit) (InExpr c.args.typed) c.args.self.now.reader (c.args.at + 1) _ c.in-Some-2.value c.in-Some-2.is c.in_ok-value.ensures in
    (f.0, found_from s.1.2 (assigned_found c.args.typed c.args.limit s.0 s.2 f.1))

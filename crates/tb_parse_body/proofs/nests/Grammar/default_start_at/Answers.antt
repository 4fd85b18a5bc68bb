use Rattle.std.proofs.Common.{◌+◌, ◌-◌, true}
use Rattle.tb_parse_body.specs.Rules.{ArrowUpto, ParamUpto, InExpr}
use Rattle.tb_parse_body.proofs.ArrowParts.{default_name}
use Rattle.tb_parse_body.proofs.ArrowStarts.{arrow_is_expr, arrow_lacks_params}
use Rattle.tb_parse_body.proofs.Defaults.{expr_lacks, signature_lacks_param, primary_lacks_param, primary_lacks_close}
use Rattle.tb_parse_body.proofs.Sequences.{lacking, reading}
use Rattle.tb_parse_body.proofs.nests.Grammar.default_start_at.Goals as goal

pub returns-in_default : goal.returns-in_default
returns-in_default g c =
    let n = c.args.limit in
    let stands = c.requires.stands in
    let d = c.requires.default in
    let v = default_name stands.2 d.7 in
    let none = lacking (ParamUpto (n - 1)) (InExpr true) c.args.self.now.reader (c.args.at + 1) _ c.in_default.is c.in_ok-first.ensures.longest in
    expr_lacks c.args.typed n _ stands.2 (arrow_lacks_params c.args.typed n _ stands.2 (signature_lacks_param (n - 1) _ d.0 d.1 d.2 stands.2 v none)) (primary_lacks_param n _ d.0 d.1 d.2 d.4 d.6 stands.2 v none)

pub returns-in_default-2 : goal.returns-in_default-2
returns-in_default-2 g c =
    let n = c.args.limit in
    let r = c.args.self.now.reader in
    let stands = c.requires.stands in
    let d = c.requires.default in
    let v = default_name stands.2 d.7 in
    let f = reading (ParamUpto (n - 1)) (InExpr true) r (c.args.at + 1) _ c.in-Some.first c.in-Some.is c.in_ok-first.ensures.longest in
    let none = lacking (ArrowUpto c.args.typed n) (InExpr c.args.typed) r c.args.at _ c.in_default-2.is c.in_ok-arrow.ensures in
    expr_lacks c.args.typed n _ stands.2 none (primary_lacks_close n _ d.0 d.1 d.2 d.4 d.6 stands.2 v f.1 c.if-is_mark.ensures)

pub returns : goal.returns
returns g c =
    let f = reading (ArrowUpto c.args.typed c.args.limit) (InExpr c.args.typed) c.args.self.now.reader c.args.at _ c.in-Some-2.arrow c.in-Some-2.is c.in_ok-arrow.ensures in
    (f.0, arrow_is_expr c.args.typed c.args.limit f.1)

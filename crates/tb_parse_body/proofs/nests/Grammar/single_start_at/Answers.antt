use Rattle.std.proofs.Common.{ℕ, ◌+◌, ◌-◌, arith, ap}
use Rattle.tb_tree.specs.Longest.{Never}
use Rattle.tb_tree.proofs.Ends.{found_as}
use Rattle.tb_parse_type.specs.Reading.{start_at}
use Rattle.tb_parse_body.specs.Rules.{ArrowRestUpto, PrimaryUpto, InExpr}
use Rattle.tb_parse_body.proofs.ArrowStarts.{arrow_found, arrow_is_expr, arrow_lacks_rest}
use Rattle.tb_parse_body.proofs.Defaults.{expr_lacks, single_signature, same_single}
use Rattle.tb_parse_body.proofs.Sequences.{lacking, reading}
use Rattle.tb_parse_body.proofs.nests.Grammar.single_start_at.Goals as goal

pub returns-in_default-2 : goal.returns-in_default-2
returns-in_default-2 g c =
    let n = c.args.limit in
    let r = c.args.self.now.reader in
    let stands = c.requires.stands in
    let closes = c.requires.closes in
    let ps = c.requires.param in
    let f = single_signature (n - 1) (start_at r c.args.at) _ stands.2 ps.1 closes.2 in
    let none = arrow_lacks_rest c.args.typed n (start_at r c.args.at) stands.2 f (lacking (ArrowRestUpto c.args.typed (n - 1)) (InExpr c.args.typed) r (c.args.param.next + 1) _ c.in_default.is c.in_ok-rest.ensures) in
    expr_lacks c.args.typed n _ stands.2 none (lacking (PrimaryUpto n) Never r c.args.at _ c.in_default-2.is c.in_ok-first.ensures)

pub returns-in_default : goal.returns-in_default
returns-in_default g c =
    let n = c.args.limit in
    let r = c.args.self.now.reader in
    let stands = c.requires.stands in
    let closes = c.requires.closes in
    let ps = c.requires.param in
    let f = single_signature (n - 1) (start_at r c.args.at) _ stands.2 ps.1 closes.2 in
    let none = arrow_lacks_rest c.args.typed n (start_at r c.args.at) stands.2 f (lacking (ArrowRestUpto c.args.typed (n - 1)) (InExpr c.args.typed) r (c.args.param.next + 1) _ c.in_default.is c.in_ok-rest.ensures) in
    (reading (PrimaryUpto n) Never r c.args.at _ c.in-Some-2.first c.in-Some-2.is c.in_ok-first.ensures, none)

pub returns : goal.returns
returns g c =
    let n = c.args.limit in
    let r = c.args.self.now.reader in
    let stands = c.requires.stands in
    let closes = c.requires.closes in
    let ps = c.requires.param in
    let rs = c.in-Some.rest in
    let f = single_signature (n - 1) (start_at r c.args.at) _ stands.2 ps.1 closes.2 in
    let h = reading (ArrowRestUpto c.args.typed (n - 1)) (InExpr c.args.typed) r (c.args.param.next + 1) _ rs c.in-Some.is c.in_ok-rest.ensures in (
      h.0,
      found_as (same_single c.args.param.tree.0 rs.tree.0 rs.tree.1 c.start_at.ensures c.new-params.ensures c.in_ok-push.ensures.ok (ap (λ (k : ℕ). k + 1) c.larger.ensures))
          (arrow_is_expr c.args.typed n (arrow_found c.args.typed n (start_at r c.args.at) c.requires.some stands.2 f h.1)),
    )

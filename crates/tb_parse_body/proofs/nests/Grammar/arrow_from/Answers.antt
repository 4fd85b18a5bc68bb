use Rattle.std.proofs.Common.{ℕ, ◌+◌, ◌-◌, ap}
use Rattle.tb_tree.specs.declared.exprs.Expr.TheVariants as expr
use Rattle.tb_tree.proofs.Ends.{found_as}
use Rattle.tb_parse_type.specs.Reading.{start_at}
use Rattle.tb_parse_body.specs.Rules.{ArrowRestUpto, InExpr}
use Rattle.tb_parse_body.proofs.ArrowStarts.{arrow_found, arrow_lacks_rest}
use Rattle.tb_parse_body.proofs.Sequences.{lacking, reading, deep_as}
use Rattle.tb_parse_body.proofs.nests.Grammar.arrow_from.Goals as goal

pub returns-in_default : goal.returns-in_default
returns-in_default g c =
    let stands = c.requires.stands in
    let ps = c.requires.params in
    arrow_lacks_rest c.args.typed c.args.limit _ stands.2 ps.1 (lacking (ArrowRestUpto c.args.typed (c.args.limit - 1)) (InExpr c.args.typed) c.args.self.now.reader c.args.params.next _ c.in_default.is c.in_ok-rest.ensures)

pub returns : goal.returns
returns g c =
    let r = c.args.self.now.reader in
    let stands = c.requires.stands in
    let ps = c.requires.params in
    let rs = c.in-Some.rest in
    let f = reading (ArrowRestUpto c.args.typed (c.args.limit - 1)) (InExpr c.args.typed) r c.args.params.next _ rs c.in-Some.is c.in_ok-rest.ensures in (
      f.0,
      found_as (deep_as (ap (λ (k : ℕ). expr.Arrow k c.args.params.tree rs.tree.0 rs.tree.1) c.start_at.ensures) (ap (λ (k : ℕ). k + 1) c.larger.ensures))
          (arrow_found c.args.typed c.args.limit (start_at r c.args.at) c.requires.some stands.2 ps.1 f.1),
    )

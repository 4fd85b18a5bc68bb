use Rattle.std.proofs.Common.{arith, ap, ◌+◌, ◌-◌, ℕ}
use Rattle.tb_tree.specs.declared.exprs.Expr.TheVariants as expr
use Rattle.tb_tree.proofs.Ends.{found_from, found_as, found_left, lacks_from}
use Rattle.tb_parse_body.specs.Rules.{Deep}
use Rattle.tb_tree.specs.declared.exprs.Expr.{Expr}
use Rattle.tb_parse_body.proofs.PrimaryFronts.{primary_object, primary_lacks_object}
use Rattle.tb_parse_body.proofs.nests.Grammar.object_at.Goals as goal

pub returns-then-not-is_mark : goal.returns-then-not-is_mark
returns-then-not-is_mark g c = lacks_from c.requires.stands.2 (primary_lacks_object c.args.limit _ c.in_ok-props.ensures.1 c.if-not-is_mark.ensures)

pub returns : goal.returns
returns g c =
    let e = c.in_ok-props.props in (
      omega (arith, c.if-not-is_mark.ensures.0),
      found_from c.requires.stands.2
          (found_as (ap (λ (o : ℕ). let x : Deep Expr = (expr.Object o e.tree, e.depth + 1) in x) c.start_at.ensures)
          (primary_object c.args.limit _ _ _ c.requires.some (found_left c.if-not-is_mark.ensures.2 c.in_ok-props.ensures.1))),
    )

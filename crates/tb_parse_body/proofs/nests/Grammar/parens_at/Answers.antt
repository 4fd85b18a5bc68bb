use Rattle.std.proofs.Common.{arith, ap, ◌+◌, ◌-◌, ℕ, true}
use Rattle.tb_tree.specs.declared.exprs.Expr.{Expr}
use Rattle.tb_tree.specs.declared.exprs.Expr.TheVariants as expr
use Rattle.tb_tree.proofs.Ends.{found_from, found_as, found_left, lacks_from, ap_both}
use Rattle.tb_parse_body.specs.Rules.{Deep, ExprUpto, InExpr}
use Rattle.tb_parse_body.proofs.PrimaryFronts.{primary_parens, primary_lacks_inside, primary_lacks_close}
use Rattle.tb_parse_body.proofs.Sequences.{lacking, reading}
use Rattle.tb_parse_body.proofs.nests.Grammar.parens_at.Goals as goal

pub returns-in_default : goal.returns-in_default
returns-in_default g c =
    let n = lacking (ExprUpto true (c.args.limit - 1)) (InExpr true) c.args.self.now.reader (c.args.at + 1) _ c.in_default.is c.in_ok-inner.ensures in
    lacks_from c.requires.stands.2 (primary_lacks_inside c.args.limit _ n)

pub returns-then-not-is_mark : goal.returns-then-not-is_mark
returns-then-not-is_mark g c =
    let f = reading (ExprUpto true (c.args.limit - 1)) (InExpr true) c.args.self.now.reader (c.args.at + 1) _ c.in-Some.inner c.in-Some.is c.in_ok-inner.ensures in
    lacks_from c.requires.stands.2 (primary_lacks_close c.args.limit _ f.1 c.if-not-is_mark.ensures)

pub returns : goal.returns
returns g c =
    let f = reading (ExprUpto true (c.args.limit - 1)) (InExpr true) c.args.self.now.reader (c.args.at + 1) _ c.in-Some.inner c.in-Some.is c.in_ok-inner.ensures in (
      omega (arith, c.if-not-is_mark.ensures.0),
      found_from c.requires.stands.2
          (found_as (ap_both (λ (o : ℕ) (v : Expr). let x : Deep Expr = (expr.Parens o v, c.in-Some.inner.depth + 1) in x) c.start_at.ensures c.in_ok-new.ensures)
          (primary_parens c.args.limit _ _ _ c.requires.some (found_left c.if-not-is_mark.ensures.2 f.1))),
    )

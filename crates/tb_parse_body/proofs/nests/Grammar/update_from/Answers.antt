use Rattle.std.proofs.Common.{◌≡◌, ◌+◌, ◌∙◌, sym, ap, arith, true, false, inl, inr}
use Rattle.tb_tree.specs.declared.exprs.Expr.{Expr}
use Rattle.tb_tree.proofs.Ends.{found_as, found_left}
use Rattle.tb_parse_body.specs.Rules.{Deep}
use Rattle.tb_parse_body.proofs.Places.{start_is}
use Rattle.tb_parse_body.proofs.Unaries.{unary_chain, unary_after}
use Rattle.tb_parse_body.proofs.nests.Grammar.update_from.Goals as goal

pub returns-then-not-is_target : goal.returns-then-not-is_target
returns-then-not-is_target g c = (
  c.requires.chain.0,
  unary_chain c.args.limit c.requires.chain.1 (λ t le s o vs h w. elim c.then-not-is_target.either [
    | inl e ↦ let n : false ≡ true = sym e ∙ c.is_target.ensures ∙ t in cc
    | inr e ↦ omega (arith, le, e.1)
  ]),
)

pub returns-in_default : goal.returns-in_default
returns-in_default g c = (c.requires.chain.0, unary_chain c.args.limit c.requires.chain.1 (λ t le s o vs h w. c.in_default.ensures s o h vs w))

pub returns : goal.returns
returns g c =
    let s = c.in-Some.ensures in (
      omega (arith, s.1.0),
      found_as (ap (λ (x : Expr). let y : Deep Expr = (x, c.args.chain.depth + 1) in y) c.in_ok-update.ensures)
          (unary_after c.args.limit c.start_at-start.result (c.start_at-start.ensures ∙ start_is c.args.self.now.reader c.args.at) (found_left s.1.2 c.requires.chain.1)
          (sym c.if-not-is_target.ensures) (omega (arith, c.if-chain-limit.false)) s.2),
    )

use Rattle.std.proofs.Common.{◌≡◌, ◌+◌, ◌-◌, ◌∙◌, true, false, ap, sym, inl, inr, arith}
use Rattle.tb_tree.proofs.Ends.{found_as, both}
use Rattle.tb_parse_body.specs.Rules.{AssignedUpto, InExpr}
use Rattle.tb_parse_body.proofs.Places.{lacking, reading, start_is}
use Rattle.tb_parse_body.proofs.Wholes.{expr_cond, expr_assigned}
use Rattle.tb_parse_body.proofs.nests.Grammar.expr_from.Goals as goal

pub returns-then-not-is_target : goal.returns-then-not-is_target
returns-then-not-is_target g c = (
  c.in_ok-cond.ensures.0,
  expr_cond c.args.typed (c.args.limit - 1) c.args.limit (λ h. omega (arith, h)) c.requires.no_arrow c.in_ok-target.ensures.1 (λ t h. absurd (elim c.then-not-is_target.either [
    | inl e ↦ let n : false ≡ true = sym e ∙ c.is_target.ensures ∙ t in cc
    | inr e ↦ omega (arith, h, e.1)
  ])) c.in_ok-cond.ensures.1,
)

pub returns-in_default : goal.returns-in_default
returns-in_default g c =
    let n = lacking (AssignedUpto c.args.typed (c.args.limit - 1)) (InExpr c.args.typed) c.args.self.now.reader c.in_ok-target.target.next _ c.in_default.is c.in_ok-assigned.ensures in
    (c.in_ok-cond-2.ensures.0, expr_cond c.args.typed (c.args.limit - 1) c.args.limit (λ h. omega (arith, h)) c.requires.no_arrow c.in_ok-target.ensures.1 (λ t h. n) c.in_ok-cond-2.ensures.1)

pub returns : goal.returns
returns g c =
    let f = reading (AssignedUpto c.args.typed (c.args.limit - 1)) (InExpr c.args.typed) c.args.self.now.reader c.in_ok-target.target.next _ c.in-Some.assigned c.in-Some.is c.in_ok-assigned.ensures in (
      f.0,
      found_as (both c.in_ok-written.ensures (ap (λ d. d + 1) c.larger.ensures))
          (expr_assigned c.args.typed c.start_at-start.result (c.args.limit - 1) c.args.limit (omega (arith, c.if-target-limit.false)) c.if-target-limit.false
          (c.start_at-start.ensures ∙ start_is c.args.self.now.reader c.args.at) (sym c.if-not-is_target.ensures) c.requires.no_arrow c.in_ok-target.ensures.1 f.1),
    )

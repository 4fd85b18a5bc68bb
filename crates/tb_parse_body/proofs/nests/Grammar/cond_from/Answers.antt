use Rattle.std.proofs.Common.{◌+◌, ◌-◌, ◌∙◌, ap, arith}
use Rattle.tb_tree.proofs.Ends.{found_as, both}
use Rattle.tb_parse_body.specs.Rules.{BranchesUpto, InExpr}
use Rattle.tb_parse_body.proofs.Places.{lacking, reading, start_is}
use Rattle.tb_parse_body.proofs.Conds.{cond_or, cond_branches}
use Rattle.tb_parse_body.proofs.nests.Grammar.cond_from.Goals as goal

pub returns-then-condition-limit : goal.returns-then-condition-limit
returns-then-condition-limit g c = (
  c.requires.condition.0,
  cond_or c.args.typed 0 c.args.limit (λ h. omega (arith, h, c.if-condition-limit.true)) c.requires.condition.1 (λ h. absurd (omega (arith, h, c.if-condition-limit.true))),
)

pub returns-in_default : goal.returns-in_default
returns-in_default g c =
    let n = lacking (BranchesUpto c.args.typed (c.args.limit - 1)) (InExpr c.args.typed) c.args.self.now.reader c.args.condition.next _ c.in_default.is c.in_ok-branches.ensures in
    (c.requires.condition.0, cond_or c.args.typed (c.args.limit - 1) c.args.limit (λ h. omega (arith, h)) c.requires.condition.1 (λ h. n))

pub returns : goal.returns
returns g c =
    let f = reading (BranchesUpto c.args.typed (c.args.limit - 1)) (InExpr c.args.typed) c.args.self.now.reader c.args.condition.next _ c.in-Some.branches c.in-Some.is c.in_ok-branches.ensures in (
      f.0,
      found_as (both c.in_ok-conditional.ensures (ap (λ d. d + 1) c.larger.ensures))
          (cond_branches c.args.typed c.start_at-start.result (c.args.limit - 1) c.args.limit (omega (arith, c.if-condition-limit.false)) c.if-condition-limit.false
          (c.start_at-start.ensures ∙ start_is c.args.self.now.reader c.args.at) c.requires.condition.1 f.1),
    )

use Rattle.std.proofs.Common.{arith, refl, ◌+◌, ◌||◌, Bool, true, List, ℕ}
use Rattle.tb_tree.specs.declared.exprs.Param.{Param}
use Rattle.tb_tree.proofs.Ends.{found_as, under_both}
use Rattle.tb_parse_type.specs.Reading.{rest}
use Rattle.tb_parse_body.specs.Given.{FollowingUpto}
use Rattle.tb_parse_body.specs.Rules.{InExpr}
use Rattle.tb_parse_body.proofs.Parameters.{ParamsSoFar, params_on, params_to_last, params_end, param_falls}
use Rattle.tb_parse_body.proofs.Sequences.{lacking, reading, deep_as}
use Rattle.tb_parse_body.proofs.nests.Grammar.params_at.Goals as goal

pub returns-then-not-is_mark : goal.returns-then-not-is_mark
returns-then-not-is_mark g c =
    let l = c.args.limit in
    let s = c.loop-params in
    let f = reading (FollowingUpto s.after l) (InExpr true) c.args.self.now.reader s.next _ c.in-Some.param c.in-Some.is c.in_ok-param.ensures in
    (f.0, found_as (deep_as c.in_ok-push.ensures.ok c.larger-depth.ensures) (params_to_last l s.params s.after s.depth _ _ s.invariant.all f.1 c.if-not-is_mark.ensures))

pub loop-params-smaller : goal.loop-params-smaller
loop-params-smaller g c =
    let f = reading (FollowingUpto c.loop-params.after c.args.limit) (InExpr true) c.args.self.now.reader c.loop-params.next _ c.in-Some.param c.in-Some.is c.in_ok-param.ensures in
    param_falls c.loop-params.after c.args.limit _ f.1 c.if-not-is_mark.ensures.2

pub loop-params-preserved : goal.loop-params-preserved
loop-params-preserved g c =
    let l = c.args.limit in
    let s = c.loop-params in
    let r = c.args.self.now.reader in
    let stands = c.if-not-is_mark.ensures in
    let f = reading (FollowingUpto s.after l) (InExpr true) r s.next _ c.in-Some.param c.in-Some.is c.in_ok-param.ensures in
    record {
      within = omega (arith, stands.0);
      all = under_both (λ (acc : List Param) (depth : ℕ). ParamsSoFar l acc (s.after || c.in-Some.param.tree.1) depth (rest r c.args.at) (rest r (c.in-Some.param.next + 1)))
          c.in_ok-push.ensures.ok c.larger-depth.ensures
          (params_on l s.params s.after s.depth _ _ _ s.invariant.all f.1 stands.2);
    }

pub returns : goal.returns
returns g c =
    let l = c.args.limit in
    let s = c.loop-params in
    let n = lacking (FollowingUpto s.after l) (InExpr true) c.args.self.now.reader s.next _ c.in_default.is c.in_ok-param.ensures in
    (s.invariant.within, params_end l s.params s.after s.depth _ _ s.invariant.all n)

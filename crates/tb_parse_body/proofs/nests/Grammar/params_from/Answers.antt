use Rattle.std.proofs.Common.{arith, ◌+◌, ◌||◌, ◌++◌, ◌∷◌, [], Bool, true, List, ℕ, ap, sym, subst, ◌∙◌, length}
use Rattle.tb_tree.specs.declared.exprs.Param.{Param}
use Rattle.tb_tree.proofs.Ends.{found_as, under_both, shorter}
use Rattle.tb_parse_type.specs.Reading.{rest}
use Rattle.tb_parse_body.specs.Given.{FollowingUpto}
use Rattle.tb_parse_body.specs.Rules.{InExpr}
use Rattle.tb_parse_body.proofs.Parameters.{Behind, behind_on, behind_first, params_end}
use Rattle.tb_parse_body.proofs.Sequences.{lacking, reading}
use Rattle.tb_parse_body.proofs.nests.Grammar.params_from.Goals as goal

pub loop-params-init : goal.loop-params-init
loop-params-init g c =
    let r = c.args.self.now.reader in
    let first = c.args.first in
    let f = c.requires.first in
    record {
      within = f.0;
      all = subst (λ (acc : List Param). Behind c.args.limit acc first.tree.1 first.depth (rest r c.args._at) (rest r first.next))
          (sym (c.in_ok-push.ensures.ok ∙ ap (λ (v : List Param). v ++ first.tree.0 ∷ []) c.new-params.ensures)) (behind_first c.args.limit f.1);
    }

pub returns-in_default : goal.returns-in_default
returns-in_default g c =
    let l = c.args.limit in
    let s = c.loop-params in
    let r = c.args.self.now.reader in
    let mark = c.loop-params-test.ensures in
    let n = lacking (FollowingUpto s.after l) (InExpr true) r (s.next + 1) _ c.in_default.is c.in_ok-param.ensures in
    let all = s.invariant.all in
    (omega (arith, mark.0), params_end l s.params s.after s.depth _ _ (all.1 _ _ mark.2) n)

pub loop-params-smaller : goal.loop-params-smaller
loop-params-smaller g c =
    let s = c.loop-params in
    let mark = c.loop-params-test.ensures in
    let f = reading (FollowingUpto s.after c.args.limit) (InExpr true) c.args.self.now.reader (s.next + 1) _ c.in-Some.param c.in-Some.is c.in_ok-param.ensures in
    omega (arith, shorter f.1, ap length mark.2)

pub loop-params-preserved : goal.loop-params-preserved
loop-params-preserved g c =
    let l = c.args.limit in
    let s = c.loop-params in
    let r = c.args.self.now.reader in
    let mark = c.loop-params-test.ensures in
    let param = c.in-Some.param in
    let f = reading (FollowingUpto s.after l) (InExpr true) r (s.next + 1) _ param c.in-Some.is c.in_ok-param.ensures in
    let all = s.invariant.all in
    record {
      within = f.0;
      all = under_both (λ (acc : List Param) (depth : ℕ). Behind l acc (s.after || param.tree.1) depth (rest r c.args._at) (rest r param.next))
          c.in_ok-push-2.ensures.ok c.larger-depth.ensures
          (behind_on l s.params s.after s.depth _ _ (all.1 _ _ mark.2) f.1);
    }

pub returns : goal.returns
returns g c =
    let s = c.loop-params in
    let all = s.invariant.all in
    (s.invariant.within, all.0 c.loop-params-test.ensures)

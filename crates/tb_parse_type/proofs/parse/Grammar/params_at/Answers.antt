use Rattle.std.proofs.Common.{arith, refl, ◌+◌, List, ℕ}
use Rattle.tb_tree.specs.declared.marks.Mark.TheVariants as m
use Rattle.tb_tree.specs.declared.types.TypeParam.{TypeParam}
use Rattle.tb_tree.proofs.Ends.{found_as}
use Rattle.tb_parse_type.specs.Reading.{rest}
use Rattle.tb_parse_type.specs.Rules.{ParamUpto, InParams, InType}
use Rattle.tb_parse_type.proofs.Items.{is_comma, params_separate, params_found, no_comma}
use Rattle.tb_parse_type.proofs.Lists.{ItemsSoFar, items_start, items_on, items_to_last, items_end, item_falls, under_three}
use Rattle.tb_parse_type.proofs.Unions.{counted_as}
use Rattle.tb_parse_type.proofs.Readings.{lacking, reading}
use Rattle.tb_parse_type.proofs.parse.Grammar.params_at.Goals as goal

pub loop-params-init : goal.loop-params-init
loop-params-init g c = record { within = c.requires.within; all = under_three (λ (acc : List TypeParam) (own depth : ℕ). ItemsSoFar (ParamUpto c.args.limits) is_comma InParams acc own depth (rest c.args.self.now.reader c.args.at) (rest c.args.self.now.reader c.args.at)) c.new-params.ensures refl refl (items_start (ParamUpto c.args.limits) is_comma InParams _) }

pub returns-then-not-is_mark : goal.returns-then-not-is_mark
returns-then-not-is_mark g c =
    let l = c.args.limits in
    let s = c.loop-params in
    let f = reading (ParamUpto l) InType c.args.self.now.reader s.next _ c.in-Some.param c.in-Some.is c.in_ok-param.ensures in (
      f.0,
      params_found l (found_as (counted_as c.in_ok-push.ensures.ok c.larger-own.ensures c.larger-depth.ensures)
          (items_to_last (params_separate l) s.params s.own s.depth _ _ _ s.invariant.all f.1 (no_comma _ c.if-not-is_mark.ensures))),
    )

pub loop-params-smaller : goal.loop-params-smaller
loop-params-smaller g c =
    let f = reading (ParamUpto c.args.limits) InType c.args.self.now.reader c.loop-params.next _ c.in-Some.param c.in-Some.is c.in_ok-param.ensures in
    item_falls m.Comma _ f.1 c.if-not-is_mark.ensures.2

pub loop-params-preserved : goal.loop-params-preserved
loop-params-preserved g c =
    let l = c.args.limits in
    let s = c.loop-params in
    let r = c.args.self.now.reader in
    let f = reading (ParamUpto l) InType r s.next _ c.in-Some.param c.in-Some.is c.in_ok-param.ensures in
    record {
      within = omega (arith, c.if-not-is_mark.ensures.0);
      all = under_three (λ (acc : List TypeParam) (own depth : ℕ). ItemsSoFar (ParamUpto l) is_comma InParams acc own depth (rest r c.args.at) (rest r (c.in-Some.param.next + 1)))
          c.in_ok-push.ensures.ok c.larger-own.ensures c.larger-depth.ensures
          (items_on (params_separate l) s.params s.own s.depth _ _ _ m.Comma _ refl s.invariant.all f.1 c.if-not-is_mark.ensures.2);
    }

pub returns : goal.returns
returns g c =
    let l = c.args.limits in
    let s = c.loop-params in
    let n = lacking (ParamUpto l) InType c.args.self.now.reader s.next _ c.in_default.is c.in_ok-param.ensures in
    (s.invariant.within, params_found l (items_end s.params s.own s.depth _ _ s.invariant.all n))

use Rattle.std.proofs.Common.{arith, refl, ◌+◌, List, ℕ, true}
use Rattle.tb_tree.specs.declared.exprs.Prop.{Prop}
use Rattle.tb_tree.proofs.Ends.{found_as, both, under_both}
use Rattle.tb_parse_type.specs.Reading.{rest}
use Rattle.tb_parse_body.specs.Rules.{PropUpto, InExpr, InList}
use Rattle.tb_parse_body.proofs.Commas.{CommasSoFar, commas_start, commas_on, commas_to_last, commas_end, comma_falls}
use Rattle.tb_parse_body.proofs.Exprlists.{props_separate, props_found}
use Rattle.tb_parse_body.proofs.Sequences.{lacking, reading}
use Rattle.tb_parse_body.proofs.nests.Grammar.props_at.Goals as goal

pub loop-props-init : goal.loop-props-init
loop-props-init g c = record {
  within = c.requires.within;
  all = under_both (λ (acc : List Prop) (depth : ℕ). CommasSoFar (PropUpto c.args.limit) InList acc depth (rest c.args.self.now.reader c.args.at) (rest c.args.self.now.reader c.args.at))
      c.new-props.ensures refl (commas_start (PropUpto c.args.limit) InList _);
}

pub returns-then-not-is_mark : goal.returns-then-not-is_mark
returns-then-not-is_mark g c =
    let n = c.args.limit in
    let s = c.loop-props in
    let f = reading (PropUpto n) (InExpr true) c.args.self.now.reader s.next _ c.in-Some.prop c.in-Some.is c.in_ok-prop.ensures in (
      f.0,
      props_found n (found_as (both c.in_ok-push.ensures.ok c.larger-depth.ensures)
          (commas_to_last (props_separate n) s.props s.depth _ _ _ s.invariant.all f.1 c.if-not-is_mark.ensures)),
    )

pub loop-props-smaller : goal.loop-props-smaller
loop-props-smaller g c =
    let f = reading (PropUpto c.args.limit) (InExpr true) c.args.self.now.reader c.loop-props.next _ c.in-Some.prop c.in-Some.is c.in_ok-prop.ensures in
    comma_falls _ f.1 c.if-not-is_mark.ensures.2

pub loop-props-preserved : goal.loop-props-preserved
loop-props-preserved g c =
    let n = c.args.limit in
    let s = c.loop-props in
    let r = c.args.self.now.reader in
    let f = reading (PropUpto n) (InExpr true) r s.next _ c.in-Some.prop c.in-Some.is c.in_ok-prop.ensures in
    record {
      within = omega (arith, c.if-not-is_mark.ensures.0);
      all = under_both (λ (acc : List Prop) (depth : ℕ). CommasSoFar (PropUpto n) InList acc depth (rest r c.args.at) (rest r (c.in-Some.prop.next + 1)))
          c.in_ok-push.ensures.ok c.larger-depth.ensures
          (commas_on (props_separate n) s.props s.depth _ _ _ _ s.invariant.all f.1 c.if-not-is_mark.ensures.2);
    }

pub returns : goal.returns
returns g c =
    let n = c.args.limit in
    let s = c.loop-props in
    let none = lacking (PropUpto n) (InExpr true) c.args.self.now.reader s.next _ c.in_default.is c.in_ok-prop.ensures in
    (s.invariant.within, props_found n (commas_end s.props s.depth _ _ s.invariant.all none))

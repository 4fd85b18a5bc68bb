use Rattle.std.proofs.Common.{arith, refl, ◌+◌, List, ℕ, true}
use Rattle.tb_tree.specs.declared.exprs.Expr.{Expr}
use Rattle.tb_tree.proofs.Ends.{found_as, both, under_both}
use Rattle.tb_parse_type.specs.Reading.{rest}
use Rattle.tb_parse_body.specs.Rules.{ExprUpto, InExpr, InList}
use Rattle.tb_parse_body.proofs.Commas.{CommasSoFar, commas_start, commas_on, commas_to_last, commas_end, comma_falls}
use Rattle.tb_parse_body.proofs.Exprlists.{exprs_separate, exprs_found}
use Rattle.tb_parse_body.proofs.Sequences.{lacking, reading}
use Rattle.tb_parse_body.proofs.nests.Grammar.exprs_at.Goals as goal

pub loop-exprs-init : goal.loop-exprs-init
loop-exprs-init g c = record {
  within = c.requires.within;
  all = under_both (λ (acc : List Expr) (depth : ℕ). CommasSoFar (ExprUpto true c.args.limit) InList acc depth (rest c.args.self.now.reader c.args.at) (rest c.args.self.now.reader c.args.at))
      c.new-exprs.ensures refl (commas_start (ExprUpto true c.args.limit) InList _);
}

pub returns-then-not-is_mark : goal.returns-then-not-is_mark
returns-then-not-is_mark g c =
    let n = c.args.limit in
    let s = c.loop-exprs in
    let f = reading (ExprUpto true n) (InExpr true) c.args.self.now.reader s.next _ c.in-Some.expr c.in-Some.is c.in_ok-expr.ensures in (
      f.0,
      exprs_found n (found_as (both c.in_ok-push.ensures.ok c.larger-depth.ensures)
          (commas_to_last (exprs_separate n) s.exprs s.depth _ _ _ s.invariant.all f.1 c.if-not-is_mark.ensures)),
    )

pub loop-exprs-smaller : goal.loop-exprs-smaller
loop-exprs-smaller g c =
    let f = reading (ExprUpto true c.args.limit) (InExpr true) c.args.self.now.reader c.loop-exprs.next _ c.in-Some.expr c.in-Some.is c.in_ok-expr.ensures in
    comma_falls _ f.1 c.if-not-is_mark.ensures.2

pub loop-exprs-preserved : goal.loop-exprs-preserved
loop-exprs-preserved g c =
    let n = c.args.limit in
    let s = c.loop-exprs in
    let r = c.args.self.now.reader in
    let f = reading (ExprUpto true n) (InExpr true) r s.next _ c.in-Some.expr c.in-Some.is c.in_ok-expr.ensures in
    record {
      within = omega (arith, c.if-not-is_mark.ensures.0);
      all = under_both (λ (acc : List Expr) (depth : ℕ). CommasSoFar (ExprUpto true n) InList acc depth (rest r c.args.at) (rest r (c.in-Some.expr.next + 1)))
          c.in_ok-push.ensures.ok c.larger-depth.ensures
          (commas_on (exprs_separate n) s.exprs s.depth _ _ _ _ s.invariant.all f.1 c.if-not-is_mark.ensures.2);
    }

pub returns : goal.returns
returns g c =
    let n = c.args.limit in
    let s = c.loop-exprs in
    let none = lacking (ExprUpto true n) (InExpr true) c.args.self.now.reader s.next _ c.in_default.is c.in_ok-expr.ensures in
    (s.invariant.within, exprs_found n (commas_end s.exprs s.depth _ _ s.invariant.all none))

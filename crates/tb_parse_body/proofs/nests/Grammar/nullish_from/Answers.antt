use Rattle.std.proofs.Common.{◌+◌, ◌-◌, ◌∙◌, ℕ, ap, arith}
use Rattle.tb_tree.specs.declared.exprs.Expr.{Expr}
use Rattle.tb_tree.proofs.Ends.{under_both}
use Rattle.tb_parse_type.specs.Reading.{rest}
use Rattle.tb_parse_body.specs.Rules.{OrUpto, InLevel, InOr}
use Rattle.tb_parse_body.specs.Joins.{IsNullishJoin, NullishUpto}
use Rattle.tb_parse_body.proofs.Places.{lacking, reading, start_is}
use Rattle.tb_parse_body.proofs.Rests.{RestSoFar, rest_turn, rest_end}
use Rattle.tb_parse_body.proofs.Ors.{or_start, nullish_begins, nullish_wide, nullish_parted, nullish_falls}
use Rattle.tb_parse_body.proofs.nests.Grammar.nullish_from.Goals as goal

pub loop-left-init : goal.loop-left-init
loop-left-init g c =
    let f = c.requires.first in
    record {
      within = f.0;
      shallow = f.1.derives.1;
      all = or_start c.args.limit (c.start_at-start.ensures ∙ start_is c.args.self.now.reader c.args.at) f.1 c.requires.stands.2;
    }

pub loop-left-preserved : goal.loop-left-preserved
loop-left-preserved g c =
    let v = c.loop-left.invariant in
    let r = c.args.self.now.reader in
    let x = c.in-Some.join in
    let left = c.loop-left.left in
    let f = reading (NullishUpto (c.args.limit - 1)) (InLevel 3) r left.next _ x c.in-Some.is c.in_ok-join.ensures in
    record {
      within = f.0;
      shallow = omega (arith, c.larger.ensures, f.1.derives.1, c.loop-left-test.true);
      all = under_both (λ (y : Expr) (d : ℕ). RestSoFar IsNullishJoin InOr (OrUpto c.args.limit) c.start_at-start.result c.args.limit (rest r c.args.at) y d (rest r x.next))
          c.in_ok-joined.ensures (ap (λ d. d + 1) c.larger.ensures)
          (rest_turn {J = IsNullishJoin} (c.args.limit - 1) c.args.limit (rest r c.args.at) left.tree left.depth (omega (arith, c.loop-left-test.true)) v.all f.1 (nullish_begins f.1) nullish_wide
          (nullish_parted _ _) (nullish_falls f.1));
    }

pub returns-in_default : goal.returns-in_default
returns-in_default g c =
    let v = c.loop-left.invariant in
    let left = c.loop-left.left in
    let n = lacking (NullishUpto (c.args.limit - 1)) (InLevel 3) c.args.self.now.reader left.next _ c.in_default.is c.in_ok-join.ensures in
    (v.within, rest_end {J = IsNullishJoin} (c.args.limit - 1) c.args.limit (rest c.args.self.now.reader c.args.at) left.tree left.depth v.all v.shallow (λ h. omega (arith, h)) (λ h. n))

pub returns : goal.returns
returns g c =
    let v = c.loop-left.invariant in
    let left = c.loop-left.left in (
      v.within,
      rest_end {J = IsNullishJoin} (c.args.limit - 1) c.args.limit (rest c.args.self.now.reader c.args.at) left.tree left.depth v.all v.shallow (λ h. omega (arith, h))
          (λ h. absurd (omega (arith, h, c.loop-left-test.false))),
    )

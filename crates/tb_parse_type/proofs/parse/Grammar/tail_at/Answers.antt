use Rattle.std.proofs.Common.{List, ℕ}
use Rattle.tb_tree.specs.declared.types.TypeExpr.{TypeExpr}
use Rattle.tb_parse_type.specs.Reading.{rest}
use Rattle.tb_parse_type.specs.Rules.{inside, NextUpto, InElement}
use Rattle.tb_parse_type.proofs.Lists.{under_three}
use Rattle.tb_parse_type.proofs.Unions.{TailSoFar, tail_on, tail_end, next_falls}
use Rattle.tb_parse_type.proofs.Readings.{lacking, reading}
use Rattle.tb_parse_type.proofs.parse.Grammar.tail_at.Goals as goal

pub loop-parts-smaller : goal.loop-parts-smaller
loop-parts-smaller g c =
    let f = reading (NextUpto (inside c.args.limits)) InElement c.args.self.now.reader c.loop-parts.next _ c.in-Some.part c.in-Some.is c.in_ok-part.ensures in
    next_falls (inside c.args.limits) f.1

pub loop-parts-preserved : goal.loop-parts-preserved
loop-parts-preserved g c =
    let f = reading (NextUpto (inside c.args.limits)) InElement c.args.self.now.reader c.loop-parts.next _ c.in-Some.part c.in-Some.is c.in_ok-part.ensures in
    record {
      within = f.0;
      all = under_three (λ (acc : List TypeExpr) (own depth : ℕ). TailSoFar (inside c.args.limits) acc own depth (rest c.args.self.now.reader c.args.at) (rest c.args.self.now.reader c.in-Some.part.next))
          c.in_ok-append.ensures c.larger-own.ensures c.larger-depth.ensures
          (tail_on (inside c.args.limits) c.loop-parts.parts c.loop-parts.own c.loop-parts.depth _ _ c.loop-parts.invariant.all f.1);
    }

pub returns : goal.returns
returns g c =
    let n = lacking (NextUpto (inside c.args.limits)) InElement c.args.self.now.reader c.loop-parts.next _ c.in_default.is c.in_ok-part.ensures in
    (c.loop-parts.invariant.within, tail_end (inside c.args.limits) c.loop-parts.parts c.loop-parts.own c.loop-parts.depth _ _ c.loop-parts.invariant.all n)

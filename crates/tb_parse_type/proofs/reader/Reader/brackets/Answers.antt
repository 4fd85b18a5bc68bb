use Rattle.std.proofs.Common.{arith}
use Rattle.tb_parse_type.proofs.Elements.{brackets_on, brackets_end}
use Rattle.tb_parse_type.proofs.reader.Reader.brackets.Goals as goal

pub returns-then-not-has_brackets : goal.returns-then-not-has_brackets
returns-then-not-has_brackets c = (c.loop-count.invariant.within, brackets_end c.args.room c.loop-count.count _ _ c.loop-count.invariant.all (λ p o q zs e. c.if-not-has_brackets.ensures o q zs e))

pub loop-count-preserved : goal.loop-count-preserved
loop-count-preserved c =
    let h = c.if-not-has_brackets.ensures in
    record {
      within = h.0;
      room = omega (arith, c.loop-count-test.true);
      all = brackets_on c.args.room c.loop-count.count _ _ _ h.1 h.2 c.loop-count.invariant.all (omega (arith, c.loop-count-test.true)) h.3;
    }

pub returns : goal.returns
returns c = (c.loop-count.invariant.within, brackets_end c.args.room c.loop-count.count _ _ c.loop-count.invariant.all (λ p o q zs e. omega (arith, p, c.loop-count-test.false)))

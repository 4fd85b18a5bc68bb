use Rattle.std.proofs.Common.{arith}
use Rattle.std.specs.Prelude.{◌-◌}
use Rattle.tb_parse_type.specs.Reading.{rest}
use Rattle.tb_parse_body.proofs.ShorterBodies.{bodies_lack, lack_start, lack_next, lack_all, lack_found}
use Rattle.tb_parse_body.proofs.nests.Grammar.earlier_body_at.Goals as goal

pub returns-then-from-at : goal.returns-then-from-at
returns-then-from-at g c = bodies_lack (rest c.args.self.now.reader c.args.at) (c.args.from - c.args.at) c.args.limit c.requires.only (λ k i j. absurd (omega (arith, j)))

pub loop-end-init : goal.loop-end-init
loop-end-init g c = record { within = omega arith; lacking = lack_start c.args.at c.args.from c.args.limit (rest c.args.self.now.reader c.args.at) }

pub returns-in-Some : goal.returns-in-Some
returns-in-Some g c =
    let f = c.in_ok-found.ensures in
    let q = rw c.in-Some.is at f in
    (q.0, lack_found c.args.at c.args.from c.loop-end.end c.args.limit (rest c.args.self.now.reader c.args.at) (omega arith) c.requires.only c.loop-end.invariant.lacking q.1)

pub loop-end-preserved : goal.loop-end-preserved
loop-end-preserved g c =
    let f = c.in_ok-found.ensures in
    record {
      within = omega (arith, c.loop-end.invariant.within);
      lacking = lack_next c.args.at c.args.from c.loop-end.end c.args.limit (rest c.args.self.now.reader c.args.at) (omega arith) c.loop-end.invariant.lacking (rw c.in_default.is at f);
    }

pub returns : goal.returns
returns g c = lack_all c.args.at c.args.from c.loop-end.end c.args.limit (rest c.args.self.now.reader c.args.at) (omega arith) c.requires.only c.loop-end.invariant.lacking

use Rattle.std.proofs.Common.{sym, arith}
use Rattle.tb_plan.proofs.Numbered.{numbered_next}
use Rattle.tb_plan.proofs.numbers.Numbers.number.Goals as goal

pub returns-in-Some-clause-within : goal.returns-in-Some-clause-within
returns-in-Some-clause-within c = (c.requires.only _ _ (sym c.in-Some.ensures.value)).0

pub returns-clause-numbered : goal.returns-clause-numbered
returns-clause-numbered c =
    numbered_next c.args.self.now.paths.items _ _ _ c.args.path.now _ _ c.len-number.result c.requires c.in_default.ensures.value c.in_ok-clone.ensures.cases c.in_ok-clone-2.ensures.cases (omega (arith, c.args.self.now.paths.ok.0)) c.in_ok-insert.ensures.updates.0 c.in_ok-push.ensures.items

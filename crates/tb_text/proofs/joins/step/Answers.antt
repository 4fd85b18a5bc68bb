use Rattle.std.proofs.Common.{rules, tests, arith}
use Rattle.std.proofs.lemmas.Grind.{common_steps}
use Rattle.tb_text.proofs.Walks.{goes_up}
use Rattle.tb_text.proofs.joins.step.Goals as goal

pub returns-then-eq-2 : goal.returns-then-eq-2
returns-then-eq-2 c =
    goes_up c.args.at.now.items c.pop.new.self.items c.pop.result c.is_some.result c.args.part.now c.pop.ensures.items (λ l. c.pop.ensures.variant.1 (grind (arith, common_steps))) c.is_some.ensures
    (search (rules, tests)) (search (rules, tests))

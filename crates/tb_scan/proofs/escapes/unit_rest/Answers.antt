use Rattle.std.proofs.Common.{sym, ◌∙◌}
use Rattle.tb_scan.proofs.EscapeLemmas.{unit_found, unit_lacks}
use Rattle.tb_scan.proofs.escapes.unit_rest.Goals as goal

pub returns-then-scalar_front-clause-found : goal.returns-then-scalar_front-clause-found
returns-then-scalar_front-clause-found c = unit_found c.args.rest.now (sym c.scalar_front.ensures ∙ c.if-scalar_front.true)

pub returns-else-scalar_front-clause-none : goal.returns-else-scalar_front-clause-none
returns-else-scalar_front-clause-none c =
    unit_lacks c.args.rest.now (sym c.scalar_front.ensures ∙ c.if-scalar_front.false) (sym c.begins.ensures ∙ c.if-begins.false)

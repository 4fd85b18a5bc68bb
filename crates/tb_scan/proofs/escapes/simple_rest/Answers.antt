use Rattle.std.proofs.Common.{sym, ◌∙◌}
use Rattle.tb_scan.proofs.EscapeLemmas.{simple_found}
use Rattle.tb_scan.proofs.escapes.simple_rest.Goals as goal

pub returns-then-is_simple_escape-clause-found : goal.returns-then-is_simple_escape-clause-found
returns-then-is_simple_escape-clause-found c = simple_found c.args.letter c.args.rest.now (sym c.is_simple_escape.ensures ∙ c.if-is_simple_escape.true)

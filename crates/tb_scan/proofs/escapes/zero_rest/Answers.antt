use Rattle.std.proofs.Common.{sym, ◌∙◌}
use Rattle.tb_scan.proofs.EscapeLemmas.{zero_found}
use Rattle.tb_scan.proofs.escapes.zero_rest.Goals as goal

pub returns-else-begins_with_digit-clause-found : goal.returns-else-begins_with_digit-clause-found
returns-else-begins_with_digit-clause-found c = zero_found c.args.rest.now (sym c.begins_with_digit.ensures ∙ c.if-begins_with_digit.false)

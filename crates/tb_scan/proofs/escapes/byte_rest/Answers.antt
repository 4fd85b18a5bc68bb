use Rattle.std.proofs.Common.{sym, ◌∙◌}
use Rattle.tb_scan.proofs.EscapeLemmas.{byte_found, byte_lacks}
use Rattle.tb_scan.proofs.escapes.byte_rest.Goals as goal

pub returns-then-hex_front-clause-found : goal.returns-then-hex_front-clause-found
returns-then-hex_front-clause-found c = byte_found c.args.rest.now (sym c.hex_front.ensures ∙ c.if-hex_front.true)

pub returns-else-hex_front-clause-none : goal.returns-else-hex_front-clause-none
returns-else-hex_front-clause-none c = byte_lacks c.args.rest.now (sym c.hex_front.ensures ∙ c.if-hex_front.false)

use Rattle.std.proofs.Common.{arith, ◌∙◌, ◌<◌, length}
use Rattle.std.proofs.lemmas.Option.{slice_get-get_or}
use Rattle.tb_parse_type.proofs.Tokens.{symbol_here}
use Rattle.tb_parse_type.proofs.reader.Reader.symbol.Goals as goal

pub returns : goal.returns
returns c =
    let tokens = c.args.self.now.tokens.now in
    let within : c.args.at < length tokens = omega (arith, c.if-at-count.false) in (
      within,
      omega (arith, within),
      symbol_here c.args.self.now.text.now tokens c.args.at _ c.symbol_of.result c.as_bytes.result.now (slice_get-get_or tokens c.args.at _ within) (c.as_bytes.ensures.value ∙ c.spelled.ensures)
          c.symbol_of.ensures,
    )

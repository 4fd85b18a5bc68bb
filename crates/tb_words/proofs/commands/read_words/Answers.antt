use Rattle.std.proofs.Common.{map}
use Rattle.std.specs.Prelude.{string_bytes}
use Rattle.std.proofs.lemmas.Result.{err_from_is_err_and}
use Rattle.tb_words.specs.Readings.{seen}
use Rattle.tb_words.proofs.Checks.{not_read, was_read}
use Rattle.tb_words.proofs.commands.read_words.Goals as goal

pub returns-in_err-given : goal.returns-in_err-given
returns-in_err-given c =
    let p = err_from_is_err_and c.from_residual.result c.from_residual.ensures.1 in
    rw (p.1, p.2) (not_read (map (λ word. string_bytes word) c.args.words.now) _ c.in_err-given.ensures)

pub returns : goal.returns
returns c = was_read (map (λ word. string_bytes word) c.args.words.now) (seen c.in_ok-given.given) c.command_from.result c.in_ok-given.ensures c.command_from.ensures

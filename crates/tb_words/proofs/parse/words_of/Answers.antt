use Rattle.std.proofs.Common.{map}
use Rattle.std.specs.Prelude.{string_bytes}
use Rattle.std.proofs.lemmas.Result.{err_from_is_err_and}
use Rattle.clap.specs.Matches.{found_of}
use Rattle.clap.specs.Walk.{rows_of}
use Rattle.tb_words.proofs.Matches.{reads, refuses}
use Rattle.tb_words.proofs.parse.words_of.Goals as goal

pub returns-in_err-command : goal.returns-in_err-command
returns-in_err-command c =
    let p = err_from_is_err_and c.from_residual.result c.from_residual.ensures.1 in
    rw (p.1, p.2) tt

pub returns-in_err-words-in-Ok : goal.returns-in_err-words-in-Ok
returns-in_err-words-in-Ok c =
    let p = err_from_is_err_and c.from_residual-in_err-words-in-Ok.result c.from_residual-in_err-words-in-Ok.ensures.1 in
    rw (p.1, p.2) tt

pub returns-in_ok-words-in-Ok : goal.returns-in_ok-words-in-Ok
returns-in_ok-words-in-Ok c =
    reads _ (map (λ word. string_bytes word) c.args.words.now) (rows_of (found_of c.in-Ok.matches)) _ _ c.in_ok-command.ensures c.in-Ok.ensures.kinds c.in-Ok.ensures.matches c.in_ok-words-in-Ok.ensures

pub returns-in-Err : goal.returns-in-Err
returns-in-Err c =
    rw (c.refusal.ensures, c.kind.ensures) (refuses _ (map (λ word. string_bytes word) c.args.words.now) c.in-Err.error.kind c.in_ok-command.ensures c.in-Err.ensures.kinds)

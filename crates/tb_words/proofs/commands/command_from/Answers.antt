use Rattle.std.proofs.Common.{ℕ, List, map, ap, sym, subst, ◌∙◌}
use Rattle.std.specs.Prelude.{Err}
use Rattle.std.specs.Borrow.{Bor}
use Rattle.std.proofs.lemmas.Result.{err_from_is_err_and}
use Rattle.tb_words.specs.Answers.{Gives}
use Rattle.tb_words.specs.Commands.{roots_by}
use Rattle.tb_words.specs.Readings.{seen}
use Rattle.tb_words.proofs.Checks.{bad_workers, bad_turns, bad_generator, bad_pairs, bad_roots, all_checked}
use Rattle.tb_words.proofs.commands.command_from.Goals as goal

pub returns-in_err-workers : goal.returns-in_err-workers
returns-in_err-workers c =
    let p = err_from_is_err_and c.from_residual.result c.from_residual.ensures.1 in
    rw (p.1, p.2) (bad_workers (seen c.args.given.now) _ c.in_err-workers.ensures)

pub returns-in_err-turns : goal.returns-in_err-turns
returns-in_err-turns c =
    let p = err_from_is_err_and c.from_residual-in_err-turns.result c.from_residual-in_err-turns.ensures.1 in
    rw (p.1, p.2) (bad_turns (seen c.args.given.now) _ _ c.in_ok-workers.ensures c.in_err-turns.ensures)

pub returns-in_err-gen_number : goal.returns-in_err-gen_number
returns-in_err-gen_number c =
    let p = err_from_is_err_and c.from_residual-in_err-gen_number.result c.from_residual-in_err-gen_number.ensures.1 in
    rw (p.1, p.2) (bad_generator (seen c.args.given.now) _ _ _ c.in_ok-workers.ensures c.in_ok-turns.ensures c.in_err-gen_number.ensures)

pub returns-in_err-check_pairs : goal.returns-in_err-check_pairs
returns-in_err-check_pairs c =
    let p = err_from_is_err_and c.from_residual-in_err-check_pairs.result c.from_residual-in_err-check_pairs.ensures.1 in
    rw (p.1, p.2) (bad_pairs (seen c.args.given.now) _ _ _ _ c.in_ok-workers.ensures c.in_ok-turns.ensures c.in_ok-gen_number.ensures c.in_err-check_pairs.ensures)

pub returns-in_err-roots : goal.returns-in_err-roots
returns-in_err-roots c =
    let p = err_from_is_err_and c.from_residual-in_err-roots.result c.from_residual-in_err-roots.ensures.1 in
    rw (p.1, p.2) (bad_roots (seen c.args.given.now) _ _ _ _ c.in_ok-workers.ensures c.in_ok-turns.ensures c.in_ok-gen_number.ensures c.in_ok-check_pairs.ensures
    (subst (λ (xs : List (Bor (List ℕ))). Gives (roots_by c.in_ok-gen_number.gen_number (map (λ (word : Bor (List ℕ)). word.now) xs)) (Err c.in_err-roots.field-0.0)) c.as_slice.ensures.value c.in_err-roots.ensures))

pub returns : goal.returns
returns c =
    rw (c.unwrap_or.ensures, c.from.ensures, c.unwrap_or-2.ensures) (all_checked (seen c.args.given.now) _ _ _ _ c.in_ok-workers.ensures c.in_ok-turns.ensures c.in_ok-gen_number.ensures c.in_ok-check_pairs.ensures
    (ap (λ (xs : List (Bor (List ℕ))). roots_by c.in_ok-gen_number.gen_number (map (λ (word : Bor (List ℕ)). word.now) xs)) (sym c.as_slice.ensures.value) ∙ c.in_ok-roots.ensures))

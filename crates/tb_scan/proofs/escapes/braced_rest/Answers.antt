use Rattle.std.proofs.Common.{◌≡◌, drop, sym, ap, subst, ◌∙◌, true, false, arith}
use Rattle.std.specs.List.{prefix_len}
use Rattle.std.proofs.lemmas.List.Sums.{prefix_len-le-length}
use Rattle.tb_scan.specs.Characters.{is_digit}
use Rattle.tb_scan.proofs.TestLemmas.{rest_is}
use Rattle.tb_scan.proofs.EscapeLemmas.{braced_found, braced_lacks, is_braced}
use Rattle.tb_scan.proofs.escapes.braced_rest.Goals as goal

pub is_closed-requires : goal.is_closed-requires
is_closed-requires c = c.digits_len-count.ensures.bound

pub returns-then-is_closed-clause-found : goal.returns-then-is_closed-clause-found
returns-then-is_closed-clause-found c =
    let text = c.args.rest.now in
    let n = c.digits_len-count.result in
    let closed : is_braced (drop 1 text) n ≡ true = subst (λ x. is_braced x n ≡ true) (rest_is 1 text) (sym c.is_closed.ensures ∙ c.if-is_closed.true) in
    let count : n ≡ prefix_len (is_digit 16) (drop 1 text) = c.digits_len-count.ensures.value ∙ ap (λ x. prefix_len (is_digit 16) x) (rest_is 1 text) in
    braced_found text n c.requires (omega (arith, count, prefix_len-le-length (is_digit 16) (drop 1 text))) closed

pub returns-else-is_closed-clause-none : goal.returns-else-is_closed-clause-none
returns-else-is_closed-clause-none c =
    let text = c.args.rest.now in
    let n = c.digits_len-count.result in
    let closed : is_braced (drop 1 text) n ≡ false = subst (λ x. is_braced x n ≡ false) (rest_is 1 text) (sym c.is_closed.ensures ∙ c.if-is_closed.false) in
    let count : n ≡ prefix_len (is_digit 16) (drop 1 text) = c.digits_len-count.ensures.value ∙ ap (λ x. prefix_len (is_digit 16) x) (rest_is 1 text) in
    braced_lacks text n c.requires count closed

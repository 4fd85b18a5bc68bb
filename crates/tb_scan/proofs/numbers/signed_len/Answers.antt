use Rattle.std.proofs.Common.{◌≡◌, ◌+◌, drop, sym, ap, subst, ◌∙◌, arith}
use Rattle.std.specs.List.{prefix_len}
use Rattle.tb_scan.specs.Characters.{is_digit}
use Rattle.tb_scan.specs.Numbers.{IsLongestFront, IsPower}
use Rattle.tb_scan.proofs.TestLemmas.{rest_is}
use Rattle.tb_scan.proofs.NumberLemmas as n
use Rattle.tb_scan.proofs.numbers.signed_len.Goals as goal

pub returns-else-count-eq0-clause-found : goal.returns-else-count-eq0-clause-found
returns-else-count-eq0-clause-found c =
    let text = c.args.text.now in
    let count : c.digits_len-count.result ≡ prefix_len (is_digit 10) (drop 1 text) = c.digits_len-count.ensures.value ∙ ap (λ x. prefix_len (is_digit 10) x) (rest_is 1 text) in
    subst (λ m. IsLongestFront IsPower text m) (ap (λ m. m + 1) (sym count))
    (n.signed_longest text c.requires (omega (arith, count, c.if-count-eq0.false)))

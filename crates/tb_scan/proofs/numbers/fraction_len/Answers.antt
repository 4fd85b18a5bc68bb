use Rattle.std.proofs.Common.{◌≡◌, ◌+◌, drop, sym, ap, subst, ◌∙◌, arith}
use Rattle.std.specs.List.{prefix_len}
use Rattle.tb_scan.specs.Characters.{is_digit}
use Rattle.tb_scan.specs.Numbers.{IsPart, IsFraction, in_fraction}
use Rattle.tb_scan.proofs.TestLemmas.{rest_is}
use Rattle.tb_scan.proofs.NumberLemmas as n
use Rattle.tb_scan.proofs.numbers.fraction_len.Goals as goal

pub returns-else-count-eq0 : goal.returns-else-count-eq0
returns-else-count-eq0 c =
    let text = c.args.text.now in
    let count : c.digits_len-count.result ≡ prefix_len (is_digit 10) (drop 1 text) = c.digits_len-count.ensures.value ∙ ap (λ x. prefix_len (is_digit 10) x) (rest_is 1 text) in
    subst (λ m. IsPart IsFraction in_fraction text m) (ap (λ m. m + 1) (sym count))
    (n.fraction_more text (sym c.begins.ensures ∙ c.if-not-begins.false) (omega (arith, count, c.if-count-eq0.false)))

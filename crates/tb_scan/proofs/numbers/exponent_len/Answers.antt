use Rattle.std.proofs.Common.{sym, subst, ◌∙◌}
use Rattle.tb_scan.specs.Numbers.{IsLongestFront, IsPower}
use Rattle.tb_scan.proofs.TestLemmas.{rest_is}
use Rattle.tb_scan.proofs.NumberLemmas as n
use Rattle.tb_scan.proofs.numbers.exponent_len.Goals as goal

pub returns-in-Some : goal.returns-in-Some
returns-in-Some c =
    let text = c.args.text.now in
    n.exponent_more text c.in-Some.length (sym c.begins_with_e.ensures ∙ c.if-not-begins_with_e.false) (subst (λ x. IsLongestFront IsPower x c.in-Some.length) (rest_is 1 text) c.in-Some.ensures.found)

use Rattle.std.proofs.Common.{subst}
use Rattle.tb_scan.specs.Numbers.{IsPart, IsExponent, any}
use Rattle.tb_scan.proofs.TestLemmas.{rest_is}
use Rattle.tb_scan.proofs.NumberLemmas as n
use Rattle.tb_scan.proofs.numbers.tail_len.Goals as goal

pub returns : goal.returns
returns c =
    let text = c.args.text.now in
    n.tail_part text c.fraction_len-fraction.result c.exponent_len-exponent.result c.fraction_len-fraction.ensures
    (subst (λ x. IsPart IsExponent any x c.exponent_len-exponent.result) (rest_is c.fraction_len-fraction.result text) c.exponent_len-exponent.ensures)

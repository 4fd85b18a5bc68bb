use Rattle.std.proofs.Common.{subst}
use Rattle.tb_scan.specs.Numbers.{IsPart, IsFraction, IsExponent, Joined, any}
use Rattle.tb_scan.proofs.TestLemmas.{rest_is}
use Rattle.tb_scan.proofs.NumberLemmas as n
use Rattle.tb_scan.proofs.numbers.decimal_len.Goals as goal

pub returns : goal.returns
returns c =
    let text = c.args.text.now in
    n.decimal_part text c.whole_len-whole.result c.tail_len-rest.result c.whole_len-whole.ensures
    (subst (λ x. IsPart (Joined IsFraction IsExponent) any x c.tail_len-rest.result) (rest_is c.whole_len-whole.result text) c.tail_len-rest.ensures)

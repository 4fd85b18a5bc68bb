use Rattle.std.proofs.Common.{sym, subst, arith}
use Rattle.tb_scan.specs.Numbers.{IsLongestFront, IsPower}
use Rattle.tb_scan.proofs.NumberLemmas as n
use Rattle.tb_scan.proofs.numbers.unsigned_len.Goals as goal

pub returns-else-count-eq0-clause-found : goal.returns-else-count-eq0-clause-found
returns-else-count-eq0-clause-found c =
    let text = c.args.text.now in
    subst (λ m. IsLongestFront IsPower text m) (sym c.digits_len-count.ensures.value)
    (n.unsigned_longest text c.requires (omega (arith, c.digits_len-count.ensures.value, c.if-count-eq0.false)))

use Rattle.std.proofs.Common.{sym, subst, ◌∙◌}
use Rattle.tb_scan.specs.Characters.{is_digit}
use Rattle.tb_scan.specs.Numbers.{IsPart, IsWhole}
use Rattle.tb_scan.proofs.NumberLemmas as n
use Rattle.tb_scan.proofs.numbers.whole_len.Goals as goal

pub returns-else-begins : goal.returns-else-begins
returns-else-begins c =
    let text = c.args.text.now in
    subst (λ m. IsPart IsWhole (is_digit 10) text m) (sym c.digits_len.ensures.value)
    (n.whole_more text (n.some_digit 10 text c.requires) (sym c.begins.ensures ∙ c.if-begins.false))

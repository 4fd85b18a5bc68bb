use Rattle.std.proofs.Common.{◌∙◌, sym, ap, arith}
use Rattle.tb_words.specs.Numbers.{is_number}
use Rattle.tb_words.proofs.Digits.{too_big}
use Rattle.tb_words.proofs.numbers.number_in.Goals as goal

pub returns-in_default-3 : goal.returns-in_default-3
returns-in_default-3 c =
    too_big c.args.least c.args.most c.args.text.now c.in_default.field-0 (omega arith) (ap is_number (sym c.as_bytes.ensures.value) ∙ sym c.if-is_number.ensures) c.in_default.ensures.value.0

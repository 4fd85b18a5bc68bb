use Rattle.tb_scan.proofs.NumberLemmas as n
use Rattle.tb_scan.proofs.numbers.number_len.Goals as goal

pub returns-in-Some : goal.returns-in-Some
returns-in-Some c = n.number_based c.args.text.now c.in-Some.length c.in-Some.ensures.found

pub returns-in-None : goal.returns-in-None
returns-in-None c = n.number_decimal c.args.text.now c.decimal_len.result c.decimal_len.ensures c.in-None.ensures.none

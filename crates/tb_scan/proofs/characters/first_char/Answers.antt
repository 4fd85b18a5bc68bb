use Rattle.tb_scan.proofs.Texts.{first_of, first_cut}
use Rattle.tb_scan.proofs.characters.first_char.Goals as goal

pub returns-clause-value : goal.returns-clause-value
returns-clause-value c = first_of c.next.result c.chars.result c.next.new.self c.args.text.now c.chars.ensures.rest c.next.ensures.steps

pub returns-clause-boundary : goal.returns-clause-boundary
returns-clause-boundary c = first_cut c.next.result c.chars.result c.next.new.self c.args.text.now c.chars.ensures.rest c.utf8.text c.next.ensures.steps

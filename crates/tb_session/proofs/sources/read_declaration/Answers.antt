use Rattle.tb_session.specs.Sources.{Faulty, ReadsAs}
use Rattle.tb_session.proofs.Reading.{no_declaration}
use Rattle.tb_session.proofs.sources.read_declaration.Goals as goal

pub returns-in-Ok-clause-none : goal.returns-in-Ok-clause-none
returns-in-Ok-clause-none c none reading is = no_declaration c.args.root.now c.args.path.now c.args.text.now reading c.requires c.in-Ok.ensures.fault is

pub returns-in-Err-Syntax-clause-found : goal.returns-in-Err-Syntax-clause-found
returns-in-Err-Syntax-clause-found c =
    (Faulty c.in-Err-Syntax.finding, ReadsAs.faulty_declaration c.requires (rw c.in-Err-Syntax.field-0-is at c.in-Err-Syntax.ensures.answers), (let e = c.in-Err-Syntax.finding-is in cc))

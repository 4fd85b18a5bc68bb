use Rattle.tb_session.specs.Sources.{Faulty, ReadsAs}
use Rattle.tb_session.proofs.sources.read_source.Goals as goal

pub returns-in-Err-Syntax-clause-found : goal.returns-in-Err-Syntax-clause-found
returns-in-Err-Syntax-clause-found c =
    (Faulty c.in-Err-Syntax.finding, ReadsAs.faulty c.requires (rw c.in-Err-Syntax.field-0-is at c.in-Err-Syntax.ensures.answers), (let e = c.in-Err-Syntax.finding-is in cc))

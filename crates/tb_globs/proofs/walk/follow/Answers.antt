use Rattle.std.proofs.Common.{◌∙◌, arith}
use Rattle.tb_text.specs.Walks.{texts}
use Rattle.tb_globs.proofs.Ends.{reached}
use Rattle.tb_globs.proofs.walk.follow.Goals as goal

pub returns : goal.returns
returns c = c.answer.ensures.at 0 (omega arith) ∙ reached c.args.usage c.args.parts.now (texts c.args.segments.now)

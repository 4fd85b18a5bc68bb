use Rattle.std.proofs.Common.{◌∙◌, arith}
use Rattle.tb_text.proofs.Segments.{inside_from_goes_on}
use Rattle.tb_text.proofs.folders.is_below.Goals as goal

pub returns-in-len1-up : goal.returns-in-len1-up
returns-in-len1-up c = c.goes_on.ensures ∙ inside_from_goes_on c.args.folder.now c.args.path.now (omega arith)

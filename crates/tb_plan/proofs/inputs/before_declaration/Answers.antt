use Rattle.std.proofs.Common.{codes}
use Rattle.tb_face.proofs.Endings.{before_ending_is}
use Rattle.tb_plan.proofs.inputs.before_declaration.Goals as goal

pub returns : goal.returns
returns c = before_ending_is (codes ".d.ts") c.args.path.now c.strip_suffix.result c.strip_suffix.ensures.cases

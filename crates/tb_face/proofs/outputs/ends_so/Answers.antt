use Rattle.std.proofs.lemmas.Str.Pattern.{ends_text}
use Rattle.tb_face.proofs.outputs.ends_so.Goals as goal

pub returns : goal.returns
returns c = ends_text c.ends_with.result c.args.ending.now c.args.text.now c.ends_with.ensures.cases

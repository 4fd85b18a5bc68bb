use Rattle.std.proofs.Common.{ap, ◌∙◌}
use Rattle.std.specs.FinMap as map
use Rattle.tb_memory.proofs.Maps.{get_set, on_map}
use Rattle.tb_memory.proofs.files.write_text.Goals as goal

pub returns-clause-ok : goal.returns-clause-ok
returns-clause-ok c = on_map c.insert.result _ _ (λ is q. ap (λ m. map.get m q) is ∙ get_set c.args.files.now c.args.path c.args.text q) c.insert.ensures.ok
